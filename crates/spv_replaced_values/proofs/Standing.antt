-- What stands in for a value has its type, and is the value itself where rules read more.
use Rattle.std.proofs.Common.{◌≡◌, ℕ, zero, suc, Bool, true, false, cond, ◌==◌, ◌&&◌, ◌||◌, not, nat_eq, List, [], ◌∷◌, length, drop, Option, Some, None, refl, sym, ap, ap₂, subst, ◌∙◌, true≢false, eqb-true, arith}
use Rattle.std.proofs.lemmas.Bool.Decides.{nat_tests}
use Rattle.std.specs.List.{list_all, list_any, position, slice_get, slice_index}
use Rattle.std.specs.Option.{is_some, option_and_then, option_map_or}
use Rattle.spv_opcodes.specs.declared.op.TheConstants as op
use Rattle.spv_grammar.specs.Fronts.{has_result_type}
use Rattle.spv_grammar.specs.Roles.{is_type_id}
use Rattle.spv_grammar.specs.Table.{row_of}
use Rattle.spv_grammar.proofs.FrontParts.{typed_where_row_has_result_type}
use Rattle.spv_module.specs.Instruction.{Instruction, opcode, roles, word_with}
use Rattle.spv_ids.specs.Ids.{definition, kind}
use Rattle.spv_ids.proofs.Places.{any-position}
use Rattle.spv_typing.specs.Kinds.{is_constant, is_one_of}
use Rattle.spv_typing.specs.Operations.{has_shape, shape}
use Rattle.spv_values.specs.Values.{given_type, is_bools, is_ints, as_pointer, is_pointer_value, is_value_of, pointer_type, value_shape, value_type}
use Rattle.spv_arithmetic.specs.Operands.{have_one_type}
use Rattle.spv_meaning.specs.Constants.{IsConstant, Meaning, meaning}
use Rattle.spv_meaning.specs.Meanings.{constant_words}
use Rattle.spv_declarations.specs.Laws.{IsUnbroken, meanings}
use Rattle.spv_declarations.proofs.Modules.{only_constants_stand}
use Rattle.spv_types.specs.Lookup.{kind_in, known_word, specialised, word_in}
use Rattle.spv_usage.specs.Orderings.{known_integer}
use Rattle.spv_signatures.specs.Functions.{names_function}
use Rattle.spv_alike.proofs.Lengths.{defined_of}
use Rattle.spv_alike.proofs.Lookups.{and_left, and_right}
use Rattle.spv_replaced_values.specs.Replaced.{is_read, stands_in}
use Rattle.spv_replaced_values.specs.Laws.{FitsAlike}

itself : (k : ℕ) → (k == k) ≡ true
itself k = grind (arith, nat_tests)

or_true : (a b : Bool) → a ≡ true → (a || b) ≡ true
or_true true b e = refl
or_true false b e = absurd (true≢false (sym e))

or_right : (a b : Bool) → b ≡ true → (a || b) ≡ true
or_right true b e = refl
or_right false b e = e

not_true : (a : Bool) → not a ≡ true → a ≡ false
not_true true e = sym e
not_true false e = refl

module _ (insts : List Instruction) where
  abbrev pub Near : (x y : ℕ) → Type 0
  Near x y = stands_in insts x y ≡ true

  pub near_itself : (x : ℕ) → Near x x
  near_itself x = or_true (x == x) (not (is_read insts x) && have_one_type insts x x) (itself x)

  pub near_same : (x y : ℕ) → y ≡ x → Near x y
  near_same x y e = subst (λ (n : ℕ). Near x n) (sym e) (near_itself x)

  -- of another value: its type, which is all that is read of the first one
  record Another (x y : ℕ) : Type 0 where
    type : ℕ
    unread : is_read insts x ≡ false
    is : value_type insts x ≡ Some type
    other : value_type insts y ≡ Some type

  one_type : (y : ℕ) (o : Option ℕ) → option_map_or (λ t. is_value_of insts t y) o false ≡ true → (t : ℕ) × (o ≡ Some t) × (value_type insts y ≡ Some t)
  one_type y None h = absurd (true≢false (sym h))
  one_type y (Some t) h = (t, refl, by (value_type insts y) h)
    where
      by : (o : Option ℕ) → option_map_or (nat_eq t) o false ≡ true → o ≡ Some t
      by None e = absurd (true≢false (sym e))
      by (Some u) e = ap Some (sym (eqb-true t u e))

  by_near : {A : Type 0} (x y : ℕ) → Near x y → (y ≡ x → A) → (Another x y → A) → A
  by_near {A} x y h same other = by (y == x) refl h
    where
      by : (b : Bool) → (y == x) ≡ b → (b || (not (is_read insts x) && have_one_type insts x y)) ≡ true → A
      by true e k = same (eqb-true y x e)
      by false e k =
          let t = one_type y (value_type insts x) (and_right (not (is_read insts x)) (have_one_type insts x y) k) in
          other (record {
            type = t.0;
            unread = not_true (is_read insts x) (and_left (not (is_read insts x)) (have_one_type insts x y) k);
            is = t.1;
            other = t.2;
          })

  pub same_type : (x y : ℕ) → Near x y → value_type insts y ≡ value_type insts x
  same_type x y h = by_near x y h (λ e. ap (value_type insts) e) (λ a. a.other ∙ sym a.is)

  -- what is read, and what is no value, stays
  read_stays : (x y : ℕ) → is_read insts x ≡ true → Near x y → y ≡ x
  read_stays x y read h = by_near x y h (λ e. e) (λ a. absurd (true≢false (sym read ∙ a.unread)))

  pub constant_stays : (x y : ℕ) → is_constant insts x ≡ true → Near x y → y ≡ x
  constant_stays x y constant h =
      read_stays x y (or_true (is_constant insts x) (is_pointer_value insts x && is_one_of (op.VARIABLE ∷ op.FUNCTION_PARAMETER ∷ []) (kind insts x)) constant) h

  pub pointer_stays : (x y : ℕ) → is_pointer_value insts x ≡ true → is_one_of (op.VARIABLE ∷ op.FUNCTION_PARAMETER ∷ []) (kind insts x) ≡ true → Near x y → y ≡ x
  pointer_stays x y pointer passed h =
      read_stays x y (or_right (is_constant insts x) (is_pointer_value insts x && is_one_of (op.VARIABLE ∷ op.FUNCTION_PARAMETER ∷ []) (kind insts x))
      (ap₂ (λ (a b : Bool). a && b) pointer passed)) h

  pub no_value_stays : (x y : ℕ) → value_type insts x ≡ None → Near x y → y ≡ x
  no_value_stays x y none h = by_near x y h (λ e. e) (λ a. absurd (cc (sym none ∙ a.is)))

  -- ---- functions

  function_none : (d : Option Instruction) → (option_map_or opcode d 0 == op.FUNCTION) ≡ true → option_and_then given_type d ≡ None
  function_none None h = refl
  function_none (Some i) h = ap (λ (b : Bool). cond b None (word_with is_type_id i)) h

  function_is_no_value : (x : ℕ) → names_function insts x ≡ true → value_type insts x ≡ None
  function_is_no_value x = function_none (definition insts x)

  pub function_stays : (x y : ℕ) → names_function insts x ≡ true → Near x y → y ≡ x
  function_stays x y is h = no_value_stays x y (function_is_no_value x is) h

  value_no_function : (x t : ℕ) → value_type insts x ≡ Some t → names_function insts x ≡ false
  value_no_function x t e = by (names_function insts x) refl
    where
      none : Option ℕ
      none = None

      by : (b : Bool) → names_function insts x ≡ b → names_function insts x ≡ false
      by false is = is
      by true is = absurd (cc (sym (function_is_no_value x is) ∙ e))

  pub same_names : (x y : ℕ) → Near x y → names_function insts y ≡ names_function insts x
  same_names x y h = by_near x y h (λ e. ap (names_function insts) e) (λ a. value_no_function y a.type a.other ∙ sym (value_no_function x a.type a.is))

  -- ---- sets of extended instructions

  given_some : (b : Bool) (o : Option ℕ) (u : ℕ) → cond b None o ≡ Some u → o ≡ Some u
  given_some true o u h = absurd (cc h)
  given_some false o u h = h

  place_some : (words : List ℕ) (place : Option ℕ) (w : ℕ) → option_and_then (slice_get words) place ≡ Some w → is_some place ≡ true
  place_some words None w h = absurd (cc h)
  place_some words (Some p) w h = refl

  set_untyped : has_result_type op.EXT_INST_IMPORT ≡ false
  unfolding row_of
  set_untyped = refl

  set_is_no_value : IsUnbroken insts → (x : ℕ) → (kind insts x == op.EXT_INST_IMPORT) ≡ true → value_type insts x ≡ None
  set_is_no_value h x is = by (value_type insts x) refl
    where
      by : (o : Option ℕ) → value_type insts x ≡ o → value_type insts x ≡ None
      by None e = e
      by (Some u) e =
          let d = defined_of insts x op.EXT_INST_IMPORT refl is in
          let o : opcode d.inst ≡ op.EXT_INST_IMPORT =
          sym (ap (λ (d : Option Instruction). option_map_or opcode d 0) d.is) ∙ eqb-true (kind insts x) op.EXT_INST_IMPORT is in
          let given : given_type d.inst ≡ Some u = sym (ap (option_and_then given_type) d.is) ∙ e in
          let type : word_with is_type_id d.inst ≡ Some u = given_some (opcode d.inst == op.FUNCTION) (word_with is_type_id d.inst) u given in
          let any : list_any is_type_id (roles d.inst) ≡ true =
          any-position is_type_id (roles d.inst) ∙ place_some d.inst.words (position is_type_id (roles d.inst)) u type in
          let has : list_any is_type_id (roles d.inst) ≡ has_result_type op.EXT_INST_IMPORT =
          typed_where_row_has_result_type op.EXT_INST_IMPORT d.inst.words (roles d.inst) o (h.whole d.at d.inst d.is_at).parted in
          absurd (true≢false (sym any ∙ has ∙ set_untyped))

  pub set_stays : IsUnbroken insts → (x y : ℕ) → (kind insts x == op.EXT_INST_IMPORT) ≡ true → Near x y → y ≡ x
  set_stays u x y is h = no_value_stays x y (set_is_no_value u x is) h

  -- ---- constants that are Known

  unknown : (specialised : Bool) → word_in (kind_in specialised None) None 0 ≡ None
  unknown specialised = refl

  known_constant : IsUnbroken insts → (x w : ℕ) → known_word insts x 0 ≡ Some w → is_constant insts x ≡ true
  known_constant u x w h = by (meaning (meanings insts) x) refl
    where
      none : (m : Option Meaning) → meaning (meanings insts) x ≡ m → constant_words m ≡ None → is_constant insts x ≡ true
      none m e f =
          absurd (cc (sym (unknown (is_one_of (specialised insts) x))
          ∙ sym (ap (λ (o : Option (List ℕ)). word_in (kind_in (is_one_of (specialised insts) x) o) o 0) (ap constant_words e ∙ f)) ∙ h))

      by : (m : Option Meaning) → meaning (meanings insts) x ≡ m → is_constant insts x ≡ true
      by None e = none None e refl
      by (Some (IsConstant t words)) e = only_constants_stand insts x t words u e
      by (Some m) e = none (Some m) e refl

  pub known_stays : IsUnbroken insts → (x y w : ℕ) → known_integer insts x ≡ Some w → Near x y → y ≡ x
  unfolding known_integer
  known_stays u x y w h near = by (is_ints insts 1 x) h
    where
      by : (b : Bool) → cond b (known_word insts x 0) None ≡ Some w → y ≡ x
      by true e = constant_stays x y (known_constant u x w e) near
      by false e = absurd (cc e)

  -- ---- what is read of types

  pub same_value_of : (t x y : ℕ) → Near x y → is_value_of insts t y ≡ is_value_of insts t x
  same_value_of t x y h = ap (λ (o : Option ℕ). option_map_or (nat_eq t) o false) (same_type x y h)

  pub same_shape : (x y : ℕ) → Near x y → value_shape insts y ≡ value_shape insts x
  same_shape x y h = ap (option_and_then (shape insts)) (same_type x y h)

  pub same_ints : (count x y : ℕ) → Near x y → is_ints insts count y ≡ is_ints insts count x
  same_ints count x y h = ap (has_shape false count) (same_shape x y h)

  pub same_bools : (count x y : ℕ) → Near x y → is_bools insts count y ≡ is_bools insts count x
  same_bools count x y h = ap (has_shape true count) (same_shape x y h)

  pub same_pointer : (x y : ℕ) → Near x y → pointer_type insts y ≡ pointer_type insts x
  same_pointer x y h = ap (λ (o : Option ℕ). option_and_then (as_pointer insts) o) (same_type x y h)

  pub fits_alike : (x y : ℕ) → Near x y → FitsAlike insts x y
  fits_alike x y h = record {
    type = same_type x y h;
    carried = λ t. same_value_of t x y h;
    condition = same_bools 1 x y h;
    selector = same_ints 1 x y h;
  }

  -- ---- lists of words

  abbrev pub NearAll : (xs ys : List ℕ) → Type 0
  NearAll [] [] = Unit {0}
  NearAll (x ∷ xs) (y ∷ ys) = Near x y × NearAll xs ys
  NearAll xs ys = ⊥

  -- what stands in for a list that has a first word, and for an empty one
  pub record Cut (x : ℕ) (xs ys : List ℕ) : Type 0 where
    pub word : ℕ
    pub more : List ℕ
    pub is : ys ≡ word ∷ more
    pub near : Near x word
    pub rest : NearAll xs more

  pub cut : (x : ℕ) (xs ys : List ℕ) → NearAll (x ∷ xs) ys → Cut x xs ys
  cut x xs [] h = absurd h
  cut x xs (y ∷ ys) h = record { word = y; more = ys; is = refl; near = h.0; rest = h.1 }

  pub none : (ys : List ℕ) → NearAll [] ys → ys ≡ []
  none [] h = refl
  none (y ∷ ys) h = absurd h

  -- induction on the words
  pub near_length : (xs ys : List ℕ) → NearAll xs ys → length ys ≡ length xs
  near_length [] ys h = ap (λ (ys : List ℕ). length ys) (none ys h)
  near_length (x ∷ xs) [] h = absurd h
  near_length (x ∷ xs) (y ∷ ys) h = ap suc (near_length xs ys h.1)

  pub near_drop : (k : ℕ) (xs ys : List ℕ) → NearAll xs ys → NearAll (drop k xs) (drop k ys)
  near_drop zero xs ys h = h
  near_drop (suc k) [] [] h = tt
  near_drop (suc k) [] (y ∷ ys) h = absurd h
  near_drop (suc k) (x ∷ xs) [] h = absurd h
  near_drop (suc k) (x ∷ xs) (y ∷ ys) h = near_drop k xs ys h.1

  pub near_at : (k : ℕ) (xs ys : List ℕ) → NearAll xs ys → Near (slice_index xs k) (slice_index ys k)
  near_at k [] ys h = subst (λ (ys : List ℕ). Near (slice_index [] k) (slice_index ys k)) (sym (none ys h)) (near_itself (slice_index [] k))
  near_at k (x ∷ xs) [] h = absurd h
  near_at zero (x ∷ xs) (y ∷ ys) h = h.0
  near_at (suc k) (x ∷ xs) (y ∷ ys) h = near_at k xs ys h.1

  -- what is asked of all of them
  pub same_all : (f : ℕ → Bool) → ((x y : ℕ) → Near x y → f y ≡ f x) → (xs ys : List ℕ) → NearAll xs ys → list_all f ys ≡ list_all f xs
  same_all f h [] ys n = ap (list_all f) (none ys n)
  same_all f h (x ∷ xs) [] n = absurd n
  same_all f h (x ∷ xs) (y ∷ ys) n = ap₂ (λ (a b : Bool). a && b) (h x y n.0) (same_all f h xs ys n.1)
