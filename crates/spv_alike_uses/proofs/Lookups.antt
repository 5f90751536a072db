-- What modules that are alike say of an id that has not gone: the same, but for the opcodes and words of ids that are not firm. So each test and lookup
-- that asks for firm ids gives the same in both, and what is found by it has not gone either.
use Rattle.std.proofs.Common.{◌≡◌, ℕ, zero, suc, Bool, true, false, cond, ◌==◌, ◌&&◌, ◌||◌, not, nat_eq, nat_lt, List, [], ◌∷◌, length, drop, Option, Some, None, refl, sym, ap, ap₂, subst, ◌∙◌, true≢false, eqb-true, arith}
use Rattle.std.proofs.Math.Path.{fun_ext}
use Rattle.std.proofs.lemmas.Bool.Decides.{nat_tests}
use Rattle.std.specs.List.{AllByRecursion, list_all, list_any, slice_get, slice_index}
use Rattle.std.specs.Option.{is_some, option_and_then, option_map, option_map_or}
use Rattle.spv_opcodes.specs.declared.op.TheConstants as op
use Rattle.spv_grammar.specs.Operands.{opcode_of}
use Rattle.spv_grammar.specs.Table.{row_of}
use Rattle.spv_grammar.specs.declared.kind.Role.{Role}
use Rattle.spv_module.specs.Instruction.{Instruction, opcode, roles}
use Rattle.spv_ids.specs.Ids.{definition, kind, word_of, words_of, used_ids}
use Rattle.spv_typing.specs.declared.shapes.Shape.{Shape}
use Rattle.spv_typing.specs.Kinds.{is_one_of, is_void, is_bool, is_int, is_vector, is_array, is_runtime_array, is_struct, is_pointer, component, component_count}
use Rattle.spv_typing.specs.Kinds.{element, length_id, members, pointer_class, pointee, data_types, is_data, last_id, ends_open, is_closed, type_of}
use Rattle.spv_typing.specs.Kinds.{constants, is_outside, is_constant, has_type}
use Rattle.spv_typing.specs.Operations.{of_components, shape, has_shape, part_at, part_behind, part_along, leads_to, literals_lead}
use Rattle.spv_values.specs.Values.{value_type, value_shape, is_value, is_value_of, is_ints, is_bools, pointer_type}
use Rattle.spv_declarations.specs.Laws.{IsUnbroken}
use Rattle.spv_declarations.proofs.Parts.{first_typed, row_test, typed-words, used_in}
use Rattle.spv_decorations.specs.Decorations.{has_decoration}
use Rattle.spv_composites.specs.Memory.{target_of}
use Rattle.spv_alike.proofs.Lookups.{kind_by_words, word_by_words, words_by_words, and_left, and_right}
use Rattle.spv_alike.proofs.Lengths.{Defined, defined_of}
use Rattle.spv_alike_uses.specs.Alike.{firm_kinds, is_firm, AreAlikeBut}
use Rattle.spv_alike_uses.proofs.Used.{word_uses, end_uses, used_word, used_words}

-- ---- behind what is given

pub then_on : {A : Type 0} (f g : ℕ → Option A) (o : Option ℕ) → ((t : ℕ) → o ≡ Some t → f t ≡ g t) → option_and_then f o ≡ option_and_then g o
then_on f g None h = refl
then_on f g (Some t) h = h t refl

pub or_on : {A : Type 0} (f g : ℕ → A) (z : A) (o : Option ℕ) → ((t : ℕ) → o ≡ Some t → f t ≡ g t) → option_map_or f o z ≡ option_map_or g o z
or_on f g z None h = refl
or_on f g z (Some t) h = h t refl

pub behind_on : (f g : ℕ → Option ℕ) (o : Option ℕ) → ((t : ℕ) → o ≡ Some t → f t ≡ g t) → part_behind f o ≡ part_behind g o
behind_on f g None h = refl
behind_on f g (Some t) h = h t refl

pub on : {A : Type 0} (b c : Bool) (x y z w : A) → b ≡ c → (c ≡ true → x ≡ y) → z ≡ w → cond b x z ≡ cond c y w
on b true x y z w e p q = ap (λ (t : Bool). cond t x z) e ∙ p refl
on b false x y z w e p q = ap (λ (t : Bool). cond t x z) e ∙ q

pub and_on : (b c x y : Bool) → b ≡ c → (c ≡ true → x ≡ y) → (b && x) ≡ (c && y)
and_on b true x y e p = ap (λ (t : Bool). t && x) e ∙ p refl
and_on b false x y e p = ap (λ (t : Bool). t && x) e

-- where a test passes
pub where_true : {A : Type 0} (b : Bool) (x y z w : A) → (b ≡ true → x ≡ y) → z ≡ w → cond b x z ≡ cond b y w
where_true true x y z w p q = p refl
where_true false x y z w p q = q

pub and_true : (b x y : Bool) → (b ≡ true → x ≡ y) → (b && x) ≡ (b && y)
and_true true x y p = p refl
and_true false x y p = refl

-- all of some; induction on them
pub all_on : (P : ℕ → Type 0) (f g : ℕ → Bool) → ((id : ℕ) → P id → f id ≡ g id) → (ids : List ℕ) → AllByRecursion P ids → list_all f ids ≡ list_all g ids
all_on P f g h [] all = refl
all_on P f g h (id ∷ ids) all = ap₂ (λ (a b : Bool). a && b) (h id all.0) (all_on P f g h ids all.1)

pub each : (test : ℕ → Bool) (os : List ℕ) → list_all test os ≡ true → (o : ℕ) → is_one_of os o ≡ true → test o ≡ true
each test [] all o h = absurd (true≢false (sym h))
each test (x ∷ xs) all o h = by (nat_eq o x) refl (each test xs (and_right (test x) (list_all test xs) all) o)
  where
    by : (b : Bool) → nat_eq o x ≡ b → (is_one_of xs o ≡ true → test o ≡ true) → test o ≡ true
    by true e rest = ap test (eqb-true o x e) ∙ and_left (test x) (list_all test xs) all
    by false e rest = rest (sym (ap (λ (b : Bool). b || is_one_of xs o) e) ∙ h)

-- ---- the opcode is one of firm ids

abbrev pub asks : (k o : ℕ) → Bool
asks k o = is_one_of firm_kinds o && k == o

and_false : (b : Bool) → (b && false) ≡ false
and_false true = refl
and_false false = refl

none_asked : (k : ℕ) → is_one_of firm_kinds k ≡ false → asks k ≡ (λ o. false)
none_asked k loose = fun_ext (λ o. by o (k == o) refl)
  where
    by : (o : ℕ) (b : Bool) → (k == o) ≡ b → asks k o ≡ false
    by o true e = ap (λ (b : Bool). b && (k == o)) (ap (is_one_of firm_kinds) (sym (eqb-true k o e)) ∙ loose)
    by o false e = ap (λ (b : Bool). is_one_of firm_kinds o && b) e ∙ and_false (is_one_of firm_kinds o)

firm_some : (k : ℕ) → is_one_of firm_kinds k ≡ true → (0 == k) ≡ false
firm_some k h = by (0 == k) refl
  where
    by : (b : Bool) → (0 == k) ≡ b → (0 == k) ≡ false
    by false e = e
    by true e = absurd (true≢false (sym h ∙ ap (is_one_of firm_kinds) (sym (eqb-true 0 k e))))

itself : (k : ℕ) → (k == k) ≡ true
itself k = grind (arith, nat_tests)

-- two modules and what has gone
pub record Case : Type 0 where
  pub gone : ℕ → Bool
  pub before : List Instruction
  pub after : List Instruction
  pub unbroken : IsUnbroken before
  pub alike : AreAlikeBut gone before after

abbrev pub In : Case → ℕ → Type 0
In c id = c.gone id ≡ false

module _ (c : Case) where
  -- an id that is firm: its opcode and its words
  pub same_words : (id : ℕ) → In c id → is_firm c.before id ≡ true → words_of c.after id ≡ words_of c.before id
  same_words id g firm =
      fun_ext (λ k. words_by_words c.after id k ∙ ap (drop k) (c.alike.fixed id g firm) ∙ sym (words_by_words c.before id k))

  pub same_word : (id : ℕ) → In c id → is_firm c.before id ≡ true → word_of c.after id ≡ word_of c.before id
  same_word id g firm =
      fun_ext (λ k. word_by_words c.after id k ∙ ap (λ (ws : List ℕ). slice_index ws k) (c.alike.fixed id g firm) ∙ sym (word_by_words c.before id k))

  same_kind : (id : ℕ) → In c id → is_firm c.before id ≡ true → kind c.after id ≡ kind c.before id
  same_kind id g firm =
      kind_by_words c.after id ∙ ap (λ (ws : List ℕ). opcode_of (slice_index ws 0)) (c.alike.fixed id g firm) ∙ sym (kind_by_words c.before id)

  -- what asks for opcodes of firm ids alone, and gives the same of all others
  pub by_one : {A : Type 0} (f : (ℕ → Bool) → (ℕ → ℕ) → (ℕ → List ℕ) → A) (z : A) → ((w : ℕ → ℕ) (ws : ℕ → List ℕ) → f (λ o. false) w ws ≡ z) → (id : ℕ) → In c id
      → f (asks (kind c.after id)) (word_of c.after id) (words_of c.after id) ≡ f (asks (kind c.before id)) (word_of c.before id) (words_of c.before id)
  by_one f z loose id g = by (is_firm c.before id) refl
    where
      by : (b : Bool) → is_firm c.before id ≡ b
          → f (asks (kind c.after id)) (word_of c.after id) (words_of c.after id) ≡ f (asks (kind c.before id)) (word_of c.before id) (words_of c.before id)
      by true firm =
          ap (λ (k : ℕ). f (asks k) (word_of c.after id) (words_of c.after id)) (same_kind id g firm)
          ∙ ap (λ (w : ℕ → ℕ). f (asks (kind c.before id)) w (words_of c.after id)) (same_word id g firm)
          ∙ ap (f (asks (kind c.before id)) (word_of c.before id)) (same_words id g firm)
      by false h =
          ap (λ (test : ℕ → Bool). f test (word_of c.after id) (words_of c.after id)) (none_asked (kind c.after id) (c.alike.loose id g h))
          ∙ loose (word_of c.after id) (words_of c.after id)
          ∙ sym (loose (word_of c.before id) (words_of c.before id))
          ∙ ap (λ (test : ℕ → Bool). f test (word_of c.before id) (words_of c.before id)) (sym (none_asked (kind c.before id) h))

  pub same_test : (o : ℕ) → is_one_of firm_kinds o ≡ true → (id : ℕ) → In c id → (kind c.after id == o) ≡ (kind c.before id == o)
  same_test o firm id g =
      ap (λ (b : Bool). b && (kind c.after id == o)) (sym firm)
      ∙ by_one (λ test w ws. test o) false (λ w ws. refl) id g
      ∙ ap (λ (b : Bool). b && (kind c.before id == o)) firm

  pub firm_of : (o : ℕ) → is_one_of firm_kinds o ≡ true → (id : ℕ) → (kind c.before id == o) ≡ true → is_firm c.before id ≡ true
  firm_of o firm id h = ap (is_one_of firm_kinds) (eqb-true (kind c.before id) o h) ∙ firm

  -- ---- what the words of firm ids name

  defined : (id : ℕ) → is_firm c.before id ≡ true → Defined c.before id
  defined id firm = defined_of c.before id (kind c.before id) (firm_some (kind c.before id) firm) (itself (kind c.before id))

  kind_is : (id : ℕ) (i : Instruction) → definition c.before id ≡ Some i → kind c.before id ≡ opcode i
  kind_is id i e = ap (λ (d : Option Instruction). option_map_or opcode d 0) e

  firm_word : (k id : ℕ) → In c id → is_firm c.before id ≡ true → word_uses k (kind c.before id) ≡ true → In c (word_of c.before id (suc k))
  firm_word k id g firm h =
      let d = defined id firm in
      subst (λ (d : Option Instruction). In c (option_map_or (λ i. slice_index i.words (suc k)) d 0)) (sym d.is)
      (used_word (In c) d.inst (c.unbroken.whole d.at d.inst d.is_at) (c.alike.taken id g firm d.inst d.is) k
      (ap (word_uses k) (sym (kind_is id d.inst d.is)) ∙ h))

  firm_words : (k id : ℕ) → In c id → is_firm c.before id ≡ true → end_uses k (kind c.before id) ≡ true → AllByRecursion (In c) (words_of c.before id (suc k))
  firm_words k id g firm h =
      let d = defined id firm in
      subst (λ (d : Option Instruction). AllByRecursion (In c) (option_map_or (λ i. drop (suc k) i.words) d [])) (sym d.is)
      (used_words (In c) d.inst (c.unbroken.whole d.at d.inst d.is_at) (c.alike.taken id g firm d.inst d.is) k
      (ap (end_uses k) (sym (kind_is id d.inst d.is)) ∙ h))

  word_stays : (k o : ℕ) → is_one_of firm_kinds o ≡ true → word_uses k o ≡ true → (id : ℕ) → In c id → (kind c.before id == o) ≡ true → In c (word_of c.before id (suc k))
  word_stays k o firm h id g is = firm_word k id g (firm_of o firm id is) (ap (word_uses k) (eqb-true (kind c.before id) o is) ∙ h)

  pub component_stays : (t : ℕ) → In c t → is_vector c.before t ≡ true → In c (component c.before t)
  unfolding row_of
  component_stays = word_stays 1 op.TYPE_VECTOR refl refl

  pub element_stays : (t : ℕ) → In c t → is_array c.before t ≡ true → In c (element c.before t)
  unfolding row_of
  element_stays = word_stays 1 op.TYPE_ARRAY refl refl

  pub open_element_stays : (t : ℕ) → In c t → is_runtime_array c.before t ≡ true → In c (element c.before t)
  unfolding row_of
  open_element_stays = word_stays 1 op.TYPE_RUNTIME_ARRAY refl refl

  pub length_stays : (t : ℕ) → In c t → is_array c.before t ≡ true → In c (length_id c.before t)
  unfolding row_of
  length_stays = word_stays 2 op.TYPE_ARRAY refl refl

  pub pointee_stays : (t : ℕ) → In c t → is_pointer c.before t ≡ true → In c (pointee c.before t)
  unfolding row_of
  pointee_stays = word_stays 2 op.TYPE_POINTER refl refl

  pub members_stay : (t : ℕ) → In c t → is_struct c.before t ≡ true → AllByRecursion (In c) (members c.before t)
  unfolding row_of
  members_stay t g is =
      firm_words 1 t g (firm_of op.TYPE_STRUCT refl t is) (ap (end_uses 1) (eqb-true (kind c.before t) op.TYPE_STRUCT is))

  -- ---- types

  pub same_void : (t : ℕ) → In c t → is_void c.after t ≡ is_void c.before t
  same_void = same_test op.TYPE_VOID refl

  pub same_bool : (t : ℕ) → In c t → is_bool c.after t ≡ is_bool c.before t
  same_bool = same_test op.TYPE_BOOL refl

  pub same_int : (t : ℕ) → In c t → is_int c.after t ≡ is_int c.before t
  same_int = same_test op.TYPE_INT refl

  pub same_vector : (t : ℕ) → In c t → is_vector c.after t ≡ is_vector c.before t
  same_vector = same_test op.TYPE_VECTOR refl

  pub same_array : (t : ℕ) → In c t → is_array c.after t ≡ is_array c.before t
  same_array = same_test op.TYPE_ARRAY refl

  pub same_runtime_array : (t : ℕ) → In c t → is_runtime_array c.after t ≡ is_runtime_array c.before t
  same_runtime_array = same_test op.TYPE_RUNTIME_ARRAY refl

  pub same_struct : (t : ℕ) → In c t → is_struct c.after t ≡ is_struct c.before t
  same_struct = same_test op.TYPE_STRUCT refl

  pub same_pointer : (t : ℕ) → In c t → is_pointer c.after t ≡ is_pointer c.before t
  same_pointer = same_test op.TYPE_POINTER refl

  pub same_data : (t : ℕ) → In c t → is_data c.after t ≡ is_data c.before t
  same_data = by_one (λ test w ws. list_any test data_types) false (λ w ws. refl)

  -- the words of a type, where it is one
  pub word_at : (o k : ℕ) → is_one_of firm_kinds o ≡ true → (t : ℕ) → In c t → (kind c.before t == o) ≡ true → word_of c.after t k ≡ word_of c.before t k
  word_at o k firm t g h = ap (λ (w : ℕ → ℕ). w k) (same_word t g (firm_of o firm t h))

  pub same_component : (t : ℕ) → In c t → is_vector c.before t ≡ true → component c.after t ≡ component c.before t
  same_component = word_at op.TYPE_VECTOR 2 refl

  pub same_component_count : (t : ℕ) → In c t → is_vector c.before t ≡ true → component_count c.after t ≡ component_count c.before t
  same_component_count = word_at op.TYPE_VECTOR 3 refl

  pub same_element : (t : ℕ) → In c t → is_array c.before t ≡ true → element c.after t ≡ element c.before t
  same_element = word_at op.TYPE_ARRAY 2 refl

  pub same_length_id : (t : ℕ) → In c t → is_array c.before t ≡ true → length_id c.after t ≡ length_id c.before t
  same_length_id = word_at op.TYPE_ARRAY 3 refl

  pub same_members : (t : ℕ) → In c t → is_struct c.before t ≡ true → members c.after t ≡ members c.before t
  same_members t g h = ap (λ (ws : ℕ → List ℕ). ws 2) (same_words t g (firm_of op.TYPE_STRUCT refl t h))

  pub same_pointer_class : (t : ℕ) → In c t → is_pointer c.before t ≡ true → pointer_class c.after t ≡ pointer_class c.before t
  same_pointer_class = word_at op.TYPE_POINTER 2 refl

  pub same_pointee : (t : ℕ) → In c t → is_pointer c.before t ≡ true → pointee c.after t ≡ pointee c.before t
  same_pointee = word_at op.TYPE_POINTER 3 refl

  -- the last of some ids, if there is one
  last_on : (f g : ℕ → Bool) → ((id : ℕ) → In c id → f id ≡ g id) → (id : ℕ) (ids : List ℕ) → AllByRecursion (In c) (id ∷ ids) → f (last_id (id ∷ ids)) ≡ g (last_id (id ∷ ids))
  last_on f g h id [] all = h id all.0
  last_on f g h id (x ∷ xs) all = last_on f g h x xs all.1

  last_all : (f g : ℕ → Bool) → ((id : ℕ) → In c id → f id ≡ g id) → (ids : List ℕ) → AllByRecursion (In c) ids → f (last_id ids) ≡ g (last_id ids)
  last_all f g h [] all = h 0 c.alike.zero
  last_all f g h (id ∷ ids) all = last_on f g h id ids all

  pub same_ends_open : (t : ℕ) → In c t → ends_open c.after t ≡ ends_open c.before t
  same_ends_open t g =
      and_on (is_struct c.after t) (is_struct c.before t) _ _ (same_struct t g)
      (λ h. ap (λ (ms : List ℕ). is_runtime_array c.after (last_id ms)) (same_members t g h)
      ∙ last_all (is_runtime_array c.after) (is_runtime_array c.before) same_runtime_array (members c.before t) (members_stay t g h))

  pub same_closed : (t : ℕ) → In c t → is_closed c.after t ≡ is_closed c.before t
  same_closed t g = ap₂ (λ (a b : Bool). a && not b) (same_data t g) (same_ends_open t g)

  -- ---- constants

  pub same_constant : (id : ℕ) → In c id → is_constant c.after id ≡ is_constant c.before id
  same_constant id g =
      ap₂ (λ (a b : Bool). a || b) (by_one (λ test w ws. list_any test constants) false (λ w ws. refl) id g)
      (ap₂ (λ (a b : Bool). a && b) (same_test op.UNDEF refl id g) (c.alike.outside id g))

  constant_kinds : (a b d : Bool) → (a || (b && d)) ≡ true → (b || a) ≡ true
  constant_kinds a true d h = refl
  constant_kinds true false d h = refl
  constant_kinds false false d h = h

  one_constant : (id : ℕ) → is_constant c.before id ≡ true → is_one_of (op.UNDEF ∷ constants) (kind c.before id) ≡ true
  one_constant id h = constant_kinds (is_one_of constants (kind c.before id)) (kind c.before id == op.UNDEF) (is_outside c.before id) h

  pub firm_constant : (id : ℕ) → is_constant c.before id ≡ true → is_firm c.before id ≡ true
  firm_constant id h = each (is_one_of firm_kinds) (op.UNDEF ∷ constants) refl (kind c.before id) (one_constant id h)

  pub same_type_of : (id : ℕ) → In c id → is_constant c.before id ≡ true → type_of c.after id ≡ type_of c.before id
  same_type_of id g h = ap (λ (w : ℕ → ℕ). w 1) (same_word id g (firm_constant id h))

  are_typed : list_all (λ o. row_test first_typed (row_of o)) (op.UNDEF ∷ constants) ≡ true
  unfolding row_of
  are_typed = refl

  pub type_of_stays : (id : ℕ) → In c id → is_constant c.before id ≡ true → In c (type_of c.before id)
  type_of_stays id g h =
      let firm = firm_constant id h in
      let d = defined id firm in
      let typed = each (λ o. row_test first_typed (row_of o)) (op.UNDEF ∷ constants) are_typed (kind c.before id) (one_constant id h) in
      let f = typed-words d.inst (opcode d.inst) (c.unbroken.whole d.at d.inst d.is_at) refl
      (ap (λ (o : ℕ). row_test first_typed (row_of o)) (sym (kind_is id d.inst d.is)) ∙ typed) in
      let all : AllByRecursion (In c) (used_ids d.inst) = c.alike.taken id g firm d.inst d.is in
      subst (λ (x : Option Instruction). In c (option_map_or (λ i. slice_index i.words 1) x 0)) (sym d.is)
      (subst (λ (ws : List ℕ). In c (slice_index ws 1)) (sym f.words_are)
      (subst (λ (rs : List Role). AllByRecursion (In c) (used_in rs (f.word ∷ f.type ∷ f.result ∷ f.rest))) f.parts_are
      (subst (λ (ws : List ℕ). AllByRecursion (In c) (used_in (roles d.inst) ws)) f.words_are all)).0)

  pub same_has_type : (t id : ℕ) → In c id → has_type c.after t id ≡ has_type c.before t id
  same_has_type t id g =
      and_on (is_constant c.after id) (is_constant c.before id) _ _ (same_constant id g) (λ h. ap (λ (u : ℕ). u == t) (same_type_of id g h))

  -- ---- shapes and parts

  same_of_components : (t count : ℕ) → In c t → of_components c.after t count ≡ of_components c.before t count
  same_of_components t count g =
      ap₂ (λ (a b : Bool). cond a (Some (record { is_boolean = true; count = count })) (cond b (Some (record { is_boolean = false; count = count })) none))
      (same_bool t g) (same_int t g)
    where
      none : Option Shape
      none = None

  pub same_shape : (t : ℕ) → In c t → shape c.after t ≡ shape c.before t
  same_shape t g =
      on (is_vector c.after t) (is_vector c.before t) _ _ _ _ (same_vector t g)
      (λ h. ap₂ (of_components c.after) (same_component t g h) (same_component_count t g h)
      ∙ same_of_components (component c.before t) (component_count c.before t) (component_stays t g h))
      (same_of_components t 1 g)

  same_part_at : (t index : ℕ) → In c t → part_at c.after t index ≡ part_at c.before t index
  same_part_at t index =
      by_one (λ test w ws. cond (test op.TYPE_STRUCT) (slice_get (ws 2) index) (cond (test op.TYPE_ARRAY) (Some (w 2))
      (cond (test op.TYPE_VECTOR && nat_lt index (w 3)) (Some (w 2)) None))) None (λ w ws. refl) t

  -- one of some that stay stays; induction on them
  pub get_stays : (ids : List ℕ) (k id : ℕ) → AllByRecursion (In c) ids → slice_get ids k ≡ Some id → In c id
  get_stays [] k id all h = absurd (cc h)
  get_stays (x ∷ xs) zero id all h = let same : x ≡ id = cc h in subst (In c) same all.0
  get_stays (x ∷ xs) (suc k) id all h = get_stays xs k id all.1 h

  pub part_stays : (t index u : ℕ) → In c t → part_at c.before t index ≡ Some u → In c u
  part_stays t index u g h = by (is_struct c.before t) (is_array c.before t) (is_vector c.before t) (nat_lt index (component_count c.before t)) refl refl refl h
    where
      by : (a b d e : Bool) → is_struct c.before t ≡ a → is_array c.before t ≡ b → is_vector c.before t ≡ d
          → cond a (slice_get (members c.before t) index) (cond b (Some (element c.before t)) (cond (d && e) (Some (component c.before t)) None)) ≡ Some u → In c u
      by true b d e ha hb hd h = get_stays (members c.before t) index u (members_stay t g ha) h
      by false true d e ha hb hd h = let same : element c.before t ≡ u = cc h in subst (In c) same (element_stays t g hb)
      by false false true true ha hb hd h = let same : component c.before t ≡ u = cc h in subst (In c) same (component_stays t g hd)
      by false false true false ha hb hd h = absurd (cc h)
      by false false false e ha hb hd h = absurd (cc h)

  -- induction on the literals
  pub same_part_along : (literals : List ℕ) (t : ℕ) → In c t → part_along c.after literals t ≡ part_along c.before literals t
  same_part_along [] t g = refl
  same_part_along (index ∷ rest) t g =
      ap (part_behind (part_along c.after rest)) (same_part_at t index g)
      ∙ behind_on (part_along c.after rest) (part_along c.before rest) (part_at c.before t index) (λ u e. same_part_along rest u (part_stays t index u g e))

  pub same_literals_lead : (literals : List ℕ) (from to : ℕ) → In c from → literals_lead c.after literals from to ≡ literals_lead c.before literals from to
  same_literals_lead literals from to g = ap (λ (o : Option ℕ). nat_lt 0 (length literals) && leads_to to o) (same_part_along literals from g)

  -- ---- values

  -- what is read of the type of a value
  pub then_type : {A : Type 0} (f g : ℕ → Option A) → ((t : ℕ) → In c t → f t ≡ g t) → (id : ℕ) → In c id
      → option_and_then f (value_type c.after id) ≡ option_and_then g (value_type c.before id)
  then_type f g h id s = ap (option_and_then f) (c.alike.values id s) ∙ then_on f g (value_type c.before id) (λ t e. h t (c.alike.types id t s e))

  pub of_type : {A : Type 0} (f g : ℕ → A) (z : A) → ((t : ℕ) → In c t → f t ≡ g t) → (id : ℕ) → In c id
      → option_map_or f (value_type c.after id) z ≡ option_map_or g (value_type c.before id) z
  of_type f g z h id s =
      ap (λ (o : Option ℕ). option_map_or f o z) (c.alike.values id s) ∙ or_on f g z (value_type c.before id) (λ t e. h t (c.alike.types id t s e))

  pub same_value_shape : (id : ℕ) → In c id → value_shape c.after id ≡ value_shape c.before id
  same_value_shape = then_type (shape c.after) (shape c.before) same_shape

  pub same_is_value : (id : ℕ) → In c id → is_value c.after id ≡ is_value c.before id
  same_is_value id g = ap (λ (o : Option ℕ). is_some o) (c.alike.values id g)

  pub same_value_of : (t id : ℕ) → In c id → is_value_of c.after t id ≡ is_value_of c.before t id
  same_value_of t id g = ap (λ (o : Option ℕ). option_map_or (nat_eq t) o false) (c.alike.values id g)

  pub same_ints : (count id : ℕ) → In c id → is_ints c.after count id ≡ is_ints c.before count id
  same_ints count id g = ap (has_shape false count) (same_value_shape id g)

  pub same_bools : (count id : ℕ) → In c id → is_bools c.after count id ≡ is_bools c.before count id
  same_bools count id g = ap (has_shape true count) (same_value_shape id g)

  pub same_has_decoration : (id d : ℕ) → In c id → has_decoration c.after id d ≡ has_decoration c.before id d
  same_has_decoration id d g = ap (λ (o : Option (List ℕ)). is_some o) (c.alike.decorations id d g)

  -- ---- the types of values that pass a test, as pointers and vectors do

  pub passing_type : (test same : ℕ → Bool) → ((t : ℕ) → In c t → test t ≡ same t) → (id : ℕ) → In c id
      → option_and_then (λ t. cond (test t) (Some t) None) (value_type c.after id) ≡ option_and_then (λ t. cond (same t) (Some t) None) (value_type c.before id)
  passing_type test same h =
      then_type (λ t. cond (test t) (Some t) None) (λ t. cond (same t) (Some t) None) (λ t g. ap (λ (b : Bool). cond b (Some t) None) (h t g))

  passed : (test : ℕ → Bool) (t u : ℕ) (b : Bool) → test t ≡ b → In c t → cond b (Some t) None ≡ Some u → In c u × (test u ≡ true)
  passed test t u true e g h = let same : t ≡ u = cc h in (subst (In c) same g, ap test (sym same) ∙ e)
  passed test t u false e g h = absurd (cc h)

  -- such a type stays, and passes
  pub passing_stays : (test : ℕ → Bool) (id u : ℕ) → In c id → option_and_then (λ t. cond (test t) (Some t) None) (value_type c.before id) ≡ Some u
      → In c u × (test u ≡ true)
  passing_stays test id u g h = by (value_type c.before id) refl h
    where
      by : (o : Option ℕ) → value_type c.before id ≡ o → option_and_then (λ t. cond (test t) (Some t) None) o ≡ Some u → In c u × (test u ≡ true)
      by None e h = absurd (cc h)
      by (Some t) e h = passed test t u (test t) refl (c.alike.types id t g e) h

  pub same_pointer_type : (id : ℕ) → In c id → pointer_type c.after id ≡ pointer_type c.before id
  same_pointer_type = passing_type (is_pointer c.after) (is_pointer c.before) same_pointer

  pub map_on : {A : Type 0} (f g : ℕ → A) (o : Option ℕ) → ((t : ℕ) → o ≡ Some t → f t ≡ g t) → option_map f o ≡ option_map g o
  map_on f g None h = refl
  map_on f g (Some t) h = ap Some (h t refl)

  pub by_pointer : {A : Type 0} (f g : ℕ → A) (z : A) → ((t : ℕ) → In c t → is_pointer c.before t ≡ true → f t ≡ g t) → (id : ℕ) → In c id
      → option_map_or f (pointer_type c.after id) z ≡ option_map_or g (pointer_type c.before id) z
  by_pointer f g z h id s =
      ap (λ (o : Option ℕ). option_map_or f o z) (same_pointer_type id s)
      ∙ or_on f g z (pointer_type c.before id) (λ t e. let p = passing_stays (is_pointer c.before) id t s e in h t p.0 p.1)

  pub map_pointer : {A : Type 0} (f g : ℕ → A) → ((t : ℕ) → In c t → is_pointer c.before t ≡ true → f t ≡ g t) → (id : ℕ) → In c id
      → option_map f (pointer_type c.after id) ≡ option_map g (pointer_type c.before id)
  map_pointer f g h id s =
      ap (option_map f) (same_pointer_type id s)
      ∙ map_on f g (pointer_type c.before id) (λ t e. let p = passing_stays (is_pointer c.before) id t s e in h t p.0 p.1)

  pub same_target : (id : ℕ) → In c id → target_of c.after id ≡ target_of c.before id
  same_target = map_pointer (pointee c.after) (pointee c.before) same_pointee

  mapped_stays : (o : Option ℕ) (u : ℕ) → ((t : ℕ) → o ≡ Some t → In c (pointee c.before t)) → option_map (pointee c.before) o ≡ Some u → In c u
  mapped_stays None u h e = absurd (cc e)
  mapped_stays (Some t) u h e = let same : pointee c.before t ≡ u = cc e in subst (In c) same (h t refl)

  pub target_stays : (id u : ℕ) → In c id → target_of c.before id ≡ Some u → In c u
  target_stays id u s =
      mapped_stays (pointer_type c.before id) u (λ t e. let p = passing_stays (is_pointer c.before) id t s e in pointee_stays t p.0 p.1)

  -- what is asked of what a pointer points to
  pub at_target : (f g : ℕ → Bool) → ((u : ℕ) → In c u → f u ≡ g u) → (p : ℕ) → In c p
      → option_map_or f (target_of c.after p) false ≡ option_map_or g (target_of c.before p) false
  at_target f g h p s =
      ap (λ (o : Option ℕ). option_map_or f o false) (same_target p s) ∙ or_on f g false (target_of c.before p) (λ u e. h u (target_stays p u s e))
