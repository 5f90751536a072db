-- Ids that are neither labels nor strings: by what defines them.
use Rattle.std.proofs.Common.{◌≡◌, ◌≢◌, ℕ, zero, suc, Bool, true, false, cond, not, ◌==◌, ◌&&◌, ◌||◌, nat_eq, List, [], ◌∷◌, Option, Some, None, Result, Ok, Err, refl, sym, ap, ◌∙◌, arith}
use Rattle.std.specs.List.{Contains, list_any, list_all, slice_get, position}
use Rattle.std.specs.Option.{is_some, option_and_then, option_map_or}
use Rattle.std.proofs.lemmas.Bool.{and_parts, and_from, not-true}
use Rattle.std.proofs.lemmas.Bool.Decides.{nat_tests}
use Rattle.spv_opcodes.specs.declared.op.TheConstants as op
use Rattle.spv_grammar.specs.declared.kind.Role.{Role}
use Rattle.spv_grammar.specs.Fronts.{has_result_type}
use Rattle.spv_grammar.specs.Operands.{roles_of}
use Rattle.spv_grammar.specs.Roles.{is_type_id}
use Rattle.spv_grammar.specs.Table.{row_of}
use Rattle.spv_grammar.proofs.FrontParts.{typed_where_row_has_result_type}
use Rattle.spv_module.specs.Instruction.{Instruction, opcode, parts, roles, word_with}
use Rattle.spv_ids.specs.Ids.{definition, kind}
use Rattle.spv_ids.proofs.Places.{any-position}
use Rattle.spv_typing.specs.Kinds.{is_one_of, is_bool, is_int, is_vector, is_data, is_closed, is_constant, has_type, constants, data_types, is_variable_of, ends_open, is_outside, component, component_count}
use Rattle.spv_typing.specs.declared.shapes.Shape.{Shape}
use Rattle.spv_typing.specs.Operations.{shape, of_components, has_shape}
use Rattle.spv_values.specs.Values.{given_type, value_type, value_shape, is_value, is_value_of, is_ints, is_bools, pointer_type, as_pointer}

-- ---- tests

pub or_cases : (a b : Bool) {P : Type 0} → (a || b) ≡ true → (a ≡ true → P) → (b ≡ true → P) → P
or_cases true b h f g = f refl
or_cases false b h f g = g h

pub same_by : (a b : ℕ) → (a == b) ≡ true → a ≡ b
same_by a b h = grind (arith, nat_tests)

-- what each of some numbers passes, one of them passes; induction on the numbers
pub one_passes : (p : ℕ → Bool) (xs : List ℕ) (x : ℕ) → list_all p xs ≡ true → is_one_of xs x ≡ true → p x ≡ true
one_passes p [] x h k = absurd (cc k)
one_passes p (y ∷ ys) x h k =
    let both = and_parts (p y) (list_all p ys) h in
    or_cases (nat_eq x y) (is_one_of ys x) k (λ e. ap p (same_by x y e) ∙ both.0) (λ e. one_passes p ys x both.1 e)

-- a member of a list passes what all pass
pub member_passes : (p : ℕ → Bool) (xs : List ℕ) (x : ℕ) → list_all p xs ≡ true → Contains xs x → p x ≡ true
member_passes p [] x h (k, lt, at) = absurd (omega (arith, lt))
member_passes p (y ∷ ys) x h (zero, lt, at) = ap p (sym at) ∙ (and_parts (p y) (list_all p ys) h).0
member_passes p (y ∷ ys) x h (suc k, lt, at) = member_passes p ys x (and_parts (p y) (list_all p ys) h).1 (k, omega (arith, lt), at)

pub all_1 : (p : ℕ → Bool) (a : ℕ) → p a ≡ true → list_all p (a ∷ []) ≡ true
all_1 p a h = and_from (p a) true h refl

pub all_cons : (p : ℕ → Bool) (a : ℕ) (xs : List ℕ) → p a ≡ true → list_all p xs ≡ true → list_all p (a ∷ xs) ≡ true
all_cons p a xs h k = and_from (p a) (list_all p xs) h k

pub all_2 : (p : ℕ → Bool) (a b : ℕ) → p a ≡ true → p b ≡ true → list_all p (a ∷ b ∷ []) ≡ true
all_2 p a b h k = all_cons p a (b ∷ []) h (all_1 p b k)

pub all_3 : (p : ℕ → Bool) (a b c : ℕ) → p a ≡ true → p b ≡ true → p c ≡ true → list_all p (a ∷ b ∷ c ∷ []) ≡ true
all_3 p a b c h k l = all_cons p a (b ∷ c ∷ []) h (all_2 p b c k l)

pub all_4 : (p : ℕ → Bool) (a b c d : ℕ) → p a ≡ true → p b ≡ true → p c ≡ true → p d ≡ true → list_all p (a ∷ b ∷ c ∷ d ∷ []) ≡ true
all_4 p a b c d h k l m = all_cons p a (b ∷ c ∷ d ∷ []) h (all_3 p b c d k l m)

-- what is weaker is passed by all too
pub all_weaker : {X : Type 0} (p q : X → Bool) (xs : List X) → ((x : X) → p x ≡ true → q x ≡ true) → list_all p xs ≡ true → list_all q xs ≡ true
all_weaker p q [] f h = refl
all_weaker p q (x ∷ xs) f h =
    let both = and_parts (p x) (list_all p xs) h in
    and_from (q x) (list_all q xs) (f x both.0) (all_weaker p q xs f both.1)

-- ---- ids that are neither labels nor strings

-- what gives an id that no instruction but those that name ids uses as a value
abbrev pub valueless : List ℕ
valueless = op.LABEL ∷ op.STRING ∷ []

-- the instruction that defines the id, if there is one, is neither an OpLabel nor an OpString
abbrev pub is_free : List Instruction → (id : ℕ) → Bool
is_free insts id = not (is_one_of valueless (kind insts id))

pub free_kind : (insts : List Instruction) (id o : ℕ) → (kind insts id == o) ≡ true → is_one_of valueless o ≡ false → is_free insts id ≡ true
free_kind insts id o h k = ap (λ n. not (is_one_of valueless n)) (same_by (kind insts id) o h) ∙ ap not k

pub free_kinds : (insts : List Instruction) (id : ℕ) (os : List ℕ) → is_one_of os (kind insts id) ≡ true
    → list_all (λ o. not (is_one_of valueless o)) os ≡ true
    → is_free insts id ≡ true
free_kinds insts id os h k = one_passes (λ o. not (is_one_of valueless o)) os (kind insts id) k h

-- what is free is of neither kind
pub free_is_no : (insts : List Instruction) (id o : ℕ) → is_free insts id ≡ true → is_one_of valueless o ≡ true → kind insts id ≢ o
free_is_no insts id o h k e = absurd (wrong (is_one_of valueless (kind insts id)) h (ap (is_one_of valueless) e ∙ k)) where
  wrong : (t : Bool) → not t ≡ true → t ≡ true → ⊥
  wrong true h k = cc
  wrong false h k = cc

pub free_data : (insts : List Instruction) (t : ℕ) → is_data insts t ≡ true → is_free insts t ≡ true
free_data insts t h = free_kinds insts t data_types h refl

pub free_closed : (insts : List Instruction) (t : ℕ) → is_closed insts t ≡ true → is_free insts t ≡ true
free_closed insts t h = free_data insts t (and_parts (is_data insts t) (not (ends_open insts t)) h).0

pub free_constant : (insts : List Instruction) (id : ℕ) → is_constant insts id ≡ true → is_free insts id ≡ true
free_constant insts id h =
    or_cases (is_one_of constants (kind insts id)) (kind insts id == op.UNDEF && is_outside insts id) h
    (λ e. free_kinds insts id constants e refl)
    (λ e. free_kind insts id op.UNDEF (and_parts (kind insts id == op.UNDEF) (is_outside insts id) e).0 refl)

pub free_typed : (insts : List Instruction) (t id : ℕ) → has_type insts t id ≡ true → is_free insts id ≡ true
free_typed insts t id h = free_constant insts id (and_parts (is_constant insts id) _ h).0

pub free_variable : (insts : List Instruction) (class id : ℕ) → is_variable_of insts class id ≡ true → is_free insts id ≡ true
free_variable insts class id h = free_kind insts id op.VARIABLE (and_parts (kind insts id == op.VARIABLE) _ h).0 refl

-- a scalar or a vector
components_free : (insts : List Instruction) (t : ℕ) (b i : Bool) (n : ℕ) → is_bool insts t ≡ b → is_int insts t ≡ i
    → is_some {T = Shape} (cond b (Some (record { is_boolean = true; count = n })) (cond i (Some (record { is_boolean = false; count = n })) None)) ≡ true
    → is_free insts t ≡ true
components_free insts t true i n hb hi h = free_kind insts t op.TYPE_BOOL hb refl
components_free insts t false true n hb hi h = free_kind insts t op.TYPE_INT hi refl
components_free insts t false false n hb hi h = absurd (cc h)

pub free_shape : (insts : List Instruction) (t : ℕ) → is_some (shape insts t) ≡ true → is_free insts t ≡ true
free_shape insts t h = by (is_vector insts t) refl h where
  by : (v : Bool) → is_vector insts t ≡ v
      → is_some (cond v (of_components insts (component insts t) (component_count insts t)) (of_components insts t 1)) ≡ true → is_free insts t ≡ true
  by true e h = free_kind insts t op.TYPE_VECTOR e refl
  by false e h = components_free insts t (is_bool insts t) (is_int insts t) 1 refl refl h

has_some : (b : Bool) (n : ℕ) (s : Option Shape) → has_shape b n s ≡ true → is_some s ≡ true
has_some b n None h = h
has_some b n (Some s) h = refl

pub free_shaped : (insts : List Instruction) (b : Bool) (n t : ℕ) → has_shape b n (shape insts t) ≡ true → is_free insts t ≡ true
free_shaped insts b n t h = free_shape insts t (has_some b n (shape insts t) h)

-- ---- values

valueless_untyped : list_all (λ o. not (has_result_type o)) valueless ≡ true
unfolding row_of
valueless_untyped = refl

-- nothing passes, so nothing is found
no_place : {X : Type 0} (p : X → Bool) (xs : List X) → list_any p xs ≡ false → position p xs ≡ None
no_place p xs h = by (position p xs) (sym (any-position p xs) ∙ h) where
  by : {X : Type 0} (place : Option X) → is_some place ≡ false → place ≡ None
  by None h = refl
  by (Some x) h = absurd (cc h)

no_type : (i : Instruction) → is_one_of valueless (opcode i) ≡ true → list_any is_type_id (roles i) ≡ false
no_type i m = by (roles_of i.words) refl where
  by : (r : Result (List Role) ℕ) → roles_of i.words ≡ r → list_any is_type_id (parts r) ≡ false
  by (Err rule) h = refl
  by (Ok rs) h =
      typed_where_row_has_result_type (opcode i) i.words rs refl h
      ∙ not-true (has_result_type (opcode i)) (one_passes (λ o. not (has_result_type o)) valueless (opcode i) valueless_untyped m)

-- an instruction that gives a typed value is neither an OpLabel nor an OpString
typed_is_free : (i : Instruction) (t : ℕ) → given_type i ≡ Some t → is_one_of valueless (opcode i) ≡ false
typed_is_free i t h = by (is_one_of valueless (opcode i)) refl where
  other : list_all (λ o. not (o == op.FUNCTION)) valueless ≡ true
  other = refl

  untyped : is_one_of valueless (opcode i) ≡ true → given_type i ≡ None
  untyped m =
      ap (λ b. cond b None (word_with is_type_id i)) (not-true (opcode i == op.FUNCTION) (one_passes (λ o. not (o == op.FUNCTION)) valueless (opcode i) other m))
      ∙ ap (λ (place : Option ℕ). option_and_then (slice_get i.words) place) (no_place is_type_id (roles i) (no_type i m))

  by : (b : Bool) → is_one_of valueless (opcode i) ≡ b → is_one_of valueless (opcode i) ≡ false
  by true e = absurd (cc (sym (untyped e) ∙ h))
  by false e = e

pub free_value : (insts : List Instruction) (id t : ℕ) → value_type insts id ≡ Some t → is_free insts id ≡ true
free_value insts id t h = by (definition insts id) refl h where
  by : (d : Option Instruction) → definition insts id ≡ d → option_and_then given_type d ≡ Some t → is_free insts id ≡ true
  by None e h = absurd (cc h)
  by (Some d) e h = ap (λ (d : Option Instruction). not (is_one_of valueless (option_map_or opcode d 0))) e ∙ ap not (typed_is_free d t h)

-- a value by a test of its type
pub free_if : (insts : List Instruction) (id : ℕ) (p : ℕ → Bool) → option_map_or p (value_type insts id) false ≡ true → is_free insts id ≡ true
free_if insts id p h = by (value_type insts id) refl h where
  by : (t : Option ℕ) → value_type insts id ≡ t → option_map_or p t false ≡ true → is_free insts id ≡ true
  by None e h = absurd (cc h)
  by (Some t) e h = free_value insts id t e

-- or by what is made of its type
pub free_made : {X : Type 0} (insts : List Instruction) (id : ℕ) (f : ℕ → Option X) → is_some (option_and_then f (value_type insts id)) ≡ true
    → is_free insts id ≡ true
free_made insts id f h = by (value_type insts id) refl h where
  by : (t : Option ℕ) → value_type insts id ≡ t → is_some (option_and_then f t) ≡ true → is_free insts id ≡ true
  by None e h = absurd (cc h)
  by (Some t) e h = free_value insts id t e

pub free_is_value : (insts : List Instruction) (id : ℕ) → is_value insts id ≡ true → is_free insts id ≡ true
free_is_value insts id h = by (value_type insts id) refl h where
  by : (t : Option ℕ) → value_type insts id ≡ t → is_some t ≡ true → is_free insts id ≡ true
  by None e h = absurd (cc h)
  by (Some t) e h = free_value insts id t e

pub free_value_of : (insts : List Instruction) (t id : ℕ) → is_value_of insts t id ≡ true → is_free insts id ≡ true
free_value_of insts t id h = free_if insts id (nat_eq t) h

pub free_has : (insts : List Instruction) (b : Bool) (n id : ℕ) → has_shape b n (value_shape insts id) ≡ true → is_free insts id ≡ true
free_has insts b n id h = free_made insts id (shape insts) (has_some b n (value_shape insts id) h)

pub free_ints : (insts : List Instruction) (n id : ℕ) → is_ints insts n id ≡ true → is_free insts id ≡ true
free_ints insts n id h = free_has insts false n id h

pub free_bools : (insts : List Instruction) (n id : ℕ) → is_bools insts n id ≡ true → is_free insts id ≡ true
free_bools insts n id h = free_has insts true n id h

pub free_pointer : (insts : List Instruction) (id : ℕ) → is_some (pointer_type insts id) ≡ true → is_free insts id ≡ true
free_pointer insts id h = free_made insts id (as_pointer insts) h
