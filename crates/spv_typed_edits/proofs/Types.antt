-- Modules with the same types: each test and lookup of types gives the same in both.
use Rattle.std.proofs.Common.{◌≡◌, ℕ, Bool, true, false, cond, ◌==◌, ◌&&◌, ◌||◌, not, List, [], ◌∷◌, drop, Option, Some, None, refl, sym, ap, ap₂, ◌∙◌, true≢false, eqb-true}
use Rattle.std.specs.List.{list_all, slice_index}
use Rattle.spv_opcodes.specs.declared.op.TheConstants as op
use Rattle.spv_grammar.specs.Operands.{opcode_of}
use Rattle.spv_module.specs.Instruction.{Instruction}
use Rattle.spv_ids.specs.Ids.{kind, word_of, words_of}
use Rattle.spv_typing.specs.Kinds.{is_one_of, is_void, is_bool, is_int, is_vector, is_runtime_array, is_struct, component, component_count, members, data_types, last_id, ends_open, is_closed}
use Rattle.spv_typing.specs.declared.shapes.Shape.{Shape}
use Rattle.spv_typing.specs.Operations.{of_components, shape}
use Rattle.spv_signatures.specs.Functions.{is_function_type, return_type, parameter_types}
use Rattle.spv_alike.proofs.Lookups.{kind_by_words, word_by_words, words_by_words}
use Rattle.spv_typed_edits.specs.Edits.{type_kinds, is_type, SameTypes}

-- ---- tests

-- one opcode of types, and some
apart : (o k : ℕ) → is_one_of type_kinds o ≡ true → is_one_of type_kinds k ≡ false → (k == o) ≡ false
apart o k is none = by (k == o) refl
  where
    by : (b : Bool) → (k == o) ≡ b → (k == o) ≡ false
    by false e = e
    by true e = absurd (true≢false (sym is ∙ sym (ap (is_one_of type_kinds) (eqb-true k o e)) ∙ none))

abbrev are_types : List ℕ → Bool
are_types os = list_all (λ o. is_one_of type_kinds o) os

and_left : (a b : Bool) → (a && b) ≡ true → a ≡ true
and_left true b e = refl
and_left false b e = e

and_right : (a b : Bool) → (a && b) ≡ true → b ≡ true
and_right true b e = e
and_right false b e = absurd (true≢false (sym e))

all_apart : (os : List ℕ) (k : ℕ) → are_types os ≡ true → is_one_of type_kinds k ≡ false → is_one_of os k ≡ false
all_apart [] k are none = refl
all_apart (o ∷ os) k are none =
    ap (λ (b : Bool). b || is_one_of os k) (apart o k (and_left (is_one_of type_kinds o) (are_types os) are) none)
    ∙ all_apart os k (and_right (is_one_of type_kinds o) (are_types os) are) none

-- what stands behind a test is the same where the test passes
pub on : {A : Type 0} (b c : Bool) (x y z w : A) → b ≡ c → (c ≡ true → x ≡ y) → z ≡ w → cond b x z ≡ cond c y w
on b true x y z w e p q = ap (λ (t : Bool). cond t x z) e ∙ p refl
on b false x y z w e p q = ap (λ (t : Bool). cond t x z) e ∙ q

and_on : (b c x y : Bool) → b ≡ c → (c ≡ true → x ≡ y) → (b && x) ≡ (c && y)
and_on b true x y e p = ap (λ (t : Bool). t && x) e ∙ p refl
and_on b false x y e p = ap (λ (t : Bool). t && x) e

-- ---- modules with the same types

module _ (before after : List Instruction) (same : SameTypes before after) where
  same_kind : (t : ℕ) → is_type before t ≡ true → kind after t ≡ kind before t
  same_kind t h =
      kind_by_words after t ∙ ap (λ (ws : List ℕ). opcode_of (slice_index ws 0)) (same.words t h) ∙ sym (kind_by_words before t)

  same_word : (t k : ℕ) → is_type before t ≡ true → word_of after t k ≡ word_of before t k
  same_word t k h = word_by_words after t k ∙ ap (λ (ws : List ℕ). slice_index ws k) (same.words t h) ∙ sym (word_by_words before t k)

  same_words : (t k : ℕ) → is_type before t ≡ true → words_of after t k ≡ words_of before t k
  same_words t k h = words_by_words after t k ∙ ap (drop k) (same.words t h) ∙ sym (words_by_words before t k)

  -- what types alone pass, and no other kind
  by_kind : (test : ℕ → Bool) → ((k : ℕ) → is_one_of type_kinds k ≡ false → test k ≡ false) → (t : ℕ) → test (kind after t) ≡ test (kind before t)
  by_kind test none t = by (is_type before t) refl
    where
      by : (b : Bool) → is_type before t ≡ b → test (kind after t) ≡ test (kind before t)
      by true h = ap test (same_kind t h)
      by false h = none (kind after t) (same.others t h) ∙ sym (none (kind before t) h)

  same_test : (o : ℕ) → is_one_of type_kinds o ≡ true → (t : ℕ) → (kind after t == o) ≡ (kind before t == o)
  same_test o is = by_kind (λ k. k == o) (λ k none. apart o k is none)

  same_one_of : (os : List ℕ) → are_types os ≡ true → (t : ℕ) → is_one_of os (kind after t) ≡ is_one_of os (kind before t)
  same_one_of os are = by_kind (is_one_of os) (λ k none. all_apart os k are none)

  -- what has an opcode of types is one
  type_by : (o : ℕ) → is_one_of type_kinds o ≡ true → (t : ℕ) → (kind before t == o) ≡ true → is_type before t ≡ true
  type_by o is t h = ap (is_one_of type_kinds) (eqb-true (kind before t) o h) ∙ is

  pub same_void : (t : ℕ) → is_void after t ≡ is_void before t
  same_void = same_test op.TYPE_VOID refl

  same_bool : (t : ℕ) → is_bool after t ≡ is_bool before t
  same_bool = same_test op.TYPE_BOOL refl

  same_int : (t : ℕ) → is_int after t ≡ is_int before t
  same_int = same_test op.TYPE_INT refl

  same_vector : (t : ℕ) → is_vector after t ≡ is_vector before t
  same_vector = same_test op.TYPE_VECTOR refl

  same_runtime_array : (t : ℕ) → is_runtime_array after t ≡ is_runtime_array before t
  same_runtime_array = same_test op.TYPE_RUNTIME_ARRAY refl

  same_struct : (t : ℕ) → is_struct after t ≡ is_struct before t
  same_struct = same_test op.TYPE_STRUCT refl

  pub same_function_type : (t : ℕ) → is_function_type after t ≡ is_function_type before t
  same_function_type = same_test op.TYPE_FUNCTION refl

  -- ---- types of which there are values

  same_ends_open : (t : ℕ) → ends_open after t ≡ ends_open before t
  same_ends_open t =
      and_on (is_struct after t) (is_struct before t) (is_runtime_array after (last_id (members after t))) (is_runtime_array before (last_id (members before t)))
      (same_struct t)
      (λ h. same_runtime_array (last_id (members after t))
      ∙ ap (λ (ids : List ℕ). is_runtime_array before (last_id ids)) (same_words t 2 (type_by op.TYPE_STRUCT refl t h)))

  pub same_closed : (t : ℕ) → is_closed after t ≡ is_closed before t
  same_closed t = ap₂ (λ (a b : Bool). a && not b) (same_one_of data_types refl t) (same_ends_open t)

  -- ---- shapes

  same_of_components : (t count : ℕ) → of_components after t count ≡ of_components before t count
  same_of_components t count =
      ap₂ (λ (a b : Bool). cond a (Some (record { is_boolean = true; count = count })) (cond b (Some (record { is_boolean = false; count = count })) none))
      (same_bool t) (same_int t)
    where
      none : Option Shape
      none = None

  pub same_shape : (t : ℕ) → shape after t ≡ shape before t
  same_shape t =
      on (is_vector after t) (is_vector before t) (of_components after (component after t) (component_count after t))
      (of_components before (component before t) (component_count before t)) (of_components after t 1) (of_components before t 1)
      (same_vector t)
      (λ h. let is = type_by op.TYPE_VECTOR refl t h in
      same_of_components (component after t) (component_count after t)
      ∙ ap₂ (of_components before) (same_word t 2 is) (same_word t 3 is))
      (same_of_components t 1)

  -- ---- function types

  pub same_parameter_types : (t : ℕ) → is_function_type before t ≡ true → parameter_types after t ≡ parameter_types before t
  same_parameter_types t h = same_words t 3 (type_by op.TYPE_FUNCTION refl t h)

  pub same_return_type : (t : ℕ) → is_function_type before t ≡ true → return_type after t ≡ return_type before t
  same_return_type t h = same_word t 2 (type_by op.TYPE_FUNCTION refl t h)
