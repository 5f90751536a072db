-- What is said of ids in modules that are alike: kinds, words, constants and shapes are the same, but for what is loose.
use Rattle.std.proofs.Common.{◌≡◌, inl, inr, ◌⊎◌, ℕ, zero, suc, Bool, true, false, cond, not, nat_eq, ◌==◌, ◌&&◌, ◌||◌, List, [], drop, slice_index, Option, Some, None, refl, sym, ap, ◌∙◌}
use Rattle.std.specs.Option.{option_map_or}
use Rattle.spv_opcodes.specs.declared.op.TheConstants as op
use Rattle.spv_module.specs.Instruction.{Instruction, opcode}
use Rattle.spv_ids.specs.Ids.{definition, kind, word_of, words_of}
use Rattle.spv_typing.specs.Kinds.{component, component_count, constants, is_bool, is_constant, is_int, is_one_of, is_outside, is_vector, type_of}
use Rattle.spv_typing.specs.Operations.{has_shape, of_components, shape}
use Rattle.spv_decorations.specs.Decorations.{decoration_of}
use Rattle.spv_meaning.specs.Constants.{first_literal}
use Rattle.spv_walk.proofs.Unique.{either_holds, equal_true, left_holds, right_holds, tells}
use Rattle.spv_tree.specs.Sound.{opcode_in}
use Rattle.spv_entries.specs.Sizes.{is_no_size}
use Rattle.spv_alike.specs.Alike.{AreAlike, is_loose, loose_kinds}
use Rattle.spv_calls.specs.Calls.{is_global}

-- ---- by all words of a definition

words_kind : (o : Option Instruction) → option_map_or opcode o 0 ≡ opcode_in (option_map_or (λ i. drop 0 i.words) o [])
words_kind None = refl
words_kind (Some i) = refl

pub kind_by_words : (insts : List Instruction) (id : ℕ) → kind insts id ≡ opcode_in (words_of insts id 0)
kind_by_words insts id = words_kind (definition insts id)

words_word : (o : Option Instruction) (k : ℕ) → option_map_or (λ i. slice_index i.words k) o 0 ≡ slice_index (option_map_or (λ i. drop 0 i.words) o []) k
words_word None k = refl
words_word (Some i) k = refl

pub word_by_words : (insts : List Instruction) (id k : ℕ) → word_of insts id k ≡ slice_index (words_of insts id 0) k
word_by_words insts id k = words_word (definition insts id) k

drop_none : (k : ℕ) → drop {A = ℕ} k [] ≡ []
drop_none zero = refl
drop_none (suc k) = refl

words_words : (o : Option Instruction) (k : ℕ) → option_map_or (λ i. drop k i.words) o [] ≡ drop k (option_map_or (λ i. drop 0 i.words) o [])
words_words None k = sym (drop_none k)
words_words (Some i) k = refl

pub words_by_words : (insts : List Instruction) (id k : ℕ) → words_of insts id k ≡ drop k (words_of insts id 0)
words_by_words insts id k = words_words (definition insts id) k

-- a test of kinds that no loose kind passes
pub record IsTight (test : ℕ → Bool) : Type 0 where
  pub undefined : test 0 ≡ false
  pub label : test op.LABEL ≡ false
  pub phi : test op.PHI ≡ false
  pub copy : test op.COPY_OBJECT ≡ false

loose_fails : (test : ℕ → Bool) → IsTight test → (o : ℕ) → is_one_of loose_kinds o ≡ true → test o ≡ false
loose_fails test t o h = elim (either_holds (nat_eq o 0) _ h) [
  | inl e ↦ ap test (equal_true o 0 e) ∙ t.undefined
  | inr h ↦ elim (either_holds (nat_eq o op.LABEL) _ h) [
    | inl e ↦ ap test (equal_true o op.LABEL e) ∙ t.label
    | inr h ↦ elim (either_holds (nat_eq o op.PHI) _ h) [
      | inl e ↦ ap test (equal_true o op.PHI e) ∙ t.phi
      | inr h ↦ elim (either_holds (nat_eq o op.COPY_OBJECT) _ h) [
        | inl e ↦ ap test (equal_true o op.COPY_OBJECT e) ∙ t.copy
        | inr e ↦ absurd (cc e)
      ]
    ]
  ]
]

abbrev pub is_kind : (k : ℕ) → ℕ → Bool
is_kind k o = o == k

module _ (before after : List Instruction) (a : AreAlike before after) where
  fixed_or_loose : (id : ℕ) → (words_of after id 0 ≡ words_of before id 0) ⊎ ((is_loose before id ≡ true) × (is_loose after id ≡ true))
  fixed_or_loose id = elim (tells (is_loose before id)) [
    | inl e ↦ inr (e, a.loose id e)
    | inr e ↦ inl (a.fixed id e)
  ]

  pub same_test : (test : ℕ → Bool) → IsTight test → (id : ℕ) → test (kind after id) ≡ test (kind before id)
  same_test test t id = elim (fixed_or_loose id) [
    | inl e ↦ ap test (kind_by_words after id ∙ ap opcode_in e ∙ sym (kind_by_words before id))
    | inr l ↦ loose_fails test t (kind after id) l.1 ∙ sym (loose_fails test t (kind before id) l.0)
  ]

  -- where a kind passes such a test, all its words are the same
  pub fixed_by : (test : ℕ → Bool) → IsTight test → (id : ℕ) → test (kind before id) ≡ true → words_of after id 0 ≡ words_of before id 0
  fixed_by test t id h = elim (fixed_or_loose id) [
    | inl e ↦ e
    | inr l ↦ absurd (cc (h, loose_fails test t (kind before id) l.0))
  ]

  pub same_word : (id k : ℕ) → words_of after id 0 ≡ words_of before id 0 → word_of after id k ≡ word_of before id k
  same_word id k e = word_by_words after id k ∙ ap (λ w. slice_index w k) e ∙ sym (word_by_words before id k)

  pub same_words : (id k : ℕ) → words_of after id 0 ≡ words_of before id 0 → words_of after id k ≡ words_of before id k
  same_words id k e = words_by_words after id k ∙ ap (drop k) e ∙ sym (words_by_words before id k)

  -- ---- constants, their types and their shapes

  abbrev undef_or_constant : ℕ → Bool
  undef_or_constant o = is_one_of constants o || o == op.UNDEF

  constants_tight : IsTight (is_one_of constants)
  constants_tight = record { undefined = refl; label = refl; phi = refl; copy = refl }

  pub same_constant : (id : ℕ) → is_constant after id ≡ is_constant before id
  same_constant id =
      ap (λ (b : Bool). b || (kind after id == op.UNDEF && is_outside after id)) (same_test (is_one_of constants) constants_tight id)
      ∙ ap (λ (b : Bool). is_one_of constants (kind before id) || (b && is_outside after id))
      (same_test (is_kind op.UNDEF) (record { undefined = refl; label = refl; phi = refl; copy = refl }) id)
      ∙ ap (λ (b : Bool). is_one_of constants (kind before id) || (kind before id == op.UNDEF && b)) (a.outside id)

  first_of : (a b : Bool) → (a && b) ≡ true → a ≡ true
  first_of true b h = refl
  first_of false b h = absurd (cc h)

  constant_kind : (id : ℕ) → is_constant before id ≡ true → undef_or_constant (kind before id) ≡ true
  constant_kind id h = elim (either_holds (is_one_of constants (kind before id)) (kind before id == op.UNDEF && is_outside before id) h) [
    | inl e ↦ left_holds (is_one_of constants (kind before id)) (kind before id == op.UNDEF) e
    | inr e ↦ right_holds (is_one_of constants (kind before id)) (kind before id == op.UNDEF) (first_of (kind before id == op.UNDEF) (is_outside before id) e)
  ]

  constant_fixed : (id : ℕ) → is_constant before id ≡ true → words_of after id 0 ≡ words_of before id 0
  constant_fixed id h = fixed_by undef_or_constant (record { undefined = refl; label = refl; phi = refl; copy = refl }) id (constant_kind id h)

  same_components : (t c : ℕ) → of_components after t c ≡ of_components before t c
  same_components t c =
      ap (λ (b : Bool). cond b (Some (record { is_boolean = true; count = c })) (cond (is_int after t) (Some (record { is_boolean = false; count = c })) None))
      (same_test (is_kind op.TYPE_BOOL) (record { undefined = refl; label = refl; phi = refl; copy = refl }) t)
      ∙ ap
      (λ (b : Bool). cond (is_bool before t) (Some (record { is_boolean = true; count = c })) (cond b (Some (record { is_boolean = false; count = c })) None))
      (same_test (is_kind op.TYPE_INT) (record { undefined = refl; label = refl; phi = refl; copy = refl }) t)

  vector_tight : IsTight (is_kind op.TYPE_VECTOR)
  vector_tight = record { undefined = refl; label = refl; phi = refl; copy = refl }

  pub same_shape : (t : ℕ) → shape after t ≡ shape before t
  same_shape t = by (is_vector before t) refl (is_vector after t) (same_test (is_kind op.TYPE_VECTOR) vector_tight t) where
    by : (b : Bool) → is_vector before t ≡ b → (c : Bool) → c ≡ is_vector before t
        → cond c (of_components after (component after t) (component_count after t)) (of_components after t 1)
        ≡ cond (is_vector before t) (of_components before (component before t) (component_count before t)) (of_components before t 1)
    by true e c g =
        let fixed = fixed_by (is_kind op.TYPE_VECTOR) vector_tight t e in
        ap (λ (b : Bool). cond b (of_components after (component after t) (component_count after t)) (of_components after t 1)) g
        ∙ ap (λ (b : Bool). cond b (of_components after (component after t) (component_count after t)) (of_components after t 1)) e
        ∙ ap (λ x. of_components after x (component_count after t)) (same_word t 2 fixed)
        ∙ ap (λ x. of_components after (component before t) x) (same_word t 3 fixed)
        ∙ same_components (component before t) (component_count before t)
        ∙ sym (ap (λ (b : Bool). cond b (of_components before (component before t) (component_count before t)) (of_components before t 1)) e)
    by false e c g =
        ap (λ (b : Bool). cond b (of_components after (component after t) (component_count after t)) (of_components after t 1)) (g ∙ e)
        ∙ same_components t 1
        ∙ sym (ap (λ (b : Bool). cond b (of_components before (component before t) (component_count before t)) (of_components before t 1)) e)

  pub same_size : (id : ℕ) → is_no_size after id ≡ is_no_size before id
  same_size id = by (is_constant before id) refl where
    by : (b : Bool) → is_constant before id ≡ b → is_no_size after id ≡ is_no_size before id
    by false e =
        ap (λ (b : Bool). not (b && has_shape false 1 (shape after (type_of after id)))) (same_constant id ∙ e)
        ∙ sym (ap (λ (b : Bool). not (b && has_shape false 1 (shape before (type_of before id)))) e)
    by true e =
        ap (λ (b : Bool). not (b && has_shape false 1 (shape after (type_of after id)))) (same_constant id)
        ∙ ap (λ t. not (is_constant before id && has_shape false 1 (shape after t))) (same_word id 1 (constant_fixed id e))
        ∙ ap (λ s. not (is_constant before id && has_shape false 1 s)) (same_shape (type_of before id))

  -- ---- variables and decorations

  pub same_global : (id : ℕ) → is_global after id ≡ is_global before id
  same_global id =
      ap (λ (b : Bool). b && is_outside after id) (same_test (is_kind op.VARIABLE) (record { undefined = refl; label = refl; phi = refl; copy = refl }) id)
      ∙ ap (λ (b : Bool). kind before id == op.VARIABLE && b) (a.outside id)

  pub same_decoration : (id d : ℕ) → decoration_of after id d ≡ decoration_of before id d
  same_decoration id d = ap first_literal (a.decorations id d)
