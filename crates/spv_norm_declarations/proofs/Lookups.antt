-- What an id is by its instruction, in two modules in which ids are alike: each look-up that a test guards which no label, OpPhi or OpCopyObject passes.
use Rattle.std.proofs.Common.{◌≡◌, ℕ, zero, suc, Bool, true, false, cond, not, ◌==◌, ◌&&◌, ◌||◌, List, [], ◌∷◌, drop, Option, Some, None, refl, sym, ap, ap₂, ◌∙◌}
use Rattle.std.specs.List.{slice_index}
use Rattle.std.specs.Option.{option_map_or}
use Rattle.spv_opcodes.specs.declared.op.TheConstants as op
use Rattle.spv_grammar.specs.Operands.{opcode_of}
use Rattle.spv_module.specs.Instruction.{Instruction, opcode}
use Rattle.spv_meaning.specs.Constants.{decorated, member_decorated}
use Rattle.spv_ids.specs.Ids.{definition, kind, word_of, words_of}
use Rattle.spv_typing.specs.Kinds.{is_one_of, is_outside, is_void, is_bool, is_int, is_vector, is_array, is_runtime_array, is_struct, is_pointer, component, component_count, members, data_types, is_data, last_id, ends_open, is_closed, is_triple, type_of, spec_constants, is_spec, constants, is_constant, has_type, is_variable_of}
use Rattle.spv_declarations.specs.Declarations.{says}
use Rattle.spv_declarations.proofs.Declares.{AllOf, one_of-holds}

-- an id that nothing defines, or that OpLabel, OpPhi or OpCopyObject defines
abbrev pub loose : List ℕ
loose = 0 ∷ op.LABEL ∷ op.PHI ∷ op.COPY_OBJECT ∷ []

-- what is asked of two modules
pub record LooksAlike (before after : List Instruction) : Type 0 where
  pub fixed : (id : ℕ) → is_one_of loose (kind before id) ≡ false → words_of after id 0 ≡ words_of before id 0
  pub loose_stays : (id : ℕ) → is_one_of loose (kind before id) ≡ true → is_one_of loose (kind after id) ≡ true
  pub outside : (id : ℕ) → is_outside after id ≡ is_outside before id
  pub decorations : (id d : ℕ) → decorated (says after) id d ≡ decorated (says before) id d
  pub members : (id member d : ℕ) → member_decorated (says after) id member d ≡ member_decorated (says before) id member d

-- ---- Boolean facts

pub and_same : (a a' x x' : Bool) → a' ≡ a → (a ≡ true → x' ≡ x) → (a' && x') ≡ (a && x)
and_same true a' x x' e h = ap (λ z. z && x') e ∙ h refl
and_same false a' x x' e h = ap (λ z. z && x') e

pub or_same : (a a' x x' : Bool) → a' ≡ a → x' ≡ x → (a' || x') ≡ (a || x)
or_same a a' x x' e h = ap₂ (λ y z. y || z) e h

pub cond_same : {A : Type 0} (a a' : Bool) (x x' y y' : A) → a' ≡ a → (a ≡ true → x' ≡ x) → y' ≡ y → cond a' x' y' ≡ cond a x y
cond_same true a' x x' y y' e h g = ap (λ z. cond z x' y') e ∙ h refl
cond_same false a' x x' y y' e h g = ap (λ z. cond z x' y') e ∙ g

-- ---- by the words of an instruction

kind_words : (insts : List Instruction) (id : ℕ) → kind insts id ≡ opcode_of (slice_index (words_of insts id 0) 0)
kind_words insts id = by (definition insts id) where
  by : (o : Option Instruction) → option_map_or opcode o 0 ≡ opcode_of (slice_index (option_map_or (λ i. drop 0 i.words) o []) 0)
  by None = refl
  by (Some i) = refl

word_words : (insts : List Instruction) (id k : ℕ) → word_of insts id k ≡ slice_index (words_of insts id 0) k
word_words insts id k = by (definition insts id) where
  by : (o : Option Instruction) → option_map_or (λ i. slice_index i.words k) o 0 ≡ slice_index (option_map_or (λ i. drop 0 i.words) o []) k
  by None = refl
  by (Some i) = refl

words_words : (insts : List Instruction) (id k : ℕ) → words_of insts id k ≡ drop k (words_of insts id 0)
words_words insts id k = by (definition insts id) where
  none : (n : ℕ) → drop {A = ℕ} n [] ≡ []
  none zero = refl
  none (suc n) = refl

  by : (o : Option Instruction) → option_map_or (λ i. drop k i.words) o [] ≡ drop k (option_map_or (λ i. drop 0 i.words) o [])
  by None = sym (none k)
  by (Some i) = refl

-- the same words define an id
pub record IsFixed (before after : List Instruction) (id : ℕ) : Type 0 where
  pub kinds : kind after id ≡ kind before id
  pub word : (k : ℕ) → word_of after id k ≡ word_of before id k
  pub words : (k : ℕ) → words_of after id k ≡ words_of before id k

fixed_by : (before after : List Instruction) (id : ℕ) → words_of after id 0 ≡ words_of before id 0 → IsFixed before after id
fixed_by before after id e = record {
  kinds = kind_words after id ∙ ap (λ ws. opcode_of (slice_index ws 0)) e ∙ sym (kind_words before id);
  word = λ k. word_words after id k ∙ ap (λ ws. slice_index ws k) e ∙ sym (word_words before id k);
  words = λ k. words_words after id k ∙ ap (λ ws. drop k ws) e ∙ sym (words_words before id k);
}

-- a test of opcodes that passes nothing loose
abbrev pub IsTight : (ℕ → Bool) → Type 0
IsTight p = AllOf (λ o. p o ≡ false) loose

truth : (b : Bool) → b ≡ true → b ≡ false → ⊥
truth true h g = absurd (cc g)
truth false h g = absurd (cc h)

module _ (before after : List Instruction) (alike : LooksAlike before after) where
  pub fixed_if : (p : ℕ → Bool) → IsTight p → (id : ℕ) → p (kind before id) ≡ true → IsFixed before after id
  fixed_if p tight id passes = by (is_one_of loose (kind before id)) refl where
    by : (b : Bool) → is_one_of loose (kind before id) ≡ b → IsFixed before after id
    by true e = absurd (truth (p (kind before id)) passes (one_of-holds (λ o. p o ≡ false) loose tight (kind before id) e))
    by false e = fixed_by before after id (alike.fixed id e)

  pub same_test : (p : ℕ → Bool) → IsTight p → (id : ℕ) → p (kind after id) ≡ p (kind before id)
  same_test p tight id = by (is_one_of loose (kind before id)) refl where
    by : (b : Bool) → is_one_of loose (kind before id) ≡ b → p (kind after id) ≡ p (kind before id)
    by true e =
        one_of-holds (λ o. p o ≡ false) loose tight (kind after id) (alike.loose_stays id e)
        ∙ sym (one_of-holds (λ o. p o ≡ false) loose tight (kind before id) e)
    by false e = ap p (fixed_by before after id (alike.fixed id e)).kinds

  -- ---- types

  pub same_void : (t : ℕ) → is_void after t ≡ is_void before t
  same_void = same_test (λ o. o == op.TYPE_VOID) (refl, (refl, (refl, (refl, tt))))

  pub same_bool : (t : ℕ) → is_bool after t ≡ is_bool before t
  same_bool = same_test (λ o. o == op.TYPE_BOOL) (refl, (refl, (refl, (refl, tt))))

  pub same_int : (t : ℕ) → is_int after t ≡ is_int before t
  same_int = same_test (λ o. o == op.TYPE_INT) (refl, (refl, (refl, (refl, tt))))

  pub same_vector : (t : ℕ) → is_vector after t ≡ is_vector before t
  same_vector = same_test (λ o. o == op.TYPE_VECTOR) (refl, (refl, (refl, (refl, tt))))

  pub same_array : (t : ℕ) → is_array after t ≡ is_array before t
  same_array = same_test (λ o. o == op.TYPE_ARRAY) (refl, (refl, (refl, (refl, tt))))

  pub same_runtime_array : (t : ℕ) → is_runtime_array after t ≡ is_runtime_array before t
  same_runtime_array = same_test (λ o. o == op.TYPE_RUNTIME_ARRAY) (refl, (refl, (refl, (refl, tt))))

  pub same_struct : (t : ℕ) → is_struct after t ≡ is_struct before t
  same_struct = same_test (λ o. o == op.TYPE_STRUCT) (refl, (refl, (refl, (refl, tt))))

  pub same_pointer : (t : ℕ) → is_pointer after t ≡ is_pointer before t
  same_pointer = same_test (λ o. o == op.TYPE_POINTER) (refl, (refl, (refl, (refl, tt))))

  pub same_data : (t : ℕ) → is_data after t ≡ is_data before t
  same_data = same_test (is_one_of data_types) (refl, (refl, (refl, (refl, tt))))

  pub same_spec : (t : ℕ) → is_spec after t ≡ is_spec before t
  same_spec = same_test (is_one_of spec_constants) (refl, (refl, (refl, (refl, tt))))

  pub fixed_vector : (t : ℕ) → is_vector before t ≡ true → IsFixed before after t
  fixed_vector = fixed_if (λ o. o == op.TYPE_VECTOR) (refl, (refl, (refl, (refl, tt))))

  pub fixed_array : (t : ℕ) → is_array before t ≡ true → IsFixed before after t
  fixed_array = fixed_if (λ o. o == op.TYPE_ARRAY) (refl, (refl, (refl, (refl, tt))))

  pub fixed_struct : (t : ℕ) → is_struct before t ≡ true → IsFixed before after t
  fixed_struct = fixed_if (λ o. o == op.TYPE_STRUCT) (refl, (refl, (refl, (refl, tt))))

  pub fixed_pointer : (t : ℕ) → is_pointer before t ≡ true → IsFixed before after t
  fixed_pointer = fixed_if (λ o. o == op.TYPE_POINTER) (refl, (refl, (refl, (refl, tt))))

  pub fixed_constant : (id : ℕ) → is_constant before id ≡ true → IsFixed before after id
  fixed_constant id h = either (is_one_of constants (kind before id)) (kind before id == op.UNDEF) (is_outside before id) h
      (fixed_if (is_one_of constants) (refl, (refl, (refl, (refl, tt)))) id)
      (fixed_if (λ o. o == op.UNDEF) (refl, (refl, (refl, (refl, tt)))) id)
    where
      either : {P : Type 0} (a b c : Bool) → (a || (b && c)) ≡ true → (a ≡ true → P) → (b ≡ true → P) → P
      either true b c h f g = f refl
      either false true c h f g = g refl
      either false false c h f g = absurd (cc h)

  pub same_ends_open : (t : ℕ) → ends_open after t ≡ ends_open before t
  same_ends_open t =
      and_same (is_struct before t) (is_struct after t) (is_runtime_array before (last_id (members before t)))
      (is_runtime_array after (last_id (members after t))) (same_struct t)
      (λ s. ap (λ ts. is_runtime_array after (last_id ts)) ((fixed_struct t s).words 2) ∙ same_runtime_array (last_id (members before t)))

  pub same_closed : (t : ℕ) → is_closed after t ≡ is_closed before t
  same_closed t = ap₂ (λ a b. a && not b) (same_data t) (same_ends_open t)

  pub same_triple : (t : ℕ) → is_triple after t ≡ is_triple before t
  same_triple t =
      and_same (is_vector before t) (is_vector after t) (is_int before (component before t) && component_count before t == 3)
      (is_int after (component after t) && component_count after t == 3) (same_vector t)
      (λ v. ap₂ (λ c n. is_int after c && n == 3) ((fixed_vector t v).word 2) ((fixed_vector t v).word 3)
      ∙ ap (λ b. b && component_count before t == 3) (same_int (component before t)))

  -- ---- constants and variables

  pub same_constant : (id : ℕ) → is_constant after id ≡ is_constant before id
  same_constant id =
      ap₂ (λ a b. a || b) (same_test (is_one_of constants) (refl, (refl, (refl, (refl, tt)))) id)
      (ap₂ (λ a b. a && b) (same_test (λ o. o == op.UNDEF) (refl, (refl, (refl, (refl, tt)))) id) (alike.outside id))

  pub same_has_type : (t id : ℕ) → has_type after t id ≡ has_type before t id
  same_has_type t id =
      and_same (is_constant before id) (is_constant after id) (type_of before id == t) (type_of after id == t) (same_constant id)
      (λ c. ap (λ u. u == t) ((fixed_constant id c).word 1))

  pub same_variable_of : (class id : ℕ) → is_variable_of after class id ≡ is_variable_of before class id
  same_variable_of class id =
      and_same (kind before id == op.VARIABLE) (kind after id == op.VARIABLE) (word_of before id 3 == class) (word_of after id 3 == class)
      (same_test (λ o. o == op.VARIABLE) (refl, (refl, (refl, (refl, tt)))) id)
      (λ v. ap (λ c. c == class) ((fixed_if (λ o. o == op.VARIABLE) (refl, (refl, (refl, (refl, tt)))) id v).word 3))
