-- Two modules in which ids stand for the same, but for some ids that have gone: instructions may have been dropped, and definitions may have been
-- rewritten, as long as what has a type keeps it.
use Rattle.std.specs.Prelude.{◌≡◌, ℕ, Bool, true, false, List, [], ◌∷◌, Some, None}
use Rattle.std.specs.List.{AllByRecursion}
use Rattle.spv_opcodes.specs.declared.op.TheConstants as op
use Rattle.spv_module.specs.Instruction.{Instruction}
use Rattle.spv_meaning.specs.Constants.{decorated}
use Rattle.spv_ids.specs.Ids.{definition, kind, word_of, words_of, used_ids}
use Rattle.spv_typing.specs.Kinds.{is_one_of, is_outside}
use Rattle.spv_values.specs.Values.{value_type}
use Rattle.spv_declarations.specs.Declarations.{says}
use Rattle.spv_types.specs.Lookup.{known_word}
use Rattle.spv_composites.specs.Forms.{form_at, forms}
use Rattle.spv_signatures.specs.Functions.{parameters_of}

-- the instructions whose words, or whose opcodes, the rules on others read: types, constants, sets of extended instructions, functions with their
-- parameters, and variables
abbrev pub firm_kinds : List ℕ
firm_kinds =
    op.TYPE_VOID ∷ op.TYPE_BOOL ∷ op.TYPE_INT ∷ op.TYPE_VECTOR ∷ op.TYPE_ARRAY ∷ op.TYPE_RUNTIME_ARRAY ∷ op.TYPE_STRUCT ∷ op.TYPE_POINTER ∷ op.TYPE_FUNCTION
    ∷ op.CONSTANT_TRUE ∷ op.CONSTANT_FALSE ∷ op.CONSTANT ∷ op.CONSTANT_COMPOSITE ∷ op.CONSTANT_NULL
    ∷ op.SPEC_CONSTANT_TRUE ∷ op.SPEC_CONSTANT_FALSE ∷ op.SPEC_CONSTANT ∷ op.SPEC_CONSTANT_COMPOSITE ∷ op.SPEC_CONSTANT_OP
    ∷ op.UNDEF ∷ op.EXT_INST_IMPORT ∷ op.FUNCTION ∷ op.FUNCTION_PARAMETER ∷ op.VARIABLE ∷ []

abbrev pub is_firm : List Instruction → (id : ℕ) → Bool
is_firm insts id = is_one_of firm_kinds (kind insts id)

-- the id has not gone
abbrev pub Stays : (gone : ℕ → Bool) → (id : ℕ) → Type 0
Stays gone id = gone id ≡ false

-- of ids that stay, and of 0, which is no id
pub record AreAlikeBut (gone : ℕ → Bool) (before after : List Instruction) : Type 0 where
  pub zero : Stays gone 0
  -- each value has its type, and the type stays too
  pub values : (id : ℕ) → Stays gone id → value_type after id ≡ value_type before id
  pub types : (id t : ℕ) → Stays gone id → value_type before id ≡ Some t → Stays gone t
  -- what is firm is defined by the same words, and what is not firm stays so
  pub fixed : (id : ℕ) → Stays gone id → is_firm before id ≡ true → words_of after id 0 ≡ words_of before id 0
  pub loose : (id : ℕ) → Stays gone id → is_firm before id ≡ false → is_firm after id ≡ false
  -- what the definition of a firm id uses stays
  pub taken : (id : ℕ) → Stays gone id → is_firm before id ≡ true → (i : Instruction) → definition before id ≡ Some i → AllByRecursion (Stays gone) (used_ids i)
  pub outside : (id : ℕ) → Stays gone id → is_outside after id ≡ is_outside before id
  -- the same decorations stand on it
  pub decorations : (id d : ℕ) → Stays gone id → decorated (says after) id d ≡ decorated (says before) id d
  -- the same constants are Known, and have the same words
  pub known : (id k : ℕ) → Stays gone id → known_word after id k ≡ known_word before id k
  -- types have the same forms, and functions the same parameters, which stay with their types
  pub forms : (t : ℕ) → Stays gone t → form_at (forms after) t ≡ form_at (forms before) t
  pub parameters : (f : ℕ) → Stays gone f → parameters_of after f ≡ parameters_of before f
  pub parameters_stay : (f : ℕ) → Stays gone f → AllByRecursion (λ p. Stays gone p.id × Stays gone p.ty) (parameters_of before f)
  -- of what is neither firm nor a value, as labels and strings are, the third word is the same
  pub thirds : (id : ℕ) → Stays gone id → is_firm before id ≡ false → value_type before id ≡ None → word_of after id 2 ≡ word_of before id 2
