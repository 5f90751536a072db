-- One declaration more: what is known of it, and what is kept of it.
use Rattle.std.specs.Prelude.{◌≡◌, ℕ, true, false, ◌==◌, List, [], ◌∷◌, length, slice_get, slice_index, Some}
use Rattle.spv_opcodes.specs.declared.op.TheConstants as op
use Rattle.spv_module.specs.Instruction.{Instruction, opcode}
use Rattle.spv_meaning.specs.Constants.{Table, Meaning, IsConstant, meaning}
use Rattle.spv_meaning.specs.Types.{DataType, Integer}
use Rattle.spv_ids.specs.Ids.{word_of, names_unknown}
use Rattle.spv_typing.specs.Kinds.{is_one_of, type_of, is_array, length_id}
use Rattle.spv_typing.specs.Types.{type_fits}
use Rattle.spv_typing.specs.Operations.{spec_op_fits}
use Rattle.spv_declarations.specs.Constants.{constant_fits}
use Rattle.spv_declarations.specs.Declarations.{Declared, declared_before, says, entry, is_specialised}
use Rattle.spv_types.specs.Extracting.{HasNumbers, ArePartsOf, part_types}
use Rattle.spv_types.specs.Facts.{in_64_bits}
use Rattle.spv_types.specs.Meanings.{IsValue, StandsFor}
use Rattle.spv_declarations.specs.Sound.{AreInstructions, Unbroken}
use Rattle.spv_types.specs.declared.meaning.Constant.{Constant}
use Rattle.spv_types.specs.declared.meaning.Kept.{Kept}

-- the opcodes of types that are kept, and of constants
abbrev pub type_opcodes : List ℕ
type_opcodes = op.TYPE_BOOL ∷ op.TYPE_INT ∷ op.TYPE_VECTOR ∷ op.TYPE_ARRAY ∷ op.TYPE_RUNTIME_ARRAY ∷ op.TYPE_STRUCT ∷ op.TYPE_POINTER ∷ []

abbrev pub constant_opcodes : List ℕ
constant_opcodes =
    op.CONSTANT_TRUE ∷ op.CONSTANT_FALSE ∷ op.CONSTANT ∷ op.CONSTANT_COMPOSITE ∷ op.CONSTANT_NULL ∷ op.SPEC_CONSTANT_TRUE ∷ op.SPEC_CONSTANT_FALSE
    ∷ op.SPEC_CONSTANT ∷ op.SPEC_CONSTANT_COMPOSITE ∷ op.SPEC_CONSTANT_OP ∷ op.UNDEF ∷ []

-- an instruction outside functions, behind k that break no rule, that names what is declared and fits
pub record IsNext (insts : List Instruction) (k : ℕ) (i : Instruction) : Type 0 where
  pub instructions : AreInstructions insts
  pub unbroken : Unbroken insts k
  pub at : slice_get insts k ≡ Some i
  pub outside : (declared_before insts k).begun ≡ false
  pub known : names_unknown insts false k i ≡ false
  pub type : type_fits insts i ≡ true
  pub constant : constant_fits insts (declared_before insts k) i ≡ true
  pub operation : spec_op_fits insts i ≡ true

-- an id is a constant of one word, by the type that its instruction names
abbrev pub IsLength : List Instruction → Table → (id : ℕ) → Type 0
IsLength insts table id = (word : ℕ) × (meaning table id ≡ Some (IsConstant (Integer 32 (word_of insts (type_of insts id) 3 == 1)) (word ∷ [])))

-- constants of constituents
abbrev pub composites : List ℕ
composites = op.CONSTANT_COMPOSITE ∷ op.SPEC_CONSTANT_COMPOSITE ∷ []

-- where such a constant's type is an array, the array's length is a constant of one word
abbrev pub ArrayIsKnown : List Instruction → Table → Instruction → Type 0
ArrayIsKnown insts table i =
    is_one_of composites (opcode i) ≡ true → is_array insts (slice_index i.words 1) ≡ true → IsLength insts table (length_id insts (slice_index i.words 1))

-- what is kept of a type stands for what the type is; of an array's only where its length is known to be one word
pub record KeepsType (insts : List Instruction) (table : Table) (i : Instruction) (kept : Kept) : Type 0 where
  pub stands : (opcode i ≡ op.TYPE_ARRAY → IsLength insts table (slice_index i.words 3)) →
      (m : Meaning) × (entry (says insts) table i ≡ Some (slice_index i.words 1, m)) × ((whole : Table) (ids : List ℕ) (n : ℕ) → StandsFor whole ids n (slice_index i.words 1) kept m)

-- what is kept of a constant has its words and says whether it is Specialised
pub record KeepsConstant (insts : List Instruction) (d : Declared) (i : Instruction) (c : Constant) : Type 0 where
  pub type : DataType
  pub words : List ℕ
  pub stands : entry (says insts) d.table i ≡ Some (slice_index i.words 2, IsConstant type words)
  pub value : IsValue d.table (length d.table) c.value type words
  pub cells : c.cells ≡ in_64_bits (length words)
  pub flag : c.is_specialised ≡ is_specialised (says insts) d.specialised i
  -- parts that are kept are of the types of the composite's parts
  pub parts : (numbers : List ℕ) → HasNumbers c.value numbers → ArePartsOf d.table (part_types type) numbers
