-- What holds in a module that breaks no rule of the third group, as statements: what ids are by their instructions is what they stand for.
use Rattle.std.specs.Prelude.{◌≡◌, ℕ, ◌<◌, ◌≤◌, ◌^◌, true, ◌==◌, ◌||◌, List, [], ◌∷◌, length, All, Some, None}
use Rattle.spv_opcodes.specs.declared.op.TheConstants as op
use Rattle.spv_module.specs.First.{first}
use Rattle.spv_module.specs.Instruction.{Instruction}
use Rattle.spv_value.specs.Eval.{AreBooleanWords}
use Rattle.spv_meaning.specs.Constants.{Table, IsType, IsConstant, meaning, pointer_at, table_of}
use Rattle.spv_meaning.specs.Meanings.{is_laid}
use Rattle.spv_meaning.specs.Types.{DataType, Integer}
use Rattle.spv_ids.specs.Ids.{kind, word_of}
use Rattle.spv_typing.specs.Kinds.{is_int, is_data, is_runtime_array, is_constant, is_outside, type_of}
use Rattle.spv_typing.specs.declared.shapes.Shape.{Shape}
use Rattle.spv_typing.specs.Operations.{shape}
use Rattle.spv_declarations.specs.Broken.{group_3}
use Rattle.spv_declarations.specs.Declarations.{declared_before, says}
use Rattle.spv_declarations.specs.Depth.{depth, is_laid_out}
use Rattle.spv_declarations.specs.Sound.{AreInstructions, WordsFit, Unbroken, IsSoundType, IsSoundConstant, IsSoundShape}

-- the words of its instructions have their parts, and it breaks no rule of the third group
pub record IsUnbroken (insts : List Instruction) : Type 0 where
  pub whole : AreInstructions insts
  pub unrefused : first (group_3 insts) ≡ None

-- the meanings of ids in a module that is not specialised
abbrev pub meanings : List Instruction → Table
meanings insts = table_of (says insts) []

-- ---- declarations

-- what the instructions declare one after the other, up to the first function, are the meanings of ids in the module
abbrev pub DeclaresMeanings : Type 0
DeclaresMeanings = (insts : List Instruction) → (declared_before insts (length insts)).table ≡ meanings insts

-- where the module breaks no rule, none of its instructions does, behind what those before it declare
abbrev pub NoneBroken : Type 0
NoneBroken = (insts : List Instruction) (k : ℕ) → first (group_3 insts) ≡ None → Unbroken insts k

-- ---- types

-- a type outside functions stands for what its instruction says
abbrev pub TypesStand : Type 0
TypesStand = (insts : List Instruction) (t : ℕ) → IsUnbroken insts → is_outside insts t ≡ true → IsSoundType insts (meanings insts) t

-- what stands for a type is a data type or a runtime array by its instruction
abbrev pub OnlyTypesStand : Type 0
OnlyTypesStand =
    (insts : List Instruction) (id : ℕ) (t : DataType) → IsUnbroken insts → meaning (meanings insts) id ≡ Some (IsType t) →
    (is_data insts id || is_runtime_array insts id) ≡ true

-- and nests at most 255 deep
abbrev pub TypesNest : Type 0
TypesNest = (insts : List Instruction) (id : ℕ) (t : DataType) → IsUnbroken insts → meaning (meanings insts) id ≡ Some (IsType t) → depth t ≤ 255

-- a scalar or a vector has from one to four components, a word each
abbrev pub ShapesStand : Type 0
ShapesStand =
    (insts : List Instruction) (t : ℕ) (s : Shape) → IsUnbroken insts → is_outside insts t ≡ true → shape insts t ≡ Some s →
    IsSoundShape insts (meanings insts) t s

-- what a global StorageBuffer, Uniform or PushConstant variable points to is laid out
abbrev pub VariablesLaid : Type 0
VariablesLaid =
    (insts : List Instruction) (id : ℕ) → IsUnbroken insts → is_outside insts id ≡ true → (kind insts id == op.VARIABLE) ≡ true →
    is_laid (word_of insts id 3) ≡ true → is_laid_out (pointer_at (meanings insts) (type_of insts id)).1 ≡ true

-- ---- constants

-- a constant outside functions has the type that its instruction names, and as many words as a value of it
abbrev pub ConstantsStand : Type 0
ConstantsStand =
    (insts : List Instruction) (id : ℕ) → IsUnbroken insts → is_outside insts id ≡ true → is_constant insts id ≡ true →
    IsSoundConstant insts (meanings insts) id

-- what stands for a constant is one by its instruction
abbrev pub OnlyConstantsStand : Type 0
OnlyConstantsStand =
    (insts : List Instruction) (id : ℕ) (t : DataType) (words : List ℕ) → IsUnbroken insts → meaning (meanings insts) id ≡ Some (IsConstant t words) →
    is_constant insts id ≡ true

-- an integer, as the length of an array is, has one word
abbrev pub IntegersHaveOneWord : Type 0
IntegersHaveOneWord =
    (insts : List Instruction) (id : ℕ) → IsUnbroken insts → is_outside insts id ≡ true → is_constant insts id ≡ true →
    is_int insts (type_of insts id) ≡ true →
    (w : ℕ) × (meaning (meanings insts) id ≡ Some (IsConstant (Integer 32 (word_of insts (type_of insts id) 3 == 1)) (w ∷ [])))

-- each word of a boolean, and of a vector of them, is 0 or 1
abbrev pub BooleansAreBits : Type 0
BooleansAreBits =
    (insts : List Instruction) (id : ℕ) (s : Shape) (t : DataType) (words : List ℕ) → IsUnbroken insts → shape insts (type_of insts id) ≡ Some s →
    s.is_boolean ≡ true → meaning (meanings insts) id ≡ Some (IsConstant t words) → AreBooleanWords words

-- each word of a constant is below 2 ^ 32 where those of the module are
abbrev pub ConstantsFit : Type 0
ConstantsFit =
    (insts : List Instruction) (id : ℕ) (t : DataType) (words : List ℕ) → IsUnbroken insts → WordsFit insts →
    meaning (meanings insts) id ≡ Some (IsConstant t words) → All (λ w. w < 2 ^ 32) words
