-- What follows where no instruction so far breaks a rule: what ids are by their instructions is what they stand for.
use Rattle.std.specs.Prelude.{◌≡◌, ℕ, ◌<◌, ◌≤◌, ◌^◌, true, ◌==◌, List, [], length, slice_get, slice_index, Option, Some}
use Rattle.spv_module.specs.Instruction.{Instruction, IsInstruction, roles}
use Rattle.spv_meaning.specs.Constants.{Table, IsType, IsConstant, meaning, type_at, length_at, members_of}
use Rattle.spv_meaning.specs.Types.{Boolean, Integer, Vector, Array, RuntimeArray, Struct, cells}
use Rattle.spv_ids.specs.Ids.{is_defined_before, word_of}
use Rattle.spv_typing.specs.Kinds.{is_bool, is_int, is_vector, is_array, is_runtime_array, is_struct, type_of, component, component_count, element, length_id, members}
use Rattle.spv_typing.specs.declared.shapes.Shape.{Shape}
use Rattle.spv_declarations.specs.Broken.{rules_at}
use Rattle.spv_declarations.specs.Declarations.{declared_before, says}

-- each has the words and parts of an instruction
abbrev pub AreInstructions : List Instruction → Type 0
AreInstructions insts = (k : ℕ) (i : Instruction) → slice_get insts k ≡ Some i → IsInstruction i.words (roles i)

-- each word of each instruction is below 2 ^ 32
abbrev pub WordsFit : List Instruction → Type 0
WordsFit insts = (k : ℕ) (i : Instruction) → slice_get insts k ≡ Some i → (n : ℕ) → slice_index i.words n < 2 ^ 32

-- none of the first k breaks a rule
abbrev pub Unbroken : List Instruction → (k : ℕ) → Type 0
Unbroken insts k = (j : ℕ) (i : Instruction) → j < k → slice_get insts j ≡ Some i → rules_at insts (declared_before insts j) j i ≡ []

-- one of the first k defines the id
abbrev pub IsBefore : List Instruction → (k id : ℕ) → Type 0
IsBefore insts k id = is_defined_before insts k id ≡ true

-- the meanings of ids in front of the k-th
abbrev pub table_before : List Instruction → (k : ℕ) → Table
table_before insts k = (declared_before insts k).table

-- what a type of values is, by its instruction
pub record IsSoundType (insts : List Instruction) (table : Table) (t : ℕ) : Type 0 where
  pub boolean : is_bool insts t ≡ true → meaning table t ≡ Some (IsType Boolean)
  pub integer : is_int insts t ≡ true → meaning table t ≡ Some (IsType (Integer 32 (word_of insts t 3 == 1)))
  pub vector : is_vector insts t ≡ true → meaning table t ≡ Some (IsType (Vector (component_count insts t) (type_at table (component insts t))))
  pub array : is_array insts t ≡ true → (stride : Option ℕ) × (meaning table t ≡ Some (IsType (Array stride (length_at table (length_id insts t)) (type_at table (element insts t)))))
  pub runtime_array : is_runtime_array insts t ≡ true → (stride : Option ℕ) × (meaning table t ≡ Some (IsType (RuntimeArray stride (type_at table (element insts t)))))
  pub struct : is_struct insts t ≡ true → meaning table t ≡ Some (IsType (Struct (members_of (says insts) table t 0 (members insts t))))

-- a constant has the type that its instruction names, and as many words as a value of it
pub record IsSoundConstant (insts : List Instruction) (table : Table) (id : ℕ) : Type 0 where
  pub words : List ℕ
  pub stands : meaning table id ≡ Some (IsConstant (type_at table (type_of insts id)) words)
  pub sized : length words ≡ cells (type_at table (type_of insts id))

-- a scalar or a vector has from one to four components, a word each, and the words of booleans are 0 or 1
pub record IsSoundShape (insts : List Instruction) (table : Table) (t : ℕ) (s : Shape) : Type 0 where
  pub some : 1 ≤ s.count
  pub few : s.count ≤ 4
  pub sized : cells (type_at table t) ≡ s.count
