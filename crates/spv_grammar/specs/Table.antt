-- The instruction table: the section and the operands of each opcode.
use Rattle.std.specs.Prelude.{ℕ, cond, ◌==◌, List, [], ◌∷◌, Option, Some, None}
use Rattle.std.specs.Option.{option_or}
use Rattle.spv_grammar.specs.declared.kind.Enumerant.TheVariants.{Capability, AddressingModel, MemoryModel, ExecutionModel, LiteralMode, IdMode, StorageClass, FunctionControl, LoopControl, SelectionControl}
use Rattle.spv_grammar.specs.declared.kind.Kind.{Kind}
use Rattle.spv_grammar.specs.declared.kind.Kind.TheVariants.{ResultType, ResultId, Id, OptionalId, Ids, IdPairs, Number, SomeNumbers, Numbers, Weights, Cases, Text, OptionalText, SetName, One, MemoryOperands, Decoration, ExtInst}
use Rattle.spv_grammar.specs.declared.table.Row.{Row}
use Rattle.spv_opcodes.specs.declared.op.TheConstants as op

-- the section that an instruction stands in (0: that of the instruction before), and its operands
pub record Shape : Type 0 where
  pub section : ℕ
  pub kinds : List Kind

abbrev pub in_section : ℕ → List Kind → Shape
in_section section kinds = record { section = section; kinds = kinds }

-- what a row of the code says
abbrev pub shape : Row → Shape
shape row = record { section = row.section; kinds = row.kinds.now }

-- the first row of an opcode
abbrev pub row_at : List (ℕ × Shape) → ℕ → Option Shape
row_at [] opcode = None
row_at (row ∷ rows) opcode = cond (opcode == row.0) (Some row.1) (row_at rows opcode)

-- Where a row has no cap of ids it has 65,535: that is any number, since an instruction has no more than 65,535 words.

-- instructions before types, and line marks
abbrev pub module_rows : List (ℕ × Shape)
module_rows =
    (op.CAPABILITY, in_section 1 ((One Capability) ∷ [])) ∷
    (op.EXT_INST_IMPORT, in_section 2 (ResultId ∷ SetName ∷ [])) ∷
    (op.MEMORY_MODEL, in_section 3 ((One AddressingModel) ∷ (One MemoryModel) ∷ [])) ∷
    (op.ENTRY_POINT, in_section 4 ((One ExecutionModel) ∷ Id ∷ Text ∷ (Ids 65535) ∷ [])) ∷
    (op.EXECUTION_MODE, in_section 5 (Id ∷ (One LiteralMode) ∷ Number ∷ Number ∷ Number ∷ [])) ∷
    (op.EXECUTION_MODE_ID, in_section 5 (Id ∷ (One IdMode) ∷ Id ∷ Id ∷ Id ∷ [])) ∷
    (op.STRING, in_section 6 (ResultId ∷ Text ∷ [])) ∷
    (op.SOURCE, in_section 6 (Number ∷ Number ∷ OptionalId ∷ OptionalText ∷ [])) ∷
    (op.SOURCE_CONTINUED, in_section 6 (Text ∷ [])) ∷
    (op.SOURCE_EXTENSION, in_section 6 (Text ∷ [])) ∷
    (op.NAME, in_section 7 (Id ∷ Text ∷ [])) ∷
    (op.MEMBER_NAME, in_section 7 (Id ∷ Number ∷ Text ∷ [])) ∷
    (op.MODULE_PROCESSED, in_section 8 (Text ∷ [])) ∷
    (op.DECORATE, in_section 9 (Id ∷ Decoration ∷ [])) ∷
    (op.MEMBER_DECORATE, in_section 9 (Id ∷ Number ∷ Decoration ∷ [])) ∷
    (op.LINE, in_section 0 (Id ∷ Number ∷ Number ∷ [])) ∷
    (op.NO_LINE, in_section 0 ([])) ∷
    []

-- types, constants and variables
abbrev pub type_rows : List (ℕ × Shape)
type_rows =
    (op.TYPE_VOID, in_section 10 (ResultId ∷ [])) ∷
    (op.TYPE_BOOL, in_section 10 (ResultId ∷ [])) ∷
    (op.TYPE_INT, in_section 10 (ResultId ∷ Number ∷ Number ∷ [])) ∷
    (op.TYPE_VECTOR, in_section 10 (ResultId ∷ Id ∷ Number ∷ [])) ∷
    (op.TYPE_ARRAY, in_section 10 (ResultId ∷ Id ∷ Id ∷ [])) ∷
    (op.TYPE_RUNTIME_ARRAY, in_section 10 (ResultId ∷ Id ∷ [])) ∷
    (op.TYPE_STRUCT, in_section 10 (ResultId ∷ (Ids 16383) ∷ [])) ∷
    (op.TYPE_POINTER, in_section 10 (ResultId ∷ (One StorageClass) ∷ Id ∷ [])) ∷
    (op.TYPE_FUNCTION, in_section 10 (ResultId ∷ Id ∷ (Ids 255) ∷ [])) ∷
    (op.CONSTANT_TRUE, in_section 10 (ResultType ∷ ResultId ∷ [])) ∷
    (op.CONSTANT_FALSE, in_section 10 (ResultType ∷ ResultId ∷ [])) ∷
    (op.CONSTANT, in_section 10 (ResultType ∷ ResultId ∷ SomeNumbers ∷ [])) ∷
    (op.CONSTANT_COMPOSITE, in_section 10 (ResultType ∷ ResultId ∷ (Ids 65535) ∷ [])) ∷
    (op.CONSTANT_NULL, in_section 10 (ResultType ∷ ResultId ∷ [])) ∷
    (op.SPEC_CONSTANT_TRUE, in_section 10 (ResultType ∷ ResultId ∷ [])) ∷
    (op.SPEC_CONSTANT_FALSE, in_section 10 (ResultType ∷ ResultId ∷ [])) ∷
    (op.SPEC_CONSTANT, in_section 10 (ResultType ∷ ResultId ∷ SomeNumbers ∷ [])) ∷
    (op.SPEC_CONSTANT_COMPOSITE, in_section 10 (ResultType ∷ ResultId ∷ (Ids 65535) ∷ [])) ∷
    (op.SPEC_CONSTANT_OP, in_section 10 (ResultType ∷ ResultId ∷ Number ∷ [])) ∷
    (op.VARIABLE, in_section 10 (ResultType ∷ ResultId ∷ (One StorageClass) ∷ OptionalId ∷ [])) ∷
    (op.UNDEF, in_section 10 (ResultType ∷ ResultId ∷ [])) ∷
    []

-- functions, blocks and control flow
abbrev pub flow_rows : List (ℕ × Shape)
flow_rows =
    (op.FUNCTION, in_section 11 (ResultType ∷ ResultId ∷ (One FunctionControl) ∷ Id ∷ [])) ∷
    (op.FUNCTION_PARAMETER, in_section 11 (ResultType ∷ ResultId ∷ [])) ∷
    (op.FUNCTION_END, in_section 11 ([])) ∷
    (op.LABEL, in_section 11 (ResultId ∷ [])) ∷
    (op.FUNCTION_CALL, in_section 11 (ResultType ∷ ResultId ∷ Id ∷ (Ids 65535) ∷ [])) ∷
    (op.PHI, in_section 11 (ResultType ∷ ResultId ∷ IdPairs ∷ [])) ∷
    (op.LOOP_MERGE, in_section 11 (Id ∷ Id ∷ (One LoopControl) ∷ [])) ∷
    (op.SELECTION_MERGE, in_section 11 (Id ∷ (One SelectionControl) ∷ [])) ∷
    (op.BRANCH, in_section 11 (Id ∷ [])) ∷
    (op.BRANCH_CONDITIONAL, in_section 11 (Id ∷ Id ∷ Id ∷ Weights ∷ [])) ∷
    (op.SWITCH, in_section 11 (Id ∷ Id ∷ (Cases 16383) ∷ [])) ∷
    (op.RETURN, in_section 11 ([])) ∷
    (op.RETURN_VALUE, in_section 11 (Id ∷ [])) ∷
    (op.UNREACHABLE, in_section 11 ([])) ∷
    []

-- loads, stores, barriers and atomics
abbrev pub memory_rows : List (ℕ × Shape)
memory_rows =
    (op.LOAD, in_section 11 (ResultType ∷ ResultId ∷ Id ∷ MemoryOperands ∷ [])) ∷
    (op.STORE, in_section 11 (Id ∷ Id ∷ MemoryOperands ∷ [])) ∷
    (op.ACCESS_CHAIN, in_section 11 (ResultType ∷ ResultId ∷ Id ∷ (Ids 255) ∷ [])) ∷
    (op.IN_BOUNDS_ACCESS_CHAIN, in_section 11 (ResultType ∷ ResultId ∷ Id ∷ (Ids 255) ∷ [])) ∷
    (op.ARRAY_LENGTH, in_section 11 (ResultType ∷ ResultId ∷ Id ∷ Number ∷ [])) ∷
    (op.CONTROL_BARRIER, in_section 11 (Id ∷ Id ∷ Id ∷ [])) ∷
    (op.MEMORY_BARRIER, in_section 11 (Id ∷ Id ∷ [])) ∷
    (op.ATOMIC_LOAD, in_section 11 (ResultType ∷ ResultId ∷ Id ∷ Id ∷ Id ∷ [])) ∷
    (op.ATOMIC_STORE, in_section 11 (Id ∷ Id ∷ Id ∷ Id ∷ [])) ∷
    (op.ATOMIC_EXCHANGE, in_section 11 (ResultType ∷ ResultId ∷ Id ∷ Id ∷ Id ∷ Id ∷ [])) ∷
    (op.ATOMIC_COMPARE_EXCHANGE, in_section 11 (ResultType ∷ ResultId ∷ Id ∷ Id ∷ Id ∷ Id ∷ Id ∷ Id ∷ [])) ∷
    (op.ATOMIC_I_INCREMENT, in_section 11 (ResultType ∷ ResultId ∷ Id ∷ Id ∷ Id ∷ [])) ∷
    (op.ATOMIC_I_DECREMENT, in_section 11 (ResultType ∷ ResultId ∷ Id ∷ Id ∷ Id ∷ [])) ∷
    (op.ATOMIC_I_ADD, in_section 11 (ResultType ∷ ResultId ∷ Id ∷ Id ∷ Id ∷ Id ∷ [])) ∷
    (op.ATOMIC_I_SUB, in_section 11 (ResultType ∷ ResultId ∷ Id ∷ Id ∷ Id ∷ Id ∷ [])) ∷
    (op.ATOMIC_S_MIN, in_section 11 (ResultType ∷ ResultId ∷ Id ∷ Id ∷ Id ∷ Id ∷ [])) ∷
    (op.ATOMIC_U_MIN, in_section 11 (ResultType ∷ ResultId ∷ Id ∷ Id ∷ Id ∷ Id ∷ [])) ∷
    (op.ATOMIC_S_MAX, in_section 11 (ResultType ∷ ResultId ∷ Id ∷ Id ∷ Id ∷ Id ∷ [])) ∷
    (op.ATOMIC_U_MAX, in_section 11 (ResultType ∷ ResultId ∷ Id ∷ Id ∷ Id ∷ Id ∷ [])) ∷
    (op.ATOMIC_AND, in_section 11 (ResultType ∷ ResultId ∷ Id ∷ Id ∷ Id ∷ Id ∷ [])) ∷
    (op.ATOMIC_OR, in_section 11 (ResultType ∷ ResultId ∷ Id ∷ Id ∷ Id ∷ Id ∷ [])) ∷
    (op.ATOMIC_XOR, in_section 11 (ResultType ∷ ResultId ∷ Id ∷ Id ∷ Id ∷ Id ∷ [])) ∷
    []

-- composites, and arithmetic of one operand or of three and more
abbrev pub value_rows : List (ℕ × Shape)
value_rows =
    (op.EXT_INST, in_section 11 (ResultType ∷ ResultId ∷ Id ∷ ExtInst ∷ [])) ∷
    (op.VECTOR_EXTRACT_DYNAMIC, in_section 11 (ResultType ∷ ResultId ∷ Id ∷ Id ∷ [])) ∷
    (op.VECTOR_INSERT_DYNAMIC, in_section 11 (ResultType ∷ ResultId ∷ Id ∷ Id ∷ Id ∷ [])) ∷
    (op.VECTOR_SHUFFLE, in_section 11 (ResultType ∷ ResultId ∷ Id ∷ Id ∷ Numbers ∷ [])) ∷
    (op.COMPOSITE_CONSTRUCT, in_section 11 (ResultType ∷ ResultId ∷ (Ids 65535) ∷ [])) ∷
    (op.COMPOSITE_EXTRACT, in_section 11 (ResultType ∷ ResultId ∷ Id ∷ Numbers ∷ [])) ∷
    (op.COMPOSITE_INSERT, in_section 11 (ResultType ∷ ResultId ∷ Id ∷ Id ∷ Numbers ∷ [])) ∷
    (op.COPY_OBJECT, in_section 11 (ResultType ∷ ResultId ∷ Id ∷ [])) ∷
    (op.COPY_LOGICAL, in_section 11 (ResultType ∷ ResultId ∷ Id ∷ [])) ∷
    (op.U_CONVERT, in_section 11 (ResultType ∷ ResultId ∷ Id ∷ [])) ∷
    (op.S_CONVERT, in_section 11 (ResultType ∷ ResultId ∷ Id ∷ [])) ∷
    (op.BITCAST, in_section 11 (ResultType ∷ ResultId ∷ Id ∷ [])) ∷
    (op.S_NEGATE, in_section 11 (ResultType ∷ ResultId ∷ Id ∷ [])) ∷
    (op.ANY, in_section 11 (ResultType ∷ ResultId ∷ Id ∷ [])) ∷
    (op.ALL, in_section 11 (ResultType ∷ ResultId ∷ Id ∷ [])) ∷
    (op.LOGICAL_NOT, in_section 11 (ResultType ∷ ResultId ∷ Id ∷ [])) ∷
    (op.NOT, in_section 11 (ResultType ∷ ResultId ∷ Id ∷ [])) ∷
    (op.BIT_REVERSE, in_section 11 (ResultType ∷ ResultId ∷ Id ∷ [])) ∷
    (op.BIT_COUNT, in_section 11 (ResultType ∷ ResultId ∷ Id ∷ [])) ∷
    (op.SELECT, in_section 11 (ResultType ∷ ResultId ∷ Id ∷ Id ∷ Id ∷ [])) ∷
    (op.BIT_FIELD_INSERT, in_section 11 (ResultType ∷ ResultId ∷ Id ∷ Id ∷ Id ∷ Id ∷ [])) ∷
    (op.BIT_FIELD_S_EXTRACT, in_section 11 (ResultType ∷ ResultId ∷ Id ∷ Id ∷ Id ∷ [])) ∷
    (op.BIT_FIELD_U_EXTRACT, in_section 11 (ResultType ∷ ResultId ∷ Id ∷ Id ∷ Id ∷ [])) ∷
    []

-- arithmetic of two operands
abbrev pub pair_rows : List (ℕ × Shape)
pair_rows =
    (op.I_ADD, in_section 11 (ResultType ∷ ResultId ∷ Id ∷ Id ∷ [])) ∷
    (op.I_SUB, in_section 11 (ResultType ∷ ResultId ∷ Id ∷ Id ∷ [])) ∷
    (op.I_MUL, in_section 11 (ResultType ∷ ResultId ∷ Id ∷ Id ∷ [])) ∷
    (op.U_DIV, in_section 11 (ResultType ∷ ResultId ∷ Id ∷ Id ∷ [])) ∷
    (op.S_DIV, in_section 11 (ResultType ∷ ResultId ∷ Id ∷ Id ∷ [])) ∷
    (op.U_MOD, in_section 11 (ResultType ∷ ResultId ∷ Id ∷ Id ∷ [])) ∷
    (op.S_REM, in_section 11 (ResultType ∷ ResultId ∷ Id ∷ Id ∷ [])) ∷
    (op.S_MOD, in_section 11 (ResultType ∷ ResultId ∷ Id ∷ Id ∷ [])) ∷
    (op.I_ADD_CARRY, in_section 11 (ResultType ∷ ResultId ∷ Id ∷ Id ∷ [])) ∷
    (op.I_SUB_BORROW, in_section 11 (ResultType ∷ ResultId ∷ Id ∷ Id ∷ [])) ∷
    (op.U_MUL_EXTENDED, in_section 11 (ResultType ∷ ResultId ∷ Id ∷ Id ∷ [])) ∷
    (op.S_MUL_EXTENDED, in_section 11 (ResultType ∷ ResultId ∷ Id ∷ Id ∷ [])) ∷
    (op.LOGICAL_EQUAL, in_section 11 (ResultType ∷ ResultId ∷ Id ∷ Id ∷ [])) ∷
    (op.LOGICAL_NOT_EQUAL, in_section 11 (ResultType ∷ ResultId ∷ Id ∷ Id ∷ [])) ∷
    (op.LOGICAL_OR, in_section 11 (ResultType ∷ ResultId ∷ Id ∷ Id ∷ [])) ∷
    (op.LOGICAL_AND, in_section 11 (ResultType ∷ ResultId ∷ Id ∷ Id ∷ [])) ∷
    (op.I_EQUAL, in_section 11 (ResultType ∷ ResultId ∷ Id ∷ Id ∷ [])) ∷
    (op.I_NOT_EQUAL, in_section 11 (ResultType ∷ ResultId ∷ Id ∷ Id ∷ [])) ∷
    (op.U_GREATER_THAN, in_section 11 (ResultType ∷ ResultId ∷ Id ∷ Id ∷ [])) ∷
    (op.S_GREATER_THAN, in_section 11 (ResultType ∷ ResultId ∷ Id ∷ Id ∷ [])) ∷
    (op.U_GREATER_THAN_EQUAL, in_section 11 (ResultType ∷ ResultId ∷ Id ∷ Id ∷ [])) ∷
    (op.S_GREATER_THAN_EQUAL, in_section 11 (ResultType ∷ ResultId ∷ Id ∷ Id ∷ [])) ∷
    (op.U_LESS_THAN, in_section 11 (ResultType ∷ ResultId ∷ Id ∷ Id ∷ [])) ∷
    (op.S_LESS_THAN, in_section 11 (ResultType ∷ ResultId ∷ Id ∷ Id ∷ [])) ∷
    (op.U_LESS_THAN_EQUAL, in_section 11 (ResultType ∷ ResultId ∷ Id ∷ Id ∷ [])) ∷
    (op.S_LESS_THAN_EQUAL, in_section 11 (ResultType ∷ ResultId ∷ Id ∷ Id ∷ [])) ∷
    (op.SHIFT_RIGHT_LOGICAL, in_section 11 (ResultType ∷ ResultId ∷ Id ∷ Id ∷ [])) ∷
    (op.SHIFT_RIGHT_ARITHMETIC, in_section 11 (ResultType ∷ ResultId ∷ Id ∷ Id ∷ [])) ∷
    (op.SHIFT_LEFT_LOGICAL, in_section 11 (ResultType ∷ ResultId ∷ Id ∷ Id ∷ [])) ∷
    (op.BITWISE_OR, in_section 11 (ResultType ∷ ResultId ∷ Id ∷ Id ∷ [])) ∷
    (op.BITWISE_XOR, in_section 11 (ResultType ∷ ResultId ∷ Id ∷ Id ∷ [])) ∷
    (op.BITWISE_AND, in_section 11 (ResultType ∷ ResultId ∷ Id ∷ Id ∷ [])) ∷
    []

-- the row of an opcode, if the profile has it
unfoldable pub row_of : ℕ → Option Shape
row_of opcode =
    option_or (row_at module_rows opcode) (option_or (row_at type_rows opcode) (option_or (row_at flow_rows opcode)
    (option_or (row_at memory_rows opcode) (option_or (row_at value_rows opcode) (row_at pair_rows opcode)))))
