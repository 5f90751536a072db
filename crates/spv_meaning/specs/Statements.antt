-- What an instruction says to the machine.
use Rattle.std.specs.Prelude.{ℕ, ◌+◌, ◌==◌, ◌||◌, Bool, cond, nat_eq, List, [], ◌∷◌, ◌++◌, map, take, drop, slice_index, Option, Some, None}
use Rattle.std.specs.Map.{lookup}
use Rattle.spv_opcodes.specs.declared.op.TheConstants as op
use Rattle.spv_opcodes.specs.declared.execution_mode.TheConstants as execution_mode
use Rattle.spv_words.specs.Words.{bytes_of_words}
use Rattle.spv_grammar.specs.Operands.{opcode_of}
use Rattle.spv_grammar.specs.Text.{text_words, text_in}
use Rattle.spv_module.specs.Instruction.{Instruction, opcode}
use Rattle.spv_meaning.specs.Computations.{Computation, Evaluates, Extends, Shuffles, Constructs, Extracts, Inserts, ExtractsDynamic, InsertsDynamic, CopiesLogical}

-- The parts of an instruction by name. Types, results and operands are ids; t is the result's type and r the result.
pub data Statement : Type 0 where
  -- an instruction that says nothing outside functions, and that no invocation can take
  Unknown : Statement
  -- the name is in octets
  EntryPoint : (function : ℕ) (name : List ℕ) → Statement
  LocalSize : (function : ℕ) (sizes : List ℕ) → Statement
  LocalSizeId : (function : ℕ) (sizes : List ℕ) → Statement
  Decorate : (target decoration : ℕ) (literals : List ℕ) → Statement
  MemberDecorate : (target member decoration : ℕ) (literals : List ℕ) → Statement
  TypeBool : (r : ℕ) → Statement
  TypeInt : (r width signedness : ℕ) → Statement
  TypeVector : (r component count : ℕ) → Statement
  TypeArray : (r element length : ℕ) → Statement
  TypeRuntimeArray : (r element : ℕ) → Statement
  TypeStruct : (r : ℕ) (members : List ℕ) → Statement
  TypePointer : (r class target : ℕ) → Statement
  Constant : (t r : ℕ) (words : List ℕ) → Statement
  ConstantComposite : (t r : ℕ) (parts : List ℕ) → Statement
  ConstantNull : (t r : ℕ) → Statement
  -- zeros: outside functions a constant, and in a body a value
  Undef : (t r : ℕ) → Statement
  -- a constant to which a specialisation may give other words
  SpecConstant : (t r : ℕ) (words : List ℕ) → Statement
  -- what an operation makes of constants
  SpecConstantOp : (computation : Computation) (t r : ℕ) (operands : List ℕ) → Statement
  -- at most one initialiser
  Variable : (t r class : ℕ) (initialiser : List ℕ) → Statement
  Function : (r : ℕ) → Statement
  FunctionParameter : (t r : ℕ) → Statement
  FunctionEnd : Statement
  Label : (r : ℕ) → Statement
  -- pairs of a value and the block from which it comes
  Phi : (t r : ℕ) (pairs : List (ℕ × ℕ)) → Statement
  Merge : Statement
  Branch : (target : ℕ) → Statement
  BranchConditional : (condition target other : ℕ) → Statement
  -- pairs of a literal word and a target
  Switch : (selector default : ℕ) (cases : List (ℕ × ℕ)) → Statement
  Return : Statement
  ReturnValue : (value : ℕ) → Statement
  Unreachable : Statement
  FunctionCall : (t r function : ℕ) (arguments : List ℕ) → Statement
  AccessChain : (t r base : ℕ) (indexes : List ℕ) → Statement
  -- memory operands are words: a mask, and what it asks for
  Load : (t r pointer : ℕ) (memory : List ℕ) → Statement
  Store : (pointer value : ℕ) (memory : List ℕ) → Statement
  -- how many elements the runtime array has that is a member of a struct
  ArrayLength : (t r pointer member : ℕ) → Statement
  Operation : (computation : Computation) (t r : ℕ) (operands : List ℕ) → Statement
  -- the value of an id, words or a pointer
  CopyObject : (t r value : ℕ) → Statement
  ControlBarrier : (execution scope semantics : ℕ) → Statement
  MemoryBarrier : (scope semantics : ℕ) → Statement
  -- t and r are lists of at most one id; a compare and exchange has the semantics of equal and of unequal
  Atomic : (opcode : ℕ) (t r : List ℕ) (pointer scope : ℕ) (semantics values : List ℕ) → Statement

-- the string in front of some words
abbrev pub name_in : List ℕ → List ℕ
name_in ws = text_in (bytes_of_words (take (text_words ws) ws))

-- a mode of an entry point
abbrev pub mode : ℕ → ℕ → List ℕ → Statement
mode function kind literals = cond (kind == execution_mode.LOCAL_SIZE) (LocalSize function literals) Unknown

abbrev pub mode_by_ids : ℕ → ℕ → List ℕ → Statement
mode_by_ids function kind ids = cond (kind == execution_mode.LOCAL_SIZE_ID) (LocalSizeId function ids) Unknown

-- words two by two
abbrev pub pairs : List ℕ → List (ℕ × ℕ)
pairs (x ∷ y ∷ rest) = (x, y) ∷ pairs rest
pairs other = []

-- what an instruction says by the words behind its first: rows by opcode, of the opcodes that say something to the machine
abbrev pub Rows : Type 0
Rows = List (ℕ × (List ℕ → Statement))

abbrev pub module_rows : Rows
module_rows =
    (op.ENTRY_POINT, λ ws. EntryPoint (slice_index ws 1) (name_in (drop 2 ws)))
    ∷ (op.EXECUTION_MODE, λ ws. mode (slice_index ws 0) (slice_index ws 1) (drop 2 ws))
    ∷ (op.EXECUTION_MODE_ID, λ ws. mode_by_ids (slice_index ws 0) (slice_index ws 1) (drop 2 ws))
    ∷ (op.DECORATE, λ ws. Decorate (slice_index ws 0) (slice_index ws 1) (drop 2 ws))
    ∷ (op.MEMBER_DECORATE, λ ws. MemberDecorate (slice_index ws 0) (slice_index ws 1) (slice_index ws 2) (drop 3 ws))
    ∷ []

abbrev pub type_rows : Rows
type_rows =
    (op.TYPE_BOOL, λ ws. TypeBool (slice_index ws 0))
    ∷ (op.TYPE_INT, λ ws. TypeInt (slice_index ws 0) (slice_index ws 1) (slice_index ws 2))
    ∷ (op.TYPE_VECTOR, λ ws. TypeVector (slice_index ws 0) (slice_index ws 1) (slice_index ws 2))
    ∷ (op.TYPE_ARRAY, λ ws. TypeArray (slice_index ws 0) (slice_index ws 1) (slice_index ws 2))
    ∷ (op.TYPE_RUNTIME_ARRAY, λ ws. TypeRuntimeArray (slice_index ws 0) (slice_index ws 1))
    ∷ (op.TYPE_STRUCT, λ ws. TypeStruct (slice_index ws 0) (drop 1 ws))
    ∷ (op.TYPE_POINTER, λ ws. TypePointer (slice_index ws 0) (slice_index ws 1) (slice_index ws 2))
    ∷ []

abbrev pub constant_rows : Rows
constant_rows =
    (op.CONSTANT_TRUE, λ ws. Constant (slice_index ws 0) (slice_index ws 1) (1 ∷ []))
    ∷ (op.CONSTANT_FALSE, λ ws. Constant (slice_index ws 0) (slice_index ws 1) (0 ∷ []))
    ∷ (op.CONSTANT, λ ws. Constant (slice_index ws 0) (slice_index ws 1) (drop 2 ws))
    ∷ (op.CONSTANT_COMPOSITE, λ ws. ConstantComposite (slice_index ws 0) (slice_index ws 1) (drop 2 ws))
    ∷ (op.CONSTANT_NULL, λ ws. ConstantNull (slice_index ws 0) (slice_index ws 1))
    ∷ (op.SPEC_CONSTANT_TRUE, λ ws. SpecConstant (slice_index ws 0) (slice_index ws 1) (1 ∷ []))
    ∷ (op.SPEC_CONSTANT_FALSE, λ ws. SpecConstant (slice_index ws 0) (slice_index ws 1) (0 ∷ []))
    ∷ (op.SPEC_CONSTANT, λ ws. SpecConstant (slice_index ws 0) (slice_index ws 1) (drop 2 ws))
    ∷ (op.SPEC_CONSTANT_COMPOSITE, λ ws. ConstantComposite (slice_index ws 0) (slice_index ws 1) (drop 2 ws))
    ∷ (op.UNDEF, λ ws. Undef (slice_index ws 0) (slice_index ws 1))
    ∷ (op.VARIABLE, λ ws. Variable (slice_index ws 0) (slice_index ws 1) (slice_index ws 2) (drop 3 ws))
    ∷ []

abbrev pub flow_rows : Rows
flow_rows =
    (op.FUNCTION, λ ws. Function (slice_index ws 1))
    ∷ (op.FUNCTION_PARAMETER, λ ws. FunctionParameter (slice_index ws 0) (slice_index ws 1))
    ∷ (op.FUNCTION_END, λ ws. FunctionEnd)
    ∷ (op.FUNCTION_CALL, λ ws. FunctionCall (slice_index ws 0) (slice_index ws 1) (slice_index ws 2) (drop 3 ws))
    ∷ (op.LABEL, λ ws. Label (slice_index ws 0))
    ∷ (op.PHI, λ ws. Phi (slice_index ws 0) (slice_index ws 1) (pairs (drop 2 ws)))
    ∷ (op.LOOP_MERGE, λ ws. Merge)
    ∷ (op.SELECTION_MERGE, λ ws. Merge)
    ∷ (op.BRANCH, λ ws. Branch (slice_index ws 0))
    ∷ (op.BRANCH_CONDITIONAL, λ ws. BranchConditional (slice_index ws 0) (slice_index ws 1) (slice_index ws 2))
    ∷ (op.SWITCH, λ ws. Switch (slice_index ws 0) (slice_index ws 1) (pairs (drop 2 ws)))
    ∷ (op.RETURN, λ ws. Return)
    ∷ (op.RETURN_VALUE, λ ws. ReturnValue (slice_index ws 0))
    ∷ (op.UNREACHABLE, λ ws. Unreachable)
    ∷ []

-- atomics by their operands: a pointer, a scope, semantics and values
abbrev pub atomic : (opcode : ℕ) → ℕ × (List ℕ → Statement)
atomic opcode = (opcode, λ ws. Atomic opcode (take 1 ws) (take 1 (drop 1 ws)) (slice_index ws 2) (slice_index ws 3) (take 1 (drop 4 ws)) (drop 5 ws))

-- with two semantics, a value and a comparator
abbrev pub compare_exchange : List ℕ → Statement
compare_exchange ws = Atomic op.ATOMIC_COMPARE_EXCHANGE (take 1 ws) (take 1 (drop 1 ws)) (slice_index ws 2) (slice_index ws 3) (take 2 (drop 4 ws)) (drop 6 ws)

abbrev pub memory_rows : Rows
memory_rows =
    (op.ACCESS_CHAIN, λ ws. AccessChain (slice_index ws 0) (slice_index ws 1) (slice_index ws 2) (drop 3 ws))
    ∷ (op.IN_BOUNDS_ACCESS_CHAIN, λ ws. AccessChain (slice_index ws 0) (slice_index ws 1) (slice_index ws 2) (drop 3 ws))
    ∷ (op.LOAD, λ ws. Load (slice_index ws 0) (slice_index ws 1) (slice_index ws 2) (drop 3 ws))
    ∷ (op.STORE, λ ws. Store (slice_index ws 0) (slice_index ws 1) (drop 2 ws))
    ∷ (op.ARRAY_LENGTH, λ ws. ArrayLength (slice_index ws 0) (slice_index ws 1) (slice_index ws 2) (slice_index ws 3))
    ∷ (op.CONTROL_BARRIER, λ ws. ControlBarrier (slice_index ws 0) (slice_index ws 1) (slice_index ws 2))
    ∷ (op.MEMORY_BARRIER, λ ws. MemoryBarrier (slice_index ws 0) (slice_index ws 1))
    ∷ (op.ATOMIC_STORE, λ ws. Atomic op.ATOMIC_STORE [] [] (slice_index ws 0) (slice_index ws 1) (take 1 (drop 2 ws)) (drop 3 ws))
    ∷ (op.ATOMIC_COMPARE_EXCHANGE, compare_exchange)
    ∷ map atomic
    (op.ATOMIC_LOAD ∷ op.ATOMIC_EXCHANGE ∷ op.ATOMIC_I_INCREMENT ∷ op.ATOMIC_I_DECREMENT ∷ op.ATOMIC_I_ADD ∷ op.ATOMIC_I_SUB ∷ op.ATOMIC_S_MIN ∷ op.ATOMIC_U_MIN
    ∷ op.ATOMIC_S_MAX ∷ op.ATOMIC_U_MAX ∷ op.ATOMIC_AND ∷ op.ATOMIC_OR ∷ op.ATOMIC_XOR ∷ [])

-- what an instruction that has a result's type and a result computes of n ids and of what stands behind them
abbrev pub operation : (n : ℕ) → (List ℕ → Computation) → List ℕ → Statement
operation n computation ws = Operation (computation (drop (2 + n) ws)) (slice_index ws 0) (slice_index ws 1) (take n (drop 2 ws))

-- of all ids behind
abbrev pub operation_on_all : Computation → List ℕ → Statement
operation_on_all computation ws = Operation computation (slice_index ws 0) (slice_index ws 1) (drop 2 ws)

abbrev pub evaluated : (opcode : ℕ) → ℕ × (List ℕ → Statement)
evaluated opcode = (opcode, operation_on_all (Evaluates opcode))

abbrev pub operation_rows : Rows
operation_rows =
    (op.EXT_INST, λ ws. Operation (Extends (slice_index ws 3)) (slice_index ws 0) (slice_index ws 1) (drop 4 ws))
    ∷ (op.VECTOR_EXTRACT_DYNAMIC, operation_on_all ExtractsDynamic)
    ∷ (op.VECTOR_INSERT_DYNAMIC, operation_on_all InsertsDynamic)
    ∷ (op.VECTOR_SHUFFLE, operation 2 Shuffles)
    ∷ (op.COMPOSITE_CONSTRUCT, operation_on_all Constructs)
    ∷ (op.COMPOSITE_EXTRACT, operation 1 Extracts)
    ∷ (op.COMPOSITE_INSERT, operation 2 Inserts)
    ∷ (op.COPY_OBJECT, λ ws. CopyObject (slice_index ws 0) (slice_index ws 1) (slice_index ws 2))
    ∷ (op.COPY_LOGICAL, operation_on_all CopiesLogical)
    ∷ map evaluated
    (op.BITCAST ∷ op.S_NEGATE ∷ op.ANY ∷ op.ALL ∷ op.LOGICAL_NOT ∷ op.NOT ∷ op.BIT_REVERSE ∷ op.BIT_COUNT
    ∷ op.I_ADD ∷ op.I_SUB ∷ op.I_MUL ∷ op.U_DIV ∷ op.S_DIV ∷ op.U_MOD ∷ op.S_REM ∷ op.S_MOD
    ∷ op.I_ADD_CARRY ∷ op.I_SUB_BORROW ∷ op.U_MUL_EXTENDED ∷ op.S_MUL_EXTENDED
    ∷ op.LOGICAL_EQUAL ∷ op.LOGICAL_NOT_EQUAL ∷ op.LOGICAL_OR ∷ op.LOGICAL_AND
    ∷ op.I_EQUAL ∷ op.I_NOT_EQUAL ∷ op.U_GREATER_THAN ∷ op.S_GREATER_THAN ∷ op.U_GREATER_THAN_EQUAL ∷ op.S_GREATER_THAN_EQUAL
    ∷ op.U_LESS_THAN ∷ op.S_LESS_THAN ∷ op.U_LESS_THAN_EQUAL ∷ op.S_LESS_THAN_EQUAL
    ∷ op.SHIFT_RIGHT_LOGICAL ∷ op.SHIFT_RIGHT_ARITHMETIC ∷ op.SHIFT_LEFT_LOGICAL ∷ op.BITWISE_OR ∷ op.BITWISE_XOR ∷ op.BITWISE_AND
    ∷ op.SELECT ∷ op.BIT_FIELD_INSERT ∷ op.BIT_FIELD_S_EXTRACT ∷ op.BIT_FIELD_U_EXTRACT ∷ [])

abbrev pub by_row : Option (List ℕ → Statement) → List ℕ → Statement
by_row None ws = Unknown
by_row (Some row) ws = row ws

-- OpSpecConstantOp says of constants what the instruction that it names says of values
abbrev pub of_constants : Statement → Statement
of_constants (Operation computation t r operands) = SpecConstantOp computation t r operands
of_constants other = Unknown

abbrev pub spec_constant_op : List ℕ → Statement
spec_constant_op ws = of_constants (by_row (lookup (nat_eq (slice_index ws 2)) operation_rows) (take 2 ws ++ drop 3 ws))

abbrev pub rows : Rows
rows = module_rows ++ (type_rows ++ (constant_rows ++ ((op.SPEC_CONSTANT_OP, spec_constant_op) ∷ (flow_rows ++ (memory_rows ++ operation_rows)))))

-- debug instructions: strings, sources, names and what processed the module
abbrev pub is_debug_opcode : ℕ → Bool
is_debug_opcode o =
    o == op.STRING || o == op.SOURCE || o == op.SOURCE_CONTINUED || o == op.SOURCE_EXTENSION || o == op.NAME || o == op.MEMBER_NAME || o == op.MODULE_PROCESSED

abbrev pub is_debug : Instruction → Bool
is_debug i = is_debug_opcode (opcode i)

abbrev pub is_line_opcode : ℕ → Bool
is_line_opcode o = o == op.LINE || o == op.NO_LINE

-- debug instructions and line marks say nothing anywhere
abbrev pub is_silent_opcode : ℕ → Bool
is_silent_opcode o = is_debug_opcode o || is_line_opcode o

abbrev pub is_silent : Instruction → Bool
is_silent i = is_silent_opcode (opcode i)

-- what an instruction of these words says, and behind it these
abbrev pub said : List ℕ → List Statement → List Statement
said words rest =
    let o = opcode_of (slice_index words 0) in
    cond (is_silent_opcode o) rest (by_row (lookup (nat_eq o) rows) (drop 1 words) ∷ rest)

-- what instructions of these words say, one after another
unfoldable pub statements_in : List (List ℕ) → List Statement
statements_in [] = []
statements_in (words ∷ rest) = said words (statements_in rest)

-- the words of instructions, without their places
abbrev pub words_of : List Instruction → List (List ℕ)
words_of insts = map (λ i. i.words) insts
