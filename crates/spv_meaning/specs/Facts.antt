-- What the definitions are tried on.
use Rattle.std.specs.Prelude.{ℕ, false, not, ◌||◌, nat_eq, List, [], ◌∷◌, ◌++◌, map, filter, Some, is_some}
use Rattle.std.specs.Map.{lookup}
use Rattle.spv_opcodes.specs.declared.op.TheConstants as op
use Rattle.spv_opcodes.specs.declared.decoration.TheConstants as decoration
use Rattle.spv_grammar.specs.Table as grammar
use Rattle.spv_module.specs.Code.{Code, code_of}
use Rattle.spv_meaning.specs.Statements as says
use Rattle.spv_meaning.specs.Statements.{Statement, rows, is_silent_opcode}
use Rattle.spv_meaning.specs.Computations.{Evaluates, Extracts, Typed}
use Rattle.spv_meaning.specs.Types.{DataType, Integer, Array, Struct, Member, NoMember}

-- ---- rows

-- the opcodes of the instruction table that have no row here and are not silent
abbrev pub without_row : List ℕ
without_row =
    filter (λ o. not (is_some (lookup (nat_eq o) rows) || is_silent_opcode o))
    (map (λ (row : ℕ × grammar.Shape). row.0)
    (grammar.module_rows ++ (grammar.type_rows ++ (grammar.flow_rows ++ (grammar.memory_rows ++ (grammar.value_rows ++ grammar.pair_rows))))))

-- ---- types and words

abbrev pub uint : DataType
uint = Integer 32 false

-- a word, and behind it two arrays of two words each, which lie apart in a buffer
abbrev pub rows_type : DataType
rows_type = Array (Some 32) 2 (Array (Some 16) 2 uint)

abbrev pub mixed_type : DataType
mixed_type = Struct (Member (Some 0) false uint (Member (Some 16) false rows_type NoMember))

abbrev pub typed : DataType → List ℕ → Typed
typed t words = record { type = t; words = words }

abbrev pub word : ℕ → Typed
word w = typed uint (w ∷ [])

-- ---- constants

-- an integer and a boolean with the SpecIds 7 and 8, an array as long as the integer, and one of length -1
abbrev pub specialising : List Statement
specialising =
    says.Decorate 25 decoration.SPEC_ID (7 ∷ [])
    ∷ says.Decorate 27 decoration.SPEC_ID (8 ∷ [])
    ∷ says.TypeInt 20 32 0
    ∷ says.TypeBool 21
    ∷ says.SpecConstant 20 25 (4 ∷ [])
    ∷ says.TypeArray 26 20 25
    ∷ says.SpecConstant 21 27 (1 ∷ [])
    ∷ says.TypeInt 28 32 1
    ∷ says.Constant 28 29 (0xFFFF_FFFF ∷ [])
    ∷ says.TypeArray 30 20 29
    ∷ []

-- what stands on those: their sum with 3, which of 4 and 3 the boolean chooses, a vector with the sum in it, its second component, a null, an undefined
-- one, an array as long as the sum; and behind the first function another value for the sum
abbrev pub composing : List Statement
composing =
    says.Decorate 25 decoration.SPEC_ID (7 ∷ [])
    ∷ says.Decorate 27 decoration.SPEC_ID (8 ∷ [])
    ∷ says.TypeInt 20 32 0
    ∷ says.TypeBool 21
    ∷ says.TypeVector 22 20 2
    ∷ says.Constant 20 24 (3 ∷ [])
    ∷ says.SpecConstant 20 25 (4 ∷ [])
    ∷ says.SpecConstant 21 27 (1 ∷ [])
    ∷ says.SpecConstantOp (Evaluates op.I_ADD) 20 31 (25 ∷ 24 ∷ [])
    ∷ says.SpecConstantOp (Evaluates op.SELECT) 20 32 (27 ∷ 25 ∷ 24 ∷ [])
    ∷ says.ConstantComposite 22 33 (24 ∷ 31 ∷ [])
    ∷ says.SpecConstantOp (Extracts (1 ∷ [])) 20 34 (33 ∷ [])
    ∷ says.ConstantNull 22 35
    ∷ says.Undef 20 36
    ∷ says.TypeArray 37 20 31
    ∷ says.Function 1
    ∷ says.Undef 20 38
    ∷ []

-- a module of an integer type, an array of two, a struct whose second member begins at byte 16, and the constant 2
abbrev pub declaring : Code
declaring = code_of (
    0x0723_0203 ∷ 0x0001_0600 ∷ 0 ∷ 9 ∷ 0
    -- OpDecorate %3 ArrayStride 8; OpMemberDecorate %4 0 Offset 0; %4 1 Offset 16
    ∷ 0x0004_0047 ∷ 3 ∷ 6 ∷ 8 ∷ 0x0005_0048 ∷ 4 ∷ 0 ∷ 35 ∷ 0 ∷ 0x0005_0048 ∷ 4 ∷ 1 ∷ 35 ∷ 16
    -- %1 = OpTypeInt 32 0; %2 = OpConstant %1 2; %3 = OpTypeArray %1 %2; %4 = OpTypeStruct %3 %1
    ∷ 0x0004_0015 ∷ 1 ∷ 32 ∷ 0 ∷ 0x0004_002B ∷ 1 ∷ 2 ∷ 2 ∷ 0x0004_001C ∷ 3 ∷ 1 ∷ 2 ∷ 0x0004_001E ∷ 4 ∷ 3 ∷ 1 ∷ [])
