-- What the rules are tried on: small modules, as the words of their instructions.
use Rattle.std.specs.Prelude.{ℕ, ◌+◌, ◌*◌, zero, suc, false, List, [], ◌∷◌, ◌++◌, length, map, Option, None}
use Rattle.spv_opcodes.specs.declared.op.TheConstants as op
use Rattle.spv_opcodes.specs.declared.decoration.TheConstants as decoration
use Rattle.spv_base.specs.declared.fault.Refusal.{Refusal}
use Rattle.spv_module.specs.Instruction.{Instruction}
use Rattle.spv_meaning.specs.Constants.{Meaning, IsType, meaning}
use Rattle.spv_meaning.specs.Types.{DataType, Integer, RuntimeArray}
use Rattle.spv_declarations.specs.Broken.{group_3, rules_at}
use Rattle.spv_declarations.specs.Declarations.{declared_before}

-- an instruction of an opcode, and of the words behind its first
abbrev pub words : (opcode : ℕ) → (operands : List ℕ) → List ℕ
words opcode operands = ((length operands + 1) * 65536 + opcode) ∷ operands

-- instructions one behind the other, the first at a place
abbrev pub placed : (at : ℕ) → List (List ℕ) → List Instruction
placed at [] = []
placed at (ws ∷ rest) = record { offset = at; words = ws } ∷ placed (at + length ws) rest

-- the rules of the third group that a module breaks, in order
abbrev pub rules_in : List (List ℕ) → List ℕ
rules_in m = map (λ (r : Refusal). r.rule) (group_3 (placed 5 m))

-- %1 is an unsigned integer and %2 a boolean, %3 the number 2 and %4 true
abbrev pub scalars : List (List ℕ)
scalars =
    words op.TYPE_INT (1 ∷ 32 ∷ 0 ∷ [])
    ∷ words op.TYPE_BOOL (2 ∷ [])
    ∷ words op.CONSTANT (1 ∷ 3 ∷ 2 ∷ [])
    ∷ words op.CONSTANT_TRUE (2 ∷ 4 ∷ [])
    ∷ []

-- %7 is a number that a specialisation may give where it has a SpecId
abbrev pub spec_number : List ℕ
spec_number = words op.SPEC_CONSTANT (1 ∷ 7 ∷ 2 ∷ [])

abbrev pub spec_id : (target id : ℕ) → List ℕ
spec_id target id = words op.DECORATE (target ∷ decoration.SPEC_ID ∷ id ∷ [])

-- ---- ids

-- two constants
abbrev pub numbers : (first second : ℕ) → List (List ℕ)
numbers a b = scalars ++ words op.CONSTANT (1 ∷ a ∷ 7 ∷ []) ∷ words op.CONSTANT (1 ∷ b ∷ 8 ∷ []) ∷ []

-- a constant of the integer type in front of the types
abbrev pub number_before : (id : ℕ) → List (List ℕ)
number_before id = words op.CONSTANT (1 ∷ id ∷ 7 ∷ []) ∷ scalars

-- behind a line mark that names an id that nothing defines, nothing
abbrev pub marked : List (List ℕ)
marked = scalars ++ words op.LINE (9 ∷ 1 ∷ 1 ∷ []) ∷ []

-- ---- types

abbrev pub vector : (count : ℕ) → List (List ℕ)
vector count = scalars ++ words op.TYPE_VECTOR (5 ∷ 1 ∷ count ∷ []) ∷ []

-- another integer type
abbrev pub integers : (signedness : ℕ) → List (List ℕ)
integers signedness = scalars ++ words op.TYPE_INT (5 ∷ 32 ∷ signedness ∷ []) ∷ []

-- ---- constants

-- a vector of two integers
abbrev pub vector_of : (opcode : ℕ) → (parts : List ℕ) → List (List ℕ)
vector_of opcode parts = scalars ++ spec_number ∷ words op.TYPE_VECTOR (5 ∷ 1 ∷ 2 ∷ []) ∷ words opcode (5 ∷ 6 ∷ parts) ∷ []

-- a struct of an integer and a boolean
abbrev pub struct_of : (parts : List ℕ) → List (List ℕ)
struct_of parts = scalars ++ words op.TYPE_STRUCT (5 ∷ 1 ∷ 2 ∷ []) ∷ words op.CONSTANT_COMPOSITE (5 ∷ 6 ∷ parts) ∷ []

-- an array as long as a constant; %8 is 0, and %9 the sum of %7 and %3
abbrev pub array_of : (decorations : List (List ℕ)) (length : ℕ) (parts : List ℕ) → List (List ℕ)
array_of decorations id parts =
    decorations ++ (scalars ++ spec_number
    ∷ words op.CONSTANT (1 ∷ 8 ∷ 0 ∷ [])
    ∷ words op.SPEC_CONSTANT_OP (1 ∷ 9 ∷ op.I_ADD ∷ 7 ∷ 3 ∷ [])
    ∷ words op.TYPE_ARRAY (5 ∷ 1 ∷ id ∷ [])
    ∷ words op.SPEC_CONSTANT_COMPOSITE (5 ∷ 6 ∷ parts)
    ∷ [])

-- a constant of an opcode and of a type with no words of its own; %6 is a struct that ends in a runtime array
abbrev pub plain_of : (opcode t : ℕ) → List ℕ
plain_of opcode t = words opcode (t ∷ 12 ∷ [])

abbrev pub open_types : List (List ℕ)
open_types = scalars ++ words op.TYPE_RUNTIME_ARRAY (5 ∷ 1 ∷ []) ∷ words op.TYPE_STRUCT (6 ∷ 5 ∷ []) ∷ []

abbrev pub plain : (opcode t : ℕ) → List (List ℕ)
plain opcode t = open_types ++ plain_of opcode t ∷ []

-- and the same where a function has begun
abbrev pub plain_in_function : (opcode t : ℕ) → List (List ℕ)
plain_in_function opcode t =
    open_types
    ++ words op.TYPE_VOID (7 ∷ [])
    ∷ words op.TYPE_FUNCTION (8 ∷ 7 ∷ [])
    ∷ words op.FUNCTION (7 ∷ 9 ∷ 0 ∷ 8 ∷ [])
    ∷ plain_of opcode t
    ∷ []

-- what an id stands for behind all instructions of a module
abbrev pub declared_in : List (List ℕ) → (id : ℕ) → Option Meaning
declared_in m id = let insts = placed 5 m in meaning (declared_before insts (length insts)).table id

-- what an operation makes of two numbers
abbrev pub operation_of : (opcode t : ℕ) → List (List ℕ)
operation_of opcode t = scalars ++ words op.SPEC_CONSTANT_OP (t ∷ 5 ∷ opcode ∷ 3 ∷ 3 ∷ []) ∷ []

-- ---- decorations

abbrev pub decorated : (decorations : List (List ℕ)) → List (List ℕ)
decorated decorations = decorations ++ (scalars ++ spec_number ∷ words op.SPEC_CONSTANT (1 ∷ 8 ∷ 2 ∷ []) ∷ [])

-- ---- variables

-- a block with one member in a storage class; %5 is an array of two integers, and %8 one of two such arrays
abbrev pub block : (class member : ℕ) (decorations : List (List ℕ)) → List (List ℕ)
block class member decorations =
    decorations ++ (words op.DECORATE (6 ∷ decoration.BLOCK ∷ []) ∷ [] ++ (scalars
    ++ words op.TYPE_ARRAY (5 ∷ 1 ∷ 3 ∷ [])
    ∷ words op.TYPE_ARRAY (8 ∷ 5 ∷ 3 ∷ [])
    ∷ words op.TYPE_STRUCT (6 ∷ member ∷ [])
    ∷ words op.TYPE_POINTER (7 ∷ class ∷ 6 ∷ [])
    ∷ words op.VARIABLE (7 ∷ 9 ∷ class ∷ [])
    ∷ []))

abbrev pub offset : (bytes : ℕ) → List ℕ
offset bytes = words op.MEMBER_DECORATE (6 ∷ 0 ∷ decoration.OFFSET ∷ bytes ∷ [])

abbrev pub stride : (target bytes : ℕ) → List ℕ
stride target bytes = words op.DECORATE (target ∷ decoration.ARRAY_STRIDE ∷ bytes ∷ [])

-- an integer variable in a storage class, by a pointer of another or the same
abbrev pub variable : (pointer_class class : ℕ) (initialiser : List ℕ) → List (List ℕ)
variable pointer_class class initialiser =
    scalars ++ words op.TYPE_POINTER (5 ∷ pointer_class ∷ 1 ∷ []) ∷ words op.VARIABLE (5 ∷ 6 ∷ class ∷ initialiser) ∷ []

-- ---- depth

-- a type that nests so much deeper than a scalar
abbrev pub nested : (more : ℕ) → DataType
nested zero = Integer 32 false
nested (suc n) = RuntimeArray None (nested n)

-- the rules that an array breaks whose elements are such
abbrev pub rules_behind : (more : ℕ) → List ℕ
rules_behind n =
    let array = words op.TYPE_RUNTIME_ARRAY (2 ∷ 1 ∷ []) in
    rules_at (placed 5 (words op.TYPE_INT (1 ∷ 32 ∷ 0 ∷ []) ∷ array ∷ [])) (record { begun = false; table = (1, IsType (nested n)) ∷ []; specialised = [] }) 1
    (record { offset = 9; words = array })
