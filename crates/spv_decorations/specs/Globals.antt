-- 308 BadGlobal: the variables outside functions.
use Rattle.std.specs.Prelude.{ℕ, Bool, true, false, cond, ◌==◌, ◌&&◌, ◌||◌, not, List, [], ◌∷◌, drop, slice_index, Option, Some, None}
use Rattle.spv_opcodes.specs.declared.op.TheConstants as op
use Rattle.spv_opcodes.specs.declared.decoration.TheConstants as decoration
use Rattle.spv_opcodes.specs.declared.builtin.TheConstants as builtin
use Rattle.spv_opcodes.specs.declared.storage_class.TheConstants as storage_class
use Rattle.spv_module.specs.Instruction.{Instruction, opcode}
use Rattle.spv_meaning.specs.Meanings.{is_laid}
use Rattle.spv_typing.specs.Kinds.{is_int, is_struct, is_pointer, is_runtime_array, ends_open, is_triple, pointer_class, pointee, has_type}
use Rattle.spv_decorations.specs.Decorations.{decoration_of, has_decoration}

-- the storage class is not Function, and is that of the pointer
abbrev pub class_fits : List Instruction → (t class : ℕ) → Bool
class_fits insts t class = not (class == storage_class.FUNCTION) && (is_pointer insts t && pointer_class insts t == class)

-- LocalInvocationIndex is an integer, every other built-in a vector of three
abbrev pub builtin_fits : List Instruction → (target : ℕ) → (builtin : Option ℕ) → Bool
builtin_fits insts target None = false
builtin_fits insts target (Some b) = cond (b == builtin.LOCAL_INVOCATION_INDEX) (is_int insts target) (is_triple insts target)

-- an Input variable is a built-in
abbrev pub input_fits : List Instruction → (class r target : ℕ) → Bool
input_fits insts class r target = not (class == storage_class.INPUT) || builtin_fits insts target (decoration_of insts r decoration.BUILTIN)

-- a StorageBuffer, Uniform or PushConstant variable is a struct with Block
abbrev pub block_fits : List Instruction → (class target : ℕ) → Bool
block_fits insts class target = not (is_laid class) || (is_struct insts target && has_decoration insts target decoration.BLOCK)

-- a runtime array stands in StorageBuffer alone
abbrev pub length_fits : List Instruction → (class target : ℕ) → Bool
length_fits insts class target = class == storage_class.STORAGE_BUFFER || not (is_runtime_array insts target || ends_open insts target)

-- an initialiser stands in Private alone, and is a constant of the variable's type
abbrev pub initialiser_fits : List Instruction → (class target : ℕ) → (initialiser : List ℕ) → Bool
initialiser_fits insts class target [] = true
initialiser_fits insts class target (id ∷ rest) = class == storage_class.PRIVATE && has_type insts target id

abbrev pub variable_fits : List Instruction → (t r class : ℕ) → (initialiser : List ℕ) → Bool
variable_fits insts t r class initialiser =
    class_fits insts t class
    && (input_fits insts class r (pointee insts t)
    && (block_fits insts class (pointee insts t)
    && (length_fits insts class (pointee insts t) && initialiser_fits insts class (pointee insts t) initialiser)))

-- a variable outside functions fits; every other instruction passes
unfoldable pub global_fits : List Instruction → (begun : Bool) → Instruction → Bool
global_fits insts begun i =
    begun || not (opcode i == op.VARIABLE) || variable_fits insts (slice_index i.words 1) (slice_index i.words 2) (slice_index i.words 3) (drop 4 i.words)
