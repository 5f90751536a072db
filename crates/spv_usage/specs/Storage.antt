-- 504 StorageUse: variables in functions, and the storage classes that stores, atomics and OpArrayLength work on.
use Rattle.std.specs.Prelude.{ℕ, Bool, true, false, cond, ◌==◌, ◌&&◌, ◌||◌, not, nat_eq, List, [], ◌∷◌, drop, slice_index, Option}
use Rattle.std.specs.Option.{option_map, option_map_or}
use Rattle.spv_opcodes.specs.declared.op.TheConstants as op
use Rattle.spv_opcodes.specs.declared.storage_class.TheConstants as storage_class
use Rattle.spv_module.specs.Instruction.{Instruction, opcode}
use Rattle.spv_typing.specs.Kinds.{is_one_of, is_pointer, is_runtime_array, ends_open, pointer_class, pointee, has_type}
use Rattle.spv_values.specs.Values.{pointer_type}
use Rattle.spv_usage.specs.Stages.{Stage, is_outside, is_opening}

-- the storage class is Function, and that of the pointer type
abbrev pub class_fits : List Instruction → (t class : ℕ) → Bool
class_fits insts t class = class == storage_class.FUNCTION && (is_pointer insts t && pointer_class insts t == class)

-- it neither is a runtime array nor ends in one
abbrev pub length_fits : List Instruction → (target : ℕ) → Bool
length_fits insts target = not (is_runtime_array insts target || ends_open insts target)

-- an initialiser is a constant of the variable's type
abbrev pub initialiser_fits : List Instruction → (target : ℕ) → (initialiser : List ℕ) → Bool
initialiser_fits insts target [] = true
initialiser_fits insts target (id ∷ rest) = has_type insts target id

-- a variable of a function, of a pointer type and a storage class
abbrev pub variable_fits : List Instruction → (t class : ℕ) → (initialiser : List ℕ) → Bool
variable_fits insts t class initialiser =
    class_fits insts t class && (length_fits insts (pointee insts t) && initialiser_fits insts (pointee insts t) initialiser)

-- the storage class of a pointer; none where the id is no pointer
abbrev pub class_of : List Instruction → (id : ℕ) → Option ℕ
class_of insts id = option_map (pointer_class insts) (pointer_type insts id)

-- what is stored to is not Input, Uniform or PushConstant
abbrev pub store_fits : List Instruction → (pointer : ℕ) → Bool
store_fits insts pointer =
    not (option_map_or (is_one_of (storage_class.INPUT ∷ storage_class.UNIFORM ∷ storage_class.PUSH_CONSTANT ∷ [])) (class_of insts pointer) false)

-- an atomic works on StorageBuffer or Workgroup
abbrev pub atomic_fits : List Instruction → (pointer : ℕ) → Bool
atomic_fits insts pointer = option_map_or (is_one_of (storage_class.STORAGE_BUFFER ∷ storage_class.WORKGROUP ∷ [])) (class_of insts pointer) true

-- only what stands in StorageBuffer is asked for its length
abbrev pub asked_fits : List Instruction → (pointer : ℕ) → Bool
asked_fits insts pointer = option_map_or (nat_eq storage_class.STORAGE_BUFFER) (class_of insts pointer) true

-- the atomics that have a result: behind it stand a pointer, a scope and the semantics
abbrev pub atomics : List ℕ
atomics =
    op.ATOMIC_LOAD ∷ op.ATOMIC_EXCHANGE ∷ op.ATOMIC_COMPARE_EXCHANGE ∷ op.ATOMIC_I_INCREMENT ∷ op.ATOMIC_I_DECREMENT ∷ op.ATOMIC_I_ADD ∷ op.ATOMIC_I_SUB
    ∷ op.ATOMIC_S_MIN ∷ op.ATOMIC_U_MIN ∷ op.ATOMIC_S_MAX ∷ op.ATOMIC_U_MAX ∷ op.ATOMIC_AND ∷ op.ATOMIC_OR ∷ op.ATOMIC_XOR ∷ []

-- A variable in a function stands at the head of its first block, and fits; a variable outside functions is not asked. What is no pointer is of no storage
-- class that would be refused. Every other instruction passes.
unfoldable pub storage_fits : List Instruction → Stage → Instruction → Bool
storage_fits insts stage i =
    cond (opcode i == op.VARIABLE) (is_outside stage || (is_opening stage && variable_fits insts (slice_index i.words 1) (slice_index i.words 3) (drop 4 i.words)))
    (cond (opcode i == op.STORE) (store_fits insts (slice_index i.words 1))
    (cond (opcode i == op.ARRAY_LENGTH) (asked_fits insts (slice_index i.words 3))
    (cond (opcode i == op.ATOMIC_STORE) (atomic_fits insts (slice_index i.words 1))
    (cond (is_one_of atomics (opcode i)) (atomic_fits insts (slice_index i.words 3))
    true))))
