-- 303 BadType, but for types that occur twice.
use Rattle.std.specs.Prelude.{ℕ, Bool, true, false, cond, ◌==◌, ◌&&◌, ◌||◌, nat_le, List, [], ◌∷◌, drop, slice_index}
use Rattle.std.specs.List.{list_all}
use Rattle.spv_opcodes.specs.declared.op.TheConstants as op
use Rattle.spv_opcodes.specs.declared.storage_class.TheConstants as storage_class
use Rattle.spv_module.specs.Instruction.{Instruction, opcode}
use Rattle.spv_typing.specs.Kinds.{is_one_of, is_void, is_bool, is_int, is_runtime_array, is_pointer, pointer_class, is_data, is_closed, is_constant, type_of}

-- an integer is 32 wide, and its signedness is 0 or 1
abbrev pub int_fits : (width signedness : ℕ) → Bool
int_fits width signedness = width == 32 && nat_le signedness 1

-- a vector has two to four components, which are Bool or Int
abbrev pub vector_fits : List Instruction → (component count : ℕ) → Bool
vector_fits insts component count = (is_bool insts component || is_int insts component) && (nat_le 2 count && nat_le count 4)

-- an array has elements without a runtime array, and its length is an integer constant
abbrev pub array_fits : List Instruction → (element length : ℕ) → Bool
array_fits insts element length = is_closed insts element && (is_constant insts length && is_int insts (type_of insts length))

-- a struct has a member, and no member but the last is a runtime array; none has one
abbrev pub last_fits : List Instruction → (member : ℕ) → Bool
last_fits insts m = is_closed insts m || is_runtime_array insts m

abbrev pub struct_fits : List Instruction → (members : List ℕ) → Bool
struct_fits insts [] = false
struct_fits insts (m ∷ []) = last_fits insts m
struct_fits insts (m ∷ n ∷ ms) = is_closed insts m && struct_fits insts (n ∷ ms)

-- a pointer points to a data type or a runtime array
abbrev pub pointer_fits : List Instruction → (target : ℕ) → Bool
pointer_fits insts target = is_data insts target || is_runtime_array insts target

-- a parameter is of a data type, or a pointer of Function, Private or Workgroup
abbrev pub class_fits : (class : ℕ) → Bool
class_fits class = is_one_of (storage_class.FUNCTION ∷ storage_class.PRIVATE ∷ storage_class.WORKGROUP ∷ []) class

abbrev pub parameter_fits : List Instruction → (t : ℕ) → Bool
parameter_fits insts t = is_data insts t || (is_pointer insts t && class_fits (pointer_class insts t))

-- a function has a data type or void as its return type
abbrev pub function_fits : List Instruction → (result_type : ℕ) → (parameters : List ℕ) → Bool
function_fits insts result_type parameters = (is_void insts result_type || is_data insts result_type) && list_all (parameter_fits insts) parameters

-- a type is made of what it may be made of; every other instruction passes
unfoldable pub type_fits : List Instruction → Instruction → Bool
type_fits insts i =
    cond (opcode i == op.TYPE_INT) (int_fits (slice_index i.words 2) (slice_index i.words 3))
    (cond (opcode i == op.TYPE_VECTOR) (vector_fits insts (slice_index i.words 2) (slice_index i.words 3))
    (cond (opcode i == op.TYPE_ARRAY) (array_fits insts (slice_index i.words 2) (slice_index i.words 3))
    (cond (opcode i == op.TYPE_RUNTIME_ARRAY) (is_closed insts (slice_index i.words 2))
    (cond (opcode i == op.TYPE_STRUCT) (struct_fits insts (drop 2 i.words))
    (cond (opcode i == op.TYPE_POINTER) (pointer_fits insts (slice_index i.words 3))
    (cond (opcode i == op.TYPE_FUNCTION) (function_fits insts (slice_index i.words 2) (drop 3 i.words))
    true))))))
