-- Which ids are types, and of what: by the instructions that define them. The words of an instruction are numbered from 0, as in the SPIR-V Specification.
use Rattle.std.specs.Prelude.{ℕ, Bool, true, false, cond, ◌==◌, ◌&&◌, ◌||◌, not, nat_eq, List, [], ◌∷◌}
use Rattle.std.specs.List.{list_any}
use Rattle.spv_opcodes.specs.declared.op.TheConstants as op
use Rattle.spv_module.specs.Code.{is_function}
use Rattle.spv_module.specs.Instruction.{Instruction}
use Rattle.spv_ids.specs.Ids.{defines, kind, word_of, words_of}

abbrev pub is_one_of : List ℕ → ℕ → Bool
is_one_of xs x = list_any (nat_eq x) xs

abbrev pub is_void : List Instruction → ℕ → Bool
is_void insts t = kind insts t == op.TYPE_VOID

abbrev pub is_bool : List Instruction → ℕ → Bool
is_bool insts t = kind insts t == op.TYPE_BOOL

abbrev pub is_int : List Instruction → ℕ → Bool
is_int insts t = kind insts t == op.TYPE_INT

abbrev pub is_vector : List Instruction → ℕ → Bool
is_vector insts t = kind insts t == op.TYPE_VECTOR

abbrev pub is_array : List Instruction → ℕ → Bool
is_array insts t = kind insts t == op.TYPE_ARRAY

abbrev pub is_runtime_array : List Instruction → ℕ → Bool
is_runtime_array insts t = kind insts t == op.TYPE_RUNTIME_ARRAY

abbrev pub is_struct : List Instruction → ℕ → Bool
is_struct insts t = kind insts t == op.TYPE_STRUCT

abbrev pub is_pointer : List Instruction → ℕ → Bool
is_pointer insts t = kind insts t == op.TYPE_POINTER

-- the type of a vector's components, and their number
abbrev pub component : List Instruction → ℕ → ℕ
component insts t = word_of insts t 2

abbrev pub component_count : List Instruction → ℕ → ℕ
component_count insts t = word_of insts t 3

-- the type of an array's elements, and the id of its length
abbrev pub element : List Instruction → ℕ → ℕ
element insts t = word_of insts t 2

abbrev pub length_id : List Instruction → ℕ → ℕ
length_id insts t = word_of insts t 3

-- the types of a struct's members
abbrev pub members : List Instruction → ℕ → List ℕ
members insts t = words_of insts t 2

-- the storage class of a pointer, and the type that it points to
abbrev pub pointer_class : List Instruction → ℕ → ℕ
pointer_class insts t = word_of insts t 2

abbrev pub pointee : List Instruction → ℕ → ℕ
pointee insts t = word_of insts t 3

-- a data type: Bool, Int, Vector, Array or Struct
abbrev pub data_types : List ℕ
data_types = op.TYPE_BOOL ∷ op.TYPE_INT ∷ op.TYPE_VECTOR ∷ op.TYPE_ARRAY ∷ op.TYPE_STRUCT ∷ []

abbrev pub is_data : List Instruction → ℕ → Bool
is_data insts t = is_one_of data_types (kind insts t)

-- the last of some ids; 0, which is none, where there is none
abbrev pub last_id : List ℕ → ℕ
last_id [] = 0
last_id (x ∷ []) = x
last_id (x ∷ y ∷ ys) = last_id (y ∷ ys)

-- a struct that ends in a runtime array
abbrev pub ends_open : List Instruction → ℕ → Bool
ends_open insts t = is_struct insts t && is_runtime_array insts (last_id (members insts t))

-- a type that values have, and that may be a part of another: a data type that has no runtime array
abbrev pub is_closed : List Instruction → ℕ → Bool
is_closed insts t = is_data insts t && not (ends_open insts t)

-- a vector of three integers
abbrev pub is_triple : List Instruction → ℕ → Bool
is_triple insts t = is_vector insts t && (is_int insts (component insts t) && component_count insts t == 3)

-- ---- constants and variables

-- the type of a constant or a variable
abbrev pub type_of : List Instruction → ℕ → ℕ
type_of insts id = word_of insts id 1

-- a constant that an OpSpec instruction defines
abbrev pub spec_constants : List ℕ
spec_constants = op.SPEC_CONSTANT_TRUE ∷ op.SPEC_CONSTANT_FALSE ∷ op.SPEC_CONSTANT ∷ op.SPEC_CONSTANT_COMPOSITE ∷ op.SPEC_CONSTANT_OP ∷ []

abbrev pub is_spec : List Instruction → ℕ → Bool
is_spec insts id = is_one_of spec_constants (kind insts id)

abbrev pub constants : List ℕ
constants = op.CONSTANT_TRUE ∷ op.CONSTANT_FALSE ∷ op.CONSTANT ∷ op.CONSTANT_COMPOSITE ∷ op.CONSTANT_NULL ∷ spec_constants

-- the first instruction that defines the id stands before the first function
abbrev pub is_outside : List Instruction → ℕ → Bool
is_outside [] id = false
is_outside (i ∷ is) id = cond (is_function i) false (cond (defines id i) true (is_outside is id))

-- a constant; OpUndef outside functions is one
abbrev pub is_constant : List Instruction → ℕ → Bool
is_constant insts id = is_one_of constants (kind insts id) || (kind insts id == op.UNDEF && is_outside insts id)

-- a constant of a type
abbrev pub has_type : List Instruction → (t id : ℕ) → Bool
has_type insts t id = is_constant insts id && type_of insts id == t

-- a variable of a storage class, global or of a function
abbrev pub is_variable_of : List Instruction → (class id : ℕ) → Bool
is_variable_of insts class id = kind insts id == op.VARIABLE && word_of insts id 3 == class
