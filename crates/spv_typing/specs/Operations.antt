-- 305 BadSpecOp: what OpSpecConstantOp may compute of constants.
use Rattle.std.specs.Prelude.{ℕ, ◌+◌, Bool, true, false, cond, ◌==◌, ◌&&◌, ◌||◌, not, nat_lt, nat_eq, is_some, List, [], ◌∷◌, length, drop, slice_index, slice_get, Option, Some, None}
use Rattle.std.specs.List.{list_all}
use Rattle.std.specs.Map.{lookup}
use Rattle.spv_opcodes.specs.declared.op.TheConstants as op
use Rattle.spv_module.specs.Instruction.{Instruction, opcode}
pub use Rattle.spv_typing.specs.declared.operations.Form.{Form}
pub use Rattle.spv_typing.specs.declared.operations.Form.TheVariants.{Ints, Bools, Compares, Selects, Shuffles, Extracts, Inserts}
pub use Rattle.spv_typing.specs.declared.shapes.Shape.{Shape}
use Rattle.spv_typing.specs.Kinds.{is_bool, is_int, is_vector, is_array, is_struct, component, component_count, element, members, is_constant, has_type, type_of}

-- so many components of a type: Int(c) or Bool(c); none where it is no scalar
abbrev pub of_components : List Instruction → (component count : ℕ) → Option Shape
of_components insts t count =
    cond (is_bool insts t) (Some (record { is_boolean = true; count = count })) (cond (is_int insts t) (Some (record { is_boolean = false; count = count })) None)

-- the shape of a type; none where it is no scalar or vector
abbrev pub shape : List Instruction → (t : ℕ) → Option Shape
shape insts t = cond (is_vector insts t) (of_components insts (component insts t) (component_count insts t)) (of_components insts t 1)

abbrev pub has_shape : (is_boolean : Bool) (count : ℕ) → Option Shape → Bool
has_shape is_boolean count None = false
has_shape true count (Some s) = s.is_boolean && s.count == count
has_shape false count (Some s) = not s.is_boolean && s.count == count

abbrev pub count_of : Option Shape → ℕ
count_of None = 0
count_of (Some s) = s.count

-- the type of a composite's part that literals lead to: into structs, arrays and vectors, in a struct or a vector to a part that it has
abbrev pub part_at : List Instruction → (t index : ℕ) → Option ℕ
part_at insts t index =
    cond (is_struct insts t) (slice_get (members insts t) index)
    (cond (is_array insts t) (Some (element insts t))
    (cond (is_vector insts t && nat_lt index (component_count insts t)) (Some (component insts t)) None))

abbrev pub part_behind : (ℕ → Option ℕ) → Option ℕ → Option ℕ
part_behind next None = None
part_behind next (Some t) = next t

abbrev pub part_along : List Instruction → (literals : List ℕ) → (t : ℕ) → Option ℕ
part_along insts [] t = Some t
part_along insts (index ∷ rest) t = part_behind (part_along insts rest) (part_at insts t index)

abbrev pub leads_to : (t : ℕ) → Option ℕ → Bool
leads_to t None = false
leads_to t (Some u) = u == t

-- one or more literals lead from one type to the other
abbrev pub literals_lead : List Instruction → (literals : List ℕ) → (from to : ℕ) → Bool
literals_lead insts literals from to = nat_lt 0 (length literals) && leads_to to (part_along insts literals from)

-- the operations that OpSpecConstantOp may name
abbrev pub spec_operations : List (ℕ × Form)
spec_operations =
    (op.S_NEGATE, Ints 1) ∷ (op.NOT, Ints 1)
    ∷ (op.I_ADD, Ints 2) ∷ (op.I_SUB, Ints 2) ∷ (op.I_MUL, Ints 2)
    ∷ (op.U_DIV, Ints 2) ∷ (op.S_DIV, Ints 2) ∷ (op.U_MOD, Ints 2) ∷ (op.S_REM, Ints 2) ∷ (op.S_MOD, Ints 2)
    ∷ (op.SHIFT_RIGHT_LOGICAL, Ints 2) ∷ (op.SHIFT_RIGHT_ARITHMETIC, Ints 2) ∷ (op.SHIFT_LEFT_LOGICAL, Ints 2)
    ∷ (op.BITWISE_OR, Ints 2) ∷ (op.BITWISE_XOR, Ints 2) ∷ (op.BITWISE_AND, Ints 2)
    ∷ (op.LOGICAL_NOT, Bools 1)
    ∷ (op.LOGICAL_EQUAL, Bools 2) ∷ (op.LOGICAL_NOT_EQUAL, Bools 2) ∷ (op.LOGICAL_OR, Bools 2) ∷ (op.LOGICAL_AND, Bools 2)
    ∷ (op.I_EQUAL, Compares) ∷ (op.I_NOT_EQUAL, Compares)
    ∷ (op.U_GREATER_THAN, Compares) ∷ (op.S_GREATER_THAN, Compares) ∷ (op.U_GREATER_THAN_EQUAL, Compares) ∷ (op.S_GREATER_THAN_EQUAL, Compares)
    ∷ (op.U_LESS_THAN, Compares) ∷ (op.S_LESS_THAN, Compares) ∷ (op.U_LESS_THAN_EQUAL, Compares) ∷ (op.S_LESS_THAN_EQUAL, Compares)
    ∷ (op.SELECT, Selects) ∷ (op.VECTOR_SHUFFLE, Shuffles) ∷ (op.COMPOSITE_EXTRACT, Extracts) ∷ (op.COMPOSITE_INSERT, Inserts) ∷ []

abbrev pub form_of : (opcode : ℕ) → Option Form
form_of opcode = lookup (nat_eq opcode) spec_operations

-- each is a constant of this shape
abbrev pub all_shaped : List Instruction → (is_boolean : Bool) (count : ℕ) → (ids : List ℕ) → Bool
all_shaped insts is_boolean count ids = list_all (λ id. is_constant insts id && has_shape is_boolean count (shape insts (type_of insts id))) ids

-- so many constants, Bool(c) or else Int(c), and a result, Bool(c) or else Int(c)
abbrev pub components_fit : List Instruction → (operands : ℕ) (of_booleans gives_booleans : Bool) (t : ℕ) → (ids : List ℕ) → Bool
components_fit insts n of_booleans gives_booleans t ids =
    length ids == n
    && (has_shape gives_booleans (count_of (shape insts t)) (shape insts t) && all_shaped insts of_booleans (count_of (shape insts t)) ids)

-- a constant condition: Bool(1), or Bool(c) for a result of c components
abbrev pub condition_fits : List Instruction → (count condition : ℕ) → Bool
condition_fits insts count c =
    is_constant insts c && (has_shape true 1 (shape insts (type_of insts c)) || has_shape true count (shape insts (type_of insts c)))

abbrev pub select_fits : List Instruction → (t condition first second : ℕ) → Bool
select_fits insts t c a b =
    is_some (shape insts t) && (condition_fits insts (count_of (shape insts t)) c && (has_type insts t a && has_type insts t b))

-- a constant vector of such components
abbrev pub is_vector_of : List Instruction → (component id : ℕ) → Bool
is_vector_of insts x id = is_constant insts id && (is_vector insts (type_of insts id) && component insts (type_of insts id) == x)

-- a literal of a shuffle: a component of one of two vectors, or 0xFFFFFFFF
abbrev pub picks : (components literal : ℕ) → Bool
picks n literal = nat_lt literal n || literal == 0xFFFF_FFFF

abbrev pub all_pick : (components : ℕ) → (literals : List ℕ) → Bool
all_pick n literals = list_all (picks n) literals

-- how many components two constant vectors have
abbrev pub components_of : List Instruction → (first second : ℕ) → ℕ
components_of insts a b = component_count insts (type_of insts a) + component_count insts (type_of insts b)

abbrev pub shuffle_fits : List Instruction → (t first second : ℕ) → (literals : List ℕ) → Bool
shuffle_fits insts t a b literals =
    is_vector insts t
    && (is_vector_of insts (component insts t) a
    && (is_vector_of insts (component insts t) b && (length literals == component_count insts t && all_pick (components_of insts a b) literals)))

abbrev pub extract_fits : List Instruction → (t composite : ℕ) → (literals : List ℕ) → Bool
extract_fits insts t c literals = is_some (shape insts t) && (is_constant insts c && literals_lead insts literals (type_of insts c) t)

abbrev pub insert_fits : List Instruction → (t object composite : ℕ) → (literals : List ℕ) → Bool
insert_fits insts t o c literals =
    is_some (shape insts t) && (is_constant insts o && (has_type insts t c && literals_lead insts literals t (type_of insts o)))

-- the operands are constants and fit, and so does the result's type, which is a scalar or a vector
abbrev pub operands_fit : List Instruction → Form → (t : ℕ) → (operands : List ℕ) → Bool
operands_fit insts (Ints n) t ids = components_fit insts n false false t ids
operands_fit insts (Bools n) t ids = components_fit insts n true true t ids
operands_fit insts Compares t ids = components_fit insts 2 false true t ids
operands_fit insts Selects t (c ∷ a ∷ b ∷ []) = select_fits insts t c a b
operands_fit insts Shuffles t (a ∷ b ∷ literals) = shuffle_fits insts t a b literals
operands_fit insts Extracts t (c ∷ literals) = extract_fits insts t c literals
operands_fit insts Inserts t (o ∷ c ∷ literals) = insert_fits insts t o c literals
operands_fit insts form t ids = false

abbrev pub form_fits : List Instruction → Option Form → (t : ℕ) → (operands : List ℕ) → Bool
form_fits insts None t ids = false
form_fits insts (Some form) t ids = operands_fit insts form t ids

-- an OpSpecConstantOp names an operation of these, which its operands and its result's type fit; every other instruction passes
unfoldable pub spec_op_fits : List Instruction → Instruction → Bool
spec_op_fits insts i =
    not (opcode i == op.SPEC_CONSTANT_OP) || form_fits insts (form_of (slice_index i.words 3)) (slice_index i.words 1) (drop 4 i.words)
