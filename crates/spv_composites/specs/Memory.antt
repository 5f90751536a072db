-- 501 OperandType and 502 ResultType of instructions on memory: loads, stores, pointers into pointers' targets, lengths and atomics.
use Rattle.std.specs.Option.{option_and_then, option_map, option_map_or}
use Rattle.std.specs.Prelude.{ℕ, ◌+◌, Bool, true, false, cond, ◌==◌, ◌&&◌, ◌||◌, not, is_some, List, [], ◌∷◌, length, drop, slice_index, slice_get, Option}
use Rattle.std.specs.Prelude.{Some, None}
use Rattle.std.specs.List.{list_all}
use Rattle.spv_opcodes.specs.declared.op.TheConstants as op
use Rattle.spv_module.specs.Instruction.{Instruction, opcode}
use Rattle.spv_ids.specs.Ids.{kind, word_of}
use Rattle.spv_typing.specs.Kinds.{is_one_of, is_int, is_vector, is_array, is_runtime_array, is_struct, is_pointer, is_closed, ends_open, component, element}
use Rattle.spv_typing.specs.Kinds.{members, pointer_class, pointee}
use Rattle.spv_typing.specs.Operations.{leads_to, part_behind}
use Rattle.spv_values.specs.Values.{pointer_type, is_value_of, is_ints}

-- the type that a value points to; none where the id is no value that is a pointer
abbrev pub target_of : List Instruction → (id : ℕ) → Option ℕ
target_of insts id = option_map (pointee insts) (pointer_type insts id)

-- Load: a pointer to the result's type, which has no runtime array
abbrev pub has_runtime_array : List Instruction → (t : ℕ) → Bool
has_runtime_array insts t = is_runtime_array insts t || ends_open insts t

abbrev pub loads : List Instruction → (t pointer : ℕ) → Bool
loads insts t p = leads_to t (target_of insts p) && not (has_runtime_array insts t)

-- Store: a pointer, and a value of the type that it points to
abbrev pub stores : List Instruction → (pointer value : ℕ) → Bool
stores insts p v = option_map_or (λ u. is_value_of insts u v) (target_of insts p) false

-- the type of the member that a constant picks, an OpConstant below the number of members
abbrev pub member_picked : List Instruction → (t index : ℕ) → Option ℕ
member_picked insts t index = cond (kind insts index == op.CONSTANT) (slice_get (members insts t) (word_of insts index 3)) None

-- the type of the part that an index leads to: an integer, into a struct, an array, a runtime array or a vector
abbrev pub part_picked : List Instruction → (t index : ℕ) → Option ℕ
part_picked insts t index =
    cond (is_struct insts t) (member_picked insts t index)
    (cond (is_array insts t || is_runtime_array insts t) (Some (element insts t))
    (cond (is_vector insts t) (Some (component insts t)) None))

abbrev pub part_indexed : List Instruction → (t index : ℕ) → Option ℕ
part_indexed insts t index = cond (is_ints insts 1 index) (part_picked insts t index) None

-- the type that indexes lead to, one after the other
abbrev pub chain_along : List Instruction → (indexes : List ℕ) → (t : ℕ) → Option ℕ
chain_along insts [] t = Some t
chain_along insts (index ∷ rest) t = part_behind (chain_along insts rest) (part_indexed insts t index)

-- AccessChain, InBoundsAccessChain: a pointer, and indexes that lead on from what it points to; the result is a pointer of the same storage class to
-- the type reached
abbrev pub chain_target : List Instruction → (base : ℕ) → (indexes : List ℕ) → Option ℕ
chain_target insts base indexes = option_and_then (chain_along insts indexes) (target_of insts base)

abbrev pub has_class : List Instruction → (class base : ℕ) → Bool
has_class insts class base = option_map_or (λ u. pointer_class insts u == class) (pointer_type insts base) false

abbrev pub is_chain_to : List Instruction → (t base : ℕ) → (indexes : List ℕ) → Bool
is_chain_to insts t base indexes =
    is_pointer insts t && (has_class insts (pointer_class insts t) base && leads_to (pointee insts t) (chain_target insts base indexes))

-- ArrayLength: a pointer to a struct that ends in a runtime array, and the number of that member; the result is an unsigned integer
abbrev pub measures : List Instruction → (pointer member : ℕ) → Bool
measures insts p m = option_map_or (λ u. ends_open insts u && m + 1 == length (members insts u)) (target_of insts p) false

abbrev pub is_unsigned : List Instruction → (t : ℕ) → Bool
is_unsigned insts t = is_int insts t && word_of insts t 3 == 0

-- atomics: a pointer to an integer, and values of the type that it points to; the result is of that type
abbrev pub acts : List Instruction → (pointer : ℕ) → (values : List ℕ) → Bool
acts insts p vs = option_map_or (λ u. is_int insts u && list_all (is_value_of insts u) vs) (target_of insts p) false

-- the atomics that take their pointer first, a scope and one word of semantics next, and then a value, if any
abbrev pub atomics : List ℕ
atomics =
    op.ATOMIC_LOAD ∷ op.ATOMIC_EXCHANGE ∷ op.ATOMIC_I_INCREMENT ∷ op.ATOMIC_I_DECREMENT ∷ op.ATOMIC_I_ADD ∷ op.ATOMIC_I_SUB
    ∷ op.ATOMIC_S_MIN ∷ op.ATOMIC_U_MIN ∷ op.ATOMIC_S_MAX ∷ op.ATOMIC_U_MAX ∷ op.ATOMIC_AND ∷ op.ATOMIC_OR ∷ op.ATOMIC_XOR ∷ []

-- 501, of these instructions; every other one passes
unfoldable pub memory_operands_fit : List Instruction → Instruction → Bool
memory_operands_fit insts i =
    cond (opcode i == op.LOAD) (loads insts (slice_index i.words 1) (slice_index i.words 3))
    (cond (opcode i == op.STORE) (stores insts (slice_index i.words 1) (slice_index i.words 2))
    (cond (is_one_of (op.ACCESS_CHAIN ∷ op.IN_BOUNDS_ACCESS_CHAIN ∷ []) (opcode i)) (is_some (chain_target insts (slice_index i.words 3) (drop 4 i.words)))
    (cond (opcode i == op.ARRAY_LENGTH) (measures insts (slice_index i.words 3) (slice_index i.words 4))
    true)))

unfoldable pub atomic_operands_fit : List Instruction → Instruction → Bool
atomic_operands_fit insts i =
    cond (is_one_of atomics (opcode i)) (acts insts (slice_index i.words 3) (drop 6 i.words))
    (cond (opcode i == op.ATOMIC_COMPARE_EXCHANGE) (acts insts (slice_index i.words 3) (drop 7 i.words))
    (cond (opcode i == op.ATOMIC_STORE) (acts insts (slice_index i.words 1) (drop 4 i.words))
    true))

-- 502, of these instructions; every other one passes
unfoldable pub memory_result_fits : List Instruction → Instruction → Bool
memory_result_fits insts i =
    cond (opcode i == op.LOAD) (is_closed insts (slice_index i.words 1))
    (cond (is_one_of (op.ACCESS_CHAIN ∷ op.IN_BOUNDS_ACCESS_CHAIN ∷ []) (opcode i))
    (is_chain_to insts (slice_index i.words 1) (slice_index i.words 3) (drop 4 i.words))
    (cond (opcode i == op.ARRAY_LENGTH) (is_unsigned insts (slice_index i.words 1))
    true))

unfoldable pub atomic_result_fits : List Instruction → Instruction → Bool
atomic_result_fits insts i =
    cond (is_one_of (op.ATOMIC_COMPARE_EXCHANGE ∷ atomics) (opcode i)) (leads_to (slice_index i.words 1) (target_of insts (slice_index i.words 3))) true
