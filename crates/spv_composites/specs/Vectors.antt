-- 501 OperandType and 502 ResultType of vectors of which components are taken or set by an index, or picked by literals.
use Rattle.std.specs.Option.{option_and_then, option_map_or}
use Rattle.std.specs.Prelude.{ℕ, ◌+◌, Bool, true, false, cond, ◌==◌, ◌&&◌, ◌||◌, not, List, is_some, length, drop, slice_index, Option, Some, None}
use Rattle.spv_opcodes.specs.declared.op.TheConstants as op
use Rattle.spv_module.specs.Instruction.{Instruction, opcode}
use Rattle.spv_typing.specs.Kinds.{is_vector, component, component_count}
use Rattle.spv_typing.specs.Operations.{all_pick}
use Rattle.spv_values.specs.Values.{value_type, is_value, is_value_of, is_ints}

-- the type of a value that is a vector; none where the id is no such value
abbrev pub as_vector : List Instruction → (t : ℕ) → Option ℕ
as_vector insts t = cond (is_vector insts t) (Some t) None

abbrev pub vector_type : List Instruction → (id : ℕ) → Option ℕ
vector_type insts id = option_and_then (as_vector insts) (value_type insts id)

-- VectorExtractDynamic: a vector and an integer; the result is of the vector's component type
abbrev pub takes_component : List Instruction → (vector index : ℕ) → Bool
takes_component insts v index = is_some (vector_type insts v) && is_ints insts 1 index

abbrev pub is_component_of : List Instruction → (vector t : ℕ) → Bool
is_component_of insts v t = option_map_or (λ u. component insts u == t) (vector_type insts v) false

-- VectorInsertDynamic: a vector of the result's type, a value of its component type and an integer. A result that is no vector has no component type.
abbrev pub is_component_for : List Instruction → (t id : ℕ) → Bool
is_component_for insts t id = cond (is_vector insts t) (is_value_of insts (component insts t) id) (is_value insts id)

abbrev pub sets_component : List Instruction → (t vector component index : ℕ) → Bool
sets_component insts t v x index = is_value_of insts t v && (is_component_for insts t x && is_ints insts 1 index)

-- VectorShuffle: two vectors of one component type, that of the result, and a literal for each component of the result. Nothing is asked of a result
-- that is no vector.
abbrev pub suits_shuffle : List Instruction → (t component count : ℕ) → Bool
suits_shuffle insts t x n = not (is_vector insts t) || (component insts t == x && component_count insts t == n)

abbrev pub shuffles_types : List Instruction → (t first second : ℕ) → (literals : List ℕ) → Bool
shuffles_types insts t u w literals =
    component insts u == component insts w
    && (all_pick (component_count insts u + component_count insts w) literals && suits_shuffle insts t (component insts u) (length literals))

abbrev pub shuffles : List Instruction → (t first second : ℕ) → (literals : List ℕ) → Bool
shuffles insts t a b literals =
    option_map_or (λ u. option_map_or (λ w. shuffles_types insts t u w literals) (vector_type insts b) false) (vector_type insts a) false

-- 501, of these instructions; every other one passes
unfoldable pub vector_operands_fit : List Instruction → Instruction → Bool
vector_operands_fit insts i =
    cond (opcode i == op.VECTOR_EXTRACT_DYNAMIC) (takes_component insts (slice_index i.words 3) (slice_index i.words 4))
    (cond (opcode i == op.VECTOR_INSERT_DYNAMIC)
    (sets_component insts (slice_index i.words 1) (slice_index i.words 3) (slice_index i.words 4) (slice_index i.words 5))
    (cond (opcode i == op.VECTOR_SHUFFLE) (shuffles insts (slice_index i.words 1) (slice_index i.words 3) (slice_index i.words 4) (drop 5 i.words))
    true))

-- 502, of these instructions; every other one passes
unfoldable pub vector_result_fits : List Instruction → Instruction → Bool
vector_result_fits insts i =
    cond (opcode i == op.VECTOR_EXTRACT_DYNAMIC) (is_component_of insts (slice_index i.words 3) (slice_index i.words 1))
    (cond (opcode i == op.VECTOR_INSERT_DYNAMIC) (is_vector insts (slice_index i.words 1))
    (cond (opcode i == op.VECTOR_SHUFFLE) (is_vector insts (slice_index i.words 1))
    true))
