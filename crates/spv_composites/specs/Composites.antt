-- 501 OperandType and 502 ResultType of composites that are made of parts, taken apart or changed in one part, and of values that are copied or
-- come from other blocks.
use Rattle.std.specs.Option.{option_and_then, option_map, option_map_or}
use Rattle.std.specs.Prelude.{ℕ, ◌+◌, Bool, true, false, cond, ◌==◌, ◌&&◌, ◌||◌, not, nat_le, nat_lt, is_some, List, [], ◌∷◌, length, drop, slice_index}
use Rattle.std.specs.Prelude.{Option, Some, None}
use Rattle.std.specs.List.{list_all, zip}
use Rattle.spv_opcodes.specs.declared.op.TheConstants as op
use Rattle.spv_module.specs.Instruction.{Instruction, opcode}
use Rattle.spv_meaning.specs.Statements.{pairs}
use Rattle.spv_typing.specs.Kinds.{is_vector, is_array, is_struct, is_closed, ends_open, component, component_count, element, length_id, members}
use Rattle.spv_typing.specs.Operations.{part_along, leads_to, literals_lead}
use Rattle.spv_values.specs.Values.{value_type, is_value, is_value_of}
use Rattle.spv_composites.specs.Lengths.{has_known_length}
use Rattle.spv_composites.specs.Forms.{match_types}

-- how many components a type gives to a vector of components x: a scalar of x one, a vector of x its own; none where it is neither
abbrev pub components_in : List Instruction → (x t : ℕ) → Option ℕ
components_in insts x t = cond (t == x) (Some 1) (cond (is_vector insts t && component insts t == x) (Some (component_count insts t)) None)

abbrev pub components_of_value : List Instruction → (x id : ℕ) → Option ℕ
components_of_value insts x id = option_and_then (components_in insts x) (value_type insts id)

-- how many components values give together; none where one of them gives none
abbrev pub components_of : List Instruction → (x : ℕ) → (ids : List ℕ) → Option ℕ
components_of insts x [] = Some 0
components_of insts x (id ∷ ids) =
    option_and_then (λ n. option_map (λ m. n + m) (components_of insts x ids)) (components_of_value insts x id)

-- CompositeConstruct: two or more scalars and vectors that make up a vector; an array of Known length with a value for each element; a struct with a
-- value for each member
abbrev pub make_vector : List Instruction → (t : ℕ) → (ids : List ℕ) → Bool
make_vector insts t ids = nat_le 2 (length ids) && leads_to (component_count insts t) (components_of insts (component insts t) ids)

abbrev pub make_array : List Instruction → (t : ℕ) → (ids : List ℕ) → Bool
make_array insts t ids = has_known_length insts (length_id insts t) (length ids) && list_all (is_value_of insts (element insts t)) ids

abbrev pub make_struct : List Instruction → (t : ℕ) → (ids : List ℕ) → Bool
make_struct insts t ids = length (members insts t) == length ids && list_all (λ pair. is_value_of insts pair.0 pair.1) (zip (members insts t) ids)

-- a struct of which there are values
abbrev pub is_closed_struct : List Instruction → (t : ℕ) → Bool
is_closed_struct insts t = is_struct insts t && not (ends_open insts t)

abbrev pub is_composite : List Instruction → (t : ℕ) → Bool
is_composite insts t = is_vector insts t || (is_array insts t || is_closed_struct insts t)

-- of a result that is no composite nothing is asked but values
abbrev pub constructs : List Instruction → (t : ℕ) → (ids : List ℕ) → Bool
constructs insts t ids =
    cond (is_vector insts t) (make_vector insts t ids)
    (cond (is_array insts t) (make_array insts t ids)
    (cond (is_closed_struct insts t) (make_struct insts t ids)
    (list_all (is_value insts) ids)))

-- CompositeExtract: one or more literals that lead to a part of the composite; the result is of the part's type
abbrev pub part_of_value : List Instruction → (id : ℕ) → (literals : List ℕ) → Option ℕ
part_of_value insts id literals = option_and_then (part_along insts literals) (value_type insts id)

abbrev pub extracts : List Instruction → (composite : ℕ) → (literals : List ℕ) → Bool
extracts insts c literals = nat_lt 0 (length literals) && is_some (part_of_value insts c literals)

-- CompositeInsert: one or more literals that lead to a part of the composite, which is of the object's type; the result is of the composite's type
abbrev pub inserts : List Instruction → (object composite : ℕ) → (literals : List ℕ) → Bool
inserts insts o c literals = option_map_or (λ u. option_map_or (λ w. literals_lead insts literals w u) (value_type insts c) false) (value_type insts o) false

-- CopyLogical: a value of another type that matches the result's
abbrev pub copies_logically : List Instruction → (t id : ℕ) → Bool
copies_logically insts t id = option_map_or (λ u. not (u == t) && match_types insts u t) (value_type insts id) false

-- Phi: values of the result's type, each with the block that it comes from
abbrev pub merges : List Instruction → (t : ℕ) → (words : List ℕ) → Bool
merges insts t words = list_all (λ pair. is_value_of insts t pair.0) (pairs words)

-- 501, of these instructions; every other one passes
unfoldable pub composite_operands_fit : List Instruction → Instruction → Bool
composite_operands_fit insts i =
    cond (opcode i == op.COMPOSITE_CONSTRUCT) (constructs insts (slice_index i.words 1) (drop 3 i.words))
    (cond (opcode i == op.COMPOSITE_EXTRACT) (extracts insts (slice_index i.words 3) (drop 4 i.words))
    (cond (opcode i == op.COMPOSITE_INSERT) (inserts insts (slice_index i.words 3) (slice_index i.words 4) (drop 5 i.words))
    (cond (opcode i == op.COPY_OBJECT) (is_value_of insts (slice_index i.words 1) (slice_index i.words 3))
    (cond (opcode i == op.COPY_LOGICAL) (copies_logically insts (slice_index i.words 1) (slice_index i.words 3))
    (cond (opcode i == op.PHI) (merges insts (slice_index i.words 1) (drop 3 i.words))
    true)))))

-- 502, of these instructions and OpUndef; every other one passes, and so does OpCopyLogical, whose result matches its operand or breaks 501
unfoldable pub composite_result_fits : List Instruction → Instruction → Bool
composite_result_fits insts i =
    cond (opcode i == op.COMPOSITE_CONSTRUCT) (is_composite insts (slice_index i.words 1))
    (cond (opcode i == op.COMPOSITE_EXTRACT) (leads_to (slice_index i.words 1) (part_of_value insts (slice_index i.words 3) (drop 4 i.words)))
    (cond (opcode i == op.COMPOSITE_INSERT) (is_value_of insts (slice_index i.words 1) (slice_index i.words 4))
    (cond (opcode i == op.COPY_OBJECT) (is_closed insts (slice_index i.words 1))
    (cond (opcode i == op.UNDEF) (is_closed insts (slice_index i.words 1))
    (cond (opcode i == op.PHI) (is_closed insts (slice_index i.words 1))
    true)))))
