-- The normal form of a function: without line marks and branch weights, an OpPhi with one pair as an OpCopyObject, blocks joined, and in the order of the
-- constructs.
use Rattle.std.specs.Prelude.{ℕ, Bool, false, cond, nat_eq, ◌==◌, List, [], ◌∷◌, ◌++◌, map, take, drop, None}
use Rattle.std.specs.List.{list_any, flat_map}
use Rattle.std.specs.Map.{lookup}
use Rattle.std.specs.Option.{unwrap_or}
use Rattle.spv_opcodes.specs.declared.op.TheConstants as op
use Rattle.spv_module.specs.Instruction.{Instruction, opcode}
use Rattle.spv_module.specs.Layout.{is_terminator}
use Rattle.spv_blocks.specs.Blocks.{Code, targets}
use Rattle.spv_blocks.specs.Cutting.{blocks_of, word, pairs}
use Rattle.spv_bodies.specs.Listing.{instruction, label_line, pair_words}
use Rattle.spv_normal.specs.Lines.{line, without_marks, before_labels, block_insts}
use Rattle.spv_normal.specs.Order.{is_front, ordered, joins, with_labels}

-- an OpPhi with one pair, as a copy of its value
abbrev pub copied : Instruction → List ℕ
copied i = instruction op.COPY_OBJECT (word i 1 ∷ word i 2 ∷ word i 3 ∷ [])

-- an OpPhi whose pairs name the labels that stay
abbrev pub renamed : (stays : ℕ → ℕ) → Instruction → List ℕ
renamed stays i = take 3 i.words ++ pair_words (map (λ pair. (pair.0, stays pair.1)) (pairs (drop 3 i.words)))

-- a line of a block, which is a front or none
abbrev pub normal_line : (stays : ℕ → ℕ) → (front : Bool) → Instruction → List ℕ
normal_line stays front i = cond (opcode i == op.PHI) (cond front (renamed stays i) (copied i)) (line i)

-- the block is joined with the next
abbrev pub joins_next : Code → (label : ℕ) → Bool
joins_next f l = list_any (joins f l) (targets f l)

-- the instructions of a block but its terminator, where that only leads to a block that is joined
abbrev pub kept : (joined : Bool) → List Instruction → List Instruction
kept joined [] = []
kept joined (i ∷ is) = cond (cond joined (is_terminator i) false) [] (i ∷ kept joined is)

-- the lines of a block; its own label stands before them where it stays
abbrev pub block_lines : List Instruction → Code → (stays : ℕ → ℕ) → ℕ × ℕ → List (List ℕ)
block_lines insts f stays b =
    cond (b.0 == b.1) (label_line b.0 ∷ []) [] ++ map (normal_line stays (is_front f b.0)) (kept (joins_next f b.0) (block_insts insts b.0))

-- the normal form of the function of these instructions
abbrev pub normal_function : List Instruction → List (List ℕ)
normal_function insts =
    let is = without_marks insts in
    let f = blocks_of is in
    let labels = with_labels f None (ordered f) in
    let stays : ℕ → ℕ = λ l. unwrap_or (lookup (nat_eq l) labels) l in
    map line (before_labels is) ++ (flat_map (block_lines is f stays) labels ++ instruction op.FUNCTION_END [] ∷ [])
