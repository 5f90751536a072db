-- Facts of small functions: some are structured, and each of the others is not, for one reason.
use Rattle.std.specs.Prelude.{◌==◌, ℕ, Bool, true, false, List, [], ◌∷◌, ◌+◌, length}
use Rattle.spv_module.specs.Instruction.{Instruction}
use Rattle.spv_blocks.specs.Cutting.{blocks_of}
use Rattle.spv_walk.specs.Rules.{Broken}
use Rattle.spv_bodies.specs.Bodies.{Exit, Front, Body, ByBranch, Leaves, Enters, Selects, Splits, Switches, Loops, Last, Also}
use Rattle.spv_bodies.specs.Facts.{chosen, leave, looping, of_body, placed, placed_lines, plain, returns, switched}
use Rattle.spv_structured.specs.Structured.{IsStructured}

-- %20 is the one type that is a pointer
abbrev pub pointers : ℕ → Bool
pointers type = type == 20

abbrev pub out_to : ℕ → Exit
out_to label = record { target = label; values = [] }

-- a loop with the header %5, the continue target %7 and the merge block %6
abbrev pub loop_of : (inner continuing : Body) → Body
loop_of inner continuing = Loops (ByBranch []) (plain 5) 0 inner (plain 7) continuing (plain 6) returns

-- its body leaves at once where %8 holds, and its continue part where %10 holds, beside the branch back
abbrev pub leaving_twice : Body
leaving_twice = loop_of (Splits 8 true (out_to 6) (Enters 9 (leave 7))) (Splits 10 false (out_to 6) (leave 5))

-- both targets of a branch are one
abbrev pub one_target : Body
one_target = Selects 0 5 (leave 7) (leave 7) (plain 7) returns

-- an arm leaves the selection round its own
abbrev pub past_its_own : Body
past_its_own = Selects 0 5 (Enters 6 (Selects 0 5 (Enters 8 (leave 7)) (leave 9) (plain 9) (leave 7))) (leave 7) (plain 7) returns

-- the body of a loop branches to its own header
abbrev pub body_goes_back : Body
body_goes_back = loop_of (leave 5) (leave 5)

-- the continue part ends in two back edges, or returns where %8 holds
abbrev pub back_twice : Body
back_twice = loop_of (leave 7) (Splits 8 true (out_to 5) (Enters 9 (leave 5)))

abbrev pub returns_there : Body
returns_there = loop_of (leave 7) (Selects 0 8 (Enters 9 returns) (leave 10) (plain 10) (leave 5))

-- it leaves where %8 holds, in a branch that does not go back otherwise
abbrev pub leaves_there : Body
leaves_there = loop_of (leave 7) (Splits 8 true (out_to 6) (Enters 9 (leave 5)))

-- no target of the header's branch is the merge block
abbrev pub header_unsplit : Body
header_unsplit = loop_of (Splits 8 true (out_to 7) (Enters 9 (leave 6))) (leave 5)

-- a switch with one literal twice, and one that does not name an arm
abbrev pub literal_twice : Body
literal_twice = Switches 0 5 ((1, 6) ∷ (1, 7) ∷ []) (Also (leave 7) (Last (Enters 6 (leave 7)))) (plain 7) returns

abbrev pub arm_unnamed : Body
arm_unnamed = Switches 0 5 [] (Also (leave 7) (Last (Enters 6 (leave 7)))) (plain 7) returns

-- a parameter of a type that is a pointer, and one whose OpPhi names a block twice
abbrev pub with_parameter : Front → Body
with_parameter front =
    Selects 0 5 (Enters 6 (Leaves (record { target = 7; values = 10 ∷ [] }))) (Enters 12 (Leaves (record { target = 7; values = 11 ∷ [] }))) front returns

abbrev pub pointer_parameter : Body
pointer_parameter = with_parameter (record { label = 7; parameters = record { type = 20; result_id = 8; parents = [] } ∷ [] })

abbrev pub block_twice : Body
block_twice = with_parameter (record { label = 7; parameters = record { type = 9; result_id = 8; parents = 6 ∷ 6 ∷ [] } ∷ [] })

-- ---- the facts

abbrev pub Structured : Body → Type 0
Structured body = IsStructured pointers (of_body body)

abbrev pub SamplesAreStructured : Type 0
SamplesAreStructured = Structured chosen × Structured looping × Structured placed × Structured switched × Structured leaving_twice

abbrev pub OthersAreNotStructured : Type 0
OthersAreNotStructured =
    (¬ Structured one_target) × (¬ Structured past_its_own) × (¬ Structured body_goes_back) × (¬ Structured back_twice) × (¬ Structured returns_there)
    × (¬ Structured leaves_there) × (¬ Structured header_unsplit) × (¬ Structured literal_twice) × (¬ Structured arm_unnamed)
    × (¬ Structured pointer_parameter) × (¬ Structured block_twice)

-- these lines one after another
abbrev pub laid : (offset : ℕ) → List (List ℕ) → List Instruction
laid offset [] = []
laid offset (words ∷ lines) = record { offset = offset; words = words } ∷ laid (offset + length words) lines

-- the loop that is an arm, and the one whose header is a merge block, as they lie in a module
abbrev pub PlacedBreaksNothing : Type 0
PlacedBreaksNothing = (rule at : ℕ) → Broken pointers (blocks_of (laid 100 placed_lines)) rule at → ⊥
