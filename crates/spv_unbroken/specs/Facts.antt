-- Facts of small functions, which tell the laws from their likely mistakes.
use Rattle.std.specs.Prelude.{◌≡◌, ℕ, [], ◌∷◌, Option}
use Rattle.spv_blocks.specs.Cutting.{blocks_of}
use Rattle.spv_walk.specs.Rules.{Broken}
use Rattle.spv_bodies.specs.Bodies.{ByBranch, Body, Leaves, Enters, Switches, Loops, Last, Also, Function}
use Rattle.spv_bodies.specs.Listing.{listed}
use Rattle.spv_bodies.specs.Facts.{leave, of_body, placed, placed_lines, plain, returns}
use Rattle.spv_tree.specs.Sound.{IsSound}
use Rattle.spv_trees.specs.Standing.{IsClosed}
use Rattle.spv_trees.specs.Facts.{Does, Left, run}
use Rattle.spv_structured.specs.Laws.{Opens}
use Rattle.spv_structured.specs.Facts.{Structured, arm_unnamed, back_twice, body_goes_back, laid, one_target, pointers}
use Rattle.spv_unbroken.specs.Pruned.{NamesLoops, pruned}
use Rattle.spv_unbroken.specs.Laws.{IsUnbroken, IsUnbrokenTree}

-- no rule is broken in the function with this body, as it is listed
abbrev pub BreaksNothing : Body → Type 0
BreaksNothing body = (rule at : ℕ) → Broken pointers (blocks_of (laid 100 (listed (of_body body)))) rule at → ⊥

-- a loop that is an arm, and one whose header is a merge block, as they lie in a module: the function %1 is unbroken
abbrev pub PlacedIsUnbroken : Type 0
PlacedIsUnbroken = IsUnbroken pointers 1 (of_body placed) (laid 100 placed_lines)

-- both targets of a branch are one; the body of a loop branches to its header; a continue part has two back edges: such sound functions break a rule
abbrev pub OthersBreakRules : Type 0
OthersBreakRules = (¬ BreaksNothing one_target) × (¬ BreaksNothing body_goes_back) × (¬ BreaksNothing back_twice)

-- the second arm leaves to %8, which no case names: the listing does not show it
abbrev pub arm_unseen : Body
arm_unseen = Switches 0 5 [] (Also (leave 7) (Last (leave 8))) (plain 7) (Switches 0 5 [] (Last (leave 8)) (plain 8) returns)

-- so a sound function that breaks no rule may not be structured, where an arm is not named
abbrev pub UnnamedArmIsNotSeen : Type 0
UnnamedArmIsNotSeen = IsSound (of_body arm_unseen) × Opens (of_body arm_unseen) × BreaksNothing arm_unseen × (¬ Structured arm_unseen)

-- without that arm
abbrev pub arm_left_out : Body
arm_left_out = Switches 0 5 [] (Last (leave 7)) (plain 7) (Switches 0 5 [] (Last (leave 8)) (plain 8) returns)

-- which is what leaving out arms that no case names makes of it; and it is an unbroken tree
abbrev pub UnseenArmIsLeftOut : Type 0
UnseenArmIsLeftOut = (pruned arm_unseen ≡ arm_left_out) × IsUnbrokenTree pointers 1 (of_body arm_unseen) (laid 100 (listed (of_body arm_unseen)))

-- where the second arm has a block of its own, %6, that is never entered (402)
abbrev pub UnnamedBlockBreaksRules : Type 0
UnnamedBlockBreaksRules = IsSound (of_body arm_unnamed) × Opens (of_body arm_unnamed) × (¬ BreaksNothing arm_unnamed)

-- and where it leaves to %8 with a value for a parameter there, the OpPhi of that names a block that does not branch there (406)
abbrev pub value_to : (target value : ℕ) → Body
value_to target value = Leaves (record { target = target; values = value ∷ [] })

abbrev pub value_unseen : Body
value_unseen =
    Switches 0 5 [] (Also (leave 7) (Last (value_to 8 10))) (plain 7)
    (Switches 0 5 [] (Last (value_to 8 11)) (record { label = 8; parameters = record { type = 9; result_id = 12; parents = [] } ∷ [] }) returns)

abbrev pub UnseenValueBreaksRules : Type 0
UnseenValueBreaksRules = IsSound (of_body value_unseen) × Opens (of_body value_unseen) × (¬ BreaksNothing value_unseen)

-- a loop with the header %20, behind which it leaves for %7
abbrev pub turns : Body
turns = Loops (ByBranch []) (plain 20) 0 (leave 22) (plain 22) (leave 20) (plain 21) (leave 7)

-- it is an arm that no case names, and the arm %6 leaves for its header; or it stands in that arm
abbrev pub loop_unseen : Body
loop_unseen = Switches 0 31 ((1, 6) ∷ []) (Also (leave 7) (Also (Enters 6 (leave 20)) (Last turns))) (plain 7) returns

abbrev pub loop_entered : Body
loop_entered = Switches 0 31 ((1, 6) ∷ []) (Also (leave 7) (Last (Enters 6 turns))) (plain 7) returns

-- Both are listed in the same instructions, which break no rule. So a sound function that breaks none may not do what the machine does there, where an arm
-- that is
-- a loop is not named, and an exit is to its header from elsewhere: the tree leaves for %20, which is no construct round that exit.
abbrev pub UnnamedLoopIsEntered : Type 0
UnnamedLoopIsEntered =
    IsSound (of_body loop_unseen) × Opens (of_body loop_unseen) × BreaksNothing loop_unseen × Structured loop_entered
    × (listed (of_body loop_unseen) ≡ listed (of_body loop_entered)) × (¬ NamesLoops loop_unseen)
    × ((functions : ℕ → Option Function) → ¬ IsClosed functions [] loop_unseen)

abbrev pub TreeLeavesForTheLoop : Type 0
TreeLeavesForTheLoop = Does (run 1 1 loop_unseen []) [] (Left 20)
