-- Facts of soundness at small functions.
use Rattle.std.specs.Prelude.{true, [], ◌∷◌}
use Rattle.spv_bodies.specs.Bodies.{Body, InPlace, Leaves, Enters, Selects, Step, Splits, Loops}
use Rattle.spv_bodies.specs.Facts.{chosen, leave, looping, of_body, placed, plain, returns}
use Rattle.spv_tree.specs.Sound.{IsSound}

-- both arms of a selection have the label %6
abbrev pub twice : Body
twice = Selects 0 5 (Enters 6 (leave 7)) (Enters 6 (leave 7)) (plain 7) returns

-- an arm leaves with no value for the parameter %8
abbrev pub valueless : Body
valueless =
    Selects 0 5 (Enters 6 (Leaves (record { target = 7; values = 10 ∷ [] }))) (Enters 12 (leave 7)) (record { label = 7; parameters = record { type = 9; result_id = 8; parents = [] } ∷ [] }) returns

-- an OpPhi in a block
abbrev pub stray : Body
stray = Step (0x0003_00F5 ∷ 9 ∷ 8 ∷ []) returns

-- what follows a conditional exit does not begin at a branch
abbrev pub falling : Body
falling = Selects 0 5 (Enters 6 (Splits 8 true (record { target = 7; values = [] }) returns)) (leave 7) (plain 7) returns

-- the merge block %7 is the header of a loop, which stands behind an OpUndef
abbrev pub late : Body
late = Selects 0 5 (leave 7) (leave 7) (plain 7) (Step (0x0003_0001 ∷ 9 ∷ 8 ∷ []) (Loops InPlace (plain 7) 0 (leave 12) (plain 12) (leave 7) (plain 13) returns))

-- a loop in place whose header %10 is not the merge block %7 before it
abbrev pub foreign : Body
foreign = Selects 0 5 (leave 7) (leave 7) (plain 7) (Loops InPlace (plain 10) 0 (leave 12) (plain 12) (leave 7) (plain 13) returns)

-- ---- the facts

abbrev pub SamplesAreSound : Type 0
SamplesAreSound = IsSound (of_body chosen) × IsSound (of_body looping) × IsSound (of_body placed)

abbrev pub OthersAreNot : Type 0
OthersAreNot =
    (¬ IsSound (of_body twice)) × (¬ IsSound (of_body valueless)) × (¬ IsSound (of_body stray)) × (¬ IsSound (of_body falling)) × (¬ IsSound (of_body (leave 7)))
    × (¬ IsSound (of_body late)) × (¬ IsSound (of_body foreign))
