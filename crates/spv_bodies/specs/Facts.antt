-- Facts of small bodies, which the logic computes.
use Rattle.std.specs.Prelude.{◌≡◌, ℕ, true, List, [], ◌∷◌}
use Rattle.spv_bodies.specs.Bodies.{Front, ByBranch, InPlace, Body, Leaves, Finishes, Enters, Splits, Selects, Switches, Loops, Last, Also, Function, depth}
use Rattle.spv_bodies.specs.Listing.{listed}

abbrev pub leave : ℕ → Body
leave label = Leaves (record { target = label; values = [] })

abbrev pub plain : ℕ → Front
plain label = record { label = label; parameters = [] }

abbrev pub returns : Body
returns = Finishes (0x0001_00FD ∷ [])

-- OpFunction %1 of %2 with the type %3, and %4 its first block
abbrev pub of_body : Body → Function
of_body body = record { function = 0x0005_0036 ∷ 2 ∷ 1 ∷ 0 ∷ 3 ∷ []; parameters = []; label = 4; body = body }

-- a selection on %5 with the arms %6 and %12, which merges at %7, where the parameter %8 of type %9 is %10 or %11
abbrev pub chosen : Body
chosen =
    Selects 0 5 (Enters 6 (Leaves (record { target = 7; values = 10 ∷ [] }))) (Enters 12 (Leaves (record { target = 7; values = 11 ∷ [] })))
    (record { label = 7; parameters = record { type = 9; result_id = 8; parents = 12 ∷ [] } ∷ [] }) returns

abbrev pub chosen_lines : List (List ℕ)
chosen_lines =
    (0x0005_0036 ∷ 2 ∷ 1 ∷ 0 ∷ 3 ∷ [])
    ∷ (0x0002_00F8 ∷ 4 ∷ [])
    ∷ (0x0003_00F7 ∷ 7 ∷ 0 ∷ [])
    ∷ (0x0004_00FA ∷ 5 ∷ 6 ∷ 12 ∷ [])
    ∷ (0x0002_00F8 ∷ 6 ∷ [])
    ∷ (0x0002_00F9 ∷ 7 ∷ [])
    ∷ (0x0002_00F8 ∷ 12 ∷ [])
    ∷ (0x0002_00F9 ∷ 7 ∷ [])
    ∷ (0x0002_00F8 ∷ 7 ∷ [])
    ∷ (0x0007_00F5 ∷ 9 ∷ 8 ∷ 11 ∷ 12 ∷ 10 ∷ 6 ∷ [])
    ∷ (0x0001_00FD ∷ [])
    ∷ (0x0001_0038 ∷ [])
    ∷ []

-- a loop: header %5, whose body leaves at once where %8 holds, merge block %6, continue target %7
abbrev pub looping : Body
looping =
    Loops (ByBranch []) (plain 5) 0 (Splits 8 true (record { target = 6; values = [] }) (Enters 9 (leave 7)))
    (plain 7) (leave 5) (plain 6) returns

abbrev pub looping_lines : List (List ℕ)
looping_lines =
    (0x0005_0036 ∷ 2 ∷ 1 ∷ 0 ∷ 3 ∷ [])
    ∷ (0x0002_00F8 ∷ 4 ∷ [])
    ∷ (0x0002_00F9 ∷ 5 ∷ [])
    ∷ (0x0002_00F8 ∷ 5 ∷ [])
    ∷ (0x0004_00F6 ∷ 6 ∷ 7 ∷ 0 ∷ [])
    ∷ (0x0004_00FA ∷ 8 ∷ 6 ∷ 9 ∷ [])
    ∷ (0x0002_00F8 ∷ 9 ∷ [])
    ∷ (0x0002_00F9 ∷ 7 ∷ [])
    ∷ (0x0002_00F8 ∷ 7 ∷ [])
    ∷ (0x0002_00F9 ∷ 5 ∷ [])
    ∷ (0x0002_00F8 ∷ 6 ∷ [])
    ∷ (0x0001_00FD ∷ [])
    ∷ (0x0001_0038 ∷ [])
    ∷ []

-- a switch on %5 with a default that leaves, and the literal 1 for the arm %6
abbrev pub switched : Body
switched =
    Switches 0 5 ((1, 6) ∷ (2, 7) ∷ []) (Also (leave 7) (Last (Enters 6 looping))) (plain 7) returns

-- a loop without a body, and a selection behind it
abbrev pub followed : Body
followed = Loops (ByBranch []) (plain 20) 0 (leave 22) (plain 22) (leave 20) (plain 21) chosen

-- a selection on %5, of which one arm leaves and the other is a loop, with the header %6; it merges at %7, which is the header of a loop too, with the
-- parameter %8 of type %9: %10 from the selection and %11 from the continue part %12
abbrev pub headed : Front
headed = record { label = 7; parameters = record { type = 9; result_id = 8; parents = 4 ∷ [] } ∷ [] }

abbrev pub placed : Body
placed =
    Selects 0 5 (Leaves (record { target = 7; values = 10 ∷ [] })) (Loops (ByBranch []) (plain 6) 0 (leave 14) (plain 14) (leave 6) (plain 15) (Leaves (record { target = 7; values = 10 ∷ [] })))
    headed (Loops InPlace headed 0 (leave 12) (plain 12) (Leaves (record { target = 7; values = 11 ∷ [] })) (plain 13) returns)

abbrev pub placed_lines : List (List ℕ)
placed_lines =
    (0x0005_0036 ∷ 2 ∷ 1 ∷ 0 ∷ 3 ∷ [])
    ∷ (0x0002_00F8 ∷ 4 ∷ [])
    ∷ (0x0003_00F7 ∷ 7 ∷ 0 ∷ [])
    ∷ (0x0004_00FA ∷ 5 ∷ 7 ∷ 6 ∷ [])
    ∷ (0x0002_00F8 ∷ 6 ∷ [])
    ∷ (0x0004_00F6 ∷ 15 ∷ 14 ∷ 0 ∷ [])
    ∷ (0x0002_00F9 ∷ 14 ∷ [])
    ∷ (0x0002_00F8 ∷ 14 ∷ [])
    ∷ (0x0002_00F9 ∷ 6 ∷ [])
    ∷ (0x0002_00F8 ∷ 15 ∷ [])
    ∷ (0x0002_00F9 ∷ 7 ∷ [])
    ∷ (0x0002_00F8 ∷ 7 ∷ [])
    ∷ (0x0009_00F5 ∷ 9 ∷ 8 ∷ 10 ∷ 4 ∷ 10 ∷ 15 ∷ 11 ∷ 12 ∷ [])
    ∷ (0x0004_00F6 ∷ 13 ∷ 12 ∷ 0 ∷ [])
    ∷ (0x0002_00F9 ∷ 12 ∷ [])
    ∷ (0x0002_00F8 ∷ 12 ∷ [])
    ∷ (0x0002_00F9 ∷ 7 ∷ [])
    ∷ (0x0002_00F8 ∷ 13 ∷ [])
    ∷ (0x0001_00FD ∷ [])
    ∷ (0x0001_0038 ∷ [])
    ∷ []

-- ---- the facts

-- the arms come in their order, and branches to a merge block carry their values into its OpPhi: first from the blocks that this names, then from others
abbrev pub SelectionIsListed : Type 0
SelectionIsListed = listed (of_body chosen) ≡ chosen_lines

-- the merge instruction of a loop stands before the terminator of its header
abbrev pub LoopIsListed : Type 0
LoopIsListed = listed (of_body looping) ≡ looping_lines

-- an arm may be a loop, and a merge block the header of one: then its OpPhi take the back edge too
abbrev pub LoopsArePlaced : Type 0
LoopsArePlaced = listed (of_body placed) ≡ placed_lines

-- a selection whose arms are all exits counts for the depth, what stands behind a construct is outside it
abbrev pub DepthsAreCounted : Type 0
DepthsAreCounted = (depth returns ≡ 0) × (depth chosen ≡ 1) × (depth looping ≡ 1) × (depth followed ≡ 1) × (depth placed ≡ 2) × (depth switched ≡ 2)
