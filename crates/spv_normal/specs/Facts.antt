-- Facts of small functions, which the logic computes.
use Rattle.std.specs.Prelude.{◌≡◌, ℕ, List, [], ◌∷◌, map}
use Rattle.spv_module.specs.Instruction.{Instruction}
use Rattle.spv_normal.specs.Normal.{normal_function}

-- instructions of these words, wherever they stand
abbrev pub written : List (List ℕ) → List Instruction
written lines = map (λ words. record { offset = 0; words = words }) lines

abbrev pub opening : List ℕ
opening = 0x0005_0036 ∷ 2 ∷ 1 ∷ 0 ∷ 3 ∷ []

abbrev pub ending : List ℕ
ending = 0x0001_0038 ∷ []

-- %4: OpBranch %5; %5: %6 = OpPhi %7 %8 %4; OpStore %9 %6; OpReturn, with a line mark
abbrev pub in_two : List (List ℕ)
in_two =
    opening
    ∷ (0x0002_00F8 ∷ 4 ∷ []) ∷ (0x0002_00F9 ∷ 5 ∷ [])
    ∷ (0x0002_00F8 ∷ 5 ∷ []) ∷ (0x0005_00F5 ∷ 7 ∷ 6 ∷ 8 ∷ 4 ∷ []) ∷ (0x0004_0008 ∷ 10 ∷ 1 ∷ 1 ∷ []) ∷ (0x0003_003E ∷ 9 ∷ 6 ∷ []) ∷ (0x0001_00FD ∷ [])
    ∷ ending ∷ []

abbrev pub in_one : List (List ℕ)
in_one =
    opening
    ∷ (0x0002_00F8 ∷ 4 ∷ []) ∷ (0x0004_0053 ∷ 7 ∷ 6 ∷ 8 ∷ []) ∷ (0x0003_003E ∷ 9 ∷ 6 ∷ []) ∷ (0x0001_00FD ∷ [])
    ∷ ending ∷ []

-- a selection with weights, whose blocks stand in another order: %4 merges at %7 and branches to %5 or %6; %5 goes on in %8, and %7 has an OpPhi
abbrev pub mixed : List (List ℕ)
mixed =
    opening
    ∷ (0x0002_00F8 ∷ 4 ∷ []) ∷ (0x0003_00F7 ∷ 7 ∷ 0 ∷ []) ∷ (0x0006_00FA ∷ 20 ∷ 5 ∷ 6 ∷ 1 ∷ 9 ∷ [])
    ∷ (0x0002_00F8 ∷ 6 ∷ []) ∷ (0x0002_00F9 ∷ 7 ∷ [])
    ∷ (0x0002_00F8 ∷ 7 ∷ []) ∷ (0x0007_00F5 ∷ 21 ∷ 22 ∷ 23 ∷ 6 ∷ 24 ∷ 8 ∷ []) ∷ (0x0001_00FD ∷ [])
    ∷ (0x0002_00F8 ∷ 5 ∷ []) ∷ (0x0002_00F9 ∷ 8 ∷ [])
    ∷ (0x0002_00F8 ∷ 8 ∷ []) ∷ (0x0002_00F9 ∷ 7 ∷ [])
    ∷ ending ∷ []

abbrev pub sorted : List (List ℕ)
sorted =
    opening
    ∷ (0x0002_00F8 ∷ 4 ∷ []) ∷ (0x0003_00F7 ∷ 7 ∷ 0 ∷ []) ∷ (0x0004_00FA ∷ 20 ∷ 5 ∷ 6 ∷ [])
    ∷ (0x0002_00F8 ∷ 5 ∷ []) ∷ (0x0002_00F9 ∷ 7 ∷ [])
    ∷ (0x0002_00F8 ∷ 6 ∷ []) ∷ (0x0002_00F9 ∷ 7 ∷ [])
    ∷ (0x0002_00F8 ∷ 7 ∷ []) ∷ (0x0007_00F5 ∷ 21 ∷ 22 ∷ 23 ∷ 6 ∷ 24 ∷ 5 ∷ []) ∷ (0x0001_00FD ∷ [])
    ∷ ending ∷ []

-- a loop with its parts in another order: header %5, merge block %6, continue target %7, body %8
abbrev pub turning : List (List ℕ)
turning =
    opening
    ∷ (0x0002_00F8 ∷ 4 ∷ []) ∷ (0x0002_00F9 ∷ 5 ∷ [])
    ∷ (0x0002_00F8 ∷ 6 ∷ []) ∷ (0x0001_00FD ∷ [])
    ∷ (0x0002_00F8 ∷ 7 ∷ []) ∷ (0x0002_00F9 ∷ 5 ∷ [])
    ∷ (0x0002_00F8 ∷ 5 ∷ []) ∷ (0x0004_00F6 ∷ 6 ∷ 7 ∷ 0 ∷ []) ∷ (0x0004_00FA ∷ 20 ∷ 8 ∷ 6 ∷ [])
    ∷ (0x0002_00F8 ∷ 8 ∷ []) ∷ (0x0002_00F9 ∷ 7 ∷ [])
    ∷ ending ∷ []

abbrev pub turned : List (List ℕ)
turned =
    opening
    ∷ (0x0002_00F8 ∷ 4 ∷ []) ∷ (0x0002_00F9 ∷ 5 ∷ [])
    ∷ (0x0002_00F8 ∷ 5 ∷ []) ∷ (0x0004_00F6 ∷ 6 ∷ 7 ∷ 0 ∷ []) ∷ (0x0004_00FA ∷ 20 ∷ 8 ∷ 6 ∷ [])
    ∷ (0x0002_00F8 ∷ 8 ∷ []) ∷ (0x0002_00F9 ∷ 7 ∷ [])
    ∷ (0x0002_00F8 ∷ 7 ∷ []) ∷ (0x0002_00F9 ∷ 5 ∷ [])
    ∷ (0x0002_00F8 ∷ 6 ∷ []) ∷ (0x0001_00FD ∷ [])
    ∷ ending ∷ []

-- blocks are joined, an OpPhi with one pair becomes a copy, and line marks go
abbrev pub BlocksAreJoined : Type 0
BlocksAreJoined = normal_function (written in_two) ≡ in_one

-- the arms come in the order of the operands, weights go, and an OpPhi names the label that stays
abbrev pub ArmsAreSorted : Type 0
ArmsAreSorted = normal_function (written mixed) ≡ sorted

-- a loop is its header, its body, its continue part and its merge block
abbrev pub LoopsAreSorted : Type 0
LoopsAreSorted = normal_function (written turning) ≡ turned

-- and what is normal stays
abbrev pub NormalStays : Type 0
NormalStays = (normal_function (written in_one) ≡ in_one) × (normal_function (written sorted) ≡ sorted) × (normal_function (written turned) ≡ turned)
