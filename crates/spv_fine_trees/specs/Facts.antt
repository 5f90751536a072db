-- What is promised in small functions.
use Rattle.std.specs.Prelude.{ℕ, List, [], ◌∷◌}
use Rattle.spv_normal.specs.Facts.{ending, opening, written}
use Rattle.spv_fine_trees.specs.There.{IsPromised}

-- %4: %10 = OpIAdd %9 %20 %20; OpSelectionMerge %7; OpBranchConditional %20 %5 %6; %5: %11 = OpIAdd %9 %20 %20; OpBranch %7
abbrev pub begun : List (List ℕ) → List (List ℕ)
begun rest =
    opening
    ∷ (0x0002_00F8 ∷ 4 ∷ []) ∷ (0x0005_0080 ∷ 9 ∷ 10 ∷ 20 ∷ 20 ∷ []) ∷ (0x0003_00F7 ∷ 7 ∷ 0 ∷ []) ∷ (0x0004_00FA ∷ 20 ∷ 5 ∷ 6 ∷ [])
    ∷ (0x0002_00F8 ∷ 5 ∷ []) ∷ (0x0005_0080 ∷ 9 ∷ 11 ∷ 20 ∷ 20 ∷ []) ∷ (0x0002_00F9 ∷ 7 ∷ []) ∷ rest

-- %6: OpBranch %7; %7: OpReturn
abbrev pub both_arms : List (List ℕ)
both_arms = begun ((0x0002_00F8 ∷ 6 ∷ []) ∷ (0x0002_00F9 ∷ 7 ∷ []) ∷ (0x0002_00F8 ∷ 7 ∷ []) ∷ (0x0001_00FD ∷ []) ∷ ending ∷ [])

-- %6: OpReturn; %7: OpReturn
abbrev pub one_arm : List (List ℕ)
one_arm = begun ((0x0002_00F8 ∷ 6 ∷ []) ∷ (0x0001_00FD ∷ []) ∷ (0x0002_00F8 ∷ 7 ∷ []) ∷ (0x0001_00FD ∷ []) ∷ ending ∷ [])

-- At the merge block of a selection what the header's block defines is promised, and what one arm defines is where the other arm does not go there.
pub record PromisedBehind : Type 0 where
  pub header : IsPromised (written both_arms) 7 10
  pub arm : ¬ IsPromised (written both_arms) 7 11
  pub only : IsPromised (written one_arm) 7 11
