-- A small module, on which the laws are tried.
use Rattle.std.specs.Prelude.{ℕ, ◌==◌, cond, List, [], ◌∷◌, Option, Some, None}
use Rattle.spv_meaning.specs.Statements.{Statement, statements_in, words_of}
use Rattle.spv_bodies.specs.Bodies.{Function}
use Rattle.spv_normal.specs.Facts.{written, opening, ending, in_two}
use Rattle.spv_normal.specs.Lines.{without_marks}
use Rattle.spv_spelling.specs.Facts.{joined_tree}
use Rattle.spv_spelling.specs.Whole.{IsAdmitted}
use Rattle.spv_trees.specs.Standing.{StandsFunction}
use Rattle.spv_standing.specs.Laws.{ApartInBlocks, AllSpelled}

-- the function %1 alone: %4: OpBranch %5; %5: %6 = OpPhi %7 %8 %4; OpStore %9 %6; OpReturn, with a line mark
abbrev pub small_module : List Statement
small_module = statements_in (words_of (written in_two))

abbrev pub known : ℕ → Option Function
known f = cond (f == 1) (Some joined_tree) None

-- no rule is broken in it,
abbrev pub JoinedIsAdmitted : Type 0
JoinedIsAdmitted = IsAdmitted (without_marks (written in_two))

-- it is spelled,
abbrev pub JoinedIsSpelled : Type 0
JoinedIsSpelled = AllSpelled small_module known

-- and it stands as its tree, in which the OpPhi is a copy
abbrev pub JoinedStands : Type 0
JoinedStands = StandsFunction small_module known 1 joined_tree

-- %4: OpBranch %5; %5: %6 = OpPhi %7 %8 %4; %9 = OpPhi %7 %6 %4; OpReturn: the second OpPhi takes the value that %6 had before, and a copy would take the new one
abbrev pub in_turn : List (List ℕ)
in_turn =
    opening
    ∷ (0x0002_00F8 ∷ 4 ∷ []) ∷ (0x0002_00F9 ∷ 5 ∷ [])
    ∷ (0x0002_00F8 ∷ 5 ∷ []) ∷ (0x0005_00F5 ∷ 7 ∷ 6 ∷ 8 ∷ 4 ∷ []) ∷ (0x0005_00F5 ∷ 7 ∷ 9 ∷ 6 ∷ 4 ∷ []) ∷ (0x0001_00FD ∷ [])
    ∷ ending ∷ []

abbrev pub InTurnIsNotApart : Type 0
InTurnIsNotApart = ApartInBlocks (written in_turn) → ⊥
