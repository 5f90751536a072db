-- Small functions and the trees that they spell.
use Rattle.std.specs.Prelude.{◌≡◌, ℕ, ◌==◌, false, cond, List, [], ◌∷◌}
use Rattle.spv_module.specs.Instruction.{Instruction}
use Rattle.spv_bodies.specs.Bodies.{Front, ByBranch, Body, Leaves, Step, Enters, Splits, Selects, Switches, Loops, Last, Also, Function}
use Rattle.spv_bodies.specs.Facts.{leave, plain, returns, of_body}
use Rattle.spv_bodies.specs.Listing.{listed}
use Rattle.spv_normal.specs.Facts.{written, opening, ending, in_two, in_one, mixed, sorted}
use Rattle.spv_normal.specs.Lines.{without_marks}
use Rattle.spv_normal.specs.Normal.{normal_function}
use Rattle.spv_spelling.specs.Spelling.{SpellsFunction}

-- instructions spell a tree, and the tree is listed in these lines, which are their normal form
pub record SpellsAs (insts : List Instruction) (stays : ℕ → ℕ) (f : Function) (lines : List (List ℕ)) : Type 0 where
  pub spells : SpellsFunction insts stays f
  pub lists : listed f ≡ lines
  pub normal : normal_function insts ≡ lines

-- a branch out of a part with one value
abbrev pub leave_with : (target value : ℕ) → Body
leave_with target value = Leaves (record { target = target; values = value ∷ [] })

-- a front with one parameter
abbrev pub front_with : (label type result : ℕ) → (parents : List ℕ) → Front
front_with label type result parents = record { label = label; parameters = record { type = type; result_id = result; parents = parents } ∷ [] }

-- ---- a joined block

-- of %4 and %5 the label %4 stays
abbrev pub stays_in_two : ℕ → ℕ
stays_in_two l = cond (l == 5) 4 l

-- the OpPhi of %5 is a copy
abbrev pub joined_tree : Function
joined_tree = of_body (Step (0x0004_0053 ∷ 7 ∷ 6 ∷ 8 ∷ []) (Step (0x0003_003E ∷ 9 ∷ 6 ∷ []) returns))

abbrev pub BlocksAreJoined : Type 0
BlocksAreJoined = SpellsAs (without_marks (written in_two)) stays_in_two joined_tree in_one

-- ---- a selection

-- %8 is joined with %5
abbrev pub stays_mixed : ℕ → ℕ
stays_mixed l = cond (l == 8) 5 l

abbrev pub selection_tree : Function
selection_tree = of_body (Selects 0 20 (Enters 5 (leave_with 7 24)) (Enters 6 (leave_with 7 23)) (front_with 7 21 22 (6 ∷ 5 ∷ [])) returns)

abbrev pub SelectionsAreSpelled : Type 0
SelectionsAreSpelled = SpellsAs (written mixed) stays_mixed selection_tree sorted

-- ---- a switch

-- %4: OpSelectionMerge %7; OpSwitch %20 %7, 1 %5, 2 %6, 3 %5; %5: OpBranch %7; %6: OpReturn; %7: %22 = OpPhi %21 %30 %4 %31 %5; OpReturn
abbrev pub cases : List (List ℕ)
cases =
    opening
    ∷ (0x0002_00F8 ∷ 4 ∷ []) ∷ (0x0003_00F7 ∷ 7 ∷ 0 ∷ []) ∷ (0x0009_00FB ∷ 20 ∷ 7 ∷ 1 ∷ 5 ∷ 2 ∷ 6 ∷ 3 ∷ 5 ∷ [])
    ∷ (0x0002_00F8 ∷ 5 ∷ []) ∷ (0x0002_00F9 ∷ 7 ∷ [])
    ∷ (0x0002_00F8 ∷ 6 ∷ []) ∷ (0x0001_00FD ∷ [])
    ∷ (0x0002_00F8 ∷ 7 ∷ []) ∷ (0x0007_00F5 ∷ 21 ∷ 22 ∷ 30 ∷ 4 ∷ 31 ∷ 5 ∷ []) ∷ (0x0001_00FD ∷ [])
    ∷ ending ∷ []

-- an arm for each label, the default first
abbrev pub switch_tree : Function
switch_tree =
    of_body (Switches 0 20 ((1, 5) ∷ (2, 6) ∷ (3, 5) ∷ []) (Also (leave_with 7 30) (Also (Enters 5 (leave_with 7 31)) (Last (Enters 6 returns))))
    (front_with 7 21 22 (4 ∷ 5 ∷ [])) returns)

abbrev pub SwitchesAreSpelled : Type 0
SwitchesAreSpelled = SpellsAs (written cases) (λ l. l) switch_tree cases

-- ---- a loop

-- %4: OpBranch %5; header %5: %22 = OpPhi %21 %30 %4 %31 %7; OpLoopMerge %6 %7; OpBranchConditional %20 %8 %6; body %8: OpBranch %7;
-- continue target %7: %31 = OpIAdd %21 %22 %30; OpBranch %5; merge block %6: OpReturn
abbrev pub counting : List (List ℕ)
counting =
    opening
    ∷ (0x0002_00F8 ∷ 4 ∷ []) ∷ (0x0002_00F9 ∷ 5 ∷ [])
    ∷ (0x0002_00F8 ∷ 5 ∷ []) ∷ (0x0007_00F5 ∷ 21 ∷ 22 ∷ 30 ∷ 4 ∷ 31 ∷ 7 ∷ []) ∷ (0x0004_00F6 ∷ 6 ∷ 7 ∷ 0 ∷ []) ∷ (0x0004_00FA ∷ 20 ∷ 8 ∷ 6 ∷ [])
    ∷ (0x0002_00F8 ∷ 8 ∷ []) ∷ (0x0002_00F9 ∷ 7 ∷ [])
    ∷ (0x0002_00F8 ∷ 7 ∷ []) ∷ (0x0005_0080 ∷ 21 ∷ 31 ∷ 22 ∷ 30 ∷ []) ∷ (0x0002_00F9 ∷ 5 ∷ [])
    ∷ (0x0002_00F8 ∷ 6 ∷ []) ∷ (0x0001_00FD ∷ [])
    ∷ ending ∷ []

abbrev pub loop_tree : Function
loop_tree =
    of_body (Loops (ByBranch (30 ∷ [])) (front_with 5 21 22 (4 ∷ 7 ∷ [])) 0 (Splits 20 false (record { target = 6; values = [] }) (Enters 8 (leave 7)))
    (plain 7) (Step (0x0005_0080 ∷ 21 ∷ 31 ∷ 22 ∷ 30 ∷ []) (leave_with 5 31)) (plain 6) returns)

abbrev pub LoopsAreSpelled : Type 0
LoopsAreSpelled = SpellsAs (written counting) (λ l. l) loop_tree counting
