-- Small functions, of which facts tell the definitions from their likely mistakes.
use Rattle.std.specs.Prelude.{ℕ, ◌+◌, ◌*◌, List, [], ◌∷◌}
use Rattle.spv_base.specs.declared.fault.Refusal.{Refusal}
use Rattle.spv_blocks.specs.Blocks.{Code, Block, Ins, Selection, Loop, End, Branch, BranchIf, Switch, Return, Open}

-- a block whose label stands at ten times its number, and its terminator eight words on
abbrev pub block_of : (label : ℕ) → List Ins → End → Block
block_of label body end = record { label = label; at = label * 10; body = body; end_at = label * 10 + 8; end = end }

abbrev pub refusal : (rule at : ℕ) → Refusal
refusal rule at = record { rule = rule; at = at }

-- a selection that is as it should be
abbrev pub selection : Code
selection =
    block_of 1 (Selection 12 4 ∷ []) (BranchIf 2 3)
    ∷ block_of 2 [] (Branch 4)
    ∷ block_of 3 [] (Branch 4)
    ∷ block_of 4 [] Return
    ∷ []

-- two selections with one merge block
abbrev pub one_merge_block : Code
one_merge_block =
    block_of 1 (Selection 12 4 ∷ []) (BranchIf 2 4)
    ∷ block_of 2 (Selection 22 4 ∷ []) (BranchIf 3 4)
    ∷ block_of 3 [] (Branch 4)
    ∷ block_of 4 [] Return
    ∷ []

-- a switch whose case 2 branches to its case 3
abbrev pub case_falls : Code
case_falls =
    block_of 1 (Selection 12 4 ∷ []) (Switch 4 ((0, 2) ∷ (1, 3) ∷ []))
    ∷ block_of 2 [] (Branch 3)
    ∷ block_of 3 [] (Branch 4)
    ∷ block_of 4 [] Return
    ∷ []

-- a switch that names the merge block of a selection in its case 3, to which its case 2 branches
abbrev pub case_is_merge : Code
case_is_merge =
    block_of 1 [] (Branch 6)
    ∷ block_of 2 [] (Branch 5)
    ∷ block_of 3 (Selection 32 5 ∷ []) (BranchIf 4 5)
    ∷ block_of 4 [] (Branch 5)
    ∷ block_of 5 [] (Branch 7)
    ∷ block_of 6 (Selection 62 7 ∷ []) (Switch 7 ((0, 2) ∷ (1, 3) ∷ (2, 5) ∷ []))
    ∷ block_of 7 [] Return
    ∷ []

-- a switch whose case 2 branches to its case 3, a loop whose continue target is its header
abbrev pub case_is_own_target : Code
case_is_own_target =
    block_of 1 (Selection 12 4 ∷ []) (Switch 4 ((0, 2) ∷ (1, 3) ∷ []))
    ∷ block_of 2 [] (Branch 3)
    ∷ block_of 3 (Loop 32 5 3 ∷ []) (BranchIf 9 9)
    ∷ block_of 4 [] Return
    ∷ block_of 5 [] Return
    ∷ []

-- a loop that is as it should be
abbrev pub loop : Code
loop =
    block_of 1 [] (Branch 2)
    ∷ block_of 2 (Loop 22 5 4 ∷ []) (BranchIf 3 5)
    ∷ block_of 3 [] (Branch 4)
    ∷ block_of 4 [] (Branch 2)
    ∷ block_of 5 [] Return
    ∷ []

-- a loop whose body branches to its header
abbrev pub back_from_body : Code
back_from_body =
    block_of 1 [] (Branch 2)
    ∷ block_of 2 (Loop 22 5 4 ∷ []) (BranchIf 3 5)
    ∷ block_of 3 [] (Branch 2)
    ∷ block_of 4 [] (Branch 2)
    ∷ block_of 5 [] Return
    ∷ []

-- a loop whose continue target is the label of no block
abbrev pub no_such_target : Code
no_such_target =
    block_of 1 [] (Branch 2)
    ∷ block_of 2 (Loop 22 5 4 ∷ []) (BranchIf 3 5)
    ∷ block_of 3 [] (Branch 5)
    ∷ block_of 5 [] Return
    ∷ []

-- a loop whose continue part returns
abbrev pub returns_in_next : Code
returns_in_next =
    block_of 1 [] (Branch 2)
    ∷ block_of 2 (Loop 22 5 4 ∷ []) (BranchIf 3 5)
    ∷ block_of 3 [] (Branch 4)
    ∷ block_of 4 [] Return
    ∷ block_of 5 [] Return
    ∷ []

-- a block that nothing branches to
abbrev pub left_out : Code
left_out = block_of 1 [] Return ∷ block_of 2 [] Return ∷ []

-- a loop whose continue target is its header, with a branch to no block behind it
abbrev pub own_target : Code
own_target =
    block_of 1 [] (Branch 2)
    ∷ block_of 2 (Loop 22 3 2 ∷ []) (BranchIf 9 9)
    ∷ block_of 3 [] Return
    ∷ []

-- the same with a selection round it that has this header as its merge block
abbrev pub own_target_named : Code
own_target_named =
    block_of 1 (Selection 12 2 ∷ []) (BranchIf 2 3)
    ∷ block_of 2 (Loop 22 3 2 ∷ []) (BranchIf 9 9)
    ∷ block_of 3 [] Return
    ∷ []

-- a block without a terminator, that nothing branches to
abbrev pub open_block : Code
open_block = block_of 1 [] Return ∷ block_of 2 [] Open ∷ []

-- one block, with two branches to one label of no block
abbrev pub lost : Code
lost = block_of 1 [] (BranchIf 9 9) ∷ []

-- a loop with another loop in its continue part, whose back edge is conditional
abbrev pub nested : Code
nested =
    block_of 1 [] (Branch 2)
    ∷ block_of 2 (Loop 22 8 4 ∷ []) (BranchIf 3 8)
    ∷ block_of 3 [] (Branch 4)
    ∷ block_of 4 [] (Branch 5)
    ∷ block_of 5 (Loop 52 7 6 ∷ []) (Branch 6)
    ∷ block_of 6 [] (BranchIf 5 7)
    ∷ block_of 7 [] (Branch 2)
    ∷ block_of 8 [] Return
    ∷ []
