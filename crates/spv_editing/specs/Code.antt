-- The tree in code: what an edit makes of its parts, and what is shown of them.
use Rattle.std.specs.Prelude.{ℕ, List, [], ◌∷◌, ◌++◌, map}
use Rattle.spv_module.specs.declared.inst.Inst.{Inst}
use Rattle.spv_tree.specs.declared.body.Arm.{Arm}
use Rattle.spv_tree.specs.Tree.{arm_body}
use Rattle.spv_editing.specs.Showing.{Shown, shown}

-- the words of instructions
abbrev pub words_in : List Inst → List (List ℕ)
words_in insts = map (λ inst. inst.words) insts

-- what is shown of arms
abbrev pub shown_of_list : List Arm → List Shown
shown_of_list [] = []
shown_of_list (arm ∷ arms) = shown (arm_body arm) ++ shown_of_list arms
