-- The arms of a switch.
use Rattle.std.specs.Prelude.{◌≡◌, ℕ, ◌==◌, cond, not, true, List, [], ◌∷◌, ◌++◌, map, filter, All}
use Rattle.std.specs.BTreeSet.{BTreeSet, contains, Updates}
use Rattle.std.specs.Ordering.{nat_cmp}
use Rattle.spv_blocks.specs.Blocks.{branches, seconds}
use Rattle.spv_spelling.specs.Text.{firsts}
use Rattle.spv_tree.specs.declared.body.Arm.{Arm}
use Rattle.spv_tree.specs.declared.body.Case.{Case}
use Rattle.spv_tree.specs.Tree.{arm_body, case_of}
use Rattle.spv_parse.specs.declared.scene.Scene.{Scene}
use Rattle.spv_parse.specs.Scene.{code_of}
use Rattle.spv_parse.specs.Ends.{SpellsArmTo}

-- the labels of the cases, each where it stands first, without that of the default
abbrev pub others_of : (default : ℕ) → List Case → List ℕ
others_of default cases = filter (λ t. not (t == default)) (firsts (seconds (map case_of cases)))

-- the block l branches to each
abbrev pub BranchToEach : Scene → (l : ℕ) → (labels : List ℕ) → Type 0
BranchToEach s l labels = All (λ t. branches (code_of s) l t ≡ true) labels

-- an arm of the block l for each label
abbrev pub SpellEach : Scene → (l : ℕ) → (labels : List ℕ) → List Arm → Type 0
SpellEach s l [] [] = Unit {0}
SpellEach s l [] (arm ∷ arms) = ⊥
SpellEach s l (t ∷ labels) [] = ⊥
SpellEach s l (t ∷ labels) (arm ∷ arms) = SpellsArmTo s l t (arm_body arm) × SpellEach s l labels arms

-- a target is noted, and added where it was not known
pub record AddsTarget (target : ℕ) (old new : BTreeSet ℕ) (before after : List ℕ) : Type 0 where
  pub noted : Updates nat_cmp old new target true
  pub added : after ≡ cond (contains nat_cmp old target) before (before ++ target ∷ [])
