-- What is left of a module that is built is built: laws, as statements.
use Rattle.std.specs.Prelude.{◌≡◌, ℕ, suc, Bool, false, List, [], ◌++◌, drop, slice_get, Some, None}
use Rattle.std.specs.List.{flat_map}
use Rattle.spv_module.specs.Code.{is_line}
use Rattle.spv_module.specs.First.{first}
use Rattle.spv_module.specs.Instruction.{Instruction}
use Rattle.spv_module.specs.Layout.{group_2}
use Rattle.spv_signatures.specs.Functions.{leading_parameters}
use Rattle.spv_bodies.specs.Bodies.{Function}
use Rattle.spv_bodies.specs.Listing.{listed}
use Rattle.spv_tree.specs.Tree.{words_of}
use Rattle.spv_norm.specs.Norm.{outside}
use Rattle.spv_spelling.specs.Whole.{AreInstructions}
use Rattle.spv_thinned.specs.Thinned.{IsThinned}
use Rattle.spv_built.specs.Built.{AreBuilt}
use Rattle.spv_built_edits.specs.Thinned.{AreThinned, IsNoOpening, KeepsShape, KeepsSizes}

-- of its functions without the steps that were dropped, if these are what stands behind the instructions outside functions
abbrev pub ThinnedIsBuilt : Type 0
ThinnedIsBuilt =
    (gone : ℕ → Bool) (keep : Instruction → Bool) (before after : List Instruction) (fs gs : List Function) → AreInstructions before → AreBuilt before fs
    → IsThinned gone keep before after → KeepsShape keep before → KeepsSizes keep before
    → words_of after ≡ words_of (outside after) ++ flat_map listed gs → AreThinned gone fs gs
    → AreBuilt after gs

-- where no rule on layout is broken, no parameter stands behind such an instruction, as is asked of what is dropped
abbrev pub NoParametersBehind : Type 0
NoParametersBehind =
    (end : ℕ) (insts : List Instruction) → first (group_2 end insts) ≡ None
    → (k : ℕ) (i : Instruction) → slice_get insts k ≡ Some i → is_line i ≡ false → IsNoOpening i → leading_parameters (drop (suc k) insts) ≡ []
