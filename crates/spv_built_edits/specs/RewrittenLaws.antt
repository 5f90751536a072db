-- A module that is built, in which lines are rewritten, is built again: laws, as statements.
use Rattle.std.specs.Prelude.{◌≡◌, ℕ, List, ◌++◌, None}
use Rattle.std.specs.List.{AllByRecursion, flat_map}
use Rattle.spv_module.specs.First.{first}
use Rattle.spv_module.specs.Instruction.{Instruction}
use Rattle.spv_module.specs.Layout.{group_2}
use Rattle.spv_bodies.specs.Bodies.{Function}
use Rattle.spv_bodies.specs.Listing.{listed}
use Rattle.spv_tree.specs.Tree.{words_of}
use Rattle.spv_norm.specs.Norm.{outside}
use Rattle.spv_spelling.specs.Whole.{AreInstructions}
use Rattle.spv_built.specs.Built.{AreBuilt, FunctionIsBuilt}
use Rattle.spv_built_edits.specs.Edits.{AreEdited}
use Rattle.spv_rewritten.specs.Laws.{InterfacesFit}
use Rattle.spv_rewritten.specs.Rewritten.{IsRewritten}

-- no rule on layout (201 to 205) is broken, if none was
abbrev pub RewrittenIsLaidOut : Type 0
RewrittenIsLaidOut =
    (end end_again : ℕ) (before after : List Instruction) → IsRewritten before after → first (group_2 end before) ≡ None
    → first (group_2 end_again after) ≡ None

-- it is built of its functions, each edited, if these are what stands behind the instructions outside functions and are built there, and if interfaces fit
abbrev pub RewrittenIsBuilt : Type 0
RewrittenIsBuilt =
    (before after : List Instruction) (fs gs : List Function) → AreInstructions before → AreInstructions after → AreBuilt before fs → IsRewritten before after
    → words_of after ≡ words_of (outside after) ++ flat_map listed gs → AreEdited fs gs → InterfacesFit after → AllByRecursion (FunctionIsBuilt after) gs
    → AreBuilt after gs
