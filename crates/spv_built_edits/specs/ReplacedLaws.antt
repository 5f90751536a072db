-- A module that is built, in whose functions uses are replaced by other values of their types that are available there, is built again: laws, as statements.
use Rattle.std.specs.Prelude.{List}
use Rattle.spv_module.specs.Instruction.{Instruction}
use Rattle.spv_bodies.specs.Bodies.{Function}
use Rattle.spv_spelling.specs.Whole.{AreInstructions}
use Rattle.spv_rewritten.specs.Laws.{InterfacesFit}
use Rattle.spv_rewritten.specs.Rewritten.{IsRewritten, NamesNoMore}
use Rattle.spv_built.specs.Built.{AreBuilt}
use Rattle.spv_built_edits.specs.Replaced.{AreReplaced, NameNoMore}

-- the instructions of both, one for one, are those of a module in which lines are rewritten
abbrev pub ReplacedIsRewritten : Type 0
ReplacedIsRewritten =
    (before after : List Instruction) (fs gs : List Function) → AreInstructions before → AreBuilt before fs → AreReplaced before after fs gs
    → IsRewritten before after

-- and they are instructions of the profile
abbrev pub ReplacedAreInstructions : Type 0
ReplacedAreInstructions =
    (before after : List Instruction) (fs gs : List Function) → AreInstructions before → AreBuilt before fs → AreReplaced before after fs gs
    → AreInstructions after

-- the module after is built of the functions that these became, where interfaces fit
abbrev pub ReplacedIsBuilt : Type 0
ReplacedIsBuilt =
    (before after : List Instruction) (fs gs : List Function) → AreInstructions before → AreBuilt before fs → AreReplaced before after fs gs
    → InterfacesFit after → AreBuilt after gs

-- and they do where no function names a global variable that it did not name
abbrev pub InterfacesWhereReplaced : Type 0
InterfacesWhereReplaced =
    (before after : List Instruction) (fs gs : List Function) → AreInstructions before → AreBuilt before fs → AreReplaced before after fs gs
    → NamesNoMore before after → InterfacesFit after

-- none does where its listing names none
abbrev pub NamesWhereReplaced : Type 0
NamesWhereReplaced =
    (before after : List Instruction) (fs gs : List Function) → AreInstructions before → AreBuilt before fs → AreReplaced before after fs gs
    → NameNoMore before fs gs → NamesNoMore before after
