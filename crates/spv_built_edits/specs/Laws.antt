-- Functions that are built and edited: laws, as statements.
use Rattle.std.specs.Prelude.{◌≡◌, ℕ, Bool, false, List, ◌++◌, length, slice_index, None}
use Rattle.std.specs.List.{AllByRecursion, flat_map}
use Rattle.spv_module.specs.First.{first}
use Rattle.spv_module.specs.Instruction.{Instruction}
use Rattle.spv_module.specs.Layout.{group_2}
use Rattle.spv_declarations.specs.Laws.{IsUnbroken}
use Rattle.spv_alike_uses.specs.Alike.{AreAlikeBut, Stays}
use Rattle.spv_bodies.specs.Bodies.{Function}
use Rattle.spv_bodies.specs.Listing.{listed}
use Rattle.spv_tree.specs.Sound.{IsSound}
use Rattle.spv_tree.specs.Tree.{words_of}
use Rattle.spv_norm.specs.Norm.{outside}
use Rattle.spv_spelling.specs.Whole.{AreInstructions}
use Rattle.spv_respelling.specs.Normal.{IsNormal}
use Rattle.spv_functions.specs.Functions.{is_pointer}
use Rattle.spv_editing.specs.Editing.{Edit, KeepsSteps, edited_function}
use Rattle.spv_fine.specs.Fine.{IsFine, With, defined_in}
use Rattle.spv_fine.specs.Laws.{IsKnown, Told}
use Rattle.spv_fine_edits.specs.Giving.{Offers}
use Rattle.spv_fine_edits.specs.Laws.{DropsIn, PutsIn, Replacing}
use Rattle.spv_built.specs.Built.{AreBuilt, FunctionIsBuilt, IsShort}
use Rattle.spv_built_edits.specs.Edits.{AreEdited, AreLines, AreSoundFunctions, IsFitting, MovesOnly, PutsShort, PutsValues, StandsRound, TypesStay}

-- a sound function in normal form stays so, whatever its instructions become
abbrev pub NormalStays : Type 0
NormalStays = (e : Edit) (f : Function) → IsSound f → IsNormal f → IsNormal (edited_function e f)

-- no line of its listing is too long, if none of those is that are put
abbrev pub ShortStays : Type 0
ShortStays = (e : Edit) (f : Function) → IsSound f → PutsShort e f → AllByRecursion IsShort (listed f) → AllByRecursion IsShort (listed (edited_function e f))

-- a function that is built in a module is so again in the other one, once it is edited, if what its lines use then is available
abbrev pub BuiltStays : Type 0
BuiltStays =
    (before after : List Instruction) (e : Edit) (f : Function) (promised : (label id : ℕ) → Bool) → IsFitting before after e f
    → IsFine (IsKnown after) (λ label. Told (promised label)) (edited_function e f) → FunctionIsBuilt before f
    → FunctionIsBuilt after (edited_function e f)

-- it is available where steps are dropped whose results nothing uses that stays
abbrev pub BuiltWhereDropped : Type 0
BuiltWhereDropped =
    (before after : List Instruction) (e : Edit) (gone : ℕ → Bool) (f : Function) → IsFitting before after e f
    → DropsIn gone e (IsKnown before) (IsKnown after) f → FunctionIsBuilt before f → FunctionIsBuilt after (edited_function e f)

-- and where some ids are replaced by what is available at each use, whatever is promised
abbrev pub BuiltWhereReplaced : Type 0
BuiltWhereReplaced =
    (before after : List Instruction) (r : Replacing) (moved : List ℕ) (f : Function) → IsFitting before after r.edit f → MovesOnly moved r.edit
    → PutsIn r (IsKnown after) (IsKnown before) f
    → ((promised : (label id : ℕ) → Bool) → IsFine (IsKnown before) (λ label. Told (promised label)) f
    → Offers (λ label. Told (promised label)) r.wants (With (IsKnown before) (flat_map defined_in f.parameters)) f.body)
    → FunctionIsBuilt before f → FunctionIsBuilt after (edited_function r.edit f)

-- An edit that drops steps, whose results nothing uses that stays, fits where the modules are alike but for what these give: what stays fits as it did.
abbrev pub FitsWhereDropped : Type 0
FitsWhereDropped =
    (before after : List Instruction) (e : Edit) (gone : ℕ → Bool) (f : Function) → IsUnbroken before → AreAlikeBut gone before after
    → TypesStay gone before after → IsSound f → AreLines f → Stays gone (slice_index f.function 2) → KeepsSteps e
    → DropsIn gone e (IsKnown before) (IsKnown after) f → IsFitting before after e f

-- An edit that puts lines in which values stand for others of their types fits where the modules are alike, with nothing gone: such a line fits as the one did.
abbrev pub FitsWhereValuesStand : Type 0
FitsWhereValuesStand =
    (before after : List Instruction) (e : Edit) (f : Function) → IsUnbroken before → AreAlikeBut (λ id. false) before after
    → ((id : ℕ) → is_pointer after id ≡ is_pointer before id) → KeepsSteps e → PutsValues before e f → IsFitting before after e f

-- ---- in a module

-- where each function of a module that is built is edited, and is built then, so is the module if it is round them: as many exits are left
abbrev pub ModuleStays : Type 0
ModuleStays =
    (before after : List Instruction) (fs gs : List Function) → AreInstructions before → AreInstructions after → AreBuilt before fs → AreEdited fs gs
    → StandsRound after gs → AllByRecursion (FunctionIsBuilt after) gs → AreBuilt after gs

-- where the instructions outside functions stay, and the functions become as many others that are sound, no rule on layout is broken
abbrev pub LayoutStays : Type 0
LayoutStays =
    (before after : List Instruction) (fs gs : List Function) → AreInstructions before → AreBuilt before fs
    → words_of after ≡ words_of (outside before) ++ flat_map listed gs → length gs ≡ length fs → AreSoundFunctions gs
    → (end : ℕ) → first (group_2 end after) ≡ None
