-- A module in which lines are rewritten is like it, and breaks no rule on declarations, calls and entry points, where it broke none: laws, as statements.
use Rattle.std.specs.Prelude.{◌≡◌, ℕ, false, List, slice_get, Some, None}
use Rattle.spv_module.specs.First.{first}
use Rattle.spv_module.specs.Instruction.{Instruction}
use Rattle.spv_ids.specs.Ids.{is_defined, kind}
use Rattle.spv_declarations.specs.Broken.{group_3}
use Rattle.spv_declarations.specs.Laws.{IsUnbroken}
use Rattle.spv_alike_uses.specs.Alike.{AreAlikeBut}
use Rattle.spv_calls.specs.Interfaces.{InterfaceFits}
use Rattle.spv_norm_entries.specs.Laws.{AllEntered}
use Rattle.spv_rewritten.specs.Rewritten.{EntriesStay, FunctionsStay, IsRewritten, KeepsListed, NamesNoMore}

-- they are alike, and nothing has gone
abbrev pub RewrittenIsAlike : Type 0
RewrittenIsAlike = (before after : List Instruction) → IsUnbroken before → IsRewritten before after → AreAlikeBut (λ id. false) before after

-- each id is defined in both or in neither, and by the same opcode
abbrev pub KindsStay : Type 0
KindsStay =
    (before after : List Instruction) → IsRewritten before after → (id : ℕ) → (kind after id ≡ kind before id) × (is_defined after id ≡ is_defined before id)

-- 301 to 309
abbrev pub RewrittenIsDeclared : Type 0
RewrittenIsDeclared = (before after : List Instruction) → IsUnbroken before → IsRewritten before after → first (group_3 after) ≡ None

-- ---- 601 to 606

-- each entry point lists the interface of its function (602)
abbrev pub InterfacesFit : List Instruction → Type 0
InterfacesFit insts = (k : ℕ) (i : Instruction) → slice_get insts k ≡ Some i → InterfaceFits insts i

abbrev pub RewrittenIsEntered : Type 0
RewrittenIsEntered =
    (before after : List Instruction) → IsUnbroken before → IsRewritten before after → AllEntered before → InterfacesFit after → AllEntered after

-- they do, as they did, where no entry point is rewritten and no function names what it did not
abbrev pub InterfacesStay : Type 0
InterfacesStay =
    (before after : List Instruction) → IsRewritten before after → EntriesStay before after → NamesNoMore before after → InterfacesFit before
    → InterfacesFit after

-- and where entries are dropped that nothing that is reached names
abbrev pub InterfacesWhereListed : Type 0
InterfacesWhereListed =
    (before after : List Instruction) → IsRewritten before after → KeepsListed before after → NamesNoMore before after → InterfacesFit before
    → InterfacesFit after

-- no function names what it did not, where nothing is rewritten from the first one on
abbrev pub NamesWhereFunctionsStay : Type 0
NamesWhereFunctionsStay = (before after : List Instruction) → IsRewritten before after → FunctionsStay before after → NamesNoMore before after
