use Rattle.std.proofs.Common.{◌≡◌, map, take}
use Rattle.spv_editing.proofs.editing.edit_ids.Given as goal

abbrev pub invariant-ids : goal.invariant-ids
invariant-ids g l = l.made ≡ map (g.E.Editor.edit l.editor).uses (take l.id-index l.id-items)
