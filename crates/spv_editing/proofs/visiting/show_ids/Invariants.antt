use Rattle.std.proofs.Common.{take}
use Rattle.spv_editing.specs.Showing.{IsShown, uses}
use Rattle.spv_editing.proofs.visiting.show_ids.Given as goal

abbrev pub invariant-ids : goal.invariant-ids
invariant-ids g l = IsShown g.V.Visitor.has_seen (uses (take l.id-index l.ids)) l.fn.visitor l.visitor
