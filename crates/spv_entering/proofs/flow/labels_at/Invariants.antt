use Rattle.std.proofs.Common.{take}
use Rattle.spv_entering.specs.Flow.{AreLabelsAt}
use Rattle.spv_entering.proofs.flow.labels_at.Given as goal

abbrev pub invariant-places : goal.invariant-places
invariant-places l = AreLabelsAt l.labels (take l.place-index l.places) l.row.items
