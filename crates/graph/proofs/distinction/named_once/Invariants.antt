use Rattle.std.proofs.Common.{length, take}
use Rattle.graph.proofs.Sifting.{IsSifted}
use Rattle.graph.proofs.distinction.named_once.Given as goal

abbrev pub invariant-row : goal.invariant-row
invariant-row l = IsSifted (length l.fn.last.items) l.stamp (take l.place-index l.row) l.last.items l.places
