use Rattle.spv_calls.specs.Kept.{AreSettled}
use Rattle.spv_calls.proofs.settling.settle.Given as goal

abbrev pub invariant-places : goal.invariant-places
invariant-places l = AreSettled l.graph l.settled.items
