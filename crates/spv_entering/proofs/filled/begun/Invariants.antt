use Rattle.spv_entering.proofs.Turning.{AreBegun}
use Rattle.spv_entering.proofs.filled.begun.Given as goal

abbrev pub invariant-each : goal.invariant-each
invariant-each l = AreBegun l.flow l.filling l.k
