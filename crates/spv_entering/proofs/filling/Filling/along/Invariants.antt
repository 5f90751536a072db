use Rattle.spv_entering.proofs.Turning.{AreLooked}
use Rattle.spv_entering.proofs.filling.Filling.along.Given as goal

abbrev pub invariant-targets : goal.invariant-targets
invariant-targets l = AreLooked l.flow l.fn.self l.self l.t-items l.t-index
