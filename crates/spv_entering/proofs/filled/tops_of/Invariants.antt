use Rattle.spv_entering.specs.Filling.{work}
use Rattle.spv_entering.proofs.Turning.{IsTable}
use Rattle.spv_entering.proofs.filled.tops_of.Given as goal

abbrev pub invariant-turns : goal.invariant-turns
invariant-turns l = IsTable l.flow l.filling

abbrev pub decreases-turns : goal.decreases-turns
decreases-turns l = work l.flow.code l.filling
