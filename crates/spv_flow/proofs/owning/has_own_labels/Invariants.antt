use Rattle.spv_flow.proofs.OwnLabels.{StandThere}
use Rattle.spv_flow.proofs.owning.has_own_labels.Given as goal

abbrev pub invariant-each : goal.invariant-each
invariant-each l = StandThere l.function l.k
