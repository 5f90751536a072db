use Rattle.spv_sources.specs.Filling.{IsFilled}
use Rattle.spv_sources.proofs.begins.begins_of.Given as goal

abbrev pub invariant-each : goal.invariant-each
invariant-each l = IsFilled l.insts l.k l.begins
