use Rattle.spv_sources.specs.Staying.{AreFollowed}
use Rattle.spv_sources.proofs.staying.stays_of.Given as goal

abbrev pub invariant-each : goal.invariant-each
invariant-each l = AreFollowed l.labels l.k l.stays
