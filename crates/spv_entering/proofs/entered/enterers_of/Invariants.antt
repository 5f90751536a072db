use Rattle.spv_blocks.specs.Tables.{found}
use Rattle.spv_entering.proofs.Falling.{AreAdded}
use Rattle.spv_entering.proofs.entered.enterers_of.Given as goal

abbrev pub invariant-each : goal.invariant-each
invariant-each l = AreAdded l.known.flow.code (found l.enterers) l.k
