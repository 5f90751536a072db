use Rattle.spv_entering.proofs.Flows.{AreRows}
use Rattle.spv_entering.proofs.flow.rows.Given as goal

abbrev pub invariant-each : goal.invariant-each
invariant-each l = AreRows l.labels l.j l.rows.items
