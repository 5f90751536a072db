use Rattle.spv_signatures.specs.Rows.{HasRows}
use Rattle.spv_signatures.proofs.rows.Rows.of.Given as goal

abbrev pub invariant-instructions : goal.invariant-instructions
invariant-instructions l = HasRows l.all.rows l.all.parameters.items l.insts l.k
