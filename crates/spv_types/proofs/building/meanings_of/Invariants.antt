use Rattle.spv_types.specs.Whole.{AreRead}
use Rattle.spv_types.proofs.building.meanings_of.Given as goal

abbrev pub invariant-instructions : goal.invariant-instructions
invariant-instructions l = AreRead l.flat.insts l.k l.begun l.meanings.entries
