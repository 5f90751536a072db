use Rattle.spv_typing.proofs.Outside.{AreOutside}
use Rattle.spv_typing.proofs.kinds.count_outside.Given as goal

abbrev pub invariant-instructions : goal.invariant-instructions
invariant-instructions l = AreOutside l.flat.insts l.k
