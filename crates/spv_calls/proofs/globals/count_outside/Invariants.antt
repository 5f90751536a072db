use Rattle.spv_typing.proofs.Outside.{AreOutside}
use Rattle.spv_calls.proofs.globals.count_outside.Given as goal

abbrev pub invariant-instructions : goal.invariant-instructions
invariant-instructions l = AreOutside l.insts l.k
