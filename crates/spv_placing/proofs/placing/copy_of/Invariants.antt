use Rattle.std.proofs.Common.{◌≡◌, take}
use Rattle.spv_placing.proofs.placing.copy_of.Given as goal

abbrev pub invariant-instructions : goal.invariant-instructions
invariant-instructions l = l.insts ≡ take l.k l.all
