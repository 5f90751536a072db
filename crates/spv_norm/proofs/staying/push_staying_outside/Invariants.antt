use Rattle.std.proofs.Common.{◌≡◌, ◌++◌, take, filter}
use Rattle.spv_norm.specs.Norm.{stays_outside}
use Rattle.spv_norm.proofs.staying.push_staying_outside.Given as goal

abbrev pub invariant-instructions : goal.invariant-instructions
invariant-instructions l = l.insts ≡ l.fn.insts ++ filter (stays_outside l.fn.definitions) (take l.k l.all)
