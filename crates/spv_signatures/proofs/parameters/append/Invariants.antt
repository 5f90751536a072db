use Rattle.std.proofs.Common.{◌≡◌, ◌++◌, drop}
use Rattle.spv_signatures.specs.Functions.{leading_parameters}
use Rattle.spv_signatures.proofs.parameters.append.Given as goal

abbrev pub invariant-instructions : goal.invariant-instructions
invariant-instructions l = l.parameters.items ++ leading_parameters (drop l.k l.insts) ≡ l.initial.parameters.items ++ leading_parameters (drop l.from l.insts)
