use Rattle.std.proofs.Common.{◌≡◌, ◌++◌, drop, take}
use Rattle.spv_blocks.specs.Cutting.{rest_of_function}
use Rattle.spv_blocks.proofs.insts.end_of.Given as goal

abbrev pub invariant-instructions : goal.invariant-instructions
invariant-instructions l = rest_of_function (drop l.from l.insts) ≡ drop l.from (take l.k l.insts) ++ rest_of_function (drop l.k l.insts)
