use Rattle.std.proofs.Common.{◌≡◌, ◌++◌, drop}
use Rattle.spv_blocks.specs.Cutting.{starts, starts_from}
use Rattle.spv_blocks.proofs.insts.starts.Given as goal

abbrev pub invariant-instructions : goal.invariant-instructions
invariant-instructions l = starts l.flat.insts ≡ l.numbers.items ++ starts_from l.k (drop l.k l.flat.insts)
