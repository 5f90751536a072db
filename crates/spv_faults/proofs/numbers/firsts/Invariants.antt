use Rattle.std.proofs.Common.{◌≡◌, take}
use Rattle.spv_faults.specs.Once.{firsts}
use Rattle.spv_faults.proofs.numbers.firsts.Given as goal

abbrev pub invariant-pairs : goal.invariant-pairs
invariant-pairs l = l.numbers.items ≡ firsts (take l.pair-index l.pairs)
