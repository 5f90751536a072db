use Rattle.std.proofs.Common.{◌≡◌, take}
use Rattle.spv_blocks.specs.Blocks.{seconds}
use Rattle.spv_faults.proofs.numbers.seconds.Given as goal

abbrev pub invariant-pairs : goal.invariant-pairs
invariant-pairs l = l.numbers.items ≡ seconds (take l.pair-index l.pairs)
