use Rattle.std.proofs.Common.{◌≡◌, ◌++◌, take}
use Rattle.spv_blocks.specs.Blocks.{seconds}
use Rattle.spv_blocks.proofs.block.push_seconds.Given as goal

abbrev pub invariant-pairs : goal.invariant-pairs
invariant-pairs l = l.labels.items ≡ l.initial.labels.items ++ seconds (take l.pair-index l.pairs)
