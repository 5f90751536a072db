use Rattle.std.proofs.Common.{take}
use Rattle.spv_blocks.specs.Places.{HasNames}
use Rattle.spv_blocks.proofs.counting.counts_of.Given as goal

abbrev pub invariant-each : goal.invariant-each
invariant-each l = HasNames l.counts (take l.k l.function)
