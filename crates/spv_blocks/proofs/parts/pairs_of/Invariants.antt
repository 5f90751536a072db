use Rattle.std.proofs.Common.{◌≡◌, ◌++◌, length}
use Rattle.spv_blocks.specs.Cutting.{pairs}
use Rattle.spv_blocks.proofs.parts.pairs_of.Given as goal

abbrev pub invariant-pairs : goal.invariant-pairs
invariant-pairs l = pairs l.words ≡ l.list.items ++ pairs l.rest

abbrev pub decreases-pairs : goal.decreases-pairs
decreases-pairs l = length l.rest
