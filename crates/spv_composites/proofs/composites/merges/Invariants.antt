use Rattle.std.proofs.Common.{◌≡◌, length}
use Rattle.spv_composites.specs.Composites.{merges}
use Rattle.spv_composites.proofs.composites.merges.Given as goal

abbrev pub invariant-pairs : goal.invariant-pairs
invariant-pairs l = merges l.kinds l.t l.pairs ≡ merges l.kinds l.t l.rest

abbrev pub decreases-pairs : goal.decreases-pairs
decreases-pairs l = length l.rest
