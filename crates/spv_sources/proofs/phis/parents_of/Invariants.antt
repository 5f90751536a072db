use Rattle.std.proofs.Common.{◌≡◌, map, take}
use Rattle.spv_blocks.specs.Blocks.{seconds}
use Rattle.spv_sources.specs.Pairs.{incoming}
use Rattle.spv_sources.specs.Source.{label_in}
use Rattle.spv_sources.proofs.phis.parents_of.Given as goal

abbrev pub invariant-pairs : goal.invariant-pairs
invariant-pairs l = l.parents ≡ map (label_in l.stays.entries) (seconds (map incoming (take l.pair-index l.pairs)))
