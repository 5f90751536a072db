use Rattle.std.proofs.Common.{◌≡◌, ◌++◌, ℕ, map, take}
use Rattle.spv_sources.specs.Pairs.{incoming}
use Rattle.spv_sources.specs.Values.{group, values_of}
use Rattle.spv_sources.proofs.phis.add_values.Given as goal

abbrev pub invariant-pairs : goal.invariant-pairs
invariant-pairs l = (block : ℕ) → group l.values block ≡ group l.fn.values block ++ values_of block (map incoming (take l.pair-index l.pairs))
