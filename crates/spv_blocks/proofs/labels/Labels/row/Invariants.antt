use Rattle.std.proofs.Common.{◌≡◌, map, take}
use Rattle.spv_blocks.specs.Blocks.{end_targets}
use Rattle.spv_blocks.specs.Places.{number_of}
use Rattle.spv_blocks.specs.Seen.{seen_block}
use Rattle.spv_blocks.proofs.labels.Labels.row.Given as goal

abbrev pub invariant-targets : goal.invariant-targets
invariant-targets l = l.row.items ≡ map (number_of l.self) (take l.k (end_targets (seen_block l.block).end))
