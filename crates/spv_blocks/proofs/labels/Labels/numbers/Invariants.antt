use Rattle.std.proofs.Common.{◌≡◌, map, take}
use Rattle.spv_blocks.specs.Places.{number_of}
use Rattle.spv_blocks.proofs.labels.Labels.numbers.Given as goal

abbrev pub invariant-labels : goal.invariant-labels
invariant-labels l = l.numbers.items ≡ map (number_of l.self) (take l.label-index l.labels)
