use Rattle.std.proofs.Common.{take}
use Rattle.spv_blocks.specs.Places.{HasPlaces}
use Rattle.spv_blocks.proofs.labels.places_of.Given as goal

abbrev pub invariant-each : goal.invariant-each
invariant-each l = HasPlaces l.places (take l.k l.function)
