use Rattle.std.proofs.Common.{take}
use Rattle.spv_ids.specs.Places.{HasPlaces}
use Rattle.spv_ids.proofs.definitions.places_of.Given as goal

abbrev pub invariant-instructions : goal.invariant-instructions
invariant-instructions l = HasPlaces l.places (take l.k l.flat.insts)
