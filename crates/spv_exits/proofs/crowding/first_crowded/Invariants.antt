use Rattle.std.proofs.Common.{◌≡◌, take}
use Rattle.spv_module.specs.First.{first}
use Rattle.spv_exits.specs.Exits.{crowded_among}
use Rattle.spv_exits.proofs.crowding.first_crowded.Given as goal

abbrev pub invariant-each : goal.invariant-each
invariant-each l = l.refusal ≡ first (crowded_among l.function l.nested (take l.k l.function))
