use Rattle.std.proofs.Common.{take}
use Rattle.spv_entering.specs.Cases.{AllAre}
use Rattle.spv_entering.proofs.cases.has_other.Given as goal

abbrev pub invariant-each : goal.invariant-each
invariant-each l = AllAre (take l.other-index l.list) l.number
