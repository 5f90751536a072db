use Rattle.std.proofs.Common.{◌≡◌, take, filter}
use Rattle.spv_entering.specs.Cases.{stays}
use Rattle.spv_entering.proofs.cases.staying.Given as goal

abbrev pub invariant-each : goal.invariant-each
invariant-each l = l.left.items ≡ filter (stays l.labels l.s l.marks) (take l.p-index l.blocks)
