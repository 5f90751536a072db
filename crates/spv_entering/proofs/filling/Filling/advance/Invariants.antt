use Rattle.std.proofs.Common.{◌-◌, length}
use Rattle.spv_entering.specs.Filling.{top_of, IsPassed}
use Rattle.spv_entering.proofs.filling.Filling.advance.Given as goal

abbrev pub invariant-each : goal.invariant-each
invariant-each l = IsPassed l.flow (top_of l.self) l.t (record { count = l.count; left = l.left })

abbrev pub decreases-each : goal.decreases-each
decreases-each l = length l.blocks - l.count
