use Rattle.std.proofs.Common.{take}
use Rattle.spv_module_rules.specs.Kept.{AreCounted}
use Rattle.spv_module_rules.proofs.exits.nested_together.Given as goal

abbrev pub invariant-each : goal.invariant-each
invariant-each l = AreCounted (take l.shape-index l.shapes) l.nested
