use Rattle.std.proofs.Common.{◌≡◌, ◌+◌, take}
use Rattle.spv_module_rules.specs.Kept.{blocks_together}
use Rattle.spv_module_rules.proofs.exits.have_few_blocks.Given as goal

abbrev pub invariant-each : goal.invariant-each
invariant-each l = l.left + blocks_together (take l.shape-index l.shapes) ≡ 8191
