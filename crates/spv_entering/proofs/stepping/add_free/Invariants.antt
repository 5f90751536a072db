use Rattle.std.proofs.Common.{◌≡◌, ◌++◌, take, filter}
use Rattle.spv_blocks.specs.Places.{is_free}
use Rattle.spv_entering.proofs.stepping.add_free.Given as goal

abbrev pub invariant-targets : goal.invariant-targets
invariant-targets l = l.found.items ≡ l.fn.found.items ++ filter (is_free l.labels) (take l.target-index l.targets)
