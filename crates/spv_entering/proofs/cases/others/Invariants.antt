use Rattle.std.proofs.Common.{◌≡◌, take, filter}
use Rattle.spv_entering.specs.Cases.{is_other}
use Rattle.spv_entering.proofs.cases.others.Given as goal

abbrev pub invariant-targets : goal.invariant-targets
invariant-targets l = l.others.items ≡ filter (is_other l.labels l.t) (take l.target-index l.targets)
