use Rattle.std.proofs.Common.{drop}
use Rattle.spv_parse.proofs.FirstTargets.{IsNaming}
use Rattle.spv_parse.proofs.naming.other_targets.Given as goal

abbrev pub invariant-cases : goal.invariant-cases
invariant-cases l = IsNaming l.fn.default l.fn.cases (drop l.case-index l.cases) l.seen l.targets.items
