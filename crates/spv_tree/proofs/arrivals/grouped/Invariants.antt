use Rattle.spv_tree.specs.Branches.{branchings, HasGroups}
use Rattle.spv_tree.proofs.arrivals.grouped.Given as goal

abbrev pub invariant-branches : goal.invariant-branches
invariant-branches l = HasGroups l.groups (branchings l.yielded)
