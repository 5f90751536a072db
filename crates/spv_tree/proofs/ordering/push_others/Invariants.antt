use Rattle.std.proofs.Common.{◌≡◌, ◌++◌, not, take}
use Rattle.std.specs.BTreeSet.{contains}
use Rattle.std.specs.List.{filter}
use Rattle.std.specs.Ordering.{nat_cmp}
use Rattle.spv_tree.specs.Branches.{branchings, shown}
use Rattle.spv_tree.proofs.ordering.push_others.Given as goal

abbrev pub invariant-branches : goal.invariant-branches
invariant-branches l = shown l.ordered.items ≡ shown l.fn.ordered.items ++ filter (λ branching. not (contains nat_cmp l.named branching.0)) (branchings (take l.branch-index l.arriving))
