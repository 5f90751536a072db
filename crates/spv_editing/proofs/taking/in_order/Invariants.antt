use Rattle.std.proofs.Common.{◌≡◌, ◌++◌, length}
use Rattle.std.specs.Prelude.{reverse}
use Rattle.spv_editing.proofs.taking.in_order.Given as goal

abbrev pub invariant-taking : goal.invariant-taking
invariant-taking g l = l.items ++ reverse l.taken.items ≡ l.fn.items

abbrev pub decreases-taking : goal.decreases-taking
decreases-taking g l = length l.items
