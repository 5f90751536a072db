use Rattle.std.proofs.Common.{ℕ, arith}
use Rattle.std.specs.BTreeSet.{contains}
use Rattle.std.specs.Ordering.{nat_cmp}
use Rattle.spv_sources.proofs.Followed.{joined-more}
use Rattle.spv_sources.proofs.staying.joined_of.Goals as goal

pub each-preserved : goal.each-preserved
each-preserved c =
    joined-more c.args.labels.now c.each.k (λ (t : ℕ). contains nat_cmp c.each.joined t) (λ (t : ℕ). contains nat_cmp c.add_joined.new.joined t) (omega arith) c.in_ok-add_joined.ensures c.each.invariant
