use Rattle.std.proofs.Common.{ℕ, ◌-◌, ◌<◌, ◌≤◌}
use Rattle.spv_draft.specs.Tallies.{tallied}
use Rattle.spv_draft.proofs.fresh.next_free.Given as goal

abbrev pub invariant-search : goal.invariant-search
invariant-search l = record { onward : l.from ≤ l.next; below : (n : ℕ) → l.from ≤ n → n < l.next → 0 < tallied l.tally n }

abbrev pub decreases-search : goal.decreases-search
decreases-search l = 4194303 - l.next
