use Rattle.std.proofs.Common.{◌≡◌, ℕ, ◌<◌, get_or}
use Rattle.graph.proofs.distinction.next_stamp.Given as goal

abbrev pub invariant-stamps : goal.invariant-stamps
invariant-stamps l = (k : ℕ) → k < l.old-index → get_or l.old-items k 0 ≡ 0
