-- The calls of one kind that a `Memory` was asked, and those of them that are to fail.
use Rattle.std.specs.Prelude.{ℕ, ◌+◌, Bool, List, min, nat_lt, ◌&&◌, not, if◌then◌else◌}
use Rattle.std.specs.BTreeSet.{insert_key}
use Rattle.std.specs.List.{list_any}
use Rattle.std.specs.Ordering.{nat_cmp, is_eq}
use Rattle.opt_outside.specs.Seen.{last_count}

-- How many calls were made, and the numbers, from 1, of those that are to fail.
pub record Calls : Type 0 where
  pub made : ℕ
  pub failing : List ℕ

-- One more, up to the last value of a count.
abbrev pub one_more : ℕ → ℕ
one_more count = min (count + 1) last_count

-- The calls, with one more made.
abbrev pub counted : Calls → Calls
counted calls = record calls { made = one_more calls.made }

-- The call of this number is to fail.
abbrev pub is_listed : ℕ → Calls → Bool
is_listed nth calls = list_any (λ k. is_eq (nat_cmp nth k)) calls.failing

-- The call that comes next is to fail.
abbrev pub is_doomed : Calls → Bool
is_doomed calls = is_listed (one_more calls.made) calls

-- The call of this number is still to come, and is not to fail yet. There is no call 0.
abbrev pub can_join : ℕ → Calls → Bool
can_join nth calls = nat_lt calls.made nth && not (is_listed nth calls)

-- The call of this number is to fail too, where it can join; else nothing changes.
abbrev pub with_failing : ℕ → Calls → Calls
with_failing nth calls = record calls {
  failing = if can_join nth calls then insert_key nat_cmp calls.failing nth else calls.failing;
}
