use Rattle.std.proofs.Common.{◌≡◌, ◌-◌, ◌≤◌, ◌^◌, length, max}
use Rattle.spv_draft.specs.Functions.{next_function}
use Rattle.spv_draft.proofs.functions.next_function.Given as goal

abbrev pub invariant-search : goal.invariant-search
invariant-search l = record {
  same : next_function l.from l.lines ≡ next_function l.at l.lines;
  onward : l.from ≤ l.at;
  within : l.at ≤ max l.from (2 ^ 32);
}

abbrev pub decreases-search : goal.decreases-search
decreases-search l = length l.lines - l.at
