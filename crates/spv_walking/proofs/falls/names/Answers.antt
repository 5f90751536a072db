use Rattle.std.proofs.Common.{◌==◌, ◌||◌, ℕ, List, sym, ap, ◌∙◌}
use Rattle.std.specs.List.{list_any}
use Rattle.spv_blocks.specs.Blocks.{end_targets, has, seconds}
use Rattle.spv_blocks.specs.Seen.{seen_end}
use Rattle.spv_walk.proofs.Unique.{false_equal}
use Rattle.spv_walking.proofs.CaseFalls.{has_seconds}
use Rattle.spv_walking.proofs.falls.names.Goals as goal

pub returns-else-default-target : goal.returns-else-default-target
returns-else-default-target c =
    let t = c.args.target in
    let cases = c.in-Switch.cases.items in
    c.has_case.ensures
    ∙ ap (λ (ps : List (ℕ × ℕ)). list_any (λ (p : ℕ × ℕ). p.1 == t) ps) c.deref.ensures.value
    ∙ has_seconds cases t
    ∙ ap (λ z. z || has (seconds cases) t) (sym (false_equal c.in-Switch.default t c.if-default-target.false))
    ∙ sym (ap (λ e. has (end_targets (seen_end e)) t) c.in-Switch.is)
