use Rattle.std.proofs.Common.{◌≡◌, ◌-◌, ◌<◌, ◌∙◌, ℕ, List, suc, length, get_or, sym, ap, subst, arith}
use Rattle.spv_blocks.specs.Blocks.{end_targets, seconds}
use Rattle.spv_blocks.specs.Seen.{seen_end}
use Rattle.spv_blocks.specs.declared.block.End.{End as DeclaredEnd}
use Rattle.spv_blocks.proofs.EndTargets.{count_seconds, case-within, case-at}
use Rattle.spv_blocks.proofs.block.target_of.Goals as goal

pub second_at-requires : goal.second_at-requires
second_at-requires c =
    let ps = c.in-Switch.cases.items in
    let count : length (end_targets (seen_end c.args.end.now)) ≡ suc (length (seconds ps)) = ap (λ (e : DeclaredEnd). length (end_targets (seen_end e))) c.in-Switch.is in
    let less : c.args.k < suc (length ps) = subst (λ (n : ℕ). c.args.k < suc n) (count_seconds ps) (subst (λ (n : ℕ). c.args.k < n) count c.requires) in
    subst (λ (qs : List (ℕ × ℕ)). c.args.k - 1 < length qs) (sym c.deref.ensures.value) (case-within (length ps) c.args.k c.if-k-eq0-2.false less)

pub returns-else-k-eq0-2 : goal.returns-else-k-eq0-2
returns-else-k-eq0-2 c =
    let ps = c.in-Switch.cases.items in
    c.second_at.ensures ∙ ap (λ (qs : List (ℕ × ℕ)). get_or (seconds qs) (c.args.k - 1) 0) c.deref.ensures.value
    ∙ case-at c.in-Switch.default ps c.args.k c.if-k-eq0-2.false ∙ ap (λ (e : DeclaredEnd). get_or (end_targets (seen_end e)) c.args.k 0) (sym c.in-Switch.is)
