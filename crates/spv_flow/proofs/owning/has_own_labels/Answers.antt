use Rattle.std.proofs.Common.{◌≤◌, length, sym, ap, ◌∙◌, arith}
use Rattle.spv_blocks.specs.Blocks.{Code, is_it}
use Rattle.spv_blocks.specs.Places.{place}
use Rattle.spv_blocks.specs.Seen.{seen_block}
use Rattle.spv_flow.proofs.OwnLabels.{own-there, stand-all}
use Rattle.spv_flow.proofs.owning.has_own_labels.Goals as goal

pub returns-then-not-stands_at-clause-no : goal.returns-then-not-stands_at-clause-no
returns-then-not-stands_at-clause-no c = λ own.
    let b = seen_block c.block.result.now in
    sym c.if-not-stands_at.true
    ∙ c.stands_at.ensures
    ∙ ap (λ (f : Code). is_it c.each.k (place f b.label)) c.requires.same
    ∙ own-there c.args.function.now c.each.k b c.block.ensures own

pub returns-clause-yes : goal.returns-clause-yes
returns-clause-yes c = λ h.
    let n : length c.args.function.now ≤ c.each.k = (let t = c.each-test.false in let e = c.count-k-end.ensures in omega arith) in
    stand-all c.args.function.now c.each.k n c.each.invariant
