use Rattle.std.proofs.Common.{◌+◌, ap, arith}
use Rattle.spv_placing.proofs.Spans.{no_further, placed-more}
use Rattle.spv_placing.proofs.placing.place_all.Goals as goal

pub overflow_add-at : goal.overflow_add-at
overflow_add-at c =
    let h = c.spans.invariant in
    let far =
    no_further c.args.pool.now c.args.spans.now.items c.spans.spans.items c.spans.at c.spans.k c.index-span.result.now h (omega (arith, h.long))
    c.index-span.ensures in
    omega (arith, far, c.requires.small, c.span_words-at.ensures)

pub spans-preserved : goal.spans-preserved
spans-preserved c =
    let h = c.spans.invariant in
    placed-more c.args.pool.now c.args.spans.now.items c.spans.spans.items c.spans.at c.spans.k c.index-span.result.now h (omega (arith, h.long))
    c.index-span.ensures (c.spans.at + c.span_words-at.result) (ap (λ n. c.spans.at + n) c.span_words-at.ensures)
