use Rattle.std.proofs.Common.{sym, ◌∙◌}
use Rattle.spv_blocks.specs.Seen.{seen_block}
use Rattle.spv_walking.specs.Table.{context_of}
use Rattle.spv_exits.proofs.CountedReturns.{nested-more, nested-same}
use Rattle.spv_exits.proofs.nesting.nested_returns.Goals as goal
use Rattle.spv_exits.proofs.nesting.nested_returns.Goals.{then-is_nested_return, else-is_nested_return}

pub each-preserved : goal.each-preserved
each-preserved c =
    let place = context_of c.args.walked.now in
    let f = c.args.function.now in
    let b = seen_block c.block.result.now in
    elim c.if-is_nested_return.branch [
      | then-is_nested_return w ↦
          w.count-is
          ∙ nested-more place f c.each.k c.each.count b c.block.ensures c.each.invariant (sym c.is_nested_return.ensures ∙ w.if-is_nested_return.true)
      | else-is_nested_return w ↦
          w.count-is
          ∙ nested-same place f c.each.k c.each.count b c.block.ensures c.each.invariant (sym c.is_nested_return.ensures ∙ w.if-is_nested_return.false)
    ]
