use Rattle.spv_draft.proofs.replacing.replace_all.Goals as goal
use Rattle.std.proofs.Common.{arith, length, ap}
use Rattle.spv_draft.proofs.Replaced.{replaced-more}

pub lines-preserved : goal.lines-preserved
lines-preserved c = record {
  is =
      replaced-more c.args.from c.args.to c.args.lines.now c.lines.lines c.replace_in.new.lines c.lines.k (omega (arith, c.count-k-end.ensures.same))
      c.lines.invariant.is c.replace_in.ensures;
}
