use Rattle.std.proofs.Common.{arith}
use Rattle.spv_draft.specs.Named.{named_ids}
use Rattle.spv_draft.proofs.Counting.{counts-added}
use Rattle.spv_draft.proofs.fresh.Index.of.Goals as goal

pub returns : goal.returns
returns c = record {
  at = counts-added c.in_ok-tally.tally c.add_ids.new.tally (named_ids c.args.lines.now) c.args.given.now c.in_ok-tally.ensures c.in_ok-add_ids.ensures;
  above = omega arith;
  below = λ n above below. absurd (omega (arith, above, below));
}
