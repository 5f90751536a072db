use Rattle.std.proofs.Common.{arith}
use Rattle.spv_module.specs.View.{seen}
use Rattle.spv_draft.specs.Named.{used_by}
use Rattle.spv_draft.proofs.Counting.{counts-more}
use Rattle.spv_draft.proofs.uses.tally_used.Goals as goal

pub lines-preserved : goal.lines-preserved
lines-preserved c =
    counts-more used_by c.lines.tally c.add_used.new.tally c.args.lines.now c.lines.k (seen c.at.result) (omega arith) c.at.ensures c.lines.invariant
    c.in_ok-add_used.ensures
