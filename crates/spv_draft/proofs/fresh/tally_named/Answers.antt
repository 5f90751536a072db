use Rattle.std.proofs.Common.{arith}
use Rattle.spv_grammar.specs.Roles.{names_id}
use Rattle.spv_module.specs.View.{seen}
use Rattle.spv_draft.specs.Named.{words_with}
use Rattle.spv_draft.proofs.Counting.{counts-more}
use Rattle.spv_draft.proofs.fresh.tally_named.Goals as goal

pub lines-preserved : goal.lines-preserved
lines-preserved c =
    counts-more (words_with names_id) c.lines.tally c.add_named.new.tally c.args.lines.now c.lines.k (seen c.at.result) (omega arith) c.at.ensures
    c.lines.invariant c.in_ok-add_named.ensures
