use Rattle.std.proofs.Common.{◌∙◌, sym, ap}
use Rattle.spv_blocks.specs.Seen.{seen_end}
use Rattle.spv_walk.specs.Rows.{is_exit_by, innermost}
use Rattle.spv_walk.proofs.Rows.{seen_exit}
use Rattle.spv_walking.specs.Kept.{seen_of}
use Rattle.spv_walking.specs.Places.{context_at}
use Rattle.spv_walking.proofs.rows.Rows.is_exit.Goals as goal

pub returns : goal.returns
returns c =
    let at = context_at c.args.self.now c.args.place in
    let end = seen_end c.args.end.now in
    c.is_exit_by.ensures
    ∙ ap (λ l. is_exit_by l (seen_of c.row-row.result.seen) end c.args.target) c.row-row.ensures.level
    ∙ ap (λ s. is_exit_by (innermost at) s end c.args.target) c.row-row.ensures.seen
    ∙ sym (seen_exit at end c.args.target)
