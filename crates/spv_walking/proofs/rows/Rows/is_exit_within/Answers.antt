use Rattle.std.proofs.Common.{◌∷◌, Some, ◌∙◌, sym, ap}
use Rattle.spv_blocks.specs.Seen.{seen_end}
use Rattle.spv_walk.specs.Rows.{is_exit_by, seen_within}
use Rattle.spv_walk.proofs.Rows.{seen_exit}
use Rattle.spv_walking.specs.Kept.{level_of}
use Rattle.spv_walking.specs.Places.{context_at}
use Rattle.spv_walking.proofs.rows.Rows.is_exit_within.Goals as goal

pub returns : goal.returns
returns c =
    let at = context_at c.args.self.now c.args.place in
    let end = seen_end c.args.end.now in
    let level = level_of c.args.level in
    c.is_exit_by.ensures
    ∙ ap (λ s. is_exit_by (Some level) s end c.args.target) (c.within.ensures ∙ ap (seen_within level) c.row-row.ensures.seen)
    ∙ sym (seen_exit (level ∷ at) end c.args.target)
