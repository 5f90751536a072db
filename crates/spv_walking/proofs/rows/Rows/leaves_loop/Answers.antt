use Rattle.std.proofs.Common.{◌||◌, ◌∙◌, sym, ap}
use Rattle.spv_walk.specs.Rows.{is_that}
use Rattle.spv_walk.proofs.Rows.{seen_loop}
use Rattle.spv_walking.specs.Places.{context_at}
use Rattle.spv_walking.proofs.rows.Rows.leaves_loop.Goals as goal

pub returns : goal.returns
returns c =
    let t = c.args.target in
    c.leaves_loop_by.ensures ∙ ap (λ s. is_that s.merge t || is_that s.next t) c.row.ensures.seen ∙ sym (seen_loop (context_at c.args.self.now c.args.place) t)
