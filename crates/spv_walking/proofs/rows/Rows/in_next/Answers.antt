use Rattle.std.proofs.Common.{◌∙◌, sym, ap}
use Rattle.spv_walk.proofs.Rows.{seen_next}
use Rattle.spv_walking.specs.Places.{context_at}
use Rattle.spv_walking.proofs.rows.Rows.in_next.Goals as goal

pub returns : goal.returns
returns c = ap (λ s. s.in_next) c.row.ensures.seen ∙ sym (seen_next (context_at c.args.self.now c.args.place))
