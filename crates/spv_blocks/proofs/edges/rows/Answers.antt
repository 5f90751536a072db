use Rattle.std.proofs.Common.{ℕ, List, [], ◌∷◌, ◌++◌, ap, ◌∙◌}
use Rattle.spv_blocks.proofs.EdgeLaws.{rows-next}
use Rattle.spv_blocks.proofs.edges.rows.Goals as goal

pub each-preserved : goal.each-preserved
each-preserved c =
    rows-next c.args.labels.now c.each.i c.each.rows c.push.new.self c.in_ok-row.field-0.items c.in_ok-row.ensures c.each.invariant
    (c.in_ok-push.ensures.ok ∙ ap (λ (r : List ℕ). c.each.rows ++ r ∷ []) c.from_vec.ensures)
