use Rattle.std.proofs.Common.{◌≡◌, ◌+◌, length, Some, refl, ap, ◌∙◌, arith}
use Rattle.spv_walk.specs.Rows.{seen_within}
use Rattle.spv_walking.specs.Contexts.{contexts_of}
use Rattle.spv_walking.specs.Kept.{level_of}
use Rattle.spv_walking.specs.Places.{context_at}
use Rattle.spv_walking.proofs.KeptContexts.{kept_push}
use Rattle.spv_walking.proofs.rows.Rows.push.Goals as goal

pub overflow_add-row : goal.overflow_add-row
overflow_add-row c =
    let n = c.row-row.ensures.shallow in
    let d = c.row-row.ensures.depth in
    let k = c.self.invariant.count in
    let v : length (contexts_of c.self.inside.rows.items) ≡ length c.args.self.now = ap length c.self.view_is in
    omega arith

pub invariant_of-self-2 : goal.invariant_of-self-2
invariant_of-self-2 c =
    let outside = context_at c.args.self.now c.args.outer in
    kept_push c.self.inside.rows.items c.push.new.self.items c.args.self.now
    (record { outer = c.args.outer; level = Some c.args.level; seen = c.within.result; depth = c.row-row.result.depth + 1 }) c.args.level
    c.self.invariant c.self.view_is
    (record {
      level = refl;
      within = c.requires;
      seen = c.within.ensures ∙ ap (seen_within (level_of c.args.level)) c.row-row.ensures.seen;
      depth = ap (λ n. n + 1) c.row-row.ensures.depth;
      shallow = c.row-row.ensures.shallow;
    })
    c.in_ok-push.ensures.items
