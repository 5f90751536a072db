use Rattle.std.proofs.Common.{◌≡◌, true, rules, length, replicate, ◌∙◌, ap}
use Rattle.std.proofs.lemmas.Result.{IfOk-weaker}
use Rattle.graph.specs.Reaching.{IsReached, IsReachedPast, AreMarks}
use Rattle.graph.proofs.ReachedPlaces.{marks-all}
use Rattle.graph.proofs.reaching.reach_all.Goals as goal

pub returns : goal.returns
returns c =
    let rows = c.args.graph.now in
    let starts = c.args.starts.now in
    let full : c.in_ok-passable.passable.items ≡ replicate c.count.result true = search rules in
    IfOk-weaker c.reach.result (λ v. AreMarks (length rows) (IsReachedPast rows starts c.deref.result.now) v.items) (λ v. AreMarks (length rows) (IsReached rows starts) v.items)
    (λ v h. marks-all rows starts c.deref.result.now v.items (c.deref.ensures.value ∙ full ∙ ap (λ n. replicate n true) c.count.ensures) h)
    c.reach.ensures
