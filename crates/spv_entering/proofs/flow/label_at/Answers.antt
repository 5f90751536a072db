use Rattle.std.proofs.Common.{sym, ◌∙◌, ap}
use Rattle.spv_entering.proofs.Flows.{first-at, other-some, other-none}
use Rattle.std.proofs.Common.{Some}
use Rattle.spv_entering.proofs.flow.label_at.Goals as goal

pub returns-in-Some : goal.returns-in-Some
returns-in-Some c = λ q.
    first-at c.args.labels.now c.args.place c.in_ok-label.label q (sym c.in_ok-label.ensures)
    (sym c.in-Some.ensures ∙ ap (λ k. Some k) c.if-first-place.true)

pub returns-in_default : goal.returns-in_default
returns-in_default c = λ q. other-some c.args.labels.now c.args.place c.in_ok-label.label c.in-Some.first q c.in_ok-label.ensures c.in-Some.ensures c.if-first-place.false

pub returns-in_default-2 : goal.returns-in_default-2
returns-in_default-2 c = λ q. other-none c.args.labels.now c.args.place c.in_ok-label.label q c.in_ok-label.ensures c.in_default.ensures
