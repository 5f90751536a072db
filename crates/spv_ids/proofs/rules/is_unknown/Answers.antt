use Rattle.std.proofs.Common.{Bool, ◌&&◌, nat_le, Some, None, ◌∙◌, ap, sym}
use Rattle.spv_ids.proofs.Ids.{unknown-at}
use Rattle.spv_ids.proofs.rules.is_unknown.Goals as goal

pub returns-then-early : goal.returns-then-early
returns-then-early c =
    ap (λ (b : Bool). b && nat_le c.args.k c.in-Some.place) (sym c.if-early.true) ∙ unknown-at c.args.definitions.now c.args.early c.args.k c.args.id (Some c.in-Some.place) c.in-Some.ensures

pub returns-else-early : goal.returns-else-early
returns-else-early c =
    c.if-early.false
    ∙ ap (λ (b : Bool). b && nat_le c.args.k c.in-Some.place) (sym c.if-early.false)
    ∙ unknown-at c.args.definitions.now c.args.early c.args.k c.args.id (Some c.in-Some.place) c.in-Some.ensures

pub returns-in-None : goal.returns-in-None
returns-in-None c = unknown-at c.args.definitions.now c.args.early c.args.k c.args.id None c.in-None.ensures
