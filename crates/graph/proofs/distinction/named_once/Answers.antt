use Rattle.std.proofs.Common.{◌≡◌, ◌++◌, ◌∷◌, [], Bool, cond, length, get_or, ◌∙◌, ap, sym}
use Rattle.graph.proofs.Sifting.{sifted_more}
use Rattle.graph.proofs.distinction.named_once.Goals as goal
use Rattle.graph.proofs.distinction.named_once.Goals.{then-is_first+in_ok-push, else-is_first}

pub row-preserved : goal.row-preserved
row-preserved c =
    let place = get_or c.args.row.now c.row.place-index 0 in
    let pushed : c.if-is_first.places ≡ cond c.is_first.result (c.row.places ++ place ∷ []) c.row.places =
    elim c.if-is_first.branch [
      | then-is_first+in_ok-push w ↦ w.places-is ∙ w.in_ok-push.ensures.ok ∙ sym (ap (λ (b : Bool). cond b (c.row.places ++ place ∷ []) c.row.places) w.if-is_first.true)
      | else-is_first w ↦ w.places-is ∙ sym (ap (λ (b : Bool). cond b (c.row.places ++ place ∷ []) c.row.places) w.if-is_first.false)
    ] in
    sifted_more (length c.args.last.now.items) c.args.stamp c.row.place-index c.args.row.now c.row.last.items c.row.places c.is_first.new.last.items c.if-is_first.places c.is_first.result c.row-test.true c.row.invariant c.is_first.ensures.first c.is_first.ensures.after pushed
