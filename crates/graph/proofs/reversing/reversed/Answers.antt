use Rattle.std.proofs.Common.{◌≡◌, List, ℕ, length, fold, ◌∙◌, ap, subst, arith}
use Rattle.graph.specs.Rows.{added}
use Rattle.graph.proofs.Predecessors.{AreTurned, turned-more, turned-all}
use Rattle.graph.proofs.reversing.reversed.Goals as goal

pub places-preserved : goal.places-preserved
places-preserved c =
    turned-more c.places.place c.args.graph.now c.places.turned c.with_predecessor.new.graph c.places.invariant
    (c.in_ok-with_predecessor.ensures ∙ ap (λ (row : List ℕ). fold (λ rows successor. added rows successor c.places.place) c.places.turned row) c.row.ensures)

pub returns : goal.returns
returns c =
    let all : c.places.place ≡ length c.args.graph.now = omega arith in
    turned-all c.args.graph.now c.places.turned (subst (λ (n : ℕ). AreTurned n c.args.graph.now c.places.turned) all c.places.invariant)
