use Rattle.std.proofs.Common.{◌≡◌, ◌∙◌, ◌+◌, ℕ, List, ◌≤◌, length, take, sym, ap, subst}
use Rattle.graph.specs.Rows.{row}
use Rattle.spv_blocks.specs.Edges.{predecessors_of}
use Rattle.spv_faults.specs.Once.{IsSetOf}
use Rattle.spv_faults.proofs.PredecessorLabels.{labels_at, number-within, labels-more, labels-all}
use Rattle.spv_faults.proofs.parents.parents_of.Goals as goal

pub label-requires : goal.label-requires
label-requires c =
    number-within c.args.function.now c.args.edges.now.predecessors c.args.place c.numbers.i-index c.row-i-items.result.now c.requires c.row-i-items.ensures c.numbers-test.true

pub numbers-preserved : goal.numbers-preserved
numbers-preserved c =
    let f = c.args.function.now in
    let same : c.row-i-items.result.now ≡ row (predecessors_of f) c.args.place = c.row-i-items.ensures ∙ ap (λ p. row p c.args.place) c.requires in
    subst (λ (is : List ℕ). IsSetOf (labels_at f (take (c.numbers.i-index + 1) is)) c.insert.new.self) same
    (labels-more f c.row-i-items.result.now c.numbers.i-index c.label.result c.numbers.parents c.insert.new.self c.numbers-test.true c.label.ensures
    (subst (λ (is : List ℕ). IsSetOf (labels_at f (take c.numbers.i-index is)) c.numbers.parents) (sym same) c.numbers.invariant) c.in_ok-insert.ensures.updates)

pub returns : goal.returns
returns c =
    let f = c.args.function.now in
    let same : c.row-i-items.result.now ≡ row (predecessors_of f) c.args.place = c.row-i-items.ensures ∙ ap (λ p. row p c.args.place) c.requires in
    labels-all f c.args.place c.numbers.i-index c.numbers.parents (subst (λ (is : List ℕ). length is ≤ c.numbers.i-index) same c.numbers-test.false) c.numbers.invariant
