use Rattle.std.proofs.Common.{Bool, List, ℕ, ◌∙◌, sym, ap}
use Rattle.std.specs.List.{list_all}
use Rattle.graph.specs.Rows.{row, is_marked}
use Rattle.spv_calls.proofs.Settled.{settled-more}
use Rattle.spv_calls.proofs.settling.settle_one.Goals as goal

pub returns-then-all_marked : goal.returns-then-all_marked
returns-then-all_marked c = λ s.
    settled-more c.args.graph.now c.args.settled.now.items c.args.place s
    (ap (λ (marks : List Bool). list_all (is_marked marks) (row c.args.graph.now c.args.place)) (sym c.deref.ensures.value)
    ∙ ap (λ (places : List ℕ). list_all (is_marked c.deref.result.now) places) (sym c.row.ensures)
    ∙ sym c.all_marked.ensures
    ∙ c.if-all_marked.true)
