use Rattle.std.proofs.Common.{◌≡◌, [], fold, length}
use Rattle.std.specs.List.{range_with_len}
use Rattle.graph.specs.Rows.{row}
use Rattle.graph_order.specs.Taking.{add}
use Rattle.graph_order.proofs.ordering.Ordering.begin.Given as goal

abbrev pub invariant-places : goal.invariant-places
invariant-places l =
    l.ordering ≡ fold (λ u place. add u place (length (row l.leading place))) (record { waits = []; order = [] }) (range_with_len 0 l.place)
