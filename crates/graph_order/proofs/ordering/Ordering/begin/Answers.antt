use Rattle.graph_order.proofs.Ordered.{begun_more}
use Rattle.graph_order.proofs.ordering.Ordering.begin.Goals as goal

pub places-preserved : goal.places-preserved
places-preserved c =
    begun_more c.args.leading.now c.places.place c.places.ordering c.add.new.self c.row.result.now c.places.invariant c.in_ok-add.ensures c.row.ensures
