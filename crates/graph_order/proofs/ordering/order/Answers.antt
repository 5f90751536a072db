use Rattle.std.proofs.Common.{sym, arith}
use Rattle.graph_order.proofs.Ordered.{begins_by, goes_on_by, falls, place_inside, ends}
use Rattle.graph_order.proofs.ordering.order.Goals as goal

pub order-init : goal.order-init
order-init c = begins_by c.args.graph.now c.in_ok-leading.leading c.in_ok-ordering.ordering c.in_ok-leading.ensures c.in_ok-ordering.ensures

pub order-smaller : goal.order-smaller
order-smaller c = falls c.args.graph.now c.order.k c.in-Some.place c.order.ordering c.order.invariant (sym c.in-Some.ensures)

pub order-preserved : goal.order-preserved
order-preserved c =
    goes_on_by c.args.graph.now c.in_ok-onward.onward c.order.k c.in-Some.place c.order.ordering c.pass.new.self c.row.result.now c.order.invariant c.in_ok-onward.ensures
    (sym c.in-Some.ensures) c.row.ensures c.in_ok-pass.ensures

pub returns : goal.returns
returns c = ends c.args.graph.now c.order.k c.order.ordering c.count-count.result c.into_whole.result c.order.invariant c.in_default.ensures c.count-count.ensures c.into_whole.ensures

pub overflow_add-k : goal.overflow_add-k
overflow_add-k c =
    let inside = place_inside c.args.graph.now c.order.k c.in-Some.place c.order.ordering c.order.invariant (sym c.in-Some.ensures) in
    let is = c.count-count.ensures in
    let fits = c.count-count.auto in
    omega arith
