use Rattle.std.proofs.Common.{◌-◌, length}
use Rattle.graph_order.proofs.Ordered.{IsUnderWay}
use Rattle.graph_order.proofs.ordering.order.Given as goal

abbrev pub invariant-order : goal.invariant-order
invariant-order l = IsUnderWay l.graph l.k l.ordering

abbrev pub decreases-order : goal.decreases-order
decreases-order l = length l.graph - l.k
