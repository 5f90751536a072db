use Rattle.std.proofs.Common.{◌≡◌, take, fold}
use Rattle.graph_order.specs.Taking.{release}
use Rattle.graph_order.proofs.ordering.Ordering.pass.Given as goal

abbrev pub invariant-places : goal.invariant-places
invariant-places l = l.self ≡ fold release l.fn.self (take l.place-index l.row)
