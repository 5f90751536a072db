use Rattle.graph.proofs.Predecessors.{AreTurned}
use Rattle.graph.proofs.reversing.reversed.Given as goal

abbrev pub invariant-places : goal.invariant-places
invariant-places l = AreTurned l.place l.graph l.turned
