use Rattle.graph.proofs.Walks.{work}
use Rattle.graph.proofs.ReachedPlaces.{IsWalk}
use Rattle.graph.proofs.reaching.reach.Given as goal

abbrev pub invariant-places : goal.invariant-places
invariant-places l = IsWalk l.graph l.starts l.passable l.walk

abbrev pub decreases-places : goal.decreases-places
decreases-places l = work l.walk
