use Rattle.graph.proofs.Walks.{work}
use Rattle.spv_calls.specs.Kept.{going}
use Rattle.spv_calls.proofs.Searching.{IsSearch}
use Rattle.spv_calls.proofs.search.Search.run.Given as goal

abbrev pub invariant-places : goal.invariant-places
invariant-places l = IsSearch l.graph l.fn.start l.self

abbrev pub decreases-places : goal.decreases-places
decreases-places l = work (going l.self)
