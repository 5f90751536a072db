use Rattle.std.proofs.Common.{◌≡◌, length, map, take}
use Rattle.graph.specs.Distinct.{distinct, places_below}
use Rattle.graph.proofs.distinction.distinct.Given as goal

abbrev pub invariant-places : goal.invariant-places
invariant-places l = (l.sieve ≡ length l.graph) × (l.answer ≡ map (λ row. distinct (places_below (length l.graph) row)) (take l.place l.graph))
