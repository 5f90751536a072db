use Rattle.std.proofs.Common.{◌≡◌, [], replicate}
use Rattle.graph.proofs.rows.Graph.bare.Given as goal

abbrev pub invariant-places : goal.invariant-places
invariant-places l = l.graph ≡ replicate l.counter []
