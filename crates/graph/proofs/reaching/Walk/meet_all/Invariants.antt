use Rattle.std.proofs.Common.{◌≡◌, take, fold}
use Rattle.graph.specs.Walks.{meet}
use Rattle.graph.proofs.reaching.Walk.meet_all.Given as goal

abbrev pub invariant-places : goal.invariant-places
invariant-places l = l.self ≡ fold meet l.fn.self (take l.place-index l.places)
