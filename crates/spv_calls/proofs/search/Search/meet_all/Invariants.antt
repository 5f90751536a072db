use Rattle.std.proofs.Common.{◌≡◌, take, fold}
use Rattle.graph.specs.Walks.{meet}
use Rattle.spv_calls.specs.Kept.{going, IsKnown}
use Rattle.spv_calls.proofs.search.Search.meet_all.Given as goal

abbrev pub invariant-places : goal.invariant-places
invariant-places l = (going l.self ≡ fold meet (going l.fn.self) (take l.place-index l.places)) × (IsKnown l.fn.self → IsKnown l.self)
