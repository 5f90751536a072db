use Rattle.std.proofs.Common.{take}
use Rattle.spv_calls.specs.Kept.{IsUnmarked}
use Rattle.spv_calls.proofs.search.unmark.Given as goal

abbrev pub invariant-places : goal.invariant-places
invariant-places l = IsUnmarked l.fn.met.items l.met.items (take l.place-index l.places)
