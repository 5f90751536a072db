use Rattle.std.proofs.Common.{take}
use Rattle.graph.proofs.Choices.{IsFound}
use Rattle.graph.proofs.choice.the_one.Given as goal

abbrev pub invariant-places : goal.invariant-places
invariant-places l = IsFound (take l.place-index l.places) l.marks l.found
