use Rattle.spv_walk.specs.Rules.{IsFirst}
use Rattle.spv_check.specs.Parts.{Missing, UpTo}
use Rattle.spv_check.proofs.bodies.Bodies.missing.Given as goal

abbrev pub invariant-functions : goal.invariant-functions
invariant-functions l = IsFirst (Missing l.self (UpTo l.f)) l.found
