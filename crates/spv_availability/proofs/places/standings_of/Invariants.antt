use Rattle.spv_availability.proofs.Standings.{StandFirst}
use Rattle.spv_availability.proofs.places.standings_of.Given as goal

abbrev pub invariant-instructions : goal.invariant-instructions
invariant-instructions l = StandFirst l.flat.insts l.k l.function l.block l.standings.items
