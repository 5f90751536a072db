use Rattle.spv_body_rules.specs.Standings.{IsStanding}
use Rattle.spv_body_rules.proofs.Refusals.{IsClear}
use Rattle.spv_check.specs.Parts.{rules_of_one}
use Rattle.spv_check.proofs.listing.first_listed.Given as goal

abbrev pub invariant-instructions : goal.invariant-instructions
invariant-instructions l = IsClear (rules_of_one l.bodies l.number) l.bodies l.k × IsStanding l.bodies l.k l.standing
