use Rattle.spv_body_rules.specs.Broken.{body_rules}
use Rattle.spv_body_rules.specs.Standings.{IsStanding}
use Rattle.spv_body_rules.proofs.Refusals.{IsClear}
use Rattle.spv_body_rules.proofs.first.first_broken.Given as goal

abbrev pub invariant-instructions : goal.invariant-instructions
invariant-instructions l = IsClear (body_rules l.tables) l.tables l.k × IsStanding l.tables l.k l.standing
