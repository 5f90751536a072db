use Rattle.spv_standing.proofs.SmallModule as small
use Rattle.spv_standing.proofs.facts.facts_of_spelled.Goals as goal

pub returns-clause-admitted : goal.returns-clause-admitted
returns-clause-admitted c = small.joined_is_admitted

pub returns-clause-spelled : goal.returns-clause-spelled
returns-clause-spelled c = small.joined_is_spelled

pub returns-clause-stands : goal.returns-clause-stands
returns-clause-stands c = small.joined_stands

pub returns-clause-in_turn : goal.returns-clause-in_turn
returns-clause-in_turn c = small.in_turn_is_not_apart
