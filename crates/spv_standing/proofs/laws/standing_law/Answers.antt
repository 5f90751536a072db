use Rattle.spv_standing.proofs.Spelled as laws
use Rattle.spv_standing.proofs.laws.standing_law.Goals as goal

pub returns-clause-one : goal.returns-clause-one
returns-clause-one c = laws.spelled_stands

pub returns-clause-all : goal.returns-clause-all
returns-clause-all c = laws.all_spelled_stand
