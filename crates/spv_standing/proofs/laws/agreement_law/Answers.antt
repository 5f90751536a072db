use Rattle.spv_standing.proofs.Spelled as laws
use Rattle.spv_standing.proofs.laws.agreement_law.Goals as goal

pub returns-clause-agrees : goal.returns-clause-agrees
returns-clause-agrees c = laws.spelled_agrees

pub returns-clause-converse : goal.returns-clause-converse
returns-clause-converse c = laws.spelled_converse

pub returns-clause-program : goal.returns-clause-program
returns-clause-program c = laws.spelled_program
