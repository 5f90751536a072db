use Rattle.spv_unbroken.proofs.Agreement as laws
use Rattle.spv_unbroken.proofs.laws.unbroken_agreement_law.Goals as goal

pub returns-clause-unbroken_agrees : goal.returns-clause-unbroken_agrees
returns-clause-unbroken_agrees c = laws.unbroken_agrees

pub returns-clause-converse : goal.returns-clause-converse
returns-clause-converse c = laws.agrees_conversely

pub returns-clause-program : goal.returns-clause-program
returns-clause-program c = laws.agrees_as_a_whole
