use Rattle.spv_trees.proofs.Agreement as laws
use Rattle.spv_trees.proofs.Programs as programs
use Rattle.spv_trees.proofs.agreement_law.Goals as goal

pub returns-clause-agrees : goal.returns-clause-agrees
returns-clause-agrees c = laws.agreement_law

pub returns-clause-converse : goal.returns-clause-converse
returns-clause-converse c = laws.converse_law

pub returns-clause-program : goal.returns-clause-program
returns-clause-program c = programs.program_law
