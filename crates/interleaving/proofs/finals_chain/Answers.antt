use Rattle.interleaving.proofs.Laws.{finals_chain, finals_of_none}
use Rattle.interleaving.proofs.finals_chain.Goals as goal

pub returns-clause-chain : goal.returns-clause-chain
returns-clause-chain g c = finals_chain g.P.ProgramTriple.programs

pub returns-clause-none : goal.returns-clause-none
returns-clause-none g c = finals_of_none g.P.ProgramTriple.programs
