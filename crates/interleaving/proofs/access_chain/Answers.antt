use Rattle.interleaving.proofs.Laws.{access_chain, accesses_of_none, nothing_lost_law}
use Rattle.interleaving.proofs.access_chain.Goals as goal

pub returns-clause-chain : goal.returns-clause-chain
returns-clause-chain g c = access_chain g.T.TraceTriple.traces

pub returns-clause-none : goal.returns-clause-none
returns-clause-none g c = accesses_of_none g.T.TraceTriple.traces

pub returns-clause-nothing : goal.returns-clause-nothing
returns-clause-nothing g c = nothing_lost_law g.T.TraceTriple.traces
