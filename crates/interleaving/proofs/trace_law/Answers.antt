use Rattle.interleaving.proofs.Laws.{trace_law}
use Rattle.interleaving.proofs.trace_law.Goals as goal

pub returns : goal.returns
returns g c = trace_law g.M.Machine.machine
