use Rattle.interleaving.proofs.Laws.{schedule_law}
use Rattle.interleaving.proofs.schedule_law.Goals as goal

pub returns : goal.returns
returns g c = schedule_law g.P.ProgramPair.programs
