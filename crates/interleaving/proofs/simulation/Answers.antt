use Rattle.interleaving.proofs.Laws.{simulation_law}
use Rattle.interleaving.proofs.simulation.Goals as goal

pub returns : goal.returns
returns g c = simulation_law g.M.MachinePair.machines
