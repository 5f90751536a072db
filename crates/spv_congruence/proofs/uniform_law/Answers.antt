use Rattle.spv_congruence.proofs.Uniform as laws
use Rattle.spv_congruence.proofs.uniform_law.Goals as goal

pub returns : goal.returns
returns g c = laws.uniform_law g.E.Everywhere.edited
