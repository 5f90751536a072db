use Rattle.spv_norm.proofs.NormalModules.{normal_stays}
use Rattle.spv_norm.proofs.laws.norm_law.Goals as goal

pub returns : goal.returns
returns c = normal_stays
