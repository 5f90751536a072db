use Rattle.spv_congruence.proofs.Machines.{modules_keep}
use Rattle.spv_congruence.proofs.modules_law.Goals as goal

pub returns : goal.returns
returns c = modules_keep
