use Rattle.spv_congruence.proofs.Machines.{machine_keeps}
use Rattle.spv_congruence.proofs.machine_law.Goals as goal

pub returns : goal.returns
returns g c = machine_keeps g.P.Editing.pass
