use Rattle.spv_congruence.proofs.Congruent.{shape_keeps}
use Rattle.spv_congruence.proofs.congruence_law.Goals as goal

pub returns : goal.returns
returns g c = shape_keeps g.P.Editing.pass
