use Rattle.spv_fine_edits.proofs.Dropped as dropped
use Rattle.spv_fine_edits.proofs.dropped_law.Goals as goal

pub returns : goal.returns
returns g c = dropped.dropped g.P.Promises.available
