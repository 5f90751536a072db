use Rattle.spv_fine_edits.proofs.Edited as edited
use Rattle.spv_fine_edits.proofs.given_law.Goals as goal

pub returns : goal.returns
returns g c = edited.fine_where_given g.G.Gives.giving
