use Rattle.spv_thinned_entries.proofs.Entered as proved
use Rattle.spv_thinned_entries.proofs.entered_law.Goals as goal

pub returns : goal.returns
returns c = proved.thinned_is_entered
