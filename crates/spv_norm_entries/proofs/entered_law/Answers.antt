use Rattle.spv_norm_entries.proofs.Entered as proved
use Rattle.spv_norm_entries.proofs.entered_law.Goals as goal

pub returns : goal.returns
returns c = record { entered = proved.norm_is_entered }
