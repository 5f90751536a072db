use Rattle.spv_norm_available.proofs.Whole as whole
use Rattle.spv_norm_available.proofs.norm_law.Goals as goal

pub returns : goal.returns
returns c = whole.norm_is_available
