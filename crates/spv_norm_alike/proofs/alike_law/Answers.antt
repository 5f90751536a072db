use Rattle.spv_norm_alike.proofs.Whole as whole
use Rattle.spv_norm_alike.proofs.alike_law.Goals as goal

pub returns : goal.returns
returns c = whole.norm_is_alike
