use Rattle.spv_thinned.proofs.Whole as whole
use Rattle.spv_thinned.proofs.thinned_law.Goals as goal

pub returns : goal.returns
returns c = whole.thinned_is_alike
