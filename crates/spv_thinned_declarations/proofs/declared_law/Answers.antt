use Rattle.spv_thinned_declarations.proofs.Whole as whole
use Rattle.spv_thinned_declarations.proofs.declared_law.Goals as goal

pub returns : goal.returns
returns c = whole.thinned_is_declared
