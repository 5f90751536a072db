use Rattle.spv_norm_declarations.proofs.Law as law
use Rattle.spv_norm_declarations.proofs.declared_law.Goals as goal

pub returns : goal.returns
returns c = record { declared = law.norm_is_declared }
