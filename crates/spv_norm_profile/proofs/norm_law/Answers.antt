use Rattle.spv_norm_profile.proofs.Whole as whole
use Rattle.spv_norm_profile.proofs.norm_law.Goals as goal

pub returns-clause-module : goal.returns-clause-module
returns-clause-module c = whole.norm_is_module

pub returns-clause-parsed : goal.returns-clause-parsed
returns-clause-parsed c = whole.norm_is_parsed
