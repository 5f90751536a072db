use Rattle.spv_norm_structured.proofs.Again as again
use Rattle.spv_norm_structured.proofs.Normal as normal
use Rattle.spv_norm_structured.proofs.normal_law.Goals as goal

pub returns-clause-functions : goal.returns-clause-functions
returns-clause-functions c = again.functions_law

pub returns-clause-normal : goal.returns-clause-normal
returns-clause-normal c = normal.norm_is_normal

pub returns-clause-stays : goal.returns-clause-stays
returns-clause-stays c = normal.norm_stays
