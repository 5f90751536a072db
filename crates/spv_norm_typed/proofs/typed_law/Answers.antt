use Rattle.spv_alike.proofs.Rules as rules
use Rattle.spv_norm_typed.proofs.Again as again
use Rattle.spv_norm_typed.proofs.typed_law.Goals as goal

pub returns : goal.returns
returns c = again.norm_is_typed rules.rules_stay
