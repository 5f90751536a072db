use Rattle.spv_alike_uses.proofs.Rules as rules
use Rattle.spv_alike_uses.proofs.rules_law.Goals as goal

pub returns : goal.returns
returns c = rules.rules_stay
