use Rattle.spv_congruence.proofs.Operands as laws
use Rattle.spv_congruence.proofs.operands_law.Goals as goal

pub returns-clause-effect : goal.returns-clause-effect
returns-clause-effect c = laws.effect_law

pub returns-clause-renamed : goal.returns-clause-renamed
returns-clause-renamed c = laws.renamed_law
