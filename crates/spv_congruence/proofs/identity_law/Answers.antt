use Rattle.spv_congruence.proofs.Identity as laws
use Rattle.spv_congruence.proofs.identity_law.Goals as goal

pub returns-clause-shape : goal.returns-clause-shape
returns-clause-shape c = laws.same_shape_law

pub returns-clause-local : goal.returns-clause-local
returns-clause-local c = laws.identity_law
