use Rattle.spv_congruence.proofs.OneSided as laws
use Rattle.spv_congruence.proofs.selection_law.Goals as goal

pub returns-clause-taken : goal.returns-clause-taken
returns-clause-taken g c = laws.taken g.S.Selecting.selection

pub returns-clause-gone : goal.returns-clause-gone
returns-clause-gone g c = laws.gone g.S.Selecting.selection
