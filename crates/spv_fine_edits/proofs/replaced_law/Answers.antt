use Rattle.spv_fine_edits.proofs.Replaced as replaced
use Rattle.spv_fine_edits.proofs.replaced_law.Goals as goal

pub returns-clause-replaced : goal.returns-clause-replaced
returns-clause-replaced g c = replaced.replaced g.P.Promises.available

pub returns-clause-used : goal.returns-clause-used
returns-clause-used g c = replaced.used g.P.Promises.available
