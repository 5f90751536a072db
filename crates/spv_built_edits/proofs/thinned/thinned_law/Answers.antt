use Rattle.spv_built_edits.proofs.Parameters as parameters
use Rattle.spv_built_edits.proofs.ThinnedWhole as whole
use Rattle.spv_built_edits.proofs.thinned.thinned_law.Goals as goal

pub returns-clause-built : goal.returns-clause-built
returns-clause-built c = whole.thinned_is_built

pub returns-clause-parameters : goal.returns-clause-parameters
returns-clause-parameters c = parameters.no_parameters_behind
