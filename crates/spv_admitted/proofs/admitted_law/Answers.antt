use Rattle.spv_admitted.proofs.Whole as whole
use Rattle.spv_admitted.proofs.admitted_law.Goals as goal

pub returns-clause-read : goal.returns-clause-read
returns-clause-read c = whole.admitted_is_read

pub returns-clause-means : goal.returns-clause-means
returns-clause-means c = whole.admitted_means_as_much
