use Rattle.spv_norm_means.proofs.SmallModule as small
use Rattle.spv_norm_means.proofs.facts_of_norms.Goals as goal

pub returns-clause-read : goal.returns-clause-read
returns-clause-read c = small.small_is_read

pub returns-clause-normal : goal.returns-clause-normal
returns-clause-normal c = small.small_is_normal

pub returns-clause-means : goal.returns-clause-means
returns-clause-means c = small.small_means
