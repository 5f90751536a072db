use Rattle.spv_admitted.proofs.SmallModule as small
use Rattle.spv_admitted.proofs.facts_of_admitted.Goals as goal

pub returns : goal.returns
returns c = small.small_finds_nothing
