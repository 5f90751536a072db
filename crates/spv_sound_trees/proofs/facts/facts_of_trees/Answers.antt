use Rattle.spv_sound_trees.proofs.SmallTrees as small
use Rattle.spv_sound_trees.proofs.facts.facts_of_trees.Goals as goal

pub returns-clause-one_block : goal.returns-clause-one_block
returns-clause-one_block c = small.one_block_is_sound

pub returns-clause-depths : goal.returns-clause-depths
returns-clause-depths c = small.small_depths
