use Rattle.spv_sound_trees.proofs.Depths as depths
use Rattle.spv_sound_trees.proofs.Short as short
use Rattle.spv_sound_trees.proofs.Sound as sound
use Rattle.spv_sound_trees.proofs.laws.sound_law.Goals as goal

pub returns-clause-spelled : goal.returns-clause-spelled
returns-clause-spelled c = sound.spelled_is_sound

pub returns-clause-deep : goal.returns-clause-deep
returns-clause-deep c = depths.spelled_has_depth

pub returns-clause-short : goal.returns-clause-short
returns-clause-short c = short.short_by_words
