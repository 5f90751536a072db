use Rattle.spv_walk.proofs.Numbering as numbering
use Rattle.spv_walk.proofs.laws.numbers_law.Goals as goal

pub returns-clause-blocks : goal.returns-clause-blocks
returns-clause-blocks c = numbering.numbered_blocks

pub returns-clause-own_labels : goal.returns-clause-own_labels
returns-clause-own_labels c = numbering.numbered_apart
