use Rattle.spv_fine.proofs.SmallTrees as small
use Rattle.spv_fine.proofs.facts.facts_of_fine_trees.Goals as goal

pub returns-clause-not : goal.returns-clause-not
returns-clause-not c = small.not_fine

pub returns-clause-fine : goal.returns-clause-fine
returns-clause-fine c = small.are_fine
