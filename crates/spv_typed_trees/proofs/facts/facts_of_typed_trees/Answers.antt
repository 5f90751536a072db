use Rattle.spv_typed_trees.proofs.SmallTrees as small
use Rattle.spv_typed_trees.proofs.facts.facts_of_typed_trees.Goals as goal

pub returns-clause-typed : goal.returns-clause-typed
returns-clause-typed c = small.are_typed

pub returns-clause-not : goal.returns-clause-not
returns-clause-not c = small.not_typed
