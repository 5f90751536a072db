use Rattle.spv_clean_trees.proofs.SmallTrees as small
use Rattle.spv_clean_trees.proofs.facts.facts_of_clean_trees.Goals as goal

pub returns-clause-spelled : goal.returns-clause-spelled
returns-clause-spelled c = small.spelled_are_structured

pub returns-clause-pointers : goal.returns-clause-pointers
returns-clause-pointers c = small.pointers_are_not_structured

pub returns-clause-twice : goal.returns-clause-twice
returns-clause-twice c = small.literal_stands_twice

pub returns-clause-one_block : goal.returns-clause-one_block
returns-clause-one_block c = small.one_block
