use Rattle.spv_respelling.proofs.SmallTrees as small
use Rattle.spv_respelling.proofs.facts.facts_of_normal_trees.Goals as goal

pub returns-clause-spelled : goal.returns-clause-spelled
returns-clause-spelled c = small.spelled_are_normal

pub returns-clause-plain : goal.returns-clause-plain
returns-clause-plain c = small.plain_are_normal

pub returns-clause-not : goal.returns-clause-not
returns-clause-not c = small.not_normal

pub returns-clause-one_block : goal.returns-clause-one_block
returns-clause-one_block c = small.one_block_stays

pub returns-clause-exits : goal.returns-clause-exits
returns-clause-exits c = small.two_exits
