use Rattle.spv_normal_trees.proofs.Listed as listed
use Rattle.spv_normal_trees.proofs.laws.order_law.Goals as goal

pub returns-clause-once : goal.returns-clause-once
returns-clause-once c = listed.each_block_once

pub returns-clause-stays : goal.returns-clause-stays
returns-clause-stays c = listed.same_stays

pub returns-clause-branches : goal.returns-clause-branches
returns-clause-branches c = listed.branches_of_blocks
