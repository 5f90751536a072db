use Rattle.spv_normal_trees.proofs.Listed as listed
use Rattle.spv_normal_trees.proofs.laws.normal_form_law.Goals as goal

pub returns-clause-lines : goal.returns-clause-lines
returns-clause-lines c = listed.lines_of_blocks

pub returns-clause-normal : goal.returns-clause-normal
returns-clause-normal c = listed.spelled_is_normal
