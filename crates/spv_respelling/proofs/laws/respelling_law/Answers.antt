use Rattle.spv_respelling.proofs.Normals as normals
use Rattle.spv_respelling.proofs.Whole as whole
use Rattle.spv_respelling.proofs.laws.respelling_law.Goals as goal

pub returns-clause-trees : goal.returns-clause-trees
returns-clause-trees c = whole.normal_is_spelled

pub returns-clause-normal : goal.returns-clause-normal
returns-clause-normal c = normals.spelled_tree_is_normal

pub returns-clause-spelled : goal.returns-clause-spelled
returns-clause-spelled c = whole.respells_listing
