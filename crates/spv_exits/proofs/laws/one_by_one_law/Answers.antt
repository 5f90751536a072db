use Rattle.spv_exits.proofs.OneByOne as proved
use Rattle.spv_exits.proofs.laws.one_by_one_law.Goals as goal

pub returns-clause-nested : goal.returns-clause-nested
returns-clause-nested c = proved.together-more

pub returns-clause-crowded : goal.returns-clause-crowded
returns-clause-crowded c = proved.crowded-one_more
