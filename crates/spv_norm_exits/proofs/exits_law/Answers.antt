use Rattle.spv_norm_exits.proofs.Whole as whole
use Rattle.spv_norm_exits.proofs.exits_law.Goals as goal

pub returns-clause-counted : goal.returns-clause-counted
returns-clause-counted c = whole.read_has_nested

pub returns-clause-nested : goal.returns-clause-nested
returns-clause-nested c = whole.norm_nests_alike

pub returns-clause-uncrowded : goal.returns-clause-uncrowded
returns-clause-uncrowded c = whole.norm_is_uncrowded
