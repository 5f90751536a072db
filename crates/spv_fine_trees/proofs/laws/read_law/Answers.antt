use Rattle.spv_fine_trees.proofs.Joined as joined
use Rattle.spv_fine_trees.proofs.laws.read_law.Goals as goal

pub returns-clause-fine : goal.returns-clause-fine
returns-clause-fine c = joined.read_is_fine

pub returns-clause-lines : goal.returns-clause-lines
returns-clause-lines c = joined.lines_are_fine
