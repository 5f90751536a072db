use Rattle.spv_trees.proofs.Bounds as laws
use Rattle.spv_trees.proofs.bounds_law.Goals as goal

pub returns : goal.returns
returns c = laws.bounds_law
