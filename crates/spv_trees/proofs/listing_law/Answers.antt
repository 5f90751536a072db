use Rattle.spv_trees.proofs.Listed as laws
use Rattle.spv_trees.proofs.listing_law.Goals as goal

pub returns : goal.returns
returns c = laws.listing_law
