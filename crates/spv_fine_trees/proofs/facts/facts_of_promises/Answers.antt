use Rattle.spv_fine_trees.proofs.SmallFunctions as small
use Rattle.spv_fine_trees.proofs.facts.facts_of_promises.Goals as goal

pub returns : goal.returns
returns c = small.promised_behind
