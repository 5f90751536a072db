use Rattle.spv_trees.proofs.Example as facts
use Rattle.spv_trees.proofs.facts.facts_of_standing.Goals as goal

pub returns-clause-stands : goal.returns-clause-stands
returns-clause-stands c = facts.all_stand

pub returns-clause-listed : goal.returns-clause-listed
returns-clause-listed c = facts.all_listed

pub returns-clause-placed : goal.returns-clause-placed
returns-clause-placed c = facts.all_placed
