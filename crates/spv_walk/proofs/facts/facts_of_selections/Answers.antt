use Rattle.spv_walk.proofs.SmallSelections as small
use Rattle.spv_walk.proofs.facts.facts_of_selections.Goals as goal

pub returns-clause-fine : goal.returns-clause-fine
returns-clause-fine c = small.fine

pub returns-clause-outer : goal.returns-clause-outer
returns-clause-outer c = small.outer

pub returns-clause-inner : goal.returns-clause-inner
returns-clause-inner c = small.inner
