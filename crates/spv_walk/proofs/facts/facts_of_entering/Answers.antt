use Rattle.spv_walk.proofs.SmallBlocks as small
use Rattle.spv_walk.proofs.facts.facts_of_entering.Goals as goal

pub returns-clause-unended : goal.returns-clause-unended
returns-clause-unended c = small.unended

pub returns-clause-first : goal.returns-clause-first
returns-clause-first c = small.first

pub returns-clause-least_rule : goal.returns-clause-least_rule
returns-clause-least_rule c = small.least_rule

pub returns-clause-bare_too : goal.returns-clause-bare_too
returns-clause-bare_too c = small.bare_too

pub returns-clause-same_labels_too : goal.returns-clause-same_labels_too
returns-clause-same_labels_too c = small.same_too
