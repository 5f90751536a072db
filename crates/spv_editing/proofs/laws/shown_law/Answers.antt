use Rattle.spv_editing.proofs.Shows as shows
use Rattle.spv_editing.proofs.laws.shown_law.Goals as goal

pub returns-clause-shown : goal.returns-clause-shown
returns-clause-shown c = shows.shown-kept

pub returns-clause-steps : goal.returns-clause-steps
returns-clause-steps c = shows.steps-kept

pub returns-clause-uses : goal.returns-clause-uses
returns-clause-uses c = shows.uses-of-kept
