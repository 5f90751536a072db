use Rattle.spv_unbroken.proofs.Samples as samples
use Rattle.spv_unbroken.proofs.facts.facts_of_unbroken.Goals as goal

pub returns-clause-unbroken : goal.returns-clause-unbroken
returns-clause-unbroken c = samples.placed_is_unbroken

pub returns-clause-others : goal.returns-clause-others
returns-clause-others c = samples.others_break_rules

pub returns-clause-unseen : goal.returns-clause-unseen
returns-clause-unseen c = samples.unnamed_arm_is_not_seen
