use Rattle.spv_unbroken.proofs.Unseen as samples
use Rattle.spv_unbroken.proofs.facts.facts_of_arms.Goals as goal

pub returns-clause-left_out : goal.returns-clause-left_out
returns-clause-left_out c = samples.unseen_arm_is_left_out

pub returns-clause-block : goal.returns-clause-block
returns-clause-block c = samples.unnamed_block_breaks_rules

pub returns-clause-value : goal.returns-clause-value
returns-clause-value c = samples.unseen_value_breaks_rules

pub returns-clause-entered : goal.returns-clause-entered
returns-clause-entered c = samples.unnamed_loop_is_entered
