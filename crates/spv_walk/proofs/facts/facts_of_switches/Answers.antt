use Rattle.spv_walk.proofs.SmallSelections as small
use Rattle.spv_walk.proofs.SmallSwitches as switches
use Rattle.spv_walk.proofs.facts.facts_of_switches.Goals as goal

pub returns-clause-falls : goal.returns-clause-falls
returns-clause-falls c = small.falls

pub returns-clause-enters : goal.returns-clause-enters
returns-clause-enters c = small.enters_other

pub returns-clause-merge_block : goal.returns-clause-merge_block
returns-clause-merge_block c = switches.merge_falls

pub returns-clause-own_target : goal.returns-clause-own_target
returns-clause-own_target c = switches.own_falls
