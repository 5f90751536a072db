use Rattle.spv_walk.proofs.Numbering as numbering
use Rattle.spv_walk.proofs.laws.numbering_law.Goals as goal

pub returns-clause-relabelling : goal.returns-clause-relabelling
returns-clause-relabelling c = numbering.relabelling

pub returns-clause-numbers : goal.returns-clause-numbers
returns-clause-numbers c = numbering.numbers

pub returns-clause-same_rules : goal.returns-clause-same_rules
returns-clause-same_rules c = numbering.same_rules_numbered

pub returns-clause-same_first : goal.returns-clause-same_first
returns-clause-same_first c = numbering.same_first_numbered
