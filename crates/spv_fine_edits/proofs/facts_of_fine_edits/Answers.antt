use Rattle.spv_fine_edits.proofs.SmallEdits as small
use Rattle.spv_fine_edits.proofs.facts_of_fine_edits.Goals as goal

pub returns-clause-apply : goal.returns-clause-apply
returns-clause-apply c = small.apply

pub returns-clause-needed : goal.returns-clause-needed
returns-clause-needed c = small.needed
