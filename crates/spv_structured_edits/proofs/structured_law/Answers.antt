use Rattle.spv_structured_edits.proofs.Unsound as unsound
use Rattle.spv_structured_edits.proofs.Whole as whole
use Rattle.spv_structured_edits.proofs.structured_law.Goals as goal

pub returns-clause-structured : goal.returns-clause-structured
returns-clause-structured c = whole.structured_stays

pub returns-clause-unsound : goal.returns-clause-unsound
returns-clause-unsound c = unsound.unsound_may_not

pub returns-clause-opens : goal.returns-clause-opens
returns-clause-opens c = whole.opens_stays
