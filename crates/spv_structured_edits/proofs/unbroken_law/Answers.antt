use Rattle.spv_structured_edits.proofs.Whole as whole
use Rattle.spv_structured_edits.proofs.unbroken_law.Goals as goal

pub returns : goal.returns
returns c = whole.unbroken_stays
