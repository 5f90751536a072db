use Rattle.spv_fine.proofs.Whole as whole
use Rattle.spv_fine.proofs.laws.passing_law.Goals as goal

pub returns : goal.returns
returns c = whole.sent_is_passed
