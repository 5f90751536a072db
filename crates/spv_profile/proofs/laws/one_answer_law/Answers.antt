use Rattle.spv_profile.proofs.OneAnswer.{one_answer}
use Rattle.spv_profile.proofs.laws.one_answer_law.Goals as goal

pub returns : goal.returns
returns c = one_answer
