use Rattle.spv_calls.proofs.Deciding.{tests_of}
use Rattle.spv_calls.proofs.laws.tests_law.Goals as goal

pub returns : goal.returns
returns c = tests_of
