use Rattle.spv_unbroken.proofs.Structured as laws
use Rattle.spv_unbroken.proofs.laws.converse_law.Goals as goal

pub returns : goal.returns
returns c = laws.unbroken_is_structured
