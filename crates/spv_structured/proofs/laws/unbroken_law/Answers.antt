use Rattle.spv_structured.proofs.Unbroken as laws
use Rattle.spv_structured.proofs.laws.unbroken_law.Goals as goal

pub returns : goal.returns
returns c = laws.structured_is_unbroken
