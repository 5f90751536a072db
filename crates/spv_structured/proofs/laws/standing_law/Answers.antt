use Rattle.spv_structured.proofs.Stands as laws
use Rattle.spv_structured.proofs.laws.standing_law.Goals as goal

pub returns : goal.returns
returns c = laws.structured_stands
