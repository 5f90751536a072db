use Rattle.spv_structured_edits.proofs.Exits as exits
use Rattle.spv_structured_edits.proofs.exits_law.Goals as goal

pub returns : goal.returns
returns c = exits.exits_stay
