use Rattle.spv_typed_edits.proofs.Front as front
use Rattle.spv_typed_edits.proofs.types_law.Goals as goal

pub returns : goal.returns
returns c = front.types_stand_in_front
