use Rattle.spv_built_edits.proofs.AddedWhole as whole
use Rattle.spv_built_edits.proofs.added.added_law.Goals as goal

pub returns : goal.returns
returns c = whole.added_is_built
