use Rattle.spv_structured_edits.proofs.Outlines as outlines
use Rattle.spv_structured_edits.proofs.Walks as walks
use Rattle.spv_structured_edits.proofs.blocks_law.Goals as goal

pub returns-clause-outline : goal.returns-clause-outline
returns-clause-outline c = outlines.outline_stays

pub returns-clause-walk : goal.returns-clause-walk
returns-clause-walk c = walks.walk_stays
