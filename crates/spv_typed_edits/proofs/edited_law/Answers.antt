use Rattle.spv_typed_edits.proofs.Edited as edited
use Rattle.spv_typed_edits.proofs.edited_law.Goals as goal

pub returns-clause-stays : goal.returns-clause-stays
returns-clause-stays c = edited.typed_stays

pub returns-clause-dropped : goal.returns-clause-dropped
returns-clause-dropped c = edited.typed_where_dropped

pub returns-clause-replaced : goal.returns-clause-replaced
returns-clause-replaced c = edited.typed_where_replaced
