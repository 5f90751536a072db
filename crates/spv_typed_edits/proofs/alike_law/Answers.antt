use Rattle.spv_alike.proofs.Rules as rules
use Rattle.spv_typed_edits.proofs.WhereAlike as alike
use Rattle.spv_typed_edits.proofs.alike_law.Goals as goal

pub returns-clause-steps : goal.returns-clause-steps
returns-clause-steps c = alike.steps_where_alike rules.rules_stay

pub returns-clause-functions : goal.returns-clause-functions
returns-clause-functions c = alike.typed_where_alike rules.rules_stay
