use Rattle.spv_replaced_values.proofs.Standing as standing
use Rattle.spv_replaced_values.proofs.Rules as rules
use Rattle.spv_replaced_values.proofs.replaced_law.Goals as goal

pub returns-clause-steps : goal.returns-clause-steps
returns-clause-steps c = rules.fits_where_replaced

pub returns-clause-uses : goal.returns-clause-uses
returns-clause-uses c = standing.fits_alike

pub returns-clause-returned : goal.returns-clause-returned
returns-clause-returned c = rules.returns_where_replaced
