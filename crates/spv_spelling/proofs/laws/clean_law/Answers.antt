use Rattle.spv_spelling.proofs.Settled as settled
use Rattle.spv_spelling.proofs.laws.clean_law.Goals as goal

pub returns-clause-without_pointers : goal.returns-clause-without_pointers
returns-clause-without_pointers c = settled.clean_without_pointers

pub returns-clause-by_tables : goal.returns-clause-by_tables
returns-clause-by_tables c = settled.clean_by_tables

pub returns-clause-settled : goal.returns-clause-settled
returns-clause-settled c = settled.clean_is_settled
