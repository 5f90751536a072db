use Rattle.spv_rewritten.proofs.Alike as alike
use Rattle.spv_rewritten.proofs.Declared as declared
use Rattle.spv_rewritten.proofs.Entered as entered
use Rattle.spv_rewritten.proofs.Interfaces as interfaces
use Rattle.spv_rewritten.proofs.Lookups as lookups
use Rattle.spv_rewritten.proofs.rewritten_law.Goals as goal

pub returns-clause-alike : goal.returns-clause-alike
returns-clause-alike c = alike.rewritten_is_alike

pub returns-clause-declared : goal.returns-clause-declared
returns-clause-declared c = declared.rewritten_is_declared

pub returns-clause-entered : goal.returns-clause-entered
returns-clause-entered c = entered.rewritten_is_entered

pub returns-clause-stay : goal.returns-clause-stay
returns-clause-stay c = interfaces.interfaces_stay

pub returns-clause-listed : goal.returns-clause-listed
returns-clause-listed c = interfaces.interfaces_where_listed

pub returns-clause-names : goal.returns-clause-names
returns-clause-names c = interfaces.names_where_functions_stay

pub returns-clause-kinds : goal.returns-clause-kinds
returns-clause-kinds c = lookups.kinds_stay
