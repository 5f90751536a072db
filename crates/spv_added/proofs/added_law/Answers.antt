use Rattle.spv_added.proofs.Declared as declared
use Rattle.spv_added.proofs.Entered as entered
use Rattle.spv_added.proofs.LaidOut as laid
use Rattle.spv_added.proofs.Whole as whole
use Rattle.spv_added.proofs.added_law.Goals as goal

pub returns-clause-alike : goal.returns-clause-alike
returns-clause-alike c = whole.added_is_alike

pub returns-clause-declared : goal.returns-clause-declared
returns-clause-declared c = declared.added_is_declared

pub returns-clause-entered : goal.returns-clause-entered
returns-clause-entered c = entered.added_is_entered

pub returns-clause-laid_out : goal.returns-clause-laid_out
returns-clause-laid_out c = laid.added_is_laid_out
