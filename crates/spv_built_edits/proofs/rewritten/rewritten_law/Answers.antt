use Rattle.spv_built_edits.proofs.RewrittenLines as laid
use Rattle.spv_built_edits.proofs.RewrittenWhole as whole
use Rattle.spv_built_edits.proofs.rewritten.rewritten_law.Goals as goal

pub returns-clause-built : goal.returns-clause-built
returns-clause-built c = whole.rewritten_is_built

pub returns-clause-laid_out : goal.returns-clause-laid_out
returns-clause-laid_out c = laid.rewritten_is_laid_out
