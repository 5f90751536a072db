use Rattle.spv_norm_declared.proofs.Whole as whole
use Rattle.spv_norm_declared.proofs.norm_law.Goals as goal

pub returns-clause-instructions : goal.returns-clause-instructions
returns-clause-instructions c = whole.norm_lines_are_instructions

pub returns-clause-again : goal.returns-clause-again
returns-clause-again c = whole.norm_is_cut_again

pub returns-clause-laid_out : goal.returns-clause-laid_out
returns-clause-laid_out c = whole.norm_is_laid_out

pub returns-clause-decoded : goal.returns-clause-decoded
returns-clause-decoded c = whole.norm_is_decoded
