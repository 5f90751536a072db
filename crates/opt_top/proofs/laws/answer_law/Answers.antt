use Rattle.opt_top.proofs.OneAnswer as one
use Rattle.opt_top.proofs.laws.answer_law.Goals as goal

pub returns-clause-one : goal.returns-clause-one
returns-clause-one c = one.one_answer

pub returns-clause-none : goal.returns-clause-none
returns-clause-none c = one.none_too_nested
