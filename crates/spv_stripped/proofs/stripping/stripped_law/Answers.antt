use Rattle.spv_stripped.proofs.Whole as whole
use Rattle.spv_stripped.proofs.stripping.stripped_law.Goals as goal

pub returns-clause-module : goal.returns-clause-module
returns-clause-module c = whole.stripped_is_module

pub returns-clause-form : goal.returns-clause-form
returns-clause-form c = whole.stripped_form_is_module
