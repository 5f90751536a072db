use Rattle.spv_ir.proofs.Modules as modules
use Rattle.spv_ir.proofs.laws.module_law.Goals as goal

pub returns-clause-ready : goal.returns-clause-ready
returns-clause-ready c = modules.modules_are_ready

pub returns-clause-again : goal.returns-clause-again
returns-clause-again c = modules.admitted_again
