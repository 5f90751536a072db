use Rattle.spv_exits.specs.Exits.{functions_of}
use Rattle.spv_functions.specs.Functions.{is_pointer}
use Rattle.spv_module_rules.proofs.OneNumber.{each-unbroken, one-together}
use Rattle.spv_module_rules.proofs.Reached.{module-has_nested}
use Rattle.spv_module_rules.proofs.laws.together_law.Goals as goal

pub returns-clause-some : goal.returns-clause-some
returns-clause-some c = module-has_nested

pub returns-clause-one : goal.returns-clause-one
returns-clause-one c = λ insts m n unbroken. one-together (is_pointer insts) (functions_of insts) m n (each-unbroken insts unbroken)
