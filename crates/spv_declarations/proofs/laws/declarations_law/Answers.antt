use Rattle.spv_declarations.proofs.Whole as whole
use Rattle.spv_declarations.proofs.Modules as modules
use Rattle.spv_declarations.proofs.laws.declarations_law.Goals as goal

pub returns-clause-meanings : goal.returns-clause-meanings
returns-clause-meanings c = whole.declared-whole

pub returns-clause-unbroken : goal.returns-clause-unbroken
returns-clause-unbroken c = modules.unbroken
