use Rattle.spv_declarations.proofs.Modules as modules
use Rattle.spv_declarations.proofs.laws.constants_law.Goals as goal

pub returns-clause-stands : goal.returns-clause-stands
returns-clause-stands c = modules.constants_stand

pub returns-clause-only : goal.returns-clause-only
returns-clause-only c = modules.only_constants_stand

pub returns-clause-one_word : goal.returns-clause-one_word
returns-clause-one_word c = modules.integers_have_one_word

pub returns-clause-bits : goal.returns-clause-bits
returns-clause-bits c = modules.booleans_are_bits

pub returns-clause-fits : goal.returns-clause-fits
returns-clause-fits c = modules.constants_fit
