use Rattle.std.proofs.Common.{refl, arith}
use Rattle.spv_module.specs.Code.{cut}
use Rattle.spv_words.specs.Words.{bytes_of_words}
use Rattle.spv_meaning.specs.Statements.{statements_in}
use Rattle.spv_machine.specs.Machine.{Fits}
use Rattle.spv_machine.proofs.facts.facts_of_dispatches.Goals as goal

pub returns-clause-fits : goal.returns-clause-fits
unfolding cut statements_in bytes_of_words Fits
returns-clause-fits c = record { entry = refl; sized = refl; size = record { x = omega arith; y = omega arith; z = omega arith }; lengths = tt }

pub returns-clause-other_name : goal.returns-clause-other_name
unfolding cut statements_in bytes_of_words Fits
returns-clause-other_name c = λ fits. absurd (cc fits.entry)

pub returns-clause-shorter_name : goal.returns-clause-shorter_name
unfolding cut statements_in bytes_of_words Fits
returns-clause-shorter_name c = λ fits. absurd (cc fits.entry)

pub returns-clause-no_size : goal.returns-clause-no_size
unfolding cut statements_in bytes_of_words Fits
returns-clause-no_size c = λ fits. absurd (cc fits.sized)
