use Rattle.std.proofs.Common.{[], ◌∷◌, refl}
use Rattle.spv_module.specs.Code.{cut}
use Rattle.spv_words.specs.Words.{bytes_of_words}
use Rattle.spv_value.specs.Eval.{Eval, op_rules}
use Rattle.spv_value.specs.Arith.{i_mul}
use Rattle.spv_value.specs.Numbers.{wrapped}
use Rattle.spv_meaning.specs.Statements.{statements_in}
use Rattle.spv_meaning.specs.Computations.{computed}
use Rattle.spv_machine.specs.Setting.{setting}
use Rattle.spv_machine.specs.Places.{locate}
use Rattle.spv_machine.specs.Effects.{after, answer}
use Rattle.spv_machine.specs.Operations.{outcome}
use Rattle.spv_machine.specs.Steps.{look, first_state}
use Rattle.spv_machine.specs.Machine.{Trace}
use Rattle.spv_machine.specs.Doubling.{squaring, on, buffer}
use Rattle.spv_machine.specs.Facts.{one_by_one}
use Rattle.spv_machine.proofs.Computing.{finals_by}
use Rattle.spv_machine.proofs.facts.facts_of_places.Goals as goal

pub returns-clause-element_cut : goal.returns-clause-element_cut
unfolding cut statements_in bytes_of_words setting locate after answer outcome look first_state Trace computed Eval op_rules i_mul wrapped
returns-clause-element_cut c = finals_by squaring (on (5 ∷ 6 ∷ 7 ∷ [])) (one_by_one 64 7) (buffer (25 ∷ 36 ∷ 7 ∷ [])) refl
