use Rattle.std.proofs.Common.{[], ◌∷◌, ◌++◌, replicate, refl}
use Rattle.spv_module.specs.Code.{cut}
use Rattle.spv_words.specs.Words.{bytes_of_words}
use Rattle.spv_value.specs.Eval.{Eval, op_rules}
use Rattle.spv_value.specs.Arith.{i_mul}
use Rattle.spv_value.specs.Numbers.{wrapped}
use Rattle.spv_meaning.specs.Statements.{statements_in}
use Rattle.spv_meaning.specs.Computations.{computed}
use Rattle.spv_machine.specs.Setting.{setting}
use Rattle.spv_machine.specs.Places.{locate}
use Rattle.spv_machine.specs.Effects.{after, answer}
use Rattle.spv_machine.specs.Operations.{outcome}
use Rattle.spv_machine.specs.Steps.{look, first_state}
use Rattle.spv_machine.specs.Machine.{Trace}
use Rattle.spv_machine.specs.Doubling.{doubling_by_two, doubling_one_word, on, buffer}
use Rattle.spv_machine.specs.Facts.{one_by_one}
use Rattle.spv_machine.proofs.Computing.{same_buffers, finals_by, ends_by, only_by, either_by}
use Rattle.spv_machine.proofs.facts.facts_of_two_invocations.Goals as goal

pub returns-clause-both_end : goal.returns-clause-both_end
unfolding cut statements_in bytes_of_words setting locate after answer outcome look first_state Trace computed Eval op_rules i_mul wrapped
returns-clause-both_end c = ends_by doubling_by_two (on (5 ∷ 6 ∷ [])) 14 (λ bs. same_buffers bs (buffer (10 ∷ 12 ∷ []))) refl

pub returns-clause-both : goal.returns-clause-both
unfolding cut statements_in bytes_of_words setting locate after answer outcome look first_state Trace computed Eval op_rules i_mul wrapped
returns-clause-both c = only_by doubling_by_two (on (5 ∷ 6 ∷ [])) 14 (buffer (10 ∷ 12 ∷ [])) refl

pub returns-clause-one_word : goal.returns-clause-one_word
unfolding cut statements_in bytes_of_words setting locate after answer outcome look first_state Trace computed Eval op_rules i_mul wrapped
returns-clause-one_word c = either_by doubling_one_word (on (5 ∷ [])) 14 (buffer (10 ∷ [])) (buffer (20 ∷ [])) refl

pub returns-clause-one_lost : goal.returns-clause-one_lost
unfolding cut statements_in bytes_of_words setting locate after answer outcome look first_state Trace computed Eval op_rules i_mul wrapped
returns-clause-one_lost c = finals_by doubling_one_word (on (5 ∷ [])) (0 ∷ 0 ∷ 0 ∷ 0 ∷ 0 ∷ replicate 7 1 ++ (0 ∷ 0 ∷ [])) (buffer (10 ∷ [])) refl

pub returns-clause-none_lost : goal.returns-clause-none_lost
unfolding cut statements_in bytes_of_words setting locate after answer outcome look first_state Trace computed Eval op_rules i_mul wrapped
returns-clause-none_lost c = finals_by doubling_one_word (on (5 ∷ [])) (one_by_one 2 7) (buffer (20 ∷ [])) refl
