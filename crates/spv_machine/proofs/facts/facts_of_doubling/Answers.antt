use Rattle.std.proofs.Common.{[], ◌∷◌, refl}
use Rattle.spv_module.specs.Code.{cut}
use Rattle.spv_words.specs.Words.{bytes_of_words}
use Rattle.spv_value.specs.Eval.{Eval, op_rules}
use Rattle.spv_value.specs.Arith.{i_mul}
use Rattle.spv_value.specs.Numbers.{wrapped}
use Rattle.spv_meaning.specs.Statements.{statements_in}
use Rattle.spv_meaning.specs.Computations.{computed}
use Rattle.spv_machine.specs.Setting.{setting}
use Rattle.spv_machine.specs.Places.{locate}
use Rattle.spv_machine.specs.Effects.{after, answer}
use Rattle.spv_machine.specs.Operations.{outcome}
use Rattle.spv_machine.specs.Steps.{look, first_state}
use Rattle.spv_machine.specs.Machine.{Trace}
use Rattle.spv_machine.specs.Doubling.{doubling, stripped, doubling_behind, doubling_apart, on, buffer}
use Rattle.spv_machine.specs.Facts.{one_by_one}
use Rattle.spv_machine.proofs.Silence.{strip_law}
use Rattle.spv_machine.proofs.Computing.{finals_by}
use Rattle.spv_machine.proofs.facts.facts_of_doubling.Goals as goal

pub returns-clause-means_same : goal.returns-clause-means_same
unfolding cut
returns-clause-means_same c d = strip_law doubling stripped refl d

pub returns-clause-doubles : goal.returns-clause-doubles
unfolding cut statements_in bytes_of_words setting locate after answer outcome look first_state Trace computed Eval op_rules i_mul wrapped
returns-clause-doubles c = finals_by doubling (on (5 ∷ 6 ∷ 7 ∷ [])) (one_by_one 64 7) (buffer (10 ∷ 12 ∷ 14 ∷ [])) refl

pub returns-clause-doubles_stripped : goal.returns-clause-doubles_stripped
unfolding cut statements_in bytes_of_words setting locate after answer outcome look first_state Trace computed Eval op_rules i_mul wrapped
returns-clause-doubles_stripped c = finals_by stripped (on (5 ∷ 6 ∷ 7 ∷ [])) (one_by_one 64 7) (buffer (10 ∷ 12 ∷ 14 ∷ [])) refl

pub returns-clause-behind : goal.returns-clause-behind
unfolding cut statements_in bytes_of_words setting locate after answer outcome look first_state Trace computed Eval op_rules i_mul wrapped
returns-clause-behind c = finals_by doubling_behind (on (5 ∷ 6 ∷ 7 ∷ [])) (one_by_one 64 7) (buffer (5 ∷ 12 ∷ 14 ∷ [])) refl

pub returns-clause-apart : goal.returns-clause-apart
unfolding cut statements_in bytes_of_words setting locate after answer outcome look first_state Trace computed Eval op_rules i_mul wrapped
returns-clause-apart c = finals_by doubling_apart (on (5 ∷ 6 ∷ 7 ∷ 8 ∷ [])) (one_by_one 64 7) (buffer (10 ∷ 6 ∷ 14 ∷ 8 ∷ [])) refl
