use Rattle.std.proofs.Common.{[], ◌∷◌, refl}
use Rattle.spv_module.specs.Code.{cut}
use Rattle.spv_words.specs.Words.{bytes_of_words}
use Rattle.spv_value.specs.Eval.{Eval, op_rules}
use Rattle.spv_value.specs.Arith.{i_mul}
use Rattle.spv_value.specs.Numbers.{wrapped}
use Rattle.spv_meaning.specs.Statements.{statements_in}
use Rattle.spv_meaning.specs.Computations.{computed}
use Rattle.spv_machine.specs.Setting.{setting}
use Rattle.spv_machine.specs.Places.{locate}
use Rattle.spv_machine.specs.Operations.{outcome}
use Rattle.spv_machine.specs.Steps.{look, first_state}
use Rattle.spv_machine.specs.Machine.{Trace}
use Rattle.spv_machine.specs.Doubling.{doubling, doubling_behind, doubling_apart, store_dropped, constant_changed, body_swapped, offset_dropped, stride_dropped, on}
use Rattle.spv_machine.proofs.Computing.{differ}
use Rattle.spv_machine.proofs.facts.facts_of_wrong_passes.Goals as goal

pub returns-clause-no_store : goal.returns-clause-no_store
unfolding cut statements_in bytes_of_words setting locate outcome look first_state Trace computed Eval op_rules i_mul wrapped
returns-clause-no_store c = differ doubling store_dropped (on (5 ∷ 6 ∷ 7 ∷ [])) 0 7 ((5 ∷ []) ∷ [] ∷ []) (0 ∷ 0 ∷ 10 ∷ []) refl refl

pub returns-clause-other_constant : goal.returns-clause-other_constant
unfolding cut statements_in bytes_of_words setting locate outcome look first_state Trace computed Eval op_rules i_mul wrapped
returns-clause-other_constant c = differ doubling constant_changed (on (5 ∷ 6 ∷ 7 ∷ [])) 0 7 ((5 ∷ []) ∷ [] ∷ []) (0 ∷ 0 ∷ 10 ∷ []) refl refl

pub returns-clause-swapped : goal.returns-clause-swapped
unfolding cut statements_in bytes_of_words setting locate outcome look first_state Trace computed Eval op_rules i_mul wrapped
returns-clause-swapped c = differ doubling body_swapped (on (5 ∷ 6 ∷ 7 ∷ [])) 0 7 ((5 ∷ []) ∷ [] ∷ []) (0 ∷ 0 ∷ 10 ∷ []) refl refl

pub returns-clause-no_offset : goal.returns-clause-no_offset
unfolding cut statements_in bytes_of_words setting locate outcome look first_state Trace computed Eval op_rules i_mul wrapped
returns-clause-no_offset c = differ doubling_behind offset_dropped (on (5 ∷ 6 ∷ 7 ∷ [])) 0 7 ((5 ∷ []) ∷ [] ∷ []) (1 ∷ 1 ∷ 10 ∷ []) refl refl

pub returns-clause-no_stride : goal.returns-clause-no_stride
unfolding cut statements_in bytes_of_words setting locate outcome look first_state Trace computed Eval op_rules i_mul wrapped
returns-clause-no_stride c = differ doubling_apart stride_dropped (on (5 ∷ 6 ∷ 7 ∷ 8 ∷ [])) 1 7 ((5 ∷ []) ∷ [] ∷ []) (2 ∷ 2 ∷ 10 ∷ []) refl refl
