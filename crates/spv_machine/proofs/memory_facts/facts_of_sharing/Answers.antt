use Rattle.std.proofs.Common.{◌||◌, [], ◌∷◌, ◌++◌, replicate, refl}
use Rattle.spv_module.specs.Code.{cut}
use Rattle.spv_words.specs.Words.{bytes_of_words}
use Rattle.spv_value.specs.Eval.{Eval, op_rules}
use Rattle.spv_value.specs.Arith.{i_add, i_mul}
use Rattle.spv_value.specs.Numbers.{wrapped}
use Rattle.spv_meaning.specs.Statements.{statements_in}
use Rattle.spv_meaning.specs.Computations.{computed}
use Rattle.spv_machine.specs.Setting.{setting}
use Rattle.spv_machine.specs.Places.{locate}
use Rattle.spv_machine.specs.Effects.{after, answer}
use Rattle.spv_machine.specs.Operations.{outcome}
use Rattle.spv_machine.specs.Steps.{look, first_state}
use Rattle.spv_machine.specs.Doubling.{doubling_by_two, on, buffer}
use Rattle.spv_machine.specs.Facts.{one_by_one}
use Rattle.spv_machine.specs.Shaders.{triple, groups_on, counting, finding, meeting}
use Rattle.spv_machine.proofs.Computing.{same_buffers, finals_in, ends_in, only_in, either_in, only_by}
use Rattle.spv_machine.proofs.memory_facts.facts_of_sharing.Goals as goal

pub returns-clause-counts_end : goal.returns-clause-counts_end
unfolding setting locate after answer outcome look first_state i_add wrapped
returns-clause-counts_end c = ends_in (setting counting (on (0 ∷ 0 ∷ 5 ∷ []))) 14 (λ bs. same_buffers bs (buffer (5 ∷ 6 ∷ 7 ∷ [])) || same_buffers bs (buffer (6 ∷ 5 ∷ 7 ∷ []))) refl

pub returns-clause-counts : goal.returns-clause-counts
unfolding setting locate after answer outcome look first_state i_add wrapped
returns-clause-counts c = either_in (setting counting (on (0 ∷ 0 ∷ 5 ∷ []))) 14 (buffer (5 ∷ 6 ∷ 7 ∷ [])) (buffer (6 ∷ 5 ∷ 7 ∷ [])) refl

pub returns-clause-one_first : goal.returns-clause-one_first
unfolding setting locate after answer outcome look first_state i_add wrapped
returns-clause-one_first c = finals_in (setting counting (on (0 ∷ 0 ∷ 5 ∷ []))) (one_by_one 2 7) (buffer (5 ∷ 6 ∷ 7 ∷ [])) refl

pub returns-clause-other_first : goal.returns-clause-other_first
unfolding setting locate after answer outcome look first_state i_add wrapped
returns-clause-other_first c = finals_in (setting counting (on (0 ∷ 0 ∷ 5 ∷ []))) (replicate 7 1 ++ replicate 7 0) (buffer (6 ∷ 5 ∷ 7 ∷ [])) refl

pub returns-clause-two_groups : goal.returns-clause-two_groups
unfolding setting locate after answer outcome look first_state i_add wrapped
returns-clause-two_groups c = only_in (setting (finding 1) (groups_on (triple 2 1 1) (9 ∷ 9 ∷ []))) 14 (buffer (0 ∷ 0 ∷ [])) refl

pub returns-clause-one_group : goal.returns-clause-one_group
unfolding setting locate after answer outcome look first_state i_add wrapped
returns-clause-one_group c = finals_in (setting (finding 2) (on (9 ∷ 9 ∷ []))) (one_by_one 2 7) (buffer (0 ∷ 2 ∷ [])) refl

pub returns-clause-meets : goal.returns-clause-meets
unfolding setting locate after answer outcome look first_state i_add wrapped
returns-clause-meets c = only_in (setting meeting (on (9 ∷ 9 ∷ []))) 16 (buffer (2 ∷ 2 ∷ [])) refl

pub returns-clause-meets_end : goal.returns-clause-meets_end
unfolding setting locate after answer outcome look first_state i_add wrapped
returns-clause-meets_end c = ends_in (setting meeting (on (9 ∷ 9 ∷ []))) 16 (λ bs. same_buffers bs (buffer (2 ∷ 2 ∷ []))) refl

pub returns-clause-short : goal.returns-clause-short
unfolding cut statements_in bytes_of_words setting locate after answer outcome look first_state computed Eval op_rules i_mul wrapped
returns-clause-short c = only_by doubling_by_two (on (5 ∷ [])) 14 (buffer (10 ∷ [])) refl
