use Rattle.std.proofs.Common.{[], ◌∷◌, replicate, refl}
use Rattle.spv_machine.specs.Setting.{setting}
use Rattle.spv_machine.specs.Places.{locate}
use Rattle.spv_machine.specs.Effects.{after, answer}
use Rattle.spv_machine.specs.Operations.{outcome}
use Rattle.spv_machine.specs.Steps.{look, first_state}
use Rattle.spv_machine.specs.Doubling.{on, buffer}
use Rattle.spv_machine.specs.Shaders.{exchanging}
use Rattle.spv_machine.proofs.Computing.{finals_in}
use Rattle.spv_machine.proofs.memory_facts.facts_of_atomics.Goals as goal

pub returns-clause-exchanges : goal.returns-clause-exchanges
unfolding setting locate after answer outcome look first_state
returns-clause-exchanges c = finals_in (setting exchanging (on (0 ∷ 0 ∷ 2 ∷ []))) (replicate 7 0) (buffer (2 ∷ 0 ∷ 1 ∷ [])) refl

pub returns-clause-keeps : goal.returns-clause-keeps
unfolding setting locate after answer outcome look first_state
returns-clause-keeps c = finals_in (setting exchanging (on (0 ∷ 0 ∷ 3 ∷ []))) (replicate 7 0) (buffer (3 ∷ 0 ∷ 3 ∷ [])) refl
