use Rattle.spv_tree.proofs.Samples.{falling-unsound, foreign-unsound, late-unsound, leaving-unsound, samples-sound, stray-unsound, twice-unsound, valueless-unsound}
use Rattle.spv_tree.proofs.facts.facts_of_soundness.Goals as goal

pub returns-clause-sound : goal.returns-clause-sound
returns-clause-sound c = samples-sound

pub returns-clause-refused : goal.returns-clause-refused
returns-clause-refused c = (twice-unsound, valueless-unsound, stray-unsound, falling-unsound, leaving-unsound, late-unsound, foreign-unsound)
