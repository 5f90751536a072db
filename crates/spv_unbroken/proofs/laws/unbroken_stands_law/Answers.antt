use Rattle.spv_unbroken.proofs.Stands as laws
use Rattle.spv_unbroken.proofs.laws.unbroken_stands_law.Goals as goal

pub returns-clause-sound : goal.returns-clause-sound
returns-clause-sound c = laws.sound_agrees

pub returns-clause-stands : goal.returns-clause-stands
returns-clause-stands c = laws.unbroken_stands
