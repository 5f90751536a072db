use Rattle.spv_editing.proofs.Soundness.{sound-kept}
use Rattle.spv_editing.proofs.laws.sound_law.Goals as goal

pub returns : goal.returns
returns c = sound-kept
