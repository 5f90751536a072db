use Rattle.spv_machine.proofs.Silence as laws
use Rattle.spv_machine.proofs.laws.silence_law.Goals as goal

pub returns : goal.returns
returns c = laws.silence_law
