use Rattle.spv_texts.proofs.Functions.{laid_out}
use Rattle.spv_texts.proofs.layout_law.Goals as goal

pub returns : goal.returns
returns c = laid_out
