use Rattle.spv_composites.proofs.LengthLaws.{lengths_agree}
use Rattle.spv_composites.proofs.laws.lengths_law.Goals as goal

pub returns : goal.returns
returns c = lengths_agree
