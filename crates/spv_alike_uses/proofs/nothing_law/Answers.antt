use Rattle.spv_alike_uses.proofs.Nothing as nothing
use Rattle.spv_alike_uses.proofs.nothing_law.Goals as goal

pub returns : goal.returns
returns c = nothing.alike_with_nothing_gone
