use Rattle.spv_built.proofs.Nothing as nothing
use Rattle.spv_built.proofs.facts.facts_of_built_modules.Goals as goal

pub returns : goal.returns
returns c = nothing.header_is_not_built
