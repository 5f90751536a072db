use Rattle.spv_built.proofs.Read as read
use Rattle.spv_built.proofs.Whole as whole
use Rattle.spv_built.proofs.laws.built_law.Goals as goal

pub returns-clause-module : goal.returns-clause-module
returns-clause-module c = whole.built_is_module

pub returns-clause-built : goal.returns-clause-built
returns-clause-built c = read.read_is_built
