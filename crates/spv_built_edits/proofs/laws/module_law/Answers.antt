use Rattle.spv_built_edits.proofs.LaidOut.{layout_stays}
use Rattle.spv_built_edits.proofs.Module.{module_stays}
use Rattle.spv_built_edits.proofs.laws.module_law.Goals as goal

pub returns-clause-module : goal.returns-clause-module
returns-clause-module c = module_stays

pub returns-clause-layout : goal.returns-clause-layout
returns-clause-layout c = layout_stays
