use Rattle.spv_ir.proofs.Modules.{modules_are_ready}
use Rattle.spv_ir.proofs.holding.Module.tables.Goals as goal

pub tables-requires : goal.tables-requires
tables-requires c = (modules_are_ready c.flat.result.now c.flat.ensures.holds).rises
