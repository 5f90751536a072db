use Rattle.spv_walking.proofs.KeptContexts.{keeps_read}
use Rattle.spv_walking.proofs.rows.Rows.row.Goals as goal

pub returns : goal.returns
returns c = keeps_read c.self.inside.rows.items c.args.self.now c.args.place c.index.result.now c.self.invariant c.self.view_is c.requires c.index.ensures
