use Rattle.spv_exits.proofs.Branching.{row-branching}
use Rattle.spv_exits.proofs.crowding.branching.Goals as goal

pub returns-in-Some : goal.returns-in-Some
returns-in-Some c =
    row-branching c.args.labels.now c.args.label c.place.result c.in-Some.place
    c.args.edges.now.predecessors c.row.result.now c.place.ensures c.in-Some.is c.requires c.row.ensures
