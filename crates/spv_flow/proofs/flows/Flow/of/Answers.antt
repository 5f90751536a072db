use Rattle.std.proofs.Common.{subst}
use Rattle.spv_blocks.specs.Blocks.{Code}
use Rattle.spv_blocks.specs.Tables.{found}
use Rattle.spv_walk.specs.Walked.{AreEnterers}
use Rattle.spv_walking.specs.Edges.{has_one}
use Rattle.spv_flow.specs.Known.{AreToldLoops}
use Rattle.spv_flow.proofs.flows.Flow.of.Goals as goal

pub returns-in-None-clause-enterers : goal.returns-in-None-clause-enterers
returns-in-None-clause-enterers c =
    subst (λ (f : Code). AreEnterers f (found c.in_ok-known.known.enterers)) c.in_ok-known.ensures.function c.in_ok-known.ensures.tables.tables.enterers

pub returns-in-None-clause-loops : goal.returns-in-None-clause-loops
returns-in-None-clause-loops c =
    let known = c.in_ok-known.known in
    subst AreToldLoops c.in_ok-known.ensures.function record { ends = has_one known.loops; told = c.in_ok-known.ensures.tables.tables.one_back_edge }
