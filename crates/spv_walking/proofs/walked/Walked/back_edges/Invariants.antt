use Rattle.std.proofs.Common.{take}
use Rattle.spv_walking.specs.Table.{context_of}
use Rattle.spv_walking.proofs.Looked.{labelled}
use Rattle.spv_walking.proofs.LoopEnds.{HasEnds}
use Rattle.spv_walking.proofs.walked.Walked.back_edges.Given as goal

abbrev pub invariant-each : goal.invariant-each
invariant-each l = HasEnds l.labels (context_of l.self) (λ b. labelled (take l.k l.labels) b) l.edges
