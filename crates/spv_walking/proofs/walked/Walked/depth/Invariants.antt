use Rattle.std.proofs.Common.{take}
use Rattle.spv_walking.specs.Table.{context_of}
use Rattle.spv_walking.proofs.Looked.{labelled}
use Rattle.spv_walking.proofs.GreatestDepth.{IsDepthOf}
use Rattle.spv_walking.proofs.walked.Walked.depth.Given as goal

abbrev pub invariant-each : goal.invariant-each
invariant-each l = IsDepthOf l.function (context_of l.self) (λ b. labelled (take l.k l.function) b) l.depth
