use Rattle.std.proofs.Common.{take}
use Rattle.spv_walk.specs.Rules.{IsFirst}
use Rattle.spv_walking.specs.Table.{context_of}
use Rattle.spv_walking.proofs.Looked.{labelled}
use Rattle.spv_walking.proofs.LostBlocks.{MissingOf}
use Rattle.spv_walking.proofs.walked.Walked.missing.Given as goal

abbrev pub invariant-each : goal.invariant-each
invariant-each l = IsFirst (MissingOf l.function (context_of l.self) (λ b. labelled (take l.k l.function) b)) l.refusal
