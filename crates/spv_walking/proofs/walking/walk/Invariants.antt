use Rattle.spv_walk.specs.Tables.{IsDone}
use Rattle.spv_walk.specs.Walked.{InPlaces, WalkTable}
use Rattle.spv_walking.specs.Table.{context_of}
use Rattle.spv_walking.specs.Steps.{is_done, work}
use Rattle.spv_walking.proofs.walking.walk.Given as goal

abbrev pub invariant-turns : goal.invariant-turns
invariant-turns l = WalkTable l.labels (InPlaces (context_of l.going.walked)) (IsDone (is_done l.going))

abbrev pub decreases-turns : goal.decreases-turns
decreases-turns l = work l.labels l.going
