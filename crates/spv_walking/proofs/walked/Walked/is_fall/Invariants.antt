use Rattle.std.proofs.Common.{◌≡◌, ◌<◌, length}
use Rattle.spv_walk.specs.Contexts.{is_fall}
use Rattle.spv_walking.specs.Places.{context_at}
use Rattle.spv_walking.proofs.walked.Walked.is_fall.Given as goal

abbrev pub invariant-outward : goal.invariant-outward
invariant-outward l = record {
  within : l.place < length l.self.rows;
  same : is_fall l.labels (context_at l.self.rows l.place) l.target ≡ is_fall l.labels (context_at l.self.rows l.fn.place) l.target;
}

abbrev pub decreases-outward : goal.decreases-outward
decreases-outward l = length (context_at l.self.rows l.place)
