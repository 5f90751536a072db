use Rattle.spv_placing.proofs.Spans.{IsPlaced}
use Rattle.spv_placing.proofs.placing.place_all.Given as goal

abbrev pub invariant-spans : goal.invariant-spans
invariant-spans l = IsPlaced l.pool l.initial.spans.items l.spans.items l.at l.k
