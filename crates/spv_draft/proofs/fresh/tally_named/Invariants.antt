use Rattle.std.proofs.Common.{take}
use Rattle.spv_draft.specs.Named.{named_ids}
use Rattle.spv_draft.specs.Tallies.{Counts}
use Rattle.spv_draft.proofs.fresh.tally_named.Given as goal

abbrev pub invariant-lines : goal.invariant-lines
invariant-lines l = Counts l.tally (named_ids (take l.k l.lines))
