use Rattle.std.proofs.Common.{take}
use Rattle.spv_draft.specs.Named.{used_ids}
use Rattle.spv_draft.specs.Tallies.{Counts}
use Rattle.spv_draft.proofs.uses.tally_used.Given as goal

abbrev pub invariant-lines : goal.invariant-lines
invariant-lines l = Counts l.tally (used_ids (take l.k l.lines))
