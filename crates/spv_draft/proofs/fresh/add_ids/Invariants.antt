use Rattle.std.proofs.Common.{take}
use Rattle.spv_draft.specs.Tallies.{Adds}
use Rattle.spv_draft.proofs.fresh.add_ids.Given as goal

abbrev pub invariant-ids : goal.invariant-ids
invariant-ids l = Adds l.initial.tally l.tally (take l.id-index l.ids)
