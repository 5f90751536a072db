use Rattle.spv_calls.proofs.Listed.{IsListed}
use Rattle.spv_calls.proofs.interface.listed.Given as goal

abbrev pub invariant-ids : goal.invariant-ids
invariant-ids l = IsListed l.globals l.ids l.id-index l.listed
