use Rattle.std.proofs.Common.{length}
use Rattle.spv_calls.specs.Kept.{IsFresh}
use Rattle.spv_calls.proofs.FirstBroken.{IsClear}
use Rattle.spv_calls.proofs.first.first_broken.Given as goal

abbrev pub invariant-instructions : goal.invariant-instructions
invariant-instructions l = IsClear l.calls l.k × IsFresh (length l.calls) l.search
