use Rattle.std.proofs.Common.{◌≡◌, take}
use Rattle.spv_module.specs.List.{instructions_in}
use Rattle.spv_placing.specs.Placing.{size_in}
use Rattle.spv_draft.proofs.lines.size_of.Given as goal

abbrev pub invariant-spans : goal.invariant-spans
invariant-spans l = l.words ≡ size_in (take l.k (instructions_in l.pool l.spans))
