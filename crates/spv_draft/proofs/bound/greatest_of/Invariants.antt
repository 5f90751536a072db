use Rattle.std.proofs.Common.{◌≡◌, take}
use Rattle.spv_draft.specs.Named.{greatest, named_ids}
use Rattle.spv_draft.proofs.bound.greatest_of.Given as goal

abbrev pub invariant-lines : goal.invariant-lines
invariant-lines l = l.most ≡ greatest (named_ids (take l.k l.lines))
