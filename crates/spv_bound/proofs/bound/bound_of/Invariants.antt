use Rattle.std.proofs.Common.{◌≡◌, ◌<◌, ◌^◌, take}
use Rattle.spv_bound.specs.Bound.{greatest, named_ids}
use Rattle.spv_bound.proofs.bound.bound_of.Given as goal

abbrev pub invariant-instructions : goal.invariant-instructions
invariant-instructions l = record { most : l.most ≡ greatest (named_ids (take l.k l.insts)); small : l.most < 2 ^ 32 }
