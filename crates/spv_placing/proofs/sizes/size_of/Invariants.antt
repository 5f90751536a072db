use Rattle.std.proofs.Common.{◌≡◌, ◌<◌, ◌^◌, take}
use Rattle.spv_placing.specs.Placing.{size_in}
use Rattle.spv_placing.proofs.sizes.size_of.Given as goal

abbrev pub invariant-instructions : goal.invariant-instructions
invariant-instructions l = record { is : l.words ≡ size_in (take l.k l.insts); small : l.words < 2 ^ 32 }
