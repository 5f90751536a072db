use Rattle.std.proofs.Common.{◌≡◌, ◌∷◌, take}
use Rattle.std.specs.List.{flat_map}
use Rattle.spv_module.specs.Code.{spelling}
use Rattle.spv_module.proofs.coding.encode.Given as goal

abbrev pub invariant-instructions : goal.invariant-instructions
invariant-instructions l = l.words ≡ spelling (record { header = l.flat.header; insts = take l.k l.insts })
