use Rattle.std.proofs.Common.{◌≡◌, ◌++◌, drop}
use Rattle.spv_sources.specs.Tail.{phi_insts}
use Rattle.spv_sources.specs.Values.{shown}
use Rattle.spv_sources.proofs.phis.phis_from.Given as goal

abbrev pub invariant-phis : goal.invariant-phis
invariant-phis l = phi_insts (drop l.start l.insts) ≡ shown l.phis.items ++ phi_insts (drop l.k l.insts)
