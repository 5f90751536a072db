use Rattle.std.proofs.Common.{◌≡◌, ◌++◌, drop, take}
use Rattle.spv_sources.specs.Tail.{phi_insts, behind_phi_insts}
use Rattle.spv_sources.proofs.reading.past_phis.Given as goal

abbrev pub invariant-phis : goal.invariant-phis
invariant-phis l = record {
  front : phi_insts (drop l.start l.insts) ≡ drop l.start (take l.k l.insts) ++ phi_insts (drop l.k l.insts);
  behind : behind_phi_insts (drop l.start l.insts) ≡ behind_phi_insts (drop l.k l.insts);
}
