use Rattle.spv_module.proofs.LayoutScan.{IsScanned}
use Rattle.spv_module.proofs.layout.broken_layout.Given as goal

abbrev pub invariant-instructions : goal.invariant-instructions
invariant-instructions l = IsScanned l.end l.insts l.k l.layout l.broken
