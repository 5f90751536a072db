use Rattle.spv_entering.proofs.Falling.{AreLeft}
use Rattle.spv_entering.proofs.cases.Known.enterer.Given as goal

abbrev pub invariant-switches : goal.invariant-switches
invariant-switches l = AreLeft l.self.flow l.t l.s-index l.left.items
