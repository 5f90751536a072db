use Rattle.std.proofs.Common.{◌≡◌, ◌++◌, drop, take}
use Rattle.spv_sources.specs.Tail.{before_stop, from_stop}
use Rattle.spv_sources.proofs.reading.stop_from.Given as goal

abbrev pub invariant-steps : goal.invariant-steps
invariant-steps l = record {
  before : before_stop (drop l.start l.insts) ≡ drop l.start (take l.k l.insts) ++ before_stop (drop l.k l.insts);
  from : from_stop (drop l.start l.insts) ≡ from_stop (drop l.k l.insts);
}
