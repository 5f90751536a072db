use Rattle.std.proofs.Common.{◌≡◌, ◌++◌, drop, take}
use Rattle.spv_blocks.specs.Cutting.{blocks_of}
use Rattle.spv_normal.specs.Lines.{before_labels}
use Rattle.spv_sources.proofs.heading.first_mark.Given as goal

abbrev pub invariant-each : goal.invariant-each
invariant-each l = record {
  before : before_labels l.insts ≡ take l.k l.insts ++ before_labels (drop l.k l.insts);
  blocks : blocks_of l.insts ≡ blocks_of (drop l.k l.insts);
}
