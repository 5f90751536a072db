use Rattle.std.proofs.Common.{take, map}
use Rattle.spv_blocks.specs.Blocks.{names_in}
use Rattle.spv_blocks.specs.Places.{AddsNames}
use Rattle.spv_blocks.specs.Seen.{seen_ins}
use Rattle.spv_blocks.proofs.counting.add_names_of.Given as goal

abbrev pub invariant-instructions : goal.invariant-instructions
invariant-instructions l = AddsNames l.initial.counts l.counts (names_in (map seen_ins (take l.inst-index l.body)))
