use Rattle.std.proofs.Common.{◌≡◌, Some, map, take}
use Rattle.std.specs.List.{slice_get}
use Rattle.spv_normal.specs.Lines.{without_marks}
use Rattle.spv_sources.proofs.unmarked.numbers_of.Given as goal

abbrev pub invariant-each : goal.invariant-each
invariant-each l = map (slice_get l.insts) l.numbers.items ≡ map Some (without_marks (take l.k l.insts))
