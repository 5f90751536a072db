use Rattle.std.proofs.Common.{◌≡◌, map, take}
use Rattle.spv_blocks.specs.Places.{row_of}
use Rattle.spv_blocks.proofs.edges.rows.Given as goal

abbrev pub invariant-each : goal.invariant-each
invariant-each l = l.rows ≡ map (row_of l.labels) (take l.i l.labels)
