use Rattle.std.proofs.Common.{take}
use Rattle.graph.specs.Rows.{row}
use Rattle.spv_blocks.specs.Edges.{predecessors_of}
use Rattle.spv_faults.specs.Once.{IsSetOf}
use Rattle.spv_faults.proofs.PredecessorLabels.{labels_at}
use Rattle.spv_faults.proofs.parents.parents_of.Given as goal

abbrev pub invariant-numbers : goal.invariant-numbers
invariant-numbers l = IsSetOf (labels_at l.function (take l.i-index (row (predecessors_of l.function) l.place))) l.parents
