use Rattle.std.proofs.Common.{◌≡◌, ℕ, ◌<◌, length}
use Rattle.graph.specs.Rows.{row}
use Rattle.spv_entering.specs.Steps.{steps_from, label_of}
use Rattle.spv_entering.proofs.stepping.steps.Given as goal

abbrev pub invariant-each : goal.invariant-each
invariant-each l = (length l.rows ≡ l.i) × ((j : ℕ) → j < l.i → row l.rows j ≡ steps_from l.flow.code (label_of l.flow.code j))
