use Rattle.std.proofs.Common.{◌≡◌, ◌+◌, ◌≤◌, ◌^◌}
use Rattle.spv_draft.specs.Functions.{function_start}
use Rattle.spv_draft.proofs.functions.start_of.Given as goal

abbrev pub invariant-functions : goal.invariant-functions
invariant-functions l = record { place : l.at ≡ function_start l._step l.lines; within : l.at ≤ 2 ^ 32 + l._step }
