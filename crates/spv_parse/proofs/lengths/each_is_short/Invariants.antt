use Rattle.std.proofs.Common.{◌≡◌, ℕ, ◌<◌, ◌≤◌, length, Some}
use Rattle.std.specs.Prelude.{slice_get}
use Rattle.spv_module.specs.Instruction.{Instruction}
use Rattle.spv_parse.proofs.lengths.each_is_short.Given as goal

-- those before are short
abbrev pub invariant-instructions : goal.invariant-instructions
invariant-instructions l = (j : ℕ) (i : Instruction) → j < l.k → slice_get l.insts j ≡ Some i → length i.words ≤ 65535
