use Rattle.std.proofs.Common.{◌≡◌, Some, length}
use Rattle.std.specs.List.{slice_get}
use Rattle.spv_module.specs.Instruction.{Instruction}
use Rattle.spv_draft.proofs.Replaced.{IsReplaced}
use Rattle.spv_draft.proofs.replacing.replace_words.Given as goal

abbrev pub invariant-words : goal.invariant-words
invariant-words l = (i : Instruction) → slice_get l.initial.lines l.k ≡ Some i → IsReplaced l.from l.to l.initial.lines l.lines l.k l.at i
