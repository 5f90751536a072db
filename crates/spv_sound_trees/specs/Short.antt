-- Instructions whose word counts stand in half a word.
use Rattle.std.specs.Prelude.{◌≡◌, ℕ, ◌<◌, ◌^◌, List, slice_get, slice_index, Some}
use Rattle.spv_module.specs.Instruction.{Instruction}
use Rattle.spv_spelling.specs.Whole.{AreInstructions, AreShort}

-- where the first word of each fits in 32 bits, each has at most 65,535 words
abbrev pub ShortByWords : Type 0
ShortByWords =
    (insts : List Instruction) → AreInstructions insts → ((k : ℕ) (i : Instruction) → slice_get insts k ≡ Some i → slice_index i.words 0 < 2 ^ 32)
    → AreShort insts
