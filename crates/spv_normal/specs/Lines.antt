-- The instructions of a function as lines of words: those before its first block, and each block by its label.
use Rattle.std.specs.Prelude.{ℕ, false, cond, not, ◌==◌, List, [], ◌∷◌, filter, take, drop}
use Rattle.spv_opcodes.specs.declared.op.TheConstants as op
use Rattle.spv_module.specs.Code.{is_line}
use Rattle.spv_module.specs.Instruction.{Instruction, opcode}
use Rattle.spv_module.specs.Layout.{is_terminator}
use Rattle.spv_blocks.specs.Cutting.{is_label_mark, word}
use Rattle.spv_bodies.specs.Listing.{instruction}

-- the instructions without line marks
abbrev pub without_marks : List Instruction → List Instruction
without_marks insts = filter (λ i. not (is_line i)) insts

-- the words of an instruction, without branch weights
abbrev pub line : Instruction → List ℕ
line i = cond (opcode i == op.BRANCH_CONDITIONAL) (instruction op.BRANCH_CONDITIONAL (take 3 (drop 1 i.words))) i.words

-- what stands before the first OpLabel
abbrev pub before_labels : List Instruction → List Instruction
before_labels [] = []
before_labels (i ∷ is) = cond (is_label_mark i) [] (i ∷ before_labels is)

-- what stands in a block, up to and with its terminator
abbrev pub up_to_terminator : List Instruction → List Instruction
up_to_terminator [] = []
up_to_terminator (i ∷ is) = cond (is_terminator i) (i ∷ []) (i ∷ up_to_terminator is)

-- what stands behind the first OpLabel with a label
abbrev pub behind_label : List Instruction → (label : ℕ) → List Instruction
behind_label [] label = []
behind_label (i ∷ is) label = cond (cond (is_label_mark i) (word i 1 == label) false) is (behind_label is label)

-- the instructions of the block with a label
abbrev pub block_insts : List Instruction → (label : ℕ) → List Instruction
block_insts insts label = up_to_terminator (behind_label insts label)
