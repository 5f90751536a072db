-- Where the instructions of a module stand: in which function, and in which block.
use Rattle.std.specs.Prelude.{ℕ, ◌+◌, cond, count_by, take, List, [], ◌∷◌}
use Rattle.spv_module.specs.Code.{is_function}
use Rattle.spv_module.specs.Instruction.{Instruction}
use Rattle.spv_blocks.specs.Cutting.{is_label_mark, word}

-- the number of the function that the k-th instruction stands in: how many OpFunction there are up to it; 0 outside functions
abbrev pub function_of : List Instruction → (k : ℕ) → ℕ
function_of insts k = count_by is_function (take (k + 1) insts)

-- the label of the last block that begins in some instructions, and the label that was before where none does
abbrev pub last_label : (before : ℕ) → List Instruction → ℕ
last_label before [] = before
last_label before (i ∷ is) = last_label (cond (is_label_mark i) (word i 1) before) is

-- the label of the block that the k-th instruction stands in: that of the last OpLabel up to it; 0, which is no id, where there is none
abbrev pub block_of : List Instruction → (k : ℕ) → ℕ
block_of insts k = last_label 0 (take (k + 1) insts)

-- A place at which an id is used: the number of its function, the label of its block, and how many instructions of the module stand before it.
pub record Place : Type 0 where
  pub function : ℕ
  pub block : ℕ
  pub before : ℕ

-- where the k-th instruction uses its operands
abbrev pub place_at : List Instruction → (k : ℕ) → Place
place_at insts k = record { function = function_of insts k; block = block_of insts k; before = k }
