-- What a source keeps, and what is read from a place on.
use Rattle.std.specs.Prelude.{◌≡◌, ℕ, true, List, ◌++◌, map, length, take, slice_get, Some, All}
use Rattle.std.specs.BTreeMap.{BTreeMap}
use Rattle.spv_module.specs.Instruction.{Instruction}
use Rattle.spv_blocks.specs.Cutting.{blocks_of, is_label_mark, word}
use Rattle.spv_normal.specs.Lines.{before_labels, line, up_to_terminator}
use Rattle.spv_normal.specs.Order.{first_label}
use Rattle.spv_spelling.specs.Whole.{IsAdmitted}
use Rattle.spv_tree.specs.Sound.{is_step, opcode_in}
use Rattle.spv_sources.specs.declared.begins.Begin.{Begin}
use Rattle.spv_sources.specs.declared.close.Text.{Text}
use Rattle.spv_sources.specs.Close.{step_words, close_lines, close_construct, close_end}
use Rattle.spv_sources.specs.Staying.{AreFollowed}
use Rattle.spv_sources.specs.Tail.{tail_end, tail_opens}
use Rattle.spv_sources.specs.Values.{HasBegins}

-- the function breaks no rule, and the tables are its
pub record IsKept (insts : List Instruction) (table : BTreeMap ℕ Begin) (staying : BTreeMap ℕ ℕ) : Type 0 where
  pub admitted : IsAdmitted insts
  pub begins : HasBegins insts table
  pub stays : AreFollowed (blocks_of insts) (length (blocks_of insts)) staying

-- a block is read, of which these are the instructions behind its OpPhi
pub record IsTextOf (is : List Instruction) (read : Text) : Type 0 where
  pub lines : map line (up_to_terminator is) ≡ step_words read.steps.items ++ close_lines read.close
  pub steps : All (λ words. is_step (opcode_in words) ≡ true) (step_words read.steps.items)
  pub opens : tail_opens is ≡ close_construct read.close
  pub ends : tail_end is ≡ close_end read.close

-- the k-th instruction is the first OpLabel
pub record IsFirstMark (insts : List Instruction) (k : ℕ) : Type 0 where
  pub mark : Instruction
  pub at : slice_get insts k ≡ Some mark
  pub marks : is_label_mark mark ≡ true
  pub before : take k insts ≡ before_labels insts
  pub first : first_label (blocks_of insts) ≡ word mark 1
