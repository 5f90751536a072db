-- The instructions behind a label in a function that breaks no rule: OpPhi, steps, a merge instruction or none, and the terminator.
use Rattle.std.specs.Prelude.{◌≡◌, Bool, true, false, cond, ◌==◌, ◌||◌, List, [], ◌∷◌, ◌++◌, map, Option, None, All}
use Rattle.std.specs.List.{find}
use Rattle.spv_opcodes.specs.declared.op.TheConstants as op
use Rattle.spv_module.specs.Instruction.{Instruction, opcode}
use Rattle.spv_module.specs.Layout.{is_terminator}
use Rattle.spv_blocks.specs.Blocks.{Construct, End, last_opens}
use Rattle.spv_blocks.specs.Cutting.{body_of, closes, end_of, ending, ins}
use Rattle.spv_normal.specs.Lines.{line, up_to_terminator}
use Rattle.spv_tree.specs.Sound.{is_step}
use Rattle.spv_tree.specs.Tree.{words_of}
use Rattle.spv_walk.specs.Faults.{suits_selection, suits_loop}
use Rattle.spv_sources.specs.declared.close.Close.{Close}
use Rattle.spv_sources.specs.declared.close.Fork.{Fork}
use Rattle.spv_sources.specs.declared.close.LoopEnd.{LoopEnd}
use Rattle.spv_sources.specs.Close.{fork_line, fork_end, loop_end_line, loop_end_end, close_lines, close_construct, close_end}

-- ---- OpPhi

abbrev pub is_phi_inst : Instruction → Bool
is_phi_inst i = opcode i == op.PHI

-- those in front of instructions, and what stands behind them
abbrev pub phi_insts : List Instruction → List Instruction
phi_insts [] = []
phi_insts (i ∷ is) = cond (is_phi_inst i) (i ∷ phi_insts is) []

abbrev pub behind_phi_insts : List Instruction → List Instruction
behind_phi_insts [] = []
behind_phi_insts (i ∷ is) = cond (is_phi_inst i) (behind_phi_insts is) (i ∷ is)

-- ---- steps, and what closes a block

-- a merge instruction or a terminator
abbrev pub is_stop : Instruction → Bool
is_stop i = opcode i == op.SELECTION_MERGE || opcode i == op.LOOP_MERGE || is_terminator i

abbrev pub before_stop : List Instruction → List Instruction
before_stop [] = []
before_stop (i ∷ is) = cond (is_stop i) [] (i ∷ before_stop is)

abbrev pub from_stop : List Instruction → List Instruction
from_stop [] = []
from_stop (i ∷ is) = cond (is_stop i) (i ∷ is) (from_stop is)

-- what stands in front closes a block: a terminator other than OpSwitch, or a merge instruction and a terminator that suits it
pub data IsClosing : List Instruction → Type 0 where
  Bare : (t : Instruction) (is : List Instruction) → is_terminator t ≡ true → (opcode t == op.SWITCH) ≡ false → IsClosing (t ∷ is)
  Selected : (m t : Instruction) (is : List Instruction) → opcode m ≡ op.SELECTION_MERGE → suits_selection (ending t) ≡ true → IsClosing (m ∷ t ∷ is)
  Looped : (m t : Instruction) (is : List Instruction) → opcode m ≡ op.LOOP_MERGE → suits_loop (ending t) ≡ true → IsClosing (m ∷ t ∷ is)

-- steps stand before it
pub data IsTail : List Instruction → Type 0 where
  Steps : (i : Instruction) (is : List Instruction) → is_step (opcode i) ≡ true → IsTail is → IsTail (i ∷ is)
  Closes : (is : List Instruction) → IsClosing is → IsTail is

-- how the block ends whose last instructions these begin with, and what it opens
abbrev pub tail_end : List Instruction → End
tail_end is = end_of (find closes is)

abbrev pub tail_opens : List Instruction → Option Construct
tail_opens is = last_opens (tail_end is) (body_of is)

-- what is read of OpBranchConditional, of the terminator of a loop's header, of a terminator without a merge instruction, and of one with it
pub record IsFork (t : Instruction) (fork : Fork) : Type 0 where
  pub line : line t ≡ fork_line fork
  pub end : ending t ≡ fork_end fork

pub record IsLoopEnd (t : Instruction) (close : LoopEnd) : Type 0 where
  pub line : line t ≡ loop_end_line close
  pub end : ending t ≡ loop_end_end close

pub record IsBare (t : Instruction) (close : Close) : Type 0 where
  pub lines : line t ∷ [] ≡ close_lines close
  pub opens : None ≡ close_construct close
  pub ends : ending t ≡ close_end close

pub record IsMerged (m t : Instruction) (close : Close) : Type 0 where
  pub lines : m.words ∷ line t ∷ [] ≡ close_lines close
  pub opens : last_opens (ending t) (ins m ∷ []) ≡ close_construct close
  pub ends : ending t ≡ close_end close

-- what is read of instructions that close a block
pub record IsClose (is : List Instruction) (close : Close) : Type 0 where
  pub lines : map line (up_to_terminator is) ≡ close_lines close
  pub opens : tail_opens is ≡ close_construct close
  pub ends : tail_end is ≡ close_end close

-- the steps before what closes a block
pub record AreSteps (is : List Instruction) : Type 0 where
  pub lines : map line (up_to_terminator is) ≡ words_of (before_stop is) ++ map line (up_to_terminator (from_stop is))
  pub steps : All (λ (i : Instruction). is_step (opcode i) ≡ true) (before_stop is)
  pub closing : IsClosing (from_stop is)
  pub opens : tail_opens is ≡ tail_opens (from_stop is)
  pub ends : tail_end is ≡ tail_end (from_stop is)
