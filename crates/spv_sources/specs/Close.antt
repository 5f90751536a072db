-- How a block ends: the lines that spell it, the construct that it opens, and its terminator.
use Rattle.std.specs.Prelude.{◌≡◌, ℕ, true, List, [], ◌∷◌, ◌++◌, map, Option, Some, None, All}
use Rattle.spv_opcodes.specs.declared.op.TheConstants as op
use Rattle.spv_module.specs.declared.inst.Inst.{Inst}
use Rattle.spv_module.specs.Instruction.{Instruction}
use Rattle.spv_blocks.specs.Blocks as blocks
use Rattle.spv_blocks.specs.Cutting.{blocks_of}
use Rattle.spv_walk.specs.Walk.{end_of}
use Rattle.spv_bodies.specs.Listing.{instruction, branch_line, split_line, selection_line, loop_line, pair_words}
use Rattle.spv_tree.specs.Sound.{is_step, opcode_in}
use Rattle.spv_tree.specs.Tree.{case_of}
use Rattle.spv_spelling.specs.Text.{text, behind_phis}
use Rattle.spv_sources.specs.declared.close.Fork.{Fork}
use Rattle.spv_sources.specs.declared.close.LoopEnd.{LoopEnd}
use Rattle.spv_sources.specs.declared.close.LoopEnd.TheVariants as loop_end
use Rattle.spv_sources.specs.declared.close.Close.{Close}
use Rattle.spv_sources.specs.declared.close.Close.TheVariants as close
use Rattle.spv_sources.specs.declared.close.Text.{Text}

-- ---- lines

abbrev pub fork_line : Fork → List ℕ
fork_line fork = split_line fork.condition true fork.first fork.second

abbrev pub loop_end_line : LoopEnd → List ℕ
loop_end_line (loop_end.Branch target) = branch_line target
loop_end_line (loop_end.Split fork) = fork_line fork

-- the merge instruction, where there is one, and the terminator
abbrev pub close_lines : Close → List (List ℕ)
close_lines close.Return = instruction op.RETURN [] ∷ []
close_lines (close.ReturnValue value) = instruction op.RETURN_VALUE (value ∷ []) ∷ []
close_lines close.Unreachable = instruction op.UNREACHABLE [] ∷ []
close_lines (close.Branch target) = branch_line target ∷ []
close_lines (close.Split fork) = fork_line fork ∷ []
close_lines (close.Choice control merge fork) = selection_line merge control ∷ fork_line fork ∷ []
close_lines (close.Switch control merge selector default cases) =
    selection_line merge control ∷ instruction op.SWITCH (selector ∷ default ∷ pair_words (map case_of cases)) ∷ []
close_lines (close.Loop control merge next end) = loop_line merge next control ∷ loop_end_line end ∷ []

-- ---- constructs and terminators

abbrev pub close_construct : Close → Option blocks.Construct
close_construct close.Return = None
close_construct (close.ReturnValue value) = None
close_construct close.Unreachable = None
close_construct (close.Branch target) = None
close_construct (close.Split fork) = None
close_construct (close.Choice control merge fork) = Some (blocks.ASelection merge)
close_construct (close.Switch control merge selector default cases) = Some (blocks.ASwitch merge)
close_construct (close.Loop control merge next end) = Some (blocks.ALoop merge next)

abbrev pub fork_end : Fork → blocks.End
fork_end fork = blocks.BranchIf fork.first fork.second

abbrev pub loop_end_end : LoopEnd → blocks.End
loop_end_end (loop_end.Branch target) = blocks.Branch target
loop_end_end (loop_end.Split fork) = fork_end fork

abbrev pub close_end : Close → blocks.End
close_end close.Return = blocks.Return
close_end (close.ReturnValue value) = blocks.Return
close_end close.Unreachable = blocks.Unreachable
close_end (close.Branch target) = blocks.Branch target
close_end (close.Split fork) = fork_end fork
close_end (close.Choice control merge fork) = fork_end fork
close_end (close.Switch control merge selector default cases) = blocks.Switch default (map case_of cases)
close_end (close.Loop control merge next end) = loop_end_end end

-- ---- blocks

-- the words of instructions that are owned
abbrev pub step_words : List Inst → List (List ℕ)
step_words steps = map (λ (inst : Inst). inst.words) steps

-- what is read of the block with a label, behind its OpPhi
pub record IsText (insts : List Instruction) (label : ℕ) (read : Text) : Type 0 where
  pub lines : behind_phis (text insts label) ≡ step_words read.steps.items ++ close_lines read.close
  pub steps : All (λ words. is_step (opcode_in words) ≡ true) (step_words read.steps.items)
  pub opens : blocks.construct (blocks_of insts) label ≡ close_construct read.close
  pub ends : end_of (blocks_of insts) label ≡ close_end read.close
