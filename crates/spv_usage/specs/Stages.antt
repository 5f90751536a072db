-- Where an instruction stands in its function, as far as OpVariable asks. Line marks are looked past.
use Rattle.std.specs.Prelude.{◌≡◌, ℕ, Bool, true, false, cond, ◌==◌, ◌||◌, List, take}
use Rattle.std.specs.List.{fold}
use Rattle.spv_opcodes.specs.declared.op.TheConstants as op
use Rattle.spv_module.specs.Code.{is_function, is_line}
use Rattle.spv_module.specs.Instruction.{Instruction, opcode}
pub use Rattle.spv_usage.specs.declared.stages.Stage.{Stage}
pub use Rattle.spv_usage.specs.declared.stages.Stage.TheVariants.{Outside, Head, Opening, Further}

-- behind an OpLabel: the first one of a function begins its first block
abbrev pub behind_label : Stage → Stage
behind_label Outside = Outside
behind_label Head = Opening
behind_label Opening = Further
behind_label Further = Further

-- behind what is no OpFunction, OpLabel, OpVariable or line mark
abbrev pub behind_other : Stage → Stage
behind_other Outside = Outside
behind_other Head = Head
behind_other Opening = Further
behind_other Further = Further

abbrev pub stage_behind : Stage → Instruction → Stage
stage_behind stage i =
    cond (is_line i || opcode i == op.VARIABLE) stage
    (cond (is_function i) Head
    (cond (opcode i == op.LABEL) (behind_label stage)
    (behind_other stage)))

-- where the k-th instruction stands, counted from 0
abbrev pub stage_of : List Instruction → (k : ℕ) → Stage
stage_of insts k = fold stage_behind Outside (take k insts)

abbrev pub is_outside : Stage → Bool
is_outside Outside = true
is_outside stage = false

abbrev pub is_opening : Stage → Bool
is_opening Opening = true
is_opening stage = false

-- the stage in which the k-th instruction stands
pub record IsStage (insts : List Instruction) (k : ℕ) (stage : Stage) : Type 0 where
  pub is : stage ≡ stage_of insts k
