-- Where an instruction stands, as far as the rules on the instructions of functions ask.
use Rattle.std.specs.Prelude.{ℕ, List}
use Rattle.spv_module.specs.Instruction.{Instruction}
use Rattle.spv_signatures.specs.Contexts.{IsContext}
use Rattle.spv_usage.specs.Stages.{IsStage}
use Rattle.spv_body_rules.specs.declared.standing.Standing.{Standing}

-- where the k-th instruction stands, counted from 0
pub record IsStanding (insts : List Instruction) (k : ℕ) (standing : Standing) : Type 0 where
  pub stage : IsStage insts k standing.stage
  pub context : IsContext insts k standing.context
