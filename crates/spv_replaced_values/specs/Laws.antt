-- Instructions in which other values stand where values were used break no rule that they did not break: laws, as statements.
use Rattle.std.specs.Prelude.{◌≡◌, ℕ, true, List}
use Rattle.spv_module.specs.Instruction.{Instruction}
use Rattle.spv_values.specs.Values.{is_bools, is_ints, is_value_of, value_type}
use Rattle.spv_declarations.specs.Laws.{IsUnbroken}
use Rattle.spv_usage.specs.declared.stages.Stage.{Stage}
use Rattle.spv_signatures.specs.Contexts.{return_fits}
use Rattle.spv_typed_trees.specs.Typed.{StepFits, as_instruction}
use Rattle.spv_replaced_values.specs.Replaced.{ReplacesValues, stands_in}

-- an instruction in a block fits, at the stage where the one fits whose values are replaced
abbrev pub FitsWhereReplaced : Type 0
FitsWhereReplaced =
    (insts : List Instruction) (stage : Stage) (words others : List ℕ) → IsUnbroken insts → ReplacesValues insts words others → StepFits insts stage words
    → StepFits insts stage others

-- what is asked of a value outside such instructions is asked of its type: where it is carried, where it is a condition and where it selects
pub record FitsAlike (insts : List Instruction) (id other : ℕ) : Type 0 where
  pub type : value_type insts other ≡ value_type insts id
  pub carried : (t : ℕ) → is_value_of insts t other ≡ is_value_of insts t id
  pub condition : is_bools insts 1 other ≡ is_bools insts 1 id
  pub selector : is_ints insts 1 other ≡ is_ints insts 1 id

abbrev pub UsesFitWhereReplaced : Type 0
UsesFitWhereReplaced = (insts : List Instruction) (id other : ℕ) → stands_in insts id other ≡ true → FitsAlike insts id other

-- and where it is returned
abbrev pub ReturnsWhereReplaced : Type 0
ReturnsWhereReplaced =
    (insts : List Instruction) (t : ℕ) (words others : List ℕ) → ReplacesValues insts words others
    → return_fits insts t (as_instruction others) ≡ return_fits insts t (as_instruction words)
