-- Typed functions, edited, are typed: laws, as statements.
use Rattle.std.specs.Prelude.{◌≡◌, ℕ, Bool, false, List, ◌++◌, All}
use Rattle.spv_module.specs.Instruction.{Instruction}
use Rattle.spv_declarations.specs.Laws.{IsUnbroken}
use Rattle.spv_usage.specs.declared.stages.Stage.{Stage}
use Rattle.spv_usage.specs.declared.stages.Stage.TheVariants.{Opening}
use Rattle.spv_bodies.specs.Bodies.{Function}
use Rattle.spv_tree.specs.Sound.{IsSound}
use Rattle.spv_tree.specs.Tree.{words_of}
use Rattle.spv_editing.specs.Editing.{Edit, edited_function}
use Rattle.spv_editing.specs.Showing.{steps_of, uses_of}
use Rattle.spv_alike.specs.Alike.{AreAlike}
use Rattle.spv_structured.specs.Laws.{Opens}
use Rattle.spv_typed_trees.specs.Typed.{IsTyped, StepFits}
use Rattle.spv_typed_edits.specs.Edits.{DeclareNoTypes, HasItsType, KeepsFitting, KeepsOpcodes, KeepsUses, SameRound, SameTypes, dropping}

-- a function that is typed in a module and edited is typed in another one, where the lines that stand for its instructions fit and the ids that stand for
-- those that it uses have their types
abbrev pub TypedStays : Type 0
TypedStays =
    (before after : List Instruction) (e : Edit) (f : Function) → IsSound f → Opens f → SameRound before after f → KeepsFitting before after e f
    → KeepsUses before after e f → IsTyped before f → IsTyped after (edited_function e f)

-- where instructions only go: each that stays fits in the other module, and each id that is used has its type there
abbrev pub TypedWhereDropped : Type 0
TypedWhereDropped =
    (before after : List Instruction) (goes : List ℕ → Bool) (f : Function) → IsSound f → Opens f → SameRound before after f
    → All (λ words. goes words ≡ false → StepFits before Opening words → StepFits after Opening words) (steps_of f.body)
    → All (λ id. HasItsType before after id id) (uses_of f.body) → IsTyped before f → IsTyped after (edited_function (dropping goes) f)

-- where each line that stands for an instruction has its opcode: such lines fit where the instruction does
abbrev pub TypedWhereReplaced : Type 0
TypedWhereReplaced =
    (before after : List Instruction) (e : Edit) (f : Function) → IsSound f → Opens f → SameRound before after f → KeepsOpcodes e
    → All (λ words. StepFits before Opening words → All (λ line. StepFits after Opening line) (e.steps words)) (steps_of f.body)
    → KeepsUses before after e f → IsTyped before f → IsTyped after (edited_function e f)

-- where ids stand for the same in both modules, a line fits in the other one at the stage where it fits in this one
abbrev pub StepsWhereAlike : Type 0
StepsWhereAlike =
    (before after : List Instruction) → IsUnbroken before → AreAlike before after → (stage : Stage) (words : List ℕ) → StepFits before stage words
    → StepFits after stage words

-- and a function that is typed in this one is typed in the other one as it is
abbrev pub TypedWhereAlike : Type 0
TypedWhereAlike =
    (before after : List Instruction) (f : Function) → IsUnbroken before → AreAlike before after → Opens f → IsTyped before f → IsTyped after f

-- modules that begin with instructions of the same words have the same types, where what stands behind declares none
abbrev pub TypesStandInFront : Type 0
TypesStandInFront =
    (front again before after : List Instruction) → words_of again ≡ words_of front → DeclareNoTypes before → DeclareNoTypes after
    → SameTypes (front ++ before) (again ++ after)
