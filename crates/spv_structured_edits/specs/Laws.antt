-- What editing keeps of structured control flow, as statements.
use Rattle.std.specs.Prelude.{◌≡◌, ◌↔◌, ℕ, Bool, List, map}
use Rattle.spv_module.specs.Instruction.{Instruction}
use Rattle.spv_blocks.specs.Blocks.{Code, End}
use Rattle.spv_blocks.specs.Cutting.{blocks_of}
use Rattle.spv_walk.specs.Contexts.{Context}
use Rattle.spv_walk.specs.Walk.{Walk}
use Rattle.spv_walk.specs.Rules.{Broken}
use Rattle.spv_bodies.specs.Bodies.{Function}
use Rattle.spv_bodies.specs.Listing.{listed}
use Rattle.spv_tree.specs.Tree.{words_of}
use Rattle.spv_tree.specs.Sound.{IsSound}
use Rattle.spv_structured.specs.Structured.{IsStructured}
use Rattle.spv_structured.specs.Laws.{Opens}
use Rattle.spv_editing.specs.Editing.{Edit, KeepsSteps, edited_function}

-- a sound function that is structured stays so, whatever its instructions become
abbrev pub StructuredStays : Type 0
StructuredStays = (e : Edit) (is_pointer : ℕ → Bool) (f : Function) → IsSound f → IsStructured is_pointer f → IsStructured is_pointer (edited_function e f)

-- It is to be sound: else an instruction may stand where an arm begins, which then has no target, and without the instruction it has the target of what stands
-- behind.
abbrev pub UnsoundMayNot : Type 0
UnsoundMayNot = ((e : Edit) (is_pointer : ℕ → Bool) (f : Function) → IsStructured is_pointer f → IsStructured is_pointer (edited_function e f)) → ⊥

-- the lines before the first block stay
abbrev pub OpensStays : Type 0
OpensStays = (e : Edit) (f : Function) → Opens f → Opens (edited_function e f)

-- so in the listing of the edited function, wherever it lies, no rule on structured control flow is broken, if instructions become such instructions
abbrev pub UnbrokenStays : Type 0
UnbrokenStays =
    (e : Edit) (is_pointer : ℕ → Bool) (f : Function) (insts : List Instruction) → KeepsSteps e → IsSound f → Opens f → IsStructured is_pointer f
    → words_of insts ≡ listed (edited_function e f) → (rule at : ℕ) → Broken is_pointer (blocks_of insts) rule at → ⊥

-- ---- blocks

-- the label and the terminator of each block
abbrev pub outline : Code → List (ℕ × End)
outline f = map (λ b. (b.label, b.end)) f

-- the blocks of the edited function have the labels and the terminators that they had, in their order, wherever the two functions lie
abbrev pub OutlineStays : Type 0
OutlineStays =
    (e : Edit) (f : Function) (insts again : List Instruction) → KeepsSteps e → IsSound f → Opens f → words_of insts ≡ listed f
    → words_of again ≡ listed (edited_function e f) → outline (blocks_of again) ≡ outline (blocks_of insts)

-- and of a structured function each is walked in the context in which it was
abbrev pub WalkStays : Type 0
WalkStays =
    (e : Edit) (is_pointer : ℕ → Bool) (f : Function) (insts again : List Instruction) → KeepsSteps e → IsSound f → Opens f → IsStructured is_pointer f
    → words_of insts ≡ listed f → words_of again ≡ listed (edited_function e f)
    → (l : ℕ) (c : Context) → Walk (blocks_of again) l c ↔ Walk (blocks_of insts) l c
