-- What editing keeps of the rule on many exits.
use Rattle.std.specs.Prelude.{◌≡◌, ◌↔◌, ℕ, Bool, List, [], map}
use Rattle.spv_module.specs.Instruction.{Instruction}
use Rattle.spv_blocks.specs.Blocks.{Code}
use Rattle.spv_blocks.specs.Cutting.{blocks_of}
use Rattle.spv_bodies.specs.Bodies.{Function}
use Rattle.spv_bodies.specs.Listing.{listed}
use Rattle.spv_tree.specs.Tree.{words_of}
use Rattle.spv_tree.specs.Sound.{IsSound}
use Rattle.spv_structured.specs.Structured.{IsStructured}
use Rattle.spv_structured.specs.Laws.{Opens}
use Rattle.spv_exits.specs.Exits.{AreNestedReturns, branching, crowded}
use Rattle.spv_editing.specs.Editing.{Edit, KeepsSteps, edited_function}

-- functions with the same labels, to each of which as many blocks branch, and with as many nested returns; so the one is crowded nowhere where the other is not
pub record HaveSameExits (old new : Code) : Type 0 where
  pub labels : map (λ b. b.label) new ≡ map (λ b. b.label) old
  pub branches : (l : ℕ) → branching new l ≡ branching old l
  pub nested : (n : ℕ) → AreNestedReturns new n ↔ AreNestedReturns old n
  pub uncrowded : (nested : ℕ) → (crowded new nested ≡ []) ↔ (crowded old nested ≡ [])

-- a structured function and what an edit makes of it, wherever the two lie
abbrev pub ExitsStay : Type 0
ExitsStay =
    (e : Edit) (is_pointer : ℕ → Bool) (f : Function) (insts again : List Instruction) → KeepsSteps e → IsSound f → Opens f → IsStructured is_pointer f
    → words_of insts ≡ listed f → words_of again ≡ listed (edited_function e f) → HaveSameExits (blocks_of insts) (blocks_of again)
