-- What a function of a module spells is fine, where its instructions use what is available: laws, as statements.
use Rattle.std.specs.Prelude.{◌≡◌, ℕ, ◌+◌, ◌<◌, ◌==◌, ◌||◌, Bool, true, false, cond, List, [], ◌∷◌, count_by, slice_get, Some, None}
use Rattle.std.specs.List.{AllByRecursion}
use Rattle.spv_opcodes.specs.declared.op.TheConstants as op
use Rattle.spv_module.specs.Code.{is_function, is_line}
use Rattle.spv_module.specs.First.{first}
use Rattle.spv_module.specs.Instruction.{Instruction, opcode}
use Rattle.spv_module.specs.Layout.{group_2}
use Rattle.spv_ids.specs.Ids.{used_ids}
use Rattle.spv_blocks.specs.Cutting.{function_insts, word}
use Rattle.spv_bodies.specs.Bodies.{Function}
use Rattle.spv_normal.specs.Lines.{without_marks}
use Rattle.spv_spelling.specs.Spelling.{SpellsFunction}
use Rattle.spv_spelling.specs.Whole.{AreInstructions, IsAdmitted}
use Rattle.spv_availability.specs.Availability.{AreAvailable}
use Rattle.spv_availability.specs.Places.{function_of}
use Rattle.spv_fine.specs.Fine.{Fine, IsFine}
use Rattle.spv_fine.specs.Laws.{IsKnown}
use Rattle.spv_fine_trees.specs.There.{IsPromised, UsesWhatIsThere}

-- what the lines of a function spell is fine, where they use what is there by the ways to their blocks
abbrev pub LinesAreFine : Type 0
LinesAreFine =
    (insts : List Instruction) (stays : ℕ → ℕ) (f : Function) (free : ℕ → Bool) → IsAdmitted insts → SpellsFunction insts stays f
    → UsesWhatIsThere insts (λ id. free id ≡ true)
    → Fine (IsPromised insts) (λ id. free id ≡ true) f.label f.body

-- ---- in a module

-- the k-th function, counted from 0, without line marks
abbrev pub lines_of : List Instruction → (k : ℕ) → List Instruction
lines_of insts k = without_marks (function_insts k insts)

-- the types that OpFunction and OpFunctionParameter name, and the type of an OpPhi, which the rule on availability does not ask for
abbrev pub types_in : Instruction → List ℕ
types_in i = cond (opcode i == op.PHI) (word i 1 ∷ []) (cond (is_function i || opcode i == op.FUNCTION_PARAMETER) (used_ids i) [])

-- in a function they are defined outside functions
abbrev pub KnowsTypes : List Instruction → (k : ℕ) → Type 0
KnowsTypes insts k =
    (n : ℕ) (i : Instruction) → slice_get insts n ≡ Some i → function_of insts n ≡ k + 1 → AllByRecursion (IsKnown insts) (types_in i)

-- 503 is broken nowhere in functions
abbrev pub UsesAreAvailable : List Instruction → Type 0
UsesAreAvailable insts = (n : ℕ) (i : Instruction) → slice_get insts n ≡ Some i → 0 < function_of insts n → is_line i ≡ false → AreAvailable insts n i

-- What a function spells is fine, under the promise that every way to a label has passed the definition of an id.
abbrev pub ReadIsFine : Type 0
ReadIsFine =
    (insts : List Instruction) (end k : ℕ) (stays : ℕ → ℕ) (f : Function) → AreInstructions insts → first (group_2 end insts) ≡ None
    → k < count_by is_function insts → IsAdmitted (lines_of insts k) → SpellsFunction (lines_of insts k) stays f → KnowsTypes insts k → UsesAreAvailable insts
    → IsFine (IsKnown insts) (IsPromised (lines_of insts k)) f
