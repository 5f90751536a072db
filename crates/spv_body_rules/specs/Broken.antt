-- The broken rules on the instructions of functions, but for availability.
use Rattle.std.specs.Prelude.{ℕ, ◌+◌, Bool, cond, ◌&&◌, ◌||◌, not, List, [], ◌∷◌, ◌++◌, take}
use Rattle.std.specs.List.{list_any}
use Rattle.spv_base.specs.declared.fault.Refusal.{Refusal}
use Rattle.spv_module.specs.Code.{is_function, is_line}
use Rattle.spv_module.specs.First.{here}
use Rattle.spv_module.specs.Instruction.{Instruction}
use Rattle.spv_arithmetic.specs.Broken.{arithmetic_rules}
use Rattle.spv_composites.specs.Broken.{composite_rules}
use Rattle.spv_signatures.specs.Broken.{signature_rules}
use Rattle.spv_usage.specs.Broken.{usage_rules}

-- the k-th instruction, counted from 0, is an OpFunction or stands behind one, and is no line mark
abbrev pub is_of_functions : List Instruction → (k : ℕ) → Instruction → Bool
is_of_functions insts k i = (list_any is_function (take k insts) || is_function i) && not (is_line i)

-- the rules that it breaks then: 501 OperandType, 502 ResultType, 504 StorageUse, 505 ScopeOrSemantics, 506 CallShape, 507 ReturnType
abbrev pub rules_in_functions : List Instruction → (k : ℕ) → Instruction → List ℕ
rules_in_functions insts k i = arithmetic_rules insts i ++ (composite_rules insts i ++ (usage_rules insts k i ++ signature_rules insts k i))

-- the rules that the k-th instruction breaks; everything before the first function passes, and so do line marks
unfoldable pub body_rules : List Instruction → (k : ℕ) → Instruction → List ℕ
body_rules insts k i = cond (is_of_functions insts k i) (rules_in_functions insts k i) []

-- the rules that some instructions break, each at its place, by the rules of each; the first of them is the k-th
unfoldable pub refusals_from : (rules : (k : ℕ) → Instruction → List ℕ) → (k : ℕ) → List Instruction → List Refusal
refusals_from rules k [] = []
refusals_from rules k (i ∷ is) = here i.offset (rules k i) ++ refusals_from rules (k + 1) is

abbrev pub rules_on_bodies : List Instruction → List Refusal
rules_on_bodies insts = refusals_from (body_rules insts) 0 insts
