-- The broken rules of the sixth group: calls, interfaces, bindings and entry points.
use Rattle.std.specs.Prelude.{◌≡◌, ℕ, ◌+◌, Bool, true, false, List, [], ◌∷◌, ◌++◌, slice_get, Some}
use Rattle.spv_base.specs.declared.fault.Refusal.{Refusal}
use Rattle.spv_module.specs.First.{here, unless}
use Rattle.spv_module.specs.Instruction.{Instruction}
use Rattle.spv_module.specs.Layout.{RisesTo}
use Rattle.spv_entries.specs.Broken.{entry_rules}
use Rattle.spv_calls.specs.Calls.{CallsFit}
use Rattle.spv_calls.specs.Interfaces.{InterfaceFits}

-- a test's answer decides a statement
pub record Decides (answer : Bool) (Holds : Type 0) : Type 0 where
  pub yes : answer ≡ true → Holds
  pub no : answer ≡ false → ¬ Holds

-- what is told of the instruction at each place: whether its calls fit, and its interface
pub record Tests : Type 0 where
  pub calls : (k : ℕ) → Bool
  pub interface : (k : ℕ) → Bool

-- it is told as it is
pub record AreTests (insts : List Instruction) (tests : Tests) : Type 0 where
  pub calls : (k : ℕ) (i : Instruction) → slice_get insts k ≡ Some i → Decides (tests.calls k) (CallsFit insts k i)
  pub interface : (k : ℕ) (i : Instruction) → slice_get insts k ≡ Some i → Decides (tests.interface k) (InterfaceFits insts i)

-- the rules that the k-th instruction breaks: 601 CallCycle, 602 Interface, 603 Binding, 604 EntryName, 605 LocalSize, 606 EntryFunction
abbrev pub rules_by : (calls interface : Bool) → List Instruction → (k : ℕ) → Instruction → List ℕ
rules_by calls interface insts k i = unless calls 601 ++ (unless interface 602 ++ entry_rules insts k i)

abbrev pub rules_at : Tests → List Instruction → (k : ℕ) → Instruction → List ℕ
rules_at tests insts k i = rules_by (tests.calls k) (tests.interface k) insts k i

unfoldable pub group_6_from : Tests → (insts : List Instruction) → (k : ℕ) → List Instruction → List Refusal
group_6_from tests insts k [] = []
group_6_from tests insts k (i ∷ is) = here i.offset (rules_at tests insts k i) ++ group_6_from tests insts (k + 1) is

abbrev pub group_6 : Tests → List Instruction → List Refusal
group_6 tests insts = group_6_from tests insts 0 insts

-- the places of the instructions rise from 5 on
abbrev pub Rises : List Instruction → Type 0
Rises insts = (end : ℕ) × RisesTo end 5 insts
