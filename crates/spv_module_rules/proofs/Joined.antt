-- The first broken rule of the whole module, from the first on calls and the first on exits.
use Rattle.std.proofs.Common.{◌≡◌, ◌⊎◌, inl, inr, ℕ, List, Option, Some, None, sym, ap, subst, ◌∙◌}
use Rattle.spv_base.specs.declared.fault.Refusal.{Refusal}
use Rattle.spv_module.specs.First.{first}
use Rattle.spv_module.specs.Instruction.{Instruction}
use Rattle.spv_walk.specs.Found.{Holds, earlier_of}
use Rattle.spv_walk.specs.Rules.{IsFirst}
use Rattle.spv_walk.proofs.Least.{first_both, first_of_list, first_same}
use Rattle.spv_calls.specs.Broken.{AreTests, Tests, group_6}
use Rattle.spv_calls.proofs.Deciding.{tests_of}
use Rattle.spv_exits.specs.Exits.{AreNestedTogether, crowded_in_all, functions_of}
use Rattle.spv_functions.specs.Functions.{is_pointer}
use Rattle.spv_module_rules.specs.Broken.{BrokenInWhole, OfModule, ManyExits}
use Rattle.spv_module_rules.specs.Kept.{AreUnbroken, IsFirstCrowded}
use Rattle.spv_module_rules.proofs.OneNumber.{each-unbroken, one-together}

-- one of some lists holds it
abbrev pub SomeHolds : {X : Type 0} → (Is : X → Type 0) (list : X → List Refusal) (rule at : ℕ) → Type 0
SomeHolds {X = X} Is list rule at = (x : X) × Is x × Holds (list x) rule at

module _ {X : Type 0} (Is : X → Type 0) (list : X → List Refusal) where
  list_first : (x : X) (o : Option Refusal) → o ≡ first (list x) → IsFirst (Holds (list x)) o
  list_first x o e = subst (IsFirst (Holds (list x))) (sym e) (first_of_list (list x))

  -- of lists with one first, of which there is one, the first of all is that
  pub first-of_some : (x : X) (o : Option Refusal) → Is x → ((y : X) → Is y → o ≡ first (list y)) → IsFirst (SomeHolds Is list) o
  first-of_some x None there each = λ rule at h. list_first h.0 None (each h.0 h.1) rule at h.2
  first-of_some x (Some r) there each = record {
    broken = (x, there, (list_first x (Some r) (each x there)).broken);
    least = λ rule at h. (list_first h.0 (Some r) (each h.0 h.1)).least rule at h.2;
  }

-- it is the first of 601 to 606
abbrev pub AreOnCalls : List Instruction → Option Refusal → Type 0
AreOnCalls insts calls = (tests : Tests) → AreTests insts tests → calls ≡ first (group_6 tests insts)

module _ (insts : List Instruction) where
  abbrev OnCalls : (rule at : ℕ) → Type 0
  OnCalls = SomeHolds (AreTests insts) (λ tests. group_6 tests insts)

  abbrev OnExits : (rule at : ℕ) → Type 0
  OnExits = SomeHolds (AreNestedTogether (functions_of insts)) (crowded_in_all (functions_of insts))

  broken_by : (rule at : ℕ) → OnCalls rule at ⊎ OnExits rule at → BrokenInWhole insts rule at
  broken_by rule at (inl h) = OfModule h.0 rule at h.1 h.2
  broken_by rule at (inr h) = ManyExits h.0 rule at h.1 h.2

  by_broken : (rule at : ℕ) → BrokenInWhole insts rule at → OnCalls rule at ⊎ OnExits rule at
  by_broken rule at (OfModule tests r a are h) = inl (tests, are, h)
  by_broken rule at (ManyExits nested r a are h) = inr (nested, are, h)

  on_calls : (calls : Option Refusal) → AreOnCalls insts calls → IsFirst OnCalls calls
  on_calls calls told = let t = tests_of insts in first-of_some (AreTests insts) (λ tests. group_6 tests insts) t.0 calls t.1 told

  on_exits : (exits : Option Refusal) → AreUnbroken insts → IsFirstCrowded (functions_of insts) exits → IsFirst OnExits exits
  on_exits exits unbroken told =
      first-of_some (AreNestedTogether (functions_of insts)) (crowded_in_all (functions_of insts)) told.nested exits told.together
      (λ n are. told.same
      ∙ ap (λ m. first (crowded_in_all (functions_of insts) m))
      (one-together (is_pointer insts) (functions_of insts) told.nested n (each-unbroken insts unbroken) told.together are))

  pub first-in_whole : (calls exits both : Option Refusal) → AreOnCalls insts calls
      → IsFirstCrowded (functions_of insts) exits → both ≡ earlier_of calls exits → AreUnbroken insts → IsFirst (BrokenInWhole insts) both
  first-in_whole calls exits both one other is unbroken =
      subst (IsFirst (BrokenInWhole insts)) (sym is)
      (first_same (λ rule at. OnCalls rule at ⊎ OnExits rule at) (BrokenInWhole insts) (earlier_of calls exits) broken_by by_broken
      (first_both OnCalls OnExits calls exits (on_calls calls one) (on_exits exits unbroken other)))
