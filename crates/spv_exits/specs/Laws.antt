-- What follows from the definitions of nested returns.
use Rattle.std.specs.Prelude.{◌≡◌, ℕ, ◌+◌, Bool, false, List, [], ◌∷◌, ◌++◌}
use Rattle.spv_blocks.specs.Blocks.{Code, stops}
use Rattle.spv_walk.specs.Rules.{Broken}
use Rattle.spv_walk.specs.Walk.{Walk}
use Rattle.spv_walk.specs.Contexts.{Context}
use Rattle.spv_exits.specs.Exits.{AreNestedReturns, AreNestedTogether, crowded, crowded_in_all}

-- a function that breaks no rule on structured control flow has one number of nested returns
abbrev pub OneNumber : Type 0
OneNumber = (is_pointer : ℕ → Bool) (f : Code) (m n : ℕ) → ((rule at : ℕ) → Broken is_pointer f rule at → ⊥) → AreNestedReturns f m
    → AreNestedReturns f n → m ≡ n

-- and so has any function in which the walk comes to no header that is its own continue target
abbrev pub OneNumberWalked : Type 0
OneNumberWalked = (f : Code) (m n : ℕ) → ((l : ℕ) (c : Context) → Walk f l c → stops f l ≡ false) → AreNestedReturns f m → AreNestedReturns f n → m ≡ n

-- functions are taken one by one: the numbers add up
abbrev pub NestedMore : Type 0
NestedMore = (fs : List Code) (f : Code) (m n : ℕ) → AreNestedTogether fs m → AreNestedReturns f n → AreNestedTogether (fs ++ f ∷ []) (m + n)

-- and so do the blocks that break the rule
abbrev pub CrowdedMore : Type 0
CrowdedMore = (fs : List Code) (f : Code) (nested : ℕ) → crowded_in_all (fs ++ f ∷ []) nested ≡ crowded_in_all fs nested ++ crowded f nested
