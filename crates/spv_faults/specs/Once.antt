-- Numbers that stand twice, and sets of numbers.
use Rattle.std.specs.Prelude.{◌≡◌, ℕ, Bool, true, false, ◌||◌, List, [], ◌∷◌, Option, Some, None}
use Rattle.std.specs.BTreeSet.{BTreeSet, contains}
use Rattle.std.specs.Ordering.{nat_cmp}
use Rattle.spv_blocks.specs.Blocks.{has}

abbrev pub firsts : List (ℕ × ℕ) → List ℕ
firsts [] = []
firsts (p ∷ ps) = p.0 ∷ firsts ps

-- one number stands twice
abbrev pub repeats : List ℕ → Bool
repeats [] = false
repeats (x ∷ xs) = has xs x || repeats xs

-- the set of these numbers
pub record IsSetOf (xs : List ℕ) (set : BTreeSet ℕ) : Type 0 where
  pub at : (x : ℕ) → contains nat_cmp set x ≡ has xs x

-- the same where each stands once
pub record IsOnce (xs : List ℕ) (set : BTreeSet ℕ) : Type 0 where
  pub once : repeats xs ≡ false
  pub all : IsSetOf xs set

abbrev pub IsSetOnce : List ℕ → Option (BTreeSet ℕ) → Type 0
IsSetOnce xs None = repeats xs ≡ true
IsSetOnce xs (Some set) = IsOnce xs set
