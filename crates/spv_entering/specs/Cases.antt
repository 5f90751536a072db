-- Which blocks enter a label, once the branches that are not counted are taken away.
use Rattle.std.specs.Prelude.{◌≡◌, ◌≢◌, ◌⊎◌, ℕ, ◌==◌, ◌&&◌, ◌||◌, Bool, true, false, not, List, [], ◌∷◌, Option, Some, None}
use Rattle.graph.specs.Rows.{is_marked}
use Rattle.spv_blocks.specs.Blocks.{Code, has}
use Rattle.spv_blocks.specs.Places.{named, number_of, place}
use Rattle.spv_walk.specs.Walk.{Enters}
use Rattle.spv_walk.specs.Tables.{FallsAt, InsideSome, OtherCase}

-- x may begin another case than t
abbrev pub is_other : Code → (t x : ℕ) → Bool
is_other f t x = not (x == t) && named f x == 0

-- the marked blocks are reached from other cases of the switch s than t
pub record AreInside (f : Code) (s t : ℕ) (marks : List Bool) : Type 0 where
  pub sound : (p j : ℕ) → place f p ≡ Some j → is_marked marks j ≡ true → InsideSome f (OtherCase f s t) p
  pub whole : (p j : ℕ) → place f p ≡ Some j → InsideSome f (OtherCase f s t) p → is_marked marks j ≡ true

-- p is the header s, or is not marked
abbrev pub stays : Code → (s : ℕ) → (marks : List Bool) → (p : ℕ) → Bool
stays f s marks p = p == s || not (is_marked marks (number_of f p))

-- of the blocks that were left those stay that do not fall to t from another case of the switch s
pub record Leaves (f : Code) (s t : ℕ) (old new : List ℕ) : Type 0 where
  pub sound : (p : ℕ) → has new p ≡ true → (has old p ≡ true) × (FallsAt f s t p → ⊥)
  pub whole : (p : ℕ) → has old p ≡ true → (FallsAt f s t p → ⊥) → has new p ≡ true

-- b alone is in a list
pub record IsOnly (xs : List ℕ) (b : ℕ) : Type 0 where
  pub there : has xs b ≡ true
  pub alone : (q : ℕ) → has xs q ≡ true → q ≡ b

-- the one that is alone in a list, if there is one
abbrev pub FindsOnly : List ℕ → Option ℕ → Type 0
FindsOnly xs None = (b : ℕ) → IsOnly xs b → ⊥
FindsOnly xs (Some b) = IsOnly xs b

-- a list has another number than s
abbrev pub HasOther : List ℕ → (s : ℕ) → Type 0
HasOther xs s = (p : ℕ) × (has xs p ≡ true) × (p ≢ s)

abbrev pub AllAre : List ℕ → (s : ℕ) → Type 0
AllAre xs s = (p : ℕ) → has xs p ≡ true → p ≡ s

-- the block from which t may be entered, if there is one
abbrev pub FindsEnterer : Code → (t : ℕ) → Option ℕ → Type 0
FindsEnterer f t None = (b : ℕ) → Enters f b t → ⊥
FindsEnterer f t (Some b) = Enters f b t

-- to a table is added the block from which t may be entered
pub record AddsEnterer (f : Code) (old new : ℕ → Option ℕ) (t : ℕ) : Type 0 where
  pub sound : (b u : ℕ) → new u ≡ Some b → (old u ≡ Some b) ⊎ Enters f b u
  pub keeps : (b u : ℕ) → old u ≡ Some b → Enters f b u → new u ≡ Some b
  pub whole : (b : ℕ) → Enters f b t → new t ≡ Some b
