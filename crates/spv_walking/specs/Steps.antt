-- What the steps of a walk that is under way do to it.
use Rattle.std.specs.Prelude.{◌≡◌, ◌⊎◌, ℕ, ◌+◌, ◌≤◌, Bool, true, false, not, cond, List, [], ◌∷◌, ◌++◌, length, count_by, is_some, is_none, Option, Some}
use Rattle.spv_blocks.specs.Tables.{found}
use Rattle.spv_blocks.specs.Blocks.{Code, Block, block, has, is_first, is_label, stops}
use Rattle.spv_blocks.specs.Places.{KeepsPlace}
use Rattle.spv_walk.specs.Contexts.{Context}
use Rattle.spv_walk.specs.Walked.{HasSome, InPlaces}
use Rattle.spv_walking.specs.declared.going.Going.{Going}
use Rattle.spv_walking.specs.declared.walked.Walked.{Walked}
use Rattle.spv_walking.specs.Onward.{GoesOn}
use Rattle.spv_walking.specs.Table.{context_of}

-- the walk has gone on from a block: it does not wait
abbrev pub is_done : Going → (label : ℕ) → Bool
is_done going label = not (has going.waiting.items label)

-- how much is left to be done: the blocks that the walk has not come to, and those that wait
abbrev pub work : Code → Going → ℕ
work f going = count_by (λ b. is_none (found going.walked.places b.label)) f + length going.waiting.items

-- the walk comes to one block, unless it has
pub record Visits (old new : Going) (label place : ℕ) : Type 0 where
  pub rows : new.walked.rows ≡ old.walked.rows
  pub places : KeepsPlace old.walked.places new.walked.places place label
  pub waiting : new.waiting.items ≡ cond (is_some (found old.walked.places label)) old.waiting.items (old.waiting.items ++ label ∷ [])

-- the walk comes to some blocks, each in its context unless it has come there in another; they wait, and less is left to be done
pub record Comes (f : Code) (old new : Going) (New : ℕ → Context → Type 0) : Type 0 where
  pub added : List Context
  pub rows : new.walked.rows ≡ old.walked.rows ++ added
  pub grows : (p : ℕ) (c : Context) → context_of old.walked p ≡ Some c → context_of new.walked p ≡ Some c
  pub more : (p : ℕ) (c : Context) → context_of new.walked p ≡ Some c → (context_of old.walked p ≡ Some c) ⊎ New p c
  pub waits : (p : ℕ) (c : Context) → context_of new.walked p ≡ Some c → is_done new p ≡ true → (context_of old.walked p ≡ Some c) × (is_done old p ≡ true)
  pub placed : (p : ℕ) (c : Context) → New p c → HasSome (InPlaces (context_of new.walked)) p
  pub less : ((p : ℕ) (c : Context) → New p c → is_label f p ≡ true) → work f new ≤ work f old

-- t is walked directly behind the block b, in the context d, from where the walk has come to b
pub record OnwardFrom (f : Code) (enterer : ℕ → Option ℕ) (walked : Walked) (b t : ℕ) (d : Context) : Type 0 where
  pub context : Context
  pub stands : context_of walked b ≡ Some context
  pub found : Block
  pub here : block f b ≡ Some found
  pub runs : stops f b ≡ false
  pub goes : GoesOn f enterer b found context t d

-- the walk has come to the first block alone
pub record Begins (f : Code) (going : Going) : Type 0 where
  pub first : (l : ℕ) → is_first f l ≡ true → context_of going.walked l ≡ Some []
  pub only : (l : ℕ) (c : Context) → context_of going.walked l ≡ Some c → (is_first f l ≡ true) × (c ≡ []) × (is_done going l ≡ false)
