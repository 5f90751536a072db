-- Accesses kept through a list of changes: what is left out is told by the answers before it.
use Rattle.std.specs.Prelude.{◌≡◌, ℕ, suc, Bool, true, ◌⊎◌, List, [], ◌∷◌, ◌++◌, length}
use Rattle.interleaving.specs.Machine.{Answer}
use Rattle.interleaving.specs.Trace.{Asks, Runs, Traces}
use Rattle.interleaving.specs.Keeps.{KeptBut}

-- a mark for the access behind each number of these answers, from none to all
abbrev pub marks_of : (List Answer → Bool) → List Answer → List Bool
marks_of lost [] = lost [] ∷ []
marks_of lost (x ∷ xs) = lost [] ∷ marks_of (λ ys. lost (x ∷ ys)) xs

-- there is a last element, and P holds of it
abbrev pub LastIs : {A : Type 0} → (A → Type 0) → List A → Type 0
LastIs P [] = ⊥
LastIs P (a ∷ []) = P a
LastIs P (a ∷ b ∷ l) = LastIs P (b ∷ l)

-- P holds of each marked element
abbrev pub AllMarked : {A : Type 0} → (A → Type 0) → List Bool → List A → Type 0
AllMarked P [] xs = Unit {0}
AllMarked P (b ∷ bs) [] = Unit {0}
AllMarked P (b ∷ bs) (x ∷ xs) = (b ≡ true → P x) × AllMarked P bs xs

-- an access is wanted, and it is of this kind
pub record WantsOf {A : Type 0} (Kind : A → Type 0) (this : Traces A) (n : ℕ) (answers : List Answer) : Type 0 where
  pub asks : (this n answers).end ≡ Asks
  pub kind : LastIs Kind (this n answers).accesses

-- the other invocation makes the accesses of this one, but for some of a kind, which the answers before them tell; of a kind that nothing is of, none
pub record Loses {A : Type 0} (Kind : A → Type 0) (Same : A → A → Type 0) (this other : Traces A) : Type 0 where
  -- whether the access that is wanted after these answers, within n instructions, is left out
  pub lost : ℕ → List Answer → Bool
  -- only an access that is wanted is left out, and only one of the kind
  pub wanted : (n : ℕ) (answers : List Answer) → lost n answers ≡ true → WantsOf Kind this n answers
  -- the number of instructions does not matter
  pub fixed : (n m : ℕ) (answers : List Answer) → (this n answers).end ≡ Asks → (this m answers).end ≡ Asks → lost n answers ≡ lost m answers
  -- the others are kept
  pub kept : (n : ℕ) (answers : List Answer) → KeptBut Same (marks_of (lost n) answers) (this n answers) answers other

-- what holds of the traces of one invocation
pub record AreTraces {A : Type 0} (this : Traces A) : Type 0 where
  -- more instructions do not change a trace that is over
  pub same : (n m : ℕ) (answers : List Answer) → ((this n answers).end ≡ Runs → ⊥) → ((this m answers).end ≡ Runs → ⊥) → this n answers ≡ this m answers
  -- more answers do not change it where none is asked
  pub grows : (n : ℕ) (answers more : List Answer) → ((this n answers).end ≡ Asks) ⊎ (this n (answers ++ more) ≡ this n answers)
  -- where one is asked, each answer was used, and the access that asks is the last
  pub full : (n : ℕ) (answers : List Answer) → (this n answers).end ≡ Asks → length (this n answers).accesses ≡ suc (length answers)
