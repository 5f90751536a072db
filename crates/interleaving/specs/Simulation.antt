-- A relation between states under which accesses are kept.
use Rattle.std.specs.Prelude.{◌≡◌, ℕ, zero, suc, Bool, true, false, List}
use Rattle.interleaving.specs.Machine.{Answer, Move, HasReturned, Goes, Stands}
use Rattle.interleaving.specs.Trace.{Runs, Traces}

-- n private steps lead from the state u to the state v
abbrev pub Comes : {U A : Type 0} → (U → Move U A) → ℕ → U → U → Type 0
Comes look zero u v = u ≡ v
Comes {U} look (suc n) u v = (w : U) × (look u ≡ Goes w) × Comes look n w v

-- private steps lead from the state u to one of which P holds
pub record ComesTo {U A : Type 0} (look : U → Move U A) (P : U → Type 0) (u : U) : Type 0 where
  pub count : ℕ
  pub state : U
  pub by : Comes look count u state
  pub there : P state

-- the state u stands before an access like a, and for each answer both go on in R
pub record Meets {S U A : Type 0} (look : U → Move U A) (Same : A → A → Type 0) (R : S → U → Type 0) (a : A) (k : Answer → S) (u : U) : Type 0 where
  pub access : A
  pub next : Answer → U
  pub stands : look u ≡ Stands access next
  pub same : Same a access
  pub goes_on : (x : Answer) → R (k x) (next x)

-- what R asks of a state s and a state u beside it, case by case
pub record Simulation {S U A : Type 0} (look : S → Move S A) (look2 : U → Move U A) (left : A → Bool) (Same : A → A → Type 0) (R : S → U → Type 0) : Type 0 where
  -- a private step
  pub goes : (s v : S) (u : U) → R s u → look s ≡ Goes v → ComesTo look2 (R v) u
  -- an access that is left out
  pub left_out : (s : S) (u : U) (a : A) (k : Answer → S) → R s u → look s ≡ Stands a k → left a ≡ true → (x : Answer) → ComesTo look2 (R (k x)) u
  -- an access that is kept
  pub kept : (s : S) (u : U) (a : A) (k : Answer → S) → R s u → look s ≡ Stands a k → left a ≡ false → ComesTo look2 (Meets look2 Same R a k) u
  -- a return
  pub returned : (s : S) (u : U) → R s u → look s ≡ HasReturned → ComesTo look2 (λ v. look2 v ≡ HasReturned) u

-- each trace of the other that is at an end is one of this
abbrev pub Shows : {A : Type 0} → Traces A → Traces A → Type 0
Shows this other = (n : ℕ) (answers : List Answer) → ((other n answers).end ≡ Runs → ⊥) → (m : ℕ) × (this m answers ≡ other n answers)
