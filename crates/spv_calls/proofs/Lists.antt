-- Elements and tests of lists of numbers.
use Rattle.std.proofs.Common.{◌≡◌, ℕ, Bool, true, false, ◌&&◌, ◌||◌, ◌==◌, nat_eq, List, [], ◌∷◌, ◌++◌, ◌⊎◌, inl, inr, refl, sym, ap, ◌∙◌, arith}
use Rattle.std.specs.List.{Contains, list_all, list_any}
use Rattle.std.proofs.lemmas.Bool.{false≢true}
use Rattle.std.proofs.lemmas.Bool.Decides.{nat_tests}
use Rattle.graph.proofs.Elements.{contains_cases, contains_none, equal, same_test}
use Rattle.spv_calls.specs.Interfaces.{has}

pub and_first : (a b : Bool) → (a && b) ≡ true → a ≡ true
and_first true b e = refl
and_first false b e = absurd (false≢true e)

pub and_second : (a b : Bool) → (a && b) ≡ true → b ≡ true
and_second true b e = e
and_second false b e = absurd (false≢true e)

pub and_both : (a b : Bool) → a ≡ true → b ≡ true → (a && b) ≡ true
and_both a b e f = ap (λ (x : Bool). x && b) e ∙ f

-- where all pass, each that is contained does; induction on the list
pub all_contains : (p : ℕ → Bool) (xs : List ℕ) (x : ℕ) → list_all p xs ≡ true → Contains xs x → p x ≡ true
all_contains p [] x e c = absurd (contains_none x c)
all_contains p (y ∷ ys) x e c = elim (contains_cases ys y x c) [
  | inl is ↦ ap p is ∙ and_first (p y) (list_all p ys) e
  | inr later ↦ all_contains p ys x (and_second (p y) (list_all p ys) e) later
]

or_cases : (a b : Bool) → (a || b) ≡ true → (a ≡ true) ⊎ (b ≡ true)
or_cases true b e = inl refl
or_cases false b e = inr e

pub or_first : (a b : Bool) → a ≡ true → (a || b) ≡ true
or_first a b e = ap (λ (x : Bool). x || b) e

pub or_second : (a b : Bool) → b ≡ true → (a || b) ≡ true
or_second true b e = refl
or_second false b e = e

-- where all pass, each that the list has does; induction on the list
pub all-has : (p : ℕ → Bool) (xs : List ℕ) (x : ℕ) → list_all p xs ≡ true → has xs x ≡ true → p x ≡ true
all-has p [] x e h = absurd (false≢true h)
all-has p (y ∷ ys) x e h = elim (or_cases (nat_eq x y) (has ys x) h) [
  | inl same ↦ ap p (equal x y same) ∙ and_first (p y) (list_all p ys) e
  | inr later ↦ all-has p ys x (and_second (p y) (list_all p ys) e) later
]

-- and the other way; induction on the list
pub has-all : (p : ℕ → Bool) (xs : List ℕ) → ((x : ℕ) → has xs x ≡ true → p x ≡ true) → list_all p xs ≡ true
has-all p [] each = refl
has-all p (y ∷ ys) each =
    and_both (p y) (list_all p ys) (each y (or_first (nat_eq y y) (has ys y) (same_test y y refl))) (has-all p ys (λ x h. each x (or_second (nat_eq x y) (has ys x) h)))
