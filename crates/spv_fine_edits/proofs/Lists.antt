-- Elements of lists, and what holds of each.
use Rattle.std.proofs.Common.{◌≡◌, ◌⊎◌, inl, inr, ℕ, Bool, true, false, ◌==◌, ◌||◌, List, [], ◌∷◌, ◌++◌, refl, subst}
use Rattle.std.proofs.lemmas.Bool.{eq-eqb, eqb-true, false≢true}
use Rattle.std.specs.List.{AllByRecursion}
use Rattle.spv_blocks.specs.Blocks.{has}

pub one_or : (a b : Bool) → (a || b) ≡ true → (a ≡ true) ⊎ (b ≡ true)
one_or true b h = inl refl
one_or false b h = inr h

or_first : (a b : Bool) → a ≡ true → (a || b) ≡ true
or_first true b h = refl
or_first false b h = absurd (false≢true h)

or_second : (a b : Bool) → b ≡ true → (a || b) ≡ true
or_second true b h = refl
or_second false b h = h

-- ---- by induction on the list

pub each_has : (Q : ℕ → Type 0) (xs : List ℕ) (x : ℕ) → AllByRecursion Q xs → has xs x ≡ true → Q x
each_has Q [] x h e = absurd (false≢true e)
each_has Q (y ∷ ys) x h e = elim (one_or (y == x) (has ys x) e) [ inl a ↦ subst Q (eqb-true y x a) h.0 | inr b ↦ each_has Q ys x h.1 b ]

pub all_that_are : (Q : ℕ → Type 0) (xs : List ℕ) → ((x : ℕ) → has xs x ≡ true → Q x) → AllByRecursion Q xs
all_that_are Q [] h = tt
all_that_are Q (y ∷ ys) h = (h y (or_first (y == y) (has ys y) (eq-eqb y y refl)), all_that_are Q ys (λ x e. h x (or_second (y == x) (has ys x) e)))

pub each_by : {X : Type 0} (Q R : X → Type 0) → ((x : X) → Q x → R x) → (xs : List X) → AllByRecursion Q xs → AllByRecursion R xs
each_by Q R more [] h = tt
each_by Q R more (x ∷ xs) h = (more x h.0, each_by Q R more xs h.1)

pub all_left : {X : Type 0} (Q : X → Type 0) (xs ys : List X) → AllByRecursion Q (xs ++ ys) → AllByRecursion Q xs
all_left Q [] ys h = tt
all_left Q (x ∷ xs) ys h = (h.0, all_left Q xs ys h.1)

pub all_right : {X : Type 0} (Q : X → Type 0) (xs ys : List X) → AllByRecursion Q (xs ++ ys) → AllByRecursion Q ys
all_right Q [] ys h = h
all_right Q (x ∷ xs) ys h = all_right Q xs ys h.1

pub all_both : {X : Type 0} (Q : X → Type 0) (xs ys : List X) → AllByRecursion Q xs → AllByRecursion Q ys → AllByRecursion Q (xs ++ ys)
all_both Q [] ys h k = k
all_both Q (x ∷ xs) ys h k = (h.0, all_both Q xs ys h.1 k)

pub has_left : (xs ys : List ℕ) (x : ℕ) → has xs x ≡ true → has (xs ++ ys) x ≡ true
has_left [] ys x e = absurd (false≢true e)
has_left (y ∷ xs) ys x e =
    elim (one_or (y == x) (has xs x) e) [ inl a ↦ or_first (y == x) (has (xs ++ ys) x) a | inr b ↦ or_second (y == x) (has (xs ++ ys) x) (has_left xs ys x b) ]
