-- Lists that name no number twice.
use Rattle.std.proofs.Common.{◌≡◌, ℕ, zero, suc, ◌+◌, ◌<◌, Bool, true, false, cond, not, nat_eq, List, [], ◌∷◌, length, filter, refl, arith}
use Rattle.std.specs.List.{IsDistinct, AllByRecursion, range_with_len}
use Rattle.std.proofs.lemmas.Bool.Decides.{nat_tests}
use Rattle.graph.specs.Reversing.{names, predecessors}
use Rattle.graph.specs.Rows.{row}
use Rattle.graph.specs.Distinct.{distinct, without}

-- a test that is passed by each of a list is passed by each that is kept of it
all_kept : (P : ℕ → Type 0) (y : ℕ) (xs : List ℕ) (b : Bool) → P y → AllByRecursion P xs → AllByRecursion P (cond b (y ∷ xs) xs)
all_kept P y xs true h hs = (h, hs)
all_kept P y xs false h hs = hs

pub all-filter : (P : ℕ → Type 0) (test : ℕ → Bool) (xs : List ℕ) → AllByRecursion P xs → AllByRecursion P (filter test xs)
all-filter P test [] h = h
all-filter P test (y ∷ xs) h = all_kept P y (filter test xs) (test y) h.0 (all-filter P test xs h.1)

distinct_kept : (y : ℕ) (xs : List ℕ) (b : Bool) → AllByRecursion (λ z. nat_eq y z ≡ false) xs → IsDistinct nat_eq xs → IsDistinct nat_eq (cond b (y ∷ xs) xs)
unfolding IsDistinct
distinct_kept y xs true h d = (h, d)
distinct_kept y xs false h d = d

-- induction on the list
pub filter-distinct : (test : ℕ → Bool) (xs : List ℕ) → IsDistinct nat_eq xs → IsDistinct nat_eq (filter test xs)
unfolding IsDistinct
filter-distinct test [] d = d
filter-distinct test (y ∷ xs) d = distinct_kept y (filter test xs) (test y) (all-filter (λ z. nat_eq y z ≡ false) test xs d.0) (filter-distinct test xs d.1)

differs_along : (y x : ℕ) → not (nat_eq y x) ≡ true → nat_eq x y ≡ false
differs_along y x e = grind (arith, nat_tests)

none_same : (x y : ℕ) (ys : List ℕ) (b : Bool) → not (nat_eq y x) ≡ b → AllByRecursion (λ z. nat_eq x z ≡ false) ys → AllByRecursion (λ z. nat_eq x z ≡ false) (cond b (y ∷ ys) ys)
none_same x y ys true e h = (differs_along y x e, h)
none_same x y ys false e h = h

others : (x : ℕ) (ys : List ℕ) → AllByRecursion (λ z. nat_eq x z ≡ false) (without x ys)
others x [] = tt
others x (y ∷ ys) = none_same x y (without x ys) (not (nat_eq y x)) refl (others x ys)

-- each number stands once; induction on the list
pub distinct-once : (xs : List ℕ) → IsDistinct nat_eq (distinct xs)
unfolding IsDistinct
distinct-once [] = tt
distinct-once (x ∷ xs) = (others x (distinct xs), filter-distinct (λ y. not (nat_eq y x)) (distinct xs) (distinct-once xs))

range_above : (x a n : ℕ) → x < a → AllByRecursion (λ z. nat_eq x z ≡ false) (range_with_len a n)
range_above x a zero less = tt
range_above x a (suc n) less = (below x a less, range_above x (a + 1) n (omega arith))
  where
    below : (x a : ℕ) → x < a → nat_eq x a ≡ false
    below x a less = grind (arith, nat_tests)

range-once : (a n : ℕ) → IsDistinct nat_eq (range_with_len a n)
unfolding IsDistinct
range-once a zero = tt
range-once a (suc n) = (range_above a (a + 1) n (omega arith), range-once (a + 1) n)

pub predecessors-once : (rows : List (List ℕ)) (t : ℕ) → IsDistinct nat_eq (predecessors rows t)
predecessors-once rows t = filter-distinct (λ from. names (row rows from) t) (range_with_len 0 (length rows)) (range-once 0 (length rows))
