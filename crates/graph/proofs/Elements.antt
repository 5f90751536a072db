-- Tests of numbers, and what stands in a list.
use Rattle.std.proofs.Common.{◌≡◌, ℕ, zero, suc, ◌<◌, ◌≤◌, ◌⊎◌, inl, inr, true, false, nat_eq, nat_lt, List, [], ◌∷◌, length, refl, arith}
use Rattle.std.proofs.lemmas.Bool.Decides.{nat_tests}
use Rattle.std.specs.List.{Contains, slice_index_or}

-- ---- tests of numbers

pub same_test : (x y : ℕ) → x ≡ y → nat_eq x y ≡ true
same_test x y e = grind (arith, nat_tests)

pub differs : (x y : ℕ) → (x ≡ y → ⊥) → nat_eq x y ≡ false
differs x y ne = grind (arith, nat_tests)

pub equal : (x y : ℕ) → nat_eq x y ≡ true → x ≡ y
equal x y e = grind (arith, nat_tests)

pub less_test : (x n : ℕ) → x < n → nat_lt x n ≡ true
less_test x n less = grind (arith, nat_tests)

pub past_test : (x n : ℕ) → n ≤ x → nat_lt x n ≡ false
past_test x n past = grind (arith, nat_tests)

pub test_less : (x n : ℕ) → nat_lt x n ≡ true → x < n
test_less x n e = grind (arith, nat_tests)

-- ---- elements

pub contains_first : (xs : List ℕ) (x : ℕ) → Contains (x ∷ xs) x
contains_first xs x = (0, omega arith, refl)

pub contains_later : (xs : List ℕ) (x y : ℕ) → Contains xs y → Contains (x ∷ xs) y
contains_later xs x y h = (suc h.0, omega arith, h.2)

cons_cases : (xs : List ℕ) (x y k : ℕ) → k < length (x ∷ xs) → slice_index_or (x ∷ xs) k y ≡ y → (y ≡ x) ⊎ Contains xs y
cons_cases xs x y zero less e = inl (cc)
cons_cases xs x y (suc k) less e = inr (k, omega arith, e)

pub contains_cases : (xs : List ℕ) (x y : ℕ) → Contains (x ∷ xs) y → (y ≡ x) ⊎ Contains xs y
contains_cases xs x y h = cons_cases xs x y h.0 h.1 h.2

pub contains_none : (y : ℕ) → Contains {X = ℕ} [] y → ⊥
contains_none y h = absurd (omega (arith, h.1))
