-- Tests one after the other: the first that fails, and the least rule of all that fail.
use Rattle.std.proofs.Common.{◌≡◌, ℕ, zero, suc, ◌+◌, ◌<◌, ◌≤◌, Bool, true, false, cond, List, [], ◌∷◌, length, drop, Option, Some, None, refl, sym, ap, subst, ◌∙◌, arith}
use Rattle.std.specs.Prelude.{slice_index_or}
use Rattle.std.proofs.Math.ListN.{drop_of_length-le}
use Rattle.spv_types.specs.Progress.{first_failing}

-- those before the k-th pass
abbrev pub ArePassed : List (Bool × ℕ) → (k : ℕ) → Type 0
ArePassed tests k = first_failing tests ≡ first_failing (drop k tests)

at_test : (tests : List (Bool × ℕ)) (k : ℕ) (b : Bool) → k < length tests → (slice_index_or tests k (false, 0)).0 ≡ b →
    first_failing (drop k tests) ≡ cond b (first_failing (drop (suc k) tests)) (Some (slice_index_or tests k (false, 0)).1)
at_test (t ∷ ts) zero b below e = ap (λ (p : Bool). cond p (first_failing ts) (Some t.1)) e
at_test (t ∷ ts) (suc k) b below e = at_test ts k b (omega (arith, below)) e
at_test [] k b below e = absurd (omega (arith, below))

pub failing-found : (tests : List (Bool × ℕ)) (k : ℕ) → ArePassed tests k → k < length tests → (slice_index_or tests k (false, 0)).0 ≡ false →
    Some (slice_index_or tests k (false, 0)).1 ≡ first_failing tests
failing-found tests k passed below e = sym (passed ∙ at_test tests k false below e)

pub failing-next : (tests : List (Bool × ℕ)) (k : ℕ) → ArePassed tests k → k < length tests → (slice_index_or tests k (false, 0)).0 ≡ true → ArePassed tests (k + 1)
failing-next tests k passed below e =
    let same : suc k ≡ k + 1 = omega arith in
    subst (ArePassed tests) same (passed ∙ at_test tests k true below e)

pub failing-none : (tests : List (Bool × ℕ)) (k : ℕ) → ArePassed tests k → length tests ≤ k → None ≡ first_failing tests
failing-none tests k passed past = sym (passed ∙ ap first_failing (drop_of_length-le tests past))

-- one test and then others
pub failing-same : (b c : Bool) (rule : ℕ) (rest others : Option ℕ) → b ≡ c → rest ≡ others → cond b rest (Some rule) ≡ cond c others (Some rule)
failing-same b c rule rest others e f = rw (e, f) refl
