-- What is not impossible of each of finitely many is not impossible of all together.
use Rattle.std.proofs.Common.{◌≡◌, ℕ, zero, suc, List, [], ◌∷◌, Some, refl, subst, arith}
use Rattle.std.specs.List.{Contains, slice_get}

-- at each place of a list; induction on the list
pub each_or_not : {X : Type 0} (xs : List X) (P : ℕ → X → Type 0) → ((k : ℕ) (x : X) → slice_get xs k ≡ Some x → (P k x → ⊥) → ⊥)
    → (((k : ℕ) (x : X) → slice_get xs k ≡ Some x → P k x) → ⊥) → ⊥
each_or_not [] P h none = none (λ k x e. absurd (cc e))
each_or_not {X} (y ∷ ys) P h none =
    h 0 y refl (λ here. each_or_not ys (λ k. P (suc k)) (λ k x e. h (suc k) x e) (λ rest. none (λ k x e. both here rest k x e)))
  where
    both : P 0 y → ((k : ℕ) (x : X) → slice_get ys k ≡ Some x → P (suc k) x) → (k : ℕ) (x : X) → slice_get (y ∷ ys) k ≡ Some x → P k x
    both here rest zero x e = let same : y ≡ x = cc e in subst (P 0) same here
    both here rest (suc k) x e = rest k x e

-- of each that a list has
pub all_or_not : {X : Type 0} (xs : List X) (P : X → Type 0) → ((x : X) → Contains xs x → (P x → ⊥) → ⊥) → (((x : X) → Contains xs x → P x) → ⊥) → ⊥
all_or_not {X} [] P h none = none (λ x c. nothing x c)
  where
    nothing : (x : X) → Contains [] x → P x
    nothing x (k, within, is) = absurd (omega arith)
all_or_not {X} (y ∷ ys) P h none =
    h y (0, omega arith, refl) (λ here. all_or_not ys P (λ x c. h x (later x c)) (λ rest. none (λ x c. both here rest x c)))
  where
    later : (x : X) → Contains ys x → Contains (y ∷ ys) x
    later x (k, within, is) = (suc k, omega arith, is)

    both : P y → ((x : X) → Contains ys x → P x) → (x : X) → Contains (y ∷ ys) x → P x
    both here rest x (zero, within, is) = subst P is here
    both here rest x (suc k, within, is) = rest x (k, omega arith, is)
