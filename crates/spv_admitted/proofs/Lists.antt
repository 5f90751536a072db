-- Lists by their places.
use Rattle.std.proofs.Common.{◌≡◌, ℕ, zero, suc, ◌+◌, ◌<◌, inl, inr, Bool, true, false, cond, ◌||◌, List, [], ◌∷◌, ◌++◌, Some}
use Rattle.std.proofs.Common.{refl, sym, ap, subst, ◌∙◌, length, drop, take, arith}
use Rattle.std.specs.Prelude.{find, position, slice_get, slice_index}
use Rattle.std.specs.List.{AllByRecursion, Contains, list_any}
use Rattle.std.specs.Option.{option_map}
use Rattle.spv_ids.proofs.Places.{position-cons}
use Rattle.spv_trees.specs.Standing.{OneOf}

-- ---- what holds of each

pub each_of : {X : Type 0} (P : X → Type 0) (xs : List X) → AllByRecursion P xs → (x : X) → OneOf x xs → P x
each_of P [] h x o = absurd o
each_of P (y ∷ xs) h x (inl e) = subst P (sym e) h.0
each_of P (y ∷ xs) h x (inr o) = each_of P xs h.1 x o

pub all_by_place : {X : Type 0} (P : X → Type 0) (xs : List X) → ((k : ℕ) (x : X) → slice_get xs k ≡ Some x → P x) → AllByRecursion P xs
all_by_place P [] h = tt
all_by_place P (x ∷ xs) h = (h 0 x refl, all_by_place P xs (λ k y e. h (suc k) y e))

pub contains_head : {X : Type 0} (x : X) (xs : List X) → Contains (x ∷ xs) x
contains_head x xs = (0, omega arith, refl)

-- ---- the words behind the first one

pub third_word : (words : List ℕ) → slice_index (drop 1 words) 1 ≡ slice_index words 2
third_word [] = refl
third_word (w ∷ ws) = refl

pub fourth_word : (words : List ℕ) → slice_index (drop 1 words) 2 ≡ slice_index words 3
fourth_word [] = refl
fourth_word (w ∷ ws) = refl

-- ---- an element behind those before it

pub append_push : {X : Type 0} (xs : List X) (x : X) (ys : List X) → (xs ++ x ∷ []) ++ ys ≡ xs ++ x ∷ ys
append_push [] x ys = refl
append_push (z ∷ xs) x ys = ap (λ zs. z ∷ zs) (append_push xs x ys)

pub at_front : {X : Type 0} (xs : List X) (x : X) (ys : List X) → slice_get (xs ++ x ∷ ys) (length xs) ≡ Some x
at_front [] x ys = refl
at_front (z ∷ xs) x ys = at_front xs x ys

pub take_front : {X : Type 0} (xs ys : List X) → take (length xs) (xs ++ ys) ≡ xs
take_front [] ys = refl
take_front (z ∷ xs) ys = ap (λ zs. z ∷ zs) (take_front xs ys)

pub take_with : {X : Type 0} (xs : List X) (x : X) (ys : List X) → take (length xs + 1) (xs ++ x ∷ ys) ≡ xs ++ x ∷ []
take_with [] x ys = refl
take_with (z ∷ xs) x ys = ap (λ n. take n (z ∷ (xs ++ x ∷ ys))) (one_more (length xs)) ∙ ap (λ zs. z ∷ zs) (take_with xs x ys) where
  one_more : (n : ℕ) → suc n + 1 ≡ suc (n + 1)
  one_more n = omega arith

pub some_at : {X : Type 0} (xs : List X) (k : ℕ) → k < length xs → (x : X) × (slice_get xs k ≡ Some x)
some_at [] k h = absurd (omega (arith, h))
some_at (x ∷ xs) zero h = (x, refl)
some_at (x ∷ xs) (suc k) h = some_at xs k (omega (arith, h))

-- ---- the first that passes a test

or_left : (a b : Bool) → (a || b) ≡ false → a ≡ false
or_left true b h = absurd (cc h)
or_left false b h = refl

or_right : (a b : Bool) → (a || b) ≡ false → b ≡ false
or_right true b h = absurd (cc h)
or_right false b h = h

-- it passes, and none before it does: by induction on those
pub first_passes : {X : Type 0} (q : X → Bool) (xs : List X) (k : ℕ) (x : X) → slice_get xs k ≡ Some x → q x ≡ true
    → list_any q (take k xs) ≡ false → position q xs ≡ Some k
first_passes q [] k x e h none = absurd (cc e)
first_passes q (y ∷ xs) zero x e h none =
    let same : y ≡ x = cc e in
    position-cons q y xs ∙ ap (λ b. cond b (Some 0) (option_map (λ k. suc k) (position q xs))) (ap q same ∙ h)
first_passes q (y ∷ xs) (suc k) x e h none =
    position-cons q y xs
    ∙ ap (λ b. cond b (Some 0) (option_map (λ k. suc k) (position q xs))) (or_left (q y) (list_any q (take k xs)) none)
    ∙ ap (option_map (λ k. suc k)) (first_passes q xs k x e h (or_right (q y) (list_any q (take k xs)) none))

-- what is found stands somewhere, and passes
pub record Found {X : Type 0} (q : X → Bool) (xs : List X) (x : X) : Type 0 where
  pub at : ℕ
  pub there : slice_get xs at ≡ Some x
  pub passes : q x ≡ true

found_by : {X : Type 0} (q : X → Bool) (y : X) (xs : List X) (x : X) (b : Bool) → q y ≡ b → (find q xs ≡ Some x → Found q xs x)
    → cond b (Some y) (find q xs) ≡ Some x → Found q (y ∷ xs) x
found_by q y xs x true h later e =
    let same : y ≡ x = cc e in
    record { at = 0; there = e; passes = sym (ap q same) ∙ h }
found_by q y xs x false h later e =
    let f = later e in
    record { at = suc f.at; there = f.there; passes = f.passes }

pub found_at : {X : Type 0} (q : X → Bool) (xs : List X) (x : X) → find q xs ≡ Some x → Found q xs x
found_at q [] x e = absurd (cc e)
found_at q (y ∷ xs) x e = found_by q y xs x (q y) refl (found_at q xs x) e
