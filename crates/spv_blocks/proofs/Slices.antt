-- Parts of a list, from a place on and up to another.
use Rattle.std.proofs.Common.{◌≡◌, ℕ, zero, suc, ◌+◌, ◌<◌, ◌≤◌, List, [], ◌∷◌, ◌++◌, length, take, drop, Some, refl, sym, ap, ◌∙◌, arith, add-one, append_assoc, append-nil}
use Rattle.std.specs.List.{slice_get}
use Rattle.std.proofs.Math.Seq.{take-suc, drop-cons}
use Rattle.std.proofs.lemmas.List.{length-take, length-drop, drop-append-le, drop_all}
use Rattle.std.proofs.lemmas.Option.{get_or_from_slice_get, slice_get_within}

-- the elements from a place on
pub drop-at : {X : Type 0} (xs : List X) (k : ℕ) (x : X) → slice_get xs k ≡ Some x → drop k xs ≡ x ∷ drop (k + 1) xs
drop-at xs k x at =
    rw add-one (drop-cons xs k x (slice_get_within xs k x at) ∙ ap (λ y. y ∷ drop (suc k) xs) (get_or_from_slice_get xs k x x at))

-- one element more
pub take-at : {X : Type 0} (xs : List X) (k : ℕ) (x : X) → slice_get xs k ≡ Some x → take (k + 1) xs ≡ take k xs ++ x ∷ []
take-at xs k x at =
    rw add-one (take-suc xs k x (slice_get_within xs k x at) ∙ ap (λ y. take k xs ++ y ∷ []) (get_or_from_slice_get xs k x x at))

pub slice-at : {X : Type 0} (xs : List X) (a k : ℕ) (x : X) → a ≤ k → slice_get xs k ≡ Some x → drop a (take (k + 1) xs) ≡ drop a (take k xs) ++ x ∷ []
slice-at xs a k x h at =
    let within : k < length xs = slice_get_within xs k x at in
    ap (drop a) (take-at xs k x at) ∙ drop-append-le a (take k xs) (x ∷ []) (omega (arith, length-take k xs))

pub slice-none : {X : Type 0} (xs : List X) (k : ℕ) → drop k (take k xs) ≡ []
slice-none xs k = drop_all k (take k xs) (omega (arith, length-take k xs))

-- a front of what stands behind a place, told as far as k: it takes one element more
pub front-goes_on : {X : Type 0} (f : List X → List X) (xs : List X) (a k : ℕ) (x : X) → a ≤ k → slice_get xs k ≡ Some x →
    f (x ∷ drop (k + 1) xs) ≡ x ∷ f (drop (k + 1) xs) →
    f (drop a xs) ≡ drop a (take k xs) ++ f (drop k xs) →
    f (drop a xs) ≡ drop a (take (k + 1) xs) ++ f (drop (k + 1) xs)
front-goes_on f xs a k x h at more told =
    told
    ∙ ap (λ rest. drop a (take k xs) ++ rest) (ap f (drop-at xs k x at) ∙ more)
    ∙ sym (append_assoc (drop a (take k xs)) (x ∷ []) (f (drop (k + 1) xs)))
    ∙ ap (λ front. front ++ f (drop (k + 1) xs)) (sym (slice-at xs a k x h at))

-- or it ends before that element
pub front-stops : {X : Type 0} (f : List X → List X) (xs : List X) (a k : ℕ) (x : X) → slice_get xs k ≡ Some x →
    f (x ∷ drop (k + 1) xs) ≡ [] →
    f (drop a xs) ≡ drop a (take k xs) ++ f (drop k xs) →
    drop a (take k xs) ≡ f (drop a xs)
front-stops f xs a k x at none told =
    sym (told ∙ ap (λ rest. drop a (take k xs) ++ rest) (ap f (drop-at xs k x at) ∙ none) ∙ append-nil (drop a (take k xs)))

-- or with it
pub front-stops_with : {X : Type 0} (f : List X → List X) (xs : List X) (a k : ℕ) (x : X) → a ≤ k → slice_get xs k ≡ Some x →
    f (x ∷ drop (k + 1) xs) ≡ x ∷ [] →
    f (drop a xs) ≡ drop a (take k xs) ++ f (drop k xs) →
    drop a (take (k + 1) xs) ≡ f (drop a xs)
front-stops_with f xs a k x h at one told =
    slice-at xs a k x h at ∙ sym (told ∙ ap (λ rest. drop a (take k xs) ++ rest) (ap f (drop-at xs k x at) ∙ one))

-- or it reaches to the end
pub front-ends : {X : Type 0} (f : List X → List X) (xs : List X) (a k : ℕ) → length xs ≤ k → f [] ≡ [] →
    f (drop a xs) ≡ drop a (take k xs) ++ f (drop k xs) →
    drop a (take k xs) ≡ f (drop a xs)
front-ends f xs a k past none told =
    sym (told ∙ ap (λ rest. drop a (take k xs) ++ rest) (ap f (drop_all k xs past) ∙ none) ∙ append-nil (drop a (take k xs)))

get-take : {X : Type 0} (xs : List X) (b k : ℕ) → k < b → slice_get (take b xs) k ≡ slice_get xs k
get-take [] zero k h = refl
get-take [] (suc b) k h = refl
get-take (x ∷ xs) zero k h = absurd (omega arith)
get-take (x ∷ xs) (suc b) zero h = refl
get-take (x ∷ xs) (suc b) (suc k) h = get-take xs b k (omega arith)

get-drop : {X : Type 0} (xs : List X) (a k n : ℕ) → n ≡ a + k → slice_get (drop a xs) k ≡ slice_get xs n
get-drop xs zero k n e = let same : k ≡ n = omega arith in ap (slice_get xs) same
get-drop [] (suc a) k n e = refl
get-drop (x ∷ xs) (suc a) k zero e = absurd (omega arith)
get-drop (x ∷ xs) (suc a) k (suc n) e = get-drop xs a k n (omega arith)

-- an element of a part
pub part-at : {X : Type 0} (xs : List X) (a b k : ℕ) (x : X) → k < length (drop a (take b xs)) → slice_get xs (a + k) ≡ Some x → slice_get (drop a (take b xs)) k ≡ Some x
part-at xs a b k x h at =
    get-drop (take b xs) a k (a + k) refl ∙ get-take xs b (a + k) (omega (arith, length-drop a (take b xs), length-take b xs)) ∙ at

-- a part that begins within a list
pub part-begins : {X : Type 0} (xs : List X) (a b : ℕ) (x : X) → a < b → slice_get xs a ≡ Some x → drop a (take b xs) ≡ x ∷ drop (a + 1) (take b xs)
part-begins xs a b x h at = drop-at (take b xs) a x (get-take xs b a h ∙ at)

pub part-within : {X : Type 0} (xs : List X) (a b k : ℕ) → k < length (drop a (take b xs)) → a + k < b
part-within xs a b k h = omega (arith, length-drop a (take b xs), length-take b xs)
