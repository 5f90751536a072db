-- Elements of lists.
use Rattle.std.proofs.Common.{◌≡◌, ℕ, zero, suc, ◌<◌, ◌⊎◌, inl, inr, Bool, true, false, ◌==◌, ◌&&◌, ◌||◌, cond, List, [], ◌∷◌, ◌++◌, map, length, refl, sym, ap, ◌∙◌, subst, arith}
use Rattle.std.specs.Prelude.{filter, All, AllPairs, Contains, slice_index_or}
use Rattle.std.specs.List.{list_all, AllByRecursion}
use Rattle.std.proofs.lemmas.Bool.{eqb-true, eq-eqb}
use Rattle.spv_blocks.specs.Blocks.{has}
use Rattle.spv_trees.specs.Standing.{OneOf}
use Rattle.spv_walk.proofs.Unique.{either_holds}

pub one_split : {X : Type 0} (x : X) (xs ys : List X) → OneOf x (xs ++ ys) → OneOf x xs ⊎ OneOf x ys
one_split x [] ys h = inr h
one_split x (z ∷ xs) ys (inl e) = inl (inl e)
one_split x (z ∷ xs) ys (inr h) = elim (one_split x xs ys h) [
  | inl g ↦ inl (inr g)
  | inr g ↦ inr g
]

-- ---- what holds of all

pub all_at : {X : Type 0} (P : X → Type 0) (xs : List X) → All P xs → (x : X) → OneOf x xs → P x
all_at P [] h x g = absurd g
all_at P (z ∷ zs) h x (inl e) = subst P (sym e) (h 0 x (omega arith))
all_at P (z ∷ zs) h x (inr g) = all_at P zs (λ k d lt. h (suc k) d (omega arith)) x g

pub each_at : {X : Type 0} (P : X → Type 0) (xs : List X) → AllByRecursion P xs → (x : X) → OneOf x xs → P x
each_at P [] h x g = absurd g
each_at P (z ∷ zs) h x (inl e) = subst P (sym e) h.0
each_at P (z ∷ zs) h x (inr g) = each_at P zs h.1 x g

pub contained : {X : Type 0} (xs : List X) (x : X) → Contains xs x → OneOf x xs
contained xs x h = at_place xs x h.0 h.1 h.2
  where
    at_place : {X : Type 0} (xs : List X) (x : X) (k : ℕ) → k < length xs → slice_index_or xs k x ≡ x → OneOf x xs
    at_place [] x k lt e = absurd (omega arith)
    at_place (z ∷ zs) x zero lt e = inl (sym e)
    at_place (z ∷ zs) x (suc k) lt e = inr (at_place zs x k (omega arith) e)

-- two elements of a list whose pairs are related
pub data Related {X : Type 0} (R : X → X → Type 0) (x y : X) : Type 0 where
  Same : x ≡ y → Related R x y
  Before : R x y → Related R x y
  Behind : R y x → Related R x y

pub pairs_at : {X : Type 0} (R : X → X → Type 0) (xs : List X) → AllPairs R xs → (x y : X) → OneOf x xs → OneOf y xs → Related R x y
pairs_at R [] h x y g k = absurd g
pairs_at R (z ∷ zs) h x y (inl e) (inl d) = Same (e ∙ sym d)
pairs_at R (z ∷ zs) h x y (inl e) (inr k) = Before (subst (λ w. R w y) (sym e) (all_at (R z) zs (λ i d lt. h 0 (suc i) d (omega arith) (omega arith)) y k))
pairs_at R (z ∷ zs) h x y (inr g) (inl d) = Behind (subst (λ w. R w x) (sym d) (all_at (R z) zs (λ i d lt. h 0 (suc i) d (omega arith) (omega arith)) x g))
pairs_at R (z ∷ zs) h x y (inr g) (inr k) = pairs_at R zs (λ i j d lt short. h (suc i) (suc j) d (omega arith) (omega arith)) x y g k

-- ---- filters

pub filter_in : {X : Type 0} (test : X → Bool) (x : X) (xs : List X) → OneOf x xs → test x ≡ true → OneOf x (filter test xs)
filter_in test x [] h e = absurd h
filter_in test x (z ∷ zs) (inl h) e = first (test z) (ap test (sym h) ∙ e)
  where
    first : (b : Bool) → b ≡ true → OneOf x (cond b (z ∷ filter test zs) (filter test zs))
    first true d = inl h
    first false d = absurd (cc d)
filter_in test x (z ∷ zs) (inr h) e = later (test z) (filter_in test x zs h e)
  where
    later : (b : Bool) → OneOf x (filter test zs) → OneOf x (cond b (z ∷ filter test zs) (filter test zs))
    later true g = inr g
    later false g = g

pub filter_from : {X : Type 0} (test : X → Bool) (x : X) (xs : List X) → OneOf x (filter test xs) → OneOf x xs × (test x ≡ true)
filter_from test x [] h = absurd h
filter_from test x (z ∷ zs) h = by_test (test z) refl h (λ g. filter_from test x zs g)
  where
    by_test : (b : Bool) → test z ≡ b → OneOf x (cond b (z ∷ filter test zs) (filter test zs)) → (OneOf x (filter test zs) → OneOf x zs × (test x ≡ true)) → OneOf x (z ∷ zs) × (test x ≡ true)
    by_test true e (inl g) more = (inl g, ap test g ∙ e)
    by_test true e (inr g) more = let r = more g in (inr r.0, r.1)
    by_test false e g more = let r = more g in (inr r.0, r.1)

-- ---- numbers in a list

pub one_has : (xs : List ℕ) (x : ℕ) → OneOf x xs → has xs x ≡ true
one_has [] x h = absurd h
one_has (y ∷ ys) x (inl e) = ap (λ b. b || has ys x) (eq-eqb y x (sym e))
one_has (y ∷ ys) x (inr h) = or_true (y == x) (one_has ys x h)
  where
    or_true : (a : Bool) → has ys x ≡ true → (a || has ys x) ≡ true
    or_true true e = refl
    or_true false e = e

pub has_one : (xs : List ℕ) (x : ℕ) → has xs x ≡ true → OneOf x xs
has_one [] x h = absurd (cc h)
has_one (y ∷ ys) x h = elim (either_holds (y == x) (has ys x) h) [
  | inl e ↦ inl (sym (eqb-true y x e))
  | inr g ↦ inr (has_one ys x g)
]

pub has_append : (xs ys : List ℕ) (x : ℕ) → has (xs ++ ys) x ≡ (has xs x || has ys x)
has_append [] ys x = refl
has_append (z ∷ xs) ys x = ap (λ b. (z == x) || b) (has_append xs ys x) ∙ or_assoc (z == x)
  where
    or_assoc : (a : Bool) → (a || (has xs x || has ys x)) ≡ ((a || has xs x) || has ys x)
    or_assoc true = refl
    or_assoc false = refl

pub one_map : {X Y : Type 0} (f : X → Y) (xs : List X) (x : X) → OneOf x xs → OneOf (f x) (map f xs)
one_map f [] x h = h
one_map f (z ∷ zs) x (inl e) = inl (ap f e)
one_map f (z ∷ zs) x (inr h) = inr (one_map f zs x h)

-- an element of a mapped list, with what it was made of
pub record Made {X Y : Type 0} (f : X → Y) (xs : List X) (y : Y) : Type 0 where
  pub from : X
  pub one : OneOf from xs
  pub same : y ≡ f from

pub map_from : {X Y : Type 0} (f : X → Y) (xs : List X) (y : Y) → OneOf y (map f xs) → Made f xs y
map_from f [] y h = absurd h
map_from f (z ∷ zs) y (inl e) = record { from = z; one = inl refl; same = e }
map_from f (z ∷ zs) y (inr h) = let m = map_from f zs y h in record { from = m.from; one = inr m.one; same = m.same }

pub list_all_at : {X : Type 0} (test : X → Bool) (xs : List X) → list_all test xs ≡ true → (x : X) → OneOf x xs → test x ≡ true
list_all_at test [] h x g = absurd g
list_all_at test (z ∷ zs) h x (inl e) = ap test e ∙ front (test z) h
  where
    front : (a : Bool) → (a && list_all test zs) ≡ true → a ≡ true
    front true d = refl
    front false d = d
list_all_at test (z ∷ zs) h x (inr g) = list_all_at test zs (rest (test z) h) x g
  where
    rest : (a : Bool) → (a && list_all test zs) ≡ true → list_all test zs ≡ true
    rest true d = d
    rest false d = absurd (cc d)
