-- Words of booleans: what keeps them 0 or 1.
use Rattle.std.proofs.Common.{◌≡◌, ℕ, zero, suc, ◌<◌, ◌==◌, ◌&&◌, Bool, true, false, nat_lt, if◌then◌else◌, List, [], ◌∷◌, ◌++◌, length, map, replicate, slice_index, slice_set, refl, arith, inl, inr}
use Rattle.std.proofs.lemmas.Bool.{lt-ltb, ltb-true}
use Rattle.std.proofs.lemmas.Bool.Decides.{eqb_tells}
use Rattle.std.specs.Int.{from_bool}
use Rattle.std.specs.List.{list_all}
use Rattle.spv_value.specs.Bits.{zip_with}
use Rattle.spv_value.specs.Compare.{is_one, select}
use Rattle.spv_value.specs.Eval.{AreBooleanWords, zip_with3, choice}
use Rattle.spv_meaning.specs.Computations.{shuffled}

pub two : (b : Bool) → from_bool b < 2
two true = omega arith
two false = omega arith

-- ---- a list and its words

and_left : (a b : Bool) → (a && b) ≡ true → a ≡ true
and_left true b h = refl
and_left false b h = h

and_right : (a b : Bool) → (a && b) ≡ true → b ≡ true
and_right true b h = h
and_right false b h = absurd (cc)

first_two : (x : ℕ) (xs : List ℕ) → AreBooleanWords (x ∷ xs) → x < 2
first_two x xs h = ltb-true x 2 (and_left (nat_lt x 2) (list_all (λ b. nat_lt b 2) xs) h)

rest_two : (x : ℕ) (xs : List ℕ) → AreBooleanWords (x ∷ xs) → AreBooleanWords xs
rest_two x xs h = and_right (nat_lt x 2) (list_all (λ b. nat_lt b 2) xs) h

cons_two : (x : ℕ) (xs : List ℕ) → x < 2 → AreBooleanWords xs → AreBooleanWords (x ∷ xs)
cons_two x xs h k = rw (lt-ltb x 2 h) k

-- a word of such a list; past its end 0
index_two : (xs : List ℕ) (i : ℕ) → AreBooleanWords xs → slice_index xs i < 2
index_two [] i h = omega arith
index_two (x ∷ xs) zero h = first_two x xs h
index_two (x ∷ xs) (suc i) h = index_two xs i (rest_two x xs h)

append_two : (xs ys : List ℕ) → AreBooleanWords xs → AreBooleanWords ys → AreBooleanWords (xs ++ ys)
append_two [] ys h k = k
append_two (x ∷ xs) ys h k = cons_two x (xs ++ ys) (first_two x xs h) (append_two xs ys (rest_two x xs h) k)

-- ---- what is made component by component

pub all_two : (f : ℕ → ℕ) → ((a : ℕ) → f a < 2) → (xs : List ℕ) → AreBooleanWords (map f xs)
all_two f h [] = refl
all_two f h (x ∷ xs) = cons_two (f x) (map f xs) (h x) (all_two f h xs)

pub all_two_zip : (f : ℕ → ℕ → ℕ) → ((a b : ℕ) → f a b < 2) → (xs ys : List ℕ) → AreBooleanWords (zip_with f xs ys)
all_two_zip f h [] ys = refl
all_two_zip f h (x ∷ xs) [] = refl
all_two_zip f h (x ∷ xs) (y ∷ ys) = cons_two (f x y) (zip_with f xs ys) (h x y) (all_two_zip f h xs ys)

cond_two : (b : Bool) (x y : ℕ) → x < 2 → y < 2 → (if b then x else y) < 2
cond_two true x y h k = h
cond_two false x y h k = k

selected_two : (cs xs ys : List ℕ) → AreBooleanWords xs → AreBooleanWords ys → AreBooleanWords (zip_with3 select cs xs ys)
unfolding select
selected_two [] xs ys h k = refl
selected_two (c ∷ cs) [] ys h k = refl
selected_two (c ∷ cs) (x ∷ xs) [] h k = refl
selected_two (c ∷ cs) (x ∷ xs) (y ∷ ys) h k =
    cons_two (if is_one c then x else y) (zip_with3 select cs xs ys) (cond_two (is_one c) x y (first_two x xs h) (first_two y ys k))
    (selected_two cs xs ys (rest_two x xs h) (rest_two y ys k))

cond_booleans : (b : Bool) (xs ys : List ℕ) → AreBooleanWords xs → AreBooleanWords ys → AreBooleanWords (if b then xs else ys)
cond_booleans true xs ys h k = h
cond_booleans false xs ys h k = k

pub choice_booleans : (cs xs ys : List ℕ) → AreBooleanWords xs → AreBooleanWords ys → AreBooleanWords (choice cs xs ys)
choice_booleans cs xs ys h k =
    elim (eqb_tells (length cs) 1) [
      | inl one ↦ rw one.0 (cond_booleans (is_one (slice_index cs 0)) xs ys h k)
      | inr many ↦ rw many.0 (selected_two cs xs ys h k)
    ]

-- ---- zeros, and parts

pub zeros_boolean : (n : ℕ) → AreBooleanWords (replicate n 0)
zeros_boolean zero = refl
zeros_boolean (suc n) = zeros_boolean n

pub component_boolean : (ws : List ℕ) (j : ℕ) → AreBooleanWords ws → AreBooleanWords (slice_index ws j ∷ [])
component_boolean ws j h = cons_two (slice_index ws j) [] (index_two ws j h) refl

set_two : (ws : List ℕ) (j w : ℕ) → w < 2 → AreBooleanWords ws → AreBooleanWords (slice_set ws j w)
set_two [] j w h k = refl
set_two (x ∷ xs) zero w h k = cons_two w xs h (rest_two x xs k)
set_two (x ∷ xs) (suc j) w h k = cons_two x (slice_set xs j w) (first_two x xs k) (set_two xs j w h (rest_two x xs k))

pub insert_boolean : (object ws : List ℕ) (j : ℕ) → AreBooleanWords object → AreBooleanWords ws
    → AreBooleanWords (slice_set ws j (slice_index object 0))
insert_boolean object ws j h k = set_two ws j (slice_index object 0) (index_two object 0 h) k

picked_two : (b : Bool) (x : ℕ) → x < 2 → (if b then 0 else x) < 2
picked_two true x h = omega arith
picked_two false x h = h

pub shuffle_boolean : (ws vs literals : List ℕ) → AreBooleanWords ws → AreBooleanWords vs → AreBooleanWords (map (shuffled (ws ++ vs)) literals)
shuffle_boolean ws vs [] h k = refl
shuffle_boolean ws vs (literal ∷ rest) h k =
    cons_two (shuffled (ws ++ vs) literal) (map (shuffled (ws ++ vs)) rest)
    (picked_two (literal == 0xFFFF_FFFF) (slice_index (ws ++ vs) literal) (index_two (ws ++ vs) literal (append_two ws vs h k)))
    (shuffle_boolean ws vs rest h k)
