-- The first place where a test passes.
use Rattle.std.proofs.Common.{◌≡◌, ℕ, zero, suc, ◌+◌, Bool, true, false, cond, ◌||◌, not, nat_lt, List, [], ◌∷◌, ◌++◌, length, take, Option, Some, None, refl, sym, ap, ◌∙◌, arith}
use Rattle.std.specs.List.{find, list_any, position, position_or_len, slice_get}
use Rattle.std.specs.Option.{is_some, option_map, option_map_or, option_or}
use Rattle.std.proofs.lemmas.Bool.Decides.{nat_tests}

-- the place behind one element more
one_on : (b : Bool) (n len : ℕ) → cond (nat_lt (cond (not b) (1 + n) 0) (suc len)) (Some (cond (not b) (1 + n) 0)) None ≡ cond b (Some 0) (option_map (λ k. suc k) (cond (nat_lt n len) (Some n) None))
one_on true n len = grind (arith, nat_tests)
one_on false n len = grind (arith, nat_tests)

pub position-cons : {X : Type 0} (p : X → Bool) (x : X) (xs : List X) → position p (x ∷ xs) ≡ cond (p x) (Some 0) (option_map (λ k. suc k) (position p xs))
position-cons p x xs = one_on (p x) (position_or_len p xs) (length xs)

push_cons : (b c : Bool) (len : ℕ) (place : Option ℕ) →
    cond b (Some 0) (option_map (λ k. suc k) (option_or place (cond c (Some len) None))) ≡ option_or (cond b (Some 0) (option_map (λ k. suc k) place)) (cond c (Some (suc len)) None)
push_cons true c len place = refl
push_cons false true len None = refl
push_cons false false len None = refl
push_cons false c len (Some n) = refl

-- one element more at the end; induction on those in front
pub position-push : {X : Type 0} (p : X → Bool) (xs : List X) (y : X) → position p (xs ++ y ∷ []) ≡ option_or (position p xs) (cond (p y) (Some (length xs)) None)
position-push p [] y = position-cons p y []
position-push p (x ∷ xs) y =
    position-cons p x (xs ++ y ∷ [])
    ∙ ap (λ (place : Option ℕ). cond (p x) (Some 0) (option_map (λ k. suc k) place)) (position-push p xs y)
    ∙ push_cons (p x) (p y) (length xs) (position p xs)
    ∙ sym (ap (λ (place : Option ℕ). option_or place (cond (p y) (Some (suc (length xs))) None)) (position-cons p x xs))

none_before : (place : Option ℕ) → false ≡ option_map_or (λ n. nat_lt n 0) place false
none_before None = refl
none_before (Some n) = grind (arith, nat_tests)

before_cons : (b : Bool) (k : ℕ) (place : Option ℕ) → (b || option_map_or (λ n. nat_lt n k) place false) ≡ option_map_or (λ n. nat_lt n (suc k)) (cond b (Some 0) (option_map (λ n. suc n) place)) false
before_cons true k place = grind (arith, nat_tests)
before_cons false k None = refl
before_cons false k (Some n) = grind (arith, nat_tests)

-- whether one of the elements in front passes; induction on the elements
pub any-take : {X : Type 0} (p : X → Bool) (xs : List X) (k : ℕ) → list_any p (take k xs) ≡ option_map_or (λ n. nat_lt n k) (position p xs) false
any-take p [] zero = refl
any-take p [] (suc k) = refl
any-take p (x ∷ xs) zero = none_before (position p (x ∷ xs))
any-take p (x ∷ xs) (suc k) =
    ap (λ (b : Bool). p x || b) (any-take p xs k)
    ∙ before_cons (p x) k (position p xs)
    ∙ sym (ap (λ (place : Option ℕ). option_map_or (λ n. nat_lt n (suc k)) place false) (position-cons p x xs))

some_cons : (b : Bool) (place : Option ℕ) → (b || is_some place) ≡ is_some (cond b (Some 0) (option_map (λ n. suc n) place))
some_cons true place = refl
some_cons false None = refl
some_cons false (Some n) = refl

-- whether one of all elements passes; induction on the elements
pub any-position : {X : Type 0} (p : X → Bool) (xs : List X) → list_any p xs ≡ is_some (position p xs)
any-position p [] = refl
any-position p (x ∷ xs) =
    ap (λ (b : Bool). p x || b) (any-position p xs) ∙ some_cons (p x) (position p xs) ∙ sym (ap is_some (position-cons p x xs))

get_cons : {X : Type 0} (b : Bool) (x : X) (xs : List X) (place : Option ℕ) (found : Option X) → found ≡ option_map_or (slice_get xs) place None →
    cond b (Some x) found ≡ option_map_or (slice_get (x ∷ xs)) (cond b (Some 0) (option_map (λ n. suc n) place)) None
get_cons true x xs place found e = refl
get_cons false x xs None found e = e
get_cons false x xs (Some n) found e = e

-- the first element that passes stands at the first place; induction on the elements
pub find-position : {X : Type 0} (p : X → Bool) (xs : List X) → find p xs ≡ option_map_or (slice_get xs) (position p xs) None
find-position p [] = refl
find-position p (x ∷ xs) =
    get_cons (p x) x xs (position p xs) (find p xs) (find-position p xs) ∙ sym (ap (λ (place : Option ℕ). option_map_or (slice_get (x ∷ xs)) place None) (position-cons p x xs))
