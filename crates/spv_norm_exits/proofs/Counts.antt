-- How often a test passes in a list, and that it passes as often in any list with the same members, each as often.
use Rattle.std.proofs.Common.{◌≡◌, inl, inr, ℕ, suc, zero, ◌+◌, ◌≤◌, Bool, true, false, cond, not, ◌&&◌, ◌==◌, List, [], ◌∷◌, ◌++◌, map, slice_get, Some, refl, ap, subst, ◌∙◌, arith}
use Rattle.std.specs.Prelude.{count_by}
use Rattle.std.proofs.lemmas.Bool.Decides.{eqb_tells}
use Rattle.std.proofs.lemmas.List.Sums.{sum_by-cons}
use Rattle.spv_blocks.specs.Blocks.{times}
use Rattle.spv_walk.proofs.Unique.{true_equal}

abbrev pub one_if : Bool → ℕ
one_if b = cond b 1 0

abbrev pub tally : {A : Type 0} → (A → Bool) → List A → ℕ
tally p [] = 0
tally p (x ∷ xs) = one_if (p x) + tally p xs

pub counted : {A : Type 0} (p : A → Bool) (xs : List A) → count_by p xs ≡ tally p xs
counted p [] = refl
counted p (x ∷ xs) = sum_by-cons (λ z. cond (p z) 1 0) x xs ∙ ap (λ n. one_if (p x) + n) (counted p xs)

pub tally_both : {A : Type 0} (p : A → Bool) (xs ys : List A) → tally p (xs ++ ys) ≡ tally p xs + tally p ys
tally_both p [] ys = omega arith
tally_both p (x ∷ xs) ys = let more = tally_both p xs ys in omega (arith, more)

pub tally_mapped : {A B : Type 0} (p : B → Bool) (g : A → B) (xs : List A) → tally p (map g xs) ≡ tally (λ x. p (g x)) xs
tally_mapped p g [] = refl
tally_mapped p g (x ∷ xs) = ap (λ n. one_if (p (g x)) + n) (tally_mapped p g xs)

-- two tests that agree on each member
pub tally_alike : {A : Type 0} (p q : A → Bool) (xs : List A) → ((k : ℕ) (x : A) → slice_get xs k ≡ Some x → p x ≡ q x) → tally p xs ≡ tally q xs
tally_alike p q [] h = refl
tally_alike p q (x ∷ xs) h =
    ap (λ b. one_if b + tally p xs) (h 0 x refl) ∙ ap (λ n. one_if (q x) + n) (tally_alike p q xs (λ k y e. h (suc k) y e))

-- ---- the same members

abbrev drop_one : ℕ → List ℕ → List ℕ
drop_one x [] = []
drop_one x (y ∷ ys) = cond (y == x) ys (y ∷ drop_one x ys)

one_time : (y : ℕ) (ys : List ℕ) (l : ℕ) → times (y ∷ ys) l ≡ one_if (y == l) + times ys l
one_time y ys l = by (y == l)
  where
    by : (b : Bool) → cond b (times ys l + 1) (times ys l) ≡ one_if b + times ys l
    by true = omega arith
    by false = omega arith

one_here : (x : ℕ) → one_if (x == x) ≡ 1
one_here x = ap one_if (true_equal x x refl)

drop_times : (x : ℕ) (ys : List ℕ) → 1 ≤ times ys x → (l : ℕ) → times ys l ≡ one_if (x == l) + times (drop_one x ys) l
drop_times x [] h l = absurd (omega (arith, h))
drop_times x (y ∷ ys) h l = elim (eqb_tells y x) [
  | inl (e, p) ↦ rw e (one_time y ys l ∙ ap (λ j. one_if (j == l) + times ys l) p)
  | inr (e, p) ↦ rw e (
      let there : 1 ≤ times ys x = (let a = one_time y ys x in let z = ap one_if e in omega (arith, a, z, h)) in
      let more = drop_times x ys there l in
      let a = one_time y ys l in
      let b = one_time y (drop_one x ys) l in
      omega (arith, more, a, b))
]

drop_tally : (p : ℕ → Bool) (x : ℕ) (ys : List ℕ) → 1 ≤ times ys x → tally p ys ≡ one_if (p x) + tally p (drop_one x ys)
drop_tally p x [] h = absurd (omega (arith, h))
drop_tally p x (y ∷ ys) h = elim (eqb_tells y x) [
  | inl (e, q) ↦ rw e (ap (λ j. one_if (p j) + tally p ys) q)
  | inr (e, q) ↦ rw e (
      let there : 1 ≤ times ys x = (let a = one_time y ys x in let z = ap one_if e in omega (arith, a, z, h)) in
      let more = drop_tally p x ys there in
      omega (arith, more))
]

-- induction on the first list: its first number is taken out of the other
pub same_tally : (p : ℕ → Bool) (xs ys : List ℕ) → ((l : ℕ) → times xs l ≡ times ys l) → tally p xs ≡ tally p ys
same_tally p [] [] h = refl
same_tally p [] (y ∷ ys) h =
    let none = h y in let a = one_time y ys y in let one = one_here y in absurd (omega (arith, none, a, one))
same_tally p (x ∷ xs) ys h =
    let a = one_time x xs x in
    let one = one_here x in
    let at = h x in
    let there : 1 ≤ times ys x = omega (arith, a, one, at) in
    let more = same_tally p xs (drop_one x ys) (λ l.
    let b = h l in let c = one_time x xs l in let d = drop_times x ys there l in omega (arith, b, c, d)) in
    let out = drop_tally p x ys there in
    omega (arith, more, out)

-- ---- members

pub tally_none : {A : Type 0} (p : A → Bool) (xs : List A) → ((k : ℕ) (x : A) → slice_get xs k ≡ Some x → p x ≡ false) → tally p xs ≡ 0
tally_none p [] h = refl
tally_none p (x ∷ xs) h = let more = tally_none p xs (λ k y e. h (suc k) y e) in let at = ap one_if (h 0 x refl) in omega (arith, more, at)

-- a number that stands in a list passes there
pub passes_there : (p : ℕ → Bool) (x : ℕ) (xs : List ℕ) → 1 ≤ times xs x → p x ≡ true → 1 ≤ tally p xs
passes_there p x xs h t = let out = drop_tally p x xs h in let at = ap one_if t in omega (arith, out, at)

-- where a test passes, it passes at a member
pub some_passes : (p : ℕ → Bool) (xs : List ℕ) → 1 ≤ tally p xs → (x : ℕ) × (p x ≡ true) × (1 ≤ times xs x)
some_passes p [] h = absurd (omega (arith, h))
some_passes p (y ∷ ys) h = by (p y) refl (some_passes p ys)
  where
    by : (b : Bool) → p y ≡ b → (1 ≤ tally p ys → (x : ℕ) × (p x ≡ true) × (1 ≤ times ys x)) → (x : ℕ) × (p x ≡ true) × (1 ≤ times (y ∷ ys) x)
    by true e more = (y, e, (let a = one_time y ys y in let one = one_here y in omega (arith, a, one)))
    by false e more =
        let at = ap one_if e in
        let r = more (omega (arith, at, h)) in
        (r.0, r.1, (let a = one_time y ys r.0 in let there = r.2 in omega (arith, a, there)))

-- a test that passes where another does
pub tally_less : {A : Type 0} (p q : A → Bool) (xs : List A) → ((x : A) → p x ≡ true → q x ≡ true) → tally p xs ≤ tally q xs
tally_less p q [] h = omega arith
tally_less p q (x ∷ xs) h = by (p x) (q x) refl refl (tally_less p q xs h)
  where
    by : (a b : Bool) → p x ≡ a → q x ≡ b → tally p xs ≤ tally q xs → one_if a + tally p xs ≤ one_if b + tally q xs
    by true true e g more = omega (arith, more)
    by true false e g more = absurd (cc (h x e, g))
    by false b e g more = omega (arith, more)

-- a test that passes at one number alone, which stands once
pub one_passes : (p : ℕ → Bool) (x : ℕ) (xs : List ℕ) → times xs x ≡ 1 → ((l : ℕ) → p l ≡ true → l ≡ x) → tally p xs ≡ one_if (p x)
one_passes p x xs once one = by (tally p (drop_one x xs)) refl
  where
    there : 1 ≤ times xs x
    there = omega (arith, once)

    by : (n : ℕ) → tally p (drop_one x xs) ≡ n → tally p xs ≡ one_if (p x)
    by zero e = let out = drop_tally p x xs there in omega (arith, out, e)
    by (suc n) e =
        let r = some_passes p (drop_one x xs) (omega (arith, e)) in
        let same = one r.0 r.1 in
        let some : 1 ≤ times (drop_one x xs) x = subst (λ j. 1 ≤ times (drop_one x xs) j) same r.2 in
        let out = drop_times x xs there x in
        let here = one_here x in
        absurd (omega (arith, some, out, here, once))

-- a test parts another in two
pub tally_parted : {A : Type 0} (p q : A → Bool) (xs : List A) → tally p xs ≡ tally (λ x. p x && q x) xs + tally (λ x. p x && not (q x)) xs
tally_parted p q [] = refl
tally_parted p q (x ∷ xs) = let more = tally_parted p q xs in let here = by (p x) (q x) in omega (arith, more, here)
  where
    by : (a b : Bool) → one_if a ≡ one_if (a && b) + one_if (a && not b)
    by true true = refl
    by true false = refl
    by false b = refl
