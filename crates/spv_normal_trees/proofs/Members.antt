-- Lists of numbers: what they have, which are apart, and how long they are.
use Rattle.std.proofs.Common.{◌≡◌, ◌≢◌, ◌⊎◌, inl, inr, ℕ, ◌+◌, ◌≤◌, Bool, true, false, not, cond, ◌==◌, List, [], ◌∷◌, ◌++◌, length, filter, fold, refl, sym, ap, subst, ◌∙◌, arith}
use Rattle.std.proofs.lemmas.Bool.Decides.{eqb_tells}
use Rattle.spv_blocks.specs.Blocks.{has}
use Rattle.spv_spelling.specs.Text.{firsts}
use Rattle.spv_walk.proofs.Unique.{tells, truth_apart, not_true, equal_true, true_equal, either_holds, left_holds, right_holds}

-- ---- members

pub has_cons : (y : ℕ) (ys : List ℕ) (x : ℕ) → has (y ∷ ys) x ≡ true → (y ≡ x) ⊎ (has ys x ≡ true)
has_cons y ys x h = elim (either_holds (y == x) (has ys x) h) [ inl e ↦ inl (equal_true y x e) | inr e ↦ inr e ]

pub has_head : (y : ℕ) (ys : List ℕ) (x : ℕ) → y ≡ x → has (y ∷ ys) x ≡ true
has_head y ys x e = left_holds (y == x) (has ys x) (true_equal y x e)

pub has_tail : (y : ℕ) (ys : List ℕ) (x : ℕ) → has ys x ≡ true → has (y ∷ ys) x ≡ true
has_tail y ys x h = right_holds (y == x) (has ys x) h

pub has_left : (xs ys : List ℕ) (x : ℕ) → has xs x ≡ true → has (xs ++ ys) x ≡ true
has_left [] ys x h = truth_apart false h refl
has_left (z ∷ xs) ys x h = elim (has_cons z xs x h) [
  | inl e ↦ has_head z (xs ++ ys) x e
  | inr e ↦ has_tail z (xs ++ ys) x (has_left xs ys x e)
]

pub has_right : (xs ys : List ℕ) (x : ℕ) → has ys x ≡ true → has (xs ++ ys) x ≡ true
has_right [] ys x h = h
has_right (z ∷ xs) ys x h = has_tail z (xs ++ ys) x (has_right xs ys x h)

pub has_either : (xs ys : List ℕ) (x : ℕ) → has (xs ++ ys) x ≡ true → (has xs x ≡ true) ⊎ (has ys x ≡ true)
has_either [] ys x h = inr h
has_either (z ∷ xs) ys x h = elim (has_cons z (xs ++ ys) x h) [
  | inl e ↦ inl (has_head z xs x e)
  | inr e ↦ elim (has_either xs ys x e) [ inl g ↦ inl (has_tail z xs x g) | inr g ↦ inr g ]
]

pub has_nothing : {P : Type 0} (x : ℕ) → has [] x ≡ true → P
has_nothing x h = truth_apart false h refl

pub has_not : (xs : List ℕ) (x : ℕ) → (has xs x ≡ true → ⊥) → has xs x ≡ false
has_not xs x n = elim (tells (has xs x)) [ inl h ↦ absurd (n h) | inr h ↦ h ]

-- ---- apart and distinct

abbrev pub Apart : List ℕ → List ℕ → Type 0
Apart xs ys = (x : ℕ) → has xs x ≡ true → has ys x ≡ true → ⊥

abbrev pub Distinct : List ℕ → Type 0
Distinct [] = Unit {0}
Distinct (x ∷ xs) = (has xs x ≡ false) × Distinct xs

pub distinct_append : (xs ys : List ℕ) → Distinct xs → Distinct ys → Apart xs ys → Distinct (xs ++ ys)
distinct_append [] ys a b c = b
distinct_append (x ∷ xs) ys a b c = (
  has_not (xs ++ ys) x (λ h. elim (has_either xs ys x h) [ inl g ↦ truth_apart (has xs x) g a.0 | inr g ↦ c x (has_head x xs x refl) g ]),
  distinct_append xs ys a.1 b (λ z h g. c z (has_tail x xs z h) g),
)

-- ---- how long

drop_one : ℕ → List ℕ → List ℕ
drop_one x [] = []
drop_one x (y ∷ ys) = cond (y == x) ys (y ∷ drop_one x ys)

drop_length : (x : ℕ) (ys : List ℕ) → has ys x ≡ true → length ys ≡ length (drop_one x ys) + 1
unfolding drop_one
drop_length x [] h = has_nothing x h
drop_length x (y ∷ ys) h = elim (eqb_tells y x) [
  | inl (e, p) ↦ rw e (omega arith)
  | inr (e, p) ↦ rw e (elim (has_cons y ys x h) [ inl g ↦ absurd (p g) | inr g ↦ let r = drop_length x ys g in omega arith ])
]

drop_has : (x : ℕ) (ys : List ℕ) (z : ℕ) → z ≢ x → has ys z ≡ true → has (drop_one x ys) z ≡ true
unfolding drop_one
drop_has x [] z n h = has_nothing z h
drop_has x (y ∷ ys) z n h = elim (eqb_tells y x) [
  | inl (e, p) ↦ rw e (elim (has_cons y ys z h) [ inl g ↦ absurd (n (sym g ∙ p)) | inr g ↦ g ])
  | inr (e, p) ↦ rw e (elim (has_cons y ys z h) [ inl g ↦ has_head y (drop_one x ys) z g | inr g ↦ has_tail y (drop_one x ys) z (drop_has x ys z n g) ])
]

-- distinct numbers that a list has are no more than it has
pub no_longer : (xs ys : List ℕ) → Distinct xs → ((x : ℕ) → has xs x ≡ true → has ys x ≡ true) → length xs ≤ length ys
no_longer [] ys d h = omega arith
no_longer (x ∷ xs) ys d h =
    let r = no_longer xs (drop_one x ys) d.1
    (λ z g. drop_has x ys z (λ e. truth_apart (has xs x) (subst (λ j. has xs j ≡ true) e g) d.0) (h z (has_tail x xs z g))) in
    let l = drop_length x ys (h x (has_head x xs x refl)) in
    omega arith

-- ---- numbers where they stand first

module _ (g : List ℕ → ℕ → List ℕ)
    (stays : (s : List ℕ) (x : ℕ) → has s x ≡ true → g s x ≡ s)
    (adds : (s : List ℕ) (x : ℕ) → has (g s x) x ≡ true)
    (keeps : (s : List ℕ) (x y : ℕ) → has s y ≡ true → has (g s x) y ≡ true) where
  -- a number that is there may be left out
  fold_without : (ys s : List ℕ) (x : ℕ) (p : ℕ → Bool) → (p x ≡ true → has s x ≡ true)
      → fold g s (filter p (filter (λ y. not (y == x)) ys)) ≡ fold g s (filter p ys)
  fold_without [] s x p h = refl
  fold_without (y ∷ ys) s x p h = elim (eqb_tells y x) [
    | inl (e, q) ↦ elim (tells (p y)) [
      | inl t ↦ rw (e, t) (fold_without ys s x p h ∙ ap (λ z. fold g z (filter p ys))
          (sym (stays s y (subst (λ j. has s j ≡ true) (sym q) (h (subst (λ j. p j ≡ true) q t))))))
      | inr t ↦ rw (e, t) (fold_without ys s x p h)
    ]
    | inr (e, q) ↦ elim (tells (p y)) [
      | inl t ↦ rw (e, t) (fold_without ys (g s y) x p (λ a. keeps s y x (h a)))
      | inr t ↦ rw (e, t) (fold_without ys s x p h)
    ]
  ]

  pub fold_firsts : (xs s : List ℕ) (p : ℕ → Bool) → fold g s (filter p (firsts xs)) ≡ fold g s (filter p xs)
  fold_firsts [] s p = refl
  fold_firsts (x ∷ xs) s p = elim (tells (p x)) [
    | inl t ↦ rw t (fold_without (firsts xs) (g s x) x p (λ a. adds s x) ∙ fold_firsts xs (g s x) p)
    | inr t ↦ rw t (fold_without (firsts xs) s x p (λ a. truth_apart (p x) a t) ∙ fold_firsts xs s p)
  ]

firsts_without : (x : ℕ) (xs : List ℕ) (z : ℕ) → z ≢ x → has xs z ≡ true → has (filter (λ y. not (y == x)) xs) z ≡ true
firsts_without x [] z n h = has_nothing z h
firsts_without x (y ∷ ys) z n h = elim (eqb_tells y x) [
  | inl (e, p) ↦ rw e (elim (has_cons y ys z h) [ inl g ↦ absurd (n (sym g ∙ p)) | inr g ↦ firsts_without x ys z n g ])
  | inr (e, p) ↦ rw e (elim (has_cons y ys z h) [
    | inl g ↦ has_head y (filter (λ y. not (y == x)) ys) z g
    | inr g ↦ has_tail y (filter (λ y. not (y == x)) ys) z (firsts_without x ys z n g)
  ])
]

pub filter_has : (p : ℕ → Bool) (xs : List ℕ) (z : ℕ) → has (filter p xs) z ≡ true → (has xs z ≡ true) × (p z ≡ true)
filter_has p [] z h = has_nothing z h
filter_has p (y ∷ ys) z h = elim (tells (p y)) [
  | inl t ↦ elim (has_cons y (filter p ys) z (subst (λ b. has (cond b (y ∷ filter p ys) (filter p ys)) z ≡ true) t h)) [
    | inl g ↦ (has_head y ys z g, subst (λ j. p j ≡ true) g t)
    | inr g ↦ let r = filter_has p ys z g in (has_tail y ys z r.0, r.1)
  ]
  | inr t ↦ let r = filter_has p ys z (subst (λ b. has (cond b (y ∷ filter p ys) (filter p ys)) z ≡ true) t h) in (has_tail y ys z r.0, r.1)
]

filter_distinct : (p : ℕ → Bool) (xs : List ℕ) → Distinct xs → Distinct (filter p xs)
filter_distinct p [] d = tt
filter_distinct p (y ∷ ys) d = elim (tells (p y)) [
  | inl t ↦ rw t (has_not (filter p ys) y (λ h. truth_apart (has ys y) (filter_has p ys y h).0 d.0), filter_distinct p ys d.1)
  | inr t ↦ rw t (filter_distinct p ys d.1)
]

pub firsts_has : (xs : List ℕ) (z : ℕ) → has xs z ≡ true → has (firsts xs) z ≡ true
firsts_has [] z h = h
firsts_has (x ∷ xs) z h = elim (eqb_tells x z) [
  | inl (e, p) ↦ has_head x (filter (λ y. not (y == x)) (firsts xs)) z p
  | inr (e, p) ↦ elim (has_cons x xs z h) [
    | inl g ↦ absurd (p g)
    | inr g ↦ has_tail x (filter (λ y. not (y == x)) (firsts xs)) z (firsts_without x (firsts xs) z (λ q. p (sym q)) (firsts_has xs z g))
  ]
]

pub has_firsts : (xs : List ℕ) (z : ℕ) → has (firsts xs) z ≡ true → has xs z ≡ true
has_firsts [] z h = h
has_firsts (x ∷ xs) z h = elim (has_cons x (filter (λ y. not (y == x)) (firsts xs)) z h) [
  | inl g ↦ has_head x xs z g
  | inr g ↦ has_tail x xs z (has_firsts xs z (filter_has (λ y. not (y == x)) (firsts xs) z g).0)
]

pub firsts_distinct : (xs : List ℕ) → Distinct (firsts xs)
firsts_distinct [] = tt
firsts_distinct (x ∷ xs) = (
  has_not (filter (λ y. not (y == x)) (firsts xs)) x
      (λ h. truth_apart (x == x) (true_equal x x refl) (not_true (x == x) (filter_has (λ y. not (y == x)) (firsts xs) x h).1)),
  filter_distinct (λ y. not (y == x)) (firsts xs) (firsts_distinct xs),
)
