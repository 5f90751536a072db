-- The edges of a graph that is turned round, or whose rows name each place once.
use Rattle.std.proofs.Common.{◌≡◌, ℕ, ◌+◌, ◌<◌, inl, inr, Bool, true, false, cond, not, ◌||◌, nat_eq, nat_lt, List, [], ◌∷◌, length, filter, refl, sym, ap, ◌∙◌, subst, arith}
use Rattle.std.specs.List.{Contains, range_with_len}
use Rattle.std.proofs.lemmas.Bool.{false≢true, cases_eq}
use Rattle.std.proofs.lemmas.List.{get_or-map, length-map}
use Rattle.std.proofs.lemmas.List.FromFn.{length-range_with_len, get_or-range_with_len, get_or-map-range_with_len, length-map-range_with_len}
use Rattle.graph.specs.Rows.{row, HasEdge}
use Rattle.graph.specs.Reaching.{Reaches}
use Rattle.graph.specs.Reaching.Reaches.{Here, Along}
use Rattle.graph.specs.Reversing.{names, predecessors, reversed}
use Rattle.graph.specs.Distinct.{distinct, without, places_below, distinct_rows}
use Rattle.graph.proofs.Elements.{same_test, differs, equal, less_test, test_less, contains_first, contains_later, contains_cases, contains_none}
use Rattle.graph.proofs.ReachedPlaces.{edge-within}

-- ---- elements by tests

or_right : (a b : Bool) → b ≡ true → (a || b) ≡ true
or_right true b e = refl
or_right false b e = e

-- induction on the list
pub element-named : (xs : List ℕ) (x : ℕ) → Contains xs x → names xs x ≡ true
element-named [] x c = absurd (contains_none x c)
element-named (y ∷ xs) x c = elim (contains_cases xs y x c) [ inl e ↦ ap (λ (b : Bool). b || names xs x) (same_test x y e) | inr later ↦ or_right (nat_eq x y) (names xs x) (element-named xs x later) ]

named_at : (xs : List ℕ) (x y : ℕ) (b : Bool) → nat_eq x y ≡ b → (b || names xs x) ≡ true → (names xs x ≡ true → Contains xs x) → Contains (y ∷ xs) x
named_at xs x y true e h later = subst (λ (z : ℕ). Contains (y ∷ xs) z) (sym (equal x y e)) (contains_first xs y)
named_at xs x y false e h later = contains_later xs y x (later h)

pub named-element : (xs : List ℕ) (x : ℕ) → names xs x ≡ true → Contains xs x
named-element [] x h = absurd (false≢true h)
named-element (y ∷ xs) x h = named_at xs x y (nat_eq x y) refl h (named-element xs x)

kept_here : (test : ℕ → Bool) (xs : List ℕ) (y : ℕ) (b : Bool) → b ≡ true → Contains (cond b (y ∷ filter test xs) (filter test xs)) y
kept_here test xs y b e = subst (λ (c : Bool). Contains (cond c (y ∷ filter test xs) (filter test xs)) y) (sym e) (contains_first (filter test xs) y)

kept_later : (xs : List ℕ) (x y : ℕ) (b : Bool) → Contains xs x → Contains (cond b (y ∷ xs) xs) x
kept_later xs x y true c = contains_later xs y x c
kept_later xs x y false c = c

-- what passes the test stays; induction on the list
pub element-kept : (test : ℕ → Bool) (xs : List ℕ) (x : ℕ) → Contains xs x → test x ≡ true → Contains (filter test xs) x
element-kept test [] x c e = absurd (contains_none x c)
element-kept test (y ∷ xs) x c e = elim (contains_cases xs y x c) [
  | inl is ↦ subst (λ (z : ℕ). Contains (filter test (y ∷ xs)) z) (sym is) (kept_here test xs y (test y) (ap test (sym is) ∙ e))
  | inr later ↦ kept_later (filter test xs) x y (test y) (element-kept test xs x later e)
]

kept_at : (test : ℕ → Bool) (xs ys : List ℕ) (x y : ℕ) (b : Bool) → test y ≡ b → Contains (cond b (y ∷ ys) ys) x → (Contains ys x → Contains xs x × (test x ≡ true)) → Contains (y ∷ xs) x × (test x ≡ true)
kept_at test xs ys x y true e c later = elim (contains_cases ys y x c) [
  | inl is ↦ (subst (λ (z : ℕ). Contains (y ∷ xs) z) (sym is) (contains_first xs y), ap test is ∙ e)
  | inr l ↦ (let r = later l in (contains_later xs y x r.0, r.1))
]
kept_at test xs ys x y false e c later = let r = later c in (contains_later xs y x r.0, r.1)

-- and nothing else; induction on the list
pub kept-element : (test : ℕ → Bool) (xs : List ℕ) (x : ℕ) → Contains (filter test xs) x → Contains xs x × (test x ≡ true)
kept-element test [] x c = absurd (contains_none x c)
kept-element test (y ∷ xs) x c = kept_at test xs (filter test xs) x y (test y) refl c (kept-element test xs x)

-- ---- turned round

in_range : (n p : ℕ) → p < n → Contains (range_with_len 0 n) p
in_range n p less = (p, subst (λ (k : ℕ). p < k) (sym (length-range_with_len 0 n)) less, get_or-range_with_len 0 n p p less ∙ (omega arith))

range_in : (n p : ℕ) → Contains (range_with_len 0 n) p → p < n
range_in n p c =
    let short : c.0 < n = subst (λ (k : ℕ). c.0 < k) (length-range_with_len 0 n) c.1 in
    let at : 0 + c.0 ≡ p = sym (get_or-range_with_len 0 n c.0 p short) ∙ c.2 in
    omega arith

pub row-reversed : (rows : List (List ℕ)) (t : ℕ) → t < length rows → row (reversed rows) t ≡ predecessors rows t
row-reversed rows t less = get_or-map-range_with_len (predecessors rows) 0 (length rows) t t [] less (omega arith)

pub length-reversed : (rows : List (List ℕ)) → length (reversed rows) ≡ length rows
length-reversed rows = length-map-range_with_len (predecessors rows) 0 (length rows)

-- an edge to a place leads back
pub edge-reversed : (rows : List (List ℕ)) (p t : ℕ) → t < length rows → HasEdge rows p t → HasEdge (reversed rows) t p
edge-reversed rows p t less e =
    subst (λ (r : List ℕ). Contains r p) (sym (row-reversed rows t less))
    (element-kept (λ from. names (row rows from) t) (range_with_len 0 (length rows)) p (in_range (length rows) p (edge-within rows p t e)) (element-named (row rows p) t e))

pub reversed-edge : (rows : List (List ℕ)) (p t : ℕ) → HasEdge (reversed rows) t p → HasEdge rows p t × (p < length rows) × (t < length rows)
reversed-edge rows p t e =
    let less : t < length rows = subst (λ (n : ℕ). t < n) (length-reversed rows) (edge-within (reversed rows) t p e) in
    let k = kept-element (λ from. names (row rows from) t) (range_with_len 0 (length rows)) p (subst (λ (r : List ℕ). Contains r p) (row-reversed rows t less) e) in
    (named-element (row rows p) t k.1, range_in (length rows) p k.0, less)

-- a walk may begin with an edge; induction on the rest of the walk
pub edge-reaches : (rows : List (List ℕ)) (p q r : ℕ) → HasEdge rows p q → Reaches rows q r → Reaches rows p r
edge-reaches rows p q r e Here = Along Here e
edge-reaches rows p q r e (Along w last) = Along (edge-reaches rows p q _ e w) last

-- a walk to a place leads back; induction on the walk
pub walk-reversed : (rows : List (List ℕ)) (a b : ℕ) → b < length rows → Reaches rows a b → Reaches (reversed rows) b a
walk-reversed rows a b less Here = Here
walk-reversed rows a b less (Along w last) = edge-reaches (reversed rows) b _ a (edge-reversed rows _ b less last) (walk-reversed rows a _ (edge-within rows _ b last) w)

pub reversed-walk : (rows : List (List ℕ)) (a b : ℕ) → Reaches (reversed rows) a b → Reaches rows b a
reversed-walk rows a b Here = Here
reversed-walk rows a b (Along w last) = edge-reaches rows b _ a (reversed-edge rows b _ last).0 (reversed-walk rows a _ w)

-- ---- each place once

not_same : (x y : ℕ) → (x ≡ y → ⊥) → not (nat_eq x y) ≡ true
not_same x y ne = ap not (differs x y ne)

-- induction on the list
pub element-distinct : (xs : List ℕ) (x : ℕ) → Contains xs x → Contains (distinct xs) x
element-distinct [] x c = c
element-distinct (y ∷ xs) x c = elim (cases_eq x y) [
  | inl e ↦ subst (λ (z : ℕ). Contains (distinct (y ∷ xs)) z) (sym e) (contains_first (without y (distinct xs)) y)
  | inr ne ↦ contains_later (without y (distinct xs)) y x (element-kept (λ z. not (nat_eq z y)) (distinct xs) x (elim (contains_cases xs y x c) [ inl is ↦ absurd (ne is) | inr later ↦ element-distinct xs x later ]) (not_same x y ne))
]

pub distinct-element : (xs : List ℕ) (x : ℕ) → Contains (distinct xs) x → Contains xs x
distinct-element [] x c = c
distinct-element (y ∷ xs) x c = elim (contains_cases (without y (distinct xs)) y x c) [
  | inl e ↦ subst (λ (z : ℕ). Contains (y ∷ xs) z) (sym e) (contains_first xs y)
  | inr later ↦ contains_later xs y x (distinct-element xs x (kept-element (λ z. not (nat_eq z y)) (distinct xs) x later).0)
]

pub row-distinct : (rows : List (List ℕ)) (p : ℕ) → p < length rows → row (distinct_rows rows) p ≡ distinct (places_below (length rows) (row rows p))
row-distinct rows p less = get_or-map (λ r. distinct (places_below (length rows) r)) rows p [] [] less

pub edge-distinct : (rows : List (List ℕ)) (p q : ℕ) → q < length rows → HasEdge rows p q → HasEdge (distinct_rows rows) p q
edge-distinct rows p q less e =
    subst (λ (r : List ℕ). Contains r q) (sym (row-distinct rows p (edge-within rows p q e)))
    (element-distinct (places_below (length rows) (row rows p)) q (element-kept (λ x. nat_lt x (length rows)) (row rows p) q e (less_test q (length rows) less)))

pub distinct-edge : (rows : List (List ℕ)) (p q : ℕ) → HasEdge (distinct_rows rows) p q → HasEdge rows p q × (q < length rows)
distinct-edge rows p q e =
    let less : p < length rows = subst (λ (n : ℕ). p < n) (length-map rows (λ r. distinct (places_below (length rows) r))) (edge-within (distinct_rows rows) p q e) in
    let d = distinct-element (places_below (length rows) (row rows p)) q (subst (λ (r : List ℕ). Contains r q) (row-distinct rows p less) e) in
    let k = kept-element (λ x. nat_lt x (length rows)) (row rows p) q d in
    (k.0, test_less q (length rows) k.1)
