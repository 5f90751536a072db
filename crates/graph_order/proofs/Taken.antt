-- What is so of an order under way: a place stands in it as soon as all that leads to it is passed.
use Rattle.std.proofs.Common.{◌≡◌, ◌≢◌, ℕ, zero, suc, ◌+◌, ◌-◌, ◌<◌, ◌≤◌, ◌⊎◌, inl, inr, Bool, true, false, cond, not, ◌&&◌, ◌||◌, nat_eq, nat_lt, ◌==◌, List, [], ◌∷◌, ◌++◌, length, take, filter, get_or, set, get_or-set_same, get_or-set_other, length-set, slice_get, Some, refl, sym, ap, ◌∙◌, subst, arith}
use Rattle.std.specs.List.{Contains, IsDistinct, AllByRecursion}
use Rattle.std.proofs.lemmas.Bool.Decides.{eqb_tells, nat_tests}
use Rattle.std.proofs.lemmas.List.{length_push}
use Rattle.graph.specs.Rows.{HasEdge}
use Rattle.graph.specs.Reversing.{predecessors}
use Rattle.graph.proofs.Elements.{differs, equal, contains_first, contains_later, contains_cases, contains_none}
use Rattle.std.proofs.lemmas.List.Elements.{Contains-push, Contains-push_cases, Contains-append_left}
use Rattle.graph.proofs.Edges.{element-kept, row-reversed, edge-reversed}
use Rattle.graph.proofs.Repetition.{predecessors-once}
use Rattle.graph_order.specs.Taking.{Taking, waits_of, release, passed}

-- which edges are passed
abbrev pub Gone : Type 0
Gone = (p q : ℕ) → Bool

-- what leads to a place along an edge that is not passed
abbrev pub ahead : List (List ℕ) → Gone → (q : ℕ) → List ℕ
ahead rows gone q = filter (λ p. not (gone p q)) (predecessors rows q)

-- one more edge is passed
abbrev pub gone_too : Gone → (p q : ℕ) → Gone
gone_too gone p q a b = gone a b || (a == p && b == q)

-- ---- one element less of a list

filter_same : (test other : ℕ → Bool) (xs : List ℕ) → ((x : ℕ) → Contains xs x → test x ≡ other x) → filter test xs ≡ filter other xs
filter_same test other [] h = refl
filter_same test other (x ∷ xs) h =
    (λ i. cond (h x (contains_first xs x) i) (x ∷ filter test xs) (filter test xs))
    ∙ ap (λ ys. cond (other x) (x ∷ ys) ys) (filter_same test other xs (λ y c. h y (contains_later xs x y c)))

none_is : (x : ℕ) (xs : List ℕ) → AllByRecursion (λ z. nat_eq x z ≡ false) xs → (y : ℕ) → Contains xs y → nat_eq x y ≡ false
none_is x [] h y c = absurd (contains_none y c)
none_is x (z ∷ xs) h y c = elim (contains_cases xs z y c) [ inl e ↦ subst (λ k. nat_eq x k ≡ false) (sym e) h.0 | inr later ↦ none_is x xs h.1 y later ]

-- the test without one number
abbrev pub but : (test : ℕ → Bool) (x : ℕ) → ℕ → Bool
but test x y = test y && not (y == x)

but_differs : (test : ℕ → Bool) (x y : ℕ) → nat_eq x y ≡ false → test y ≡ but test x y
but_differs test x y e = by (test y) (y == x) (turned x y e)
  where
    turned : (x y : ℕ) → nat_eq x y ≡ false → (y == x) ≡ false
    turned x y e = grind (arith, nat_tests)

    by : (a b : Bool) → b ≡ false → a ≡ (a && not b)
    by true b e = rw e refl
    by false b e = refl

but_itself : (test : ℕ → Bool) (x : ℕ) → but test x x ≡ false
but_itself test x = by (test x) (x == x) (itself x)
  where
    itself : (x : ℕ) → (x == x) ≡ true
    itself x = grind (arith, nat_tests)

    by : (a b : Bool) → b ≡ true → (a && not b) ≡ false
    by true b e = rw e refl
    by false b e = refl

-- a distinct list has one element less of which a test is passed, where it is no more passed by one that passed it; induction on the list
pub filter_but : (test : ℕ → Bool) (x : ℕ) (xs : List ℕ) → IsDistinct nat_eq xs → Contains xs x → test x ≡ true
    → length (filter (but test x) xs) + 1 ≡ length (filter test xs)
unfolding IsDistinct
filter_but test x [] d c e = absurd (contains_none x c)
filter_but test x (y ∷ ys) d c e = elim (contains_cases ys y x c) [
  | inl is ↦ here is
  | inr later ↦ there later (filter_but test x ys d.1 later e) (none_is y ys d.0 x later)
]
  where
    same_rest : x ≡ y → filter test ys ≡ filter (but test x) ys
    same_rest is = filter_same test (but test x) ys (λ z c. but_differs test x z (subst (λ k. nat_eq k z ≡ false) (sym is) (none_is y ys d.0 z c)))

    here : x ≡ y → length (filter (but test x) (y ∷ ys)) + 1 ≡ length (filter test (y ∷ ys))
    here is =
        let gone : but test x y ≡ false = subst (λ k. but test x k ≡ false) is (but_itself test x) in
        let stays : test y ≡ true = subst (λ k. test k ≡ true) is e in
        rw (gone, stays) (let same = ap length (same_rest is) in omega arith)

    one_more : (b : Bool) (m n : ℕ) → m + 1 ≡ n → (zs ws : List ℕ) → length zs ≡ m → length ws ≡ n → length (cond b (y ∷ zs) zs) + 1 ≡ length (cond b (y ∷ ws) ws)
    one_more true m n h zs ws a b = omega arith
    one_more false m n h zs ws a b = omega arith

    there : Contains ys x → length (filter (but test x) ys) + 1 ≡ length (filter test ys) → nat_eq y x ≡ false
        → length (filter (but test x) (y ∷ ys)) + 1 ≡ length (filter test (y ∷ ys))
    there later h ne =
        rw (sym (but_differs test x y (turned y x ne)))
        (one_more (test y) (length (filter (but test x) ys)) (length (filter test ys)) h (filter (but test x) ys) (filter test ys) refl refl)
      where
        turned : (y x : ℕ) → nat_eq y x ≡ false → nat_eq x y ≡ false
        turned y x ne = grind (arith, nat_tests)

-- ---- an order under way

-- the first k places of the order are those along whose edges it was passed
pub record IsTaking (rows : List (List ℕ)) (k : ℕ) (gone : Gone) (t : Taking) : Type 0 where
  pub count : length t.waits ≡ length rows
  pub counted : (q : ℕ) → q < length rows → waits_of t q ≡ length (ahead rows gone q)
  pub within : (q : ℕ) → Contains t.order q → q < length rows
  pub waits_none : (q : ℕ) → Contains t.order q → waits_of t q ≡ 0
  pub listed : (q : ℕ) → q < length rows → waits_of t q ≡ 0 → Contains t.order q
  pub once : IsDistinct nat_eq t.order
  pub some : k ≤ length t.order
  pub from : (p q : ℕ) → gone p q ≡ true → Contains (take k t.order) p
  pub behind : (j q : ℕ) → slice_get t.order j ≡ Some q → (p : ℕ) → HasEdge rows p q → Contains (take j t.order) p

-- ---- lists that grow at their end

pub take_pushed : (k : ℕ) (xs : List ℕ) (x : ℕ) → k ≤ length xs → take k (xs ++ x ∷ []) ≡ take k xs
take_pushed zero xs x h = refl
take_pushed (suc k) [] x h = absurd (omega (arith, h))
take_pushed (suc k) (y ∷ ys) x h = ap (λ zs. y ∷ zs) (take_pushed k ys x (omega arith))

pub contains_pushed : (xs : List ℕ) (x y : ℕ) → Contains (xs ++ x ∷ []) y → Contains xs y ⊎ (y ≡ x)
contains_pushed xs x y c = elim (Contains-push_cases xs x y c) [ inl old ↦ inl old | inr e ↦ inr (sym e) ]

all_pushed : (z x : ℕ) (xs : List ℕ) → nat_eq z x ≡ false → AllByRecursion (λ y. nat_eq z y ≡ false) xs → AllByRecursion (λ y. nat_eq z y ≡ false) (xs ++ x ∷ [])
all_pushed z x [] e h = (e, tt)
all_pushed z x (y ∷ ys) e h = (h.0, all_pushed z x ys e h.1)

-- induction on the list
pub distinct_pushed : (xs : List ℕ) (x : ℕ) → IsDistinct nat_eq xs → (Contains xs x → ⊥) → IsDistinct nat_eq (xs ++ x ∷ [])
unfolding IsDistinct
distinct_pushed [] x d none = (tt, tt)
distinct_pushed (y ∷ ys) x d none = (
  all_pushed y x ys (differs y x (λ e. none (subst (λ k. Contains (y ∷ ys) k) e (contains_first ys y)))) d.0,
  distinct_pushed ys x d.1 (λ c. none (contains_later ys y x c)),
)

pub take_more : (j k : ℕ) (xs : List ℕ) (p : ℕ) → k ≤ j → Contains (take k xs) p → Contains (take j xs) p
take_more j zero xs p h c = absurd (contains_none p c)
take_more zero (suc k) xs p h c = absurd (omega (arith, h))
take_more (suc j) (suc k) [] p h c = c
take_more (suc j) (suc k) (x ∷ xs) p h c = elim (contains_cases (take k xs) x p c) [
  | inl e ↦ subst (λ z. Contains (x ∷ take j xs) z) (sym e) (contains_first (take j xs) x)
  | inr later ↦ contains_later (take j xs) x p (take_more j k xs p (omega arith) later)
]

pub taken_stands : (k : ℕ) (xs : List ℕ) (p : ℕ) → Contains (take k xs) p → Contains xs p
taken_stands zero xs p c = absurd (contains_none p c)
taken_stands (suc k) [] p c = c
taken_stands (suc k) (x ∷ xs) p c = elim (contains_cases (take k xs) x p c) [
  | inl e ↦ subst (λ z. Contains (x ∷ xs) z) (sym e) (contains_first xs x)
  | inr later ↦ contains_later xs x p (taken_stands k xs p later)
]

-- the element at a place that grows at its end: an old one, or the new one at the end
get_pushed : (xs : List ℕ) (x j q : ℕ) → slice_get (xs ++ x ∷ []) j ≡ Some q → (slice_get xs j ≡ Some q × (j < length xs)) ⊎ ((q ≡ x) × (j ≡ length xs))
get_pushed [] x zero q e = inr (cc, refl)
get_pushed [] x (suc j) q e = absurd (cc)
get_pushed (y ∷ ys) x zero q e = inl (e, omega arith)
get_pushed (y ∷ ys) x (suc j) q e = elim (get_pushed ys x j q e) [ inl h ↦ inl (h.0, omega (arith, h.1)) | inr h ↦ inr (h.0, ap suc h.1) ]

-- ---- an edge is passed

predecessor : (rows : List (List ℕ)) (p q : ℕ) → q < length rows → HasEdge rows p q → Contains (predecessors rows q) p
predecessor rows p q h e = subst (λ ps. Contains ps p) (row-reversed rows q h) (edge-reversed rows p q h e)

module _ (rows : List (List ℕ)) (k p q : ℕ) (gone : Gone) (t : Taking) (taking : IsTaking rows k gone t) (at : q < length rows) (edge : HasEdge rows p q)
    (fresh : gone p q ≡ false) (known : Contains (take k t.order) p) where
  abbrev after : Gone
  after = gone_too gone p q

  too_here : (a : ℕ) → not (after a q) ≡ but (λ b. not (gone b q)) p a
  too_here a = by (gone a q) (a == p) (q == q) (itself q)
    where
      itself : (x : ℕ) → (x == x) ≡ true
      itself x = grind (arith, nat_tests)

      by : (g e s : Bool) → s ≡ true → not (g || (e && s)) ≡ (not g && not e)
      by true e s h = refl
      by false true s h = rw h refl
      by false false s h = refl

  too_elsewhere : (a b : ℕ) → b ≢ q → after a b ≡ gone a b
  too_elsewhere a b ne = by (gone a b) (a == p) (b == q) (other b q ne)
    where
      other : (b q : ℕ) → b ≢ q → (b == q) ≡ false
      other b q ne = grind (arith, nat_tests)

      by : (g e s : Bool) → s ≡ false → (g || (e && s)) ≡ g
      by true e s h = refl
      by false true s h = h
      by false false s h = refl

  fewer : length (ahead rows after q) + 1 ≡ length (ahead rows gone q)
  fewer =
      ap (λ xs. length xs + 1) (filter_same (λ a. not (after a q)) (but (λ a. not (gone a q)) p) (predecessors rows q) (λ a c. too_here a))
      ∙ filter_but (λ a. not (gone a q)) p (predecessors rows q) (predecessors-once rows q) (predecessor rows p q at edge) (rw fresh refl)

  elsewhere : (b : ℕ) → b ≢ q → ahead rows after b ≡ ahead rows gone b
  elsewhere b ne = filter_same (λ a. not (after a b)) (λ a. not (gone a b)) (predecessors rows b) (λ a c. ap not (too_elsewhere a b ne))

  abbrev left_over : ℕ
  left_over = length (ahead rows after q)

  waits_before : waits_of t q ≡ left_over + 1
  waits_before = taking.counted q at ∙ sym fewer

  not_listed : Contains t.order q → ⊥
  not_listed c = let none = taking.waits_none q c in let some = waits_before in absurd (omega arith)

  abbrev waits_after : List ℕ
  waits_after = set t.waits q (waits_of t q - 1)

  waits_here : get_or waits_after q 0 ≡ left_over
  waits_here = let is = get_or-set_same t.waits q (waits_of t q - 1) 0 (subst (λ n. q < n) (sym taking.count) at) in let was = waits_before in is ∙ omega arith

  waits_elsewhere : (b : ℕ) → b ≢ q → get_or waits_after b 0 ≡ get_or t.waits b 0
  waits_elsewhere b ne = get_or-set_other t.waits q b (waits_of t q - 1) 0 ne

  from_after : (order : List ℕ) → ((a : ℕ) → Contains (take k t.order) a → Contains (take k order) a) → (a b : ℕ) → after a b ≡ true → Contains (take k order) a
  from_after order keeps a b e = by (gone a b) (a == p) (b == q) refl refl e
    where
      by : (g h s : Bool) → gone a b ≡ g → (a == p) ≡ h → (g || (h && s)) ≡ true → Contains (take k order) a
      by true h s is same e = keeps a (taking.from a b is)
      by false true s is same e = keeps a (subst (λ z. Contains (take k t.order) z) (sym (equal a p same)) known)
      by false false s is same e = absurd (cc)

  all_gone : left_over ≡ 0 → (a : ℕ) → HasEdge rows a q → after a q ≡ true
  all_gone none a e = by (after a q) refl
    where
      by : (g : Bool) → after a q ≡ g → after a q ≡ true
      by true is = is
      by false is = absurd (some_left (ahead rows after q) none (element-kept (λ b. not (after b q)) (predecessors rows q) a (predecessor rows a q at e) (rw is refl)))
        where
          some_left : (xs : List ℕ) → length xs ≡ 0 → Contains xs a → ⊥
          some_left xs h c = absurd (omega (arith, h, c.1))

  -- the place is not come to yet
  still_waits : left_over ≢ 0 → IsTaking rows k after (record { waits = waits_after; order = t.order })
  still_waits some = record {
    count = length-set t.waits q (waits_of t q - 1) ∙ taking.count;
    counted = λ b less. by_cases b (λ e. waits_at b e) (λ ne. waits_elsewhere b ne ∙ taking.counted b less ∙ ap length (sym (elsewhere b ne)));
    within = taking.within;
    waits_none = λ b c. waits_elsewhere b (other b c) ∙ taking.waits_none b c;
    listed = λ b less none. by_cases b (λ e. absurd (some (ap (λ z. length (ahead rows after z)) (sym e) ∙ sym (waits_at b e) ∙ none))) (λ ne. taking.listed b less (sym (waits_elsewhere b ne) ∙ none));
    once = taking.once;
    some = taking.some;
    from = from_after t.order (λ a c. c);
    behind = taking.behind;
  }
    where
      by_cases : {X : Type 0} (b : ℕ) → (b ≡ q → X) → (b ≢ q → X) → X
      by_cases b here there = elim (eqb_tells b q) [ inl (e, is) ↦ here is | inr (e, ne) ↦ there ne ]

      waits_at : (b : ℕ) → b ≡ q → get_or waits_after b 0 ≡ length (ahead rows after b)
      waits_at b e = subst (λ z. get_or waits_after z 0 ≡ length (ahead rows after z)) (sym e) waits_here

      other : (b : ℕ) → Contains t.order b → b ≢ q
      other b c e = not_listed (subst (λ z. Contains t.order z) e c)

  -- the place was waited for last: it comes next
  comes_next : left_over ≡ 0 → IsTaking rows k after (record { waits = waits_after; order = t.order ++ q ∷ [] })
  comes_next none = record {
    count = length-set t.waits q (waits_of t q - 1) ∙ taking.count;
    counted = λ b less. by_cases b (λ e. waits_at b e) (λ ne. waits_elsewhere b ne ∙ taking.counted b less ∙ ap length (sym (elsewhere b ne)));
    within = λ b c. elim (contains_pushed t.order q b c) [ inl old ↦ taking.within b old | inr e ↦ subst (λ z. z < length rows) (sym e) at ];
    waits_none = λ b c. elim (contains_pushed t.order q b c) [
      | inl old ↦ waits_elsewhere b (other b old) ∙ taking.waits_none b old
      | inr e ↦ waits_at b e ∙ ap (λ z. length (ahead rows after z)) e ∙ none
    ];
    listed = λ b less n. by_cases b (λ e. subst (λ z. Contains (t.order ++ q ∷ []) z) (sym e) (Contains-push t.order q))
        (λ ne. Contains-append_left t.order (q ∷ []) b (taking.listed b less (sym (waits_elsewhere b ne) ∙ n)));
    once = distinct_pushed t.order q taking.once not_listed;
    some = let long = length_push t.order q in let here = taking.some in omega arith;
    from = from_after (t.order ++ q ∷ []) keeps;
    behind = λ j b e a edge_of. elim (get_pushed t.order q j b e) [
      | inl old ↦ subst (λ xs. Contains xs a) (sym (take_pushed j t.order q (omega (arith, old.1)))) (taking.behind j b old.0 a edge_of)
      | inr new ↦ newest j a (new.1) (all_gone none a (subst (λ z. HasEdge rows a z) new.0 edge_of))
    ];
  }
    where
      by_cases : {X : Type 0} (b : ℕ) → (b ≡ q → X) → (b ≢ q → X) → X
      by_cases b here there = elim (eqb_tells b q) [ inl (e, is) ↦ here is | inr (e, ne) ↦ there ne ]

      waits_at : (b : ℕ) → b ≡ q → get_or waits_after b 0 ≡ length (ahead rows after b)
      waits_at b e = subst (λ z. get_or waits_after z 0 ≡ length (ahead rows after z)) (sym e) waits_here

      other : (b : ℕ) → Contains t.order b → b ≢ q
      other b c e = not_listed (subst (λ z. Contains t.order z) e c)

      keeps : (a : ℕ) → Contains (take k t.order) a → Contains (take k (t.order ++ q ∷ [])) a
      keeps a c = subst (λ xs. Contains xs a) (sym (take_pushed k t.order q taking.some)) c

      newest : (j a : ℕ) → j ≡ length t.order → after a q ≡ true → Contains (take j (t.order ++ q ∷ [])) a
      newest j a e g =
          subst (λ xs. Contains xs a) (sym (take_pushed j t.order q (omega (arith, e))))
          (take_more j k t.order a (let some = taking.some in omega (arith, e)) (from_after t.order (λ b c. c) a q g))

  pub releases : IsTaking rows k after (release t q)
  releases = rw (tests (waits_of t q) waits_before) (by (waits_of t q - 1 == 0) refl)
    where
      tests : (w : ℕ) → w ≡ left_over + 1 → (nat_lt q (length t.waits) && nat_lt 0 w) ≡ true
      tests w e = let inside = subst (λ n. q < n) (sym taking.count) at in grind (arith, nat_tests)

      none_left : (w : ℕ) → w ≡ left_over + 1 → (w - 1 == 0) ≡ true → left_over ≡ 0
      none_left w e h = grind (arith, nat_tests)

      some_left : (w : ℕ) → w ≡ left_over + 1 → (w - 1 == 0) ≡ false → left_over ≢ 0
      some_left w e h = λ z. absurd (grind (arith, nat_tests))

      by : (z : Bool) → (waits_of t q - 1 == 0) ≡ z → IsTaking rows k after (record { waits = waits_after; order = cond z (t.order ++ q ∷ []) t.order })
      by true e = comes_next (none_left (waits_of t q) waits_before e)
      by false e = still_waits (some_left (waits_of t q) waits_before e)

-- ---- the edges of a place are passed

-- what is so once they are
pub record Passes (rows : List (List ℕ)) (k p : ℕ) (places : List ℕ) (gone : Gone) (before t : Taking) : Type 0 where
  pub now_gone : Gone
  pub taking : IsTaking rows k now_gone t
  pub these : (q : ℕ) → Contains places q → now_gone p q ≡ true
  pub still : (a b : ℕ) → gone a b ≡ true → now_gone a b ≡ true
  pub front : take k t.order ≡ take k before.order

too_holds : (gone : Gone) (p q a b : ℕ) → gone a b ≡ true → gone_too gone p q a b ≡ true
too_holds gone p q a b e = rw e refl

too_itself : (gone : Gone) (p q : ℕ) → gone_too gone p q p q ≡ true
too_itself gone p q = by (gone p q) (p == p) (q == q) (itself p) (itself q)
  where
    itself : (x : ℕ) → (x == x) ≡ true
    itself x = grind (arith, nat_tests)

    by : (g h s : Bool) → h ≡ true → s ≡ true → (g || (h && s)) ≡ true
    by true h s e d = refl
    by false h s e d = rw (e, d) refl

too_other : (gone : Gone) (p q b : ℕ) → nat_eq q b ≡ false → gone p b ≡ false → gone_too gone p q p b ≡ false
too_other gone p q b ne e = by (gone p b) (p == p) (b == q) e (other q b ne)
  where
    other : (q b : ℕ) → nat_eq q b ≡ false → (b == q) ≡ false
    other q b ne = grind (arith, nat_tests)

    by : (g h s : Bool) → g ≡ false → s ≡ false → (g || (h && s)) ≡ false
    by g true s e d = rw (e, d) refl
    by g false s e d = rw e refl

pub front_stays : (k : ℕ) (t : Taking) (q : ℕ) → k ≤ length t.order → take k (release t q).order ≡ take k t.order
front_stays k t q h = by (nat_lt q (length t.waits) && nat_lt 0 (waits_of t q)) (waits_of t q - 1 == 0)
  where
    by : (a b : Bool) → take k (cond a (record { waits = set t.waits q (waits_of t q - 1); order = cond b (t.order ++ q ∷ []) t.order }) t).order ≡ take k t.order
    by true true = take_pushed k t.order q h
    by true false = refl
    by false b = refl

-- induction on the list of its targets
pub passes_all : (rows : List (List ℕ)) (k p : ℕ) (places : List ℕ) (gone : Gone) (t : Taking) → IsTaking rows k gone t → IsDistinct nat_eq places
    → ((q : ℕ) → Contains places q → (q < length rows) × HasEdge rows p q × (gone p q ≡ false)) → Contains (take k t.order) p
    → Passes rows k p places gone t (passed t places)
unfolding IsDistinct
passes_all rows k p [] gone t taking d each known =
    record { now_gone = gone; taking = taking; these = λ q c. absurd (contains_none q c); still = λ a b e. e; front = refl }
passes_all rows k p (q ∷ places) gone t taking d each known =
    onward
    (passes_all rows k p places (gone_too gone p q) (release t q)
    (releases rows k p q gone t taking here.0 here.1 here.2 known) d.1
    (λ b c. let h = each b (contains_later places q b c) in (h.0, h.1, too_other gone p q b (none_is q places d.0 b c) h.2))
    (subst (λ xs. Contains xs p) (sym (front_stays k t q taking.some)) known))
  where
    here : (q < length rows) × HasEdge rows p q × (gone p q ≡ false)
    here = each q (contains_first places q)

    onward : Passes rows k p places (gone_too gone p q) (release t q) (passed (release t q) places)
        → Passes rows k p (q ∷ places) gone t (passed (release t q) places)
    onward h = record {
      now_gone = h.now_gone;
      taking = h.taking;
      these = λ b c. elim (contains_cases places q b c) [
        | inl e ↦ subst (λ z. h.now_gone p z ≡ true) (sym e) (h.still p q (too_itself gone p q))
        | inr later ↦ h.these b later
      ];
      still = λ a b e. h.still a b (too_holds gone p q a b e);
      front = h.front ∙ front_stays k t q taking.some;
    }
