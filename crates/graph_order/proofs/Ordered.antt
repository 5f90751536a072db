-- An order from its beginning, place by place, to its end.
use Rattle.std.proofs.Common.{◌≡◌, ◌≢◌, ℕ, zero, suc, ◌+◌, ◌-◌, ◌<◌, ◌≤◌, inl, inr, Bool, true, false, cond, not, ◌||◌, nat_eq, ◌==◌, List, [], ◌∷◌, ◌++◌, length, take, filter, fold, get_or, slice_get, Option, Some, None, MatchOption, option_map, refl, sym, ap, ◌∙◌, subst, arith}
use Rattle.std.specs.declared.alloc.Global.{Global}
use Rattle.std.specs.declared.vec.Vec.{Vec}
use Rattle.std.specs.Cmp.{IsEquivalence}
use Rattle.std.specs.List.{Contains, IsDistinct, AllByRecursion, list_any, range_with_len}
use Rattle.std.proofs.lemmas.Bool.Decides.{eqb_tells, nat_tests}
use Rattle.std.proofs.Math.ListN.{get_or-append}
use Rattle.std.proofs.lemmas.List.{take_all, length_push, get_or_push}
use Rattle.std.proofs.lemmas.List.Elements.{Contains-push, Contains-append_left}
use Rattle.std.proofs.lemmas.List.Sums.{fold-append}
use Rattle.std.proofs.lemmas.List.FromFn.{length-range_with_len, get_or-range_with_len}
use Rattle.std.proofs.lemmas.Map.Keys.{IsDistinct-from_apart}
use Rattle.std.proofs.lemmas.Map.Made.{length-le_from_is_member}
use Rattle.std.proofs.lemmas.Map.Steps.{length-le_from_distinct_below}
use Rattle.graph.specs.Rows.{row, HasEdge}
use Rattle.graph.specs.Distinct.{distinct_rows, places_below}
use Rattle.graph.specs.Reversing.{names, predecessors, reversed}
use Rattle.graph.proofs.Elements.{same_test, differs, contains_first, contains_later, contains_cases, contains_none}
use Rattle.graph.proofs.Edges.{element-named, named-element, kept-element, row-reversed, length-reversed, row-distinct, edge-distinct, distinct-edge, reversed-edge, edge-reversed}
use Rattle.graph.proofs.Predecessors.{range-push}
use Rattle.graph.proofs.ReachedPlaces.{edge-within}
use Rattle.graph.proofs.Repetition.{distinct-once}
use Rattle.graph_order.specs.Order.{IsOrder, IsOrdered, GoesOnward, IsTangled}
use Rattle.graph_order.specs.Taking.{Taking, add, begun, waits_of, passed}
use Rattle.graph_order.proofs.Taken.{Gone, ahead, IsTaking, Passes, passes_all, distinct_pushed, contains_pushed, taken_stands, take_more}

-- the order when the edges of its first k places are passed
pub record IsUnderWay (rows : List (List ℕ)) (k : ℕ) (t : Taking) : Type 0 where
  pub gone : Gone
  pub taking : IsTaking rows k gone t
  pub all : (p q : ℕ) → Contains (take k t.order) p → q < length rows → HasEdge rows p q → gone p q ≡ true

-- ---- tests

left_false : (a b : Bool) → (a || b) ≡ false → a ≡ false
left_false true b h = h
left_false false b h = refl

right_false : (a b : Bool) → (a || b) ≡ false → b ≡ false
right_false true b h = absurd (cc)
right_false false b h = h

distinct_cons : (x : ℕ) (xs : List ℕ) → AllByRecursion (λ y. nat_eq x y ≡ false) xs → IsDistinct nat_eq xs → IsDistinct nat_eq (x ∷ xs)
unfolding IsDistinct
distinct_cons x xs h d = (h, d)

pub suc_more : (k : ℕ) → suc k ≡ k + 1
suc_more k = omega arith

-- ---- how many places there are

same_numbers : IsEquivalence nat_eq
same_numbers = record { refl = itself; symm = turned; congr = along }
  where
    itself : (x : ℕ) → nat_eq x x ≡ true
    itself x = grind (arith, nat_tests)

    turned : (x y : ℕ) → nat_eq x y ≡ nat_eq y x
    turned x y = grind (arith, nat_tests)

    along : (x y z : ℕ) → nat_eq x y ≡ true → nat_eq x z ≡ nat_eq y z
    along x y z e = grind (arith, nat_tests)

-- a list that holds all numbers below n has n elements at least
places_fit : (xs : List ℕ) (n : ℕ) → ((q : ℕ) → q < n → Contains xs q) → n ≤ length xs
places_fit xs n h =
    subst (λ m. m ≤ length xs) (length-range_with_len 0 n)
    (length-le_from_is_member same_numbers (range_with_len 0 n) xs
    (IsDistinct-from_apart nat_eq (range_with_len 0 n) (λ i j d less within. apart i j d less (subst (λ m. j < m) (length-range_with_len 0 n) within)))
    (λ q e. element-named xs q (h q (below q (named-element (range_with_len 0 n) q e)))))
  where
    apart : (i j d : ℕ) → i < j → j < n → nat_eq (get_or (range_with_len 0 n) i d) (get_or (range_with_len 0 n) j d) ≡ false
    apart i j d less within = differs (get_or (range_with_len 0 n) i d) (get_or (range_with_len 0 n) j d) (λ e.
        let one = get_or-range_with_len 0 n i d (omega arith) in let other = get_or-range_with_len 0 n j d within in absurd (omega (arith, e)))

    below : (q : ℕ) → Contains (range_with_len 0 n) q → q < n
    below q c =
        let inside : c.0 < n = subst (λ m. c.0 < m) (length-range_with_len 0 n) c.1 in
        let there = get_or-range_with_len 0 n c.0 q inside in
        let is = c.2 in omega (arith, there, is, inside)

-- ---- the end

pub order_within : (rows : List (List ℕ)) (k : ℕ) (t : Taking) → IsUnderWay rows k t → length t.order ≤ length rows
order_within rows k t u = length-le_from_distinct_below t.order (length rows) u.taking.once (λ q e. u.taking.within q (named-element t.order q e))

module _ (rows : List (List ℕ)) (k : ℕ) (t : Taking) (way : IsUnderWay rows k t) (over : length t.order ≤ k) where
  -- what stands in the order is passed
  all_taken : take k t.order ≡ t.order
  all_taken = take_all k t.order over

  -- as many places as there are: each stands in the order
  pub each_stands : length t.order ≡ length rows → (p : ℕ) → p < length rows → Contains t.order p
  each_stands e p less = by (names t.order p) refl
    where
      one_more : names t.order p ≡ false → ⊥
      one_more none =
          let within : length (p ∷ t.order) ≤ length rows = length-le_from_distinct_below (p ∷ t.order) (length rows) (distinct_cons p t.order (apart none) way.taking.once) in_rows in
          absurd (omega (arith, within, e))
        where
          in_rows : (q : ℕ) → list_any (nat_eq q) (p ∷ t.order) ≡ true → q < length rows
          in_rows q h = elim (contains_cases t.order p q (named-element (p ∷ t.order) q h)) [
            | inl is ↦ subst (λ z. z < length rows) (sym is) less
            | inr later ↦ way.taking.within q later
          ]

          apart : names t.order p ≡ false → AllByRecursion (λ z. nat_eq p z ≡ false) t.order
          apart none = none_named t.order none
            where
              none_named : (xs : List ℕ) → names xs p ≡ false → AllByRecursion (λ z. nat_eq p z ≡ false) xs
              none_named [] h = tt
              none_named (x ∷ xs) h = (left_false (nat_eq p x) (names xs p) h, none_named xs (right_false (nat_eq p x) (names xs p) h))

      by : (z : Bool) → names t.order p ≡ z → Contains t.order p
      by true h = named-element t.order p h
      by false h = absurd (one_more h)

  pub is_order : length t.order ≡ length rows → IsOrder rows t.order
  is_order e = record { whole = each_stands e; within = way.taking.within; once = way.taking.once; behind = λ j p q at edge. way.taking.behind j q at p edge }

  -- where all that leads to a place stands in the order, nothing is ahead of it
  none_ahead : (q : ℕ) → q < length rows → ((p : ℕ) → HasEdge rows p q → Contains t.order p) → length (ahead rows way.gone q) ≡ 0
  none_ahead q less stand = empty (ahead rows way.gone q) (λ p c. passed_over p (kept-element (λ a. not (way.gone a q)) (predecessors rows q) p c))
    where
      not_both : (z : Bool) → z ≡ true → not z ≡ true → ⊥
      not_both true e d = absurd (cc)
      not_both false e d = absurd (cc)

      passed_over : (p : ℕ) → Contains (predecessors rows q) p × (not (way.gone p q) ≡ true) → ⊥
      passed_over p h =
          let edge = (reversed-edge rows p q (subst (λ xs. Contains xs p) (sym (row-reversed rows q less)) h.0)).0 in
          not_both (way.gone p q) (way.all p q (subst (λ xs. Contains xs p) (sym all_taken) (stand p edge)) less edge) h.1

      empty : (xs : List ℕ) → ((p : ℕ) → Contains xs p → ⊥) → length xs ≡ 0
      empty [] h = refl
      empty (x ∷ xs) h = absurd (h x (contains_first xs x))

  -- where edges lead to greater numbers, each place stands in the order: induction on a bound of the numbers
  numbered_stand : (number : ℕ → ℕ) → GoesOnward rows number → (n q : ℕ) → number q < n → q < length rows → Contains t.order q
  numbered_stand number onward zero q bound less = absurd (omega (arith, bound))
  numbered_stand number onward (suc n) q bound less =
      way.taking.listed q less (way.taking.counted q less ∙ none_ahead q less (λ p edge. numbered_stand number onward n p (fewer p edge) (edge-within rows p q edge)))
    where
      fewer : (p : ℕ) → HasEdge rows p q → number p < n
      fewer p edge = let smaller = onward p q less edge in omega (arith, bound)

  pub is_tangled : (length t.order ≡ length rows → ⊥) → IsTangled rows
  is_tangled none number onward = none (at_most (order_within rows k t way) (places_fit t.order (length rows) (λ q less. numbered_stand number onward (suc (number q)) q (omega arith) less)))
    where
      at_most : length t.order ≤ length rows → length rows ≤ length t.order → length t.order ≡ length rows
      at_most a b = omega arith

-- ---- the beginning

abbrev begun_below : List (List ℕ) → ℕ → Taking
begun_below leading n = fold (λ u place. add u place (length (row leading place))) (record { waits = []; order = [] }) (range_with_len 0 n)

zero_more : (n : ℕ) → 0 + n ≡ n
zero_more n = omega arith

below_more : (leading : List (List ℕ)) (n : ℕ) → begun_below leading (suc n) ≡ add (begun_below leading n) n (length (row leading n))
below_more leading n =
    ap (fold (λ u place. add u place (length (row leading place))) (record { waits = []; order = [] })) (range-push 0 n)
    ∙ fold-append (λ u place. add u place (length (row leading place))) (record { waits = []; order = [] }) (range_with_len 0 n) ((0 + n) ∷ [])
    ∙ ap (λ m. add (begun_below leading n) m (length (row leading m))) (zero_more n)

pub begun_more : (leading : List (List ℕ)) (n : ℕ) (t u : Taking) (places : List ℕ) → t ≡ begun_below leading n → u ≡ add t n (length places) → places ≡ row leading n
    → u ≡ begun_below leading (n + 1)
begun_more leading n t u places e d is =
    d ∙ ap (λ xs. add t n (length xs)) is ∙ ap (λ v. add v n (length (row leading n))) e ∙ sym (below_more leading n)
    ∙ ap (begun_below leading) (suc_more n)

-- when n places were added
record IsBegun (rows : List (List ℕ)) (n : ℕ) (t : Taking) : Type 0 where
  pub count : length t.waits ≡ n
  pub waits : (q : ℕ) → q < n → waits_of t q ≡ length (row (reversed rows) q)
  pub within : (q : ℕ) → Contains t.order q → q < n
  pub none : (q : ℕ) → Contains t.order q → length (row (reversed rows) q) ≡ 0
  pub listed : (q : ℕ) → q < n → length (row (reversed rows) q) ≡ 0 → Contains t.order q
  pub once : IsDistinct nat_eq t.order

abbrev added : List (List ℕ) → ℕ → Taking
added rows n = begun_below (reversed rows) n

-- one place more
adds : (rows : List (List ℕ)) (n : ℕ) (t : Taking) → IsBegun rows n t → IsBegun rows (suc n) (add t n (length (row (reversed rows) n)))
adds rows n t b = by (length (row (reversed rows) n) == 0) refl
  where
    w : ℕ
    w = length (row (reversed rows) n)

    counts : length (t.waits ++ length (row (reversed rows) n) ∷ []) ≡ suc n
    counts = let long = length_push t.waits (length (row (reversed rows) n)) in let was = b.count in omega arith

    waits_all : (q : ℕ) → q < suc n → get_or (t.waits ++ length (row (reversed rows) n) ∷ []) q 0 ≡ length (row (reversed rows) q)
    waits_all q less = elim (eqb_tells q n) [
      | inl (e, is) ↦ at_end q is
      | inr (e, ne) ↦ let inside : q < n = omega (arith, less, ne) in
          get_or-append t.waits (length (row (reversed rows) n) ∷ []) 0 q (subst (λ m. q < m) (sym b.count) inside) ∙ b.waits q inside
    ]
      where
        at_end : (q : ℕ) → q ≡ n → get_or (t.waits ++ length (row (reversed rows) n) ∷ []) q 0 ≡ length (row (reversed rows) q)
        at_end q is = ap (λ z. get_or (t.waits ++ length (row (reversed rows) n) ∷ []) z 0) (is ∙ sym b.count)
            ∙ get_or_push t.waits (length (row (reversed rows) n)) 0 (length t.waits) refl ∙ ap (λ z. length (row (reversed rows) z)) (sym is)

    by : (z : Bool) → (length (row (reversed rows) n) == 0) ≡ z
        → IsBegun rows (suc n) (record { waits = t.waits ++ length (row (reversed rows) n) ∷ []; order = cond z (t.order ++ n ∷ []) t.order })
    by true e = record {
      count = counts;
      waits = waits_all;
      within = λ q c. elim (contains_pushed t.order n q c) [ inl old ↦ (let less = b.within q old in omega arith) | inr is ↦ omega (arith, is) ];
      none = λ q c. elim (contains_pushed t.order n q c) [ inl old ↦ b.none q old | inr is ↦ subst (λ z. length (row (reversed rows) z) ≡ 0) (sym is) (zero_is (length (row (reversed rows) n)) e) ];
      listed = λ q less none. elim (eqb_tells q n) [
        | inl (d, is) ↦ subst (λ z. Contains (t.order ++ n ∷ []) z) (sym is) (Contains-push t.order n)
        | inr (d, ne) ↦ Contains-append_left t.order (n ∷ []) q (b.listed q (omega (arith, less, ne)) none)
      ];
      once = distinct_pushed t.order n b.once (λ c. let less = b.within n c in absurd (omega arith));
    }
      where
        zero_is : (m : ℕ) → (m == 0) ≡ true → m ≡ 0
        zero_is m e = grind (arith, nat_tests)
    by false e = record {
      count = counts;
      waits = waits_all;
      within = λ q c. let less = b.within q c in omega arith;
      none = b.none;
      listed = λ q less none. elim (eqb_tells q n) [
        | inl (d, is) ↦ absurd (some_is (length (row (reversed rows) n)) e (ap (λ z. length (row (reversed rows) z)) (sym is) ∙ none))
        | inr (d, ne) ↦ b.listed q (omega (arith, less, ne)) none
      ];
      once = b.once;
    }
      where
        some_is : (m : ℕ) → (m == 0) ≡ false → m ≡ 0 → ⊥
        some_is m e z = absurd (grind (arith, nat_tests))

added_more : (rows : List (List ℕ)) (n : ℕ) → added rows (suc n) ≡ add (added rows n) n (length (row (reversed rows) n))
added_more rows n = below_more (reversed rows) n

-- induction on the number of places
all_added : (rows : List (List ℕ)) (n : ℕ) → IsBegun rows n (added rows n)
unfolding IsDistinct
all_added rows zero = record {
  count = refl;
  waits = λ q less. absurd (omega (arith, less));
  within = λ q c. absurd (contains_none q c);
  none = λ q c. absurd (contains_none q c);
  listed = λ q less none. absurd (omega (arith, less));
  once = tt;
}
all_added rows (suc n) = subst (IsBegun rows (suc n)) (sym (added_more rows n)) (adds rows n (added rows n) (all_added rows n))

abbrev no_edge_gone : Gone
no_edge_gone p q = false

pub get_contains : (xs : List ℕ) (j q : ℕ) → slice_get xs j ≡ Some q → Contains xs q
get_contains [] j q e = absurd (cc)
get_contains (x ∷ xs) zero q e = subst (λ z. Contains (x ∷ xs) z) (cc (e)) (contains_first xs x)
get_contains (x ∷ xs) (suc j) q e = contains_later xs x q (get_contains xs j q e)

all_ahead : (xs : List ℕ) → filter (λ a. not false) xs ≡ xs
all_ahead [] = refl
all_ahead (x ∷ xs) = ap (λ ys. x ∷ ys) (all_ahead xs)

pub begins : (rows : List (List ℕ)) → IsUnderWay rows 0 (begun (reversed rows))
begins rows = subst (λ n. IsUnderWay rows 0 (added rows n)) (sym (length-reversed rows)) (from (added rows (length rows)) (all_added rows (length rows)))
  where
    from : (t : Taking) → IsBegun rows (length rows) t → IsUnderWay rows 0 t
    from t b = record {
      gone = no_edge_gone;
      taking = record {
        count = b.count;
        counted = λ q less. b.waits q less ∙ ap length (row-reversed rows q less ∙ sym (all_ahead (predecessors rows q)));
        within = b.within;
        waits_none = λ q c. b.waits q (b.within q c) ∙ b.none q c;
        listed = λ q less none. b.listed q less (sym (b.waits q less) ∙ none);
        once = b.once;
        some = omega arith;
        from = λ p q e. absurd (cc (e));
        behind = λ j q e p edge. absurd (unled q (get_contains t.order j q e) p edge);
      };
      all = λ p q c less edge. absurd (contains_none p c);
    }
      where
        unled : (q : ℕ) → Contains t.order q → (p : ℕ) → HasEdge rows p q → ⊥
        unled q c p edge =
            let less = b.within q c in
            empty (row (reversed rows) q) (b.none q c) (edge-reversed rows p q less edge)
          where
            empty : (xs : List ℕ) → length xs ≡ 0 → Contains xs p → ⊥
            empty xs h d = absurd (omega (arith, h, d.1))

-- ---- one place on

pub taken_at : (xs : List ℕ) (k p : ℕ) → slice_get xs k ≡ Some p → Contains (take (suc k) xs) p
taken_at [] k p e = absurd (cc)
taken_at (x ∷ xs) zero p e = subst (λ z. Contains (x ∷ []) z) (cc (e)) (contains_first [] x)
taken_at (x ∷ xs) (suc k) p e = contains_later (take (suc k) xs) x p (taken_at xs k p e)

within_get : (xs : List ℕ) (k p : ℕ) → slice_get xs k ≡ Some p → k < length xs
within_get [] k p e = absurd (cc)
within_get (x ∷ xs) zero p e = omega arith
within_get (x ∷ xs) (suc k) p e = let rest = within_get xs k p e in omega arith

-- one of the first places that is not the last of them
pub not_last : (xs : List ℕ) (k p a : ℕ) → slice_get xs k ≡ Some p → a ≢ p → Contains (take (suc k) xs) a → Contains (take k xs) a
not_last [] k p a e ne c = absurd (cc)
not_last (x ∷ xs) zero p a e ne c = elim (contains_cases [] x a c) [ inl is ↦ absurd (ne (is ∙ cc (e))) | inr later ↦ later ]
not_last (x ∷ xs) (suc k) p a e ne c = elim (contains_cases (take (suc k) xs) x a c) [
  | inl is ↦ subst (λ z. Contains (x ∷ take k xs) z) (sym is) (contains_first (take k xs) x)
  | inr later ↦ contains_later (take k xs) x a (not_last xs k p a e ne later)
]

apart_at : (x : ℕ) (xs : List ℕ) (k p : ℕ) → AllByRecursion (λ y. nat_eq x y ≡ false) xs → slice_get xs k ≡ Some p → nat_eq x p ≡ false
apart_at x [] k p h e = absurd (cc)
apart_at x (y ∷ ys) zero p h e = subst (λ z. nat_eq x z ≡ false) (cc (e)) h.0
apart_at x (y ∷ ys) (suc k) p h e = apart_at x ys k p h.1 e

not_both : (z : Bool) → z ≡ false → z ≡ true → ⊥
not_both true a b = absurd (cc)
not_both false a b = absurd (cc)

-- a place of a distinct list is not among those before it
pub twice : (xs : List ℕ) (k p : ℕ) → IsDistinct nat_eq xs → slice_get xs k ≡ Some p → Contains (take k xs) p → ⊥
unfolding IsDistinct
twice xs zero p d e c = contains_none p c
twice [] (suc k) p d e c = absurd (cc)
twice (x ∷ xs) (suc k) p d e c = elim (contains_cases (take k xs) x p c) [
  | inl is ↦ not_both (nat_eq x p) (apart_at x xs k p d.0 e) (same_test x p (sym is))
  | inr later ↦ twice xs k p d.1 e later
]

pub goes_on : (rows : List (List ℕ)) (k p : ℕ) (t : Taking) → IsUnderWay rows k t → slice_get t.order k ≡ Some p
    → IsUnderWay rows (k + 1) (passed t (row (distinct_rows rows) p))
goes_on rows k p t way at = from (passes_all rows (k + 1) p (row (distinct_rows rows) p) way.gone t taking_on (row_once) targets here)
  where
    here : Contains (take (k + 1) t.order) p
    here = subst (λ m. Contains (take m t.order) p) (suc_more k) (taken_at t.order k p at)

    inside : k < length t.order
    inside = within_get t.order k p at

    taking_on : IsTaking rows (k + 1) way.gone t
    taking_on = record {
      count = way.taking.count;
      counted = way.taking.counted;
      within = way.taking.within;
      waits_none = way.taking.waits_none;
      listed = way.taking.listed;
      once = way.taking.once;
      some = let less = inside in omega arith;
      from = λ a b e. take_more (k + 1) k t.order a (omega arith) (way.taking.from a b e);
      behind = way.taking.behind;
    }

    place_within : p < length rows
    place_within = way.taking.within p (taken_stands (k + 1) t.order p here)

    row_once : IsDistinct nat_eq (row (distinct_rows rows) p)
    row_once = subst (IsDistinct nat_eq) (sym (row-distinct rows p place_within)) (distinct-once (places_below (length rows) (row rows p)))

    -- the place is not among those before it
    not_before : Contains (take k t.order) p → ⊥
    not_before c = twice t.order k p way.taking.once at c

    targets : (q : ℕ) → Contains (row (distinct_rows rows) p) q → (q < length rows) × HasEdge rows p q × (way.gone p q ≡ false)
    targets q c = let edge = distinct-edge rows p q c in (edge.1, edge.0, fresh (way.gone p q) refl)
      where
        fresh : (z : Bool) → way.gone p q ≡ z → z ≡ false
        fresh true e = absurd (not_before (way.taking.from p q e))
        fresh false e = refl

    from : Passes rows (k + 1) p (row (distinct_rows rows) p) way.gone t (passed t (row (distinct_rows rows) p))
        → IsUnderWay rows (k + 1) (passed t (row (distinct_rows rows) p))
    from h = record {
      gone = h.now_gone;
      taking = h.taking;
      all = λ a q c less edge. elim (eqb_tells a p) [
        | inl (e, is) ↦ subst (λ z. h.now_gone z q ≡ true) (sym is) (h.these q (edge-distinct rows p q less (subst (λ z. HasEdge rows z q) is edge)))
        | inr (e, ne) ↦ h.still a q (way.all a q (before a ne c) less edge)
      ];
    }
      where
        before : (a : ℕ) → a ≢ p → Contains (take (k + 1) (passed t (row (distinct_rows rows) p)).order) a → Contains (take k t.order) a
        before a ne c = not_last t.order k p a at ne (subst (λ m. Contains (take m t.order) a) (sym (suc_more k)) (subst (λ xs. Contains xs a) h.front c))

-- ---- as the code has them

pub goes_on_by : (rows onward : List (List ℕ)) (k p : ℕ) (t u : Taking) (places : List ℕ) → IsUnderWay rows k t → onward ≡ distinct_rows rows → slice_get t.order k ≡ Some p
    → places ≡ row onward p → u ≡ passed t places → IsUnderWay rows (k + 1) u
goes_on_by rows onward k p t u places way is at row_is e =
    subst (IsUnderWay rows (k + 1)) (ap (λ xs. passed t (row xs p)) (sym is) ∙ ap (passed t) (sym row_is) ∙ sym e) (goes_on rows k p t way at)

pub falls : (rows : List (List ℕ)) (k p : ℕ) (t : Taking) → IsUnderWay rows k t → slice_get t.order k ≡ Some p → length rows - (k + 1) < length rows - k
falls rows k p t way at = let within = order_within rows k t way in let inside = within_get t.order k p at in omega arith

pub place_inside : (rows : List (List ℕ)) (k p : ℕ) (t : Taking) → IsUnderWay rows k t → slice_get t.order k ≡ Some p → k < length rows
place_inside rows k p t way at = let within = order_within rows k t way in let inside = within_get t.order k p at in omega arith

pub begins_by : (rows leading : List (List ℕ)) (t : Taking) → leading ≡ reversed rows → t ≡ begun leading → IsUnderWay rows 0 t
begins_by rows leading t is e = subst (IsUnderWay rows 0) (ap begun (sym is) ∙ sym e) (begins rows)

past_end : (xs : List ℕ) (k : ℕ) → None ≡ slice_get xs k → length xs ≤ k
past_end [] k e = omega arith
past_end (x ∷ xs) zero e = absurd (cc (e))
past_end (x ∷ xs) (suc k) e = let rest = past_end xs k e in omega arith

-- what the order comes to
pub ends : (rows : List (List ℕ)) (k : ℕ) (t : Taking) (n : ℕ) (found : Option (Vec ℕ Global)) → IsUnderWay rows k t → None ≡ slice_get t.order k → n ≡ length rows
    → MatchOption found (length t.order ≡ n → ⊥) (λ order. (order.items ≡ t.order) × (length t.order ≡ n)) → IsOrdered rows (option_map (λ order. order.items) found)
ends rows k t n None way over is none = is_tangled rows k t way (past_end t.order k over) (λ e. none (e ∙ sym is))
ends rows k t n (Some order) way over is h = subst (IsOrder rows) (sym h.0) (is_order rows k t way (past_end t.order k over) (h.1 ∙ is))
