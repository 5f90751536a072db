-- Rows that are turned round, one place after the other.
use Rattle.std.proofs.Common.{◌≡◌, ℕ, zero, suc, ◌+◌, ◌-◌, ◌<◌, ◌≤◌, ◌⊎◌, inl, inr, Bool, true, false, cond, ◌||◌, nat_eq, List, [], ◌∷◌, ◌++◌, length, filter, get_or, replicate, fold, Option, Some, refl, sym, ap, ◌∙◌, subst, arith, get_or-set_other, get_or-set_same}
use Rattle.std.specs.List.{range_with_len, slice_get, All}
use Rattle.std.specs.Option.{option_map_or}
use Rattle.std.proofs.lemmas.Bool.{cases_eq, cases_lt}
use Rattle.std.proofs.lemmas.Bool.Decides.{nat_tests}
use Rattle.std.proofs.lemmas.List.{append-nil, length-set, length_push, get_or_push, get_or-replicate, length-replicate}
use Rattle.std.proofs.lemmas.List.Elements.{All-filter, filter-append}
use Rattle.std.proofs.lemmas.List.FromFn.{length-range_with_len, get_or-range_with_len, fill_by_all}
use Rattle.std.proofs.lemmas.Option.{slice_get-get_or}
use Rattle.graph.specs.Rows.{row, ends_with, ending, added}
use Rattle.graph.specs.Reversing.{names, predecessors_below, predecessors, reversed}
use Rattle.graph.proofs.Elements.{same_test, differs}

-- ---- the end of a list

pub ends_with-push : (xs : List ℕ) (p : ℕ) → ends_with (xs ++ p ∷ []) p ≡ true
ends_with-push xs p =
    let n : length (xs ++ p ∷ []) ≡ length xs + 1 = length_push xs p in
    let at : slice_get (xs ++ p ∷ []) (length (xs ++ p ∷ []) - 1) ≡ Some p =
    slice_get-get_or (xs ++ p ∷ []) (length (xs ++ p ∷ []) - 1) 0 (omega arith) ∙ ap (λ (x : ℕ). Some x) (get_or_push xs p 0 (length (xs ++ p ∷ []) - 1) (omega arith)) in
    ap (λ (o : Option ℕ). option_map_or (nat_eq p) o false) at ∙ same_test p p refl

ending_by : (xs : List ℕ) (p : ℕ) (b : Bool) → ends_with xs p ≡ b → ends_with (cond b xs (xs ++ p ∷ [])) p ≡ true
ending_by xs p true e = e
ending_by xs p false e = ends_with-push xs p

-- a place that is added once more changes nothing
pub ending-ending : (xs : List ℕ) (p : ℕ) → ending (ending xs p) p ≡ ending xs p
ending-ending xs p = ap (λ (b : Bool). cond b (ending xs p) (ending xs p ++ p ∷ [])) (ending_by xs p (ends_with xs p) refl)

ends_below : (xs : List ℕ) (p : ℕ) → All (λ x. x < p) xs → (0 < length xs) ⊎ (length xs ≤ 0) → ends_with xs p ≡ false
ends_below xs p h (inl some) =
    let last : get_or xs (length xs - 1) 0 < p = h (length xs - 1) 0 (omega arith) in
    ap (λ (o : Option ℕ). option_map_or (nat_eq p) o false) (slice_get-get_or xs (length xs - 1) 0 (omega arith)) ∙ other p (get_or xs (length xs - 1) 0) last
  where
    other : (p x : ℕ) → x < p → nat_eq p x ≡ false
    other p x less = grind (arith, nat_tests)
ends_below [] p h (inr none) = refl
ends_below (x ∷ xs) p h (inr none) = absurd (omega arith)

-- a list of lesser places does not end with a place
pub ends_with-below : (xs : List ℕ) (p : ℕ) → All (λ x. x < p) xs → ends_with xs p ≡ false
ends_with-below xs p h = ends_below xs p h (cases_lt 0 (length xs))

-- ---- one row with the place at its end, where it is named

row-added : (rows : List (List ℕ)) (from to t : ℕ) → t < length rows → row (added rows from to) t ≡ cond (nat_eq t from) (ending (row rows t) to) (row rows t)
row-added rows from to t less = elim (cases_eq t from) [ inl e ↦ same e | inr ne ↦ get_or-set_other rows from t (ending (row rows from) to) [] ne ∙ sym (ap (λ (b : Bool). cond b (ending (row rows t) to) (row rows t)) (differs t from ne)) ]
  where
    same : t ≡ from → row (added rows from to) t ≡ cond (nat_eq t from) (ending (row rows t) to) (row rows t)
    same e = subst (λ (k : ℕ). row (added rows k to) t ≡ cond (nat_eq t k) (ending (row rows t) to) (row rows t)) e
        (get_or-set_same rows t (ending (row rows t) to) [] less ∙ sym (ap (λ (b : Bool). cond b (ending (row rows t) to) (row rows t)) (same_test t t refl)))

named_again : (b c : Bool) (xs : List ℕ) (p : ℕ) → cond c (ending (cond b (ending xs p) xs) p) (cond b (ending xs p) xs) ≡ cond (b || c) (ending xs p) xs
named_again true true xs p = ending-ending xs p
named_again true false xs p = refl
named_again false c xs p = refl

pub length-all_added : (rows : List (List ℕ)) (p : ℕ) (ts : List ℕ) → length (fold (λ rs t. added rs t p) rows ts) ≡ length rows
length-all_added rows p [] = refl
length-all_added rows p (t ∷ ts) = length-all_added (added rows t p) p ts ∙ length-set rows t (ending (row rows t) p)

-- induction on the successors
pub row-all_added : (rows : List (List ℕ)) (p : ℕ) (ts : List ℕ) (t : ℕ) → t < length rows → row (fold (λ rs t. added rs t p) rows ts) t ≡ cond (names ts t) (ending (row rows t) p) (row rows t)
row-all_added rows p [] t less = refl
row-all_added rows p (s ∷ ts) t less =
    row-all_added (added rows s p) p ts t (subst (λ (n : ℕ). t < n) (sym (length-set rows s (ending (row rows s) p))) less)
    ∙ ap (λ (r : List ℕ). cond (names ts t) (ending r p) r) (row-added rows s p t less)
    ∙ named_again (nat_eq t s) (names ts t) (row rows t) p

-- ---- predecessors

-- induction on how many there are
pub range-push : (a n : ℕ) → range_with_len a (suc n) ≡ range_with_len a n ++ (a + n) ∷ []
range-push a zero = let e : a ≡ a + 0 = omega arith in ap (λ (k : ℕ). k ∷ []) e
range-push a (suc n) = let e : (a + 1) + n ≡ a + suc n = omega arith in ap (λ (l : List ℕ). a ∷ l) (range-push (a + 1) n ∙ ap (λ (k : ℕ). range_with_len (a + 1) n ++ k ∷ []) e)

range-below : (n : ℕ) → All (λ x. x < n) (range_with_len 0 n)
range-below n k d less =
    let short : k < n = subst (λ (m : ℕ). k < m) (length-range_with_len 0 n) less in
    let e : get_or (range_with_len 0 n) k d ≡ 0 + k = get_or-range_with_len 0 n k d short in
    omega arith

pub predecessors-below : (n : ℕ) (rows : List (List ℕ)) (t : ℕ) → All (λ x. x < n) (predecessors_below n rows t)
predecessors-below n rows t = All-filter (λ from. names (row rows from) t) (λ x. x < n) (range_with_len 0 n) (range-below n)

pub predecessors-more : (n : ℕ) (rows : List (List ℕ)) (t : ℕ) → predecessors_below (n + 1) rows t ≡ cond (names (row rows n) t) (predecessors_below n rows t ++ n ∷ []) (predecessors_below n rows t)
predecessors-more n rows t =
    let test : ℕ → Bool = λ from. names (row rows from) t in
    let more : n + 1 ≡ suc n = omega arith in
    let same : 0 + n ≡ n = omega arith in
    ap (λ (k : ℕ). filter test (range_with_len 0 k)) more
    ∙ ap (filter test) (range-push 0 n ∙ ap (λ (k : ℕ). range_with_len 0 n ++ k ∷ []) same)
    ∙ filter-append test (range_with_len 0 n) (n ∷ [])
    ∙ by (filter test (range_with_len 0 n)) (test n)
  where
    by : (xs : List ℕ) (b : Bool) → xs ++ cond b (n ∷ []) [] ≡ cond b (xs ++ n ∷ []) xs
    by xs true = refl
    by xs false = append-nil xs

-- ---- the loop

-- the rows name the predecessors below n
pub record AreTurned (n : ℕ) (rows turned : List (List ℕ)) : Type 0 where
  pub count : length turned ≡ length rows
  pub at : (t : ℕ) → t < length rows → row turned t ≡ predecessors_below n rows t

pub turned-none : (rows : List (List ℕ)) (n : ℕ) (turned : List (List ℕ)) → n ≡ length rows → turned ≡ replicate n [] → AreTurned 0 rows turned
turned-none rows n turned count e = record {
  count = ap length e ∙ length-replicate n [] ∙ count;
  at = λ t less. ap (λ (r : List (List ℕ)). row r t) e ∙ get_or-replicate n t [] [] (subst (λ (k : ℕ). t < k) (sym count) less);
}

pub turned-more : (n : ℕ) (rows turned more : List (List ℕ)) → AreTurned n rows turned → more ≡ fold (λ rs t. added rs t n) turned (row rows n) → AreTurned (n + 1) rows more
turned-more n rows turned more h e = record {
  count = ap length e ∙ length-all_added turned n (row rows n) ∙ h.count;
  at = λ t less.
      ap (λ (r : List (List ℕ)). row r t) e
      ∙ row-all_added turned n (row rows n) t (subst (λ (k : ℕ). t < k) (sym h.count) less)
      ∙ ap (λ (r : List ℕ). cond (names (row rows n) t) (ending r n) r) (h.at t less)
      ∙ ap (λ (b : Bool). cond (names (row rows n) t) (cond b (predecessors_below n rows t) (predecessors_below n rows t ++ n ∷ [])) (predecessors_below n rows t)) (ends_with-below (predecessors_below n rows t) n (predecessors-below n rows t))
      ∙ sym (predecessors-more n rows t);
}

pub turned-all : (rows turned : List (List ℕ)) → AreTurned (length rows) rows turned → turned ≡ reversed rows
turned-all rows turned h = fill_by_all (predecessors rows) turned (length rows) [] h.count h.at
