-- Rows without repetition, one element more at the end.
use Rattle.std.proofs.Common.{◌≡◌, ℕ, ◌+◌, ◌<◌, ◌≤◌, ◌⊎◌, inl, inr, Bool, true, false, cond, not, ◌&&◌, ◌||◌, nat_eq, nat_lt, List, [], ◌∷◌, ◌++◌, length, take, get_or, set, refl, sym, ap, ◌∙◌, subst, arith, get_or-set_other, get_or-set_same}
use Rattle.std.specs.List.{All}
use Rattle.std.proofs.lemmas.Bool.{false≢true, cases_eq, cases_lt}
use Rattle.std.proofs.lemmas.List.{append-nil, length-set, take_more}
use Rattle.std.proofs.lemmas.List.Elements.{All-set, All-weaker, filter-append}
use Rattle.graph.specs.Reversing.{names}
use Rattle.graph.specs.Distinct.{distinct, without, places_below, AreUpTo}
use Rattle.graph.proofs.Elements.{same_test, differs, equal, less_test, past_test}

-- ---- what a list names

or_along : (a b c : Bool) → (a || (b || c)) ≡ ((a || b) || c)
or_along true b c = refl
or_along false b c = refl

pub names-push : (xs : List ℕ) (x y : ℕ) → names (xs ++ x ∷ []) y ≡ (names xs y || nat_eq y x)
names-push [] x y = or_false (nat_eq y x)
  where
    or_false : (b : Bool) → (b || false) ≡ b
    or_false true = refl
    or_false false = refl
names-push (z ∷ xs) x y = ap (λ (b : Bool). nat_eq y z || b) (names-push xs x y) ∙ or_along (nat_eq y z) (names xs y) (nat_eq y x)

names_kept : (xs : List ℕ) (x y z : ℕ) (b : Bool) → (y ≡ x → ⊥) → nat_eq z x ≡ b → names (cond (not b) (z ∷ xs) xs) y ≡ (nat_eq y z || names xs y)
names_kept xs x y z true ne e = sym (ap (λ (b : Bool). b || names xs y) (differs y z (λ f. ne (f ∙ is))))
  where
    is : z ≡ x
    is = equal z x e
names_kept xs x y z false ne e = refl

-- the other numbers stay; induction on the list
pub names-without : (xs : List ℕ) (x y : ℕ) → (y ≡ x → ⊥) → names (without x xs) y ≡ names xs y
names-without [] x y ne = refl
names-without (z ∷ xs) x y ne = names_kept (without x xs) x y z (nat_eq z x) ne refl ∙ ap (λ (b : Bool). nat_eq y z || b) (names-without xs x y ne)

-- ---- one element more

more_by : (y x : ℕ) (ds : List ℕ) (b : Bool) → (x ≡ y) ⊎ (x ≡ y → ⊥) → names ds x ≡ b →
    y ∷ without y (cond b ds (ds ++ x ∷ [])) ≡
    cond (nat_eq x y || names (without y ds) x) (y ∷ without y ds) (y ∷ without y ds ++ x ∷ [])
more_by y x ds true (inl e) is = sym (ap (λ (c : Bool). cond (c || names (without y ds) x) (y ∷ without y ds) (y ∷ without y ds ++ x ∷ [])) (same_test x y e))
more_by y x ds false (inl e) is =
    ap (λ (l : List ℕ). y ∷ l) (filter-append (λ z. not (nat_eq z y)) ds (x ∷ []) ∙ ap (λ (c : Bool). without y ds ++ cond (not c) (x ∷ []) []) (same_test x y e) ∙ append-nil (without y ds))
    ∙ sym (ap (λ (c : Bool). cond (c || names (without y ds) x) (y ∷ without y ds) (y ∷ without y ds ++ x ∷ [])) (same_test x y e))
more_by y x ds true (inr ne) is = sym (ap (λ (c : Bool). cond c (y ∷ without y ds) (y ∷ without y ds ++ x ∷ [])) (named (nat_eq x y) (names-without ds y x ne ∙ is)))
  where
    named : (c : Bool) → names (without y ds) x ≡ true → (c || names (without y ds) x) ≡ true
    named true e = refl
    named false e = e
more_by y x ds false (inr ne) is =
    ap (λ (l : List ℕ). y ∷ l) (filter-append (λ z. not (nat_eq z y)) ds (x ∷ []) ∙ ap (λ (c : Bool). without y ds ++ cond (not c) (x ∷ []) []) (differs x y ne))
    ∙ sym (ap (λ (c : Bool). cond c (y ∷ without y ds) (y ∷ without y ds ++ x ∷ [])) (unnamed (nat_eq x y) (differs x y ne) (names-without ds y x ne ∙ is)))
  where
    unnamed : (c : Bool) → c ≡ false → names (without y ds) x ≡ false → (c || names (without y ds) x) ≡ false
    unnamed true e f = e
    unnamed false e f = f

-- induction on the list
pub distinct-push : (xs : List ℕ) (x : ℕ) → distinct (xs ++ x ∷ []) ≡ cond (names (distinct xs) x) (distinct xs) (distinct xs ++ x ∷ [])
distinct-push [] x = refl
distinct-push (y ∷ xs) x =
    ap (λ (l : List ℕ). y ∷ without y l) (distinct-push xs x) ∙ more_by y x (distinct xs) (names (distinct xs) x) (cases_eq x y) refl

-- ---- the loop

-- the places that were named so far are kept, and have the stamp
pub record IsSifted (n stamp : ℕ) (front last kept : List ℕ) : Type 0 where
  pub count : length last ≡ n
  pub up_to : AreUpTo stamp last
  pub stamped : (t : ℕ) → t < n → nat_eq (get_or last t 0) stamp ≡ names kept t
  pub once : kept ≡ distinct (places_below n front)

pub sifted-none : (stamp : ℕ) (last : List ℕ) → All (λ s. s < stamp) last → IsSifted (length last) stamp [] last []
sifted-none stamp last h = record {
  count = refl;
  up_to = All-weaker (λ s. s < stamp) (λ s. s ≤ stamp) (λ x less. omega arith) last h;
  stamped = λ t less. differs (get_or last t 0) stamp (below t less);
  once = refl;
}
  where
    below : (t : ℕ) → t < length last → get_or last t 0 ≡ stamp → ⊥
    below t less e = let small : get_or last t 0 < stamp = h t 0 less in absurd (omega arith)

-- a place that is new or is none, and its mark
stamped_by : (n stamp p t : ℕ) (last kept : List ℕ) (b : Bool) → length last ≡ n → t < n → ((t : ℕ) → t < n → nat_eq (get_or last t 0) stamp ≡ names kept t) → (t ≡ p) ⊎ (t ≡ p → ⊥) →
    (nat_lt p n && not (nat_eq (get_or last p 0) stamp)) ≡ b → nat_eq (get_or (set last p stamp) t 0) stamp ≡ names (cond b (kept ++ p ∷ []) kept) t
stamped_by n stamp p t last kept b count less h (inl e) is =
    subst (λ (k : ℕ). nat_eq (get_or (set last k stamp) t 0) stamp ≡ names (cond b (kept ++ k ∷ []) kept) t) e
    (same_test (get_or (set last t stamp) t 0) stamp (get_or-set_same last t stamp 0 (subst (λ (k : ℕ). t < k) (sym count) less)) ∙ sym (named b (subst (λ (k : ℕ). (nat_lt k n && not (nat_eq (get_or last k 0) stamp)) ≡ b) (sym e) is)))
  where
    new_named : (a : Bool) → (a || true) ≡ true
    new_named true = refl
    new_named false = refl

    was : (a : Bool) → (true && not a) ≡ false → a ≡ true
    was true e = refl
    was false e = absurd (false≢true (sym e))

    named : (b : Bool) → (nat_lt t n && not (nat_eq (get_or last t 0) stamp)) ≡ b → names (cond b (kept ++ t ∷ []) kept) t ≡ true
    named true e = names-push kept t t ∙ ap (λ (c : Bool). names kept t || c) (same_test t t refl) ∙ new_named (names kept t)
    named false e = sym (h t less) ∙ was (nat_eq (get_or last t 0) stamp) (sym (ap (λ (c : Bool). c && not (nat_eq (get_or last t 0) stamp)) (less_test t n less)) ∙ e)
stamped_by n stamp p t last kept b count less h (inr ne) is =
    ap (λ (x : ℕ). nat_eq x stamp) (get_or-set_other last p t stamp 0 ne) ∙ h t less ∙ sym (other b)
  where
    or_none : (a : Bool) → (a || false) ≡ a
    or_none true = refl
    or_none false = refl

    other : (b : Bool) → names (cond b (kept ++ p ∷ []) kept) t ≡ names kept t
    other true = names-push kept p t ∙ ap (λ (c : Bool). names kept t || c) (differs t p ne) ∙ or_none (names kept t)
    other false = refl

kept_by : (n stamp p : ℕ) (front last kept : List ℕ) → ((t : ℕ) → t < n → nat_eq (get_or last t 0) stamp ≡ names kept t) → kept ≡ distinct (places_below n front) → (p < n) ⊎ (n ≤ p) →
    cond (nat_lt p n && not (nat_eq (get_or last p 0) stamp)) (kept ++ p ∷ []) kept ≡ distinct (places_below n (front ++ p ∷ []))
kept_by n stamp p front last kept h e (inl less) =
    ap (λ (c : Bool). cond (c && not (nat_eq (get_or last p 0) stamp)) (kept ++ p ∷ []) kept) (less_test p n less)
    ∙ ap (λ (c : Bool). cond (not c) (kept ++ p ∷ []) kept) (h p less)
    ∙ turned (names kept p)
    ∙ ap (λ (l : List ℕ). cond (names l p) l (l ++ p ∷ [])) e
    ∙ sym (distinct-push (places_below n front) p)
    ∙ sym (ap distinct (filter-append (λ x. nat_lt x n) front (p ∷ []) ∙ ap (λ (c : Bool). places_below n front ++ cond c (p ∷ []) []) (less_test p n less)))
  where
    turned : (c : Bool) → cond (not c) (kept ++ p ∷ []) kept ≡ cond c kept (kept ++ p ∷ [])
    turned true = refl
    turned false = refl
kept_by n stamp p front last kept h e (inr past) =
    ap (λ (c : Bool). cond (c && not (nat_eq (get_or last p 0) stamp)) (kept ++ p ∷ []) kept) (past_test p n past)
    ∙ e
    ∙ sym (ap distinct (filter-append (λ x. nat_lt x n) front (p ∷ []) ∙ ap (λ (c : Bool). places_below n front ++ cond c (p ∷ []) []) (past_test p n past) ∙ append-nil (places_below n front)))

pub sifted-more : (n stamp p : ℕ) (front last kept : List ℕ) → IsSifted n stamp front last kept →
    IsSifted n stamp (front ++ p ∷ []) (set last p stamp) (cond (nat_lt p n && not (nat_eq (get_or last p 0) stamp)) (kept ++ p ∷ []) kept)
sifted-more n stamp p front last kept h = record {
  count = length-set last p stamp ∙ h.count;
  up_to = All-set (λ s. s ≤ stamp) last p stamp (omega arith) h.up_to;
  stamped = λ t less. stamped_by n stamp p t last kept (nat_lt p n && not (nat_eq (get_or last p 0) stamp)) h.count less h.stamped (cases_eq t p) refl;
  once = kept_by n stamp p front last kept h.stamped h.once (cases_lt p n);
}

-- the same of what is_first and push leave
pub sifted_more : (n stamp i : ℕ) (row last kept last2 kept2 : List ℕ) (first : Bool) → i < length row → IsSifted n stamp (take i row) last kept →
    first ≡ (nat_lt (get_or row i 0) (length last) && not (nat_eq (get_or last (get_or row i 0) 0) stamp)) → last2 ≡ set last (get_or row i 0) stamp → kept2 ≡ cond first (kept ++ get_or row i 0 ∷ []) kept →
    IsSifted n stamp (take (i + 1) row) last2 kept2
sifted_more n stamp i row last kept last2 kept2 first less h is after pushed =
    let p = get_or row i 0 in
    let test : first ≡ (nat_lt p n && not (nat_eq (get_or last p 0) stamp)) = is ∙ ap (λ (k : ℕ). nat_lt p k && not (nat_eq (get_or last p 0) stamp)) h.count in
    let places : kept2 ≡ cond (nat_lt p n && not (nat_eq (get_or last p 0) stamp)) (kept ++ p ∷ []) kept = pushed ∙ ap (λ (b : Bool). cond b (kept ++ p ∷ []) kept) test in
    subst (λ (front : List ℕ). IsSifted n stamp front last2 kept2) (sym (take_more row i 0 less))
    (subst (λ (l : List ℕ). IsSifted n stamp (take i row ++ p ∷ []) l kept2) (sym after)
    (subst (λ (k : List ℕ). IsSifted n stamp (take i row ++ p ∷ []) (set last p stamp) k) (sym places) (sifted-more n stamp p (take i row) last kept h)))
