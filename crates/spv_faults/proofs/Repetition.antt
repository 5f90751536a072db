-- Numbers that stand twice, and lists that name each of some numbers once.
use Rattle.std.proofs.Common.{◌≡◌, inl, inr, ℕ, ◌+◌, ◌<◌, Bool, true, false, cond, not, ◌==◌, ◌||◌, List, [], ◌∷◌, ◌++◌, take, drop, length, get_or, Option, Some, None, refl, sym, ap, subst, ◌∙◌, arith, add-one}
use Rattle.std.proofs.Math.Seq.{take-suc}
use Rattle.std.proofs.lemmas.List.{take-append-drop}
use Rattle.std.specs.List.{list_any, list_all}
use Rattle.std.specs.BTreeMap.{is_at}
use Rattle.std.specs.BTreeSet.{BTreeSet, contains, Updates, IsSameSet}
use Rattle.std.specs.Ordering.{nat_cmp}
use Rattle.std.proofs.lemmas.Bool.Decides.{nat_tests}
use Rattle.spv_blocks.specs.Blocks.{has, times, seconds}
use Rattle.spv_walk.specs.Faults.{same_twice}
use Rattle.spv_walk.specs.Phis.{names_each_once}
use Rattle.spv_walk.proofs.Unique.{equal_true, true_equal, tells, both_left, both_right, both_hold, either_holds, left_holds, right_holds}
use Rattle.spv_faults.specs.Once.{firsts, repeats, IsSetOf, IsOnce, IsSetOnce}

or_group : (a b c : Bool) → (a || (b || c)) ≡ ((a || b) || c)
or_group true b c = refl
or_group false b c = refl

equal_swap : (x y : ℕ) → (x == y) ≡ (y == x)
equal_swap x y = grind (arith, nat_tests)

-- ---- lists that grow at the end

pub has-append : (xs ys : List ℕ) (x : ℕ) → has (xs ++ ys) x ≡ (has xs x || has ys x)
has-append [] ys x = refl
has-append (y ∷ xs) ys x = ap (λ b. y == x || b) (has-append xs ys x) ∙ or_group (y == x) (has xs x) (has ys x)

repeats_step : (h e r g : Bool) → ((h || (e || false)) || (r || g)) ≡ ((h || r) || (e || g))
repeats_step true e r g = refl
repeats_step false true true g = refl
repeats_step false true false g = refl
repeats_step false false r g = refl

repeats-push : (xs : List ℕ) (x : ℕ) → repeats (xs ++ x ∷ []) ≡ (repeats xs || has xs x)
repeats-push [] x = refl
repeats-push (y ∷ xs) x =
    ap (λ b. b || repeats (xs ++ x ∷ [])) (has-append xs (x ∷ []) y)
    ∙ ap (λ b. (has xs y || (x == y || false)) || b) (repeats-push xs x)
    ∙ repeats_step (has xs y) (x == y) (repeats xs) (has xs x)
    ∙ ap (λ b. (has xs y || repeats xs) || (b || has xs x)) (equal_swap x y)

-- what stands twice in a front stands twice in the whole
repeats-more : (xs ys : List ℕ) → repeats xs ≡ true → repeats (xs ++ ys) ≡ true
repeats-more [] ys h = absurd (cc (h))
repeats-more (x ∷ xs) ys h = elim (either_holds (has xs x) (repeats xs) h) [
  | inl e ↦ left_holds (has (xs ++ ys) x) (repeats (xs ++ ys)) (has-append xs ys x ∙ left_holds (has xs x) (has ys x) e)
  | inr e ↦ right_holds (has (xs ++ ys) x) (repeats (xs ++ ys)) (repeats-more xs ys e)
]

-- a number more
take-next : (xs : List ℕ) (k : ℕ) → k < length xs → take (k + 1) xs ≡ take k xs ++ get_or xs k 0 ∷ []
take-next xs k within = rw add-one (take-suc xs k 0 within)

is_at-equal : (k x : ℕ) → is_at (nat_cmp k) x ≡ (k == x)
is_at-equal k x = grind (arith, nat_tests)

cond_either : (a b : Bool) → cond a true b ≡ (b || (a || false))
cond_either true true = refl
cond_either true false = refl
cond_either false true = refl
cond_either false false = refl

-- a number more in a set of numbers
pub set-push : (xs : List ℕ) (x : ℕ) (old new : BTreeSet ℕ) → IsSetOf xs old → Updates nat_cmp old new x true → IsSetOf (xs ++ x ∷ []) new
set-push xs x old new all updates = record {
  at = λ q.
      updates.0 q
      ∙ ap (λ b. cond b true (contains nat_cmp old q)) (is_at-equal x q)
      ∙ ap (λ b. cond (x == q) true b) (all.at q)
      ∙ cond_either (x == q) (has xs q)
      ∙ sym (has-append xs (x ∷ []) q);
}

not_false : (a b : Bool) → a ≡ not b → a ≡ true → b ≡ false
not_false a true h k = absurd (cc)
not_false a false h k = refl

not_true : (a b : Bool) → a ≡ not b → a ≡ false → b ≡ true
not_true a true h k = refl
not_true a false h k = absurd (cc)

-- it was not in the set
pub once-more : (xs : List ℕ) (k : ℕ) (old new : BTreeSet ℕ) (added : Bool) → k < length xs → added ≡ not (contains nat_cmp old (get_or xs k 0)) → added ≡ true →
    Updates nat_cmp old new (get_or xs k 0) true → IsOnce (take k xs) old → IsOnce (take (k + 1) xs) new
once-more xs k old new added within told new_one updates front =
    let x = get_or xs k 0 in
    let absent : has (take k xs) x ≡ false = sym (front.all.at x) ∙ not_false added (contains nat_cmp old x) told new_one in
    record {
      once = ap repeats (take-next xs k within) ∙ repeats-push (take k xs) x ∙ ap (λ b. b || has (take k xs) x) front.once ∙ absent;
      all = rw (take-next xs k within) (set-push (take k xs) x old new front.all updates);
    }

-- it was in the set
pub twice-found : (xs : List ℕ) (k : ℕ) (old : BTreeSet ℕ) (added : Bool) → k < length xs → added ≡ not (contains nat_cmp old (get_or xs k 0)) → added ≡ false →
    IsOnce (take k xs) old → repeats xs ≡ true
twice-found xs k old added within told known front =
    let x = get_or xs k 0 in
    let there : has (take k xs) x ≡ true = sym (front.all.at x) ∙ not_true added (contains nat_cmp old x) told known in
    let twice : repeats (take (k + 1) xs) ≡ true = ap repeats (take-next xs k within) ∙ repeats-push (take k xs) x ∙ right_holds (repeats (take k xs)) (has (take k xs) x) there in
    ap repeats (sym (take-append-drop (k + 1) xs)) ∙ repeats-more (take (k + 1) xs) (drop (k + 1) xs) twice

-- ---- literals

firsts-append : (ps qs : List (ℕ × ℕ)) → firsts (ps ++ qs) ≡ firsts ps ++ firsts qs
firsts-append [] qs = refl
firsts-append (p ∷ ps) qs = ap (λ rest. p.0 ∷ rest) (firsts-append ps qs)

pub firsts-more : (ps : List (ℕ × ℕ)) (k : ℕ) (before after : List ℕ) → k < length ps → before ≡ firsts (take k ps) → after ≡ before ++ (get_or ps k (0, 0)).0 ∷ [] →
    after ≡ firsts (take (k + 1) ps)
firsts-more ps k before after within told more =
    let pair = get_or ps k (0, 0) in
    more
    ∙ ap (λ front. front ++ pair.0 ∷ []) told
    ∙ sym (ap firsts (rw add-one (take-suc ps k (0, 0) within)) ∙ firsts-append (take k ps) (pair ∷ []))

any-first : (ps : List (ℕ × ℕ)) (x : ℕ) → list_any (λ q. q.0 == x) ps ≡ has (firsts ps) x
any-first [] x = refl
any-first (p ∷ ps) x = ap (λ b. p.0 == x || b) (any-first ps x)

both_sides : (a b c d : Bool) → a ≡ c → b ≡ d → (a || b) ≡ (c || d)
both_sides a b c d h k = cc

pub same_twice-repeats : (ps : List (ℕ × ℕ)) → same_twice ps ≡ repeats (firsts ps)
same_twice-repeats [] = refl
same_twice-repeats (p ∷ ps) =
    both_sides (list_any (λ q. q.0 == p.0) ps) (same_twice ps) (has (firsts ps) p.0) (repeats (firsts ps)) (any-first ps p.0) (same_twice-repeats ps)

-- ---- how often a number stands

neither_left : (a b : Bool) → (a || b) ≡ false → a ≡ false
neither_left true b h = h
neither_left false b h = refl

neither_right : (a b : Bool) → (a || b) ≡ false → b ≡ false
neither_right true b h = absurd (cc)
neither_right false b h = h

none_step : (e : Bool) (n : ℕ) → e ≡ false → n ≡ 0 → cond e (n + 1) n ≡ 0
none_step true n h k = absurd (cc)
none_step false n h k = k

times-none : (xs : List ℕ) (p : ℕ) → has xs p ≡ false → times xs p ≡ 0
times-none [] p h = refl
times-none (x ∷ xs) p h = none_step (x == p) (times xs p) (neither_left (x == p) (has xs p) h) (times-none xs p (neither_right (x == p) (has xs p) h))

one_step : (e g : Bool) (n : ℕ) → (e || g) ≡ true → (e ≡ true → n ≡ 0) → (g ≡ true → n ≡ 1) → cond e (n + 1) n ≡ 1
one_step true g n h none one = let zero_so : n ≡ 0 = none refl in omega arith
one_step false g n h none one = one h

times-once : (xs : List ℕ) (p : ℕ) → repeats xs ≡ false → has xs p ≡ true → times xs p ≡ 1
times-once [] p r h = absurd (cc (h))
times-once (x ∷ xs) p r h =
    one_step (x == p) (has xs p) (times xs p) h
    (λ e. times-none xs p (subst (λ y. has xs y ≡ false) (equal_true x p e) (neither_left (has xs x) (repeats xs) r)))
    (λ g. times-once xs p (neither_right (has xs x) (repeats xs) r) g)

apart : (a : Bool) → a ≡ true → a ≡ false → ⊥
apart true h k = cc
apart false h k = cc

times-has : (xs : List ℕ) (p : ℕ) → times xs p ≡ 1 → has xs p ≡ true
times-has xs p h = elim (tells (has xs p)) [
  | inl e ↦ e
  | inr e ↦ let none = times-none xs p e in absurd (omega arith)
]

equal_self : (x : ℕ) → (x == x) ≡ true
equal_self x = true_equal x x refl

cons_here : (x : ℕ) (xs : List ℕ) → has (x ∷ xs) x ≡ true
cons_here x xs = left_holds (x == x) (has xs x) (equal_self x)

cons_behind : (x : ℕ) (xs : List ℕ) (p : ℕ) → has xs p ≡ true → has (x ∷ xs) p ≡ true
cons_behind x xs p h = right_holds (x == p) (has xs p) h

times_here : (e : Bool) (n : ℕ) → e ≡ true → cond e (n + 1) n ≡ 1 → n ≡ 0
times_here true n h k = omega arith
times_here false n h k = absurd (cc)

times_behind : (e : Bool) (n : ℕ) → e ≡ false → cond e (n + 1) n ≡ 1 → n ≡ 1
times_behind true n h k = absurd (cc)
times_behind false n h k = k

both_false : (a b : Bool) → a ≡ false → b ≡ false → (a || b) ≡ false
both_false true b h k = h
both_false false b h k = k

times_none-has : (xs : List ℕ) (p : ℕ) → times xs p ≡ 0 → has xs p ≡ false
times_none-has [] p h = refl
times_none-has (x ∷ xs) p h = none_cases (x == p) (has xs p) (times xs p) h (times_none-has xs p)
  where
    none_cases : (e g : Bool) (n : ℕ) → cond e (n + 1) n ≡ 0 → (n ≡ 0 → g ≡ false) → (e || g) ≡ false
    none_cases true g n h k = absurd (omega arith)
    none_cases false g n h k = k h

once-from_times : (xs : List ℕ) → ((p : ℕ) → has xs p ≡ true → times xs p ≡ 1) → repeats xs ≡ false
once-from_times [] each = refl
once-from_times (x ∷ xs) each =
    let none : has xs x ≡ false = times_none-has xs x (times_here (x == x) (times xs x) (equal_self x) (each x (cons_here x xs))) in
    both_false (has xs x) (repeats xs) none
    (once-from_times xs (λ p h. times_behind (x == p) (times xs p)
    (elim (tells (x == p)) [
      | inl e ↦ absurd (apart (has xs p) h (subst (λ y. has xs y ≡ false) (equal_true x p e) none))
      | inr e ↦ e
    ])
    (each p (cons_behind x xs p h))))

-- ---- lists that name each of some numbers once

all-from : (test : ℕ → Bool) (xs : List ℕ) → ((x : ℕ) → has xs x ≡ true → test x ≡ true) → list_all test xs ≡ true
all-from test [] each = refl
all-from test (x ∷ xs) each = both_hold (test x) (list_all test xs) (each x (cons_here x xs)) (all-from test xs (λ p h. each p (cons_behind x xs p h)))

all-at : (test : ℕ → Bool) (xs : List ℕ) (x : ℕ) → list_all test xs ≡ true → has xs x ≡ true → test x ≡ true
all-at test [] x all h = absurd (cc (h))
all-at test (y ∷ xs) x all h = elim (either_holds (y == x) (has xs x) h) [
  | inl e ↦ subst (λ z. test z ≡ true) (equal_true y x e) (both_left (test y) (list_all test xs) all)
  | inr e ↦ all-at test xs x (both_right (test y) (list_all test xs) all) e
]

module _ (ps xs : List ℕ) where
  named-once : names_each_once ps xs ≡ true → (p : ℕ) → has ps p ≡ true → times xs p ≡ 1
  named-once h p g =
      equal_true (times xs p) 1
      (all-at (λ q. times xs q == 1) ps p (both_left (list_all (λ q. times xs q == 1) ps) (list_all (λ q. has ps q) xs) h) g)

  named-there : names_each_once ps xs ≡ true → (p : ℕ) → has xs p ≡ true → has ps p ≡ true
  named-there h p g =
      all-at (λ q. has ps q) xs p (both_right (list_all (λ q. times xs q == 1) ps) (list_all (λ q. has ps q) xs) h) g

  named-no_repeats : names_each_once ps xs ≡ true → repeats xs ≡ false
  named-no_repeats h = once-from_times xs (λ p g. named-once h p (named-there h p g))

  named-same : names_each_once ps xs ≡ true → (p : ℕ) → has xs p ≡ has ps p
  named-same h p = elim (tells (has ps p)) [
    | inl e ↦ times-has xs p (named-once h p e) ∙ sym e
    | inr e ↦ elim (tells (has xs p)) [
      | inl g ↦ absurd (apart (has ps p) (named-there h p g) e)
      | inr g ↦ g ∙ sym e
    ]
  ]

  same-named : repeats xs ≡ false → ((p : ℕ) → has xs p ≡ has ps p) → names_each_once ps xs ≡ true
  same-named r same =
      both_hold (list_all (λ q. times xs q == 1) ps) (list_all (λ q. has ps q) xs)
      (all-from (λ q. times xs q == 1) ps (λ p h. true_equal (times xs p) 1 (times-once xs p r (same p ∙ h))))
      (all-from (λ q. has ps q) xs (λ p h. sym (same p) ∙ h))

  -- by sets
  pub names-by_sets : (named parents : BTreeSet ℕ) (result : Bool) → IsOnce xs named → IsSetOf ps parents →
      (result ≡ true → IsSameSet nat_cmp named parents) → (IsSameSet nat_cmp named parents → result ≡ true) → result ≡ names_each_once ps xs
  names-by_sets named parents result once all to from =
      same_test result (names_each_once ps xs)
      (λ h. same-named once.once (λ p. sym (once.all.at p) ∙ to h p ∙ all.at p))
      (λ h. from (λ p. once.all.at p ∙ named-same h p ∙ sym (all.at p)))
    where
      same_test : (a b : Bool) → (a ≡ true → b ≡ true) → (b ≡ true → a ≡ true) → a ≡ b
      same_test true b h k = sym (h refl)
      same_test false true h k = k refl
      same_test false false h k = refl

  pub names-not_twice : repeats xs ≡ true → false ≡ names_each_once ps xs
  names-not_twice h = elim (tells (names_each_once ps xs)) [
    | inl e ↦ absurd (apart (repeats xs) h (named-no_repeats e))
    | inr e ↦ sym e
  ]

-- by the set of literals
pub set_once-some : (ps : List (ℕ × ℕ)) (xs ys : List ℕ) (found : Option (BTreeSet ℕ)) (set : BTreeSet ℕ) → xs ≡ firsts ps → ys ≡ xs → IsSetOnce ys found → found ≡ Some set →
    false ≡ same_twice ps
set_once-some ps xs ys None set literals same told is = absurd (cc (is))
set_once-some ps xs ys (Some other) set literals same told is = sym (same_twice-repeats ps ∙ ap repeats (sym (same ∙ literals)) ∙ told.once)

pub set_once-none : (ps : List (ℕ × ℕ)) (xs ys : List ℕ) (found : Option (BTreeSet ℕ)) → xs ≡ firsts ps → ys ≡ xs → IsSetOnce ys found → found ≡ None →
    true ≡ same_twice ps
set_once-none ps xs ys None literals same told is = sym (same_twice-repeats ps ∙ ap repeats (sym (same ∙ literals)) ∙ told)
set_once-none ps xs ys (Some other) literals same told is = absurd (cc (is))

-- by the set of parents
pub named-some : (ps : List (ℕ × ℕ)) (parents : BTreeSet ℕ) (xs ys : List ℕ) (found : Option (BTreeSet ℕ)) (named : BTreeSet ℕ) (result : Bool) →
    xs ≡ seconds ps → ys ≡ xs → IsSetOnce ys found → found ≡ Some named →
    (result ≡ true → IsSameSet nat_cmp named parents) → (IsSameSet nat_cmp named parents → result ≡ true) →
    (qs : List ℕ) → IsSetOf qs parents → result ≡ names_each_once qs (seconds ps)
named-some ps parents xs ys None named result are same told is to from qs all = absurd (cc (is))
named-some ps parents xs ys (Some other) named result are same told is to from qs all =
    let once : IsOnce ys named = subst (λ o. IsSetOnce ys o) is told in
    names-by_sets qs ys named parents result once all to from ∙ ap (names_each_once qs) (same ∙ are)

pub named-none : (ps : List (ℕ × ℕ)) (xs ys : List ℕ) (found : Option (BTreeSet ℕ)) → xs ≡ seconds ps → ys ≡ xs → IsSetOnce ys found → found ≡ None →
    (qs : List ℕ) → false ≡ names_each_once qs (seconds ps)
named-none ps xs ys None are same told is qs = names-not_twice qs ys told ∙ ap (names_each_once qs) (same ∙ are)
named-none ps xs ys (Some other) are same told is qs = absurd (cc (is))
