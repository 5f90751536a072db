-- The edges of the graph of steps are the steps past merge instructions, and what is reached along them is inside.
use Rattle.std.proofs.Common.{◌≡◌, ℕ, ◌+◌, ◌<◌, ◌==◌, ◌&&◌, ◌||◌, Bool, true, false, cond, List, [], ◌∷◌, ◌++◌, length, get_or, take, map, min, not, filter, Option, Some, None, ◌⊎◌, inl, inr, refl, sym, ap, subst, ◌∙◌, arith}
use Rattle.std.specs.List.{Contains, slice_get}
use Rattle.std.specs.Option.{is_some, option_map, unwrap_or}
use Rattle.std.proofs.lemmas.List.{take_more}
use Rattle.graph.specs.Rows.{row, HasEdge, is_marked}
use Rattle.graph.specs.Reaching.{Reaches, IsReached, AreMarks}
use Rattle.graph.specs.Reaching.Reaches.{Here as HereIs, Along as AlongIs}
use Rattle.graph.proofs.Edges.{element-named, named-element}
use Rattle.graph.proofs.ReachedPlaces.{edge-within}
use Rattle.spv_blocks.specs.Blocks.{Block, Code, Construct, block, branches, construct, end_targets, goes, has, is_label, is_role, is_some_block, is_switch, last_opens, merge_of, names, next_of, of_block, stops, targets}
use Rattle.spv_blocks.specs.Places.{is_free, named, number_of, place}
use Rattle.spv_blocks.proofs.EdgeLaws.{has-named}
use Rattle.spv_blocks.proofs.FoundLaws.{row-has}
use Rattle.spv_blocks.proofs.PlaceSteps.{label-place, place-within}
use Rattle.spv_walk.specs.Walk.{Inside, Here, ToMerge, ToNext, Into}
use Rattle.spv_walk.specs.Tables.{Onward, OnMerge, OnNext, OnInto, InsideSome, OtherCase}
use Rattle.spv_walk.proofs.Inside.{inside_some_onward, case_branches, case_unnamed}
use Rattle.spv_walk.proofs.Unique.{tells, true_equal, equal_true, equal_false, false_equal, both_left, both_right, both_hold, either_holds, left_holds, right_holds, not_true, not_false, role_label, goes_branches}
use Rattle.spv_entering.specs.Steps.{role_of, onward, steps_from, label_of, AreSteps}
use Rattle.spv_entering.specs.Cases.{is_other, AreInside}
use Rattle.spv_entering.proofs.Flows.{label-there}
use Rattle.spv_entering.proofs.Passing.{apart, some_is}
use Rattle.spv_entering.proofs.Fillings.{free-label, goes-free, free-goes}

-- ---- what a list names

pub has-append : (xs ys : List ℕ) (q : ℕ) → has (xs ++ ys) q ≡ (has xs q || has ys q)
has-append [] ys q = refl
has-append (x ∷ xs) ys q = ap (λ t. (x == q) || t) (has-append xs ys q) ∙ or_assoc (x == q) (has xs q) (has ys q)
  where
    or_assoc : (a b c : Bool) → (a || (b || c)) ≡ ((a || b) || c)
    or_assoc true b c = refl
    or_assoc false b c = refl

filter_by : (test : ℕ → Bool) (x : ℕ) (xs ys : List ℕ) (q : ℕ) (c : Bool) → test x ≡ c → (has ys q ≡ true → (has xs q ≡ true) × (test q ≡ true))
    → has (cond c (x ∷ ys) ys) q ≡ true → (has (x ∷ xs) q ≡ true) × (test q ≡ true)
filter_by test x xs ys q false e later g = let l = later g in (right_holds (x == q) (has xs q) l.0, l.1)
filter_by test x xs ys q true e later g = elim (either_holds (x == q) (has ys q) g) [
  | inl s ↦ (left_holds (x == q) (has xs q) s, ap test (sym (equal_true x q s)) ∙ e)
  | inr l ↦ (let r = later l in (right_holds (x == q) (has xs q) r.0, r.1))
]

-- induction on the list
filter_in : (test : ℕ → Bool) (xs : List ℕ) (q : ℕ) → has (filter test xs) q ≡ true → (has xs q ≡ true) × (test q ≡ true)
filter_in test [] q h = absurd (apart false h refl)
filter_in test (x ∷ xs) q h = filter_by test x xs (filter test xs) q (test x) refl (filter_in test xs q) h

by_filter : (test : ℕ → Bool) (x : ℕ) (xs ys : List ℕ) (q : ℕ) (c : Bool) → test x ≡ c → (has xs q ≡ true → has ys q ≡ true) → test q ≡ true
    → has (x ∷ xs) q ≡ true → has (cond c (x ∷ ys) ys) q ≡ true
by_filter test x xs ys q false d later e h = elim (either_holds (x == q) (has xs q) h) [
  | inl s ↦ absurd (apart (test x) (ap test (equal_true x q s) ∙ e) d)
  | inr l ↦ later l
]
by_filter test x xs ys q true d later e h = elim (either_holds (x == q) (has xs q) h) [
  | inl s ↦ left_holds (x == q) (has ys q) s
  | inr l ↦ right_holds (x == q) (has ys q) (later l)
]

in_filter : (test : ℕ → Bool) (xs : List ℕ) (q : ℕ) → has xs q ≡ true → test q ≡ true → has (filter test xs) q ≡ true
in_filter test [] q h e = h
in_filter test (x ∷ xs) q h e = by_filter test x xs (filter test xs) q (test x) refl (λ l. in_filter test xs q l e) e h

pub filter-has : (test : ℕ → Bool) (xs ys : List ℕ) (q : ℕ) → ys ≡ filter test xs → has ys q ≡ true → (has xs q ≡ true) × (test q ≡ true)
filter-has test xs ys q same h = filter_in test xs q (subst (λ (zs : List ℕ). has zs q ≡ true) same h)

pub has-filter : (test : ℕ → Bool) (xs ys : List ℕ) (q : ℕ) → ys ≡ filter test xs → has xs q ≡ true → test q ≡ true → has ys q ≡ true
has-filter test xs ys q same h e = subst (λ (zs : List ℕ). has zs q ≡ true) (sym same) (in_filter test xs q h e)

push_cond : (c : Bool) (y x : ℕ) (ys : List ℕ) → cond c (y ∷ (ys ++ x ∷ [])) (ys ++ x ∷ []) ≡ cond c (y ∷ ys) ys ++ x ∷ []
push_cond true y x ys = refl
push_cond false y x ys = refl

filter-yes : (test : ℕ → Bool) (xs : List ℕ) (x : ℕ) → test x ≡ true → filter test (xs ++ x ∷ []) ≡ filter test xs ++ x ∷ []
filter-yes test [] x e = ap (λ (c : Bool). cond c (x ∷ []) []) e
filter-yes test (y ∷ xs) x e = ap (λ (zs : List ℕ). cond (test y) (y ∷ zs) zs) (filter-yes test xs x e) ∙ push_cond (test y) y x (filter test xs)

filter-no : (test : ℕ → Bool) (xs : List ℕ) (x : ℕ) → test x ≡ false → filter test (xs ++ x ∷ []) ≡ filter test xs
filter-no test [] x e = ap (λ (c : Bool). cond c (x ∷ []) []) e
filter-no test (y ∷ xs) x e = ap (λ (zs : List ℕ). cond (test y) (y ∷ zs) zs) (filter-no test xs x e)

-- one more of a list is kept, or is not
pub kept-more : (test : ℕ → Bool) (xs : List ℕ) (i : ℕ) (old new : List ℕ) → i < length xs → test (get_or xs i 0) ≡ true → old ≡ filter test (take i xs)
    → new ≡ old ++ get_or xs i 0 ∷ [] → new ≡ filter test (take (i + 1) xs)
kept-more test xs i old new less e told more =
    more ∙ ap (λ (zs : List ℕ). zs ++ get_or xs i 0 ∷ []) told
    ∙ sym (ap (filter test) (take_more xs i 0 less) ∙ filter-yes test (take i xs) (get_or xs i 0) e)

pub kept-past : (test : ℕ → Bool) (xs : List ℕ) (i : ℕ) (old : List ℕ) → i < length xs → test (get_or xs i 0) ≡ false → old ≡ filter test (take i xs) → old ≡ filter test (take (i + 1) xs)
kept-past test xs i old less e told = told ∙ sym (ap (filter test) (take_more xs i 0 less) ∙ filter-no test (take i xs) (get_or xs i 0) e)

-- a number that a function gives for one of a list
record Gives (g : ℕ → ℕ) (xs : List ℕ) (k : ℕ) : Type 0 where
  pub from : ℕ
  pub there : has xs from ≡ true
  pub gives : g from ≡ k

map-has : (g : ℕ → ℕ) (xs : List ℕ) (k : ℕ) → has (map g xs) k ≡ true → Gives g xs k
map-has g [] k h = absurd (apart false h refl)
map-has g (x ∷ xs) k h = elim (either_holds (g x == k) (has (map g xs) k) h) [
  | inl s ↦ record { from = x; there = left_holds (x == x) (has xs x) (true_equal x x refl); gives = equal_true (g x) k s }
  | inr l ↦ (let r = map-has g xs k l in record { from = r.from; there = right_holds (x == r.from) (has xs r.from) r.there; gives = r.gives })
]

has-map : (g : ℕ → ℕ) (xs : List ℕ) (p : ℕ) → has xs p ≡ true → has (map g xs) (g p) ≡ true
has-map g [] p h = h
has-map g (x ∷ xs) p h = elim (either_holds (x == p) (has xs p) h) [
  | inl s ↦ left_holds (g x == g p) (has (map g xs) (g p)) (true_equal (g x) (g p) (ap g (equal_true x p s)))
  | inr l ↦ right_holds (g x == g p) (has (map g xs) (g p)) (has-map g xs p l)
]

has-contains : (xs : List ℕ) (k : ℕ) → has xs k ≡ true → Contains xs k
has-contains xs k h = named-element xs k (sym (has-named xs k) ∙ h)

contains-has : (xs : List ℕ) (k : ℕ) → Contains xs k → has xs k ≡ true
contains-has xs k c = has-named xs k ∙ element-named xs k c

-- ---- the labels directly behind a block

role_cond : (test : Bool) (r p : ℕ) → has (cond test (r ∷ []) []) p ≡ true → (test ≡ true) × (r ≡ p)
role_cond true r p h = elim (either_holds (r == p) false h) [ inl s ↦ (refl, equal_true r p s) | inr l ↦ absurd (apart false l refl) ]
role_cond false r p h = absurd (apart false h refl)

role_has : (f : Code) (b p : ℕ) (o : Option ℕ) → has (role_of f b o) p ≡ true → (o ≡ Some p) × (is_role f b p ≡ true)
role_has f b p None h = absurd (apart false h refl)
role_has f b p (Some r) h = let c = role_cond (is_role f b r) r p h in (ap (λ k. Some k) c.1, subst (λ (k : ℕ). is_role f b k ≡ true) c.1 c.0)

has_role : (f : Code) (b p : ℕ) (o : Option ℕ) → o ≡ Some p → is_role f b p ≡ true → has (role_of f b o) p ≡ true
has_role f b p None e r = let none : None ≡ Some p = e in cc
has_role f b p (Some q) e r =
    let same = some_is q p e in
    subst (λ (k : ℕ). has (cond (is_role f b k) (k ∷ []) []) p ≡ true) (sym same)
    (subst (λ (c : Bool). has (cond c (p ∷ []) []) p ≡ true) (sym r) (left_holds (p == p) false (true_equal p p refl)))

cond_has : (c : Bool) (xs : List ℕ) (p : ℕ) → has (cond c [] xs) p ≡ true → (c ≡ false) × (has xs p ≡ true)
cond_has true xs p h = absurd (apart false h refl)
cond_has false xs p h = (refl, h)

onward-has : (f : Code) (b p : ℕ) → has (onward f b) p ≡ true → (stops f b ≡ false) × Onward f b p
unfolding onward
onward-has f b p h =
    let m = role_of f b (merge_of (construct f b)) in
    let n = role_of f b (next_of (construct f b)) in
    let g = filter (is_free f) (targets f b) in
    let c = cond_has (stops f b) (m ++ (n ++ g)) p h in (
      c.0,
      elim (either_holds (has m p) (has (n ++ g) p) (sym (has-append m (n ++ g) p) ∙ c.1)) [
        | inl e ↦ (let r = role_has f b p (merge_of (construct f b)) e in OnMerge p r.0 r.1)
        | inr l ↦ elim (either_holds (has n p) (has g p) (sym (has-append n g p) ∙ l)) [
          | inl e ↦ (let r = role_has f b p (next_of (construct f b)) e in OnNext p r.0 r.1)
          | inr e ↦ (let r = filter_in (is_free f) (targets f b) p e in OnInto p (free-goes f b p r.0 r.1))
        ]
      ],
    )

has_any : (f : Code) (b p : ℕ) → Onward f b p
    → has (role_of f b (merge_of (construct f b)) ++ (role_of f b (next_of (construct f b)) ++ filter (is_free f) (targets f b))) p ≡ true
has_any f b p o =
    let m = role_of f b (merge_of (construct f b)) in
    let n = role_of f b (next_of (construct f b)) in
    let g = filter (is_free f) (targets f b) in
    has-append m (n ++ g) p ∙ among m n g o
  where
    among : (m n g : List ℕ) → Onward f b p → (has (role_of f b (merge_of (construct f b))) p || has (role_of f b (next_of (construct f b)) ++ filter (is_free f) (targets f b)) p) ≡ true
    among m n g (OnMerge q e r) = left_holds _ _ (has_role f b p (merge_of (construct f b)) e r)
    among m n g (OnNext q e r) =
        right_holds (has (role_of f b (merge_of (construct f b))) p) _
        (has-append (role_of f b (next_of (construct f b))) (filter (is_free f) (targets f b)) p ∙ left_holds _ _ (has_role f b p (next_of (construct f b)) e r))
    among m n g (OnInto q e) =
        right_holds (has (role_of f b (merge_of (construct f b))) p) _
        (has-append (role_of f b (next_of (construct f b))) (filter (is_free f) (targets f b)) p
        ∙ right_holds (has (role_of f b (next_of (construct f b))) p) _ (in_filter (is_free f) (targets f b) p (goes_branches f b p e) (goes-free f b p e)))

has-onward : (f : Code) (b p : ℕ) → stops f b ≡ false → Onward f b p → has (onward f b) p ≡ true
unfolding onward
has-onward f b p runs o =
    subst (λ (c : Bool). has (cond c [] (role_of f b (merge_of (construct f b)) ++ (role_of f b (next_of (construct f b)) ++ filter (is_free f) (targets f b)))) p ≡ true) (sym runs) (has_any f b p o)

-- ---- the blocks of a step

onward_label : (f : Code) (b p : ℕ) → Onward f b p → is_label f p ≡ true
onward_label f b p (OnMerge q e r) = role_label f b p r
onward_label f b p (OnNext q e r) = role_label f b p r
onward_label f b p (OnInto q g) = free-label f p (goes-free f b p g)

merge_block : (o : Option Block) (m : ℕ) → merge_of (of_block (λ (b : Block). last_opens b.end b.body) None o) ≡ Some m → is_some_block o ≡ true
merge_block None m e = cc
merge_block (Some b) m e = refl

next_block : (o : Option Block) (m : ℕ) → next_of (of_block (λ (b : Block). last_opens b.end b.body) None o) ≡ Some m → is_some_block o ≡ true
next_block None m e = cc
next_block (Some b) m e = refl

branch_block : (o : Option Block) (t : ℕ) → has (of_block (λ (b : Block). end_targets b.end) [] o) t ≡ true → is_some_block o ≡ true
branch_block None t e = e
branch_block (Some b) t e = refl

pub branch-label : (f : Code) (b t : ℕ) → branches f b t ≡ true → is_label f b ≡ true
branch-label f b t e = branch_block (block f b) t e

onward_from : (f : Code) (b p : ℕ) → Onward f b p → is_label f b ≡ true
onward_from f b p (OnMerge q e r) = merge_block (block f b) p e
onward_from f b p (OnNext q e r) = next_block (block f b) p e
onward_from f b p (OnInto q g) = branch-label f b p (goes_branches f b p g)

-- the place of a label
pub record IsPlaced (f : Code) (p : ℕ) : Type 0 where
  pub number : ℕ
  pub at : place f p ≡ Some number

some_place : (f : Code) (p : ℕ) (o : Option ℕ) → place f p ≡ o → is_some o ≡ true → IsPlaced f p
some_place f p None e some = absurd (apart false some refl)
some_place f p (Some k) e some = record { number = k; at = e }

pub label-placed : (f : Code) (p : ℕ) → is_label f p ≡ true → IsPlaced f p
label-placed f p label = some_place f p (place f p) refl (label-place f p ∙ label)

pub number-at : (f : Code) (p k : ℕ) → place f p ≡ Some k → number_of f p ≡ k
number-at f p k at = ap (λ (o : Option ℕ). unwrap_or o (length f + p)) at

pub place-one : (f : Code) (p q k : ℕ) → place f p ≡ Some k → place f q ≡ Some k → p ≡ q
place-one f p q k e g = some_is p q (sym (label-there f p k e) ∙ label-there f q k g)

-- ---- edges are steps

module _ (f : Code) (rows : List (List ℕ)) (are : AreSteps f rows) where
  -- a step from the label of a place
  record StepTo (b k : ℕ) : Type 0 where
    pub to : ℕ
    pub at : place f to ≡ Some k
    pub runs : stops f b ≡ false
    pub onward : Onward f b to

  row_is : (b i : ℕ) → place f b ≡ Some i → row rows i ≡ map (number_of f) (onward f b)
  row_is b i at = are.each i (place-within f b i at) ∙ ap (steps_from f) (label-there f b i at)

  edge_step : (b i k : ℕ) → place f b ≡ Some i → HasEdge rows i k → StepTo b k
  edge_step b i k at edge =
      let g = map-has (number_of f) (onward f b) k (ap (λ (xs : List ℕ). has xs k) (sym (row_is b i at)) ∙ contains-has (row rows i) k edge) in
      let o = onward-has f b g.from g.there in
      let l = label-placed f g.from (onward_label f b g.from o.1) in
      record {
        to = g.from;
        at = l.at ∙ ap (λ (n : ℕ). Some n) (sym (number-at f g.from l.number l.at) ∙ g.gives);
        runs = o.0;
        onward = o.1;
      }

  step_edge : (b p i j : ℕ) → place f b ≡ Some i → place f p ≡ Some j → stops f b ≡ false → Onward f b p → HasEdge rows i j
  step_edge b p i j from to runs o =
      has-contains (row rows i) j (ap (λ (xs : List ℕ). has xs j) (row_is b i from) ∙ row-has f (onward f b) p j to ∙ has-onward f b p runs o)

  -- ---- what is reached

  record PlacedInside (Start : ℕ → Type 0) (k : ℕ) : Type 0 where
    pub label : ℕ
    pub at : place f label ≡ Some k
    pub inside : InsideSome f Start label

  -- induction on the walk
  reached : (Start : ℕ → Type 0) (first k : ℕ) → (first < length f → PlacedInside Start first) → Reaches rows first k → k < length f → PlacedInside Start k
  reached Start first k starts HereIs less = starts less
  reached Start first k starts (AlongIs {p} {q} r edge) less =
      let within = edge-within rows p k edge in
      let count = are.count in
      let i = reached Start first p starts r (omega arith) in
      let s = edge_step i.label p k i.at edge in
      record { label = s.to; at = s.at; inside = inside_some_onward f Start i.label s.to i.inside s.runs s.onward }

  one_step : (x b p j : ℕ) → ((i : ℕ) → place f b ≡ Some i → Reaches rows (number_of f x) i) → stops f b ≡ false → Onward f b p → place f p ≡ Some j
      → Reaches rows (number_of f x) j
  one_step x b p j before s o at =
      let l = label-placed f b (onward_from f b p o) in
      AlongIs (before l.number l.at) (step_edge b p l.number j l.at at s o)

  -- induction on how it is inside
  inside_reached : (x p j : ℕ) → Inside f x p → place f p ≡ Some j → Reaches rows (number_of f x) j
  inside_reached x p j Here at = subst (λ (k : ℕ). Reaches rows (number_of f x) k) (number-at f x j at) HereIs
  inside_reached x p j (ToMerge b m i s e r) at = one_step x b p j (λ k g. inside_reached x b k i g) s (OnMerge p e r) at
  inside_reached x p j (ToNext b c i s e r) at = one_step x b p j (λ k g. inside_reached x b k i g) s (OnNext p e r) at
  inside_reached x p j (Into b t i s g) at = one_step x b p j (λ k h. inside_reached x b k i h) s (OnInto p g) at

  -- ---- from the other cases of a switch

  unnamed_min : (n : ℕ) → (min n 2 == 0) ≡ true → (n == 0) ≡ true
  unnamed_min n e = true_equal n 0 (zero_min n (equal_true (min n 2) 0 e))
    where
      zero_min : (n : ℕ) → min n 2 ≡ 0 → n ≡ 0
      zero_min n e = omega arith

  min_unnamed : (n : ℕ) → n ≡ 0 → (min n 2 == 0) ≡ true
  min_unnamed n e = true_equal (min n 2) 0 (omega arith)

  module _ (s t : ℕ) (switch : is_switch (construct f s) ≡ true) (others starts : List ℕ) (marks : List Bool)
      (same : others ≡ filter (is_other f t) (targets f s)) (numbers : starts ≡ map (number_of f) others)
      (marked : AreMarks (length rows) (IsReached rows starts) marks) where
    other_case : (x : ℕ) → has others x ≡ true → OtherCase f s t x
    other_case x h =
        let r = filter-has (is_other f t) (targets f s) others x same h in
        record {
          to_case = both_hold (is_switch (construct f s) && branches f s x) (names f x == 0) (both_hold (is_switch (construct f s)) (branches f s x) switch r.0)
              (unnamed_min (names f x) (both_right (not (x == t)) (named f x == 0) r.1));
          differ = equal_false x t (not_true (x == t) (both_left (not (x == t)) (named f x == 0) r.1));
        }

    case_other : (x : ℕ) → OtherCase f s t x → has others x ≡ true
    case_other x o =
        has-filter (is_other f t) (targets f s) others x same (case_branches f s x o.to_case)
        (both_hold (not (x == t)) (named f x == 0) (not_false (x == t) (false_equal x t o.differ)) (min_unnamed (names f x) (case_unnamed f s x o.to_case)))

    first_placed : (k : ℕ) → Contains starts k → k < length f → PlacedInside (OtherCase f s t) k
    first_placed k c less =
        let g = map-has (number_of f) others k (ap (λ (xs : List ℕ). has xs k) (sym numbers) ∙ contains-has starts k c) in
        from_place g.from (place f g.from) refl g.there g.gives
      where
        from_place : (x : ℕ) (o : Option ℕ) → place f x ≡ o → has others x ≡ true → number_of f x ≡ k → PlacedInside (OtherCase f s t) k
        from_place x (Some i) at there gives = record {
          label = x;
          at = at ∙ ap (λ (n : ℕ). Some n) (sym (number-at f x i at) ∙ gives);
          inside = record { from = x; starts = other_case x there; inside = Here };
        }
        from_place x None at there gives =
            let far : length f + x ≡ k = sym (ap (λ (o : Option ℕ). unwrap_or o (length f + x)) at) ∙ gives in
            absurd (omega arith)

    pub are-inside : AreInside f s t marks
    are-inside = record {
      sound = λ p j at m.
          let r = marked.only j m in
          let i = reached (OtherCase f s t) r.0 j (first_placed r.0 r.1) r.2 (place-within f p j at) in
          subst (λ (q : ℕ). InsideSome f (OtherCase f s t) q) (place-one f i.label p j i.at at) i.inside;
      whole = λ p j at i.
          let within = place-within f p j at in
          let count = are.count in
          let there = has-map (number_of f) others i.from (case_other i.from i.starts) in
          marked.all j (omega arith)
          (number_of f i.from, has-contains starts (number_of f i.from) (ap (λ (xs : List ℕ). has xs (number_of f i.from)) numbers ∙ there), inside_reached i.from p j i.inside at);
    }
