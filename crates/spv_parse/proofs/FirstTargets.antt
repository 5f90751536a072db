-- The targets of cases, each where it is named first.
use Rattle.std.proofs.Common.{◌≡◌, inl, inr, ℕ, suc, ◌+◌, ◌<◌, ◌≤◌, ◌==◌, Bool, true, false, cond, not, ◌&&◌, List, [], ◌∷◌, ◌++◌, length, filter, map, drop, get_or, refl, sym, ap, subst, ◌∙◌, append_assoc, append-nil, arith, drop-cons, add-one}
use Rattle.std.proofs.lemmas.Bool.Decides.{nat_tests}
use Rattle.std.proofs.lemmas.List.{drop_all}
use Rattle.std.specs.BTreeSet.{BTreeSet, contains, Updates}
use Rattle.std.specs.BTreeMap.{is_at}
use Rattle.std.specs.Ordering.{nat_cmp}
use Rattle.spv_blocks.specs.Blocks.{seconds}
use Rattle.spv_walk.proofs.Unique.{tells}
use Rattle.spv_spelling.specs.Text.{firsts}
use Rattle.spv_tree.specs.declared.body.Case.{Case}
use Rattle.spv_tree.specs.Tree.{case_of}
use Rattle.spv_parse.specs.Arms.{others_of, AddsTarget}

-- ---- filters

keep : (p : ℕ → Bool) (x : ℕ) (xs : List ℕ) → p x ≡ true → filter p (x ∷ xs) ≡ x ∷ filter p xs
keep p x xs e = ap (λ b. cond b (x ∷ filter p xs) (filter p xs)) e

leave : (p : ℕ → Bool) (x : ℕ) (xs : List ℕ) → p x ≡ false → filter p (x ∷ xs) ≡ filter p xs
leave p x xs e = ap (λ b. cond b (x ∷ filter p xs) (filter p xs)) e

pub filter_same : (p q : ℕ → Bool) (xs : List ℕ) → ((y : ℕ) → p y ≡ q y) → filter p xs ≡ filter q xs
filter_same p q [] same = refl
filter_same p q (x ∷ xs) same = elim (tells (q x)) [
  | inl e ↦ keep p x xs (same x ∙ e) ∙ ap (λ z. x ∷ z) (filter_same p q xs same) ∙ sym (keep q x xs e)
  | inr e ↦ leave p x xs (same x ∙ e) ∙ filter_same p q xs same ∙ sym (leave q x xs e)
]

filter_twice : (p q r : ℕ → Bool) (xs : List ℕ) → ((y : ℕ) → (q y && p y) ≡ r y) → filter p (filter q xs) ≡ filter r xs
filter_twice p q r [] same = refl
filter_twice p q r (x ∷ xs) same = elim (tells (q x)) [
  | inl e ↦
      let both : p x ≡ r x = ap (λ b. b && p x) (sym e) ∙ same x in
      ap (filter p) (keep q x xs e) ∙ (elim (tells (p x)) [
        | inl h ↦ keep p x (filter q xs) h ∙ ap (λ z. x ∷ z) (filter_twice p q r xs same) ∙ sym (keep r x xs (sym both ∙ h))
        | inr h ↦ leave p x (filter q xs) h ∙ filter_twice p q r xs same ∙ sym (leave r x xs (sym both ∙ h))
      ])
  | inr e ↦
      let none : r x ≡ false = sym (same x) ∙ ap (λ b. b && p x) e in
      ap (filter p) (leave q x xs e) ∙ filter_twice p q r xs same ∙ sym (leave r x xs none)
]

-- ---- sets

is_at-equal : (k x : ℕ) → is_at (nat_cmp k) x ≡ (k == x)
is_at-equal k x = grind (arith, nat_tests)

abbrev unseen : BTreeSet ℕ → ℕ → Bool
unseen set y = not (contains nat_cmp set y)

-- a number more in a set
added : (x y : ℕ) (old new : BTreeSet ℕ) → Updates nat_cmp old new x true → contains nat_cmp new y ≡ cond (x == y) true (contains nat_cmp old y)
added x y old new updates = updates.0 y ∙ ap (λ b. cond b true (contains nat_cmp old y)) (is_at-equal x y)

swapped : (x y : ℕ) → (y == x) ≡ (x == y)
swapped x y = grind (arith, nat_tests)

-- what differs from x and is not in the set is not in the set with x
not_either : (a b : Bool) → (not a && not b) ≡ not (cond a true b)
not_either true b = refl
not_either false b = refl

apart : (x y : ℕ) (old new : BTreeSet ℕ) → Updates nat_cmp old new x true → (not (y == x) && unseen old y) ≡ unseen new y
apart x y old new updates =
    ap (λ b. not b && unseen old y) (swapped x y) ∙ not_either (x == y) (contains nat_cmp old y) ∙ ap not (sym (added x y old new updates))

-- ---- the targets so far

drop_at : (cases : List Case) (k : ℕ) (case : Case) → k < length cases → case ≡ get_or cases k case → drop k cases ≡ case ∷ drop (k + 1) cases
drop_at cases k case within is = rw add-one (drop-cons cases k case within ∙ ap (λ z. z ∷ drop (suc k) cases) (sym is))

pub record IsNaming (default : ℕ) (cases rest : List Case) (seen : BTreeSet ℕ) (labels : List ℕ) : Type 0 where
  pub all : labels ++ filter (unseen seen) (firsts (seconds (map case_of rest))) ≡ others_of default cases

cond_same : (a b : Bool) → b ≡ false → not (cond a true b) ≡ not a
cond_same true b e = refl
cond_same false b e = ap not e

pub naming_first : (default : ℕ) (cases : List Case) (empty seen : BTreeSet ℕ) → ((y : ℕ) → contains nat_cmp empty y ≡ false) → Updates nat_cmp empty seen default true
    → IsNaming default cases cases seen []
naming_first default cases empty seen none updates = record {
  all = filter_same (unseen seen) (λ y. not (y == default)) (firsts (seconds (map case_of cases)))
      (λ y. ap not (added default y empty seen updates) ∙ cond_same (default == y) (contains nat_cmp empty y) (none y) ∙ ap not (sym (swapped default y)));
}

-- the first target is put away with those like it
behind_first : (t : ℕ) (ts : List ℕ) (old new : BTreeSet ℕ) → Updates nat_cmp old new t true
    → filter (unseen old) (filter (λ y. not (y == t)) (firsts ts)) ≡ filter (unseen new) (firsts ts)
behind_first t ts old new updates = filter_twice (unseen old) (λ y. not (y == t)) (unseen new) (firsts ts) (λ y. apart t y old new updates)

regroup : (a : List ℕ) (x : ℕ) (b : List ℕ) → (a ++ x ∷ []) ++ b ≡ a ++ x ∷ b
regroup a x b = append_assoc a (x ∷ []) b

module _ (default : ℕ) (cases : List Case) (case : Case) (rest : List Case) (old new : BTreeSet ℕ) (labels : List ℕ)
    (updates : Updates nat_cmp old new case.target true) (n : IsNaming default cases (case ∷ rest) old labels) where
  naming_new : contains nat_cmp old case.target ≡ false → IsNaming default cases rest new (labels ++ case.target ∷ [])
  naming_new none =
      let t = case.target in
      let ts = seconds (map case_of rest) in
      record {
        all = regroup labels t (filter (unseen new) (firsts ts))
            ∙ ap (λ z. labels ++ t ∷ z) (sym (behind_first t ts old new updates))
            ∙ ap (λ z. labels ++ z) (sym (keep (unseen old) t (filter (λ y. not (y == t)) (firsts ts)) (ap not none)))
            ∙ n.all;
      }

  naming_known : contains nat_cmp old case.target ≡ true → IsNaming default cases rest new labels
  naming_known known =
      let t = case.target in
      let ts = seconds (map case_of rest) in
      record {
        all = ap (λ z. labels ++ z) (sym (behind_first t ts old new updates))
            ∙ ap (λ z. labels ++ z) (sym (leave (unseen old) t (filter (λ y. not (y == t)) (firsts ts)) (ap not known)))
            ∙ n.all;
      }

pub naming_more : (default : ℕ) (cases : List Case) (case : Case) (k : ℕ) (old new : BTreeSet ℕ) (before after : List ℕ) → k < length cases → case ≡ get_or cases k case
    → AddsTarget case.target old new before after → IsNaming default cases (drop k cases) old before → IsNaming default cases (drop (k + 1) cases) new after
naming_more default cases case k old new before after within is adds n =
    let rest = drop (k + 1) cases in
    let cut : drop k cases ≡ case ∷ rest = drop_at cases k case within is in
    let n2 = subst (λ z. IsNaming default cases z old before) cut n in
    elim (tells (contains nat_cmp old case.target)) [
      | inl known ↦ subst (IsNaming default cases rest new) (sym (adds.added ∙ ap (λ b. cond b before (before ++ case.target ∷ [])) known))
          (naming_known default cases case rest old new before adds.noted n2 known)
      | inr none ↦ subst (IsNaming default cases rest new) (sym (adds.added ∙ ap (λ b. cond b before (before ++ case.target ∷ [])) none))
          (naming_new default cases case rest old new before adds.noted n2 none)
    ]

pub naming_all : (default : ℕ) (cases : List Case) (seen : BTreeSet ℕ) (labels : List ℕ) → IsNaming default cases [] seen labels → labels ≡ others_of default cases
naming_all default cases seen labels n = sym (append-nil labels) ∙ n.all

pub none_behind : (cases : List Case) (k : ℕ) → length cases ≤ k → drop k cases ≡ []
none_behind cases k past = drop_all k cases past
