-- A visit of the first block of a region adds its blocks in order.
use Rattle.std.proofs.Common.{◌≡◌, inl, inr, ℕ, zero, suc, ◌≤◌, Bool, true, false, cond, List, [], ◌∷◌, ◌++◌, length, filter, fold, Option, refl, sym, ap, subst, ◌∙◌, arith, append_assoc, append-nil}
use Rattle.std.proofs.lemmas.List.{length-append}
use Rattle.std.proofs.lemmas.List.Sums.{fold-append}
use Rattle.spv_blocks.specs.Blocks.{Code, Construct, construct, has, names, targets}
use Rattle.spv_walk.specs.Contexts.{Context, InSelection, InArm, InBody, InNext}
use Rattle.spv_walk.specs.Walk.{Walk}
use Rattle.spv_walk.proofs.Unique.{tells, truth_apart, true_equal, goes_unnamed}
use Rattle.spv_normal.specs.Order.{placed, followers, visited}
use Rattle.spv_normal_trees.proofs.Members.{Distinct, Apart, has_cons, has_head, has_left, has_right, has_either, has_nothing, has_not}
use Rattle.spv_normal_trees.proofs.Regions.{Turned, is_unnamed, Region, region, Way, leaf, comes, enters, Ways, nowhere, more, Parts, bare, selection, switch, loop, of_region, of_way, of_ways, of_parts}
use Rattle.spv_normal_trees.proofs.Leaving.{leads_skipped, turned_behind}

-- ---- visits

pub visited_seen : (n : ℕ) (f : Code) (seen : List ℕ) (l : ℕ) → has seen l ≡ true → visited n f seen l ≡ seen
visited_seen zero f seen l h = refl
visited_seen (suc n) f seen l h = rw h refl

visited_new : (n : ℕ) (f : Code) (seen : List ℕ) (l : ℕ) → has seen l ≡ false → visited (suc n) f seen l ≡ fold (visited n f) (seen ++ l ∷ []) (followers f l)
visited_new n f seen l h = rw h refl

fold_keeps : (g : List ℕ → ℕ → List ℕ) → ((s : List ℕ) (x y : ℕ) → has s y ≡ true → has (g s x) y ≡ true) → (xs s : List ℕ) (y : ℕ) → has s y ≡ true
    → has (fold g s xs) y ≡ true
fold_keeps g k [] s y h = h
fold_keeps g k (x ∷ xs) s y h = fold_keeps g k xs (g s x) y (k s x y h)

pub visited_keeps : (n : ℕ) (f : Code) (seen : List ℕ) (x y : ℕ) → has seen y ≡ true → has (visited n f seen x) y ≡ true
visited_keeps zero f seen x y h = h
visited_keeps (suc n) f seen x y h = elim (tells (has seen x)) [
  | inl e ↦ rw e h
  | inr e ↦ rw e (fold_keeps (visited n f) (visited_keeps n f) (followers f x) (seen ++ x ∷ []) y (has_left seen (x ∷ []) y h))
]

pub visited_adds : (n : ℕ) (f : Code) (seen : List ℕ) (x : ℕ) → has (visited (suc n) f seen x) x ≡ true
visited_adds n f seen x = elim (tells (has seen x)) [
  | inl e ↦ subst (λ j. has j x ≡ true) (sym (visited_seen (suc n) f seen x e)) e
  | inr e ↦ subst (λ j. has j x ≡ true) (sym (visited_new n f seen x e))
      (fold_keeps (visited n f) (visited_keeps n f) (followers f x) (seen ++ x ∷ []) x (has_right seen (x ∷ []) x (has_head x [] x refl)))
]

fold_cond : (g : List ℕ → ℕ → List ℕ) (p : ℕ → Bool) (s : List ℕ) (x : ℕ) (xs : List ℕ)
    → fold g s (filter p (x ∷ xs)) ≡ fold g (cond (p x) (g s x) s) (filter p xs)
fold_cond g p s x xs = elim (tells (p x)) [ inl e ↦ rw e refl | inr e ↦ rw e refl ]

-- ---- lists

turned_more : (seen xs : List ℕ) (c : Context) → Turned seen c → Turned (seen ++ xs) c
turned_more seen xs [] t = tt
turned_more seen xs (InSelection m ∷ c) t = turned_more seen xs c t
turned_more seen xs (InArm h m a ∷ c) t = turned_more seen xs c t
turned_more seen xs (InBody h m n ∷ c) t = turned_more seen xs c t
turned_more seen xs (InNext h m ∷ c) t = (has_left seen xs h t.0, turned_more seen xs c t.1)

pub distinct_apart : (xs ys : List ℕ) → Distinct (xs ++ ys) → Apart xs ys
distinct_apart [] ys d x h g = has_nothing x h
distinct_apart (z ∷ xs) ys d x h g = elim (has_cons z xs x h) [
  | inl e ↦ truth_apart (has (xs ++ ys) z) (subst (λ j. has (xs ++ ys) j ≡ true) (sym e) (has_right xs ys x g)) d.0
  | inr e ↦ distinct_apart xs ys d.1 x e g
]

pub distinct_right : (xs ys : List ℕ) → Distinct (xs ++ ys) → Distinct ys
distinct_right [] ys d = d
distinct_right (z ∷ xs) ys d = distinct_right xs ys d.1

has_not_left : (xs ys : List ℕ) (x : ℕ) → has (xs ++ ys) x ≡ false → has xs x ≡ false
has_not_left xs ys x h = has_not xs x (λ g. truth_apart (has (xs ++ ys) x) (has_left xs ys x g) h)

pub distinct_left : (xs ys : List ℕ) → Distinct (xs ++ ys) → Distinct xs
distinct_left [] ys d = tt
distinct_left (z ∷ xs) ys d = (has_not_left xs ys z d.0, distinct_left xs ys d.1)

-- what is apart from two lists is apart from the first, and with the first from the second
apart_left : (seen xs ys : List ℕ) → Apart seen (xs ++ ys) → Apart seen xs
apart_left seen xs ys a x h g = a x h (has_left xs ys x g)

apart_more : (seen xs ys : List ℕ) → Apart seen (xs ++ ys) → Distinct (xs ++ ys) → Apart (seen ++ xs) ys
apart_more seen xs ys a d x h g = elim (has_either seen xs x h) [
  | inl e ↦ a x e (has_right xs ys x g)
  | inr e ↦ distinct_apart xs ys d x e g
]

fits_left : (xs ys : List ℕ) (n : ℕ) → length (xs ++ ys) ≤ n → length xs ≤ n
fits_left xs ys n h = let e = length-append xs ys in omega arith

fits_right : (xs ys : List ℕ) (n : ℕ) → length (xs ++ ys) ≤ n → length ys ≤ n
fits_right xs ys n h = let e = length-append xs ys in omega arith

-- two visits after one another
two_visits : (g : List ℕ → ℕ → List ℕ) (s : List ℕ) (x : ℕ) (xs front back : List ℕ) → g s x ≡ s ++ front → fold g (s ++ front) xs ≡ (s ++ front) ++ back
    → fold g s (x ∷ xs) ≡ s ++ (front ++ back)
two_visits g s x xs front back a b = ap (λ z. fold g z xs) a ∙ b ∙ append_assoc s front back

module _ (f : Code) (Taken : (l t : ℕ) → List ℕ → Type 0) where
  mutual
    pub visit_region : {l : ℕ} {c : Context} (r : Region f Taken l c) (n : ℕ) (seen : List ℕ) → Turned seen c → length (of_region f Taken r) ≤ n
        → Apart seen (of_region f Taken r) → Distinct (of_region f Taken r) → visited n f seen l ≡ seen ++ of_region f Taken r
    visit_region (region {l = l} {c = c} {k = k} {ts = ts} e w a ways parts) zero seen turned fits apart d = absurd (omega arith)
    visit_region (region {l = l} {c = c} {k = k} {ts = ts} e w a ways parts) (suc n) seen turned fits apart d =
        let front : List ℕ = of_ways f Taken ways in
        let back : List ℕ = of_parts f Taken parts in
        let s : List ℕ = seen ++ l ∷ [] in
        let fresh : has seen l ≡ false = has_not seen l (λ h. apart l h (has_head l (front ++ back) l refl)) in
        let inner : length (front ++ back) ≤ n = omega arith in
        let near : Apart s (front ++ back) = apart_more seen (l ∷ []) (front ++ back) apart d in
        let at : Turned s c = turned_more seen (l ∷ []) c turned in
        let first : has s l ≡ true = has_right seen (l ∷ []) l (has_head l [] l refl) in
        visited_new n f seen l fresh
        ∙ fold-append (visited n f) s (filter (is_unnamed f) (targets f l)) (placed (construct f l))
        ∙ ap (λ z. fold (visited n f) z (placed (construct f l)))
        (a.order n s at ∙ visit_ways w ways n s at (fits_left front back n inner) (apart_left s front back near) (distinct_left front back d.1))
        ∙ ap (λ j. fold (visited n f) (s ++ front) (placed j)) e
        ∙ visit_parts parts n (s ++ front) (turned_more s front c at) (has_left s front l first) (fits_right front back n inner)
        (apart_more s front back near d.1) (distinct_right front back d.1)
        ∙ append_assoc s front back
        ∙ append_assoc seen (l ∷ []) (front ++ back)

    pub visit_way : {l t : ℕ} {c : Context} → Walk f l c → (way : Way f Taken l c t) (n : ℕ) (seen : List ℕ) → Turned seen c → length (of_way f Taken way) ≤ n
        → Apart seen (of_way f Taken way) → Distinct (of_way f Taken way) → cond (is_unnamed f t) (visited n f seen t) seen ≡ seen ++ of_way f Taken way
    visit_way w (leaf {l = l} {t = t} {c = c} out taken) n seen turned fits apart d = elim (leads_skipped f l c t seen w turned out) [
      | inl e ↦ rw e (sym (append-nil seen))
      | inr e ↦ elim (tells (is_unnamed f t)) [
        | inl u ↦ rw u (visited_seen n f seen t e ∙ sym (append-nil seen))
        | inr u ↦ rw u (sym (append-nil seen))
      ]
    ]
    visit_way w (comes {l = l} {t = t} {c = c} {d = k} onto is taken r) n seen turned fits apart d =
        ap (λ z. cond z (visited n f seen t) seen) (true_equal (names f t) 0 (goes_unnamed f l t onto.enters.free))
        ∙ visit_region r n seen (subst (λ j. Turned seen j) (sym onto.same) (turned_behind seen l t c (construct f l) turned)) fits apart d
    visit_way w (enters {l = l} {t = t} {c = c} {d = k} onto is r) n seen turned fits apart d =
        ap (λ z. cond z (visited n f seen t) seen) (true_equal (names f t) 0 (goes_unnamed f l t onto.enters.free))
        ∙ visit_region r n seen (subst (λ j. Turned seen j) (sym onto.same) (turned_behind seen l t c (construct f l) turned)) fits apart d

    pub visit_ways : {l : ℕ} {c : Context} {ts : List ℕ} → Walk f l c → (ways : Ways f Taken l c ts) (n : ℕ) (seen : List ℕ) → Turned seen c
        → length (of_ways f Taken ways) ≤ n → Apart seen (of_ways f Taken ways) → Distinct (of_ways f Taken ways)
        → fold (visited n f) seen (filter (is_unnamed f) ts) ≡ seen ++ of_ways f Taken ways
    visit_ways w nowhere n seen turned fits apart d = sym (append-nil seen)
    visit_ways w (more {t = t} {c = c} {ts = ts} way ways) n seen turned fits apart d =
        let front : List ℕ = of_way f Taken way in
        let back : List ℕ = of_ways f Taken ways in
        fold_cond (visited n f) (is_unnamed f) seen t ts
        ∙ ap (λ z. fold (visited n f) z (filter (is_unnamed f) ts))
        (visit_way w way n seen turned (fits_left front back n fits) (apart_left seen front back apart) (distinct_left front back d))
        ∙ visit_ways w ways n (seen ++ front) (turned_more seen front c turned) (fits_right front back n fits) (apart_more seen front back apart d)
        (distinct_right front back d)
        ∙ append_assoc seen front back

    pub visit_parts : {l : ℕ} {c : Context} {k : Option Construct} (parts : Parts f Taken l c k) (n : ℕ) (seen : List ℕ) → Turned seen c → has seen l ≡ true
        → length (of_parts f Taken parts) ≤ n → Apart seen (of_parts f Taken parts) → Distinct (of_parts f Taken parts)
        → fold (visited n f) seen (placed k) ≡ seen ++ of_parts f Taken parts
    visit_parts bare n seen turned first fits apart d = sym (append-nil seen)
    visit_parts (selection role r) n seen turned first fits apart d = visit_region r n seen turned fits apart d
    visit_parts (switch role r) n seen turned first fits apart d = visit_region r n seen turned fits apart d
    visit_parts (loop {l = l} {m = m} {n = next} {c = c} next_role role r q) n seen turned first fits apart d =
        let front : List ℕ = of_region f Taken r in
        let back : List ℕ = of_region f Taken q in
        two_visits (visited n f) seen next (m ∷ []) front back
        (visit_region r n seen (first, turned) (fits_left front back n fits) (apart_left seen front back apart) (distinct_left front back d))
        (visit_region q n (seen ++ front) (turned_more seen front c turned) (fits_right front back n fits) (apart_more seen front back apart d)
        (distinct_right front back d))
