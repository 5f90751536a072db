-- The ways of the walk: each block has one way, which is short, and the parts behind one block are apart.
use Rattle.std.proofs.Common.{◌≡◌, ◌≢◌, inl, inr, ℕ, ◌+◌, ◌<◌, ◌≤◌, Bool, true, false, cond, not, ◌==◌, ◌&&◌, ◌||◌, add-zero, add_assoc, nat_eq, List, [], ◌∷◌, map, length, Some, refl, sym, ap, subst, ◌∙◌, arith}
use Rattle.std.specs.List.{IsDistinct, AllByRecursion}
use Rattle.std.specs.Set.{is_member}
use Rattle.std.proofs.lemmas.Cmp.{nat_eq_equiv}
use Rattle.std.proofs.lemmas.Map.Made.{length-le_from_is_member}
use Rattle.spv_blocks.specs.Blocks.{Code, block, branches, goes, is_first, is_label, is_some_block, names, stops}
use Rattle.spv_walk.specs.Contexts.{Context}
use Rattle.spv_walk.specs.Walk.{Walk, Starts, Entered, Stopped, Merged, Continued}
use Rattle.spv_walk.specs.Walked.{Steps, StepEntered, StepStopped, StepMerged, StepContinued}
use Rattle.spv_walk.proofs.Steps.{step_walked}
use Rattle.spv_walk.proofs.Unique.{tells, truth_apart, both_left, both_right, either_holds, left_holds, right_holds, equal_true, true_equal, role_label, role_not_first, role_once, goes_not_first, goes_unnamed, one_enterer, one_merge, one_next, merge_or_next, one_context}
use Rattle.spv_spelling.specs.Clean.{IsClean}
use Rattle.spv_spelling.specs.Paths.{Path, Begins, Onward, Below, Here, Behind, SameParent}
use Rattle.spv_spelling.proofs.Settled.{walked_runs}

-- ---- each walked block has a path

-- by induction on the walk
pub path_of_walk : (f : Code) (l : ℕ) (c : Context) → Walk f l c → (n : ℕ) × Path f n l c
path_of_walk f l c (Starts i h) = (0, Begins h)
path_of_walk f l c (Entered b t e w x y) = let p = path_of_walk f b e w in (p.0 + 1, Onward p.1 (StepEntered l x y))
path_of_walk f l c (Stopped b t e w x y) = let p = path_of_walk f b e w in (p.0 + 1, Onward p.1 (StepStopped l x y))
path_of_walk f l c (Merged b m e w x y z) = let p = path_of_walk f b c w in (p.0 + 1, Onward p.1 (StepMerged l x y z))
path_of_walk f l c (Continued b m e w x y z) = let p = path_of_walk f b e w in (p.0 + 1, Onward p.1 (StepContinued l x y z))

-- by induction on the path
pub path_is_walked : (f : Code) (n l : ℕ) (c : Context) → Path f n l c → Walk f l c
path_is_walked f n l c (Begins h) = Starts l h
path_is_walked f n l c (Onward {n = m} {b = b} {t = t} {c = e} {d = d} p s) = step_walked f b l e c (path_is_walked f m b e p) s

-- ---- each block is walked directly behind one block alone

module _ (f : Code) (b p t : ℕ) (c d : Context) (w : Walk f b c) (v : Walk f p d) (runs : stops f b ≡ false) where
  -- a block has one context
  same_context : b ≡ p → SameParent b p c d
  same_context same = record { block = same; context = one_context f b c d w (subst (λ j. Walk f j d) (sym same) v) runs }

  pub one_parent_of : (e g : Context) → Steps f b c t e → Steps f p d t g → stops f t ≡ false → SameParent b p c d
  one_parent_of e g (StepEntered u x y) (StepEntered u2 x2 y2) s = same_context (one_enterer f b p t y y2)
  one_parent_of e g (StepEntered u x y) (StepStopped u2 x2 y2) s = truth_apart (stops f t) y2 s
  one_parent_of e g (StepEntered u x y) (StepMerged m x2 y2 z2) s = let o = role_once f p t z2 in let z = goes_unnamed f b t y.free in absurd (omega arith)
  one_parent_of e g (StepEntered u x y) (StepContinued m x2 y2 z2) s = let o = role_once f p t z2 in let z = goes_unnamed f b t y.free in absurd (omega arith)
  one_parent_of e g (StepStopped u x y) k s = truth_apart (stops f t) y s
  one_parent_of e g (StepMerged m x y z) (StepEntered u x2 y2) s = let o = role_once f b t z in let n = goes_unnamed f p t y2.free in absurd (omega arith)
  one_parent_of e g (StepMerged m x y z) (StepStopped u x2 y2) s = truth_apart (stops f t) y2 s
  one_parent_of e g (StepMerged m x y z) (StepMerged m2 x2 y2 z2) s = same_context (one_merge f b p t (role_once f b t z) y y2)
  one_parent_of e g (StepMerged m x y z) (StepContinued m2 x2 y2 z2) s = absurd (merge_or_next f b p t (role_once f b t z) y y2)
  one_parent_of e g (StepContinued m x y z) (StepEntered u x2 y2) s = let o = role_once f b t z in let n = goes_unnamed f p t y2.free in absurd (omega arith)
  one_parent_of e g (StepContinued m x y z) (StepStopped u x2 y2) s = truth_apart (stops f t) y2 s
  one_parent_of e g (StepContinued m x y z) (StepMerged m2 x2 y2 z2) s = absurd (merge_or_next f p b t (role_once f b t z) y2 y)
  one_parent_of e g (StepContinued m x y z) (StepContinued m2 x2 y2 z2) s = same_context (one_next f b p t (role_once f b t z) y y2)

pub one_parent : (f : Code) (b p t : ℕ) (c d e g : Context) → Walk f b c → Walk f p d → Steps f b c t e → Steps f p d t g → stops f t ≡ false → stops f b ≡ false
    → SameParent b p c d
one_parent f b p t c d e g w v x y s r = one_parent_of f b p t c d w v r e g x y s

-- the first block is behind none
pub first_has_no_parent : (f : Code) (b t : ℕ) (c d : Context) → Steps f b c t d → is_first f t ≡ true → stops f t ≡ false → ⊥
first_has_no_parent f b t c d (StepEntered u x y) h s = truth_apart (is_first f t) h (goes_not_first f b t y.free)
first_has_no_parent f b t c d (StepStopped u x y) h s = truth_apart (stops f t) y s
first_has_no_parent f b t c d (StepMerged m x y z) h s = truth_apart (is_first f t) h (role_not_first f b t z)
first_has_no_parent f b t c d (StepContinued n x y z) h s = truth_apart (is_first f t) h (role_not_first f b t z)

-- ---- labels

goes_label : (f : Code) (b t : ℕ) → goes f b t ≡ true → is_label f t ≡ true
goes_label f b t g =
    both_right (branches f b t) (is_label f t) (both_left (branches f b t && is_label f t) (not (is_first f t))
    (both_left (branches f b t && is_label f t && not (is_first f t)) (names f t == 0) g))

-- what is directly behind a block is a label, and so is the first block
step_label : (f : Code) (b t : ℕ) (c d : Context) → Steps f b c t d → stops f t ≡ false → is_label f t ≡ true
step_label f b t c d (StepEntered u x y) s = goes_label f b t y.free
step_label f b t c d (StepStopped u x y) s = truth_apart (stops f t) y s
step_label f b t c d (StepMerged m x y z) s = role_label f b t z
step_label f b t c d (StepContinued n x y z) s = role_label f b t z

first_is_label : (f : Code) (l : ℕ) → is_first f l ≡ true → is_label f l ≡ true
first_is_label [] l h = absurd (cc (h))
first_is_label (b ∷ bs) l h = ap (λ x. is_some_block (cond x (Some b) (block bs l))) h

-- a label is among those of the blocks
among_labels : (f : Code) (l : ℕ) → is_label f l ≡ true → is_member nat_eq (map (λ b. b.label) f) l ≡ true
among_labels [] l h = absurd (cc (h))
among_labels (b ∷ bs) l h = elim (tells (b.label == l)) [
  | inl e ↦ left_holds (nat_eq l b.label) (is_member nat_eq (map (λ b. b.label) bs) l) (true_equal l b.label (sym (equal_true b.label l e)))
  | inr e ↦
      right_holds (nat_eq l b.label) (is_member nat_eq (map (λ b. b.label) bs) l)
      (among_labels bs l (sym (ap (λ x. is_some_block (cond x (Some b) (block bs l))) e) ∙ h))
]

labels_count : (f : Code) → length (map (λ b. b.label) f) ≡ length f
labels_count [] = refl
labels_count (b ∷ bs) = let h = labels_count bs in omega arith

neither : (a b : Bool) → (a || b) ≡ false → (a ≡ false) × (b ≡ false)
neither true b h = absurd (cc (h))
neither false b h = (refl, h)

-- what is none of some numbers differs from each
differs_from_all : (x : ℕ) (ys : List ℕ) → is_member nat_eq ys x ≡ false → AllByRecursion (λ z. nat_eq x z ≡ false) ys
differs_from_all x [] h = tt
differs_from_all x (y ∷ ys) h = let n = neither (nat_eq x y) (is_member nat_eq ys x) h in (n.0, differs_from_all x ys n.1)

-- ---- where nothing is broken

-- x is a block on the way to one that it comes to in n steps
record OnWay (f : Code) (n x : ℕ) : Type 0 where
  steps : ℕ
  within : steps ≤ n
  context : Context
  path : Path f steps x context

-- the blocks on the way, each once
record Way (f : Code) (n : ℕ) : Type 0 where
  labels : List ℕ
  count : length labels ≡ n + 1
  once : IsDistinct nat_eq labels
  each : (x : ℕ) → is_member nat_eq labels x ≡ true → OnWay f n x

further : (f : Code) (n x : ℕ) → OnWay f n x → OnWay f (n + 1) x
further f n x o = record { steps = o.steps; within = let h = o.within in omega arith; context = o.context; path = o.path }

-- a further block that is none of them
extended : (f : Code) (n t : ℕ) (d : Context) (w : Way f n) → Path f (n + 1) t d → is_member nat_eq w.labels t ≡ false → Way f (n + 1)
unfolding IsDistinct
extended f n t d w p new = record {
  labels = t ∷ w.labels;
  count = let h = w.count in omega arith;
  once = (differs_from_all t w.labels new, w.once);
  each = λ x h. elim (either_holds (nat_eq x t) (is_member nat_eq w.labels x) h) [
    | inl e ↦ record { steps = n + 1; within = omega arith; context = d; path = subst (λ j. Path f (n + 1) j d) (sym (equal_true x t e)) p }
    | inr e ↦ further f n x (w.each x e)
  ];
}

one_block : (f : Code) (l : ℕ) → is_first f l ≡ true → Way f 0
unfolding IsDistinct
one_block f l h = record {
  labels = l ∷ [];
  count = omega arith;
  once = (tt, tt);
  each = λ x e. elim (either_holds (nat_eq x l) false e) [
    | inl g ↦ record { steps = 0; within = omega arith; context = []; path = Begins (ap (is_first f) (equal_true x l g) ∙ h) }
    | inr g ↦ absurd (cc (g))
  ];
}

module _ (is_pointer : ℕ → Bool) (f : Code) (clean : IsClean is_pointer f) where
  pub path_runs : (n l : ℕ) (c : Context) → Path f n l c → stops f l ≡ false
  path_runs n l c p = walked_runs is_pointer f clean l c (path_is_walked f n l c p)

  path_label : (n l : ℕ) (c : Context) → Path f n l c → stops f l ≡ false → is_label f l ≡ true
  path_label n l c (Begins h) s = first_is_label f l h
  path_label n l c (Onward {n = m} {b = b} {t = t} {c = e} {d = d} p x) s = step_label f b l e c x s

  -- by induction on the first path: the last block but one is the same on both
  pub one_length : (n m l : ℕ) (c d : Context) → Path f n l c → Path f m l d → n ≡ m
  one_length n m l c d (Begins h) (Begins g) = refl
  one_length n m l c d (Begins h) (Onward {n = k} {b = b} {t = t} {c = e} {d = i} p x) =
      absurd (first_has_no_parent f b l e d x h (path_runs (k + 1) l d (Onward p x)))
  one_length n m l c d (Onward {n = k} {b = b} {t = t} {c = e} {d = i} p x) (Begins h) =
      absurd (first_has_no_parent f b l e c x h (path_runs (k + 1) l c (Onward p x)))
  one_length n m l c d (Onward {n = k} {b = b} {t = t} {c = e} {d = i} p x) (Onward {n = k2} {b = b2} {t = t2} {c = e2} {d = i2} q y) =
      let same =
      (one_parent f b b2 l e e2 c d (path_is_walked f k b e p) (path_is_walked f k2 b2 e2 q) x y (path_runs (k + 1) l c (Onward p x)) (path_runs k b e p)).block in
      ap (λ j. j + 1) (one_length k k2 b e e2 p (subst (λ j. Path f k2 j e2) (sym same) q))

  -- the next block on a way is none of those before it, to which there are shorter ways
  next_is_new : (n t : ℕ) (d : Context) (w : Way f n) → Path f (n + 1) t d → is_member nat_eq w.labels t ≡ false
  next_is_new n t d w p = elim (tells (is_member nat_eq w.labels t)) [
    | inl e ↦ let o = w.each t e in let same = one_length o.steps (n + 1) t o.context d o.path p in let within = o.within in absurd (omega arith)
    | inr e ↦ e
  ]

  -- by induction on the path
  way_of : (n l : ℕ) (c : Context) → Path f n l c → Way f n
  way_of n l c (Begins h) = one_block f l h
  way_of n l c (Onward {n = m} {b = b} {t = t} {c = e} {d = d} p x) =
      let w = way_of m b e p in extended f m l c w (Onward p x) (next_is_new m l c w (Onward p x))

  -- there are as many labels on the way as blocks at most
  pub paths_are_short : (n l : ℕ) (c : Context) → Path f n l c → n < length f
  paths_are_short n l c p =
      let w = way_of n l c p in
      let most =
      length-le_from_is_member nat_eq_equiv w.labels (map (λ b. b.label) f) w.once
      (λ x e. let o = w.each x e in among_labels f x (path_label o.steps x o.context o.path (path_runs o.steps x o.context o.path))) in
      let labels = labels_count f in let count = w.count in
      omega arith

  -- ---- what is behind a block

  -- the way goes on
  pub path_below : (q x : ℕ) (c : Context) (n l : ℕ) (d : Context) → Path f q x c → Below f x c n l d → Path f (q + n) l d
  path_below q x c n l d p Here = subst (λ j. Path f j l d) (sym (add-zero q)) p
  path_below q x c n l d p (Behind {n = m} {b = b} {t = t} {d = e} {e = i} w s) =
      subst (λ j. Path f j l d) (add_assoc q m 1) (Onward (path_below q x c m b e p w) s)

  pub below_walked : (x : ℕ) (c : Context) (n l : ℕ) (d : Context) → Walk f x c → Below f x c n l d → Walk f l d
  below_walked x c n l d v Here = v
  below_walked x c n l d v (Behind {n = m} {b = b} {t = t} {d = e} {e = i} w s) = step_walked f b l e d (below_walked x c m b e v w) s

  -- what is as far below two blocks is below one: by induction on how it is below the first
  one_top_of : (t u : ℕ) (d e : Context) (n m l : ℕ) (g k : Context) → Walk f t d → Walk f u e → n ≡ m → Below f t d n l g → Below f u e m l k → t ≡ u
  one_top_of t u d e n m l g k v w same Here Here = refl
  one_top_of t u d e n m l g k v w same Here (Behind {n = m2} {b = b} {t = a} {d = i} {e = j} x y) = absurd (omega arith)
  one_top_of t u d e n m l g k v w same (Behind {n = n2} {b = b} {t = a} {d = i} {e = j} x y) Here = absurd (omega arith)
  one_top_of t u d e n m l g k v w same (Behind {n = n2} {b = b} {t = a} {d = i} {e = j} x y) (Behind {n = m2} {b = b2} {t = a2} {d = i2} {e = j2} x2 y2) =
      let walked = below_walked t d n2 b i v x in let walked2 = below_walked u e m2 b2 i2 w x2 in
      let runs = walked_runs is_pointer f clean l g (step_walked f b l i g walked y) in
      let parent = one_parent f b b2 l i i2 g k walked walked2 y y2 runs (walked_runs is_pointer f clean b i walked) in
      one_top_of t u d e n2 m2 b i i2 v w (omega arith) x (subst (λ j. Below f u e m2 j i2) (sym parent.block) x2)

  pub parts_are_apart : (b t u l n m : ℕ) (c d e g k : Context) → Walk f b c → Steps f b c t d → Steps f b c u e → t ≢ u → Below f t d n l g → Below f u e m l k → ⊥
  parts_are_apart b t u l n m c d e g k w x y differ below other =
      let p = path_of_walk f b c w in
      let first = path_below (p.0 + 1) t d n l g (Onward p.1 x) below in
      let second = path_below (p.0 + 1) u e m l k (Onward p.1 y) other in
      let same = one_length (p.0 + 1 + n) (p.0 + 1 + m) l g k first second in
      differ (one_top_of t u d e n m l g k (step_walked f b t c d w x) (step_walked f b u c e w y) (omega arith) below other)

  pub none_is_behind_itself : (b l n : ℕ) (c d : Context) → Walk f b c → Below f b c (n + 1) l d → l ≢ b
  none_is_behind_itself b l n c d w below =
      let p = path_of_walk f b c w in
      let longer = path_below p.0 b c (n + 1) l d p.1 below in
      λ same.
      let lengths = one_length p.0 (p.0 + (n + 1)) b c d p.1 (subst (λ j. Path f (p.0 + (n + 1)) j d) same longer) in
      omega arith
