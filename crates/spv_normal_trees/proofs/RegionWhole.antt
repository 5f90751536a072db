-- What is walked directly behind a block of a region is a block of it, so a region that begins with the first block has all blocks.
use Rattle.std.proofs.Common.{◌≡◌, inl, inr, ℕ, true, false, not, ◌&&◌, List, [], ◌++◌, Option, Some, None, refl, sym, ap, subst, ◌∙◌}
use Rattle.spv_blocks.specs.Blocks.{Code, Construct, branches, construct, has, is_first, merge_of, next_of, stops}
use Rattle.spv_walk.specs.Contexts.{Context, behind, is_exit}
use Rattle.spv_walk.specs.Walk.{Walk, Starts, Entered, Stopped, Merged, Continued, end_of, tries}
use Rattle.spv_walk.specs.Walked.{Steps, StepEntered, StepStopped, StepMerged, StepContinued}
use Rattle.spv_walk.proofs.Unique.{both_right, truth_apart, not_true, leads_branches, tries_leads, one_context}
use Rattle.spv_normal_trees.proofs.Members.{has_cons, has_head, has_tail, has_left, has_right, has_either, has_nothing}
use Rattle.spv_normal_trees.proofs.Regions.{Region, region, Way, leaf, comes, enters, Ways, nowhere, more, Parts, bare, selection, switch, loop, of_region, of_way, of_ways, of_parts}

leads_stays : (f : Code) (l : ℕ) (c : Context) (t : ℕ) → tries f l c t ≡ true → is_exit (behind (construct f l) l t c) (end_of f l) t ≡ false
leads_stays f l c t h =
    not_true (is_exit (behind (construct f l) l t c) (end_of f l) t)
    (both_right (not (stops f l) && branches f l t) (not (is_exit (behind (construct f l) l t c) (end_of f l) t)) (tries_leads f l c t h))

some_same : {P : Type 0} (m n : ℕ) → Some m ≡ Some n → (m ≡ n → P) → P
some_same m n e k = k (ap (λ o. elim o [ None ↦ m | Some x ↦ x ]) e)

module _ (f : Code) (Taken : (l t : ℕ) → List ℕ → Type 0) (runs : (l : ℕ) (c : Context) → Walk f l c → stops f l ≡ false) where
  pub first_in : {l : ℕ} {c : Context} (r : Region f Taken l c) → has (of_region f Taken r) l ≡ true
  first_in (region {l = l} e w a ways parts) = has_head l (of_ways f Taken ways ++ of_parts f Taken parts) l refl

  way_in : {l t : ℕ} {c : Context} (way : Way f Taken l c t) → tries f l c t ≡ true → has (of_way f Taken way) t ≡ true
  way_in (leaf {l = l} {t = t} {c = c} out taken) h = truth_apart (is_exit (behind (construct f l) l t c) (end_of f l) t) out (leads_stays f l c t h)
  way_in (comes onto is taken r) h = first_in r
  way_in (enters onto is r) h = first_in r

  ways_in : {l : ℕ} {c : Context} {ts : List ℕ} (ways : Ways f Taken l c ts) (t : ℕ) → has ts t ≡ true → tries f l c t ≡ true
      → has (of_ways f Taken ways) t ≡ true
  ways_in nowhere t s h = has_nothing t s
  ways_in (more {l = l} {t = u} {c = c} {ts = ts} way ways) t s h = elim (has_cons u ts t s) [
    | inl e ↦ has_left (of_way f Taken way) (of_ways f Taken ways) t
        (subst (λ j. has (of_way f Taken way) j ≡ true) e (way_in way (subst (λ j. tries f l c j ≡ true) (sym e) h)))
    | inr e ↦ has_right (of_way f Taken way) (of_ways f Taken ways) t (ways_in ways t e h)
  ]

  merge_in : {l : ℕ} {c : Context} {k : Option Construct} (parts : Parts f Taken l c k) (m : ℕ) → merge_of k ≡ Some m → has (of_parts f Taken parts) m ≡ true
  merge_in bare m h = absurd (cc)
  merge_in (selection {m = n} role r) m h = some_same n m h (λ e. subst (λ j. has (of_region f Taken r) j ≡ true) e (first_in r))
  merge_in (switch {m = n} role r) m h = some_same n m h (λ e. subst (λ j. has (of_region f Taken r) j ≡ true) e (first_in r))
  merge_in (loop {m = n} next_role role next r) m h =
      some_same n m h (λ e. has_right (of_region f Taken next) (of_region f Taken r) m (subst (λ j. has (of_region f Taken r) j ≡ true) e (first_in r)))

  next_in : {l : ℕ} {c : Context} {k : Option Construct} (parts : Parts f Taken l c k) (m : ℕ) → next_of k ≡ Some m → has (of_parts f Taken parts) m ≡ true
  next_in bare m h = absurd (cc)
  next_in (selection {m = n} role r) m h = absurd (cc)
  next_in (switch {m = n} role r) m h = absurd (cc)
  next_in (loop {n = n} next_role role next r) m h =
      some_same n m h (λ e. has_left (of_region f Taken next) (of_region f Taken r) m (subst (λ j. has (of_region f Taken next) j ≡ true) e (first_in next)))

  -- one step on from the first block
  step_in : {l : ℕ} {c : Context} (r : Region f Taken l c) (t : ℕ) (d : Context) → Steps f l c t d → has (of_region f Taken r) t ≡ true
  step_in (region {l = l} {c = c} e w a ways parts) t d (StepEntered u tried y) =
      has_tail l (of_ways f Taken ways ++ of_parts f Taken parts) t (has_left (of_ways f Taken ways) (of_parts f Taken parts) t
      (ways_in ways t (a.all t (leads_branches f l c t (tries_leads f l c t tried))) tried))
  step_in (region {l = l} {c = c} e w a ways parts) t d (StepStopped u tried stopped) =
      truth_apart (stops f t) stopped (runs t (behind (construct f l) l t c) (Stopped l t c w tried stopped))
  step_in (region {l = l} {c = c} e w a ways parts) t d (StepMerged m s is role) =
      has_tail l (of_ways f Taken ways ++ of_parts f Taken parts) t
      (has_right (of_ways f Taken ways) (of_parts f Taken parts) t (merge_in parts t (ap merge_of (sym e) ∙ is)))
  step_in (region {l = l} {c = c} e w a ways parts) t d (StepContinued n s is role) =
      has_tail l (of_ways f Taken ways ++ of_parts f Taken parts) t
      (has_right (of_ways f Taken ways) (of_parts f Taken parts) t (next_in parts t (ap next_of (sym e) ∙ is)))

  at_first : {l : ℕ} {c : Context} (r : Region f Taken l c) (b : ℕ) (d : Context) (t : ℕ) (e : Context) → l ≡ b → Walk f l c → Walk f b d → Steps f b d t e
      → has (of_region f Taken r) t ≡ true
  at_first {l = l} {c = c} r b d t e same w v step =
      let u : Walk f l d = subst (λ j. Walk f j d) (sym same) v in
      let s : Steps f l d t e = subst (λ j. Steps f j d t e) (sym same) step in
      let k : d ≡ c = one_context f l d c u w (runs l c w) in
      step_in r t e (subst (λ j. Steps f l j t e) k s)

  mutual
    pub region_closed : {l : ℕ} {c : Context} (r : Region f Taken l c) (b : ℕ) (d : Context) (t : ℕ) (e : Context) → has (of_region f Taken r) b ≡ true
        → Walk f b d
        → Steps f b d t e → has (of_region f Taken r) t ≡ true
    region_closed (region {l = l} {c = c} is w a ways parts) b d t e h v step =
        elim (has_cons l (of_ways f Taken ways ++ of_parts f Taken parts) b h) [
          | inl p ↦ at_first (region is w a ways parts) b d t e p w v step
          | inr p ↦ has_tail l (of_ways f Taken ways ++ of_parts f Taken parts) t (elim (has_either (of_ways f Taken ways) (of_parts f Taken parts) b p) [
            | inl q ↦ has_left (of_ways f Taken ways) (of_parts f Taken parts) t (ways_closed ways b d t e q v step)
            | inr q ↦ has_right (of_ways f Taken ways) (of_parts f Taken parts) t (parts_closed parts b d t e q v step)
          ])
        ]

    pub way_closed : {l u : ℕ} {c : Context} (way : Way f Taken l c u) (b : ℕ) (d : Context) (t : ℕ) (e : Context) → has (of_way f Taken way) b ≡ true
        → Walk f b d
        → Steps f b d t e → has (of_way f Taken way) t ≡ true
    way_closed (leaf out taken) b d t e h v step = has_nothing b h
    way_closed (comes onto is taken r) b d t e h v step = region_closed r b d t e h v step
    way_closed (enters onto is r) b d t e h v step = region_closed r b d t e h v step

    pub ways_closed : {l : ℕ} {c : Context} {ts : List ℕ} (ways : Ways f Taken l c ts) (b : ℕ) (d : Context) (t : ℕ) (e : Context)
        → has (of_ways f Taken ways) b ≡ true
        → Walk f b d → Steps f b d t e → has (of_ways f Taken ways) t ≡ true
    ways_closed nowhere b d t e h v step = has_nothing b h
    ways_closed (more way ways) b d t e h v step = elim (has_either (of_way f Taken way) (of_ways f Taken ways) b h) [
      | inl q ↦ has_left (of_way f Taken way) (of_ways f Taken ways) t (way_closed way b d t e q v step)
      | inr q ↦ has_right (of_way f Taken way) (of_ways f Taken ways) t (ways_closed ways b d t e q v step)
    ]

    pub parts_closed : {l : ℕ} {c : Context} {k : Option Construct} (parts : Parts f Taken l c k) (b : ℕ) (d : Context) (t : ℕ) (e : Context)
        → has (of_parts f Taken parts) b ≡ true → Walk f b d → Steps f b d t e → has (of_parts f Taken parts) t ≡ true
    parts_closed bare b d t e h v step = has_nothing b h
    parts_closed (selection role r) b d t e h v step = region_closed r b d t e h v step
    parts_closed (switch role r) b d t e h v step = region_closed r b d t e h v step
    parts_closed (loop next_role role next r) b d t e h v step = elim (has_either (of_region f Taken next) (of_region f Taken r) b h) [
      | inl q ↦ has_left (of_region f Taken next) (of_region f Taken r) t (region_closed next b d t e q v step)
      | inr q ↦ has_right (of_region f Taken next) (of_region f Taken r) t (region_closed r b d t e q v step)
    ]

  -- by induction on the walk
  pub all_walked : {l : ℕ} (r : Region f Taken l []) → ((b : ℕ) → is_first f b ≡ true → b ≡ l) → (b : ℕ) (d : Context) → Walk f b d
      → has (of_region f Taken r) b ≡ true
  all_walked r one b d (Starts i h) = subst (λ j. has (of_region f Taken r) j ≡ true) (sym (one b h)) (first_in r)
  all_walked r one b d (Entered p t e w x y) = region_closed r p e b (behind (construct f p) p b e) (all_walked r one p e w) w (StepEntered b x y)
  all_walked r one b d (Stopped p t e w x y) = region_closed r p e b (behind (construct f p) p b e) (all_walked r one p e w) w (StepStopped b x y)
  all_walked r one b d (Merged p m e w x y z) = region_closed r p e b e (all_walked r one p e w) w (StepMerged b x y z)
  all_walked r one b d (Continued p n e w x y z) = region_closed r p e b d (all_walked r one p e w) w (StepContinued b x y z)
