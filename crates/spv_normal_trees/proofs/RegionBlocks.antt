-- The blocks of a region are behind its first, are distinct, and what is walked directly behind one of them is one of them.
use Rattle.std.proofs.Common.{◌≡◌, ◌≢◌, inl, inr, ℕ, ◌+◌, Bool, true, List, ◌∷◌, ◌++◌, Option, Some, refl, sym, ap, subst, ◌∙◌, arith}
use Rattle.spv_blocks.specs.Blocks.{Code, Construct, ASelection, ASwitch, ALoop, construct, has, merge_of, next_of, names}
use Rattle.spv_walk.specs.Contexts.{Context, InNext, next_context}
use Rattle.spv_walk.specs.Walk.{Walk}
use Rattle.spv_walk.specs.Walked.{Steps, StepEntered}
use Rattle.spv_walk.proofs.Unique.{truth_apart, goes_unnamed, role_once, merge_or_next}
use Rattle.spv_spelling.specs.Clean.{IsClean}
use Rattle.spv_spelling.specs.Paths.{Below, Here}
use Rattle.spv_spelling.proofs.Onward.{below_below, continues_on, directly_below, merges_on, no_way_back}
use Rattle.spv_spelling.proofs.Paths.{parts_are_apart}
use Rattle.spv_normal_trees.proofs.Members.{Distinct, has_cons, has_head, has_tail, has_either, has_nothing, has_not, distinct_append}
use Rattle.spv_normal_trees.proofs.Regions.{Onto, Region, region, Way, leaf, comes, enters, Ways, nowhere, more, Parts, bare, selection, switch, loop, of_region, of_way, of_ways, of_parts}

-- x is behind l in the context c, by some steps
pub record Under (f : Code) (l : ℕ) (c : Context) (x : ℕ) : Type 0 where
  pub steps : ℕ
  pub context : Context
  pub below : Below f l c steps x context

-- x is behind l, by a way or part that begins with t
pub record Through (f : Code) (l : ℕ) (c : Context) (t x : ℕ) : Type 0 where
  pub context : Context
  pub step : Steps f l c t context
  pub under : Under f t context x

through_under : (f : Code) (l : ℕ) (c : Context) (t x : ℕ) → Through f l c t x → Under f l c x
through_under f l c t x h = record {
  steps = 1 + h.under.steps;
  context = h.under.context;
  below = below_below f l t c h.context 1 h.under.steps x h.under.context (directly_below f l t c h.context h.step) h.under.below;
}

module _ (f : Code) (Taken : (l t : ℕ) → List ℕ → Type 0) (is_pointer : ℕ → Bool) (clean : IsClean is_pointer f) where
  onto_step : (l : ℕ) (c : Context) (t : ℕ) (d : Context) → Onto f l c t d → Steps f l c t d
  onto_step l c t d o = subst (λ j. Steps f l c t j) (sym o.same) (StepEntered t o.tried o.enters)

  merge_step : (l : ℕ) (c : Context) (k : Option Construct) (m : ℕ) → construct f l ≡ k → Walk f l c → merge_of k ≡ Some m → Steps f l c m c
  merge_step l c k m e w is = merges_on is_pointer f clean l m c w (ap merge_of e ∙ is)

  next_step : (l : ℕ) (c : Context) (m n : ℕ) → construct f l ≡ Some (ALoop m n) → Walk f l c → Steps f l c n (InNext l m ∷ c)
  next_step l c m n e w = continues_on is_pointer f clean l n c (InNext l m ∷ c) w (ap next_of e) (ap (λ k. next_context k l c) e)

  -- x is behind l by one of its ways, or by a part
  pub record ByWay (l : ℕ) (c : Context) (ts : List ℕ) (x : ℕ) : Type 0 where
    pub first : ℕ
    pub stands : has ts first ≡ true
    pub free : names f first ≡ 0
    pub through : Through f l c first x

  pub record ByPart (l : ℕ) (c : Context) (x : ℕ) : Type 0 where
    pub first : ℕ
    pub once : names f first ≡ 1
    pub through : Through f l c first x

  way_through : (l : ℕ) (c : Context) (t x : ℕ) → Walk f l c → (d : Context) → Onto f l c t d → Under f t d x → Through f l c t x
  way_through l c t x w d o u = record { context = d; step = onto_step l c t d o; under = u }

  mutual
    pub region_under : {l : ℕ} {c : Context} (r : Region f Taken l c) (x : ℕ) → has (of_region f Taken r) x ≡ true → Under f l c x
    region_under (region {l = l} {c = c} {k = k} {ts = ts} e w a ways parts) x h = elim (has_cons l (of_ways f Taken ways ++ of_parts f Taken parts) x h) [
      | inl p ↦ record { steps = 0; context = c; below = subst (λ j. Below f l c 0 j c) p Here }
      | inr p ↦ elim (has_either (of_ways f Taken ways) (of_parts f Taken parts) x p) [
        | inl q ↦ let g = ways_under w ways x q in through_under f l c g.first x g.through
        | inr q ↦ let g = parts_under e w parts x q in through_under f l c g.first x g.through
      ]
    ]

    pub way_under : {l t : ℕ} {c : Context} → Walk f l c → (way : Way f Taken l c t) (x : ℕ) → has (of_way f Taken way) x ≡ true
        → (names f t ≡ 0) × Through f l c t x
    way_under w (leaf out taken) x h = has_nothing x h
    way_under w (comes {l = l} {t = t} {c = c} {d = d} onto is taken r) x h =
        (goes_unnamed f l t onto.enters.free, way_through l c t x w d onto (region_under r x h))
    way_under w (enters {l = l} {t = t} {c = c} {d = d} onto is r) x h =
        (goes_unnamed f l t onto.enters.free, way_through l c t x w d onto (region_under r x h))

    pub ways_under : {l : ℕ} {c : Context} {ts : List ℕ} → Walk f l c → (ways : Ways f Taken l c ts) (x : ℕ) → has (of_ways f Taken ways) x ≡ true
        → ByWay l c ts x
    ways_under w nowhere x h = has_nothing x h
    ways_under w (more {t = t} {ts = ts} way ways) x h = elim (has_either (of_way f Taken way) (of_ways f Taken ways) x h) [
      | inl q ↦ let g = way_under w way x q in record { first = t; stands = has_head t ts t refl; free = g.0; through = g.1 }
      | inr q ↦ let g = ways_under w ways x q in record { first = g.first; stands = has_tail t ts g.first g.stands; free = g.free; through = g.through }
    ]

    pub parts_under : {l : ℕ} {c : Context} {k : Option Construct} → construct f l ≡ k → Walk f l c → (parts : Parts f Taken l c k) (x : ℕ)
        → has (of_parts f Taken parts) x ≡ true → ByPart l c x
    parts_under e w bare x h = has_nothing x h
    parts_under e w (selection {l = l} {m = m} {c = c} role r) x h =
        record {
          first = m;
          once = role_once f l m role;
          through = record {
            context = c;
            step = merge_step l c
                (Some (ASelection m)) m e w refl;
            under = region_under r x h;
          };
        }
    parts_under e w (switch {l = l} {m = m} {c = c} role r) x h =
        record {
          first = m;
          once = role_once f l m role;
          through = record {
            context = c;
            step = merge_step l c
                (Some (ASwitch m)) m e w refl;
            under = region_under r x h;
          };
        }
    parts_under e w (loop {l = l} {m = m} {n = n} {c = c} next_role role next r) x h = elim (has_either (of_region f Taken next) (of_region f Taken r) x h) [
      | inl q ↦ record {
        first = n;
        once = role_once f l n next_role;
        through = record { context = InNext l m ∷ c; step = next_step l c m n e w; under = region_under next x q };
      }
      | inr q ↦ record {
        first = m;
        once = role_once f l m role;
        through = record {
          context = c;
          step = merge_step l c
              (Some (ALoop m n)) m e w refl;
          under = region_under r x q;
        };
      }
    ]

  -- what is behind one way or part is behind no other
  two_ways : (l : ℕ) (c : Context) (t u x : ℕ) → Walk f l c → t ≢ u → Through f l c t x → Through f l c u x → ⊥
  two_ways l c t u x w n g h =
      parts_are_apart is_pointer f clean l t u x g.under.steps h.under.steps c g.context h.context g.under.context h.under.context
      w g.step h.step n g.under.below h.under.below

  not_itself : (l : ℕ) (c : Context) (t : ℕ) → Walk f l c → Through f l c t l → ⊥
  not_itself l c t w g = no_way_back is_pointer f clean l t l g.under.steps c g.context g.under.context w g.step g.under.below refl

  mutual
    pub region_distinct : {l : ℕ} {c : Context} (r : Region f Taken l c) → Distinct (of_region f Taken r)
    region_distinct (region {l = l} {c = c} {k = k} {ts = ts} e w a ways parts) = (
      has_not (of_ways f Taken ways ++ of_parts f Taken parts) l (λ h. elim (has_either (of_ways f Taken ways) (of_parts f Taken parts) l h) [
        | inl q ↦ let g = ways_under w ways l q in not_itself l c g.first w g.through
        | inr q ↦ let g = parts_under e w parts l q in not_itself l c g.first w g.through
      ]),
      distinct_append (of_ways f Taken ways) (of_parts f Taken parts) (ways_distinct w a.distinct ways) (parts_distinct e w parts)
          (λ x h q. let g = ways_under w ways x h in let p = parts_under e w parts x q in
          two_ways l c g.first p.first x w (λ s. let z = ap (names f) s in let o = p.once in let n = g.free in absurd (omega arith)) g.through p.through),
    )

    pub way_distinct : {l t : ℕ} {c : Context} (way : Way f Taken l c t) → Distinct (of_way f Taken way)
    way_distinct (leaf out taken) = tt
    way_distinct (comes onto is taken r) = region_distinct r
    way_distinct (enters onto is r) = region_distinct r

    pub ways_distinct : {l : ℕ} {c : Context} {ts : List ℕ} → Walk f l c → Distinct ts → (ways : Ways f Taken l c ts) → Distinct (of_ways f Taken ways)
    ways_distinct w d nowhere = tt
    ways_distinct w d (more {l = l} {t = t} {c = c} {ts = ts} way ways) =
        distinct_append (of_way f Taken way) (of_ways f Taken ways) (way_distinct way) (ways_distinct w d.1 ways)
        (λ x h q. let g = way_under w way x h in let p = ways_under w ways x q in
        two_ways l c t p.first x w (λ s. truth_apart (has ts t) (subst (λ j. has ts j ≡ true) (sym s) p.stands) d.0) g.1 p.through)

    pub parts_distinct : {l : ℕ} {c : Context} {k : Option Construct} → construct f l ≡ k → Walk f l c → (parts : Parts f Taken l c k)
        → Distinct (of_parts f Taken parts)
    parts_distinct e w bare = tt
    parts_distinct e w (selection role r) = region_distinct r
    parts_distinct e w (switch role r) = region_distinct r
    parts_distinct e w (loop {l = l} {m = m} {n = n} {c = c} next_role role next r) =
        distinct_append (of_region f Taken next) (of_region f Taken r) (region_distinct next) (region_distinct r)
        (λ x h q. two_ways l c n m x w (λ s. merge_or_next f l l m (role_once f l m role) (ap merge_of e) (ap next_of e ∙ ap Some s))
        (record { context = InNext l m ∷ c; step = next_step l c m n e w; under = region_under next x h })
        (record { context = c; step = merge_step l c (Some (ALoop m n)) m e w refl; under = region_under r x q }))
