-- How many constructs lie round the blocks of a spelled tree: a bound, and a block that reaches it.
use Rattle.std.proofs.Common.{◌≡◌, ◌⊎◌, inl, inr, ℕ, suc, ◌+◌, ◌≤◌, true, false, cond, not, ◌&&◌, ◌||◌, ◌==◌, max, nat_le, [], ◌∷◌, length, Some, None, refl, sym, ap, subst, ◌∙◌, arith}
use Rattle.std.proofs.Math.Nat.{le-max_left, le-max_right, max-eq_left, max_comm}
use Rattle.std.proofs.lemmas.Bool.Decides.{nat_tests}
use Rattle.spv_opcodes.specs.declared.op.TheConstants as op
use Rattle.spv_blocks.specs.Blocks.{Code, Construct, ALoop, End, Branch, Return, Unreachable, Open, branches, construct, end_targets, has, merge_of, next_of, stops}
use Rattle.spv_walk.specs.Contexts.{Context, InNext, behind, is_exit, next_context}
use Rattle.spv_walk.specs.Walk.{Walk, end_of, tries}
use Rattle.spv_walk.specs.Walked.{Steps, StepEntered, StepStopped, StepMerged, StepContinued}
use Rattle.spv_walk.proofs.Steps.{step_walked}
use Rattle.spv_walk.proofs.Unique.{tells, truth_apart, both_right, not_true, either_holds, equal_true, leads_branches, tries_leads}
use Rattle.spv_tree.specs.Sound.{is_end}
use Rattle.spv_spelling.specs.Paths.{Below, Here, Behind}
use Rattle.spv_spelling.proofs.Onward.{below_below, directly_below}
use Rattle.spv_normal_trees.proofs.Members.{has_cons, has_nothing}
use Rattle.spv_normal_trees.proofs.Arranging.{target_end}
use Rattle.spv_normal_trees.proofs.RegionBlocks.{Under}

-- how many constructs lie round the end of a block
abbrev pub round : Code → (l : ℕ) → Context → ℕ
round f l c = length (behind (construct f l) l l c)

-- no more than k round any block behind t
abbrev pub Bounds : Code → (t : ℕ) → Context → (k : ℕ) → Type 0
Bounds f t d k = (x : ℕ) (u : Under f t d x) → round f x u.context ≤ k

-- and k round one
abbrev pub Reaches : Code → (t : ℕ) → Context → (k : ℕ) → Type 0
Reaches f t d k = (x : ℕ) × (u : Under f t d x) × (round f x u.context ≡ k)

-- behind the block l there are n more than round it at most, and so many somewhere
pub record Deep (f : Code) (l : ℕ) (c : Context) (n : ℕ) : Type 0 where
  pub bound : Bounds f l c (length c + n)
  pub reach : Reaches f l c (length c + n)

-- so behind the way of l to t, where v lie round the end of l; none where it leads out
pub record WayDeep (f : Code) (l : ℕ) (c : Context) (t v n : ℕ) : Type 0 where
  pub bound : tries f l c t ≡ true → Bounds f t (behind (construct f l) l t c) (v + n)
  pub reach : (n ≡ 0) ⊎ Reaches f l c (v + n)

-- and behind all ways of l
pub record FreeDeep (f : Code) (l : ℕ) (c : Context) (v n : ℕ) : Type 0 where
  pub bound : (t : ℕ) → tries f l c t ≡ true → Bounds f t (behind (construct f l) l t c) (v + n)
  pub reach : (n ≡ 0) ⊎ Reaches f l c (v + n)

-- ---- the greater of two

pub either_max : (a b : ℕ) → (max a b ≡ a) ⊎ (max a b ≡ b)
either_max a b = elim (tells (nat_le b a)) [
  | inl h ↦ let less : b ≤ a = grind (arith, nat_tests) in inl (max-eq_left less)
  | inr h ↦ let less : a ≤ b = grind (arith, nat_tests) in inr (max_comm a b ∙ max-eq_left less)
]

-- ---- blocks that end a function

abbrev end_by : (o : ℕ) (x y z : End) → End
end_by o x y z =
    cond (o == op.BRANCH) x (cond (o == op.BRANCH_CONDITIONAL) y (cond (o == op.SWITCH) z
    (cond (o == op.RETURN || o == op.RETURN_VALUE) Return (cond (o == op.UNREACHABLE) Unreachable Open))))

-- what ends a function is no branch
pub finish_end : (o : ℕ) (x y z : End) → is_end o ≡ true → (end_by o x y z ≡ Return) ⊎ (end_by o x y z ≡ Unreachable)
finish_end o x y z h = elim (either_holds (o == op.RETURN) (o == op.RETURN_VALUE || (o == op.UNREACHABLE || false)) h) [
  | inl e ↦ inl (ap (λ k. end_by k x y z) (equal_true o op.RETURN e))
  | inr g ↦ elim (either_holds (o == op.RETURN_VALUE) (o == op.UNREACHABLE || false) g) [
    | inl e ↦ inl (ap (λ k. end_by k x y z) (equal_true o op.RETURN_VALUE e))
    | inr k ↦ elim (either_holds (o == op.UNREACHABLE) false k) [
      | inl e ↦ inr (ap (λ k. end_by k x y z) (equal_true o op.UNREACHABLE e))
      | inr e ↦ truth_apart false e refl
    ]
  ]
]

-- ---- what is behind a block

-- x is behind l in the context c, past a first step
record Beyond (f : Code) (l : ℕ) (c : Context) (x : ℕ) (e : Context) : Type 0 where
  first : ℕ
  context : Context
  step : Steps f l c first context
  steps : ℕ
  below : Below f first context steps x e

-- by induction on how it is below
split_below : (f : Code) (l : ℕ) (c : Context) (n x : ℕ) (e : Context) → Below f l c n x e → ((x ≡ l) × (e ≡ c)) ⊎ Beyond f l c x e
split_below f l c n x e Here = inl (refl, refl)
split_below f l c n x e (Behind {n = m} {b = b} {t = t} {d = d} {e = k} below s) = elim (split_below f l c m b d below) [
  | inl q ↦ inr (record {
    first = x;
    context = e;
    step = subst (λ j. Steps f j c x e) q.0 (subst (λ j. Steps f b j x e) q.1 s);
    steps = 0;
    below = Here;
  })
  | inr r ↦ inr (record { first = r.first; context = r.context; step = r.step; steps = r.steps + 1; below = Behind r.below s })
]

-- t is tried, so it is a target that is no exit
pub tried_stays : (f : Code) (l : ℕ) (c : Context) (t : ℕ) → tries f l c t ≡ true → is_exit (behind (construct f l) l t c) (end_of f l) t ≡ false
tried_stays f l c t h =
    not_true (is_exit (behind (construct f l) l t c) (end_of f l) t)
    (both_right (not (stops f l) && branches f l t) (not (is_exit (behind (construct f l) l t c) (end_of f l) t)) (tries_leads f l c t h))

pub tried_target : (f : Code) (l : ℕ) (c : Context) (t : ℕ) (e : End) → end_of f l ≡ e → tries f l c t ≡ true → has (end_targets e) t ≡ true
tried_target f l c t e same h = ap (λ ts. has ts t) (sym (target_end f l ∙ ap end_targets same)) ∙ leads_branches f l c t (tries_leads f l c t h)

module _ (f : Code) where
  pub raised : (t : ℕ) (d : Context) (k j : ℕ) → k ≤ j → Bounds f t d k → Bounds f t d j
  raised t d k j less h x u = let a = h x u in omega arith

  -- what is reached behind a step is reached
  pub lifted : (l t : ℕ) (c d : Context) (k : ℕ) → Steps f l c t d → Reaches f t d k → Reaches f l c k
  lifted l t c d k s h = (
    h.0,
    record { steps = 1 + h.1.steps; context = h.1.context; below = below_below f l t c d 1 h.1.steps h.0 h.1.context (directly_below f l t c d s) h.1.below },
    h.2,
  )

  pub self_reached : (l : ℕ) (c : Context) (k : ℕ) → round f l c ≡ k → Reaches f l c k
  self_reached l c k e = (l, record { steps = 0; context = c; below = Here }, e)

  -- ---- ways

  pub way_leaves : (l t v : ℕ) (c d : Context) → behind (construct f l) l t c ≡ d → is_exit d (end_of f l) t ≡ true → WayDeep f l c t v 0
  way_leaves l t v c d same out = record {
    bound = λ tried. truth_apart (is_exit (behind (construct f l) l t c) (end_of f l) t) (ap (λ k. is_exit k (end_of f l) t) same ∙ out)
        (tried_stays f l c t tried);
    reach = inl refl;
  }

  pub way_on : (l t n : ℕ) (c d : Context) → behind (construct f l) l t c ≡ d → Steps f l c t d → Deep f t d n → WayDeep f l c t (length d) n
  way_on l t n c d same s h = record {
    bound = λ tried. subst (λ k. Bounds f t k (length d + n)) (sym same) h.bound;
    reach = inr (lifted l t c d (length d + n) s h.reach);
  }

  pub one_way : (l t v n : ℕ) (c : Context) → end_of f l ≡ Branch t → WayDeep f l c t v n → FreeDeep f l c v n
  one_way l t v n c e h = record {
    bound = λ u tried. elim (has_cons t [] u (tried_target f l c u (Branch t) e tried)) [
      | inl same ↦ subst (λ k. Bounds f k (behind (construct f l) l k c) (v + n)) same (h.bound (subst (λ k. tries f l c k ≡ true) (sym same) tried))
      | inr g ↦ has_nothing u g
    ];
    reach = h.reach;
  }

  -- the greater of two ways is reached
  pub reached_max : (l v a b : ℕ) (c : Context) → (a ≡ 0) ⊎ Reaches f l c (v + a) → (b ≡ 0) ⊎ Reaches f l c (v + b)
      → (max a b ≡ 0) ⊎ Reaches f l c (v + max a b)
  reached_max l v a b c h g = elim (either_max a b) [
    | inl e ↦ subst (λ k. (k ≡ 0) ⊎ Reaches f l c (v + k)) (sym e) h
    | inr e ↦ subst (λ k. (k ≡ 0) ⊎ Reaches f l c (v + k)) (sym e) g
  ]

  pub two_ways : (l t u v a b : ℕ) (c : Context) → ((w : ℕ) → tries f l c w ≡ true → (t ≡ w) ⊎ (u ≡ w)) → WayDeep f l c t v a → WayDeep f l c u v b
      → FreeDeep f l c v (max a b)
  two_ways l t u v a b c only h g =
      let left = le-max_left a b in let right = le-max_right a b in
      record {
        bound = λ w tried. elim (only w tried) [
          | inl same ↦ raised w (behind (construct f l) l w c) (v + a) (v + max a b) (omega arith)
              (subst (λ k. Bounds f k (behind (construct f l) l k c) (v + a)) same (h.bound (subst (λ k. tries f l c k ≡ true) (sym same) tried)))
          | inr same ↦ raised w (behind (construct f l) l w c) (v + b) (v + max a b) (omega arith)
              (subst (λ k. Bounds f k (behind (construct f l) l k c) (v + b)) same (g.bound (subst (λ k. tries f l c k ≡ true) (sym same) tried)))
        ];
        reach = reached_max l v a b c h.reach g.reach;
      }

  -- the block itself where its ways all lead out
  ways_reached : (l v n : ℕ) (c : Context) → round f l c ≡ v → (n ≡ 0) ⊎ Reaches f l c (v + n) → Reaches f l c (v + n)
  ways_reached l v n c e h = elim h [
    | inl z ↦ self_reached l c (v + n) (e ∙ omega (arith, z))
    | inr r ↦ r
  ]

  -- ---- blocks

  module _ (runs : (l : ℕ) (c : Context) → Walk f l c → stops f l ≡ false) (l k : ℕ) (c : Context) (w : Walk f l c) (self : round f l c ≤ k)
      (ways : (t : ℕ) → tries f l c t ≡ true → Bounds f t (behind (construct f l) l t c) k)
      (merged : (m : ℕ) → merge_of (construct f l) ≡ Some m → Bounds f m c k)
      (continued : (n : ℕ) → next_of (construct f l) ≡ Some n → Bounds f n (next_context (construct f l) l c) k) where
    by_step : (t : ℕ) (d : Context) → Steps f l c t d → Bounds f t d k
    by_step t d (StepEntered u x y) = ways t x
    by_step t d (StepStopped u x y) = truth_apart (stops f t) y
        (runs t (behind (construct f l) l t c) (step_walked f l t c (behind (construct f l) l t c) w (StepStopped t x y)))
    by_step t d (StepMerged m x y z) = merged t y
    by_step t d (StepContinued n x y z) = continued t y

    pub bounded : Bounds f l c k
    bounded x u = elim (split_below f l c u.steps x u.context u.below) [
      | inl q ↦ subst (λ e. round f x e ≤ k) (sym q.1) (subst (λ j. round f j c ≤ k) (sym q.0) self)
      | inr r ↦ by_step r.first r.context r.step x (record { steps = r.steps; context = u.context; below = r.below })
    ]

  no_merge : (l k : ℕ) (c : Context) → construct f l ≡ None → (m : ℕ) → merge_of (construct f l) ≡ Some m → Bounds f m c k
  no_merge l k c bare m e = absurd (cc (ap merge_of (sym bare) ∙ e))

  no_next : (l k : ℕ) (c d : Context) → next_of (construct f l) ≡ None → (n : ℕ) → next_of (construct f l) ≡ Some n → Bounds f n d k
  no_next l k c d none n e = absurd (cc (sym none ∙ e))

  module _ (runs : (l : ℕ) (c : Context) → Walk f l c → stops f l ≡ false) where
    pub bare_deep : (l n : ℕ) (c : Context) → Walk f l c → construct f l ≡ None → FreeDeep f l c (length c) n → Deep f l c n
    bare_deep l n c w bare h =
        let here : round f l c ≡ length c = ap (λ k. length (behind k l l c)) bare in
        record {
          bound = bounded runs l (length c + n) c w (omega (arith, here)) h.bound (no_merge l (length c + n) c bare)
              (no_next l (length c + n) c (next_context (construct f l) l c) (ap next_of bare));
          reach = ways_reached l (length c) n c here h.reach;
        }

    -- a selection or a switch
    pub merge_deep : (l m n r : ℕ) (c : Context) (k : Construct) → Walk f l c → construct f l ≡ Some k → merge_of (Some k) ≡ Some m → next_of (Some k) ≡ None
        → round f l c ≡ suc (length c) → Steps f l c m c → FreeDeep f l c (suc (length c)) n → Deep f m c r → Deep f l c (max (n + 1) r)
    merge_deep l m n r c k w e is none here step h g =
        let left = le-max_left (n + 1) r in let right = le-max_right (n + 1) r in
        let all : ℕ = length c + max (n + 1) r in
        record {
          bound = bounded runs l all c w (omega (arith, here))
              (λ t tried. raised t (behind (construct f l) l t c) (suc (length c) + n) all (omega arith) (h.bound t tried))
              (λ j same. subst (λ b. Bounds f b c all) (cc (sym is ∙ ap merge_of (sym e) ∙ same)) (raised m c (length c + r) all (omega arith) g.bound))
              (no_next l all c (next_context (construct f l) l c) (ap next_of e ∙ none));
          reach = elim (either_max (n + 1) r) [
            | inl same ↦ subst (λ b. Reaches f l c b) (omega (arith, same)) (ways_reached l (suc (length c)) n c here h.reach)
            | inr same ↦ subst (λ b. Reaches f l c (length c + b)) (sym same) (lifted l m c c (length c + r) step g.reach)
          ];
        }

    pub loop_deep_of : (h m n a b r : ℕ) (c : Context) → Walk f h c → construct f h ≡ Some (ALoop m n) → Steps f h c m c → Steps f h c n (InNext h m ∷ c)
        → FreeDeep f h c (suc (length c)) a → Deep f n (InNext h m ∷ c) b → Deep f m c r → Deep f h c (max (max a b + 1) r)
    loop_deep_of h m n a b r c w e merge_step next_step p q g =
        let here : round f h c ≡ suc (length c) = ap (λ k. length (behind k h h c)) e in
        let first = le-max_left a b in let second = le-max_right a b in
        let left = le-max_left (max a b + 1) r in let right = le-max_right (max a b + 1) r in
        let all : ℕ = length c + max (max a b + 1) r in
        let next_bound : Bounds f n (InNext h m ∷ c) all = raised n (InNext h m ∷ c) (length (InNext h m ∷ c) + b) all (omega arith) q.bound in
        record {
          bound = bounded runs h all c w (omega (arith, here))
              (λ t tried. raised t (behind (construct f h) h t c) (suc (length c) + a) all (omega arith) (p.bound t tried))
              (λ j same. subst (λ k. Bounds f k c all) (cc (ap merge_of (sym e) ∙ same)) (raised m c (length c + r) all (omega arith) g.bound))
              (λ j same. subst (λ d. Bounds f j d all) (ap (λ k. next_context k h c) (sym e))
              (subst (λ k. Bounds f k (InNext h m ∷ c) all) (cc (ap next_of (sym e) ∙ same)) next_bound));
          reach = elim (either_max (max a b + 1) r) [
            | inl same ↦ elim (either_max a b) [
              | inl two ↦ subst (λ k. Reaches f h c k) (omega (arith, same, two)) (ways_reached h (suc (length c)) a c here p.reach)
              | inr two ↦ subst (λ k. Reaches f h c k) (omega (arith, same, two))
                  (lifted h n c (InNext h m ∷ c) (length (InNext h m ∷ c) + b) next_step q.reach)
            ]
            | inr same ↦ subst (λ k. Reaches f h c (length c + k)) (sym same) (lifted h m c c (length c + r) merge_step g.reach)
          ];
        }
