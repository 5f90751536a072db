-- A table of walked blocks that is sound and closed is exact, and the same is broken through it.
use Rattle.std.proofs.Common.{◌≡◌, inl, inr, ℕ, Bool, true, false, [], ◌∷◌, Option, Some, None, sym, subst}
use Rattle.spv_base.specs.declared.fault.Refusal.{Refusal}
use Rattle.spv_blocks.specs.Blocks.{Code, construct, merge_of, next_of, is_role, is_first, stops}
use Rattle.spv_walk.specs.Contexts.{Context, InNext, behind, next_context}
use Rattle.spv_walk.specs.Walk.{Enters, tries, Walk, Starts, Entered, Stopped, Merged, Continued, BackEdge, OneBackEdge}
use Rattle.spv_walk.specs.Rules.{Finds, AtFront, AtEnd, BadTarget, CaseFall, BadContinue, NoTerminator, Broken, Found, NeverEntered, IsFirst}
use Rattle.spv_walk.specs.Walked.{HasSome, WalkTable, WalkTurn, IsWalk, BackEdgeIn, OneBackEdgeIn, FindsIn, InFront, InEnd, InTarget, InFall, InContinue, InOpen, BrokenIn, FoundIn, NotIn, SameBroken}
use Rattle.spv_walk.proofs.Unique.{truth_apart, leads_runs, tries_runs, bare_runs}

module _ (f : Code) (In : ℕ → Context → Type 0) (Done : ℕ → Type 0) where
  -- at first, where no block of the table is done
  pub walk_begin : ((b : ℕ) (c : Context) → In b c → Walk f b c) → ((l : ℕ) → is_first f l ≡ true → In l []) → ((b : ℕ) (c : Context) → In b c → Done b → ⊥)
      → WalkTable f In Done
  walk_begin s a n = record {
    sound = s;
    starts = a;
    entered = λ b t c i d x y. absurd (n b c i d);
    stopped = λ b t c i d x y. absurd (n b c i d);
    merged = λ b m c i d x y z. absurd (n b c i d);
    continued = λ b m c i d x y z. absurd (n b c i d);
  }

  -- what holds of a walked block at the end
  abbrev HasIt : ℕ → Context → Type 0
  HasIt b c = (stops f b ≡ false → In b c) × HasSome In b

  it_is : (b : ℕ) (c : Context) → In b c → HasIt b c
  it_is b c i = (λ s. i, (c, i))

  -- where all are done: by induction on how a block is walked
  walk_all : WalkTable f In Done → ((b : ℕ) (c : Context) → In b c → Done b) → (b : ℕ) (c : Context) → Walk f b c → HasIt b c
  walk_all t d b c (Starts l x) = it_is b [] (t.starts b x)
  walk_all t d b c (Entered p u e w x y) =
      let i = (walk_all t d p e w).0 (tries_runs f p e b x) in
      it_is b (behind (construct f p) p b e) (t.entered p b e i (d p e i) x y)
  walk_all t d b c (Stopped p u e w x y) =
      let i = (walk_all t d p e w).0 (tries_runs f p e b x) in
      (λ s. truth_apart (stops f b) y s, t.stopped p b e i (d p e i) x y)
  walk_all t d b c (Merged p m e w x y z) =
      let i = (walk_all t d p c w).0 x in
      it_is b c (t.merged p b c i (d p c i) x y z)
  walk_all t d b c (Continued p m e w x y z) =
      let i = (walk_all t d p e w).0 x in
      it_is b (next_context (construct f p) p e) (t.continued p b e i (d p e i) x y z)

  pub walk_end : WalkTable f In Done → ((b : ℕ) (c : Context) → In b c → Done b) → IsWalk f In
  walk_end t d = record {
    sound = t.sound;
    whole = λ b c w s. (walk_all t d b c w).0 s;
    some = λ b c w. (walk_all t d b c w).1;
  }

module _ (f : Code) (In In2 : ℕ → Context → Type 0) (Done Done2 : ℕ → Type 0) (b : ℕ) where
  some_grows : WalkTurn f In In2 Done Done2 b → (t : ℕ) → HasSome In t → HasSome In2 t
  some_grows u t i = (i.0, u.grows t i.0 i.1)

  -- a turn keeps the table
  pub walk_turn : WalkTable f In Done → WalkTurn f In In2 Done Done2 b → WalkTable f In2 Done2
  walk_turn t u = record {
    sound = u.sound;
    starts = λ l x. u.grows l [] (t.starts l x);
    entered = λ p k c i d x y.
        elim ((u.settled p c i d).1) [
          | inl o ↦ u.grows k (behind (construct f p) p k c) (t.entered p k c (u.settled p c i d).0 o x y)
          | inr e ↦
              subst (λ j. In2 k (behind (construct f j) j k c)) (sym e)
              (u.entered k c (subst (λ j. In j c) e (u.settled p c i d).0) (subst (λ j. tries f j c k ≡ true) e x) (subst (λ j. Enters f j k) e y))
        ];
    stopped = λ p k c i d x y.
        elim ((u.settled p c i d).1) [
          | inl o ↦ some_grows u k (t.stopped p k c (u.settled p c i d).0 o x y)
          | inr e ↦ u.stopped k c (subst (λ j. In j c) e (u.settled p c i d).0) (subst (λ j. tries f j c k ≡ true) e x) y
        ];
    merged = λ p m c i d x y z.
        elim ((u.settled p c i d).1) [
          | inl o ↦ u.grows m c (t.merged p m c (u.settled p c i d).0 o x y z)
          | inr e ↦ u.merged m c (subst (λ j. In j c) e (u.settled p c i d).0) (subst (λ j. stops f j ≡ false) e x)
              (subst (λ j. merge_of (construct f j) ≡ Some m) e y) (subst (λ j. is_role f j m ≡ true) e z)
        ];
    continued = λ p n c i d x y z.
        elim ((u.settled p c i d).1) [
          | inl o ↦ u.grows n (next_context (construct f p) p c) (t.continued p n c (u.settled p c i d).0 o x y z)
          | inr e ↦
              subst (λ j. In2 n (next_context (construct f j) j c)) (sym e)
              (u.continued n c (subst (λ j. In j c) e (u.settled p c i d).0) (subst (λ j. stops f j ≡ false) e x)
              (subst (λ j. next_of (construct f j) ≡ Some n) e y) (subst (λ j. is_role f j n ≡ true) e z))
        ];
  }

-- ---- the rules through an exact table

module _ (f : Code) (In : ℕ → Context → Type 0) (t : IsWalk f In) where
  pub back_edge_in : (h b : ℕ) → BackEdge f h b → BackEdgeIn f In h b
  back_edge_in h b e = record {
    context = e.context;
    merge = e.merge;
    walked = t.whole b (InNext h e.merge ∷ e.context) e.walked (bare_runs f b e.bare);
    bare = e.bare;
    branch = e.branch;
  }

  pub in_back_edge : (h b : ℕ) → BackEdgeIn f In h b → BackEdge f h b
  in_back_edge h b e = record {
    context = e.context;
    merge = e.merge;
    walked = t.sound b (InNext h e.merge ∷ e.context) e.walked;
    bare = e.bare;
    branch = e.branch;
  }

  pub one_in : (h : ℕ) → OneBackEdge f h → OneBackEdgeIn f In h
  one_in h o = record { block = o.block; ends = back_edge_in h o.block o.ends; one = λ b e. o.one b (in_back_edge h b e) }

  pub in_one : (h : ℕ) → OneBackEdgeIn f In h → OneBackEdge f h
  in_one h o = record { block = o.block; ends = in_back_edge h o.block o.ends; one = λ b e. o.one b (back_edge_in h b e) }

module _ (is_pointer : ℕ → Bool) (f : Code) (In : ℕ → Context → Type 0) (t : IsWalk f In) where
  pub finds_in : (rule at : ℕ) → Finds is_pointer f rule at → FindsIn is_pointer f In rule at
  finds_in rule at (AtFront l b c r w x y) = let i = t.some l c w in InFront l b i.0 r i.1 x y
  finds_in rule at (AtEnd l b c r w x s y) = InEnd l b c r (t.whole l c w s) x s y
  finds_in rule at (BadTarget l k c w x s n) = InTarget l k c (t.whole l c w (tries_runs f l c k x)) x s n
  finds_in rule at (CaseFall l k c w x y) = InFall l k c (t.whole l c w (leads_runs f l c k x)) x y
  finds_in rule at (BadContinue l m b c w x s y n) = InContinue l m b c (t.whole l c w s) x s y (λ o. n (in_one f In t l o))
  finds_in rule at (NoTerminator l b x y) = InOpen l b x y

  pub in_finds : (rule at : ℕ) → FindsIn is_pointer f In rule at → Finds is_pointer f rule at
  in_finds rule at (InFront l b c r w x y) = AtFront l b c r (t.sound l c w) x y
  in_finds rule at (InEnd l b c r w x s y) = AtEnd l b c r (t.sound l c w) x s y
  in_finds rule at (InTarget l k c w x s n) = BadTarget l k c (t.sound l c w) x s n
  in_finds rule at (InFall l k c w x y) = CaseFall l k c (t.sound l c w) x y
  in_finds rule at (InContinue l m b c w x s y n) = BadContinue l m b c (t.sound l c w) x s y (λ o. n (one_in f In t l o))
  in_finds rule at (InOpen l b x y) = NoTerminator l b x y

  pub broken_in : (rule at : ℕ) → Broken is_pointer f rule at → BrokenIn is_pointer f In rule at
  broken_in rule at (Found r a x) = FoundIn rule at (finds_in rule at x)
  broken_in rule at (NeverEntered l b n x y) = NotIn l b (λ r a g. n r a (in_finds r a g)) x (λ c i. y c (t.sound l c i))

  pub in_broken : (rule at : ℕ) → BrokenIn is_pointer f In rule at → Broken is_pointer f rule at
  in_broken rule at (FoundIn r a x) = Found rule at (in_finds rule at x)
  in_broken rule at (NotIn l b n x y) = NeverEntered l b (λ r a g. n r a (finds_in r a g)) x (λ c w. let i = t.some l c w in y i.0 i.1)

  pub first_in : (refusal : Option Refusal) → IsFirst (BrokenIn is_pointer f In) refusal → IsFirst (Broken is_pointer f) refusal
  first_in None h = λ rule at b. h rule at (broken_in rule at b)
  first_in (Some r) h = record { broken = in_broken r.rule r.at h.broken; least = λ rule at b. h.least rule at (broken_in rule at b) }

  pub same_broken : SameBroken is_pointer f In
  same_broken = record { finds = finds_in; found = in_finds; broken = broken_in; breaks = in_broken; first = first_in }
