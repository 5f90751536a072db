-- The constructs round a block of a tree, and what is an exit in its context.
use Rattle.std.proofs.Common.{◌≡◌, ℕ, ◌≤◌, inl, inr, Bool, true, ◌==◌, ◌&&◌, ◌||◌, [], ◌∷◌, length, Option, Some, None, refl, sym, ap, ◌∙◌, subst, arith}
use Rattle.std.proofs.lemmas.Bool.{eqb-true}
use Rattle.spv_blocks.specs.Blocks.{Code, End, Construct, ASelection, ASwitch, ALoop, names, merge_of, next_of}
use Rattle.spv_walk.specs.Contexts.{Level, Context, InSelection, InArm, InBody, InNext, behind, next_context, is_exit, leaves_inner, leaves_switch, leaves_loop, is_back_pair}
use Rattle.spv_walk.proofs.Unique.{either_holds, both_left, merge_is_named, next_is_named}
use Rattle.spv_bodies.specs.Bodies.{Function}
use Rattle.spv_tree.specs.Sound.{IsSound}
use Rattle.spv_trees.specs.Standing.{OneOf}
use Rattle.spv_structured.specs.Structured.{NamesArms}
use Rattle.spv_structured.specs.Spots.{Spot, spots_in, blocks_in}
use Rattle.spv_structured.proofs.Bare.{bare}
use Rattle.spv_structured.proofs.Positions.{construct_in, Node, Way, Goes, Merges, Continues}
use Rattle.spv_structured.proofs.Induction.{induct}
use Rattle.spv_structured.proofs.Targets.{Within, Here, Deeper}
use Rattle.spv_structured.proofs.Looked.{one_node, construct_of, merge_to, loop_of}

-- no context is one level longer than itself
pub longer : (level : Level) (c : Context) → c ≡ level ∷ c → ⊥
longer level c e = let h = ap length e in omega (arith, h)

pub within_length : (w c : Context) → Within w c → length w ≤ length c
within_length w c Here = omega arith
within_length w c (Deeper level d h) = let g = within_length w d h in omega (arith, g)

-- the header of a level that is a continue part
abbrev pub next_of_level : Level → Option (ℕ × ℕ)
next_of_level (InSelection m) = None
next_of_level (InArm h m a) = None
next_of_level (InBody h m n) = None
next_of_level (InNext h m) = Some (h, m)

abbrev pub top_next : Context → Option (ℕ × ℕ)
top_next [] = None
top_next (level ∷ c) = next_of_level level

abbrev tail_of : Context → Context
tail_of [] = []
tail_of (level ∷ c) = c

-- behind no construct the context is a continue part
pub behind_none : (k : Option Construct) (b t : ℕ) (c d : Context) (h m : ℕ) → behind k b t c ≡ InNext h m ∷ d → (k ≡ None) × (c ≡ InNext h m ∷ d)
behind_none None b t c d h m e = (refl, e)
behind_none (Some (ASelection x)) b t c d h m e = absurd (cc (ap top_next e))
behind_none (Some (ASwitch x)) b t c d h m e = absurd (cc (ap top_next e))
behind_none (Some (ALoop x n)) b t c d h m e = absurd (cc (ap top_next e))

module _ (is_pointer : ℕ → Bool) (f : Function) (sound : IsSound f) (arms : NamesArms f.body) (g : Code) (same : bare g ≡ blocks_in f) where
  -- a block that opens a construct in a context
  pub record Opened (k : Construct) (c : Context) : Type 0 where
    pub spot : Spot
    pub node : Node is_pointer f spot
    pub opens : construct_in spot.body ≡ Some k
    pub context : spot.context ≡ c

  -- the level of a context is of a construct that is opened there
  abbrev pub LevelOk : Level → Context → Type 0
  LevelOk (InSelection m) c = Opened (ASelection m) c
  LevelOk (InArm h m a) c = (o : Opened (ASwitch m) c) × (o.spot.label ≡ h)
  LevelOk (InBody h m n) c = (o : Opened (ALoop m n) c) × (o.spot.label ≡ h)
  LevelOk (InNext h m) c = (n : ℕ) × (o : Opened (ALoop m n) c) × (o.spot.label ≡ h)

  abbrev pub ContextOk : Context → Type 0
  ContextOk [] = Unit {0}
  ContextOk (level ∷ c) = LevelOk level c × ContextOk c

  behind_ok : (s : Spot) (k : Option Construct) (t : ℕ) → Node is_pointer f s → construct_in s.body ≡ k → ContextOk s.context → ContextOk (behind k s.label t s.context)
  behind_ok s None t n e h = h
  behind_ok s (Some (ASelection m)) t n e h = (record { spot = s; node = n; opens = e; context = refl }, h)
  behind_ok s (Some (ASwitch m)) t n e h = ((record { spot = s; node = n; opens = e; context = refl }, refl), h)
  behind_ok s (Some (ALoop m k)) t n e h = ((record { spot = s; node = n; opens = e; context = refl }, refl), h)

  next_ok : (s : Spot) (k : Option Construct) → Node is_pointer f s → construct_in s.body ≡ k → ContextOk s.context → ContextOk (next_context k s.label s.context)
  next_ok s None n e h = h
  next_ok s (Some (ASelection m)) n e h = h
  next_ok s (Some (ASwitch m)) n e h = h
  next_ok s (Some (ALoop m k)) n e h = ((k, record { spot = s; node = n; opens = e; context = refl }, refl), h)

  step_ok : (s r : Spot) → Node is_pointer f s → Way is_pointer f s r → ContextOk s.context → ContextOk r.context
  step_ok s r n (Goes going) h = subst ContextOk (sym going.inside) (behind_ok s (construct_in s.body) r.label n refl h)
  step_ok s r n (Merges is inside) h = subst ContextOk (sym inside) h
  step_ok s r n (Continues is inside) h = subst ContextOk (sym inside) (next_ok s (construct_in s.body) n refl h)

  pub context_ok : (s : Spot) → OneOf s (spots_in f) → ContextOk s.context
  context_ok s h = induct is_pointer f (λ z. ContextOk z.context) (λ s r n led before. step_ok s r n led.child.way before) sound arms tt s h

  -- the context at a terminator
  pub end_ok : (s : Spot) (t : ℕ) → Node is_pointer f s → ContextOk (behind (construct_in s.body) s.label t s.context)
  end_ok s t n = behind_ok s (construct_in s.body) t n refl (context_ok s n.member)

  -- ---- a label that no merge instruction names

  merge_named : (k : Construct) (c : Context) (m : ℕ) → Opened k c → merge_of (Some k) ≡ Some m → 1 ≤ names g m
  merge_named k c m o e = merge_is_named g o.spot.label m (ap merge_of (construct_of is_pointer f sound arms g same o.spot o.node ∙ o.opens) ∙ e)

  next_named : (k : Construct) (c : Context) (m : ℕ) → Opened k c → next_of (Some k) ≡ Some m → 1 ≤ names g m
  next_named k c m o e = next_is_named g o.spot.label m (ap next_of (construct_of is_pointer f sound arms g same o.spot o.node ∙ o.opens) ∙ e)

  unnamed_here : (t m : ℕ) → names g t ≡ 0 → 1 ≤ names g m → (t == m) ≡ true → ⊥
  unnamed_here t m none some e = let h = ap (names g) (eqb-true t m e) in omega (arith, h, none, some)

  leaves_no_switch : (c : Context) (t : ℕ) → ContextOk c → names g t ≡ 0 → leaves_switch c t ≡ true → ⊥
  leaves_no_switch [] t ok none h = cc h
  leaves_no_switch (InSelection m ∷ c) t ok none h = leaves_no_switch c t ok.1 none h
  leaves_no_switch (InArm x m a ∷ c) t ok none h = unnamed_here t m none (merge_named (ASwitch m) c m ok.0.0 refl) h
  leaves_no_switch (InBody x m n ∷ c) t ok none h = cc h
  leaves_no_switch (InNext x m ∷ c) t ok none h = cc h

  leaves_no_loop : (c : Context) (t : ℕ) → ContextOk c → names g t ≡ 0 → leaves_loop c t ≡ true → ⊥
  leaves_no_loop [] t ok none h = cc h
  leaves_no_loop (InSelection m ∷ c) t ok none h = leaves_no_loop c t ok.1 none h
  leaves_no_loop (InArm x m a ∷ c) t ok none h = leaves_no_loop c t ok.1 none h
  leaves_no_loop (InBody x m n ∷ c) t ok none h = elim (either_holds (t == m) (t == n) h) [
    | inl e ↦ unnamed_here t m none (merge_named (ALoop m n) c m ok.0.0 refl) e
    | inr e ↦ unnamed_here t n none (next_named (ALoop m n) c n ok.0.0 refl) e
  ]
  leaves_no_loop (InNext x m ∷ c) t ok none h = cc h

  -- a back edge
  pub record Turns (c : Context) (t : ℕ) : Type 0 where
    pub merge : ℕ
    pub outer : Context
    pub same_context : c ≡ InNext t merge ∷ outer
    pub loop : (n : ℕ) × (o : Opened (ALoop merge n) outer) × (o.spot.label ≡ t)

  leaves_inner_only : (c : Context) (e : End) (t : ℕ) → ContextOk c → names g t ≡ 0 → leaves_inner c e t ≡ true → Turns c t
  leaves_inner_only [] e t ok none h = absurd (cc h)
  leaves_inner_only (InSelection m ∷ c) e t ok none h = absurd (unnamed_here t m none (merge_named (ASelection m) c m ok.0 refl) h)
  leaves_inner_only (InArm x m a ∷ c) e t ok none h = absurd (unnamed_here t m none (merge_named (ASwitch m) c m ok.0.0 refl) h)
  leaves_inner_only (InBody x m n ∷ c) e t ok none h = absurd (cc h)
  leaves_inner_only (InNext x m ∷ c) e t ok none h = elim (either_holds (t == x) ((t == m) && is_back_pair x m e) h) [
    | inl k ↦
        let here = eqb-true t x k in
        record { merge = m; outer = c; same_context = ap (λ z. InNext z m ∷ c) (sym here); loop = (ok.0.0, ok.0.1, ok.0.2 ∙ sym here) }
    | inr k ↦ absurd (unnamed_here t m none (merge_named (ALoop m ok.0.0) c m ok.0.1 refl) (both_left (t == m) (is_back_pair x m e) k))
  ]

  -- an exit to it is a back edge
  pub unnamed_exit : (c : Context) (e : End) (t : ℕ) → ContextOk c → names g t ≡ 0 → is_exit c e t ≡ true → Turns c t
  unnamed_exit c e t ok none h = elim (either_holds (leaves_inner c e t || leaves_switch c t) (leaves_loop c t) h) [
    | inl k ↦ elim (either_holds (leaves_inner c e t) (leaves_switch c t) k) [
      | inl j ↦ leaves_inner_only c e t ok none j
      | inr j ↦ absurd (leaves_no_switch c t ok none j)
    ]
    | inr k ↦ absurd (leaves_no_loop c t ok none k)
  ]

  -- ---- the header of a loop, from within its continue part

  module _ (s : Spot) (node : Node is_pointer f s) (m : ℕ) where
    abbrev part : Context
    part = InNext s.label m ∷ s.context

    -- the header is no merge block of a construct in the part
    no_merge : (k : Construct) (d : Context) (x : ℕ) → Opened k d → merge_of (Some k) ≡ Some x → Within part d → (s.label == x) ≡ true → ⊥
    no_merge k d x o is within e =
        let to = merge_to is_pointer f sound arms g same o.spot x o.node (ap merge_of o.opens ∙ is) in
        let here : to.spot ≡ s = one_node is_pointer f sound arms g same to.spot s to.led.node node (to.label ∙ sym (eqb-true s.label x e)) in
        let a = within_length part d within in
        let b : s.context ≡ d = ap (λ z. z.context) (sym here) ∙ to.context ∙ o.context in
        let c = ap length b in
        omega (arith, a, c)

    -- no continue target
    no_next : (x n : ℕ) (d : Context) → Opened (ALoop x n) d → Within part d → (s.label == n) ≡ true → ⊥
    no_next x n d o within e =
        let to = (loop_of is_pointer f sound arms g same o.spot x n o.node o.opens).next in
        let here : to.spot ≡ s = one_node is_pointer f sound arms g same to.spot s to.led.node node (to.label ∙ sym (eqb-true s.label n e)) in
        let a = within_length part d within in
        let b : s.context ≡ InNext o.spot.label x ∷ o.spot.context = ap (λ z. z.context) (sym here) ∙ to.context in
        let c = ap length b in
        let i = ap length o.context in
        omega (arith, a, c, i)

    -- and no header
    no_header : (x n : ℕ) (d : Context) (o : Opened (ALoop x n) d) → Within part d → (s.label == o.spot.label) ≡ true → ⊥
    no_header x n d o within e =
        let here : o.spot ≡ s = one_node is_pointer f sound arms g same o.spot s o.node node (sym (eqb-true s.label o.spot.label e)) in
        let a = within_length part d within in
        let b : s.context ≡ d = ap (λ z. z.context) (sym here) ∙ o.context in
        let c = ap length b in
        omega (arith, a, c)

    no_switch : (c : Context) → ContextOk c → Within part c → leaves_switch c s.label ≡ true → ⊥
    no_switch c ok Here h = cc h
    no_switch c ok (Deeper (InSelection x) d w) h = no_switch d ok.1 w h
    no_switch c ok (Deeper (InArm y x a) d w) h = no_merge (ASwitch x) d x ok.0.0 refl w h
    no_switch c ok (Deeper (InBody y x n) d w) h = cc h
    no_switch c ok (Deeper (InNext y x) d w) h = cc h

    no_loop : (c : Context) → ContextOk c → Within part c → leaves_loop c s.label ≡ true → ⊥
    no_loop c ok Here h = cc h
    no_loop c ok (Deeper (InSelection x) d w) h = no_loop d ok.1 w h
    no_loop c ok (Deeper (InArm y x a) d w) h = no_loop d ok.1 w h
    no_loop c ok (Deeper (InBody y x n) d w) h = elim (either_holds (s.label == x) (s.label == n) h) [
      | inl e ↦ no_merge (ALoop x n) d x ok.0.0 refl w e
      | inr e ↦ no_next x n d ok.0.0 w e
    ]
    no_loop c ok (Deeper (InNext y x) d w) h = cc h

    inner_here : (c : Context) (e : End) → ContextOk c → Within part c → leaves_inner c e s.label ≡ true → c ≡ part
    inner_here c e ok Here h = refl
    inner_here c e ok (Deeper (InSelection x) d w) h = absurd (no_merge (ASelection x) d x ok.0 refl w h)
    inner_here c e ok (Deeper (InArm y x a) d w) h = absurd (no_merge (ASwitch x) d x ok.0.0 refl w h)
    inner_here c e ok (Deeper (InBody y x n) d w) h = absurd (cc h)
    inner_here c e ok (Deeper (InNext y x) d w) h = elim (either_holds (s.label == y) ((s.label == x) && is_back_pair y x e) h) [
      | inl k ↦ absurd (no_header x ok.0.0 d ok.0.1 w (ap (λ z. s.label == z) ok.0.2 ∙ k))
      | inr k ↦ absurd (no_merge (ALoop x ok.0.0) d x ok.0.1 refl w (both_left (s.label == x) (is_back_pair y x e) k))
    ]

    -- an exit to the header is right in the part
    pub header_exit : (c : Context) (e : End) → ContextOk c → Within part c → is_exit c e s.label ≡ true → c ≡ part
    header_exit c e ok w h = elim (either_holds (leaves_inner c e s.label || leaves_switch c s.label) (leaves_loop c s.label) h) [
      | inl k ↦ elim (either_holds (leaves_inner c e s.label) (leaves_switch c s.label) k) [
        | inl j ↦ inner_here c e ok w j
        | inr j ↦ absurd (no_switch c ok w j)
      ]
      | inr k ↦ absurd (no_loop c ok w k)
    ]
