-- Outside all constructs one block ends the function: by recursion on how the tree is spelled.
use Rattle.std.proofs.Common.{◌≡◌, ◌⊎◌, inl, inr, ℕ, ◌+◌, Bool, true, false, List, [], ◌∷◌, Option, Some, None, refl, sym, ap, subst, ◌∙◌}
use Rattle.spv_module.specs.Instruction.{Instruction}
use Rattle.spv_blocks.specs.Blocks.{Code, Construct, ASelection, ASwitch, ALoop, End, Branch, BranchIf, Switch, Return, Unreachable, Open, construct, end_targets, has, merge_of, next_of, stops}
use Rattle.spv_blocks.specs.Cutting.{blocks_of}
use Rattle.spv_walk.specs.Contexts.{Context, behind, next_context}
use Rattle.spv_walk.specs.Walk.{Walk, end_of}
use Rattle.spv_walk.specs.Walked.{Steps, StepEntered, StepStopped, StepMerged, StepContinued}
use Rattle.spv_walk.proofs.Steps.{step_walked}
use Rattle.spv_walk.proofs.Unique.{truth_apart}
use Rattle.spv_bodies.specs.Bodies.{Entry, Body, Leaves, Finishes, Step, Enters as EntersBlock, Splits, Selects, Switches, Loops}
use Rattle.spv_bodies.specs.Listing.{branch_line}
use Rattle.spv_spelling.specs.Clean.{IsClean, no_pointers}
use Rattle.spv_spelling.specs.Paths.{Below, Here, Behind}
use Rattle.spv_spelling.specs.Spelling.{Spells, steps, finishes, joined, branches as branches_out, splits, selects, switches, SpellsBranch, leaves, comes, SpellsPart, plain, placed, SpellsLoop, parts}
use Rattle.spv_spelling.specs.Text.{text, phis, copies}
use Rattle.spv_spelling.proofs.Settled.{walked_runs}
use Rattle.spv_normal_trees.proofs.Arranging.{returns_bare, unreachable_bare}
use Rattle.spv_normal_trees.proofs.Growing.{finish_end}
use Rattle.spv_normal_trees.proofs.Members.{has_cons, has_nothing}
use Rattle.spv_normal_trees.proofs.Texts.{line_end}
use Rattle.spv_sound_trees.proofs.Apart.{merge_step, way_walk}
use Rattle.spv_sound_trees.proofs.Deep.{tried_target}
use Rattle.spv_sound_trees.proofs.Nodes.{Node, begin_lines, ends_with, next_line}
use Rattle.spv_exits.specs.Exits.{is_return}

-- ---- contexts on a way

abbrev pub is_within : Context → Bool
is_within [] = false
is_within (level ∷ c) = true

within_behind : (k : Option Construct) (b t : ℕ) (c : Context) → is_within c ≡ true → is_within (behind k b t c) ≡ true
within_behind None b t c h = h
within_behind (Some (ASelection m)) b t c h = refl
within_behind (Some (ASwitch m)) b t c h = refl
within_behind (Some (ALoop m n)) b t c h = refl

within_next : (k : Option Construct) (b : ℕ) (c : Context) → is_within c ≡ true → is_within (next_context k b c) ≡ true
within_next None b c h = h
within_next (Some (ASelection m)) b c h = h
within_next (Some (ASwitch m)) b c h = h
within_next (Some (ALoop m n)) b c h = refl

within_step : (f : Code) (b t : ℕ) (c d : Context) → Steps f b c t d → is_within c ≡ true → is_within d ≡ true
within_step f b t c d (StepEntered u x y) h = within_behind (construct f b) b t c h
within_step f b t c d (StepStopped u x y) h = within_behind (construct f b) b t c h
within_step f b t c d (StepMerged m x y z) h = h
within_step f b t c d (StepContinued n x y z) h = within_next (construct f b) b c h

-- what is behind a block inside a construct is inside one
stays_within : (f : Code) (t : ℕ) (c : Context) (n x : ℕ) (d : Context) → Below f t c n x d → is_within c ≡ true → is_within d ≡ true
stays_within f t c n x d Here h = h
stays_within f t c n x d (Behind {n = m} {b = b} {t = u} {d = g} {e = k} below s) h = within_step f b x g d s (stays_within f t c m b g below h)

-- x is behind l in the context c, past a first step
record Beyond (f : Code) (l : ℕ) (c : Context) (x : ℕ) (e : Context) : Type 0 where
  first : ℕ
  context : Context
  step : Steps f l c first context
  steps : ℕ
  below : Below f first context steps x e

-- by induction on how it is below
split_below : (f : Code) (l : ℕ) (c : Context) (n x : ℕ) (e : Context) → Below f l c n x e → ((x ≡ l) × (e ≡ c)) ⊎ Beyond f l c x e
split_below f l c n x e Here = inl (refl, refl)
split_below f l c n x e (Behind {n = m} {b = b} {t = t} {d = d} {e = k} below s) = elim (split_below f l c m b d below) [
  | inl q ↦ inr (record {
    first = x;
    context = e;
    step = subst (λ j. Steps f j c x e) q.0 (subst (λ j. Steps f b j x e) q.1 s);
    steps = 0;
    below = Here;
  })
  | inr r ↦ inr (record { first = r.first; context = r.context; step = r.step; steps = r.steps + 1; below = Behind r.below s })
]

-- ---- the end of the outermost sequence

abbrev pub outer_end : Body → End
outer_end (Leaves exit) = Open
outer_end (Finishes words) = line_end words
outer_end (Step words body) = outer_end body
outer_end (EntersBlock label body) = outer_end body
outer_end (Splits condition on exit body) = outer_end body
outer_end (Selects control condition first second merge rest) = outer_end rest
outer_end (Switches control selector cases arms merge rest) = outer_end rest
outer_end (Loops entry header control inner next continuing merge rest) = outer_end rest

outer_copies : (ps : List (List ℕ)) (body : Body) → outer_end (copies ps body) ≡ outer_end body
outer_copies [] body = refl
outer_copies (p ∷ ps) body = outer_copies ps body

-- behind l, which is outside all constructs, one block outside them has this end, and none that returns is another
pub record Outer (f : Code) (l : ℕ) (e : End) : Type 0 where
  pub label : ℕ
  pub ends : end_of f label ≡ e
  pub walk : Walk f label []
  pub one : (x n : ℕ) → Below f l [] n x [] → is_return (end_of f x) ≡ true → x ≡ label

pub return_is : (e : End) → is_return e ≡ true → e ≡ Return
return_is (Branch l) h = absurd (cc h)
return_is (BranchIf a b) h = absurd (cc h)
return_is (Switch d ps) h = absurd (cc h)
return_is Return h = refl
return_is Unreachable h = absurd (cc h)
return_is Open h = absurd (cc h)

module _ (insts : List Instruction) (stays : ℕ → ℕ) (clean : IsClean no_pointers (blocks_of insts)) where
  abbrev f : Code
  f = blocks_of insts

  -- what returns opens nothing
  no_return : (l : ℕ) (c : Context) (k : Construct) → Walk f l c → construct f l ≡ Some k → is_return (end_of f l) ≡ true → ⊥
  no_return l c k w e h = let none = returns_bare no_pointers f clean l c w (return_is (end_of f l) h) in absurd (cc (e, none))

  -- ---- steps from a block outside all constructs

  -- a block that opens nothing goes to its targets alone
  bare_step : (l t : ℕ) (d : Context) (e : End) → construct f l ≡ None → end_of f l ≡ e → Steps f l [] t d → stops f t ≡ false
      → (has (end_targets e) t ≡ true) × (d ≡ [])
  bare_step l t d e bare ends (StepEntered u x y) runs = (tried_target f l [] t e ends x, ap (λ k. behind k l t []) bare)
  bare_step l t d e bare ends (StepStopped u x y) runs = truth_apart (stops f t) y runs
  bare_step l t d e bare ends (StepMerged m x y z) runs = let none = ap merge_of bare in absurd (cc (none, y))
  bare_step l t d e bare ends (StepContinued n x y z) runs = let none = ap next_of bare in absurd (cc (none, y))

  -- a header goes into its construct, or to its merge block
  within_construct : (k : Construct) (l t : ℕ) → is_within (behind (Some k) l t []) ≡ true
  within_construct (ASelection m) l t = refl
  within_construct (ASwitch m) l t = refl
  within_construct (ALoop m n) l t = refl

  within_continue : (k : Construct) (l n : ℕ) → next_of (Some k) ≡ Some n → is_within (next_context (Some k) l []) ≡ true
  within_continue (ASelection m) l n h = absurd (cc h)
  within_continue (ASwitch m) l n h = absurd (cc h)
  within_continue (ALoop m k) l n h = refl

  header_step : (k : Construct) (l t : ℕ) (d : Context) → construct f l ≡ Some k → Steps f l [] t d
      → (is_within d ≡ true) ⊎ ((merge_of (Some k) ≡ Some t) × (d ≡ []))
  header_step k l t d e (StepEntered u x y) = inl (ap (λ z. is_within (behind z l t [])) e ∙ within_construct k l t)
  header_step k l t d e (StepStopped u x y) = inl (ap (λ z. is_within (behind z l t [])) e ∙ within_construct k l t)
  header_step k l t d e (StepMerged m x y z) = inr (sym (ap merge_of e) ∙ y, refl)
  header_step k l t d e (StepContinued n x y z) =
      inl (ap (λ z. is_within (next_context z l [])) e ∙ within_continue k l t (sym (ap next_of e) ∙ y))

  runs_on : (l t : ℕ) (c d : Context) → Walk f l c → Steps f l c t d → stops f t ≡ false
  runs_on l t c d w s = walked_runs no_pointers f clean t d (step_walked f l t c d w s)

  -- ---- what the end behind a block is

  outer_here : (l : ℕ) (e : End) → Walk f l [] → construct f l ≡ None → end_of f l ≡ e → end_targets e ≡ [] → Outer f l e
  outer_here l e w bare ends none = record {
    label = l;
    ends = ends;
    walk = w;
    one = λ x n below returns. elim (split_below f l [] n x [] below) [
      | inl q ↦ q.0
      | inr r ↦
          let s = bare_step l r.first r.context e bare ends r.step (runs_on l r.first [] r.context w r.step) in
          has_nothing r.first (ap (λ ts. has ts r.first) (sym none) ∙ s.0)
    ];
  }

  outer_on : (l t : ℕ) (e : End) → Walk f l [] → construct f l ≡ None → end_of f l ≡ Branch t → Outer f t e → Outer f l e
  outer_on l t e w bare ends o = record {
    label = o.label;
    ends = o.ends;
    walk = o.walk;
    one = λ x n below returns. elim (split_below f l [] n x [] below) [
      | inl q ↦ truth_apart (is_return (end_of f x)) returns (ap (λ j. is_return (end_of f j)) q.0 ∙ ap is_return ends)
      | inr r ↦
          let s = bare_step l r.first r.context (Branch t) bare ends r.step (runs_on l r.first [] r.context w r.step) in
          let same : t ≡ r.first = elim (has_cons t [] r.first s.0) [ inl p ↦ p | inr p ↦ has_nothing r.first p ] in
          o.one x r.steps (subst (λ j. Below f j [] r.steps x []) (sym same) (subst (λ d. Below f r.first d r.steps x []) s.1 r.below)) returns
    ];
  }

  some_same : (m n : ℕ) → Some m ≡ Some n → m ≡ n
  some_same m n h = cc h

  outer_merge : (l m : ℕ) (k : Construct) (e : End) → Walk f l [] → construct f l ≡ Some k → merge_of (Some k) ≡ Some m → Outer f m e → Outer f l e
  outer_merge l m k e w is at o = record {
    label = o.label;
    ends = o.ends;
    walk = o.walk;
    one = λ x n below returns. elim (split_below f l [] n x [] below) [
      | inl q ↦ absurd (no_return l [] k w is (subst (λ j. is_return (end_of f j) ≡ true) q.0 returns))
      | inr r ↦ elim (header_step k l r.first r.context is r.step) [
        | inl h ↦ truth_apart (is_within []) (stays_within f r.first r.context r.steps x [] r.below h) refl
        | inr h ↦
            let same : m ≡ r.first = some_same m r.first (sym at ∙ h.0) in
            o.one x r.steps (subst (λ j. Below f j [] r.steps x []) (sym same) (subst (λ d. Below f r.first d r.steps x []) h.1 r.below)) returns
      ]
    ];
  }

  merge_walk : (l m : ℕ) (k : Construct) → Walk f l [] → construct f l ≡ Some k → merge_of (Some k) ≡ Some m → Walk f m []
  merge_walk l m k w e is = step_walked f l m [] [] w (merge_step insts stays clean l m [] k w e is)

  -- ---- by recursion on how it is spelled

  mutual
    pub rest_outer : {l : ℕ} {rest : List (List ℕ)} {body : Body} → Spells insts stays l [] rest body → Node insts l [] rest → Outer f l (outer_end body)
    rest_outer (steps {l = l} {words = words} {rest = rest} is s) n = rest_outer s (next_line insts l [] words rest n)
    rest_outer (finishes {l = l} {words = words} is) n =
        let ends : end_of f l ≡ line_end words = ends_with insts clean l [] words n in
        elim (finish_end words is) [
          | inl e ↦ outer_here l (line_end words) n.walk (returns_bare no_pointers f clean l [] n.walk (ends ∙ e)) ends (ap end_targets e)
          | inr e ↦ outer_here l (line_end words) n.walk (unreachable_bare no_pointers f clean l [] n.walk (ends ∙ e)) ends (ap end_targets e)
        ]
    rest_outer (joined {l = l} {t = t} {body = body} bare g front s) n =
        let w = way_walk insts stays clean l t [] [] n.walk (ap (λ k. behind k l t []) bare) g in
        subst (λ e. Outer f l e) (sym (outer_copies (phis (text insts t)) body))
        (outer_on l t (outer_end body) n.walk bare (ends_with insts clean l [] (branch_line t) n) (rest_outer s (begin_lines insts t [] w)))
    rest_outer (branches_out {l = l} {t = t} bare s) n = branch_outer s n.walk bare (ends_with insts clean l [] (branch_line t) n)
    rest_outer (splits bare x a) n = truth_apart false x.leaves refl
    rest_outer (selects {l = l} {merge = m} {rest = rest} e a b p) n =
        outer_merge l m (ASelection m) (outer_end rest) n.walk e refl (part_outer p (merge_walk l m (ASelection m) n.walk e refl))
    rest_outer (switches {l = l} {merge = m} {rest = rest} e labels p) n =
        outer_merge l m (ASwitch m) (outer_end rest) n.walk e refl (part_outer p (merge_walk l m (ASwitch m) n.walk e refl))

    branch_outer : {l t : ℕ} {body : Body} → SpellsBranch insts stays l [] t body → Walk f l [] → construct f l ≡ None → end_of f l ≡ Branch t
        → Outer f l (outer_end body)
    branch_outer (leaves x) w bare ends = truth_apart false x.leaves refl
    branch_outer (comes {l = l} {h = h} {body = body} g take s) w bare ends =
        outer_on l h (outer_end body) w bare ends (loop_outer s (way_walk insts stays clean l h [] [] w (ap (λ k. behind k l h []) bare) g))

    part_outer : {l : ℕ} {body : Body} → SpellsPart insts stays l [] body → Walk f l [] → Outer f l (outer_end body)
    part_outer (plain {l = l} is s) w = rest_outer s (begin_lines insts l [] w)
    part_outer (placed s) w = loop_outer s w

    loop_outer : {h : ℕ} {entry : Entry} {body : Body} → SpellsLoop insts stays h [] entry body → Walk f h [] → Outer f h (outer_end body)
    loop_outer (parts {h = h} {merge = m} {next = n} {rest = rest} e head p q) w =
        outer_merge h m (ALoop m n) (outer_end rest) w e refl (part_outer q (merge_walk h m (ALoop m n) w e refl))
