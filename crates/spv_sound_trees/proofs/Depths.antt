-- A spelled tree is as deep as the walk: by recursion on how the tree is spelled.
use Rattle.std.proofs.Common.{◌≡◌, ◌⊎◌, inl, inr, ℕ, suc, ◌+◌, ◌≤◌, Bool, true, false, cond, max, List, [], ◌∷◌, length, drop, slice_index, Option, Some, None, refl, sym, ap, subst, ◌∙◌, arith}
use Rattle.std.proofs.Math.Nat.{le-max_left, le-max_right, zero-max}
use Rattle.spv_opcodes.specs.declared.op.TheConstants as op
use Rattle.spv_module.specs.Instruction.{Instruction}
use Rattle.spv_blocks.specs.Blocks.{Code, ASelection, ASwitch, ALoop, Branch, BranchIf, Switch, Return, Unreachable, End, construct, end_targets, has, is_first, seconds, stops}
use Rattle.spv_blocks.specs.Cutting.{blocks_of, pairs}
use Rattle.spv_walk.specs.Contexts.{Context, InNext, behind}
use Rattle.spv_walk.specs.Walk.{Walk, end_of, tries}
use Rattle.spv_walk.specs.Walked.{IsWalk, InPlaces}
use Rattle.spv_walk.proofs.Steps.{step_walked}
use Rattle.spv_walk.proofs.Unique.{truth_apart, equal_true}
use Rattle.spv_walking.specs.Depths.{HasDepth, IsDepth}
use Rattle.spv_bodies.specs.Bodies.{Entry, Body, Arms, Function, depth, depth_of_arms}
use Rattle.spv_bodies.specs.Listing.{instruction, branch_line, split_line, selection_line, pair_words}
use Rattle.spv_tree.specs.Sound.{is_end, opcode_in}
use Rattle.spv_spelling.specs.Clean.{IsClean, no_pointers}
use Rattle.spv_spelling.specs.Paths.{Below, Path, Begins, Onward, Here, Behind}
use Rattle.spv_spelling.specs.Spelling.{Goes, Spells, steps, finishes, joined, branches as branches_out, splits, selects, switches, SpellsBranch, leaves, comes, SpellsArm, out, enters, SpellsArms, last, also, SpellsPart, plain, placed, SpellsLoop, parts, SpellsHead, begins, goes, parted, SpellsFunction}
use Rattle.spv_spelling.specs.Text.{text, phis, copies, firsts}
use Rattle.spv_spelling.specs.Whole.{IsAdmitted}
use Rattle.spv_spelling.proofs.Paths.{path_of_walk, below_walked}
use Rattle.spv_spelling.proofs.Settled.{walked_runs}
use Rattle.spv_normal_trees.proofs.Arranging.{returns_bare, unreachable_bare, walked_label}
use Rattle.spv_normal_trees.proofs.Members.{has_cons, has_nothing, firsts_has}
use Rattle.spv_normal_trees.proofs.RegionBlocks.{Under}
use Rattle.spv_normal_trees.proofs.Texts.{line_end, switch_end}
use Rattle.spv_sound_trees.specs.Depth.{SpelledHasDepth}
use Rattle.spv_sound_trees.proofs.Apart.{way_walk, merge_step, next_step}
use Rattle.spv_sound_trees.proofs.Deep.{round, Bounds, Reaches, Deep, WayDeep, FreeDeep, finish_end, tried_target, raised, way_leaves, way_on, one_way, reached_max, two_ways, bare_deep, merge_deep, loop_deep_of}
use Rattle.spv_sound_trees.proofs.Nodes.{Node, next_line, begin_lines, all_lines, ends_with, split_end, goes_step}
use Rattle.spv_sound_trees.proofs.Sound.{first_in, first_walk}

depth_copies : (ps : List (List ℕ)) (body : Body) → depth (copies ps body) ≡ depth body
depth_copies [] body = refl
depth_copies (p ∷ ps) body = depth_copies ps body

-- the targets of a split line
split_targets : (f : Code) (l : ℕ) (c : Context) (on : Bool) (t u : ℕ) → end_of f l ≡ cond on (BranchIf t u) (BranchIf u t) → (w : ℕ) → tries f l c w ≡ true
    → (t ≡ w) ⊎ (u ≡ w)
split_targets f l c true t u e w tried = elim (has_cons t (u ∷ []) w (tried_target f l c w (BranchIf t u) e tried)) [
  | inl same ↦ inl same
  | inr h ↦ elim (has_cons u [] w h) [ inl same ↦ inr same | inr g ↦ has_nothing w g ]
]
split_targets f l c false t u e w tried = elim (has_cons u (t ∷ []) w (tried_target f l c w (BranchIf u t) e tried)) [
  | inl same ↦ inr same
  | inr h ↦ elim (has_cons t [] w h) [ inl same ↦ inl same | inr g ↦ has_nothing w g ]
]

-- behind the ways of a switch to these labels
record ArmsDeep (f : Code) (l : ℕ) (c : Context) (labels : List ℕ) (v n : ℕ) : Type 0 where
  bound : (t : ℕ) → has labels t ≡ true → tries f l c t ≡ true → Bounds f t (behind (construct f l) l t c) (v + n)
  reach : (n ≡ 0) ⊎ Reaches f l c (v + n)

last_arm : (f : Code) (l t v n : ℕ) (c : Context) → WayDeep f l c t v n → ArmsDeep f l c (t ∷ []) v n
last_arm f l t v n c h = record {
  bound = λ u k tried. elim (has_cons t [] u k) [
    | inl same ↦ subst (λ j. Bounds f j (behind (construct f l) l j c) (v + n)) same (h.bound (subst (λ j. tries f l c j ≡ true) (sym same) tried))
    | inr g ↦ has_nothing u g
  ];
  reach = h.reach;
}

also_arm : (f : Code) (l t v a b : ℕ) (labels : List ℕ) (c : Context) → WayDeep f l c t v a → ArmsDeep f l c labels v b
    → ArmsDeep f l c (t ∷ labels) v (max a b)
also_arm f l t v a b labels c h g =
    let left = le-max_left a b in let right = le-max_right a b in
    record {
      bound = λ u k tried. elim (has_cons t labels u k) [
        | inl same ↦ raised f u (behind (construct f l) l u c) (v + a) (v + max a b) (omega arith)
            (subst (λ j. Bounds f j (behind (construct f l) l j c) (v + a)) same (h.bound (subst (λ j. tries f l c j ≡ true) (sym same) tried)))
        | inr later ↦ raised f u (behind (construct f l) l u c) (v + b) (v + max a b) (omega arith) (g.bound u later tried)
      ];
      reach = reached_max f l v a b c h.reach g.reach;
    }

module _ (insts : List Instruction) (stays : ℕ → ℕ) (clean : IsClean no_pointers (blocks_of insts)) where
  abbrev f : Code
  f = blocks_of insts

  runs : (l : ℕ) (c : Context) → Walk f l c → stops f l ≡ false
  runs l c w = walked_runs no_pointers f clean l c w

  -- a block that ends the function opens nothing, and has no targets
  closed_deep : (l : ℕ) (c : Context) (e : End) → Walk f l c → construct f l ≡ None → end_of f l ≡ e → end_targets e ≡ [] → Deep f l c 0
  closed_deep l c e w bare ends none =
      bare_deep f runs l 0 c w bare
      (record { bound = λ t tried. has_nothing t (ap (λ ts. has ts t) (sym none) ∙ tried_target f l c t e ends tried); reach = inl refl })

  finish_deep : (l : ℕ) (c : Context) (words : List ℕ) → is_end (opcode_in words) ≡ true → Node insts l c (words ∷ []) → Deep f l c 0
  finish_deep l c words is n =
      let ends : end_of f l ≡ line_end words = ends_with insts clean l c words n in
      elim
      (finish_end (opcode_in words) (Branch (slice_index words 1)) (BranchIf (slice_index words 2) (slice_index words 3))
      (Switch (slice_index words 2) (pairs (drop 3 words))) is) [
        | inl e ↦ closed_deep l c Return n.walk (returns_bare no_pointers f clean l c n.walk (ends ∙ e)) (ends ∙ e) refl
        | inr e ↦ closed_deep l c Unreachable n.walk (unreachable_bare no_pointers f clean l c n.walk (ends ∙ e)) (ends ∙ e) refl
      ]

  -- behind a branch to a block
  goes_deep : (l t n : ℕ) (c d : Context) → Walk f l c → behind (construct f l) l t c ≡ d → Goes insts stays l d t → Deep f t d n → WayDeep f l c t (length d) n
  goes_deep l t n c d w same g h = way_on f l t n c d same (goes_step insts clean stays l t c d w same g) h

  copies_deep : (l : ℕ) (c : Context) (ps : List (List ℕ)) (body : Body) → Deep f l c (depth body) → Deep f l c (depth (copies ps body))
  copies_deep l c ps body h = subst (λ n. Deep f l c n) (sym (depth_copies ps body)) h

  -- an exit and a way on are as deep as the way
  split_deep : (l t u v n : ℕ) (on : Bool) (c : Context) → end_of f l ≡ cond on (BranchIf t u) (BranchIf u t) → WayDeep f l c t v 0 → WayDeep f l c u v n
      → FreeDeep f l c v n
  split_deep l t u v n on c e h g =
      subst (λ k. FreeDeep f l c v k) (zero-max n) (two_ways f l t u v 0 n c (split_targets f l c on t u e) h g)

  -- the arms of a switch are its ways
  switch_deep : (l default v n : ℕ) (cases : List (ℕ × ℕ)) (c : Context) → end_of f l ≡ Switch default cases
      → ArmsDeep f l c (firsts (default ∷ seconds cases)) v n
      → FreeDeep f l c v n
  switch_deep l default v n cases c e h = record {
    bound = λ t tried. h.bound t (firsts_has (default ∷ seconds cases) t (tried_target f l c t (Switch default cases) e tried)) tried;
    reach = h.reach;
  }

  mutual
    pub rest_deep : {l : ℕ} {c : Context} {rest : List (List ℕ)} {body : Body} → Spells insts stays l c rest body → Node insts l c rest
        → Deep f l c (depth body)
    rest_deep (steps {l = l} {c = c} {words = words} {rest = rest} is s) n = rest_deep s (next_line insts l c words rest n)
    rest_deep (finishes {l = l} {c = c} {words = words} is) n = finish_deep l c words is n
    rest_deep (joined {l = l} {t = t} {c = c} {body = body} bare g front s) n =
        let same = ap (λ k. behind k l t c) bare in
        copies_deep l c (phis (text insts t)) body
        (bare_deep f runs l (depth body) c n.walk bare
        (one_way f l t (length c) (depth body) c (ends_with insts clean l c (branch_line t) n)
        (goes_deep l t (depth body) c c n.walk same g (rest_deep s (begin_lines insts t c (way_walk insts stays clean l t c c n.walk same g))))))
    rest_deep (branches_out {l = l} {t = t} {c = c} {body = body} bare s) n =
        bare_deep f runs l (depth body) c n.walk bare
        (one_way f l t (length c) (depth body) c (ends_with insts clean l c (branch_line t) n) (branch_deep s c n.walk (ap (λ k. behind k l t c) bare)))
    rest_deep (splits {l = l} {condition = condition} {other = other} {on = on} {c = c} {exit = exit} {body = body} bare x a) n =
        bare_deep f runs l (depth body) c n.walk bare
        (split_deep l exit.target other (length c) (depth body) on c
        (ends_with insts clean l c (split_line condition on exit.target other) n ∙ split_end condition on exit.target other)
        (way_leaves f l exit.target (length c) c c (ap (λ k. behind k l exit.target c) bare) x.leaves)
        (arm_deep a c n.walk (ap (λ k. behind k l other c) bare)))
    rest_deep (selects {l = l} {merge = m} {control = control} {condition = condition} {yes = t} {no = u} {c = c} {first = first} {second = second}
        {rest = rest} e a b p) n =
        let line : List ℕ = split_line condition true t u in
        let ends = ends_with insts clean l c line (next_line insts l c (selection_line m control) (line ∷ []) n) in
        let step = merge_step insts stays clean l m c (ASelection m) n.walk e refl in
        merge_deep f runs l m (max (depth first) (depth second)) (depth rest) c (ASelection m) n.walk e refl refl (ap (λ k. length (behind k l l c)) e) step
        (two_ways f l t u (suc (length c)) (depth first) (depth second) c (split_targets f l c true t u ends)
        (arm_deep a c n.walk (ap (λ k. behind k l t c) e)) (arm_deep b c n.walk (ap (λ k. behind k l u c) e)))
        (part_deep p (step_walked f l m c c n.walk step))
    rest_deep (switches {l = l} {merge = m} {control = control} {selector = selector} {default = default} {cases = cases} {c = c} {arms = arms}
        {rest = rest} e labels p) n =
        let line : List ℕ = instruction op.SWITCH (selector ∷ default ∷ pair_words cases) in
        let ends = ends_with insts clean l c line (next_line insts l c (selection_line m control) (line ∷ []) n) ∙ switch_end selector default cases in
        let step = merge_step insts stays clean l m c (ASwitch m) n.walk e refl in
        merge_deep f runs l m (depth_of_arms arms) (depth rest) c (ASwitch m) n.walk e refl refl (ap (λ k. length (behind k l l c)) e) step
        (switch_deep l default (suc (length c)) (depth_of_arms arms) cases c ends (arms_deep labels n.walk e))
        (part_deep p (step_walked f l m c c n.walk step))

    branch_deep : {l t : ℕ} {d : Context} {body : Body} → SpellsBranch insts stays l d t body → (c : Context) → Walk f l c → behind (construct f l) l t c ≡ d
        → WayDeep f l c t (length d) (depth body)
    branch_deep (leaves {l = l} {d = d} {exit = exit} x) c w same = way_leaves f l exit.target (length d) c d same x.leaves
    branch_deep (comes {l = l} {h = h} {d = d} {body = body} g take s) c w same =
        goes_deep l h (depth body) c d w same g (loop_deep s (way_walk insts stays clean l h c d w same g))

    arm_deep : {l t : ℕ} {d : Context} {body : Body} → SpellsArm insts stays l d t body → (c : Context) → Walk f l c → behind (construct f l) l t c ≡ d
        → WayDeep f l c t (length d) (depth body)
    arm_deep (out s) c w same = branch_deep s c w same
    arm_deep (enters {l = l} {t = t} {d = d} {body = body} g front s) c w same =
        goes_deep l t (depth (copies (phis (text insts t)) body)) c d w same g
        (copies_deep t d (phis (text insts t)) body (rest_deep s (begin_lines insts t d (way_walk insts stays clean l t c d w same g))))

    arms_deep : {l merge : ℕ} {c : Context} {labels : List ℕ} {arms : Arms} → SpellsArms insts stays l merge c labels arms → Walk f l c
        → construct f l ≡ Some (ASwitch merge)
        → ArmsDeep f l c labels (suc (length c)) (depth_of_arms arms)
    arms_deep (last {l = l} {t = t} {c = c} {arm = arm} a) w e = last_arm f l t (suc (length c)) (depth arm) c (arm_deep a c w (ap (λ k. behind k l t c) e))
    arms_deep (also {l = l} {t = t} {c = c} {labels = labels} {arm = arm} {arms = arms} a rest) w e =
        also_arm f l t (suc (length c)) (depth arm) (depth_of_arms arms) labels c (arm_deep a c w (ap (λ k. behind k l t c) e)) (arms_deep rest w e)

    part_deep : {l : ℕ} {c : Context} {body : Body} → SpellsPart insts stays l c body → Walk f l c → Deep f l c (depth body)
    part_deep (plain {l = l} {c = c} is s) w = rest_deep s (begin_lines insts l c w)
    part_deep (placed s) w = loop_deep s w

    loop_deep : {h : ℕ} {c : Context} {entry : Entry} {body : Body} → SpellsLoop insts stays h c entry body → Walk f h c → Deep f h c (depth body)
    loop_deep (parts {h = h} {merge = m} {next = n} {c = c} {inner = inner} {continuing = continuing} {rest = rest} e head p q) w =
        let merge = merge_step insts stays clean h m c (ALoop m n) w e refl in
        let next = next_step insts stays clean h n m c w e in
        loop_deep_of f runs h m n (depth inner) (depth continuing) (depth rest) c w e merge next
        (head_deep head c (λ t. ap (λ k. behind k h t c) e) (begin_lines insts h c w))
        (part_deep p (step_walked f h n c (InNext h m ∷ c) w next)) (part_deep q (step_walked f h m c c w merge))

    head_deep : {h : ℕ} {d : Context} {opening : List ℕ} {rest : List (List ℕ)} {body : Body} → SpellsHead insts stays h d opening rest body → (c : Context)
        → ((t : ℕ) → behind (construct f h) h t c ≡ d) → Node insts h c rest → FreeDeep f h c (length d) (depth body)
    head_deep (begins {h = h} {words = words} {rest = rest} is s) c same n = head_deep s c same (next_line insts h c words rest n)
    head_deep (goes {h = h} {t = t} {d = d} {opening = opening} {body = body} a) c same n =
        one_way f h t (length d) (depth body) c (ends_with insts clean h c (branch_line t) (next_line insts h c opening (branch_line t ∷ []) n))
        (arm_deep a c n.walk (same t))
    head_deep (parted {h = h} {condition = condition} {other = other} {on = on} {d = d} {opening = opening} {exit = exit} {body = body} x a) c same n =
        let line : List ℕ = split_line condition on exit.target other in
        split_deep h exit.target other (length d) (depth body) on c
        (ends_with insts clean h c line (next_line insts h c opening (line ∷ []) n) ∙ split_end condition on exit.target other)
        (way_leaves f h exit.target (length d) c d (same exit.target) x.leaves) (arm_deep a c n.walk (same other))

-- ---- the whole function

one_first : (f : Code) (l m : ℕ) → is_first f l ≡ true → is_first f m ≡ true → l ≡ m
one_first [] l m h g = truth_apart false h refl
one_first (b ∷ bs) l m h g =
    sym (equal_true b.label l h) ∙ equal_true b.label m g

-- what is walked is behind the first block: by induction on its path
from_first : (f : Code) (first n l : ℕ) (c : Context) → is_first f first ≡ true → Path f n l c → Below f first [] n l c
from_first f first n l c h (Begins g) = subst (λ j. Below f first [] 0 j []) (one_first f first l h g) Here
from_first f first n l c h (Onward {n = m} {b = b} {t = t} {c = e} {d = d} p s) = Behind (from_first f first m b e h p) s

module _ (insts : List Instruction) (stays : ℕ → ℕ) (f : Function) (place : ℕ → Option Context) (admitted : IsAdmitted insts) (s : SpellsFunction insts stays f)
    (t : IsWalk (blocks_of insts) (InPlaces place)) where
  whole_deep : Deep (blocks_of insts) f.label [] (depth f.body)
  whole_deep = rest_deep insts stays admitted.clean s.body (all_lines insts f.label [] (first_walk insts stays f admitted s))

  under_first : (l : ℕ) (c : Context) → Walk (blocks_of insts) l c → (u : Under (blocks_of insts) f.label [] l) × (u.context ≡ c)
  under_first l c w =
      let p = path_of_walk (blocks_of insts) l c w in
      (record { steps = p.0; context = c; below = from_first (blocks_of insts) f.label p.0 l c (first_in insts stays f admitted s) p.1 }, refl)

  bound : (m : ℕ) → HasDepth (blocks_of insts) (InPlaces place) m → m ≤ depth f.body
  bound m h =
      let u = under_first h.label h.context (t.sound h.label h.context h.stands) in
      let less : round (blocks_of insts) h.label h.context ≤ 0 + depth f.body =
      subst (λ c. round (blocks_of insts) h.label c ≤ 0 + depth f.body) u.1 (whole_deep.bound h.label u.0) in
      let same = h.depth in
      omega arith

  under_walk : (l : ℕ) (u : Under (blocks_of insts) f.label [] l) → Walk (blocks_of insts) l u.context
  under_walk l u =
      below_walked no_pointers (blocks_of insts) admitted.clean f.label [] u.steps l u.context (first_walk insts stays f admitted s) u.below

  reached : HasDepth (blocks_of insts) (InPlaces place) (depth f.body)
  reached =
      let r = whole_deep.reach in
      let w = under_walk r.0 r.1 in
      let runs_on = walked_runs no_pointers (blocks_of insts) admitted.clean r.0 r.1.context w in
      record {
        label = r.0;
        context = r.1.context;
        block = walked_label no_pointers (blocks_of insts) admitted.clean r.0 r.1.context w;
        stands = t.whole r.0 r.1.context w runs_on;
        depth = r.2 ∙ omega arith;
      }

  has_depth : IsDepth (blocks_of insts) (InPlaces place) (depth f.body)
  has_depth = record { bound = bound; reached = inr reached }

pub spelled_has_depth : SpelledHasDepth
spelled_has_depth insts stays f place admitted s t = has_depth insts stays f place admitted s t
