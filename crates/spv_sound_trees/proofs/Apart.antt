-- Each label of a spelled tree stands once: by recursion on how the tree is spelled.
use Rattle.std.proofs.Common.{◌≡◌, ◌≢◌, ◌⊎◌, inl, inr, ℕ, true, false, List, [], ◌∷◌, ◌++◌, Some, refl, sym, ap, subst, ◌∙◌, append_assoc}
use Rattle.spv_module.specs.Instruction.{Instruction}
use Rattle.spv_blocks.specs.Blocks.{Code, Construct, ASelection, ASwitch, ALoop, construct, has, merge_of, names, next_of, seconds}
use Rattle.spv_blocks.specs.Cutting.{blocks_of}
use Rattle.spv_walk.specs.Contexts.{Context, InNext, behind, next_context}
use Rattle.spv_walk.specs.Walk.{Walk}
use Rattle.spv_walk.specs.Walked.{Steps}
use Rattle.spv_walk.proofs.Steps.{step_walked}
use Rattle.spv_walk.proofs.Unique.{truth_apart, goes_unnamed, merge_or_next}
use Rattle.spv_bodies.specs.Bodies.{Entry, ByBranch, InPlace, Body, Loops, Arms}
use Rattle.spv_bodies.specs.Listing.{split_line, selection_line}
use Rattle.spv_tree.specs.Sound.{own_label}
use Rattle.spv_spelling.specs.Clean.{IsClean, no_pointers}
use Rattle.spv_spelling.specs.Spelling.{Goes, Spells, steps, finishes, joined, branches as branches_out, splits, selects, switches, SpellsBranch, leaves, comes, SpellsArm, out, enters, SpellsArms, last, also, SpellsPart, plain, placed, SpellsLoop, parts, SpellsHead, begins, goes, parted}
use Rattle.spv_spelling.specs.Text.{text, phis, copies, firsts, front_of}
use Rattle.spv_spelling.proofs.Onward.{merges_on, continues_on}
use Rattle.spv_normal_trees.proofs.Members.{Distinct, has_head, has_tail, has_not, firsts_distinct}
use Rattle.spv_sound_trees.proofs.Marks.{marks, marks_of_arms}
use Rattle.spv_sound_trees.proofs.Nodes.{Node, next_line, begin_lines, merge_role, next_role, goes_step, forks_differ}
use Rattle.spv_sound_trees.proofs.Pieces.{Piece, WayOn, PartOn, WaysOn, FreeOn, RestOn, under_here, step_through, nothing, with_label, seen_as, both, rest_of_through, ways_apart, free_apart, parts_apart}

-- copies hold no labels
marks_copies : (ps : List (List ℕ)) (body : Body) → marks (copies ps body) ≡ marks body
marks_copies [] body = refl
marks_copies (p ∷ ps) body = marks_copies ps body

-- the labels of a loop behind that of its header
record LoopPiece (insts : List Instruction) (h : ℕ) (c : Context) (entry : Entry) (body : Body) : Type 0 where
  xs : List ℕ
  piece : Piece (RestOn (blocks_of insts) h c) xs
  labels : marks body ≡ own_label entry h ++ xs

module _ (insts : List Instruction) (stays : ℕ → ℕ) (clean : IsClean no_pointers (blocks_of insts)) where
  abbrev f : Code
  f = blocks_of insts

  -- ---- one step on

  pub way_walk : (l t : ℕ) (c d : Context) → Walk f l c → behind (construct f l) l t c ≡ d → Goes insts stays l d t → Walk f t d
  way_walk l t c d w same g = step_walked f l t c d w (goes_step insts clean stays l t c d w same g)

  pub merge_step : (l m : ℕ) (c : Context) (k : Construct) → Walk f l c → construct f l ≡ Some k → merge_of (Some k) ≡ Some m → Steps f l c m c
  merge_step l m c k w e is = merges_on no_pointers f clean l m c w (ap merge_of e ∙ is)

  merge_once : (l m : ℕ) (c : Context) (k : Construct) → Walk f l c → construct f l ≡ Some k → merge_of (Some k) ≡ Some m → names f m ≡ 1
  merge_once l m c k w e is = merge_role insts clean l m c w (ap merge_of e ∙ is)

  pub next_step : (h n m : ℕ) (c : Context) → Walk f h c → construct f h ≡ Some (ALoop m n) → Steps f h c n (InNext h m ∷ c)
  next_step h n m c w e = continues_on no_pointers f clean h n c (InNext h m ∷ c) w (ap next_of e) (ap (λ k. next_context k h c) e)

  -- ---- pieces of single nodes

  free_rest : (l : ℕ) (c : Context) (xs : List ℕ) → Walk f l c → Piece (FreeOn f l c) xs → Piece (RestOn f l c) xs
  free_rest l c xs w p = seen_as (FreeOn f l c) (RestOn f l c) xs (λ x h. rest_of_through f clean l c w h.0 x h.1.1) p

  way_free : (l t : ℕ) (c : Context) (xs : List ℕ) → Piece (WayOn f l c t) xs → Piece (FreeOn f l c) xs
  way_free l t c xs p = seen_as (WayOn f l c t) (FreeOn f l c) xs (λ x h. (t, h)) p

  -- what is behind t is behind l, by the way of t
  behind_way : (l t : ℕ) (c d : Context) (xs : List ℕ) → Walk f l c → behind (construct f l) l t c ≡ d → Goes insts stays l d t → Piece (RestOn f t d) xs
      → Piece (WayOn f l c t) xs
  behind_way l t c d xs w same g p =
      seen_as (RestOn f t d) (WayOn f l c t) xs
      (λ x h. (goes_unnamed f l t g.enters.free, step_through f l t x c d (goes_step insts clean stays l t c d w same g) h.0)) p

  copied : (On : ℕ → Type 0) (ps : List (List ℕ)) (body : Body) → Piece On (marks body) → Piece On (marks (copies ps body))
  copied On ps body p = subst (λ xs. Piece On xs) (sym (marks_copies ps body)) p

  -- a block that keeps its label
  labelled_way : (l t : ℕ) (c d : Context) (xs : List ℕ) → Walk f l c → behind (construct f l) l t c ≡ d → Goes insts stays l d t → Piece (RestOn f t d) xs
      → Piece (WayOn f l c t) (t ∷ xs)
  labelled_way l t c d xs w same g p =
      with_label (WayOn f l c t) t xs
      (goes_unnamed f l t g.enters.free, step_through f l t t c d (goes_step insts clean stays l t c d w same g) (under_here f t d))
      (has_not xs t (λ h. (p.labels t h).1 refl)) (behind_way l t c d xs w same g p)

  -- a loop behind a branch to its header
  comes_piece : (l h : ℕ) (c d : Context) (values : List ℕ) (body : Body) → Walk f l c → behind (construct f l) l h c ≡ d → Goes insts stays l d h
      → LoopPiece insts h d (ByBranch values) body → Piece (WayOn f l c h) (marks body)
  comes_piece l h c d values body w same g p = subst (λ xs. Piece (WayOn f l c h) xs) (sym p.labels) (labelled_way l h c d p.xs w same g p.piece)

  placed_piece : (h : ℕ) (c : Context) (body : Body) → LoopPiece insts h c InPlace body → Piece (RestOn f h c) (marks body)
  placed_piece h c body p = subst (λ xs. Piece (RestOn f h c) xs) (sym p.labels) p.piece

  -- a merge block or continue target of l
  part_of : (l m : ℕ) (c d : Context) (xs : List ℕ) → Steps f l c m d → names f m ≡ 1 → Piece (RestOn f m d) xs → Piece (PartOn f l c m) (m ∷ xs)
  part_of l m c d xs step once p =
      with_label (PartOn f l c m) m xs (once, step_through f l m m c d step (under_here f m d)) (has_not xs m (λ h. (p.labels m h).1 refl))
      (seen_as (RestOn f m d) (PartOn f l c m) xs (λ x h. (once, step_through f l m x c d step h.0)) p)

  -- ways of l, and its merge block
  with_merge : (l m : ℕ) (c : Context) (xs ys : List ℕ) → Walk f l c → Piece (FreeOn f l c) xs → Piece (PartOn f l c m) ys → Piece (RestOn f l c) (xs ++ ys)
  with_merge l m c xs ys w p q =
      seen_as (λ x. FreeOn f l c x ⊎ PartOn f l c m x) (RestOn f l c) (xs ++ ys)
      (λ x h. elim h [ inl a ↦ rest_of_through f clean l c w a.0 x a.1.1 | inr b ↦ rest_of_through f clean l c w m x b.1 ])
      (both (FreeOn f l c) (PartOn f l c m) xs ys (free_apart f clean l c w m) p q)

  -- two arms and a merge block
  select_piece : (l m t u : ℕ) (c : Context) (xs ys zs : List ℕ) → Walk f l c → t ≢ u → Piece (WayOn f l c t) xs → Piece (WayOn f l c u) ys
      → Piece (PartOn f l c m) zs
      → Piece (RestOn f l c) (xs ++ (ys ++ zs))
  select_piece l m t u c xs ys zs w differ p q r =
      let arms : Piece (FreeOn f l c) (xs ++ ys) =
      seen_as (λ x. WayOn f l c t x ⊎ WayOn f l c u x) (FreeOn f l c) (xs ++ ys) (λ x h. elim h [ inl a ↦ (t, a) | inr b ↦ (u, b) ])
      (both (WayOn f l c t) (WayOn f l c u) xs ys (ways_apart f clean l c w t u differ) p q) in
      subst (λ ks. Piece (RestOn f l c) ks) (append_assoc xs ys zs) (with_merge l m c (xs ++ ys) zs w arms r)

  -- ways of a header, its continue target and its merge block
  loop_parts : (h m n : ℕ) (c : Context) (xs ys zs : List ℕ) → Walk f h c → n ≢ m → Piece (FreeOn f h c) xs → Piece (PartOn f h c n) ys
      → Piece (PartOn f h c m) zs
      → Piece (RestOn f h c) (xs ++ (ys ++ zs))
  loop_parts h m n c xs ys zs w differ p q r =
      let two : Piece (λ x. PartOn f h c n x ⊎ PartOn f h c m x) (ys ++ zs) = both (PartOn f h c n) (PartOn f h c m) ys zs
      (parts_apart f clean h c w n m differ) q r in
      seen_as (λ x. FreeOn f h c x ⊎ (PartOn f h c n x ⊎ PartOn f h c m x)) (RestOn f h c) (xs ++ (ys ++ zs))
      (λ x k. elim k [
        | inl a ↦ rest_of_through f clean h c w a.0 x a.1.1
        | inr b ↦ elim b [ inl i ↦ rest_of_through f clean h c w n x i.1 | inr i ↦ rest_of_through f clean h c w m x i.1 ]
      ])
      (both (FreeOn f h c) (λ x. PartOn f h c n x ⊎ PartOn f h c m x) xs (ys ++ zs)
      (λ x k i. elim i [ inl a ↦ free_apart f clean h c w n x k a | inr b ↦ free_apart f clean h c w m x k b ]) p two)

  loop_made : (h m n control : ℕ) (c : Context) (entry : Entry) (inner continuing rest : Body) → construct f h ≡ Some (ALoop m n) → Walk f h c
      → Piece (FreeOn f h c) (marks inner) → Piece (RestOn f n (InNext h m ∷ c)) (marks continuing) → Piece (RestOn f m c) (marks rest)
      → LoopPiece insts h c entry (Loops entry (front_of insts stays h) control inner (front_of insts stays n) continuing (front_of insts stays m) rest)
  loop_made h m n control c entry inner continuing rest e w p q r =
      let once : names f m ≡ 1 = merge_once h m c (ALoop m n) w e refl in
      let differ : n ≢ m = λ same. merge_or_next f h h m once (ap merge_of e) (ap next_of e ∙ ap Some same) in
      record {
        xs = marks inner ++ ((n ∷ marks continuing) ++ m ∷ marks rest);
        piece = loop_parts h m n c (marks inner) (n ∷ marks continuing) (m ∷ marks rest) w differ p
            (part_of h n c (InNext h m ∷ c) (marks continuing) (next_step h n m c w e) (next_role insts clean h n c w (ap next_of e)) q)
            (part_of h m c c (marks rest) (merge_step h m c (ALoop m n) w e refl) once r);
        labels = refl;
      }

  -- arms of a switch, each with its own label
  last_piece : (l t : ℕ) (c : Context) (xs : List ℕ) → Piece (WayOn f l c t) xs → Piece (WaysOn f l c (t ∷ [])) xs
  last_piece l t c xs p = seen_as (WayOn f l c t) (WaysOn f l c (t ∷ [])) xs (λ x h. (t, has_head t [] t refl, h)) p

  also_piece : (l t : ℕ) (c : Context) (labels xs ys : List ℕ) → Walk f l c → has labels t ≡ false → Piece (WayOn f l c t) xs → Piece (WaysOn f l c labels) ys
      → Piece (WaysOn f l c (t ∷ labels)) (xs ++ ys)
  also_piece l t c labels xs ys w new p q =
      let differ : (u : ℕ) → has labels u ≡ true → t ≢ u = λ u h e. truth_apart (has labels t) (ap (has labels) e ∙ h) new in
      seen_as (λ x. WayOn f l c t x ⊎ WaysOn f l c labels x) (WaysOn f l c (t ∷ labels)) (xs ++ ys)
      (λ x h. elim h [ inl a ↦ (t, has_head t labels t refl, a) | inr b ↦ (b.0, has_tail t labels b.0 b.1, b.2) ])
      (both (WayOn f l c t) (WaysOn f l c labels) xs ys (λ x a b. ways_apart f clean l c w t b.0 (differ b.0 b.1) x a b.2) p q)

  switch_piece : (l m : ℕ) (c : Context) (labels xs ys : List ℕ) → Walk f l c → Piece (WaysOn f l c labels) xs → Piece (PartOn f l c m) ys
      → Piece (RestOn f l c) (xs ++ ys)
  switch_piece l m c labels xs ys w p q = with_merge l m c xs ys w (seen_as (WaysOn f l c labels) (FreeOn f l c) xs (λ x h. (h.0, h.2)) p) q

  -- ---- the recursion

  mutual
    pub rest_piece : {l : ℕ} {c : Context} {rest : List (List ℕ)} {body : Body} → Spells insts stays l c rest body → Node insts l c rest
        → Piece (RestOn (blocks_of insts) l c) (marks body)
    rest_piece (steps {l = l} {c = c} {words = words} {rest = rest} is s) n = rest_piece s (next_line insts l c words rest n)
    rest_piece (finishes {l = l} {c = c} is) n = nothing (RestOn f l c)
    rest_piece (joined {l = l} {t = t} {c = c} {body = body} bare g front s) n =
        let same = ap (λ k. behind k l t c) bare in
        copied (RestOn f l c) (phis (text insts t)) body
        (free_rest l c (marks body) n.walk (way_free l t c (marks body)
        (behind_way l t c c (marks body) n.walk same g (rest_piece s (begin_lines insts t c (way_walk l t c c n.walk same g))))))
    rest_piece (branches_out {l = l} {t = t} {c = c} {body = body} bare s) n =
        free_rest l c (marks body) n.walk (way_free l t c (marks body) (branch_piece s c n.walk (ap (λ k. behind k l t c) bare)))
    rest_piece (splits {l = l} {other = other} {c = c} {body = body} bare x a) n =
        free_rest l c (marks body) n.walk (way_free l other c (marks body) (arm_piece a c n.walk (ap (λ j. behind j l other c) bare)))
    rest_piece (selects {l = l} {merge = m} {control = control} {condition = condition} {yes = t} {no = u} {c = c} {first = first} {second = second}
        {rest = rest} e a b p) n =
        let differ = forks_differ insts clean l c condition t u (next_line insts l c (selection_line m control) (split_line condition true t u ∷ []) n) in
        let step = merge_step l m c (ASelection m) n.walk e refl in
        select_piece l m t u c (marks first) (marks second) (m ∷ marks rest) n.walk differ
        (arm_piece a c n.walk (ap (λ j. behind j l t c) e)) (arm_piece b c n.walk (ap (λ j. behind j l u c) e))
        (part_of l m c c (marks rest) step (merge_once l m c (ASelection m) n.walk e refl) (part_piece p (step_walked f l m c c n.walk step)))
    rest_piece (switches {l = l} {merge = m} {default = default} {cases = cases} {c = c} {arms = arms} {rest = rest} e all p) n =
        let step = merge_step l m c (ASwitch m) n.walk e refl in
        switch_piece l m c (firsts (default ∷ seconds cases)) (marks_of_arms arms) (m ∷ marks rest) n.walk
        (arms_piece all n.walk e (firsts_distinct (default ∷ seconds cases)))
        (part_of l m c c (marks rest) step (merge_once l m c (ASwitch m) n.walk e refl) (part_piece p (step_walked f l m c c n.walk step)))

    branch_piece : {l t : ℕ} {d : Context} {body : Body} → SpellsBranch insts stays l d t body → (c : Context) → Walk f l c → behind (construct f l) l t c ≡ d
        → Piece (WayOn f l c t) (marks body)
    branch_piece (leaves {l = l} {exit = exit} x) c w same = nothing (WayOn f l c exit.target)
    branch_piece (comes {l = l} {h = h} {d = d} {values = values} {body = body} g take s) c w same =
        comes_piece l h c d values body w same g (loop_piece s (way_walk l h c d w same g))

    arm_piece : {l t : ℕ} {d : Context} {body : Body} → SpellsArm insts stays l d t body → (c : Context) → Walk f l c → behind (construct f l) l t c ≡ d
        → Piece (WayOn f l c t) (marks body)
    arm_piece (out s) c w same = branch_piece s c w same
    arm_piece (enters {l = l} {t = t} {d = d} {body = body} g front s) c w same =
        labelled_way l t c d (marks (copies (phis (text insts t)) body)) w same g
        (copied (RestOn f t d) (phis (text insts t)) body (rest_piece s (begin_lines insts t d (way_walk l t c d w same g))))

    arms_piece : {l merge : ℕ} {c : Context} {labels : List ℕ} {arms : Arms} → SpellsArms insts stays l merge c labels arms → Walk f l c
        → construct f l ≡ Some (ASwitch merge)
        → Distinct labels → Piece (WaysOn f l c labels) (marks_of_arms arms)
    arms_piece (last {l = l} {t = t} {c = c} {arm = arm} a) w e d = last_piece l t c (marks arm) (arm_piece a c w (ap (λ k. behind k l t c) e))
    arms_piece (also {l = l} {t = t} {c = c} {labels = labels} {arm = arm} {arms = arms} a all) w e d =
        also_piece l t c labels (marks arm) (marks_of_arms arms) w d.0 (arm_piece a c w (ap (λ k. behind k l t c) e)) (arms_piece all w e d.1)

    part_piece : {l : ℕ} {c : Context} {body : Body} → SpellsPart insts stays l c body → Walk f l c → Piece (RestOn f l c) (marks body)
    part_piece (plain {l = l} {c = c} is s) w = rest_piece s (begin_lines insts l c w)
    part_piece (placed {l = l} {c = c} {body = body} s) w = placed_piece l c body (loop_piece s w)

    loop_piece : {h : ℕ} {c : Context} {entry : Entry} {body : Body} → SpellsLoop insts stays h c entry body → Walk f h c → LoopPiece insts h c entry body
    loop_piece (parts {h = h} {merge = m} {next = n} {control = control} {c = c} {entry = entry} {inner = inner} {continuing = continuing}
        {rest = rest} e head p q) w =
        loop_made h m n control c entry inner continuing rest e w
        (head_piece head c (λ t. ap (λ k. behind k h t c) e) w)
        (part_piece p (step_walked f h n c (InNext h m ∷ c) w (next_step h n m c w e)))
        (part_piece q (step_walked f h m c c w (merge_step h m c (ALoop m n) w e refl)))

    head_piece : {h : ℕ} {d : Context} {opening : List ℕ} {rest : List (List ℕ)} {body : Body} → SpellsHead insts stays h d opening rest body → (c : Context)
        → ((t : ℕ) → behind (construct f h) h t c ≡ d) → Walk f h c → Piece (FreeOn f h c) (marks body)
    head_piece (begins is s) c same w = head_piece s c same w
    head_piece (goes {h = h} {t = t} {body = body} a) c same w = way_free h t c (marks body) (arm_piece a c w (same t))
    head_piece (parted {h = h} {other = other} {body = body} x a) c same w = way_free h other c (marks body) (arm_piece a c w (same other))
