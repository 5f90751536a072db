-- Each branch of a fine tree keeps what it carries and what its target promises: by recursion on how the tree is spelled.
use Rattle.std.proofs.Common.{◌≡◌, ◌≢◌, ◌⊎◌, inl, inr, ℕ, ◌≤◌, Bool, true, false, cond, List, [], ◌∷◌, ◌++◌, map, length, Some, None, refl, sym, ap, subst, ◌∙◌, arith, append_assoc}
use Rattle.spv_module.specs.Instruction.{Instruction}
use Rattle.spv_blocks.specs.Blocks.{Code, Branch, Construct, ASelection, ASwitch, ALoop, branches, construct, merge_of, names, next_of}
use Rattle.spv_blocks.specs.Cutting.{blocks_of}
use Rattle.spv_walk.specs.Contexts.{Context, InSelection, InArm, InBody, InNext, behind, next_context}
use Rattle.spv_walk.specs.Walk.{Walk, end_of}
use Rattle.spv_walk.specs.Walked.{Steps}
use Rattle.spv_walk.proofs.Steps.{step_walked}
use Rattle.spv_walk.proofs.Unique.{goes_unnamed, role_not_first, role_once, role_other}
use Rattle.spv_bodies.specs.Bodies.{Exit, Parameter, Entry, ByBranch as Carried_in, InPlace, Body, Arms, Function}
use Rattle.spv_bodies.specs.Listing.{Branching, branch_line, branches as branches_of_body, branches_of_arms, entering, loop_line}
use Rattle.spv_normal.specs.Order.{is_front, joins}
use Rattle.spv_normal_trees.proofs.Growing.{end_here, merge_front, merge_role, next_front, next_role, walk_merge, walk_next}
use Rattle.spv_normal_trees.proofs.NormalBlocks.{in_front_and_behind}
use Rattle.spv_normal_trees.proofs.Staying.{joins_from, joins_label}
use Rattle.spv_tree.specs.Sound.{is_step, opcode_in}
use Rattle.spv_trees.specs.Standing.{OneOf}
use Rattle.spv_trees.proofs.Members.{one_left, one_right}
use Rattle.spv_structured.proofs.Lists.{each_at, has_one, map_from, one_split}
use Rattle.spv_spelling.specs.Clean.{IsClean, no_pointers}
use Rattle.spv_spelling.specs.Paths.{Here}
use Rattle.spv_spelling.specs.Spelling as spelled
use Rattle.spv_spelling.specs.Spelling.{Goes, Spells, SpellsArm, SpellsArms, SpellsBranch, SpellsFunction, SpellsHead, SpellsLoop, SpellsPart}
use Rattle.spv_spelling.specs.Text.{behind_phis, copies, front_of, is_phi, parameter_of, phis, text}
use Rattle.spv_spelling.specs.Whole.{IsAdmitted}
use Rattle.spv_spelling.proofs.Onward.{continues_on, goes_on, merges_on, no_way_back}
use Rattle.spv_spelling.proofs.Settled.{walked_runs}
use Rattle.spv_fine.specs.Fine.{ArmsFine, AtFront, Carries, Covers, Fine, Ids, Sends, With, at_end, defined_in, results}
use Rattle.spv_fine.specs.Laws.{IsDefinedIn, stay}
use Rattle.spv_fine.proofs.Levels.{Arm, Below, Itself, Deep, Inner, arm_deep, arm_inner, deep_here, deep_out, inner_deep, no_back_merge, no_back_next, no_back_part}
use Rattle.spv_fine.proofs.Passed as passed
use Rattle.spv_fine.proofs.Passed.{none_arrive}

-- ---- lists

phi_here : (x : List ℕ) (rest more : List (List ℕ)) (phi : List ℕ) (b : Bool) → is_phi x ≡ b → OneOf phi (cond b (x ∷ rest) [])
    → (OneOf phi rest → OneOf phi more × (is_phi phi ≡ true)) → OneOf phi (x ∷ more) × (is_phi phi ≡ true)
phi_here x rest more phi true e (inl same) later = (inl same, ap is_phi same ∙ e)
phi_here x rest more phi true e (inr o) later = let r = later o in (inr r.0, r.1)
phi_here x rest more phi false e o later = absurd o

phi_in : (lines : List (List ℕ)) (phi : List ℕ) → OneOf phi (phis lines) → OneOf phi lines × (is_phi phi ≡ true)
phi_in [] phi o = absurd o
phi_in (x ∷ xs) phi o = phi_here x (phis xs) xs phi (is_phi x) refl o (phi_in xs phi)

module _ (insts : List Instruction) (f : Function) (admitted : IsAdmitted insts) (spells : SpellsFunction insts stay f)
    (no_phis : (t : ℕ) → is_front (blocks_of insts) t ≡ false → phis (text insts t) ≡ []) (P : (label id : ℕ) → Type 0)
    (Home : (block id : ℕ) → Type 0) (homes : (block id : ℕ) (c : Context) → Walk (blocks_of insts) block c → IsDefinedIn insts block id
    → Home block id) (Free : ℕ → Type 0) (Short : List ℕ → Type 0) (shorter : (xs ys : List ℕ) → length ys ≤ length xs → Short xs → Short ys)
    (promised : passed.Promised insts f admitted spells P Home Free Short shorter) where
  abbrev g : Code
  g = blocks_of insts

  abbrev all : List Branching
  all = branches_of_body f.label f.body

  abbrev pub End : (l id : ℕ) → Type 0
  End l id = passed.Behind insts f admitted spells P Home Free Short shorter l id

  abbrev pub Start : (l id : ℕ) → Type 0
  Start l id = passed.Before insts f admitted spells P Home Free Short shorter l id

  abbrev KeptBy : Branching → Type 0
  KeptBy e = passed.Kept insts f admitted spells P Home Free Short shorter e

  clean : IsClean no_pointers g
  clean = admitted.clean

  -- each of some branches keeps what it has to, and its block stands somewhere
  abbrev pub Each : (ℕ → Type 0) → List Branching → Type 0
  Each Place sent = (e : Branching) → OneOf e sent → KeptBy e × Place e.0

  abbrev pub Within : List Branching → Type 0
  Within sent = (e : Branching) → OneOf e sent → OneOf e all

  -- what is available in the tree is so at the end of the block
  abbrev pub IsSo : Ids → ℕ → Type 0
  IsSo E l = (id : ℕ) → E id → End l id

  each_both : (Place : ℕ → Type 0) (xs ys : List Branching) → Each Place xs → Each Place ys → Each Place (xs ++ ys)
  each_both Place xs ys h k e o = elim (one_split e xs ys o) [ inl a ↦ h e a | inr b ↦ k e b ]

  each_placed : (A B : ℕ → Type 0) (xs : List Branching) → ((b : ℕ) → A b → B b) → Each A xs → Each B xs
  each_placed A B xs more h e o = let r = h e o in (r.0, more e.0 r.1)

  within_left : (xs ys : List Branching) → Within (xs ++ ys) → Within xs
  within_left xs ys h e o = h e (one_left e xs ys o)

  within_right : (xs ys : List Branching) → Within (xs ++ ys) → Within ys
  within_right xs ys h e o = h e (one_right e xs ys o)

  -- ---- what a point adds

  pub defined_here : (E : Ids) (l : ℕ) (c : Context) → Walk g l c → (words : List ℕ) → is_step (opcode_in words) ≡ true → OneOf words (text insts l)
      → IsSo E l → IsSo (With E (defined_in words)) l
  defined_here E l c w words is o so id (inl h) = so id h
  defined_here E l c w words is o so id (inr h) =
      passed.defined_behind insts f admitted spells P Home Free Short shorter l id (homes l id c w (record { line = words; stands = o; defines = inl (is, h) }))

  parameters_here : (E : Ids) (l : ℕ) (c : Context) → Walk g l c → IsSo E l → IsSo (With E (results (front_of insts stay l))) l
  parameters_here E l c w so id (inl h) = so id h
  parameters_here E l c w so id (inr h) =
      let m = map_from (λ (p : Parameter). p.result_id) (map (parameter_of stay) (phis (text insts l))) id
      (has_one (results (front_of insts stay l)) id h) in
      let q = map_from (parameter_of stay) (phis (text insts l)) m.from m.one in
      let r = phi_in (text insts l) q.from q.one in
      passed.defined_behind insts f admitted spells P Home Free Short shorter l id
      (homes l id c w (record { line = q.from; stands = r.0; defines = inr (r.1, sym (m.same ∙ ap (λ (p : Parameter). p.result_id) q.same)) }))

  -- behind a front
  front_here : (E : Ids) (m : ℕ) (c : Context) → Walk g m c → ((id : ℕ) → E id → Start m id) → ((id : ℕ) → P m id → Start m id)
      → IsSo (AtFront P E (front_of insts stay m)) m
  front_here E m c w so kept = parameters_here (λ id. E id ⊎ P m id) m c w (λ id h. elim h [
    | inl e ↦ passed.before_behind insts f admitted spells P Home Free Short shorter m id (so id e)
    | inr p ↦ passed.before_behind insts f admitted spells P Home Free Short shorter m id (kept id p)
  ])

  pub step_on : (E : Ids) (l t : ℕ) (c d : Context) → Walk g l c → Steps g l c t d → IsSo E l → (id : ℕ) → E id → Start t id
  step_on E l t c d w s so id h = passed.onward insts f admitted spells P Home Free Short shorter l t c d id w s (so id h)

  pub here : (l id : ℕ) → Start l id → End l id
  here l id h = passed.before_behind insts f admitted spells P Home Free Short shorter l id h

  -- ---- branches out

  own_kept : (E : Ids) (l : ℕ) (exit : Exit) → IsSo E l → Sends P E exit → KeptBy (l, exit)
  own_kept E l exit so sends id (inl p) = so id (sends.1 id p.1)
  own_kept E l exit so sends id (inr v) = so id (each_at E exit.values sends.0 id v)

  leaves_each : (E : Ids) (l : ℕ) (exit : Exit) (Place : ℕ → Type 0) → Place l → IsSo E l → Sends P E exit → Each Place ((l, exit) ∷ [])
  leaves_each E l exit Place at so sends e (inl same) =
      subst (λ (z : Branching). KeptBy z × Place z.0) (sym same) (own_kept E l exit so sends, at)
  leaves_each E l exit Place at so sends e (inr none) = absurd none

  -- ---- merge blocks and continue targets

  -- what is promised at the merge block of l is kept by each way there
  pub merged : (E : Ids) (l m : ℕ) (c : Context) (k : Construct) (sent : List Branching) → construct g l ≡ Some k → merge_of (Some k) ≡ Some m → Walk g l c
      → Within sent → ((e : Branching) → OneOf e sent → Rattle.spv_walk.specs.Walk.Back g m e.0 → ⊥) → IsSo E l → Covers P sent E m → (id : ℕ)
      → P m id → Start m id
  merged E l m c k sent is names_it w within none so covers id p =
      let role = merge_role insts stay stay no_pointers clean spells.staying l m c (Some k) is w names_it in
      passed.reaches insts f admitted spells P Home Free Short shorter promised l m id (inl (ap merge_of is ∙ names_it)) (role_not_first g l m role)
      (role_once g l m role) (merge_front insts stay stay no_pointers clean spells.staying l m (Some k) is names_it) p
      (λ unreached. so id (covers (none_arrive m sent (λ e o t. none e o
      (unreached e.0 (subst (λ j. branches g e.0 j ≡ true) t (passed.leads insts f admitted spells P Home Free Short shorter e (within e o)))))) id p))

  pub continued : (E : Ids) (h n : ℕ) (c : Context) (k : Construct) (sent : List Branching) → construct g h ≡ Some k → next_of (Some k) ≡ Some n → Walk g h c
      → Within sent → ((e : Branching) → OneOf e sent → Rattle.spv_walk.specs.Walk.Back g n e.0 → ⊥) → IsSo E h → Covers P sent E n → (id : ℕ)
      → P n id → Start n id
  continued E h n c k sent is names_it w within none so covers id p =
      let role = next_role insts stay stay no_pointers clean spells.staying h n c (Some k) is w names_it in
      passed.reaches insts f admitted spells P Home Free Short shorter promised h n id (inr (ap next_of is ∙ names_it)) (role_not_first g h n role)
      (role_once g h n role) (next_front insts stay stay no_pointers clean spells.staying h n (Some k) is names_it) p
      (λ unreached. so id (covers (none_arrive n sent (λ e o t. none e o
      (unreached e.0 (subst (λ j. branches g e.0 j ≡ true) t (passed.leads insts f admitted spells P Home Free Short shorter e (within e o)))))) id p))

  -- ---- construct by construct

  -- a block that is entered
  pub enter : (l t : ℕ) (c d : Context) → Walk g l c → d ≡ behind (construct g l) l t c → Goes insts stay l d t → Walk g t d × Steps g l c t d
  enter l t c d w e goes =
      let s = goes_on insts stay l t c d w (walked_runs no_pointers g clean l c w) (sym e) goes in
      (step_walked g l t c d w s, s)

  pub not_joined : {X : Type 0} (l t : ℕ) (c : Context) (front : List (List ℕ)) → construct g l ≡ None → Walk g l c → Goes insts stay l c t
      → is_front g t ≡ false
      → text insts l ≡ front ++ branch_line t ∷ [] → X
  not_joined l t c front is w goes i e =
      let end : end_of g l ≡ Branch t = end_here insts stay stay no_pointers clean spells.staying l c front (branch_line t) w e in
      let j : joins g l t ≡ true = joins_from g l t end is i in
      let same : t ≡ l = spells.staying.joined l t (joins_label g l t j) j in
      let s = (enter l t c c w (sym (ap (λ k. behind k l t c) is)) goes).1 in
      absurd (no_way_back no_pointers g clean l t t 0 c c c w s Here same)

  -- an arm begins with no step
  arm_end : (E : Ids) {l : ℕ} {d : Context} {t : ℕ} {body : Body} → SpellsArm insts stay l d t body → (id : ℕ) → at_end E body id → E id
  arm_end E (spelled.out (spelled.leaves s)) id h = h
  arm_end E (spelled.out (spelled.comes goes taken (spelled.parts is head n m))) id h = h
  arm_end E (spelled.enters goes i s) id h = h

  entered_kept : (E : Ids) (block h : ℕ) (entry : Entry) → IsSo E block → Carries E entry
      → ((e : Branching) → OneOf e (entering block h entry) → names g h ≡ 1 → ⊥) → Each (λ b. b ≡ block) (entering block h entry)
  entered_kept E block h (Carried_in values) so carries quiet e (inl same) =
      let exit : Exit = record { target = h; values = values } in
      subst (λ (z : Branching). KeptBy z × (z.0 ≡ block)) (sym same) (
        (λ id kept. elim kept [
          | inl p ↦ absurd (quiet (block, exit) (inl refl) p.0)
          | inr v ↦ so id (each_at E values carries id v)
        ]),
        refl,
      )
  entered_kept E block h (Carried_in values) so carries quiet e (inr none) = absurd none
  entered_kept E block h InPlace so carries quiet e none = absurd none

  -- behind the merge block of a selection or a switch
  behind_merge : (E : Ids) (l m : ℕ) (c : Context) (k : Construct) (sent : List Branching) → construct g l ≡ Some k → merge_of (Some k) ≡ Some m
      → Walk g l c → Within sent → Each (Inner g l c) sent → IsSo E l → Covers P sent E m → IsSo (AtFront P E (front_of insts stay m)) m
  behind_merge E l m c k sent is names_it w within each so covers =
      let v : Walk g m c = walk_merge insts stay stay no_pointers clean spells.staying l m c (Some k) is w names_it in
      let s : Steps g l c m c = merges_on no_pointers g clean l m c w (ap merge_of is ∙ names_it) in
      front_here E m c v (step_on E l m c c w s so)
      (merged E l m c k sent is names_it w within (λ e o. no_back_merge no_pointers g clean l e.0 m c w v (each e o).1) so covers)

  mutual
    pub kept : {l : ℕ} {c : Context} {rest : List (List ℕ)} {body : Body} → Spells insts stay l c rest body → (E : Ids) → Walk g l c
        → (front : List (List ℕ)) → text insts l ≡ front ++ rest → IsSo E l → Within (branches_of_body l body) → Fine P E l body
        → Each (Deep g c) (branches_of_body l body)
    kept (spelled.steps {l = l} {c = c} {words = words} {rest = rest} {body = body} is d) E w front e so within fine =
        kept d (With E (defined_in words)) w (front ++ words ∷ []) (e ∙ sym (append_assoc front (words ∷ []) rest))
        (defined_here E l c w words is (subst (OneOf words) (sym e) (one_right words front (words ∷ rest) (inl refl))) so) within fine.1
    kept (spelled.finishes is) E w front e so within fine = λ x o. absurd o
    kept (spelled.joined {l = l} {t = t} {c = c} is goes i d) E w front e so within fine = not_joined l t c front is w goes i e
    kept (spelled.branches {l = l} {t = t} {c = c} {body = body} is b) E w front e so within fine =
        each_placed (Arm g l c) (Deep g c) (branches_of_body l body) (λ b. arm_deep g l c b w)
        (kept_branch b c E w (sym (ap (λ k. behind k l t c) is)) so within fine)
    kept (spelled.splits {l = l} {condition = condition} {other = other} {on = on} {c = c} {exit = exit} {body = body} is s a) E w front e so within fine =
        each_both (Deep g c) ((l, exit) ∷ []) (branches_of_body l body) (leaves_each E l exit (Deep g c) (deep_here g l c l w refl) so fine.1)
        (each_placed (Arm g l c) (Deep g c) (branches_of_body l body) (λ b. arm_deep g l c b w)
        (kept_arm a c E w (sym (ap (λ k. behind k l other c) is)) so (λ x o. within x (inr o)) fine.2))
    kept (spelled.selects {l = l} {merge = m} {control = control} {condition = condition} {yes = one} {no = other} {c = c} {first = first} {second = second}
        {rest = rest} is a b p) E w front e so within fine =
        let xs : List Branching = branches_of_body l first in
        let ys : List Branching = branches_of_body l second in
        let zs : List Branching = branches_of_body m rest in
        let d : Context = InSelection m ∷ c in
        let x : Each (Inner g l c) xs = each_placed (Arm g l d) (Inner g l c) xs (λ b. arm_inner g l (InSelection m) c b refl)
        (kept_arm a c E w (sym (ap (λ k. behind k l one c) is)) so (within_left xs (ys ++ zs) within) fine.1) in
        let y : Each (Inner g l c) ys = each_placed (Arm g l d) (Inner g l c) ys (λ b. arm_inner g l (InSelection m) c b refl)
        (kept_arm b c E w (sym (ap (λ k. behind k l other c) is)) so (within_left ys zs (within_right xs (ys ++ zs) within)) fine.2) in
        let both : Each (Inner g l c) (xs ++ ys) = each_both (Inner g l c) xs ys x y in
        let inside : Within (xs ++ ys) = (λ e o. elim (one_split e xs ys o) [
          | inl k ↦ within e (one_left e xs (ys ++ zs) k)
          | inr k ↦ within e (one_right e xs (ys ++ zs) (one_left e ys zs k))
        ]) in
        each_both (Deep g c) xs (ys ++ zs) (each_placed (Inner g l c) (Deep g c) xs (λ b. inner_deep g l c b w) x)
        (each_both (Deep g c) ys zs (each_placed (Inner g l c) (Deep g c) ys (λ b. inner_deep g l c b w) y)
        (kept_part p (AtFront P E (front_of insts stay m)) (walk_merge insts stay stay no_pointers clean spells.staying l m c (Some (ASelection m)) is w refl)
        (behind_merge E l m c (ASelection m) (xs ++ ys) is refl w inside both so fine.3) (within_right ys zs (within_right xs (ys ++ zs) within)) fine.4))
    kept (spelled.switches {l = l} {merge = m} {control = control} {selector = selector} {default = default} {cases = cases} {c = c} {arms = arms}
        {rest = rest} is a p) E w front e so within fine =
        let xs : List Branching = branches_of_arms l arms in
        let zs : List Branching = branches_of_body m rest in
        let x : Each (Inner g l c) xs = kept_arms a E w is so (within_left xs zs within) fine.1 in
        each_both (Deep g c) xs zs (each_placed (Inner g l c) (Deep g c) xs (λ b. inner_deep g l c b w) x)
        (kept_part p (AtFront P E (front_of insts stay m)) (walk_merge insts stay stay no_pointers clean spells.staying l m c (Some (ASwitch m)) is w refl)
        (behind_merge E l m c (ASwitch m) xs is refl w (within_left xs zs within) x so fine.2) (within_right xs zs within) fine.3)

    pub kept_branch : {l : ℕ} {d : Context} {t : ℕ} {body : Body} → SpellsBranch insts stay l d t body → (c : Context) (E : Ids) → Walk g l c
        → d ≡ behind (construct g l) l t c → IsSo E l → Within (branches_of_body l body) → Fine P E l body → Each (Arm g l d) (branches_of_body l body)
    kept_branch (spelled.leaves {l = l} {d = d} {exit = exit} s) c E w e so within fine = leaves_each E l exit (Arm g l d) (Itself refl) so fine
    kept_branch (spelled.comes {l = l} {h = h} {d = d} {values = values} {body = body} goes taken turn) c E w e so within fine =
        let v = enter l h c d w e goes in
        kept_loop turn l E v.0 so (λ id k. here h id (step_on E l h c d w v.1 so id k))
        (λ e o once. let none = goes_unnamed g l h goes.enters.free in absurd (omega arith)) within fine

    pub kept_arm : {l : ℕ} {d : Context} {t : ℕ} {body : Body} → SpellsArm insts stay l d t body → (c : Context) (E : Ids) → Walk g l c
        → d ≡ behind (construct g l) l t c → IsSo E l → Within (branches_of_body l body) → Fine P E l body → Each (Arm g l d) (branches_of_body l body)
    kept_arm (spelled.out b) c E w e so within fine = kept_branch b c E w e so within fine
    kept_arm (spelled.enters {l = l} {t = t} {d = d} {body = body} goes i s) c E w e so within fine =
        let v = enter l t c d w e goes in
        let none = no_phis t i in
        let bare : Each (Deep g d) (branches_of_body t body) =
        kept s E v.0 (phis (text insts t)) (sym (in_front_and_behind (text insts t))) (λ id k. here t id (step_on E l t c d w v.1 so id k))
        (subst (λ ps. Within (branches_of_body t (copies ps body))) none within) (subst (λ ps. Fine P E t (copies ps body)) none fine) in
        subst (λ ps. Each (Arm g l d) (branches_of_body t (copies ps body))) (sym none)
        (each_placed (Deep g d) (Arm g l d) (branches_of_body t body) (λ b k. Below k) bare)

    pub kept_arms : {l m : ℕ} {c : Context} {labels : List ℕ} {arms : Arms} → SpellsArms insts stay l m c labels arms → (E : Ids) → Walk g l c
        → construct g l ≡ Some (ASwitch m) → IsSo E l → Within (branches_of_arms l arms) → ArmsFine P E l arms → Each (Inner g l c) (branches_of_arms l arms)
    kept_arms (spelled.last {l = l} {merge = m} {t = t} {c = c} {arm = arm} a) E w is so within fine =
        each_placed (Arm g l (InArm l m t ∷ c)) (Inner g l c) (branches_of_body l arm) (λ b. arm_inner g l (InArm l m t) c b refl)
        (kept_arm a c E w (sym (ap (λ k. behind k l t c) is)) so within fine)
    kept_arms (spelled.also {l = l} {merge = m} {t = t} {c = c} {labels = labels} {arm = arm} {arms = arms} a others) E w is so within fine =
        each_both (Inner g l c) (branches_of_body l arm) (branches_of_arms l arms)
        (each_placed (Arm g l (InArm l m t ∷ c)) (Inner g l c) (branches_of_body l arm) (λ b. arm_inner g l (InArm l m t) c b refl)
        (kept_arm a c E w (sym (ap (λ k. behind k l t c) is)) so (within_left (branches_of_body l arm) (branches_of_arms l arms) within) fine.0))
        (kept_arms others E w is so (within_right (branches_of_body l arm) (branches_of_arms l arms) within) fine.1)

    pub kept_part : {l : ℕ} {c : Context} {body : Body} → SpellsPart insts stay l c body → (E : Ids) → Walk g l c → IsSo E l
        → Within (branches_of_body l body) → Fine P E l body → Each (Deep g c) (branches_of_body l body)
    kept_part (spelled.plain {l = l} {c = c} {body = body} bare d) E w so within fine =
        kept d E w (phis (text insts l)) (sym (in_front_and_behind (text insts l))) so within fine
    kept_part (spelled.placed {l = l} {c = c} {body = body} turn) E w so within fine =
        each_placed (Arm g l c) (Deep g c) (branches_of_body l body) (λ b. arm_deep g l c b w)
        (kept_loop turn l E w so so (λ e o once. o) within fine)

    -- a loop that is come to from the end of a block
    pub kept_loop : {h : ℕ} {c : Context} {entry : Entry} {body : Body} → SpellsLoop insts stay h c entry body → (block : ℕ) (E : Ids) → Walk g h c
        → IsSo E block → IsSo E h → ((e : Branching) → OneOf e (entering block h entry) → names g h ≡ 1 → ⊥)
        → Within (branches_of_body block body) → Fine P E block body → Each (Arm g block c) (branches_of_body block body)
    kept_loop (spelled.parts {h = h} {merge = m} {next = n} {control = control} {c = c} {entry = entry} {inner = inner} {continuing = continuing} {rest = rest}
        is head next merge) block E w before so quiet within fine =
        let es : List Branching = entering block h entry in
        let xs : List Branching = branches_of_body h inner in
        let ys : List Branching = branches_of_body n continuing in
        let zs : List Branching = branches_of_body m rest in
        let F : Ids = With E (results (front_of insts stay h)) in
        let sof : IsSo F h = parameters_here E h c w so in
        let inside : Within (xs ++ (ys ++ zs)) = within_right es (xs ++ (ys ++ zs)) within in
        let head_both = kept_head head c F w m n is refl (phis (text insts h)) (sym (in_front_and_behind (text insts h))) sof
        (within_left xs (ys ++ zs) inside) fine.1 in
        let x : Each (Inner g h c) xs = each_placed (Arm g h (InBody h m n ∷ c)) (Inner g h c) xs (λ b. arm_inner g h (InBody h m n) c b refl) head_both.0 in
        let v : Walk g n (InNext h m ∷ c) = walk_next insts stay stay no_pointers clean spells.staying h m n c is w in
        let s : Steps g h c n (InNext h m ∷ c) =
        continues_on no_pointers g clean h n c (InNext h m ∷ c) w (ap next_of is) (ap (λ k. next_context k h c) is) in
        let y : Each (Deep g (InNext h m ∷ c)) ys = kept_part next (AtFront P F (front_of insts stay n)) v
        (front_here F n (InNext h m ∷ c) v (step_on F h n c (InNext h m ∷ c) w s sof)
        (continued (at_end F inner) h n c (ALoop m n) xs is refl w (within_left xs (ys ++ zs) inside)
        (λ e o. no_back_next no_pointers g clean h e.0 m n c w v (x e o).1) head_both.1 fine.3))
        (within_left ys zs (within_right xs (ys ++ zs) inside)) fine.2 in
        let u : Walk g m c = walk_merge insts stay stay no_pointers clean spells.staying h m c (Some (ALoop m n)) is w refl in
        let r : Steps g h c m c = merges_on no_pointers g clean h m c w (ap merge_of is) in
        let other : m ≢ h = role_other g h m (merge_role insts stay stay no_pointers clean spells.staying h m c (Some (ALoop m n)) is w refl) in
        let both : Within (xs ++ ys) = (λ e o. elim (one_split e xs ys o) [
          | inl k ↦ inside e (one_left e xs (ys ++ zs) k)
          | inr k ↦ inside e (one_right e xs (ys ++ zs) (one_left e ys zs k))
        ]) in
        let z : Each (Deep g c) zs = kept_part merge (AtFront P F (front_of insts stay m)) u
        (front_here F m c u (step_on F h m c c w r sof)
        (merged (at_end F inner) h m c (ALoop m n) (xs ++ ys) is refl w both
        (λ e o. elim (one_split e xs ys o) [
          | inl k ↦ no_back_merge no_pointers g clean h e.0 m c w u (x e k).1
          | inr k ↦ no_back_part no_pointers g clean h e.0 m c u other (y e k).1
        ]) head_both.1 fine.4))
        (within_right ys zs (within_right xs (ys ++ zs) inside)) fine.5 in
        each_both (Arm g block c) es (xs ++ (ys ++ zs))
        (each_placed (λ b. b ≡ block) (Arm g block c) es (λ b k. Itself k) (entered_kept E block h entry before fine.0 quiet))
        (each_placed (Deep g c) (Arm g block c) (xs ++ (ys ++ zs)) (λ b k. Below k)
        (each_both (Deep g c) xs (ys ++ zs) (each_placed (Inner g h c) (Deep g c) xs (λ b. inner_deep g h c b w) x)
        (each_both (Deep g c) ys zs (each_placed (Deep g (InNext h m ∷ c)) (Deep g c) ys (λ b. deep_out g (InNext h m) c b) y) z)))

    -- a header, and what is available at its end
    pub kept_head : {h : ℕ} {d : Context} {opening : List ℕ} {rest : List (List ℕ)} {body : Body} → SpellsHead insts stay h d opening rest body
        → (c : Context) (E : Ids) → Walk g h c → (m n : ℕ) → construct g h ≡ Some (ALoop m n) → d ≡ InBody h m n ∷ c
        → (front : List (List ℕ)) → text insts h ≡ front ++ rest → IsSo E h → Within (branches_of_body h body) → Fine P E h body
        → Each (Arm g h d) (branches_of_body h body) × IsSo (at_end E body) h
    kept_head (spelled.begins {h = h} {d = d} {opening = opening} {words = words} {rest = rest} {body = body} step s) c E w m n is same front e so within fine =
        kept_head s c (With E (defined_in words)) w m n is same (front ++ words ∷ []) (e ∙ sym (append_assoc front (words ∷ []) rest))
        (defined_here E h c w words step (subst (OneOf words) (sym e) (one_right words front (words ∷ rest) (inl refl))) so) within fine.1
    kept_head (spelled.goes {h = h} {t = t} {d = d} {opening = opening} {body = body} a) c E w m n is same front e so within fine = (
      kept_arm a c E w (same ∙ sym (ap (λ k. behind k h t c) is)) so within fine,
      λ id k. so id (arm_end E a id k),
    )
    kept_head (spelled.parted {h = h} {condition = condition} {other = other} {on = on} {d = d} {opening = opening} {exit = exit} {body = body} s a)
        c E w m n is same front e so within fine = (
          each_both (Arm g h d) ((h, exit) ∷ []) (branches_of_body h body) (leaves_each E h exit (Arm g h d) (Itself refl) so fine.1)
              (kept_arm a c E w (same ∙ sym (ap (λ k. behind k h other c) is)) so (λ x o. within x (inr o)) fine.2),
          so,
        )

  -- ---- what is promised at the parts of a construct, each way there has passed

  pub select_promise : {l one other m : ℕ} {c : Context} {first second : Body} (zs : List Branching) → construct g l ≡ Some (ASelection m)
      → SpellsArm insts stay l (InSelection m ∷ c) one first → SpellsArm insts stay l (InSelection m ∷ c) other second → (E : Ids) → Walk g l c → IsSo E l
      → Within (branches_of_body l first ++ (branches_of_body l second ++ zs)) → Fine P E l first → Fine P E l second
      → Covers P (branches_of_body l first ++ branches_of_body l second) E m → (id : ℕ) → P m id → Start m id
  select_promise {l = l} {one = one} {other = other} {m = m} {c = c} {first = first} {second = second} zs is a b E w so within fine1 fine2 covers =
      let xs : List Branching = branches_of_body l first in
      let ys : List Branching = branches_of_body l second in
      let d : Context = InSelection m ∷ c in
      let x : Each (Inner g l c) xs = each_placed (Arm g l d) (Inner g l c) xs (λ b. arm_inner g l (InSelection m) c b refl)
      (kept_arm a c E w (sym (ap (λ k. behind k l one c) is)) so (within_left xs (ys ++ zs) within) fine1) in
      let y : Each (Inner g l c) ys = each_placed (Arm g l d) (Inner g l c) ys (λ b. arm_inner g l (InSelection m) c b refl)
      (kept_arm b c E w (sym (ap (λ k. behind k l other c) is)) so (within_left ys zs (within_right xs (ys ++ zs) within)) fine2) in
      let both : Each (Inner g l c) (xs ++ ys) = each_both (Inner g l c) xs ys x y in
      let inside : Within (xs ++ ys) = (λ e o. elim (one_split e xs ys o) [
        | inl k ↦ within e (one_left e xs (ys ++ zs) k)
        | inr k ↦ within e (one_right e xs (ys ++ zs) (one_left e ys zs k))
      ]) in
      let v : Walk g m c = walk_merge insts stay stay no_pointers clean spells.staying l m c (Some (ASelection m)) is w refl in
      merged E l m c (ASelection m) (xs ++ ys) is refl w inside (λ e o. no_back_merge no_pointers g clean l e.0 m c w v (both e o).1) so covers

  pub switch_promise : {l m : ℕ} {c : Context} {labels : List ℕ} {arms : Arms} → construct g l ≡ Some (ASwitch m) → SpellsArms insts stay l m c labels arms
      → (E : Ids) → Walk g l c → IsSo E l → Within (branches_of_arms l arms) → ArmsFine P E l arms → Covers P (branches_of_arms l arms) E m
      → (id : ℕ) → P m id → Start m id
  switch_promise {l = l} {m = m} {c = c} {arms = arms} is a E w so within fine covers =
      let v : Walk g m c = walk_merge insts stay stay no_pointers clean spells.staying l m c (Some (ASwitch m)) is w refl in
      let x : Each (Inner g l c) (branches_of_arms l arms) = kept_arms a E w is so within fine in
      merged E l m c (ASwitch m) (branches_of_arms l arms) is refl w within (λ e o. no_back_merge no_pointers g clean l e.0 m c w v (x e o).1) so covers

  pub next_promise : {h m n control : ℕ} {c : Context} {inner : Body} → construct g h ≡ Some (ALoop m n)
      → SpellsHead insts stay h (InBody h m n ∷ c) (loop_line m n control) (behind_phis (text insts h)) inner → (F : Ids) → Walk g h c → IsSo F h
      → Within (branches_of_body h inner) → Fine P F h inner → Covers P (branches_of_body h inner) (at_end F inner) n → (id : ℕ) → P n id → Start n id
  next_promise {h = h} {m = m} {n = n} {c = c} {inner = inner} is head F w so within fine covers =
      let r = kept_head head c F w m n is refl (phis (text insts h)) (sym (in_front_and_behind (text insts h))) so within fine in
      let v : Walk g n (InNext h m ∷ c) = walk_next insts stay stay no_pointers clean spells.staying h m n c is w in
      continued (at_end F inner) h n c (ALoop m n) (branches_of_body h inner) is refl w within
      (λ e o. no_back_next no_pointers g clean h e.0 m n c w v (arm_inner g h (InBody h m n) c e.0 refl (r.0 e o).1)) r.1 covers

  pub merge_promise : {h m n control : ℕ} {c : Context} {inner continuing : Body} (zs : List Branching) → construct g h ≡ Some (ALoop m n)
      → SpellsHead insts stay h (InBody h m n ∷ c) (loop_line m n control) (behind_phis (text insts h)) inner
      → SpellsPart insts stay n (InNext h m ∷ c) continuing
      → (F : Ids) → Walk g h c → IsSo F h → Within (branches_of_body h inner ++ (branches_of_body n continuing ++ zs)) → Fine P F h inner
      → Fine P (AtFront P F (front_of insts stay n)) n continuing → Covers P (branches_of_body h inner) (at_end F inner) n
      → Covers P (branches_of_body h inner ++ branches_of_body n continuing) (at_end F inner) m → (id : ℕ) → P m id → Start m id
  merge_promise {h = h} {m = m} {n = n} {c = c} {inner = inner} {continuing = continuing} zs is head next F w so within fine1 fine2 covers1 covers2 =
      let xs : List Branching = branches_of_body h inner in
      let ys : List Branching = branches_of_body n continuing in
      let r = kept_head head c F w m n is refl (phis (text insts h)) (sym (in_front_and_behind (text insts h))) so (within_left xs (ys ++ zs) within) fine1 in
      let v : Walk g n (InNext h m ∷ c) = walk_next insts stay stay no_pointers clean spells.staying h m n c is w in
      let s : Steps g h c n (InNext h m ∷ c) =
      continues_on no_pointers g clean h n c (InNext h m ∷ c) w (ap next_of is) (ap (λ k. next_context k h c) is) in
      let y : Each (Deep g (InNext h m ∷ c)) ys = kept_part next (AtFront P F (front_of insts stay n)) v
      (front_here F n (InNext h m ∷ c) v (step_on F h n c (InNext h m ∷ c) w s so)
      (next_promise is head F w so (within_left xs (ys ++ zs) within) fine1 covers1))
      (within_left ys zs (within_right xs (ys ++ zs) within)) fine2 in
      let u : Walk g m c = walk_merge insts stay stay no_pointers clean spells.staying h m c (Some (ALoop m n)) is w refl in
      let other : m ≢ h = role_other g h m (merge_role insts stay stay no_pointers clean spells.staying h m c (Some (ALoop m n)) is w refl) in
      let inside : Within (xs ++ ys) = (λ e o. elim (one_split e xs ys o) [
        | inl k ↦ within e (one_left e xs (ys ++ zs) k)
        | inr k ↦ within e (one_right e xs (ys ++ zs) (one_left e ys zs k))
      ]) in
      merged (at_end F inner) h m c (ALoop m n) (xs ++ ys) is refl w inside
      (λ e o. elim (one_split e xs ys o) [
        | inl k ↦ no_back_merge no_pointers g clean h e.0 m c w u (arm_inner g h (InBody h m n) c e.0 refl (r.0 e k).1)
        | inr k ↦ no_back_part no_pointers g clean h e.0 m c u other (y e k).1
      ]) r.1 covers2
