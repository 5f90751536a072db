-- A sound function in whose listing no rule on structured control flow is broken is structured: by recursion on its tree, each test of it is told by a rule.
use Rattle.std.proofs.Common.{◌≡◌, ℕ, ◌≤◌, inl, inr, Bool, true, false, ◌==◌, List, [], ◌∷◌, ◌++◌, length, Some, None, refl, sym, ap, ◌∙◌, subst, arith}
use Rattle.spv_opcodes.specs.declared.op.TheConstants as op
use Rattle.spv_blocks.specs.Blocks.{Code, Construct, ASwitch, ALoop, has, end_targets}
use Rattle.spv_blocks.specs.Cutting.{blocks_of}
use Rattle.spv_walk.specs.Contexts.{Context, InSelection, InArm, InBody, InNext, behind, is_exit, in_next}
use Rattle.spv_walk.specs.Faults.{end_rules}
use Rattle.spv_walk.specs.Rules.{Finds, Found}
use Rattle.spv_bodies.specs.Bodies.{Front, ByBranch, InPlace, Body, Leaves, Finishes, Step, Enters, Splits, Selects, Switches, Loops, Arms, Last, Also, Function, target, begins_at_branch}
use Rattle.spv_bodies.specs.Listing.{Branching, branches, branches_of_arms, arriving, first_target}
use Rattle.spv_tree.specs.Branches.{branches_in}
use Rattle.spv_tree.specs.Sound.{IsSound, opcode_in}
use Rattle.spv_trees.specs.Standing.{OneOf}
use Rattle.spv_structured.specs.Structured.{IsStructured, Flows, ArmsFlow, ParametersFit, ArmsFit, NamesArms, first_end, finish, parts_header}
use Rattle.spv_structured.specs.Spots.{Spot, first_spot, blocks_in}
use Rattle.spv_structured.specs.Laws.{UnbrokenIsStructured}
use Rattle.spv_structured.proofs.Lists.{one_has}
use Rattle.spv_structured.proofs.Bare.{bare}
use Rattle.spv_structured.proofs.ListedBlocks.{listed_blocks}
use Rattle.spv_structured.proofs.Positions.{construct_in, Leaving, ways, split_targets, Stage, Ahead, Past, Position, ArmsPosition, Node, Led, ahead, context_at, stepped, past_split, first_arm, second_arm, arms_of, last_arm, next_arm, arms_behind, header_here, header_front, in_header, entered_node, header_node, selection_node, switch_node, next_node, merge_node, first_node}
use Rattle.spv_structured.proofs.Looked.{node_at}
use Rattle.spv_unbroken.proofs.Own.{Differ, ends_differ, literals_differ, returns_outside, header_parts}
use Rattle.spv_unbroken.proofs.Headings.{split_differs}
use Rattle.spv_unbroken.proofs.Walks.{end_clean, leads_apart, all_leave_well}
use Rattle.spv_unbroken.proofs.Sent.{sent, sent_cons, sent_append, sent_once}
use Rattle.spv_unbroken.proofs.Back.{one_back, front_fits}

-- of each block at most one branch with values goes to a label
abbrev Few : List Branching → Type 0
Few bs = (h p : ℕ) → sent h bs p ≤ 1

few_behind : (x : Branching) (bs : List Branching) → Few (x ∷ bs) → Few bs
few_behind x bs few h p = let a = sent_cons x bs h p in let b = few h p in omega (arith, a, b)

few_left : (bs cs : List Branching) → Few (bs ++ cs) → Few bs
few_left bs cs few h p = let a = sent_append bs cs h p in let b = few h p in omega (arith, a, b)

few_right : (bs cs : List Branching) → Few (bs ++ cs) → Few cs
few_right bs cs few h p = let a = sent_append bs cs h p in let b = few h p in omega (arith, a, b)

module _ (is_pointer : ℕ → Bool) (f : Function) (sound : IsSound f) (named : NamesArms f.body) (g : Code) (same : bare g ≡ blocks_in f)
    (none : (rule at : ℕ) → Finds is_pointer g rule at → ⊥) where
  abbrev all : List Branching
  all = branches_in f

  -- ---- the terminator of a block

  -- before the terminator of its block, a body has that
  whole : (s : Spot) (c : Context) (b : Body) → begins_at_branch b ≡ false → Stage is_pointer f s c b → first_end b ≡ first_end s.body
  whole s c b other (Ahead e d h) = h
  whole s c b other (Past e d (inl o)) = absurd (cc (other, o))
  whole s c b other (Past e d (inr o)) = o.1

  differ : (s : Spot) (b : Body) → Node is_pointer f s → first_end b ≡ first_end s.body → Differ (first_end b)
  differ s b n e =
      subst Differ (sym e)
      (ends_differ (construct_in s.body) (behind (construct_in s.body) s.label s.label s.context) (first_end s.body)
      (end_clean is_pointer f sound named g same none s n))

  -- the rules on the terminator, behind the construct that stands before it
  opened_clean : (s : Spot) (b : Body) (k : Construct) → Node is_pointer f s → Some k ≡ construct_in s.body → first_end b ≡ first_end s.body
      → end_rules (Some k) (behind (Some k) s.label s.label s.context) (first_end b) ≡ []
  opened_clean s b k n is e =
      ap (end_rules (Some k) (behind (Some k) s.label s.label s.context)) e ∙ ap (λ z. end_rules z (behind z s.label s.label s.context) (first_end s.body)) is
      ∙ end_clean is_pointer f sound named g same none s n

  -- ---- the tests

  exit_here : (s : Spot) (c : Context) (l t : ℕ) (b : Body) → Node is_pointer f s → Position is_pointer f s c l b → construct_in b ≡ None
      → has (end_targets (first_end b)) t ≡ true → OneOf (Leaving t) (ways b)
      → is_exit c (first_end s.body) t ≡ true
  exit_here s c l t b n p bare h way =
      subst (λ d. is_exit d (first_end s.body) t ≡ true) (sym (context_at is_pointer f s c b t bare h p.stage))
      (all_leave_well is_pointer f sound named g same none s n t (p.outs (Leaving t) way))

  finishes_outside : (s : Spot) (c : Context) (words : List ℕ) → Node is_pointer f s → Stage is_pointer f s c (Finishes words) → in_next c ≡ false
  finishes_outside s c words n (Ahead e d h) =
      let clean : end_rules None s.context (finish words) ≡ [] =
      ap (end_rules None s.context) h ∙ ap (λ z. end_rules z (behind z s.label s.label s.context) (first_end s.body)) e
      ∙ end_clean is_pointer f sound named g same none s n in
      ap in_next d ∙ returns_outside None s.context (opcode_in words == op.UNREACHABLE) clean
  finishes_outside s c words n (Past e d (inl o)) = absurd (cc o)
  finishes_outside s c words n (Past e d (inr o)) = absurd (cc o.0)

  parted : (s : Spot) (c : Context) (l : ℕ) (header : Front) (control : ℕ) (inner : Body) (next : Front) (continuing : Body) (merge : Front) (rest : Body)
      → Node is_pointer f s
      → Position is_pointer f s c l (Loops InPlace header control inner next continuing merge rest) → parts_header (first_end inner) merge.label ≡ true
  parted s c l header control inner next continuing merge rest n p =
      let a = ahead is_pointer f s c (Loops InPlace header control inner next continuing merge rest) (ALoop merge.label next.label) refl p.stage in
      header_parts inner (behind (Some (ALoop merge.label next.label)) s.label s.label s.context) merge.label next.label p.formed.0
      (opened_clean s inner (ALoop merge.label next.label) n a.0 a.2)

  goes_back : (s : Spot) (c : Context) (l : ℕ) (header : Front) (control : ℕ) (inner : Body) (next : Front) (continuing : Body) (merge : Front) (rest : Body)
      → Node is_pointer f s
      → Position is_pointer f s c l (Loops InPlace header control inner next continuing merge rest) → Few (branches next.label continuing)
      → length (arriving header.label (branches next.label continuing)) ≡ 1
  goes_back s c l header control inner next continuing merge rest n p few =
      let loop = Loops InPlace header control inner next continuing merge rest in
      let a = ahead is_pointer f s c loop (ALoop merge.label next.label) refl p.stage in
      let here = header_here is_pointer f s c l header control inner next continuing merge rest p in
      let q : Spot = record { context = InNext header.label merge.label ∷ c; from = header.label; label = next.label; front = Some next; body = continuing } in
      let led = next_node is_pointer f s c l header control inner next continuing merge rest n p in
      let context : q.context ≡ InNext s.label merge.label ∷ s.context =
      ap (λ z. InNext z merge.label ∷ c) (sym here) ∙ ap (λ z. InNext s.label merge.label ∷ z) a.1 in
      ap (λ z. length (arriving z (branches next.label continuing))) (sym here)
      ∙ one_back is_pointer f sound named g same none s n merge.label next.label (sym a.0) q led.node refl context (λ x. few s.label x)

  -- ---- by recursion

  abbrev Fine : Spot → Context → ℕ → Body → Type 0
  Fine s c l b = Flows c l (first_end s.body) b × ParametersFit is_pointer all b

  abbrev Holds : Body → Type 0
  Holds b = (s : Spot) (c : Context) (l : ℕ) → Node is_pointer f s → Position is_pointer f s c l b → Few (branches l b) → Fine s c l b

  -- a block of its own
  led_fine : (s r : Spot) → Led is_pointer f s r → Holds r.body → Few (branches r.label r.body) → Fine r r.context r.label r.body
  led_fine s r led holds few = holds r r.context r.label led.node led.node.position few

  loop_fine : (header : Front) (control : ℕ) (inner : Body) (next : Front) (continuing : Body) (merge : Front) (rest : Body) → Holds inner → Holds continuing
      → Holds rest
      → Holds (Loops InPlace header control inner next continuing merge rest)
  loop_fine header control inner next continuing merge rest one two three s c l n p few =
      let i = InBody header.label merge.label next.label ∷ c in
      let q : Spot = record { context = InNext header.label merge.label ∷ c; from = header.label; label = next.label; front = Some next; body = continuing } in
      let r : Spot = record { context = c; from = header.label; label = merge.label; front = Some merge; body = rest } in
      let to_next = next_node is_pointer f s c l header control inner next continuing merge rest n p in
      let to_merge = merge_node is_pointer f s c l header control inner next continuing merge rest n p in
      let a = ahead is_pointer f s c (Loops InPlace header control inner next continuing merge rest) (ALoop merge.label next.label) refl p.stage in
      let few_inner = few_left (branches header.label inner) (branches next.label continuing ++ branches merge.label rest) few in
      let few_rest = few_right (branches header.label inner) (branches next.label continuing ++ branches merge.label rest) few in
      let few_next = few_left (branches next.label continuing) (branches merge.label rest) few_rest in
      let few_merge = few_right (branches next.label continuing) (branches merge.label rest) few_rest in
      let x = one s i header.label n (in_header is_pointer f s c l header control inner next continuing merge rest p) few_inner in
      let y = led_fine s q to_next two few_next in
      let z = led_fine s r to_merge three few_merge in (
        (
          parted s c l header control inner next continuing merge rest n p,
          subst (λ e. Flows i header.label e inner) (sym a.2) x.0,
          y.0,
          goes_back s c l header control inner next continuing merge rest n p few_next,
          z.0,
        ),
        (
          front_fits is_pointer f sound named g same none s header n (header_front is_pointer f s c l header control inner next continuing merge rest p),
          front_fits is_pointer f sound named g same none q next to_next.node refl,
          front_fits is_pointer f sound named g same none r merge to_merge.node refl,
          x.1,
          y.1,
          z.1,
        ),
      )

  mutual
    body_fine : (b : Body) (s : Spot) (c : Context) (l : ℕ) → Node is_pointer f s → Position is_pointer f s c l b → Few (branches l b) → Fine s c l b
    body_fine (Leaves exit) s c l n p few =
        (exit_here s c l exit.target (Leaves exit) n p refl (one_has (exit.target ∷ []) exit.target (inl refl)) (inl refl), tt)
    body_fine (Finishes words) s c l n p few = (finishes_outside s c words n p.stage, tt)
    body_fine (Step words b) s c l n p few = body_fine b s c l n (stepped is_pointer f s c l words b p) few
    body_fine (Enters label b) s c l n p few =
        led_fine s (record { context = c; from = l; label = label; front = None; body = b }) (entered_node is_pointer f s c l label b n p) (body_fine b) few
    body_fine (Splits condition on exit b) s c l n p few =
        let x = body_fine b s c l n (past_split is_pointer f s c l condition on exit b p) (few_behind (l, exit) (branches l b) few) in
        let apart = split_differs on exit.target (target b) (differ s (Splits condition on exit b) n (whole s c (Splits condition on exit b) refl p.stage)) in (
          (
            exit_here s c l exit.target (Splits condition on exit b) n p refl (split_targets on exit.target (target b) exit.target (inl refl))
                (inl refl),
            apart,
            x.0,
          ),
          x.1,
        )
    body_fine (Selects control condition first second merge rest) s c l n p few =
        let i = InSelection merge.label ∷ c in
        let r : Spot = record { context = c; from = l; label = merge.label; front = Some merge; body = rest } in
        let to_merge = selection_node is_pointer f s c l control condition first second merge rest n p in
        let few_arms = few_right (branches l first) (branches l second ++ branches merge.label rest) few in
        let x = body_fine first s i l n (first_arm is_pointer f s c l control condition first second merge rest p)
        (few_left (branches l first) (branches l second ++ branches merge.label rest) few) in
        let y = body_fine second s i l n (second_arm is_pointer f s c l control condition first second merge rest p)
        (few_left (branches l second) (branches merge.label rest) few_arms) in
        let z = led_fine s r to_merge (body_fine rest) (few_right (branches l second) (branches merge.label rest) few_arms) in (
          (
            differ s (Selects control condition first second merge rest) n
                (whole s c (Selects control condition first second merge rest) refl p.stage),
            x.0,
            y.0,
            z.0,
          ),
          (front_fits is_pointer f sound named g same none r merge to_merge.node refl, x.1, y.1, z.1),
        )
    body_fine (Switches control selector cases arms merge rest) s c l n p few =
        let switch = Switches control selector cases arms merge rest in
        let r : Spot = record { context = c; from = l; label = merge.label; front = Some merge; body = rest } in
        let to_merge = switch_node is_pointer f s c l control selector cases arms merge rest n p in
        let a = ahead is_pointer f s c switch (ASwitch merge.label) refl p.stage in
        let x = arms_fine arms s c l merge.label n (arms_of is_pointer f s c l control selector cases arms merge rest p)
        (few_left (branches_of_arms l arms) (branches merge.label rest) few) in
        let z = led_fine s r to_merge (body_fine rest) (few_right (branches_of_arms l arms) (branches merge.label rest) few) in
        let once = literals_differ (Some (ASwitch merge.label)) (behind (Some (ASwitch merge.label)) s.label s.label s.context) (first_target arms) cases
        (opened_clean s switch (ASwitch merge.label) n a.0 a.2) in
        ((once, x.0, z.0), (front_fits is_pointer f sound named g same none r merge to_merge.node refl, x.1, z.1))
    body_fine (Loops (ByBranch values) header control inner next continuing merge rest) s c l n p few =
        let loop = Loops InPlace header control inner next continuing merge rest in
        let r : Spot = record { context = c; from = l; label = header.label; front = Some header; body = loop } in
        led_fine s r (header_node is_pointer f s c l values header control inner next continuing merge rest n p)
        (loop_fine header control inner next continuing merge rest (body_fine inner) (body_fine continuing) (body_fine rest))
        (few_behind (l, record { target = header.label; values = values }) (branches header.label loop) few)
    body_fine (Loops InPlace header control inner next continuing merge rest) s c l n p few =
        loop_fine header control inner next continuing merge rest (body_fine inner) (body_fine continuing) (body_fine rest) s c l n p few

    arms_fine : (arms : Arms) (s : Spot) (c : Context) (l m : ℕ) → Node is_pointer f s → ArmsPosition is_pointer f s c l m arms → Few (branches_of_arms l arms)
        → ArmsFlow c l m (first_end s.body) arms × ArmsFit is_pointer all arms
    arms_fine (Last arm) s c l m n p few = body_fine arm s (InArm l m (target arm) ∷ c) l n (last_arm is_pointer f s c l m arm p) few
    arms_fine (Also arm arms) s c l m n p few =
        let x = body_fine arm s (InArm l m (target arm) ∷ c) l n (next_arm is_pointer f s c l m arm arms p)
        (few_left (branches l arm) (branches_of_arms l arms) few) in
        let y = arms_fine arms s c l m n (arms_behind is_pointer f s c l m arm arms p) (few_right (branches l arm) (branches_of_arms l arms) few) in
        ((x.0, y.0), (x.1, y.1))

  pub is_structured : IsStructured is_pointer f
  is_structured =
      let n = first_node is_pointer f sound named in
      let few = sent_once f sound (λ s h t. leads_apart is_pointer f sound named g same none s (node_at is_pointer f sound named g same s h) t) in
      let x = body_fine f.body (first_spot f) [] f.label n n.position few in
      record { flows = x.0; parameters = x.1; arms = named }

pub unbroken_is_structured : UnbrokenIsStructured
unbroken_is_structured f insts is_pointer sound opened arms listed unbroken =
    is_structured is_pointer f sound arms (blocks_of insts) (listed_blocks f insts sound opened listed) (λ rule at h. unbroken rule at (Found rule at h))
