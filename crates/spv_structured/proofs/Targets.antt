-- Where the blocks of a tree lead: a target is that of an exit or a block that is entered; a merge instruction leads to blocks; and each branch with values
-- is one of a block.
use Rattle.std.proofs.Common.{◌≡◌, ℕ, ◌⊎◌, inl, inr, Bool, true, false, ◌==◌, cond, List, [], ◌∷◌, ◌++◌, length, Some, None, refl, sym, ap, ◌∙◌, subst}
use Rattle.std.specs.Prelude.{Contains}
use Rattle.std.specs.List.{AllByRecursion}
use Rattle.std.proofs.lemmas.List.Elements.{recursion_from_All}
use Rattle.spv_opcodes.specs.declared.op.TheConstants as op
use Rattle.spv_blocks.specs.Blocks.{BranchIf, Return, Unreachable, ALoop, end_targets, has, seconds, merge_of}
use Rattle.spv_walk.specs.Contexts.{Level, Context, InSelection, InArm, InBody, InNext, behind, is_exit}
use Rattle.spv_bodies.specs.Bodies.{Exit, Front, Entry, ByBranch, InPlace, Body, Leaves, Finishes, Step, Enters, Splits, Selects, Switches, Loops, Arms, Last, Also, Function, target, begins_at_branch}
use Rattle.spv_bodies.specs.Listing.{Branching, branches, branches_of_arms, arriving, first_target}
use Rattle.spv_tree.specs.Sound.{opcode_in, targets}
use Rattle.spv_trees.specs.Standing.{OneOf}
use Rattle.spv_structured.specs.Structured.{IsStructured, first_end, finish}
use Rattle.spv_structured.specs.Spots.{Spot}
use Rattle.spv_structured.proofs.Lists.{has_one, one_has, one_split, contained}
use Rattle.spv_structured.proofs.Positions.{construct_in, Leaving, Entering, heading_to, ways, ways_of_arms, branch_end, split_targets, Position, ArmsPosition, Node, Going, Led, context_at, stepped, past_split, first_arm, second_arm, arms_of, last_arm, next_arm, arms_behind, header_here, header_front, in_header, entered_going, entered_node, header_going, header_node, selection_node, switch_node, next_node, merge_node}

finish_leads_nowhere : (words : List ℕ) (t : ℕ) → has (end_targets (finish words)) t ≡ true → ⊥
finish_leads_nowhere words t h = by (opcode_in words == op.UNREACHABLE) h
  where
    by : (b : Bool) → has (end_targets (cond b Unreachable Return)) t ≡ true → ⊥
    by true e = cc e
    by false e = cc e

split_target : (on : Bool) (exit other t : ℕ) → has (end_targets (BranchIf (cond on exit other) (cond on other exit))) t ≡ true → (exit ≡ t) ⊎ (other ≡ t)
split_target true exit other t h = by (has_one (exit ∷ other ∷ []) t h)
  where
    by : OneOf t (exit ∷ other ∷ []) → (exit ≡ t) ⊎ (other ≡ t)
    by (inl e) = inl (sym e)
    by (inr (inl e)) = inr (sym e)
    by (inr (inr e)) = absurd e
split_target false exit other t h = by (has_one (other ∷ exit ∷ []) t h)
  where
    by : OneOf t (other ∷ exit ∷ []) → (exit ≡ t) ⊎ (other ≡ t)
    by (inl e) = inr (sym e)
    by (inr (inl e)) = inl (sym e)
    by (inr (inr e)) = absurd e

first_is_target : (arms : Arms) → OneOf (first_target arms) (targets arms)
first_is_target (Last arm) = inl refl
first_is_target (Also arm arms) = inl refl

case_is_target : (arms : Arms) (cases : List (ℕ × ℕ)) (t : ℕ) → AllByRecursion (λ case. Contains (targets arms) case.1) cases → OneOf t (seconds cases) → OneOf t (targets arms)
case_is_target arms [] t h g = absurd g
case_is_target arms (case ∷ cases) t h (inl e) = subst (λ z. OneOf z (targets arms)) (sym e) (contained (targets arms) case.1 h.0)
case_is_target arms (case ∷ cases) t h (inr g) = case_is_target arms cases t h.1 g

-- the context ends so
pub data Within (c : Context) : Context → Type 0 where
  Here : Within c c
  Deeper : (level : Level) (d : Context) → Within c d → Within c (level ∷ d)

module _ (is_pointer : ℕ → Bool) (f : Function) where
  -- a target of the block s: that of an exit, or a block that it enters
  pub data Leads (s : Spot) (t : ℕ) : Type 0 where
    Out : (x : Exit) → OneOf (s.label, x) (branches s.label s.body) → x.target ≡ t → OneOf (Leaving t) (ways s.body) → Leads s t
    On : (r : Spot) → Node is_pointer f r → Going is_pointer f s r → r.from ≡ s.label → r.label ≡ t → Leads s t

  out : (s : Spot) (c : Context) (l t : ℕ) (b : Body) (x : Exit) → Position is_pointer f s c l b → OneOf (l, x) (branches l b) → x.target ≡ t
      → OneOf (Leaving x.target) (ways b) → Leads s t
  out s c l t b x p one e way =
      Out x (p.sends (s.label, x) (subst (λ z. OneOf (z, x) (branches l b)) (sym p.label) one)) e
      (subst (λ z. OneOf (Leaving z) (ways s.body)) e (p.outs (Leaving x.target) way))

  going : (s r : Spot) (t : ℕ) → Led is_pointer f s r → r.label ≡ t → Going is_pointer f s r → Leads s t
  going s r t led e g = On r led.node g led.child.from e

  loop_leads : (header : Front) (control : ℕ) (inner : Body) (next : Front) (continuing : Body) (merge : Front) (rest : Body)
      → ((s : Spot) (c : Context) (l t : ℕ) → Node is_pointer f s → Position is_pointer f s c l inner → has (end_targets (first_end inner)) t ≡ true → Leads s t)
      → (entry : Entry) (s : Spot) (c : Context) (l t : ℕ) → Node is_pointer f s → Position is_pointer f s c l (Loops entry header control inner next continuing merge rest)
      → has (end_targets (first_end (Loops entry header control inner next continuing merge rest))) t ≡ true → Leads s t
  loop_leads header control inner next continuing merge rest in_inner (ByBranch values) s c l t n p h = by (has_one (header.label ∷ []) t h)
    where
      by : OneOf t (header.label ∷ []) → Leads s t
      by (inl e) =
          going s (record { context = c; from = l; label = header.label; front = Some header; body = Loops InPlace header control inner next continuing merge rest }) t
          (header_node is_pointer f s c l values header control inner next continuing merge rest n p) (sym e) (header_going is_pointer f s c l values header control inner next continuing merge rest p)
      by (inr e) = absurd e
  loop_leads header control inner next continuing merge rest in_inner InPlace s c l t n p h =
      in_inner s (InBody header.label merge.label next.label ∷ c) header.label t n (in_header is_pointer f s c l header control inner next continuing merge rest p) h

  enters_lead : (label : ℕ) (b : Body) (s : Spot) (c : Context) (l t : ℕ) → Node is_pointer f s → Position is_pointer f s c l (Enters label b) → has (end_targets (first_end (Enters label b))) t ≡ true → Leads s t
  enters_lead label b s c l t n p h = by (has_one (label ∷ []) t h)
    where
      by : OneOf t (label ∷ []) → Leads s t
      by (inl e) =
          going s (record { context = c; from = l; label = label; front = None; body = b }) t (entered_node is_pointer f s c l label b n p) (sym e) (entered_going is_pointer f s c l label b p)
      by (inr e) = absurd e

  leaves_lead : (exit : Exit) (s : Spot) (c : Context) (l t : ℕ) → Position is_pointer f s c l (Leaves exit) → has (end_targets (first_end (Leaves exit))) t ≡ true → Leads s t
  leaves_lead exit s c l t p h = by (has_one (exit.target ∷ []) t h)
    where
      by : OneOf t (exit.target ∷ []) → Leads s t
      by (inl e) = out s c l t (Leaves exit) exit p (inl refl) (sym e) (inl refl)
      by (inr e) = absurd e

  branch_has : (b : Body) (t : ℕ) → begins_at_branch b ≡ true → target b ≡ t → has (end_targets (first_end b)) t ≡ true
  branch_has b t begins e = ap (λ d. has (end_targets d) t) (branch_end b begins) ∙ one_has (target b ∷ []) t (inl (sym e))

  mutual
    pub body_leads : (b : Body) (s : Spot) (c : Context) (l t : ℕ) → Node is_pointer f s → Position is_pointer f s c l b → has (end_targets (first_end b)) t ≡ true → Leads s t
    body_leads (Leaves exit) s c l t n p h = leaves_lead exit s c l t p h
    body_leads (Finishes words) s c l t n p h = absurd (finish_leads_nowhere words t h)
    body_leads (Step words b) s c l t n p h = body_leads b s c l t n (stepped is_pointer f s c l words b p) h
    body_leads (Enters label b) s c l t n p h = enters_lead label b s c l t n p h
    body_leads (Splits condition on exit b) s c l t n p h =
        elim (split_target on exit.target (target b) t h) [
          | inl e ↦ out s c l t (Splits condition on exit b) exit p (inl refl) e (inl refl)
          | inr e ↦ body_leads b s c l t n (past_split is_pointer f s c l condition on exit b p) (branch_has b t p.formed.0 e)
        ]
    body_leads (Selects control condition first second merge rest) s c l t n p h =
        elim (split_target true (target first) (target second) t h) [
          | inl e ↦ body_leads first s (InSelection merge.label ∷ c) l t n (first_arm is_pointer f s c l control condition first second merge rest p) (branch_has first t p.formed.0 e)
          | inr e ↦ body_leads second s (InSelection merge.label ∷ c) l t n (second_arm is_pointer f s c l control condition first second merge rest p) (branch_has second t p.formed.1 e)
        ]
    body_leads (Switches control selector cases arms merge rest) s c l t n p h =
        arms_lead arms s c l merge.label t n (arms_of is_pointer f s c l control selector cases arms merge rest p)
        (elim (has_one (first_target arms ∷ seconds cases) t h) [
          | inl e ↦ subst (λ z. OneOf z (targets arms)) (sym e) (first_is_target arms)
          | inr g ↦ case_is_target arms cases t (recursion_from_All (λ case. Contains (targets arms) case.1) cases p.formed.0.named) g
        ])
    body_leads (Loops entry header control inner next continuing merge rest) s c l t n p h =
        loop_leads header control inner next continuing merge rest (body_leads inner) entry s c l t n p h

    arms_lead : (arms : Arms) (s : Spot) (c : Context) (l m t : ℕ) → Node is_pointer f s → ArmsPosition is_pointer f s c l m arms → OneOf t (targets arms) → Leads s t
    arms_lead (Last arm) s c l m t n p (inl e) =
        body_leads arm s (InArm l m (target arm) ∷ c) l t n (last_arm is_pointer f s c l m arm p) (branch_has arm t p.formed.0 (sym e))
    arms_lead (Last arm) s c l m t n p (inr h) = absurd h
    arms_lead (Also arm arms) s c l m t n p (inl e) =
        body_leads arm s (InArm l m (target arm) ∷ c) l t n (next_arm is_pointer f s c l m arm arms p) (branch_has arm t p.formed.0 (sym e))
    arms_lead (Also arm arms) s c l m t n p (inr h) = arms_lead arms s c l m t n (arms_behind is_pointer f s c l m arm arms p) h

  -- ---- exits

  -- each exit of the block s is one in the context at its terminator
  abbrev pub LeavesWell : Spot → Type 0
  LeavesWell s = (t : ℕ) → OneOf (Leaving t) (ways s.body) → is_exit (behind (construct_in s.body) s.label t s.context) (first_end s.body) t ≡ true

  abbrev pub AllLeaveWell : Type 0
  AllLeaveWell = (s : Spot) → Node is_pointer f s → LeavesWell s

  -- an exit in the context at a branch is one behind the block's merge instruction
  exit_there : (s : Spot) (c : Context) (l t : ℕ) (b : Body) → Position is_pointer f s c l b → construct_in b ≡ None → has (end_targets (first_end b)) t ≡ true
      → is_exit c (first_end s.body) t ≡ true
      → is_exit (behind (construct_in s.body) s.label t s.context) (first_end s.body) t ≡ true
  exit_there s c l t b p none h e = subst (λ d. is_exit d (first_end s.body) t ≡ true) (context_at is_pointer f s c b t none h p.stage) e

  entered_not_left : (label t : ℕ) → OneOf (Leaving t) (Entering label ∷ []) → ⊥
  entered_not_left label t (inl e) = cc e
  entered_not_left label t (inr h) = h

  left_at : (t u : ℕ) → Leaving t ≡ Leaving u → u ≡ t
  left_at t u e = sym (ap heading_to e)

  mutual
    body_exits : (b : Body) (s : Spot) (c : Context) (l : ℕ) → Position is_pointer f s c l b → IsStructured is_pointer f → (t : ℕ) → OneOf (Leaving t) (ways b)
        → is_exit (behind (construct_in s.body) s.label t s.context) (first_end s.body) t ≡ true
    body_exits (Leaves exit) s c l p k t (inl e) =
        let d = left_at t exit.target e in
        exit_there s c l t (Leaves exit) p refl (one_has (exit.target ∷ []) t (inl (sym d))) (subst (λ z. is_exit c (first_end s.body) z ≡ true) d (p.flows k))
    body_exits (Leaves exit) s c l p k t (inr h) = absurd h
    body_exits (Finishes words) s c l p k t h = absurd h
    body_exits (Step words b) s c l p k t h = body_exits b s c l (stepped is_pointer f s c l words b p) k t h
    body_exits (Enters label b) s c l p k t h = absurd (entered_not_left label t h)
    body_exits (Splits condition on exit b) s c l p k t (inl e) =
        let d = left_at t exit.target e in
        exit_there s c l t (Splits condition on exit b) p refl (split_targets on exit.target (target b) t (inl (sym d)))
        (subst (λ z. is_exit c (first_end s.body) z ≡ true) d (p.flows k).0)
    body_exits (Splits condition on exit b) s c l p k t (inr h) = body_exits b s c l (past_split is_pointer f s c l condition on exit b p) k t h
    body_exits (Selects control condition first second merge rest) s c l p k t h = elim (one_split (Leaving t) (ways first) (ways second) h) [
      | inl g ↦ body_exits first s (InSelection merge.label ∷ c) l (first_arm is_pointer f s c l control condition first second merge rest p) k t g
      | inr g ↦ body_exits second s (InSelection merge.label ∷ c) l (second_arm is_pointer f s c l control condition first second merge rest p) k t g
    ]
    body_exits (Switches control selector cases arms merge rest) s c l p k t h = arms_exit arms s c l merge.label
        (arms_of is_pointer f s c l control selector cases arms merge rest p) k t h
    body_exits (Loops (ByBranch values) header control inner next continuing merge rest) s c l p k t h = absurd (entered_not_left header.label t h)
    body_exits (Loops InPlace header control inner next continuing merge rest) s c l p k t h =
        body_exits inner s (InBody header.label merge.label next.label ∷ c) header.label
        (in_header is_pointer f s c l header control inner next continuing merge rest p) k t h

    arms_exit : (arms : Arms) (s : Spot) (c : Context) (l m : ℕ) → ArmsPosition is_pointer f s c l m arms → IsStructured is_pointer f → (t : ℕ)
        → OneOf (Leaving t) (ways_of_arms arms)
        → is_exit (behind (construct_in s.body) s.label t s.context) (first_end s.body) t ≡ true
    arms_exit (Last arm) s c l m p k t h = body_exits arm s (InArm l m (target arm) ∷ c) l (last_arm is_pointer f s c l m arm p) k t h
    arms_exit (Also arm arms) s c l m p k t h = elim (one_split (Leaving t) (ways arm) (ways_of_arms arms) h) [
      | inl g ↦ body_exits arm s (InArm l m (target arm) ∷ c) l (next_arm is_pointer f s c l m arm arms p) k t g
      | inr g ↦ arms_exit arms s c l m (arms_behind is_pointer f s c l m arm arms p) k t g
    ]

  -- in a structured tree
  pub structured_leaves : IsStructured is_pointer f → AllLeaveWell
  structured_leaves k s n t h = body_exits s.body s s.context s.label n.position k t h

  -- ---- merge blocks and continue targets

  pub record To (s : Spot) (m : ℕ) (c : Context) : Type 0 where
    pub spot : Spot
    pub led : Led is_pointer f s spot
    pub label : spot.label ≡ m
    pub context : spot.context ≡ c

  pub body_merges : (b : Body) (s : Spot) (c : Context) (l m : ℕ) → Node is_pointer f s → Position is_pointer f s c l b → merge_of (construct_in b) ≡ Some m → To s m c
  body_merges (Step words b) s c l m n p e = body_merges b s c l m n (stepped is_pointer f s c l words b p) e
  body_merges (Selects control condition first second merge rest) s c l m n p e = record {
    spot = record { context = c; from = l; label = merge.label; front = Some merge; body = rest };
    led = selection_node is_pointer f s c l control condition first second merge rest n p;
    label = (let h : merge.label ≡ m = cc e in h);
    context = refl;
  }
  body_merges (Switches control selector cases arms merge rest) s c l m n p e = record {
    spot = record { context = c; from = l; label = merge.label; front = Some merge; body = rest };
    led = switch_node is_pointer f s c l control selector cases arms merge rest n p;
    label = (let h : merge.label ≡ m = cc e in h);
    context = refl;
  }
  body_merges (Loops InPlace header control inner next continuing merge rest) s c l m n p e = record {
    spot = record { context = c; from = header.label; label = merge.label; front = Some merge; body = rest };
    led = merge_node is_pointer f s c l header control inner next continuing merge rest n p;
    label = (let h : merge.label ≡ m = cc e in h);
    context = refl;
  }
  body_merges (Loops (ByBranch values) header control inner next continuing merge rest) s c l m n p e = absurd (cc e)
  body_merges (Leaves exit) s c l m n p e = absurd (cc e)
  body_merges (Finishes words) s c l m n p e = absurd (cc e)
  body_merges (Enters label b) s c l m n p e = absurd (cc e)
  body_merges (Splits condition on exit b) s c l m n p e = absurd (cc e)

  -- the loop of the header s
  pub record Loop (s : Spot) (m n : ℕ) (c : Context) : Type 0 where
    pub next : To s n (InNext s.label m ∷ c)
    pub merge : To s m c
    pub one : IsStructured is_pointer f → length (arriving s.label (branches next.spot.label next.spot.body)) ≡ 1
    pub front : Front
    pub header : s.front ≡ Some front

  pub body_loops : (b : Body) (s : Spot) (c : Context) (l m k : ℕ) → Node is_pointer f s → Position is_pointer f s c l b → first_end b ≡ first_end s.body → construct_in b ≡ Some (ALoop m k) → Loop s m k c
  body_loops (Step words b) s c l m k n p g e = body_loops b s c l m k n (stepped is_pointer f s c l words b p) g e
  body_loops (Loops InPlace header control inner next continuing merge rest) s c l m k n p g e =
      let here = header_here is_pointer f s c l header control inner next continuing merge rest p in
      let same_merge : merge.label ≡ m = cc e in
      let same_next : next.label ≡ k = cc e in
      record {
        next = record {
          spot = record { context = InNext header.label merge.label ∷ c; from = header.label; label = next.label; front = Some next; body = continuing };
          led = next_node is_pointer f s c l header control inner next continuing merge rest n p;
          label = same_next;
          context = ap (λ z. InNext z merge.label ∷ c) (sym here) ∙ ap (λ z. InNext s.label z ∷ c) same_merge;
        };
        merge = body_merges (Loops InPlace header control inner next continuing merge rest) s c l m n p (ap merge_of e);
        one = λ k. ap (λ z. length (arriving z (branches next.label continuing))) here ∙ (p.flows k).3;
        front = header;
        header = header_front is_pointer f s c l header control inner next continuing merge rest p;
      }
  body_loops (Selects control condition first second merge rest) s c l m k n p g e = absurd (cc e)
  body_loops (Switches control selector cases arms merge rest) s c l m k n p g e = absurd (cc e)
  body_loops (Loops (ByBranch values) header control inner next continuing merge rest) s c l m k n p g e = absurd (cc e)
  body_loops (Leaves exit) s c l m k n p g e = absurd (cc e)
  body_loops (Finishes words) s c l m k n p g e = absurd (cc e)
  body_loops (Enters label b) s c l m k n p g e = absurd (cc e)
  body_loops (Splits condition on exit b) s c l m k n p g e = absurd (cc e)

  -- ---- branches with values

  -- the block that a branch with values ends, which stands at this context or deeper
  pub record Source (c : Context) (x : Branching) : Type 0 where
    pub spot : Spot
    pub node : Node is_pointer f spot
    pub label : spot.label ≡ x.0
    pub goes : has (end_targets (first_end spot.body)) x.1.target ≡ true
    pub within : Within c spot.context

  here : (w : Context) (s : Spot) (c : Context) (l : ℕ) (b : Body) (x : Exit) (y : Branching) → Node is_pointer f s → Position is_pointer f s c l b → Within w s.context → has (end_targets (first_end b)) x.target ≡ true
      → y ≡ (l, x) → Source w y
  here w s c l b x y n p within h e = subst (Source w) (sym e) (record { spot = s; node = n; label = p.label; goes = p.leads x.target h; within = within })

  abbrev Sources : Context → Body → Type 0
  Sources w b = (s : Spot) (c : Context) (l : ℕ) → Node is_pointer f s → Position is_pointer f s c l b → Within w s.context → Within w c → (y : Branching) → OneOf y (branches l b) → Source w y

  -- behind a block
  led_source : (w : Context) (s r : Spot) → Led is_pointer f s r → Sources w r.body → Within w r.context → (y : Branching) → OneOf y (branches r.label r.body) → Source w y
  led_source w s r led sources within y h = sources r r.context r.label led.node led.node.position within within y h

  loop_sources : (w : Context) (header : Front) (control : ℕ) (inner : Body) (next : Front) (continuing : Body) (merge : Front) (rest : Body) → Sources w inner → Sources w continuing → Sources w rest
      → Sources w (Loops InPlace header control inner next continuing merge rest)
  loop_sources w header control inner next continuing merge rest one two three s c l n p at within y h =
      let i = InBody header.label merge.label next.label in
      let j = InNext header.label merge.label in
      elim (one_split y (branches header.label inner) (branches next.label continuing ++ branches merge.label rest) h) [
        | inl g ↦ one s (i ∷ c) header.label n (in_header is_pointer f s c l header control inner next continuing merge rest p) at (Deeper i c within) y g
        | inr g ↦ elim (one_split y (branches next.label continuing) (branches merge.label rest) g) [
          | inl k ↦ led_source w s (record { context = j ∷ c; from = header.label; label = next.label; front = Some next; body = continuing })
              (next_node is_pointer f s c l header control inner next continuing merge rest n p) two (Deeper j c within) y k
          | inr k ↦ led_source w s (record { context = c; from = header.label; label = merge.label; front = Some merge; body = rest })
              (merge_node is_pointer f s c l header control inner next continuing merge rest n p) three within y k
        ]
      ]

  mutual
    pub body_sources : (w : Context) (b : Body) (s : Spot) (c : Context) (l : ℕ) → Node is_pointer f s → Position is_pointer f s c l b → Within w s.context → Within w c → (y : Branching) → OneOf y (branches l b) → Source w y
    body_sources w (Leaves exit) s c l n p at within y (inl e) = here w s c l (Leaves exit) exit y n p at (one_has (exit.target ∷ []) exit.target (inl refl)) e
    body_sources w (Leaves exit) s c l n p at within y (inr h) = absurd h
    body_sources w (Finishes words) s c l n p at within y h = absurd h
    body_sources w (Step words b) s c l n p at within y h = body_sources w b s c l n (stepped is_pointer f s c l words b p) at within y h
    body_sources w (Enters label b) s c l n p at within y h =
        led_source w s (record { context = c; from = l; label = label; front = None; body = b }) (entered_node is_pointer f s c l label b n p) (body_sources w b) within y h
    body_sources w (Splits condition on exit b) s c l n p at within y (inl e) =
        here w s c l (Splits condition on exit b) exit y n p at (split_targets on exit.target (target b) exit.target (inl refl)) e
    body_sources w (Splits condition on exit b) s c l n p at within y (inr h) = body_sources w b s c l n (past_split is_pointer f s c l condition on exit b p) at within y h
    body_sources w (Selects control condition first second merge rest) s c l n p at within y h =
        let i = InSelection merge.label in
        elim (one_split y (branches l first) (branches l second ++ branches merge.label rest) h) [
          | inl g ↦ body_sources w first s (i ∷ c) l n (first_arm is_pointer f s c l control condition first second merge rest p) at (Deeper i c within) y g
          | inr g ↦ elim (one_split y (branches l second) (branches merge.label rest) g) [
            | inl k ↦ body_sources w second s (i ∷ c) l n (second_arm is_pointer f s c l control condition first second merge rest p) at (Deeper i c within) y k
            | inr k ↦ led_source w s (record { context = c; from = l; label = merge.label; front = Some merge; body = rest })
                (selection_node is_pointer f s c l control condition first second merge rest n p) (body_sources w rest) within y k
          ]
        ]
    body_sources w (Switches control selector cases arms merge rest) s c l n p at within y h =
        elim (one_split y (branches_of_arms l arms) (branches merge.label rest) h) [
          | inl g ↦ arms_sources w arms s c l merge.label n (arms_of is_pointer f s c l control selector cases arms merge rest p) at within y g
          | inr g ↦ led_source w s (record { context = c; from = l; label = merge.label; front = Some merge; body = rest })
              (switch_node is_pointer f s c l control selector cases arms merge rest n p) (body_sources w rest) within y g
        ]
    body_sources w (Loops (ByBranch values) header control inner next continuing merge rest) s c l n p at within y (inl e) =
        here w s c l (Loops (ByBranch values) header control inner next continuing merge rest) (record { target = header.label; values = values }) y n p at
        (one_has (header.label ∷ []) header.label (inl refl)) e
    body_sources w (Loops (ByBranch values) header control inner next continuing merge rest) s c l n p at within y (inr h) =
        led_source w s (record { context = c; from = l; label = header.label; front = Some header; body = Loops InPlace header control inner next continuing merge rest })
        (header_node is_pointer f s c l values header control inner next continuing merge rest n p)
        (loop_sources w header control inner next continuing merge rest (body_sources w inner) (body_sources w continuing) (body_sources w rest)) within y h
    body_sources w (Loops InPlace header control inner next continuing merge rest) s c l n p at within y h =
        loop_sources w header control inner next continuing merge rest (body_sources w inner) (body_sources w continuing) (body_sources w rest) s c l n p at within y h

    arms_sources : (w : Context) (arms : Arms) (s : Spot) (c : Context) (l m : ℕ) → Node is_pointer f s → ArmsPosition is_pointer f s c l m arms → Within w s.context → Within w c → (y : Branching) → OneOf y (branches_of_arms l arms)
        → Source w y
    arms_sources w (Last arm) s c l m n p at within y h =
        body_sources w arm s (InArm l m (target arm) ∷ c) l n (last_arm is_pointer f s c l m arm p) at (Deeper (InArm l m (target arm)) c within) y h
    arms_sources w (Also arm arms) s c l m n p at within y h =
        elim (one_split y (branches l arm) (branches_of_arms l arms) h) [
          | inl g ↦ body_sources w arm s (InArm l m (target arm) ∷ c) l n (next_arm is_pointer f s c l m arm arms p) at (Deeper (InArm l m (target arm)) c within) y g
          | inr g ↦ arms_sources w arms s c l m n (arms_behind is_pointer f s c l m arm arms p) at within y g
        ]
