-- Points in the blocks of a sound tree, with what holds there, and what does if it is structured; and blocks that lead to blocks.
use Rattle.std.proofs.Common.{◌≡◌, ℕ, ◌⊎◌, inl, inr, Bool, true, false, cond, List, [], ◌∷◌, ◌++◌, Option, Some, None, refl, sym, ap, ◌∙◌, subst}
use Rattle.spv_blocks.specs.Blocks.{Branch, BranchIf, Switch, Construct, ASelection, ASwitch, ALoop, end_targets, has, merge_of, next_of}
use Rattle.spv_walk.specs.Contexts.{Context, InSelection, InArm, InBody, InNext, behind, next_context}
use Rattle.spv_bodies.specs.Bodies.{Exit, Front, ByBranch, InPlace, Body, Leaves, Finishes, Step, Enters, Splits, Selects, Switches, Loops, Arms, Last, Also, Function, target, begins_at_branch}
use Rattle.spv_bodies.specs.Listing.{Branching, branches, branches_of_arms, first_target}
use Rattle.spv_tree.specs.Branches.{branches_in}
use Rattle.spv_tree.specs.Sound.{IsSound, IsFormed, AreFormed, ArePlaced, ArmsArePlaced, opens, targets}
use Rattle.spv_trees.specs.Standing.{OneOf}
use Rattle.spv_trees.proofs.Members.{one_left, one_right}
use Rattle.spv_structured.specs.Structured.{Flows, ArmsFlow, FrontFits, ParametersFit, ArmsFit, NamesArms, NamesInArms, first_end, IsStructured}
use Rattle.spv_structured.specs.Spots.{Spot, others, others_of_arms, first_spot, spots_in}
use Rattle.spv_structured.proofs.Lists.{has_one, one_has, list_all_at}
use Rattle.spv_structured.proofs.Naming.{unnamed, unnamed_of_arms}

-- the construct that the block opens which a body begins in
abbrev pub construct_in : Body → Option Construct
construct_in (Leaves exit) = None
construct_in (Finishes words) = None
construct_in (Step words body) = construct_in body
construct_in (Enters label body) = None
construct_in (Splits condition on exit body) = None
construct_in (Selects control condition first second merge rest) = Some (ASelection merge.label)
construct_in (Switches control selector cases arms merge rest) = Some (ASwitch merge.label)
construct_in (Loops (ByBranch values) header control inner next continuing merge rest) = None
construct_in (Loops InPlace header control inner next continuing merge rest) = Some (ALoop merge.label next.label)

-- a branch of a terminator: an exit, or one to a block that it enters
pub data Heading : Type 0 where
  Leaving : (label : ℕ) → Heading
  Entering : (label : ℕ) → Heading

abbrev pub heading_to : Heading → ℕ
heading_to (Leaving t) = t
heading_to (Entering t) = t

-- those of the block that a body begins in
abbrev mutual
  pub ways : Body → List Heading
  ways (Leaves exit) = Leaving exit.target ∷ []
  ways (Finishes words) = []
  ways (Step words body) = ways body
  ways (Enters label body) = Entering label ∷ []
  ways (Splits condition on exit body) = Leaving exit.target ∷ ways body
  ways (Selects control condition first second merge rest) = ways first ++ ways second
  ways (Switches control selector cases arms merge rest) = ways_of_arms arms
  ways (Loops (ByBranch values) header control inner next continuing merge rest) = Entering header.label ∷ []
  ways (Loops InPlace header control inner next continuing merge rest) = ways inner

  pub ways_of_arms : Arms → List Heading
  ways_of_arms (Last arm) = ways arm
  ways_of_arms (Also arm arms) = ways arm ++ ways_of_arms arms

pub branch_opens_none : (body : Body) → begins_at_branch body ≡ true → construct_in body ≡ None
branch_opens_none (Leaves exit) e = refl
branch_opens_none (Enters label body) e = refl
branch_opens_none (Loops (ByBranch values) header control inner next continuing merge rest) e = refl
branch_opens_none other e = absurd (cc e)

pub header_opens_none : (body : Body) → opens body ≡ true → construct_in body ≡ None
header_opens_none (Step words body) e = header_opens_none body e
header_opens_none (Splits condition on exit body) e = refl
header_opens_none (Leaves exit) e = refl
header_opens_none (Enters label body) e = refl
header_opens_none (Loops (ByBranch values) header control inner next continuing merge rest) e = refl
header_opens_none other e = absurd (cc e)

pub branch_end : (body : Body) → begins_at_branch body ≡ true → first_end body ≡ Branch (target body)
branch_end (Leaves exit) e = refl
branch_end (Enters label body) e = refl
branch_end (Loops (ByBranch values) header control inner next continuing merge rest) e = refl
branch_end other e = absurd (cc e)

-- the one target of a body that begins at a branch
pub branch_target : (body : Body) (t : ℕ) → begins_at_branch body ≡ true → has (end_targets (first_end body)) t ≡ true → target body ≡ t
branch_target body t begins h = by (has_one (target body ∷ []) t (ap (λ e. has (end_targets e) t) (sym (branch_end body begins)) ∙ h))
  where
    by : OneOf t (target body ∷ []) → target body ≡ t
    by (inl e) = sym e
    by (inr e) = absurd e

pub split_targets : (on : Bool) (exit other t : ℕ) → (t ≡ exit) ⊎ (t ≡ other) → has (end_targets (BranchIf (cond on exit other) (cond on other exit))) t ≡ true
split_targets true exit other t (inl e) = one_has (exit ∷ other ∷ []) t (inl e)
split_targets true exit other t (inr e) = one_has (exit ∷ other ∷ []) t (inr (inl e))
split_targets false exit other t (inl e) = one_has (other ∷ exit ∷ []) t (inr (inl e))
split_targets false exit other t (inr e) = one_has (other ∷ exit ∷ []) t (inl e)

module _ (is_pointer : ℕ → Bool) (f : Function) where
  abbrev pub all : List Branching
  all = branches_in f

  -- A point in the block s, and how its context is that of the block: the construct that the block opens is ahead, or it is passed or there is none. Then the
  -- point is right at a branch, or before the one terminator of a loop's header.
  pub data Stage (s : Spot) (c : Context) (b : Body) : Type 0 where
    Ahead : construct_in b ≡ construct_in s.body → c ≡ s.context → first_end b ≡ first_end s.body → Stage s c b
    Past : construct_in b ≡ None → ((t : ℕ) → has (end_targets (first_end b)) t ≡ true → c ≡ behind (construct_in s.body) s.label t s.context)
        → (begins_at_branch b ≡ true) ⊎ ((opens b ≡ true) × (first_end b ≡ first_end s.body)) → Stage s c b

  -- the body from there on; `front` is the one behind which it begins, if it does
  pub record Position (s : Spot) (c : Context) (l : ℕ) (b : Body) : Type 0 where
    pub label : s.label ≡ l
    pub leads : (t : ℕ) → has (end_targets (first_end b)) t ≡ true → has (end_targets (first_end s.body)) t ≡ true
    pub stage : Stage s c b
    pub formed : IsFormed all b
    pub front : Option Front
    pub placed : ArePlaced front b
    pub at : (header : Front) → front ≡ Some header → (header.label ≡ l) × (s.front ≡ Some header)
    pub flows : IsStructured is_pointer f → Flows c l (first_end s.body) b
    pub fit : IsStructured is_pointer f → ParametersFit is_pointer all b
    pub named : NamesArms b
    pub spots : (x : Spot) → OneOf x (others c l b) → OneOf x (spots_in f)
    pub sends : (x : Branching) → OneOf x (branches l b) → OneOf x (branches s.label s.body)
    pub enters : (t : ℕ) → OneOf t (unnamed b) → OneOf t (unnamed f.body)
    pub outs : (x : Heading) → OneOf x (ways b) → OneOf x (ways s.body)

  -- a block of the tree
  pub record Node (s : Spot) : Type 0 where
    pub member : OneOf s (spots_in f)
    pub within : (x : Branching) → OneOf x (branches s.label s.body) → OneOf x all
    pub fits : (front : Front) → s.front ≡ Some front → (front.label ≡ s.label) × (IsStructured is_pointer f → FrontFits is_pointer all front)
    pub position : Position s s.context s.label s.body

  -- the arms of the switch that the block s opens
  pub record ArmsPosition (s : Spot) (c : Context) (l m : ℕ) (arms : Arms) : Type 0 where
    pub label : s.label ≡ l
    pub leads : (t : ℕ) → OneOf t (targets arms) → has (end_targets (first_end s.body)) t ≡ true
    pub opened : Some (ASwitch m) ≡ construct_in s.body
    pub context : c ≡ s.context
    pub formed : AreFormed all arms
    pub placed : ArmsArePlaced arms
    pub flows : IsStructured is_pointer f → ArmsFlow c l m (first_end s.body) arms
    pub fit : IsStructured is_pointer f → ArmsFit is_pointer all arms
    pub named : NamesInArms arms
    pub spots : (x : Spot) → OneOf x (others_of_arms c l m arms) → OneOf x (spots_in f)
    pub sends : (x : Branching) → OneOf x (branches_of_arms l arms) → OneOf x (branches s.label s.body)
    pub enters : (t : ℕ) → OneOf t (unnamed_of_arms arms) → OneOf t (unnamed f.body)
    pub outs : (x : Heading) → OneOf x (ways_of_arms arms) → OneOf x (ways s.body)

  no_front : (s : Spot) (l : ℕ) (header : Front) → None ≡ Some header → (header.label ≡ l) × (s.front ≡ Some header)
  no_front s l header e = absurd (cc e)

  -- ---- from point to point

  pub stepped : (s : Spot) (c : Context) (l : ℕ) (words : List ℕ) (b : Body) → Position s c l (Step words b) → Position s c l b
  stepped s c l words b p = record {
    label = p.label;
    leads = p.leads;
    stage = by p.stage;
    formed = p.formed.1;
    front = None;
    placed = p.placed;
    at = no_front s l;
    flows = p.flows;
    fit = p.fit;
    named = p.named;
    spots = p.spots;
    sends = p.sends;
    enters = p.enters;
    outs = p.outs;
  }
    where
      by : Stage s c (Step words b) → Stage s c b
      by (Ahead e d g) = Ahead e d g
      by (Past e d (inl o)) = absurd (cc o)
      by (Past e d (inr o)) = Past e d (inr o)

  pub past_split : (s : Spot) (c : Context) (l condition : ℕ) (on : Bool) (exit : Exit) (b : Body) → Position s c l (Splits condition on exit b) → Position s c l b
  past_split s c l condition on exit b p =
      let to : (t : ℕ) → has (end_targets (first_end b)) t ≡ true → has (end_targets (first_end (Splits condition on exit b))) t ≡ true =
      λ t h. split_targets on exit.target (target b) t (inr (sym (branch_target b t p.formed.0 h))) in
      record {
        label = p.label;
        leads = λ t h. p.leads t (to t h);
        stage = by p.stage to (branch_opens_none b p.formed.0);
        formed = p.formed.1;
        front = None;
        placed = p.placed;
        at = no_front s l;
        flows = λ k. (p.flows k).2;
        fit = p.fit;
        named = p.named;
        spots = p.spots;
        sends = λ x h. p.sends x (inr h);
        enters = p.enters;
        outs = λ x h. p.outs x (inr h);
      }
    where
      by : Stage s c (Splits condition on exit b) → ((t : ℕ) → has (end_targets (first_end b)) t ≡ true → has (end_targets (first_end (Splits condition on exit b))) t ≡ true) → construct_in b ≡ None → Stage s c b
      by (Ahead e d g) to none = Past none (λ t h. d ∙ ap (λ k. behind k s.label t s.context) e) (inl p.formed.0)
      by (Past e d o) to none = Past none (λ t h. d t (to t h)) (inl p.formed.0)

  -- a construct that the body begins with is the block's, and the context too
  pub ahead : (s : Spot) (c : Context) (b : Body) (k : Construct) → construct_in b ≡ Some k → Stage s c b
      → (Some k ≡ construct_in s.body) × (c ≡ s.context) × (first_end b ≡ first_end s.body)
  ahead s c b k is (Ahead e d g) = (sym is ∙ e, d, g)
  ahead s c b k is (Past e d o) = absurd (cc (is, e))

  arm_stage : (s : Spot) (c : Context) (m : ℕ) (arm : Body) → begins_at_branch arm ≡ true → Some (ASelection m) ≡ construct_in s.body → c ≡ s.context → Stage s (InSelection m ∷ c) arm
  arm_stage s c m arm begins opened same = Past (branch_opens_none arm begins)
      (λ t h. ap (λ d. InSelection m ∷ d) same ∙ ap (λ k. behind k s.label t s.context) opened) (inl begins)

  pub first_arm : (s : Spot) (c : Context) (l control condition : ℕ) (first second : Body) (merge : Front) (rest : Body) → Position s c l (Selects control condition first second merge rest)
      → Position s (InSelection merge.label ∷ c) l first
  first_arm s c l control condition first second merge rest p =
      let i = InSelection merge.label ∷ c in
      let a = ahead s c (Selects control condition first second merge rest) (ASelection merge.label) refl p.stage in
      record {
        label = p.label;
        leads = λ t h. p.leads t (split_targets true (target first) (target second) t (inl (sym (branch_target first t p.formed.0 h))));
        stage = arm_stage s c merge.label first p.formed.0 a.0 a.1;
        formed = p.formed.3;
        front = None;
        placed = p.placed.0;
        at = no_front s l;
        flows = λ k. (p.flows k).1;
        fit = λ k. (p.fit k).1;
        named = p.named.0;
        spots = λ x h. p.spots x (one_left x (others i l first) (others i l second ++ _) h);
        sends = λ x h. p.sends x (one_left x (branches l first) (branches l second ++ branches merge.label rest) h);
        enters = λ t h. p.enters t (one_left t (unnamed first) (unnamed second ++ unnamed rest) h);
        outs = λ x h. p.outs x (one_left x (ways first) (ways second) h);
      }

  pub second_arm : (s : Spot) (c : Context) (l control condition : ℕ) (first second : Body) (merge : Front) (rest : Body) → Position s c l (Selects control condition first second merge rest)
      → Position s (InSelection merge.label ∷ c) l second
  second_arm s c l control condition first second merge rest p =
      let i = InSelection merge.label ∷ c in
      let a = ahead s c (Selects control condition first second merge rest) (ASelection merge.label) refl p.stage in
      record {
        label = p.label;
        leads = λ t h. p.leads t (split_targets true (target first) (target second) t (inr (sym (branch_target second t p.formed.1 h))));
        stage = arm_stage s c merge.label second p.formed.1 a.0 a.1;
        formed = p.formed.4;
        front = None;
        placed = p.placed.1;
        at = no_front s l;
        flows = λ k. (p.flows k).2;
        fit = λ k. (p.fit k).2;
        named = p.named.1;
        spots = λ x h. p.spots x (one_right x (others i l first) (others i l second ++ _) (one_left x (others i l second) _ h));
        sends = λ x h. p.sends x (one_right x (branches l first) (branches l second ++ branches merge.label rest) (one_left x (branches l second) (branches merge.label rest) h));
        enters = λ t h. p.enters t (one_right t (unnamed first) (unnamed second ++ unnamed rest) (one_left t (unnamed second) (unnamed rest) h));
        outs = λ x h. p.outs x (one_right x (ways first) (ways second) h);
      }

  pub arms_of : (s : Spot) (c : Context) (l control selector : ℕ) (cases : List (ℕ × ℕ)) (arms : Arms) (merge : Front) (rest : Body) → Position s c l (Switches control selector cases arms merge rest)
      → ArmsPosition s c l merge.label arms
  arms_of s c l control selector cases arms merge rest p =
      let a = ahead s c (Switches control selector cases arms merge rest) (ASwitch merge.label) refl p.stage in
      record {
        label = p.label;
        leads = λ t h. p.leads t (list_all_at (has (end_targets (Switch (first_target arms) cases))) (targets arms) p.named.0 t h);
        opened = a.0;
        context = a.1;
        formed = p.formed.2;
        placed = p.placed.0;
        flows = λ k. (p.flows k).1;
        fit = λ k. (p.fit k).1;
        named = p.named.1;
        spots = λ x h. p.spots x (one_left x (others_of_arms c l merge.label arms) _ h);
        sends = λ x h. p.sends x (one_left x (branches_of_arms l arms) (branches merge.label rest) h);
        enters = λ t h. p.enters t (one_left t (unnamed_of_arms arms) (unnamed rest) h);
        outs = p.outs;
      }

  case_stage : (s : Spot) (c : Context) (l m : ℕ) (arm : Body) → begins_at_branch arm ≡ true → s.label ≡ l → Some (ASwitch m) ≡ construct_in s.body → c ≡ s.context → Stage s (InArm l m (target arm) ∷ c) arm
  case_stage s c l m arm begins label opened same =
      Past (branch_opens_none arm begins)
      (λ t h. ap (λ d. InArm l m (target arm) ∷ d) same ∙ ap (λ a. InArm l m a ∷ s.context) (branch_target arm t begins h) ∙ ap (λ z. InArm z m t ∷ s.context) (sym label)
      ∙ ap (λ k. behind k s.label t s.context) opened) (inl begins)

  pub last_arm : (s : Spot) (c : Context) (l m : ℕ) (arm : Body) → ArmsPosition s c l m (Last arm) → Position s (InArm l m (target arm) ∷ c) l arm
  last_arm s c l m arm p = record {
    label = p.label;
    leads = λ t h. p.leads t (inl (sym (branch_target arm t p.formed.0 h)));
    stage = case_stage s c l m arm p.formed.0 p.label p.opened p.context;
    formed = p.formed.1;
    front = None;
    placed = p.placed;
    at = no_front s l;
    flows = p.flows;
    fit = p.fit;
    named = p.named;
    spots = p.spots;
    sends = p.sends;
    enters = p.enters;
    outs = p.outs;
  }

  pub next_arm : (s : Spot) (c : Context) (l m : ℕ) (arm : Body) (arms : Arms) → ArmsPosition s c l m (Also arm arms) → Position s (InArm l m (target arm) ∷ c) l arm
  next_arm s c l m arm arms p = record {
    label = p.label;
    leads = λ t h. p.leads t (inl (sym (branch_target arm t p.formed.0 h)));
    stage = case_stage s c l m arm p.formed.0 p.label p.opened p.context;
    formed = p.formed.1;
    front = None;
    placed = p.placed.0;
    at = no_front s l;
    flows = λ k. (p.flows k).0;
    fit = λ k. (p.fit k).0;
    named = p.named.0;
    spots = λ x h. p.spots x (one_left x (others (InArm l m (target arm) ∷ c) l arm) (others_of_arms c l m arms) h);
    sends = λ x h. p.sends x (one_left x (branches l arm) (branches_of_arms l arms) h);
    enters = λ t h. p.enters t (one_left t (unnamed arm) (unnamed_of_arms arms) h);
    outs = λ x h. p.outs x (one_left x (ways arm) (ways_of_arms arms) h);
  }

  pub arms_behind : (s : Spot) (c : Context) (l m : ℕ) (arm : Body) (arms : Arms) → ArmsPosition s c l m (Also arm arms) → ArmsPosition s c l m arms
  arms_behind s c l m arm arms p = record {
    label = p.label;
    leads = λ t h. p.leads t (inr h);
    opened = p.opened;
    context = p.context;
    formed = p.formed.2;
    placed = p.placed.1;
    flows = λ k. (p.flows k).1;
    fit = λ k. (p.fit k).1;
    named = p.named.1;
    spots = λ x h. p.spots x (one_right x (others (InArm l m (target arm) ∷ c) l arm) (others_of_arms c l m arms) h);
    sends = λ x h. p.sends x (one_right x (branches l arm) (branches_of_arms l arms) h);
    enters = λ t h. p.enters t (one_right t (unnamed arm) (unnamed_of_arms arms) h);
    outs = λ x h. p.outs x (one_right x (ways arm) (ways_of_arms arms) h);
  }

  -- the header of a loop in place is the block itself
  pub header_here : (s : Spot) (c : Context) (l : ℕ) (header : Front) (control : ℕ) (inner : Body) (next : Front) (continuing : Body) (merge : Front) (rest : Body)
      → Position s c l (Loops InPlace header control inner next continuing merge rest) → s.label ≡ header.label
  header_here s c l header control inner next continuing merge rest p = p.label ∙ sym (p.at header p.placed.0).0

  -- which is a front
  pub header_front : (s : Spot) (c : Context) (l : ℕ) (header : Front) (control : ℕ) (inner : Body) (next : Front) (continuing : Body) (merge : Front) (rest : Body)
      → Position s c l (Loops InPlace header control inner next continuing merge rest) → s.front ≡ Some header
  header_front s c l header control inner next continuing merge rest p = (p.at header p.placed.0).1

  pub in_header : (s : Spot) (c : Context) (l : ℕ) (header : Front) (control : ℕ) (inner : Body) (next : Front) (continuing : Body) (merge : Front) (rest : Body)
      → Position s c l (Loops InPlace header control inner next continuing merge rest) → Position s (InBody header.label merge.label next.label ∷ c) header.label inner
  in_header s c l header control inner next continuing merge rest p =
      let loop = Loops InPlace header control inner next continuing merge rest in
      let i = InBody header.label merge.label next.label ∷ c in
      let here = header_here s c l header control inner next continuing merge rest p in
      let a = ahead s c loop (ALoop merge.label next.label) refl p.stage in
      record {
        label = here;
        leads = p.leads;
        stage = Past (header_opens_none inner p.formed.0)
            (λ t h. ap (λ d. InBody header.label merge.label next.label ∷ d) a.1 ∙ ap (λ z. InBody z merge.label next.label ∷ s.context) (sym here)
            ∙ ap (λ k. behind k s.label t s.context) a.0) (inr (p.formed.0, a.2));
        formed = p.formed.4;
        front = None;
        placed = p.placed.1;
        at = no_front s header.label;
        flows = λ k. subst (λ e. Flows i header.label e inner) a.2 (p.flows k).1;
        fit = λ k. (p.fit k).3;
        named = p.named.0;
        spots = λ x h. p.spots x (one_left x (others i header.label inner) _ h);
        sends = λ x h. p.sends x (one_left x (branches header.label inner) (branches next.label continuing ++ branches merge.label rest) h);
        enters = λ t h. p.enters t (one_left t (unnamed inner) (unnamed continuing ++ unnamed rest) h);
        outs = p.outs;
      }

  -- ---- from block to block

  -- a target of the block s that is entered
  pub record Going (s r : Spot) : Type 0 where
    pub goes : has (end_targets (first_end s.body)) r.label ≡ true
    pub inside : r.context ≡ behind (construct_in s.body) s.label r.label s.context
    pub entered : OneOf r.label (unnamed f.body)
    pub way_on : OneOf (Entering r.label) (ways s.body)
    pub carries : (front : Front) → r.front ≡ Some front → (x : Exit) × OneOf (s.label, x) (branches s.label s.body) × (x.target ≡ r.label)

  pub data Way (s r : Spot) : Type 0 where
    Goes : Going s r → Way s r
    Merges : merge_of (construct_in s.body) ≡ Some r.label → r.context ≡ s.context → Way s r
    Continues : next_of (construct_in s.body) ≡ Some r.label → r.context ≡ next_context (construct_in s.body) s.label s.context → Way s r

  -- the block s leads to r
  pub record Child (s r : Spot) : Type 0 where
    pub from : r.from ≡ s.label
    pub sends : (x : Branching) → OneOf x (branches r.label r.body) → OneOf x (branches s.label s.body)
    pub way : Way s r

  pub record Led (s r : Spot) : Type 0 where
    pub node : Node r
    pub child : Child s r

  -- the context at a branch
  pub context_at : (s : Spot) (c : Context) (b : Body) (t : ℕ) → construct_in b ≡ None → has (end_targets (first_end b)) t ≡ true → Stage s c b → c ≡ behind (construct_in s.body) s.label t s.context
  context_at s c b t none h (Ahead e d g) = d ∙ ap (λ k. behind k s.label t s.context) (sym none ∙ e)
  context_at s c b t none h (Past e d o) = d t h

  pub entered_going : (s : Spot) (c : Context) (l label : ℕ) (b : Body) → Position s c l (Enters label b) → Going s (record { context = c; from = l; label = label; front = None; body = b })
  entered_going s c l label b p = record {
    goes = p.leads label (one_has (label ∷ []) label (inl refl));
    inside = context_at s c (Enters label b) label refl (one_has (label ∷ []) label (inl refl)) p.stage;
    entered = p.enters label (inl refl);
    way_on = p.outs (Entering label) (inl refl);
    carries = λ front e. absurd (cc e);
  }

  pub entered_node : (s : Spot) (c : Context) (l label : ℕ) (b : Body) → Node s → Position s c l (Enters label b) → Led s (record { context = c; from = l; label = label; front = None; body = b })
  entered_node s c l label b n p = record {
    node = record {
      member = p.spots (record { context = c; from = l; label = label; front = None; body = b }) (inl refl);
      within = λ x h. n.within x (p.sends x h);
      fits = λ front e. absurd (cc e);
      position = record {
        label = refl;
        leads = λ t h. h;
        stage = Ahead refl refl refl;
        formed = p.formed;
        front = None;
        placed = p.placed;
        at = no_front (record { context = c; from = l; label = label; front = None; body = b }) label;
        flows = p.flows;
        fit = p.fit;
        named = p.named;
        spots = λ x h. p.spots x (inr h);
        sends = λ x h. h;
        enters = λ t h. p.enters t (inr h);
        outs = λ x h. h;
      };
    };
    child = record {
      from = sym p.label;
      sends = p.sends;
      way = Goes (entered_going s c l label b p);
    };
  }

  pub header_going : (s : Spot) (c : Context) (l : ℕ) (values : List ℕ) (header : Front) (control : ℕ) (inner : Body) (next : Front) (continuing : Body) (merge : Front) (rest : Body)
      → Position s c l (Loops (ByBranch values) header control inner next continuing merge rest)
      → Going s (record { context = c; from = l; label = header.label; front = Some header; body = Loops InPlace header control inner next continuing merge rest })
  header_going s c l values header control inner next continuing merge rest p =
      let exit : Exit = record { target = header.label; values = values } in
      let here = one_has (header.label ∷ []) header.label (inl refl) in
      record {
        goes = p.leads header.label here;
        inside = context_at s c (Loops (ByBranch values) header control inner next continuing merge rest) header.label refl here p.stage;
        entered = p.enters header.label (inl refl);
        way_on = p.outs (Entering header.label) (inl refl);
        carries = λ front e. (exit, p.sends (s.label, exit) (inl (ap (λ z. (z, exit)) p.label)), refl);
      }

  pub header_node : (s : Spot) (c : Context) (l : ℕ) (values : List ℕ) (header : Front) (control : ℕ) (inner : Body) (next : Front) (continuing : Body) (merge : Front) (rest : Body) → Node s
      → Position s c l (Loops (ByBranch values) header control inner next continuing merge rest)
      → Led s (record { context = c; from = l; label = header.label; front = Some header; body = Loops InPlace header control inner next continuing merge rest })
  header_node s c l values header control inner next continuing merge rest n p =
      let loop = Loops InPlace header control inner next continuing merge rest in
      record {
        node = record {
          member = p.spots (record { context = c; from = l; label = header.label; front = Some header; body = loop }) (inl refl);
          within = λ x h. n.within x (p.sends x (inr h));
          fits = λ front e. subst (λ z. (z.label ≡ header.label) × (IsStructured is_pointer f → FrontFits is_pointer all z))
              (let h : header ≡ front = cc e in h) (refl, (λ k. (p.fit k).0));
          position = record {
            label = refl;
            leads = λ t h. h;
            stage = Ahead refl refl refl;
            formed = p.formed;
            front = Some header;
            placed = (refl, p.placed.1, p.placed.2, p.placed.3);
            at = λ front e. (ap (λ z. z.label) (let h : front ≡ header = cc e in h), e);
            flows = p.flows;
            fit = p.fit;
            named = p.named;
            spots = λ x h. p.spots x (inr h);
            sends = λ x h. h;
            enters = λ t h. p.enters t (inr h);
            outs = λ x h. h;
          };
        };
        child = record {
          from = sym p.label;
          sends = λ x h. p.sends x (inr h);
          way = Goes (header_going s c l values header control inner next continuing merge rest p);
        };
      }

  -- a merge block or continue target, given what holds of it in the tree
  part_node : (s : Spot) (c : Context) (l : ℕ) (front : Front) (b : Body) → Node s
      → OneOf (record { context = c; from = l; label = front.label; front = Some front; body = b }) (spots_in f) → ((x : Branching) → OneOf x (branches front.label b) → OneOf x (branches s.label s.body))
      → (IsStructured is_pointer f → FrontFits is_pointer all front) → IsFormed all b → ArePlaced (Some front) b →
      (IsStructured is_pointer f → Flows c front.label (first_end b) b)
      → (IsStructured is_pointer f → ParametersFit is_pointer all b) → NamesArms b
      → ((x : Spot) → OneOf x (others c front.label b) → OneOf x (spots_in f)) → ((t : ℕ) → OneOf t (unnamed b) → OneOf t (unnamed f.body))
      → Node (record { context = c; from = l; label = front.label; front = Some front; body = b })
  part_node s c l front b n member sends fits formed placed flows fit named spots enters = record {
    member = member;
    within = λ x h. n.within x (sends x h);
    fits = λ other e. subst (λ z. (z.label ≡ front.label) × (IsStructured is_pointer f → FrontFits is_pointer all z)) (let h : front ≡ other = cc e in h)
        (refl, fits);
    position = record {
      label = refl;
      leads = λ t h. h;
      stage = Ahead refl refl refl;
      formed = formed;
      front = Some front;
      placed = placed;
      at = λ other e. (ap (λ z. z.label) (let h : other ≡ front = cc e in h), e);
      flows = flows;
      fit = fit;
      named = named;
      spots = spots;
      sends = λ x h. h;
      enters = enters;
      outs = λ x h. h;
    };
  }

  pub selection_node : (s : Spot) (c : Context) (l control condition : ℕ) (first second : Body) (merge : Front) (rest : Body) → Node s → Position s c l (Selects control condition first second merge rest)
      → Led s (record { context = c; from = l; label = merge.label; front = Some merge; body = rest })
  selection_node s c l control condition first second merge rest n p =
      let i = InSelection merge.label ∷ c in
      let r : Spot = record { context = c; from = l; label = merge.label; front = Some merge; body = rest } in
      let a = ahead s c (Selects control condition first second merge rest) (ASelection merge.label) refl p.stage in
      let there = λ (x : Spot) (h : OneOf x (r ∷ others c merge.label rest)).
      p.spots x (one_right x (others i l first) (others i l second ++ (r ∷ others c merge.label rest)) (one_right x (others i l second) (r ∷ others c merge.label rest) h)) in
      let sends = λ (x : Branching) (h : OneOf x (branches merge.label rest)).
      p.sends x (one_right x (branches l first) (branches l second ++ branches merge.label rest) (one_right x (branches l second) (branches merge.label rest) h)) in
      record {
        node = part_node s c l merge rest n (there r (inl refl)) sends (λ k. (p.fit k).0) p.formed.5 p.placed.2 (λ k. (p.flows k).3)
            (λ k. (p.fit k).3) p.named.2 (λ x h. there x (inr h))
            (λ t h. p.enters t (one_right t (unnamed first) (unnamed second ++ unnamed rest) (one_right t (unnamed second) (unnamed rest) h)));
        child = record { from = sym p.label; sends = sends; way = Merges (ap merge_of (sym a.0)) a.1 };
      }

  pub switch_node : (s : Spot) (c : Context) (l control selector : ℕ) (cases : List (ℕ × ℕ)) (arms : Arms) (merge : Front) (rest : Body) → Node s → Position s c l (Switches control selector cases arms merge rest)
      → Led s (record { context = c; from = l; label = merge.label; front = Some merge; body = rest })
  switch_node s c l control selector cases arms merge rest n p =
      let r : Spot = record { context = c; from = l; label = merge.label; front = Some merge; body = rest } in
      let a = ahead s c (Switches control selector cases arms merge rest) (ASwitch merge.label) refl p.stage in
      let there = λ (x : Spot) (h : OneOf x (r ∷ others c merge.label rest)). p.spots x (one_right x (others_of_arms c l merge.label arms) (r ∷ others c merge.label rest) h) in
      let sends = λ (x : Branching) (h : OneOf x (branches merge.label rest)). p.sends x (one_right x (branches_of_arms l arms) (branches merge.label rest) h) in
      record {
        node = part_node s c l merge rest n (there r (inl refl)) sends (λ k. (p.fit k).0) p.formed.3 p.placed.1 (λ k. (p.flows k).2)
            (λ k. (p.fit k).2) p.named.2 (λ x h. there x (inr h))
            (λ t h. p.enters t (one_right t (unnamed_of_arms arms) (unnamed rest) h));
        child = record { from = sym p.label; sends = sends; way = Merges (ap merge_of (sym a.0)) a.1 };
      }

  -- the continue target of a loop, and its merge block
  pub next_node : (s : Spot) (c : Context) (l : ℕ) (header : Front) (control : ℕ) (inner : Body) (next : Front) (continuing : Body) (merge : Front) (rest : Body) → Node s
      → Position s c l (Loops InPlace header control inner next continuing merge rest)
      → Led s (record { context = InNext header.label merge.label ∷ c; from = header.label; label = next.label; front = Some next; body = continuing })
  next_node s c l header control inner next continuing merge rest n p =
      let i = InBody header.label merge.label next.label ∷ c in
      let j = InNext header.label merge.label ∷ c in
      let q : Spot = record { context = j; from = header.label; label = next.label; front = Some next; body = continuing } in
      let r : Spot = record { context = c; from = header.label; label = merge.label; front = Some merge; body = rest } in
      let here = header_here s c l header control inner next continuing merge rest p in
      let a = ahead s c (Loops InPlace header control inner next continuing merge rest) (ALoop merge.label next.label) refl p.stage in
      let last = r ∷ others c merge.label rest in
      let there = λ (x : Spot) (h : OneOf x (q ∷ others j next.label continuing)).
      p.spots x (one_right x (others i header.label inner) (q ∷ (others j next.label continuing ++ last)) (one_left x (q ∷ others j next.label continuing) last h)) in
      let sends = λ (x : Branching) (h : OneOf x (branches next.label continuing)).
      p.sends x (one_right x (branches header.label inner) (branches next.label continuing ++ branches merge.label rest) (one_left x (branches next.label continuing) (branches merge.label rest) h)) in
      record {
        node = part_node s j header.label next continuing n (there q (inl refl)) sends (λ k. (p.fit k).1) p.formed.5 p.placed.2 (λ k. (p.flows k).2)
            (λ k. (p.fit k).4) p.named.1 (λ x h. there x (inr h))
            (λ t h. p.enters t (one_right t (unnamed inner) (unnamed continuing ++ unnamed rest) (one_left t (unnamed continuing) (unnamed rest) h)));
        child = record {
          from = sym here;
          sends = sends;
          way = Continues (ap next_of (sym a.0))
              (ap (λ d. InNext header.label merge.label ∷ d) a.1 ∙ ap (λ z. InNext z merge.label ∷ s.context) (sym here) ∙ ap (λ k. next_context k s.label s.context) a.0);
        };
      }

  pub merge_node : (s : Spot) (c : Context) (l : ℕ) (header : Front) (control : ℕ) (inner : Body) (next : Front) (continuing : Body) (merge : Front) (rest : Body) → Node s
      → Position s c l (Loops InPlace header control inner next continuing merge rest)
      → Led s (record { context = c; from = header.label; label = merge.label; front = Some merge; body = rest })
  merge_node s c l header control inner next continuing merge rest n p =
      let i = InBody header.label merge.label next.label ∷ c in
      let j = InNext header.label merge.label ∷ c in
      let q : Spot = record { context = j; from = header.label; label = next.label; front = Some next; body = continuing } in
      let r : Spot = record { context = c; from = header.label; label = merge.label; front = Some merge; body = rest } in
      let here = header_here s c l header control inner next continuing merge rest p in
      let a = ahead s c (Loops InPlace header control inner next continuing merge rest) (ALoop merge.label next.label) refl p.stage in
      let last = r ∷ others c merge.label rest in
      let there = λ (x : Spot) (h : OneOf x last).
      p.spots x (one_right x (others i header.label inner) (q ∷ (others j next.label continuing ++ last)) (inr (one_right x (others j next.label continuing) last h))) in
      let sends = λ (x : Branching) (h : OneOf x (branches merge.label rest)).
      p.sends x (one_right x (branches header.label inner) (branches next.label continuing ++ branches merge.label rest) (one_right x (branches next.label continuing) (branches merge.label rest) h)) in
      record {
        node = part_node s c header.label merge rest n (there r (inl refl)) sends (λ k. (p.fit k).2) p.formed.6 p.placed.3 (λ k. (p.flows k).4)
            (λ k. (p.fit k).5) p.named.2 (λ x h. there x (inr h))
            (λ t h. p.enters t (one_right t (unnamed inner) (unnamed continuing ++ unnamed rest) (one_right t (unnamed continuing) (unnamed rest) h)));
        child = record { from = sym here; sends = sends; way = Merges (ap merge_of (sym a.0)) a.1 };
      }

  -- the first block
  pub first_node : IsSound f → NamesArms f.body → Node (first_spot f)
  first_node sound arms = record {
    member = inl refl;
    within = λ x h. h;
    fits = λ front e. absurd (cc e);
    position = record {
      label = refl;
      leads = λ t h. h;
      stage = Ahead refl refl refl;
      formed = sound.formed;
      front = None;
      placed = sound.placed;
      at = no_front (first_spot f) f.label;
      flows = λ k. k.flows;
      fit = λ k. k.parameters;
      named = arms;
      spots = λ x h. inr h;
      sends = λ x h. h;
      enters = λ t h. h;
      outs = λ x h. h;
    };
  }
