-- What holds of a sound tree, whatever its arms: which branches its listing shows, which blocks stand behind its fronts, where its arms are that no case names,
-- and which constructs lie round a block. By one induction on the body.
use Rattle.std.proofs.Common.{◌≡◌, ℕ, ◌⊎◌, inl, inr, Bool, true, false, ◌==◌, not, cond, nat_eq, List, [], ◌∷◌, ◌++◌, Option, Some, None, refl, sym, ap, ◌∙◌, subst}
use Rattle.std.specs.Prelude.{All, Contains}
use Rattle.std.specs.List.{AllByRecursion, IsDistinct}
use Rattle.std.proofs.lemmas.Bool.{eqb-true}
use Rattle.spv_opcodes.specs.declared.op.TheConstants as op
use Rattle.spv_blocks.specs.Blocks.{ASelection, ASwitch, ALoop, merge_of, next_of, Branch, BranchIf, Switch, end_targets, has, seconds}
use Rattle.spv_walk.specs.Contexts.{Context, InSelection, InArm, InBody, InNext}
use Rattle.spv_walk.proofs.Unique.{either_holds, both_fail, not_true, truth_apart}
use Rattle.spv_bodies.specs.Bodies.{Front, ByBranch, InPlace, Body, Leaves, Finishes, Step, Enters, Splits, Selects, Switches, Loops, Arms, Last, Also, Function, target, begins_at_branch}
use Rattle.spv_bodies.specs.Listing.{Branching, branches, branches_of_arms, first_target}
use Rattle.spv_tree.specs.Branches.{branches_in}
use Rattle.spv_tree.specs.Sound.{IsSound, IsFormed, AreFormed, ArePlaced, ArmsArePlaced, opcode_in, targets, entered, entered_of_arms, opens}
use Rattle.spv_trees.specs.Standing.{OneOf, IsClosed, AreClosed}
use Rattle.spv_trees.proofs.Members.{one_left, one_right}
use Rattle.spv_structured.specs.Structured.{first_end}
use Rattle.spv_structured.specs.Spots.{Spot, others, others_of_arms, first_spot, spots_in}
use Rattle.spv_structured.proofs.Lists.{one_split, all_at, contained, filter_from, has_one, one_has}
use Rattle.spv_structured.proofs.Naming.{unnamed, unnamed_of_arms}
use Rattle.spv_structured.proofs.Positions.{branch_end, construct_in}
use Rattle.spv_unbroken.specs.Pruned.{EachUnseen, EachUnseenIn, is_named, arm_list, behind_default, unseen}

-- this holds of each front of a body
abbrev mutual
  pub EachFront : (Front → Type 0) → Body → Type 0
  EachFront P (Leaves exit) = Unit {0}
  EachFront P (Finishes words) = Unit {0}
  EachFront P (Step words body) = EachFront P body
  EachFront P (Enters label body) = EachFront P body
  EachFront P (Splits condition on exit body) = EachFront P body
  EachFront P (Selects control condition first second merge rest) = P merge × EachFront P first × EachFront P second × EachFront P rest
  EachFront P (Switches control selector cases arms merge rest) = P merge × EachFrontIn P arms × EachFront P rest
  EachFront P (Loops entry header control inner next continuing merge rest) =
      P header × P next × P merge × EachFront P inner × EachFront P continuing × EachFront P rest

  pub EachFrontIn : (Front → Type 0) → Arms → Type 0
  EachFrontIn P (Last arm) = EachFront P arm
  EachFrontIn P (Also arm arms) = EachFront P arm × EachFrontIn P arms

-- ---- arms

-- an arm that no case names, and is not the default's, is no target of its switch
pub hidden_arm : (cases : List (ℕ × ℕ)) (arms : Arms) (arm : Body) → IsDistinct nat_eq (targets arms) → OneOf arm (unseen cases arms)
    → has (end_targets (Switch (first_target arms) cases)) (target arm) ≡ false
unfolding IsDistinct
hidden_arm cases (Last first) arm d h = absurd h
hidden_arm cases (Also first arms) arm d h =
    let r = filter_from (λ a. not (is_named cases a)) arm (arm_list arms) h in
    both_fail (target first == target arm) (has (seconds cases) (target arm)) (others arms d.0 r.0) (not_true (has (seconds cases) (target arm)) r.1)
  where
    others : (arms : Arms) → AllByRecursion (λ y. nat_eq (target first) y ≡ false) (targets arms) → OneOf arm (arm_list arms)
        → (target first == target arm) ≡ false
    others (Last a) e (inl k) = ap (λ b. target first == target b) k ∙ e.0
    others (Last a) e (inr k) = absurd k
    others (Also a tail) e (inl k) = ap (λ b. target first == target b) k ∙ e.0
    others (Also a tail) e (inr k) = others tail e.1 k

pub each_of : {X : Type 0} (P : X → Type 0) (xs : List X) → ((x : X) → OneOf x xs → P x) → AllByRecursion P xs
each_of P [] h = tt
each_of P (x ∷ xs) h = (h x (inl refl), each_of P xs (λ y k. h y (inr k)))

pub behind_in : (arms : Arms) (arm : Body) → OneOf arm (behind_default arms) → OneOf arm (arm_list arms)
behind_in (Last a) arm h = absurd h
behind_in (Also a arms) arm h = inr h

no_end : (words : List ℕ) (t : ℕ) → has (end_targets (Rattle.spv_structured.specs.Structured.finish words)) t ≡ true → ⊥
no_end words t h = by (opcode_in words == op.UNREACHABLE) h
  where
    by : (b : Bool) → has (end_targets (cond b Rattle.spv_blocks.specs.Blocks.Unreachable Rattle.spv_blocks.specs.Blocks.Return)) t ≡ true → ⊥
    by true e = absurd (cc e)
    by false e = absurd (cc e)

-- the targets of an OpSwitch are those of its arms
switch_targets : (cases : List (ℕ × ℕ)) (arms : Arms) (t : ℕ) → All (λ case. Contains (targets arms) case.1) cases
    → has (end_targets (Switch (first_target arms) cases)) t ≡ true → OneOf t (targets arms)
switch_targets cases arms t named h = elim (either_holds (first_target arms == t) (has (seconds cases) t) h) [
  | inl e ↦ first arms (eqb-true (first_target arms) t e)
  | inr g ↦ by_case cases (λ case k. all_at (λ (c : ℕ × ℕ). Contains (targets arms) c.1) cases named case k) (has_one (seconds cases) t g)
]
  where
    first : (arms : Arms) → first_target arms ≡ t → OneOf t (targets arms)
    first (Last arm) e = inl (sym e)
    first (Also arm arms) e = inl (sym e)

    by_case : (cs : List (ℕ × ℕ)) → ((case : ℕ × ℕ) → OneOf case cs → Contains (targets arms) case.1) → OneOf t (seconds cs) → OneOf t (targets arms)
    by_case [] g k = absurd k
    by_case (c ∷ cs) g (inl e) = subst (λ z. OneOf z (targets arms)) (sym e) (contained (targets arms) c.1 (g c (inl refl)))
    by_case (c ∷ cs) g (inr k) = by_case cs (λ case j. g case (inr j)) k

single : (a t : ℕ) → has (a ∷ []) t ≡ true → t ≡ a
single a t h = by (has_one (a ∷ []) t h)
  where
    by : OneOf t (a ∷ []) → t ≡ a
    by (inl e) = e
    by (inr e) = absurd e

split_from : (on : Bool) (a b t : ℕ) → has (end_targets (BranchIf (cond on a b) (cond on b a))) t ≡ true → (t ≡ a) ⊎ (t ≡ b)
split_from true a b t h = by (has_one (a ∷ b ∷ []) t h)
  where
    by : OneOf t (a ∷ b ∷ []) → (t ≡ a) ⊎ (t ≡ b)
    by (inl e) = inl e
    by (inr (inl e)) = inr e
    by (inr (inr e)) = absurd e
split_from false a b t h = by (has_one (b ∷ a ∷ []) t h)
  where
    by : OneOf t (b ∷ a ∷ []) → (t ≡ a) ⊎ (t ≡ b)
    by (inl e) = inr e
    by (inr (inl e)) = inl e
    by (inr (inr e)) = absurd e

at_branch : (b : Body) (t : ℕ) → begins_at_branch b ≡ true → t ≡ target b → has (end_targets (first_end b)) t ≡ true
at_branch b t begins e = ap (λ z. has (end_targets z) t) (branch_end b begins) ∙ one_has (target b ∷ []) t (inl e)

abbrev pub In : {X : Type 0} → List X → List X → Type 0
In {X} xs ys = (x : X) → OneOf x xs → OneOf x ys

-- the tree leads from the block k to another
pub data From (spots : List Spot) (k : Spot) : Spot → Type 0 where
  Itself : From spots k k
  Onward : (q r : Spot) → From spots k q → OneOf r spots → r.from ≡ q.label → From spots k r

pub beyond : (spots : List Spot) (h k q : Spot) → From spots h k → From spots k q → From spots h q
beyond spots h k q first Itself = first
beyond spots h k q first (Onward p r more member from) = Onward p r (beyond spots h k p first more) member from

module _ (f : Function) where
  abbrev pub all : List Branching
  all = branches_in f

  -- a block that merge instructions name: the construct of k does
  pub record Names (k p : Spot) : Type 0 where
    pub member : OneOf k (spots_in f)
    pub from : p.from ≡ k.label
    pub formed : IsFormed all k.body
    pub named : (merge_of (construct_in k.body) ≡ Some p.label) ⊎ (next_of (construct_in k.body) ≡ Some p.label)

  -- t is the label of a construct round the block s: it is that of its header, or of what its head names
  pub record Around (s : Spot) (t : ℕ) : Type 0 where
    pub head : Spot
    pub under : From (spots_in f) head s
    pub spot : Spot
    pub member : OneOf spot (spots_in f)
    pub label : spot.label ≡ t
    pub is : (spot ≡ head) ⊎ Names head spot

  -- a branch with values goes from the block s to the label, or the block enters it
  abbrev pub Sent : Spot → (t : ℕ) → Type 0
  Sent s t =
      ((x : Branching) × OneOf x all × (x.1.target ≡ t) × ((functions : ℕ → Option Function) → IsClosed functions [] f.body → Around s t))
      ⊎ ((r : Spot) × OneOf r (spots_in f) × (r.label ≡ t) × (r.from ≡ s.label))

  -- so it is of each target of a block
  abbrev pub Shows : Spot → Type 0
  Shows q = (t : ℕ) → has (end_targets (first_end q.body)) t ≡ true → Sent q t

  -- and a block is entered, or a merge instruction names it
  pub record IsKnown (q : Spot) : Type 0 where
    pub shows : Shows q
    pub parent : OneOf q.label (unnamed f.body) ⊎ ((k : Spot) × Names k q)

  -- a front stands in front of a block
  pub record FrontSpot (front : Front) : Type 0 where
    pub spot : Spot
    pub member : OneOf spot (spots_in f)
    pub label : spot.label ≡ front.label
    pub is : spot.front ≡ Some front

  -- an arm in the block l
  pub record Held (l : ℕ) (arm : Body) : Type 0 where
    pub context : Context
    pub begins : begins_at_branch arm ≡ true
    pub blocks : In (others context l arm) (spots_in f)
    pub sends : In (branches l arm) all
    pub plain : In (entered arm) (entered f.body)
    pub enters : In (unnamed arm) (unnamed f.body)

  -- one that its block does not branch to
  pub record UnseenArm (arm : Body) : Type 0 where
    pub spot : Spot
    pub member : OneOf spot (spots_in f)
    pub held : Held spot.label arm
    pub hidden : has (end_targets (first_end spot.body)) (target arm) ≡ false

  -- the body from a point in the block s on
  pub record At (s : Spot) (c : Context) (l : ℕ) (b : Body) : Type 0 where
    pub label : s.label ≡ l
    pub member : OneOf s (spots_in f)
    pub whole : begins_at_branch b ≡ false → first_end b ≡ first_end s.body
    pub stage : (opens b ≡ true) ⊎ (construct_in b ≡ construct_in s.body)
    pub labels : List ℕ
    pub closed : (functions : ℕ → Option Function) → IsClosed functions [] f.body → IsClosed functions labels b
    pub around : (t : ℕ) → OneOf t labels → Around s t
    pub of_block : IsFormed all s.body
    pub formed : IsFormed all b
    pub front : Option Front
    pub placed : ArePlaced front b
    pub header : (header : Front) → front ≡ Some header → (header.label ≡ l) × (s.front ≡ Some header)
    pub blocks : In (others c l b) (spots_in f)
    pub sends : In (branches l b) all
    pub plain : In (entered b) (entered f.body)
    pub enters : In (unnamed b) (unnamed f.body)

  pub record Survey (s : Spot) (c : Context) (l : ℕ) (b : Body) : Type 0 where
    pub unseen : EachUnseen UnseenArm b
    pub fronts : EachFront FrontSpot b
    pub here : (t : ℕ) → has (end_targets (first_end b)) t ≡ true → Sent s t
    pub there : (q : Spot) → OneOf q (others c l b) → IsKnown q

  -- the same of the arms of a switch
  pub record ArmsAt (s : Spot) (c : Context) (l m : ℕ) (arms : Arms) : Type 0 where
    pub label : s.label ≡ l
    pub member : OneOf s (spots_in f)
    pub labels : List ℕ
    pub closed : (functions : ℕ → Option Function) → IsClosed functions [] f.body → AreClosed functions labels arms
    pub around : (t : ℕ) → OneOf t labels → Around s t
    pub of_block : IsFormed all s.body
    pub formed : AreFormed all arms
    pub placed : ArmsArePlaced arms
    pub blocks : In (others_of_arms c l m arms) (spots_in f)
    pub sends : In (branches_of_arms l arms) all
    pub plain : In (entered_of_arms arms) (entered f.body)
    pub enters : In (unnamed_of_arms arms) (unnamed f.body)

  pub record ArmsSurvey (s : Spot) (c : Context) (l m : ℕ) (arms : Arms) : Type 0 where
    pub unseen : EachUnseenIn UnseenArm arms
    pub fronts : EachFrontIn FrontSpot arms
    pub here : (t : ℕ) → OneOf t (targets arms) → Sent s t
    pub there : (q : Spot) → OneOf q (others_of_arms c l m arms) → IsKnown q
    pub each : (arm : Body) → OneOf arm (arm_list arms) → Held l arm

  abbrev Holds : Body → Type 0
  Holds b = (s : Spot) (c : Context) (l : ℕ) → At s c l b → Survey s c l b

  no_header : (s : Spot) (l : ℕ) (header : Front) → None ≡ Some header → (header.label ≡ l) × (s.front ≡ Some header)
  no_header s l header e = absurd (cc e)

  begins_open : (b : Body) → begins_at_branch b ≡ true → opens b ≡ true
  begins_open (Leaves exit) e = refl
  begins_open (Enters label body) e = refl
  begins_open (Loops (ByBranch values) header control inner next continuing merge rest) e = refl
  begins_open other e = absurd (cc e)

  -- constructs round a block are round those that it leads to
  around_behind : (s r : Spot) → OneOf r (spots_in f) → r.from ≡ s.label → (t : ℕ) → Around s t → Around r t
  around_behind s r member from t a =
      record { head = a.head; under = Onward s r a.under member from; spot = a.spot; member = a.member; label = a.label; is = a.is }

  -- one more round the block s
  more_around : (s p : Spot) (l : ℕ) (labels : List ℕ) → OneOf p (spots_in f) → p.label ≡ l → (p ≡ s) ⊎ Names s p → ((t : ℕ) → OneOf t labels → Around s t)
      → (t : ℕ) → OneOf t (l ∷ labels) → Around s t
  more_around s p l labels member label is more t (inl e) =
      record { head = s; under = Itself; spot = p; member = member; label = label ∙ sym e; is = is }
  more_around s p l labels member label is more t (inr h) = more t h

  -- the construct that a body begins with is that of its block
  opened : (s : Spot) (b : Body) → opens b ≡ false → (opens b ≡ true) ⊎ (construct_in b ≡ construct_in s.body) → construct_in b ≡ construct_in s.body
  opened s b shut (inl e) = absurd (truth_apart (opens b) e shut)
  opened s b shut (inr e) = e

  abbrev Closed : List ℕ → Body → Type 0
  Closed labels b = (functions : ℕ → Option Function) → IsClosed functions [] f.body → IsClosed functions labels b

  -- a part that begins at a branch, in the same block
  arm_at : (s : Spot) (c : Context) (l : ℕ) (b : Body) (labels : List ℕ) → Closed labels b → ((t : ℕ) → OneOf t labels → Around s t) → IsFormed all s.body
      → s.label ≡ l → OneOf s (spots_in f) → begins_at_branch b ≡ true → IsFormed all b → ArePlaced None b
      → In (others c l b) (spots_in f) → In (branches l b) all → In (entered b) (entered f.body) → In (unnamed b) (unnamed f.body) → At s c l b
  arm_at s c l b labels closed around of_block label member begins formed placed blocks sends plain enters = record {
    label = label;
    member = member;
    whole = λ e. truth_apart (begins_at_branch b) begins e;
    stage = inl (begins_open b begins);
    labels = labels;
    closed = closed;
    around = around;
    of_block = of_block;
    formed = formed;
    front = None;
    placed = placed;
    header = no_header s l;
    blocks = blocks;
    sends = sends;
    plain = plain;
    enters = enters;
  }

  -- a block of its own, behind a front or none
  block_at : (r : Spot) (labels : List ℕ) → Closed labels r.body → ((t : ℕ) → OneOf t labels → Around r t)
      → ((header : Front) → r.front ≡ Some header → header.label ≡ r.label) → OneOf r (spots_in f) → IsFormed all r.body → ArePlaced r.front r.body
      → In (others r.context r.label r.body) (spots_in f) → In (branches r.label r.body) all → In (entered r.body) (entered f.body)
      → In (unnamed r.body) (unnamed f.body) → At r r.context r.label r.body
  block_at r labels closed around label member formed placed blocks sends plain enters = record {
    label = refl;
    member = member;
    whole = λ e. refl;
    stage = inr refl;
    labels = labels;
    closed = closed;
    around = around;
    of_block = formed;
    formed = formed;
    front = r.front;
    placed = placed;
    header = λ header e. (label header e, e);
    blocks = blocks;
    sends = sends;
    plain = plain;
    enters = enters;
  }

  behind : (front : Front) (header : Front) → Some front ≡ Some header → header.label ≡ front.label
  behind front header e = ap (λ z. z.label) (let h : header ≡ front = cc e in h)

  front_spot : (r : Spot) (front : Front) → OneOf r (spots_in f) → r.label ≡ front.label → r.front ≡ Some front → FrontSpot front
  front_spot r front member label is = record { spot = r; member = member; label = label; is = is }

  by_block : (x r : Spot) (o : List Spot) → Shows r → OneOf r.label (unnamed f.body) ⊎ ((k : Spot) × Names k r) → ((y : Spot) → OneOf y o → IsKnown y)
      → OneOf x (r ∷ o) → IsKnown x
  by_block x r o first parent more (inl e) = subst IsKnown (sym e) (record { shows = first; parent = parent })
  by_block x r o first parent more (inr g) = more x g

  loop_holds : (header : Front) (control : ℕ) (inner : Body) (next : Front) (continuing : Body) (merge : Front) (rest : Body)
      → Holds inner → Holds continuing → Holds rest → Holds (Loops InPlace header control inner next continuing merge rest)
  loop_holds header control inner next continuing merge rest one two three s c l p =
      let i = InBody header.label merge.label next.label ∷ c in
      let j = InNext header.label merge.label ∷ c in
      let q : Spot = record { context = j; from = header.label; label = next.label; front = Some next; body = continuing } in
      let r : Spot = record { context = c; from = header.label; label = merge.label; front = Some merge; body = rest } in
      let o1 = others i header.label inner in
      let o2 = others j next.label continuing in
      let o3 = others c merge.label rest in
      let b1 = branches header.label inner in
      let b2 = branches next.label continuing in
      let b3 = branches merge.label rest in
      let to_q = λ (x : Spot) (h : OneOf x (q ∷ (o2 ++ (r ∷ o3)))). p.blocks x (one_right x o1 (q ∷ (o2 ++ (r ∷ o3))) h) in
      let to_r = λ (x : Spot) (h : OneOf x (r ∷ o3)). to_q x (inr (one_right x o2 (r ∷ o3) h)) in
      let at = p.header header (p.placed.0) in
      let here : s.label ≡ header.label = p.label ∙ sym at.0 in
      let opens_it = opened s (Loops InPlace header control inner next continuing merge rest) refl p.stage in
      let names_q : Names s q = record { member = p.member; from = sym here; formed = p.of_block; named = inr (ap next_of (sym opens_it)) } in
      let names_r : Names s r = record { member = p.member; from = sym here; formed = p.of_block; named = inl (ap merge_of (sym opens_it)) } in
      let round_next : (t : ℕ) → OneOf t (header.label ∷ merge.label ∷ p.labels) → Around s t =
      more_around s s header.label (merge.label ∷ p.labels) p.member here (inl refl)
      (more_around s r merge.label p.labels (to_r r (inl refl)) refl (inr names_r) p.around) in
      let a : Survey s i header.label inner = one s i header.label (record {
        label = here;
        member = p.member;
        whole = λ e. p.whole refl;
        stage = inl p.formed.0;
        labels = next.label ∷ header.label ∷ merge.label ∷ p.labels;
        closed = λ fs k. (p.closed fs k).0;
        around = more_around s q next.label (header.label ∷ merge.label ∷ p.labels) (to_q q (inl refl)) refl (inr names_q) round_next;
        of_block = p.of_block;
        formed = p.formed.4;
        front = None;
        placed = p.placed.1;
        header = no_header s header.label;
        blocks = λ x h. p.blocks x (one_left x o1 (q ∷ (o2 ++ (r ∷ o3))) h);
        sends = λ x h. p.sends x (one_left x b1 (b2 ++ b3) h);
        plain = λ t h. p.plain t (one_left t (entered inner ++ entered continuing) (entered rest) (one_left t (entered inner) (entered continuing) h));
        enters = λ t h. p.enters t (one_left t (unnamed inner) (unnamed continuing ++ unnamed rest) h);
      }) in
      let b : Survey q j next.label continuing = two q j next.label (block_at q (header.label ∷ merge.label ∷ p.labels)
      (λ fs k. (p.closed fs k).1) (λ t h. around_behind s q (to_q q (inl refl)) (sym here) t (round_next t h))
      (behind next) (to_q q (inl refl)) p.formed.5 p.placed.2
      (λ x h. to_q x (inr (one_left x o2 (r ∷ o3) h)))
      (λ x h. p.sends x (one_right x b1 (b2 ++ b3) (one_left x b2 b3 h)))
      (λ t h. p.plain t (one_left t (entered inner ++ entered continuing) (entered rest) (one_right t (entered inner) (entered continuing) h)))
      (λ t h. p.enters t (one_right t (unnamed inner) (unnamed continuing ++ unnamed rest) (one_left t (unnamed continuing) (unnamed rest) h)))) in
      let d : Survey r c merge.label rest = three r c merge.label (block_at r p.labels
      (λ fs k. (p.closed fs k).2) (λ t h. around_behind s r (to_r r (inl refl)) (sym here) t (p.around t h))
      (behind merge) (to_r r (inl refl)) p.formed.6 p.placed.3
      (λ x h. to_r x (inr h))
      (λ x h. p.sends x (one_right x b1 (b2 ++ b3) (one_right x b2 b3 h)))
      (λ t h. p.plain t (one_right t (entered inner ++ entered continuing) (entered rest) h))
      (λ t h. p.enters t (one_right t (unnamed inner) (unnamed continuing ++ unnamed rest) (one_right t (unnamed continuing) (unnamed rest) h)))) in
      record {
        unseen = (a.unseen, b.unseen, d.unseen);
        fronts = (
          front_spot s header p.member here at.1,
          front_spot q next (to_q q (inl refl)) refl refl,
          front_spot r merge (to_r r (inl refl)) refl refl,
          a.fronts,
          b.fronts,
          d.fronts,
        );
        here = a.here;
        there = λ x h. elim (one_split x o1 (q ∷ (o2 ++ (r ∷ o3))) h) [
          | inl g ↦ a.there x g
          | inr g ↦ by_block x q (o2 ++ (r ∷ o3)) b.here (inr (s, names_q))
              (λ y k. elim (one_split y o2 (r ∷ o3) k) [
                | inl m ↦ b.there y m
                | inr m ↦ by_block y r o3 d.here (inr (s, names_r)) d.there m
              ]) g
        ];
      }

  -- an arm is held by its block
  held : (l : ℕ) (c : Context) (arm : Body) → begins_at_branch arm ≡ true → In (others c l arm) (spots_in f) → In (branches l arm) all
      → In (entered arm) (entered f.body)
      → In (unnamed arm) (unnamed f.body) → Held l arm
  held l c arm begins blocks sends plain enters =
      record { context = c; begins = begins; blocks = blocks; sends = sends; plain = plain; enters = enters }

  mutual
    body_survey : (b : Body) (s : Spot) (c : Context) (l : ℕ) → At s c l b → Survey s c l b
    body_survey (Leaves exit) s c l p = record {
      unseen = tt;
      fronts = tt;
      here = λ t h. inl (
        (l, exit),
        p.sends (l, exit) (inl refl),
        sym (single exit.target t h),
        (λ fs k. subst (Around s) (sym (single exit.target t h)) (p.around exit.target (p.closed fs k))),
      );
      there = λ q h. absurd h;
    }
    body_survey (Finishes words) s c l p = record {
      unseen = tt;
      fronts = tt;
      here = λ t h. absurd (no_end words t h);
      there = λ q h. absurd h;
    }
    body_survey (Step words b) s c l p =
        let a : Survey s c l b = body_survey b s c l (record {
          label = p.label;
          member = p.member;
          whole = λ e. p.whole refl;
          stage = p.stage;
          labels = p.labels;
          closed = λ fs k. (p.closed fs k).1;
          around = p.around;
          of_block = p.of_block;
          formed = p.formed.1;
          front = None;
          placed = p.placed;
          header = no_header s l;
          blocks = p.blocks;
          sends = p.sends;
          plain = p.plain;
          enters = p.enters;
        }) in
        record { unseen = a.unseen; fronts = a.fronts; here = a.here; there = a.there }
    body_survey (Enters label b) s c l p =
        let r : Spot = record { context = c; from = l; label = label; front = None; body = b } in
        let a : Survey r c label b = body_survey b r c label (block_at r p.labels p.closed
        (λ t h. around_behind s r (p.blocks r (inl refl)) (sym p.label) t (p.around t h))
        (λ header e. absurd (cc e)) (p.blocks r (inl refl)) p.formed p.placed
        (λ x h. p.blocks x (inr h)) p.sends (λ t h. p.plain t (inr h)) (λ t h. p.enters t (inr h))) in
        record {
          unseen = a.unseen;
          fronts = a.fronts;
          here = λ t h. inr (r, p.blocks r (inl refl), sym (single label t h), sym p.label);
          there = λ x h. by_block x r (others c label b) a.here (inl (p.enters label (inl refl))) a.there h;
        }
    body_survey (Splits condition on exit b) s c l p =
        let a : Survey s c l b = body_survey b s c l (arm_at s c l b p.labels (λ fs k.
        (p.closed fs k).1) p.around p.of_block p.label p.member p.formed.0 p.formed.1 p.placed p.blocks
        (λ x h. p.sends x (inr h)) p.plain p.enters) in
        record {
          unseen = a.unseen;
          fronts = a.fronts;
          here = λ t h. elim (split_from on exit.target (target b) t h) [
            | inl e ↦ inl ((l, exit), p.sends (l, exit) (inl refl), sym e, (λ fs k. subst (Around s) (sym e) (p.around exit.target (p.closed fs k).0)))
            | inr e ↦ a.here t (at_branch b t p.formed.0 e)
          ];
          there = a.there;
        }
    body_survey (Selects control condition first second merge rest) s c l p =
        let i = InSelection merge.label ∷ c in
        let r : Spot = record { context = c; from = l; label = merge.label; front = Some merge; body = rest } in
        let o1 = others i l first in
        let o2 = others i l second in
        let o3 = others c merge.label rest in
        let b1 = branches l first in
        let b2 = branches l second in
        let b3 = branches merge.label rest in
        let to_r = λ (x : Spot) (h : OneOf x (r ∷ o3)). p.blocks x (one_right x o1 (o2 ++ (r ∷ o3)) (one_right x o2 (r ∷ o3) h)) in
        let opens_it = opened s (Selects control condition first second merge rest) refl p.stage in
        let names_r : Names s r = record { member = p.member; from = sym p.label; formed = p.of_block; named = inl (ap merge_of (sym opens_it)) } in
        let labels = merge.label ∷ p.labels in
        let around = more_around s r merge.label p.labels (to_r r (inl refl)) refl (inr names_r) p.around in
        let one : Survey s i l first = body_survey first s i l (arm_at s i l first labels (λ fs k.
        (p.closed fs k).0) around p.of_block p.label p.member p.formed.0 p.formed.3 p.placed.0
        (λ x h. p.blocks x (one_left x o1 (o2 ++ (r ∷ o3)) h))
        (λ x h. p.sends x (one_left x b1 (b2 ++ b3) h))
        (λ t h. p.plain t (one_left t (entered first ++ entered second) (entered rest) (one_left t (entered first) (entered second) h)))
        (λ t h. p.enters t (one_left t (unnamed first) (unnamed second ++ unnamed rest) h))) in
        let two : Survey s i l second = body_survey second s i l (arm_at s i l second labels (λ fs k.
        (p.closed fs k).1) around p.of_block p.label p.member p.formed.1 p.formed.4 p.placed.1
        (λ x h. p.blocks x (one_right x o1 (o2 ++ (r ∷ o3)) (one_left x o2 (r ∷ o3) h)))
        (λ x h. p.sends x (one_right x b1 (b2 ++ b3) (one_left x b2 b3 h)))
        (λ t h. p.plain t (one_left t (entered first ++ entered second) (entered rest) (one_right t (entered first) (entered second) h)))
        (λ t h. p.enters t (one_right t (unnamed first) (unnamed second ++ unnamed rest) (one_left t (unnamed second) (unnamed rest) h)))) in
        let three : Survey r c merge.label rest = body_survey rest r c merge.label (block_at r p.labels
        (λ fs k. (p.closed fs k).2) (λ t h. around_behind s r (to_r r (inl refl)) (sym p.label) t (p.around t h)) (behind merge)
        (to_r r (inl refl)) p.formed.5 p.placed.2
        (λ x h. to_r x (inr h))
        (λ x h. p.sends x (one_right x b1 (b2 ++ b3) (one_right x b2 b3 h)))
        (λ t h. p.plain t (one_right t (entered first ++ entered second) (entered rest) h))
        (λ t h. p.enters t (one_right t (unnamed first) (unnamed second ++ unnamed rest) (one_right t (unnamed second) (unnamed rest) h)))) in
        record {
          unseen = (one.unseen, two.unseen, three.unseen);
          fronts = (front_spot r merge (to_r r (inl refl)) refl refl, one.fronts, two.fronts, three.fronts);
          here = λ t h. elim (split_from true (target first) (target second) t h) [
            | inl e ↦ one.here t (at_branch first t p.formed.0 e)
            | inr e ↦ two.here t (at_branch second t p.formed.1 e)
          ];
          there = λ x h. elim (one_split x o1 (o2 ++ (r ∷ o3)) h) [
            | inl g ↦ one.there x g
            | inr g ↦ elim (one_split x o2 (r ∷ o3) g) [
              | inl k ↦ two.there x k
              | inr k ↦ by_block x r o3 three.here (inr (s, names_r)) three.there k
            ]
          ];
        }
    body_survey (Switches control selector cases arms merge rest) s c l p =
        let r : Spot = record { context = c; from = l; label = merge.label; front = Some merge; body = rest } in
        let o1 = others_of_arms c l merge.label arms in
        let o2 = others c merge.label rest in
        let to_r = λ (x : Spot) (h : OneOf x (r ∷ o2)). p.blocks x (one_right x o1 (r ∷ o2) h) in
        let opens_it = opened s (Switches control selector cases arms merge rest) refl p.stage in
        let names_r : Names s r = record { member = p.member; from = sym p.label; formed = p.of_block; named = inl (ap merge_of (sym opens_it)) } in
        let one : ArmsSurvey s c l merge.label arms = arms_survey arms s c l merge.label (record {
          label = p.label;
          member = p.member;
          labels = merge.label ∷ p.labels;
          closed = λ fs k. (p.closed fs k).0;
          around = more_around s r merge.label p.labels (to_r r (inl refl)) refl (inr names_r) p.around;
          of_block = p.of_block;
          formed = p.formed.2;
          placed = p.placed.0;
          blocks = λ x h. p.blocks x (one_left x o1 (r ∷ o2) h);
          sends = λ x h. p.sends x (one_left x (branches_of_arms l arms) (branches merge.label rest) h);
          plain = λ t h. p.plain t (one_left t (entered_of_arms arms) (entered rest) h);
          enters = λ t h. p.enters t (one_left t (unnamed_of_arms arms) (unnamed rest) h);
        }) in
        let two : Survey r c merge.label rest = body_survey rest r c merge.label (block_at r p.labels
        (λ fs k. (p.closed fs k).1) (λ t h. around_behind s r (to_r r (inl refl)) (sym p.label) t (p.around t h)) (behind merge)
        (to_r r (inl refl)) p.formed.3 p.placed.1
        (λ x h. to_r x (inr h))
        (λ x h. p.sends x (one_right x (branches_of_arms l arms) (branches merge.label rest) h))
        (λ t h. p.plain t (one_right t (entered_of_arms arms) (entered rest) h))
        (λ t h. p.enters t (one_right t (unnamed_of_arms arms) (unnamed rest) h))) in
        let hides : (arm : Body) → OneOf arm (Rattle.spv_unbroken.specs.Pruned.unseen cases arms) → UnseenArm arm = λ arm h. record {
          spot = s;
          member = p.member;
          held = subst (λ z. Held z arm) (sym p.label)
              (one.each arm (behind_in arms arm (filter_from (λ a. not (is_named cases a)) arm (behind_default arms) h).0));
          hidden = ap (λ z. has (end_targets z) (target arm)) (sym (p.whole refl)) ∙ hidden_arm cases arms arm p.formed.0.distinct h;
        } in
        record {
          unseen = (each_of UnseenArm (Rattle.spv_unbroken.specs.Pruned.unseen cases arms) hides, one.unseen, two.unseen);
          fronts = (front_spot r merge (to_r r (inl refl)) refl refl, one.fronts, two.fronts);
          here = λ t h. one.here t (switch_targets cases arms t p.formed.0.named h);
          there = λ x h. elim (one_split x o1 (r ∷ o2) h) [
            | inl g ↦ one.there x g
            | inr g ↦ by_block x r o2 two.here (inr (s, names_r)) two.there g
          ];
        }
    body_survey (Loops (ByBranch values) header control inner next continuing merge rest) s c l p =
        let loop = Loops InPlace header control inner next continuing merge rest in
        let r : Spot = record { context = c; from = l; label = header.label; front = Some header; body = loop } in
        let a : Survey r c header.label loop =
        loop_holds header control inner next continuing merge rest (body_survey inner) (body_survey continuing) (body_survey rest) r c header.label
        (block_at r p.labels p.closed (λ t h. around_behind s r (p.blocks r (inl refl)) (sym p.label) t (p.around t h))
        (behind header) (p.blocks r (inl refl)) p.formed (refl, p.placed.1, p.placed.2, p.placed.3)
        (λ x h. p.blocks x (inr h)) (λ x h. p.sends x (inr h)) p.plain (λ t h. p.enters t (inr h))) in
        record {
          unseen = a.unseen;
          fronts = a.fronts;
          here = λ t h. inr (r, p.blocks r (inl refl), sym (single header.label t h), sym p.label);
          there = λ x h. by_block x r (others c header.label loop) a.here (inl (p.enters header.label (inl refl))) a.there h;
        }
    body_survey (Loops InPlace header control inner next continuing merge rest) s c l p =
        loop_holds header control inner next continuing merge rest (body_survey inner) (body_survey continuing) (body_survey rest) s c l p

    arms_survey : (arms : Arms) (s : Spot) (c : Context) (l m : ℕ) → ArmsAt s c l m arms → ArmsSurvey s c l m arms
    arms_survey (Last arm) s c l m p =
        let i = InArm l m (target arm) ∷ c in
        let a : Survey s i l arm =
        body_survey arm s i l (arm_at s i l arm p.labels p.closed p.around p.of_block p.label p.member p.formed.0 p.formed.1 p.placed
        p.blocks p.sends p.plain p.enters) in
        record {
          unseen = a.unseen;
          fronts = a.fronts;
          here = λ t h. last t a.here p.formed.0 h;
          there = a.there;
          each = λ b h. only b (held l i arm p.formed.0 p.blocks p.sends p.plain p.enters) h;
        }
      where
        last : (t : ℕ) → ((t : ℕ) → has (end_targets (first_end arm)) t ≡ true → Sent s t) → begins_at_branch arm ≡ true → OneOf t (target arm ∷ [])
            → Sent s t
        last t h begins (inl e) = h t (at_branch arm t begins e)
        last t h begins (inr e) = absurd e

        only : (b : Body) → Held l arm → OneOf b (arm ∷ []) → Held l b
        only b h (inl e) = subst (Held l) (sym e) h
        only b h (inr e) = absurd e
    arms_survey (Also arm arms) s c l m p =
        let i = InArm l m (target arm) ∷ c in
        let o1 = others i l arm in
        let o2 = others_of_arms c l m arms in
        let b1 = branches l arm in
        let b2 = branches_of_arms l arms in
        let blocks : In o1 (spots_in f) = λ x h. p.blocks x (one_left x o1 o2 h) in
        let sends : In b1 all = λ x h. p.sends x (one_left x b1 b2 h) in
        let plain : In (entered arm) (entered f.body) = λ t h. p.plain t (one_left t (entered arm) (entered_of_arms arms) h) in
        let enters : In (unnamed arm) (unnamed f.body) = λ t h. p.enters t (one_left t (unnamed arm) (unnamed_of_arms arms) h) in
        let one : Survey s i l arm = body_survey arm s i l (arm_at s i l arm p.labels (λ fs k.
        (p.closed fs k).0) p.around p.of_block p.label p.member p.formed.0 p.formed.1 p.placed.0 blocks sends plain enters) in
        let two : ArmsSurvey s c l m arms = arms_survey arms s c l m (record {
          label = p.label;
          member = p.member;
          labels = p.labels;
          closed = λ fs k. (p.closed fs k).1;
          around = p.around;
          of_block = p.of_block;
          formed = p.formed.2;
          placed = p.placed.1;
          blocks = λ x h. p.blocks x (one_right x o1 o2 h);
          sends = λ x h. p.sends x (one_right x b1 b2 h);
          plain = λ t h. p.plain t (one_right t (entered arm) (entered_of_arms arms) h);
          enters = λ t h. p.enters t (one_right t (unnamed arm) (unnamed_of_arms arms) h);
        }) in
        record {
          unseen = (one.unseen, two.unseen);
          fronts = (one.fronts, two.fronts);
          here = λ t h. first t one.here two.here p.formed.0 h;
          there = λ x h. elim (one_split x o1 o2 h) [
            | inl g ↦ one.there x g
            | inr g ↦ two.there x g
          ];
          each = λ b h. among b (held l i arm p.formed.0 blocks sends plain enters) two.each h;
        }
      where
        first : (t : ℕ) → ((t : ℕ) → has (end_targets (first_end arm)) t ≡ true → Sent s t)
            → ((t : ℕ) → OneOf t (targets arms) → Sent s t)
            → begins_at_branch arm ≡ true → OneOf t (target arm ∷ targets arms) → Sent s t
        first t h more begins (inl e) = h t (at_branch arm t begins e)
        first t h more begins (inr g) = more t g

        among : (b : Body) → Held l arm → ((b : Body) → OneOf b (arm_list arms) → Held l b) → OneOf b (arm ∷ arm_list arms) → Held l b
        among b h more (inl e) = subst (Held l) (sym e) h
        among b h more (inr g) = more b g

  pub record Surveyed : Type 0 where
    pub unseen : EachUnseen UnseenArm f.body
    pub fronts : EachFront FrontSpot f.body
    pub shows : (q : Spot) → OneOf q (spots_in f) → Shows q
    pub known : (q : Spot) → OneOf q (others [] f.label f.body) → IsKnown q

  pub surveyed : IsSound f → Surveyed
  surveyed sound =
      let s = first_spot f in
      let a : Survey s [] f.label f.body =
      body_survey f.body s [] f.label (block_at s [] (λ fs k. k) (λ t h. absurd h) (λ header e. absurd (cc e)) (inl refl) sound.formed sound.placed
      (λ x h. inr h) (λ x h. h) (λ t h. h) (λ t h. h)) in
      record {
        unseen = a.unseen;
        fronts = a.fronts;
        shows = λ x h. by_first x s a.here a.there h;
        known = a.there;
      }
    where
      by_first : (x s : Spot) → Shows s → ((y : Spot) → OneOf y (others [] f.label f.body) → IsKnown y) → OneOf x (s ∷ others [] f.label f.body) → Shows x
      by_first x s first more (inl e) = subst Shows (sym e) first
      by_first x s first more (inr g) = (more x g).shows
