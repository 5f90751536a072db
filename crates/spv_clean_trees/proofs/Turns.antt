-- A continue part ends in one branch to its header: what branches there is the block with the back edge, and that is in the part.
use Rattle.std.proofs.Common.{◌≡◌, ◌≢◌, ◌⊎◌, inl, inr, ℕ, ◌+◌, Bool, true, false, not, ◌&&◌, ◌||◌, ◌==◌, List, [], ◌∷◌, length, map, Option, Some, None, refl, sym, ap, subst, ◌∙◌}
use Rattle.spv_module.specs.Instruction.{Instruction}
use Rattle.spv_blocks.specs.Blocks.{Code, Construct, ASelection, ASwitch, ALoop, End, branches, construct, has, merge_of, names, next_of, stops}
use Rattle.spv_blocks.specs.Cutting.{blocks_of}
use Rattle.spv_walk.specs.Contexts.{Context, InSelection, InArm, InBody, InNext, behind, is_back_pair, is_exit, leaves_inner, leaves_loop, leaves_switch, next_context}
use Rattle.spv_walk.specs.Walk.{BackEdge, OneBackEdge, Walk, Starts, Entered, Stopped, Merged, Continued}
use Rattle.spv_walk.specs.Walked.{Steps, StepEntered, StepStopped, StepMerged, StepContinued}
use Rattle.spv_walk.proofs.Unique.{tells, truth_apart, both_left, either_holds, equal_true, right_holds, true_equal}
use Rattle.spv_bodies.specs.Bodies.{Body}
use Rattle.spv_bodies.specs.Listing.{Branching, arriving}
use Rattle.spv_normal.specs.Order.{is_loop}
use Rattle.spv_spelling.specs.Clean.{IsClean}
use Rattle.spv_spelling.specs.Paths.{Below, Here, Behind}
use Rattle.spv_spelling.specs.Spelling.{AreStaying, SpellsPart}
use Rattle.spv_spelling.proofs.Onward.{continues_on, merges_on, no_way_back}
use Rattle.spv_spelling.proofs.Paths.{below_walked}
use Rattle.spv_spelling.proofs.Settled.{walked_runs}
use Rattle.spv_normal_trees.proofs.Arranging.{walked}
use Rattle.spv_normal_trees.proofs.Grown.{GrownPart, Given}
use Rattle.spv_normal_trees.proofs.Growing.{next_front, spell_part, walk_next}
use Rattle.spv_normal_trees.proofs.RegionBlocks.{region_distinct, region_under}
use Rattle.spv_normal_trees.proofs.RegionExits.{Among, Leads, Single, leads, leaving, single, stands}
use Rattle.spv_normal_trees.proofs.RegionWhole.{first_in, region_closed}
use Rattle.spv_normal_trees.proofs.Regions.{Region, exits, of_region}
use Rattle.spv_clean_trees.proofs.Flowing.{TurnsOnce}

-- ---- one branch to a label

module _ (r : ℕ → ℕ) (h : ℕ) where
  abbrev relabelled : Branching → Branching
  relabelled e = (r e.0, e.1)

  none_arrive : (es : List Branching) → ((e : Branching) → Among e es → e.1.target ≡ h → ⊥) → arriving h (map relabelled es) ≡ []
  none_arrive [] n = refl
  none_arrive (x ∷ xs) n = elim (tells (x.1.target == h)) [
    | inl t ↦ absurd (n x (inl refl) (equal_true x.1.target h t))
    | inr t ↦ rw t (none_arrive xs (λ e k. n e (inr k)))
  ]

  -- those to h all come from b, and no block branches to one label twice
  pub one_arrives : (b : ℕ) (es : List Branching) → Single es → Leads b h es → ((e : Branching) → Among e es → e.1.target ≡ h → e.0 ≡ b)
      → length (arriving h (map relabelled es)) ≡ 1
  one_arrives b [] s lead n = absurd lead.among
  one_arrives b (x ∷ xs) s lead n = elim (tells (x.1.target == h)) [
    | inl t ↦
        let to = equal_true x.1.target h t in
        let none : arriving h (map relabelled xs) ≡ [] =
        none_arrive xs (λ g k there. s.0 g k (n g (inr k) there ∙ sym (n x (inl refl) to)) (there ∙ sym to)) in
        rw t (ap (λ z. length (relabelled x ∷ z)) none)
    | inr t ↦ elim lead.among [
      | inl same ↦ truth_apart (x.1.target == h) (true_equal x.1.target h (ap (λ e. e.1.target) same ∙ lead.to)) t
      | inr later ↦ rw t (one_arrives b xs s.1 (record { one = lead.one; among = later; from = lead.from; to = lead.to }) (λ e k. n e (inr k)))
    ]
  ]

-- ---- contexts in the continue part of the header h

-- no construct that is opened there names h
pub data Clear (h m : ℕ) (c : Context) : Context → Type 0 where
  AtTop : Clear h m c (InNext h m ∷ c)
  PastSelection : {k : ℕ} {d : Context} → k ≢ h → Clear h m c d → Clear h m c (InSelection k ∷ d)
  PastArm : {b k a : ℕ} {d : Context} → k ≢ h → Clear h m c d → Clear h m c (InArm b k a ∷ d)
  PastBody : {b k n : ℕ} {d : Context} → k ≢ h → n ≢ h → Clear h m c d → Clear h m c (InBody b k n ∷ d)
  PastNext : {b k : ℕ} {d : Context} → b ≢ h → k ≢ h → Clear h m c d → Clear h m c (InNext b k ∷ d)

other_label : {P : Type 0} (k h : ℕ) → k ≢ h → (h == k) ≡ true → P
other_label k h n e = absurd (n (sym (equal_true h k e)))

inner_clear : (h m : ℕ) (c d : Context) (e : End) → Clear h m c d → leaves_inner d e h ≡ true → d ≡ InNext h m ∷ c
inner_clear h m c d e AtTop g = refl
inner_clear h m c d e (PastSelection {k = k} n r) g = other_label k h n g
inner_clear h m c d e (PastArm {k = k} n r) g = other_label k h n g
inner_clear h m c d e (PastBody n o r) g = truth_apart false g refl
inner_clear h m c d e (PastNext {b = b} {k = k} n o r) g = elim (either_holds (h == b) (h == k && is_back_pair b k e) g) [
  | inl x ↦ other_label b h n x
  | inr x ↦ other_label k h o (both_left (h == k) (is_back_pair b k e) x)
]

switch_clear : {P : Type 0} (h m : ℕ) (c d : Context) → Clear h m c d → leaves_switch d h ≡ true → P
switch_clear h m c d AtTop g = truth_apart false g refl
switch_clear h m c d (PastSelection {d = i} n r) g = switch_clear h m c i r g
switch_clear h m c d (PastArm {k = k} n r) g = other_label k h n g
switch_clear h m c d (PastBody n o r) g = truth_apart false g refl
switch_clear h m c d (PastNext n o r) g = truth_apart false g refl

loop_clear : {P : Type 0} (h m : ℕ) (c d : Context) → Clear h m c d → leaves_loop d h ≡ true → P
loop_clear h m c d AtTop g = truth_apart false g refl
loop_clear h m c d (PastSelection {d = i} n r) g = loop_clear h m c i r g
loop_clear h m c d (PastArm {d = i} n r) g = loop_clear h m c i r g
loop_clear h m c d (PastBody {k = k} {n = j} n o r) g = elim (either_holds (h == k) (h == j) g) [
  | inl x ↦ other_label k h n x
  | inr x ↦ other_label j h o x
]
loop_clear h m c d (PastNext n o r) g = truth_apart false g refl

-- so h is an exit where no construct lies between
exit_clear : (h m : ℕ) (c d : Context) (e : End) → Clear h m c d → is_exit d e h ≡ true → d ≡ InNext h m ∷ c
exit_clear h m c d e r g = elim (either_holds (leaves_inner d e h || leaves_switch d h) (leaves_loop d h) g) [
  | inl x ↦ elim (either_holds (leaves_inner d e h) (leaves_switch d h) x) [
    | inl y ↦ inner_clear h m c d e r y
    | inr y ↦ switch_clear h m c d r y
  ]
  | inr x ↦ loop_clear h m c d r x
]

-- a context in some continue part of h
abbrev Holds : (h : ℕ) → Context → Type 0
Holds h [] = ⊥
Holds h (InSelection k ∷ c) = Holds h c
Holds h (InArm b k a ∷ c) = Holds h c
Holds h (InBody b k n ∷ c) = Holds h c
Holds h (InNext b k ∷ c) = (b ≡ h) ⊎ Holds h c

holds_behind : (h : ℕ) (k : Option Construct) (b t : ℕ) (c : Context) → Holds h (behind k b t c) → Holds h c
holds_behind h None b t c g = g
holds_behind h (Some (ASelection m)) b t c g = g
holds_behind h (Some (ASwitch m)) b t c g = g
holds_behind h (Some (ALoop m n)) b t c g = g

holds_next : (h : ℕ) (k : Option Construct) (b : ℕ) (c : Context) → Holds h (next_context k b c) → (b ≡ h) ⊎ Holds h c
holds_next h None b c g = inr g
holds_next h (Some (ASelection m)) b c g = inr g
holds_next h (Some (ASwitch m)) b c g = inr g
holds_next h (Some (ALoop m n)) b c g = g

-- where the context behind a merge instruction is that of a continue part, there is no such instruction
record NothingOpens (k : Option Construct) (d e : Context) : Type 0 where
  bare : k ≡ None
  same : d ≡ e

behind_top : (k : Option Construct) (b t h m : ℕ) (c d : Context) → behind k b t d ≡ InNext h m ∷ c → NothingOpens k d (InNext h m ∷ c)
behind_top None b t h m c d e = record { bare = refl; same = e }
behind_top (Some (ASelection k)) b t h m c d e = absurd (cc (e))
behind_top (Some (ASwitch k)) b t h m c d e = absurd (cc (e))
behind_top (Some (ALoop k n)) b t h m c d e = absurd (cc (e))

some_same : (m n : ℕ) → Some m ≡ Some n → m ≡ n
some_same m n e = ap (λ o. elim o [ None ↦ m | Some x ↦ x ]) e

module _ (insts : List Instruction) (stays : ℕ → ℕ) (is_pointer : ℕ → Bool) (clean : IsClean is_pointer (blocks_of insts)) (staying : AreStaying insts stays)
    (h m n : ℕ) (c : Context) (continuing : Body) (w : Walk (blocks_of insts) h c) (is : construct (blocks_of insts) h ≡ Some (ALoop m n))
    (p : SpellsPart insts stays n (InNext h m ∷ c) continuing) where
  abbrev f : Code
  f = blocks_of insts

  abbrev top : Context
  top = InNext h m ∷ c

  runs : (l : ℕ) (d : Context) → Walk f l d → stops f l ≡ false
  runs l d v = walked_runs is_pointer f clean l d v

  step : Steps f h c n top
  step = continues_on is_pointer f clean h n c top w (ap next_of is) (ap (λ k. next_context k h c) is)

  below_there : Walk f n top
  below_there = walk_next insts stays stays is_pointer clean staying h m n c is w

  -- what is below the continue target is not the header
  far : (k x : ℕ) (d : Context) → Below f n top k x d → x ≢ h
  far k x d below = no_way_back is_pointer f clean h n x k c top d w step below

  walked_below : (k x : ℕ) (d : Context) → Below f n top k x d → Walk f x d
  walked_below k x d below = below_walked is_pointer f clean n top k x d below_there below

  merge_far : (k b t : ℕ) (d : Context) → Below f n top k b d → merge_of (construct f b) ≡ Some t → t ≢ h
  merge_far k b t d below e = far (k + 1) t d (Behind below (merges_on is_pointer f clean b t d (walked_below k b d below) e))

  next_far : (k b t : ℕ) (d : Context) → Below f n top k b d → next_of (construct f b) ≡ Some t → t ≢ h
  next_far k b t d below e =
      far (k + 1) t (next_context (construct f b) b d) (Behind below (continues_on is_pointer f clean b t d (next_context (construct f b) b d)
      (walked_below k b d below) e refl))

  clear_behind : (k b t : ℕ) (d : Context) → Below f n top k b d → Clear h m c d → (o : Option Construct) → construct f b ≡ o → Clear h m c (behind o b t d)
  clear_behind k b t d below r None e = r
  clear_behind k b t d below r (Some (ASelection x)) e = PastSelection (merge_far k b x d below (ap merge_of e)) r
  clear_behind k b t d below r (Some (ASwitch x)) e = PastArm (merge_far k b x d below (ap merge_of e)) r
  clear_behind k b t d below r (Some (ALoop x y)) e = PastBody (merge_far k b x d below (ap merge_of e)) (next_far k b y d below (ap next_of e)) r

  clear_next : (k b : ℕ) (d : Context) → Below f n top k b d → Clear h m c d → (o : Option Construct) → construct f b ≡ o → Clear h m c (next_context o b d)
  clear_next k b d below r None e = r
  clear_next k b d below r (Some (ASelection x)) e = r
  clear_next k b d below r (Some (ASwitch x)) e = r
  clear_next k b d below r (Some (ALoop x y)) e = PastNext (far k b d below) (merge_far k b x d below (ap merge_of e)) r

  clear_step : (k b t : ℕ) (d e : Context) → Below f n top k b d → Clear h m c d → Steps f b d t e → Clear h m c e
  clear_step k b t d e below r (StepEntered u x y) = clear_behind k b t d below r (construct f b) refl
  clear_step k b t d e below r (StepStopped u x y) = clear_behind k b t d below r (construct f b) refl
  clear_step k b t d e below r (StepMerged u x y z) = r
  clear_step k b t d e below r (StepContinued u x y z) = clear_next k b d below r (construct f b) refl

  -- by induction on how it is below
  below_clear : (k x : ℕ) (d : Context) → Below f n top k x d → Clear h m c d
  below_clear k x d Here = AtTop
  below_clear k x d (Behind {n = j} {b = b} {t = t} {d = i} {e = e} q s) = clear_step j b t i e q (below_clear j b i q) s

  -- what is below and branches to the header has a back edge
  turns_back : (k x : ℕ) (d : Context) → Below f n top k x d → branches f x h ≡ true → BackEdge f h x
  turns_back k x d below branch =
      let v = walked_below k x d below in
      let i = walked is_pointer f clean x d v in
      elim (i.settled_there.leads h branch) [
        | inl out ↦
            let opens = behind_top (construct f x) x h h m c d
            (exit_clear h m c (behind (construct f x) x h d) i.block_of.end (clear_behind k x h d below (below_clear k x d below) (construct f x) refl) out) in
            record { context = c; merge = m; walked = subst (λ j. Walk f x j) opens.same v; bare = opens.bare; branch = branch }
        | inr on ↦ absurd (far (k + 1) h (behind (construct f x) x h d) (Behind below (StepEntered h on.tried on.enters)) refl)
      ]

  -- ---- the part

  abbrev T : (l t : ℕ) → List ℕ → Type 0
  T = Given insts stays stays

  grown : GrownPart insts stays stays n top continuing
  grown = spell_part insts stays stays is_pointer clean staying p below_there
      (next_front insts stays stays is_pointer clean staying h n (Some (ALoop m n)) is refl)

  part : Region f T n top
  part = grown.part

  -- it has each block whose context is in a continue part of h: by induction on the walk
  in_part : (b : ℕ) (d : Context) → Walk f b d → Holds h d → has (of_region f T part) b ≡ true
  in_part b d (Starts i g) k = absurd k
  in_part b d (Entered q t e v x y) k =
      region_closed f T runs part q e b (behind (construct f q) q b e) (in_part q e v (holds_behind h (construct f q) q b e k)) v (StepEntered b x y)
  in_part b d (Stopped q t e v x y) k =
      region_closed f T runs part q e b (behind (construct f q) q b e) (in_part q e v (holds_behind h (construct f q) q b e k)) v (StepStopped b x y)
  in_part b d (Merged q t e v x y z) k = region_closed f T runs part q e b e (in_part q e v k) v (StepMerged b x y z)
  in_part b d (Continued q t e v x y z) k = elim (holds_next h (construct f q) q e k) [
    | inl same ↦
        subst (λ j. has (of_region f T part) j ≡ true) (some_same n b (ap next_of (sym is) ∙ ap (λ j. next_of (construct f j)) (sym same) ∙ y))
        (first_in f T runs part)
    | inr g ↦ region_closed f T runs part q e b (next_context (construct f q) q e) (in_part q e v g) v (StepContinued b x y z)
  ]

  pub turns_once : TurnsOnce h n continuing
  unfolding part grown
  turns_once =
      let turn : OneBackEdge f h = clean.turned h n c w (ap next_of is) in
      let es : List Branching = exits f T part in
      let inside = in_part turn.block (InNext h turn.ends.merge ∷ turn.ends.context) turn.ends.walked (inl refl) in
      let lead : Leads turn.block h es = leads f T part turn.block h inside turn.ends.branch
      (right_holds (not (names f h == 0)) (is_loop (construct f h)) (ap is_loop is)) in
      let only : (e : Branching) → Among e es → e.1.target ≡ h → e.0 ≡ turn.block = λ e k to.
      let u = region_under f T is_pointer clean part e.0 (stands f T part e k) in
      turn.one e.0 (turns_back u.steps e.0 u.context u.below (subst (λ t. branches f e.0 t ≡ true) to (leaving f T part e k).branch)) in
      sym (ap (λ z. length (arriving h z)) grown.leaving)
      ∙ one_arrives stays h turn.block es (single f T part (region_distinct f T is_pointer clean part)) lead only
