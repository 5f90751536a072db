-- Where no rule is broken, an arm that no case names leaves at once. One with a block of its own would never be entered (402); nor would one that is a loop,
-- where each exit is to a construct round it. And the block that it leaves for has no parameters, since their OpPhi would name a block that does not branch
-- there (406).
use Rattle.std.proofs.Common.{◌≡◌, ℕ, ◌+◌, inl, inr, Bool, true, false, ◌==◌, ◌&&◌, not, cond, List, [], ◌∷◌, ◌++◌, map, Option, Some, None, refl, sym, ap, ◌∙◌, subst, arith, ◌≤◌, ◌⊎◌}
use Rattle.std.specs.Prelude.{AllPairs, Contains}
use Rattle.std.specs.List.{list_all}
use Rattle.std.proofs.lemmas.Bool.{eqb-true, eq-eqb}
use Rattle.spv_machine.specs.Steps as steps
use Rattle.spv_blocks.specs.Blocks.{Code, Block, block, of_block, construct, last_opens, merge_of, next_of, end_targets, has, is_first, names, seconds, targets, branches, times}
use Rattle.spv_walk.specs.Contexts.{Context}
use Rattle.spv_walk.specs.Walk.{Walk, Starts, Entered, Stopped, Merged, Continued}
use Rattle.spv_walk.specs.Faults.{merge_faults}
use Rattle.spv_walk.specs.Phis.{phi_faults, names_each_once, predecessors}
use Rattle.spv_walk.specs.Rules.{Broken, Found, NeverEntered, AtFront, at_front}
use Rattle.spv_walk.proofs.Unique.{both_right, tells, tries_leads, leads_branches, role_once, truth_apart, merge_is_named, next_is_named, one_merge, one_next, merge_or_next}
use Rattle.spv_bodies.specs.Bodies.{Exit, Parameter, Front, ByBranch, InPlace, Body, Leaves, Enters, Loops, Function, target}
use Rattle.spv_bodies.specs.Listing.{Branching, arriving, in_order, phi_pairs}
use Rattle.spv_tree.specs.Branches.{branches_in}
use Rattle.spv_tree.specs.Sound.{AreAlike, IsSound, IsFormed, entered, fronts}
use Rattle.spv_trees.specs.Standing.{OneOf, IsClosed}
use Rattle.spv_trees.specs.Sound.{SameValues}
use Rattle.spv_trees.proofs.Members.{phi_takes}
use Rattle.spv_structured.specs.Structured.{first_end}
use Rattle.spv_structured.specs.Spots.{Spot, first_spot, spots_in, block_of_spot, blocks_in, front_ins, inside, phi_ins, bare_ins, bare_block}
use Rattle.spv_structured.proofs.Lists.{all_at, contained, filter_from, has_one, list_all_at, pairs_at, Same, Before, Behind}
use Rattle.spv_structured.proofs.Bare as bare
use Rattle.spv_structured.proofs.Bare.{bare_found, construct_bare, found_bare, first_bare, names_bare, targets_bare}
use Rattle.spv_structured.proofs.Counting.{each_label_once, one_spot, times_append, times_one, distinct_times}
use Rattle.spv_structured.proofs.OwnBlocks.{block_construct}
use Rattle.spv_structured.proofs.Positions.{construct_in}
use Rattle.spv_structured.proofs.Naming.{unnamed, entered_unnamed, first_not_entered}
use Rattle.spv_unbroken.specs.Pruned.{is_loop}
use Rattle.spv_unbroken.proofs.Own.{no_faults, front_empty, phis_with, phis_fit}
use Rattle.spv_unbroken.proofs.Survey.{Around, From, Itself, Onward, FrontSpot, Names, UnseenArm, Sent, beyond, surveyed}

abbrev pub leaves_at_once : Body → Bool
leaves_at_once (Leaves exit) = true
leaves_at_once other = false

-- ---- blocks

block_at : (all : List Branching) (spots : List Spot) → ((s r : Spot) → OneOf s spots → OneOf r spots → s.label ≡ r.label → s ≡ r) → (s : Spot)
    → OneOf s spots
    → block (map (block_of_spot all) spots) s.label ≡ Some (block_of_spot all s)
block_at all [] one s h = absurd h
block_at all (x ∷ xs) one s h = by (x.label == s.label) refl h (λ g. block_at all xs (λ a b i j e. one a b (inr i) (inr j) e) s g)
  where
    by : (b : Bool) → (x.label == s.label) ≡ b → OneOf s (x ∷ xs) → (OneOf s xs → block (map (block_of_spot all) xs) s.label ≡ Some (block_of_spot all s))
        → cond b (Some (block_of_spot all x)) (block (map (block_of_spot all) xs) s.label) ≡ Some (block_of_spot all s)
    by true e g later = ap (λ z. Some (block_of_spot all z)) (one x s (inl refl) g (eqb-true x.label s.label e))
    by false e (inl d) later = absurd (cc (eq-eqb x.label s.label (ap (λ z. z.label) (sym d)), e))
    by false e (inr g) later = later g

spot_at : (all : List Branching) (spots : List Spot) (l : ℕ) (b : Block) → block (map (block_of_spot all) spots) l ≡ Some b
    → (s : Spot) × OneOf s spots × (s.label ≡ l)
spot_at all [] l b h = absurd (cc h)
spot_at all (x ∷ xs) l b h = by (x.label == l) refl h (λ g. spot_at all xs l b g)
  where
    by : (t : Bool) → (x.label == l) ≡ t → cond t (Some (block_of_spot all x)) (block (map (block_of_spot all) xs) l) ≡ Some b
        → (block (map (block_of_spot all) xs) l ≡ Some b → (s : Spot) × OneOf s xs × (s.label ≡ l)) → (s : Spot) × OneOf s (x ∷ xs) × (s.label ≡ l)
    by true e g later = (x, inl refl, eqb-true x.label l e)
    by false e g later = let r = later g in (r.0, inr r.1, r.2)

targeted : (o : Option Block) (t : ℕ) → has (of_block (λ b. end_targets b.end) [] o) t ≡ true → (b : Block) × (o ≡ Some b)
targeted None t h = absurd (cc h)
targeted (Some b) t h = (b, refl)

-- ---- what an OpPhi names

pub same_values : (all : List Branching) → AllPairs AreAlike all → SameValues all
same_values all h x y g k from to = elim (pairs_at AreAlike all h x y g k) [
  | Same e ↦ ap (λ z. z.1.values) e
  | Before r ↦ r from to
  | Behind r ↦ sym (r (sym from) (sym to))
]

-- a block from which a value comes is named
comes_from : (pairs : List (ℕ × ℕ)) (b v : ℕ) → steps.from_block pairs b ≡ Some v → OneOf b (seconds pairs)
comes_from [] b v h = absurd (cc h)
comes_from (p ∷ ps) b v h = by (p.1 == b) refl h (λ g. comes_from ps b v g)
  where
    by : (t : Bool) → (p.1 == b) ≡ t → cond t (Some p.0) (steps.from_block ps b) ≡ Some v → (steps.from_block ps b ≡ Some v → OneOf b (seconds ps))
        → OneOf b (p.1 ∷ seconds ps)
    by true e g later = inl (sym (eqb-true p.1 b e))
    by false e g later = inr (later g)

module _ (is_pointer : ℕ → Bool) (f : Function) (sound : IsSound f) (g : Code) (same : bare.bare g ≡ blocks_in f)
    (unbroken : (rule at : ℕ) → Broken is_pointer g rule at → ⊥) where
  abbrev all : List Branching
  all = branches_in f

  one_label : (s r : Spot) → OneOf s (spots_in f) → OneOf r (spots_in f) → s.label ≡ r.label → s ≡ r
  one_label s r h k e = one_spot (spots_in f) (each_label_once f sound) s r h k e

  bare_at : (s : Spot) → OneOf s (spots_in f) → block (bare.bare g) s.label ≡ Some (block_of_spot all s)
  bare_at s h = ap (λ z. block z s.label) same ∙ block_at all (spots_in f) one_label s h

  found : (s : Spot) → OneOf s (spots_in f) → bare.Found g s.label (block_of_spot all s)
  found s h = bare_found g s.label (block_of_spot all s) (bare_at s h)

  targets_of : (s : Spot) → OneOf s (spots_in f) → targets g s.label ≡ end_targets (first_end s.body)
  targets_of s h = sym (targets_bare g s.label) ∙ ap (of_block (λ b. end_targets b.end) []) (bare_at s h)

  brancher : (q t : ℕ) → branches g q t ≡ true → (s : Spot) × OneOf s (spots_in f) × (s.label ≡ q)
  brancher q t h =
      let b = targeted (block g q) t h in
      spot_at all (spots_in f) q (bare_block b.0) (ap (λ z. block z q) (sym same) ∙ found_bare g q b.0 b.1)

  -- each block is walked
  walked : (l : ℕ) (b : Block) → block g l ≡ Some b → ((c : Context) → Walk g l c → ⊥) → ⊥
  walked l b e never = unbroken 402 b.at (NeverEntered l b (λ rule at h. unbroken rule at (Found rule at h)) e never)

  -- ---- arms with blocks of their own

  -- a label that is entered is no front's
  no_front : (t : ℕ) → OneOf t (entered f.body) → OneOf t (fronts f.body) → ⊥
  no_front t h k =
      let a = distinct_times (f.label ∷ entered f.body ++ fronts f.body) t sound.labels in
      let b : times (f.label ∷ entered f.body ++ fronts f.body) t ≡ times (f.label ∷ entered f.body) t + times (fronts f.body) t =
      times_append (f.label ∷ entered f.body) (fronts f.body) t in
      let c = times_one (f.label ∷ entered f.body) t (inr h) in
      let d = times_one (fronts f.body) t k in
      omega (arith, a, b, c, d)

  module _ (label : ℕ) (body : Body) (u : UnseenArm f (Enters label body)) where
    abbrev own : Spot
    own = record { context = u.held.context; from = u.spot.label; label = label; front = None; body = body }

    own_member : OneOf own (spots_in f)
    own_member = u.held.blocks own (inl refl)

    not_branched : (q : ℕ) → branches g q label ≡ true → ⊥
    not_branched q h =
        let s = brancher q label h in
        let goes : has (end_targets (first_end s.0.body)) label ≡ true =
        ap (λ ts. has ts label) (sym (targets_of s.0 s.1)) ∙ ap (λ z. branches g z label) s.2 ∙ h in
        by s.0 s.1 goes ((surveyed f sound).shows s.0 s.1 label goes)
      where
        by : (s : Spot) → OneOf s (spots_in f) → has (end_targets (first_end s.body)) label ≡ true → Sent f s label → ⊥
        by s m goes (inl (x, one, to, around)) =
            let arrives : OneOf x.1.target (fronts f.body) =
            contained (fronts f.body) x.1.target (all_at (λ (b : Branching). Contains (fronts f.body) b.1.target) all sound.arrive x one) in
            no_front label (u.held.plain label (inl refl)) (subst (λ z. OneOf z (fronts f.body)) to arrives)
        by s m goes (inr (r, one, at, from)) =
            let here : r ≡ own = one_label r own one own_member at in
            let from_here : u.spot.label ≡ s.label = sym (ap (λ z. z.from) here) ∙ from in
            let block_is : s ≡ u.spot = one_label s u.spot m u.member (sym from_here) in
            truth_apart (has (end_targets (first_end s.body)) label) goes (ap (λ z. has (end_targets (first_end z.body)) label) block_is ∙ u.hidden)

    unnamed_here : names g label ≡ 0
    unnamed_here = sym (names_bare g label) ∙ ap (λ z. names z label) same ∙ entered_unnamed f sound label (u.held.enters label (inl refl))

    never_walked : (l : ℕ) (c : Context) → Walk g l c → l ≡ label → ⊥
    never_walked l c (Starts t first) e =
        let a : (f.label == t) ≡ true = sym (ap (λ z. is_first z t) same) ∙ first_bare g t ∙ first in
        let b : label ≡ f.label = sym e ∙ sym (eqb-true f.label t a) in
        first_not_entered f sound (subst (λ z. OneOf z (unnamed f.body)) b (u.held.enters label (inl refl)))
    never_walked l c (Entered b t d w tried enters) e =
        not_branched b (ap (branches g b) (sym e) ∙ leads_branches g b d t (tries_leads g b d t tried))
    never_walked l c (Stopped b t d w tried stops) e =
        not_branched b (ap (branches g b) (sym e) ∙ leads_branches g b d t (tries_leads g b d t tried))
    never_walked l c (Merged b m d w runs is role) e =
        let a : names g label ≡ 1 = ap (names g) (sym e) ∙ role_once g b m role in
        let z = unnamed_here in
        omega (arith, a, z)
    never_walked l c (Continued b n d w runs is role) e =
        let a : names g label ≡ 1 = ap (names g) (sym e) ∙ role_once g b n role in
        let z = unnamed_here in
        omega (arith, a, z)

    no_block : ⊥
    no_block = let b = found own own_member in walked label b.block b.same (λ c w. never_walked label c w refl)

  -- ---- arms that are loops, where each exit is to a construct round it

  construct_of : (k : Spot) → OneOf k (spots_in f) → IsFormed all k.body → construct g k.label ≡ construct_in k.body
  construct_of k h formed =
      sym (construct_bare g k.label) ∙ ap (of_block (λ b. last_opens b.end b.body) None) (bare_at k h) ∙ block_construct all k.front k.body formed

  names_of : (t : ℕ) → OneOf t (unnamed f.body) → names g t ≡ 0
  names_of t h = sym (names_bare g t) ∙ ap (λ z. names z t) same ∙ entered_unnamed f sound t h

  -- what a construct names is named
  is_named_once : (k p : Spot) → Names f k p → 1 ≤ names g p.label
  is_named_once k p n = by n.named
    where
      by : (merge_of (construct_in k.body) ≡ Some p.label) ⊎ (next_of (construct_in k.body) ≡ Some p.label) → 1 ≤ names g p.label
      by (inl e) = merge_is_named g k.label p.label (ap merge_of (construct_of k n.member n.formed) ∙ e)
      by (inr e) = next_is_named g k.label p.label (ap next_of (construct_of k n.member n.formed) ∙ e)

  module _ (values : List ℕ) (header : Front) (control : ℕ) (inner : Body) (next : Front) (continuing : Body) (merge : Front) (rest : Body)
      (u : UnseenArm f (Loops (ByBranch values) header control inner next continuing merge rest))
      (functions : ℕ → Option Function) (closed : IsClosed functions [] f.body) where
    abbrev head : Spot
    head = record {
      context = u.held.context;
      from = u.spot.label;
      label = header.label;
      front = Some header;
      body = Loops InPlace header control inner next continuing merge rest;
    }

    -- the blocks of the arm
    abbrev Inside : Spot → Type 0
    Inside p = From (spots_in f) head p

    head_member : OneOf head (spots_in f)
    head_member = u.held.blocks head (inl refl)

    head_entered : OneOf header.label (unnamed f.body)
    head_entered = u.held.enters header.label (inl refl)

    member_of : (p : Spot) → Inside p → OneOf p (spots_in f)
    member_of p Itself = head_member
    member_of p (Onward q r more member from) = member

    not_named : (k p : Spot) → Names f k p → p ≡ head → ⊥
    not_named k p n e =
        let a = is_named_once k p n in
        let b : names g p.label ≡ 0 = ap (λ z. names g z.label) e ∙ names_of header.label head_entered in
        omega (arith, a, b)

    -- the block whose construct names one inside is inside
    up : (k p : Spot) → Inside p → Names f k p → Inside k
    up k p Itself n = absurd (not_named k head n refl)
    up k p (Onward q r more member from) n =
        let e : q ≡ k = one_label q k (member_of q more) n.member (sym from ∙ n.from) in
        subst Inside e more

    -- and one that branches to one inside
    back : (p q : Spot) → Inside p → OneOf q (spots_in f) → has (end_targets (first_end q.body)) p.label ≡ true → Inside q
    back p q i m goes = by i ((surveyed f sound).shows q m p.label goes)
      where
        round : Around f q p.label → Inside q
        round a =
            let e : a.spot ≡ p = one_label a.spot p a.member (member_of p i) a.label in
            elim a.is [
              | inl d ↦ beyond (spots_in f) head a.head q (subst Inside (sym e ∙ d) i) a.under
              | inr n ↦ beyond (spots_in f) head a.head q (up a.head p i (subst (λ z. Names f a.head z) e n)) a.under
            ]

        led : (p : Spot) → Inside p → has (end_targets (first_end q.body)) p.label ≡ true → p.from ≡ q.label → Inside q
        led p Itself goes from =
            let e : q ≡ u.spot = one_label q u.spot m u.member (sym from) in
            absurd (truth_apart (has (end_targets (first_end q.body)) header.label) goes
            (ap (λ z. has (end_targets (first_end z.body)) header.label) e ∙ u.hidden))
        led p (Onward k r more member from) goes d =
            let e : k ≡ q = one_label k q (member_of k more) m (sym from ∙ d) in
            subst Inside e more

        by : Inside p → Sent f q p.label → Inside q
        by h (inl (x, one, to, around)) = round (around functions closed)
        by h (inr (r, one, at, from)) =
            let e : r ≡ p = one_label r p one (member_of p i) at in
            led p i goes (ap (λ z. z.from) (sym e) ∙ from)

    -- the first block is not inside
    not_first : (p : Spot) → Inside p → p ≡ first_spot f → ⊥
    not_first p Itself e = first_not_entered f sound (subst (λ z. OneOf z (unnamed f.body)) (ap (λ z. z.label) e) head_entered)
    not_first p (Onward q r more member from) e =
        not_first q more (one_label q (first_spot f) (member_of q more) (inl refl) (sym from ∙ ap (λ z. z.from) e))

    -- a block inside that merge instructions name has one that does
    parent : (p : Spot) → Inside p → names g p.label ≡ 1 → (k : Spot) × Names f k p
    parent p i once = by (member_of p i)
      where
        known : OneOf p.label (unnamed f.body) ⊎ ((k : Spot) × Names f k p) → (k : Spot) × Names f k p
        known (inl h) = absurd (let z = names_of p.label h in omega (arith, once, z))
        known (inr n) = n

        by : OneOf p (spots_in f) → (k : Spot) × Names f k p
        by (inl e) = absurd (not_first p i e)
        by (inr h) = known ((surveyed f sound).known p h).parent

    merged : (b : ℕ) (p : Spot) → Inside p → names g p.label ≡ 1 → merge_of (construct g b) ≡ Some p.label → (k : Spot) × Inside k × (k.label ≡ b)
    merged b p i once is = by (parent p i once)
      where
        by : (k : Spot) × Names f k p → (k : Spot) × Inside k × (k.label ≡ b)
        by (k, n) = (k, up k p i n, to n.named)
          where
            to : (merge_of (construct_in k.body) ≡ Some p.label) ⊎ (next_of (construct_in k.body) ≡ Some p.label) → k.label ≡ b
            to (inl e) = one_merge g k.label b p.label once (ap merge_of (construct_of k n.member n.formed) ∙ e) is
            to (inr e) = absurd (merge_or_next g b k.label p.label once is (ap next_of (construct_of k n.member n.formed) ∙ e))

    continued : (b : ℕ) (p : Spot) → Inside p → names g p.label ≡ 1 → next_of (construct g b) ≡ Some p.label → (k : Spot) × Inside k × (k.label ≡ b)
    continued b p i once is = by (parent p i once)
      where
        by : (k : Spot) × Names f k p → (k : Spot) × Inside k × (k.label ≡ b)
        by (k, n) = (k, up k p i n, to n.named)
          where
            to : (merge_of (construct_in k.body) ≡ Some p.label) ⊎ (next_of (construct_in k.body) ≡ Some p.label) → k.label ≡ b
            to (inl e) = absurd (merge_or_next g k.label b p.label once (ap merge_of (construct_of k n.member n.formed) ∙ e) is)
            to (inr e) = one_next g k.label b p.label once (ap next_of (construct_of k n.member n.formed) ∙ e) is

    branched : (b : ℕ) (p : Spot) → Inside p → branches g b p.label ≡ true → (k : Spot) × Inside k × (k.label ≡ b)
    branched b p i h =
        let s = brancher b p.label h in
        let goes : has (end_targets (first_end s.0.body)) p.label ≡ true =
        ap (λ ts. has ts p.label) (sym (targets_of s.0 s.1)) ∙ ap (λ z. branches g z p.label) s.2 ∙ h in
        (s.0, back p s.0 i s.1 goes, s.2)

    -- so none inside is walked
    unwalked : (l : ℕ) (c : Context) → Walk g l c → (p : Spot) → Inside p → p.label ≡ l → ⊥
    unwalked l c (Starts t first) p i e =
        let a : (f.label == t) ≡ true = sym (ap (λ z. is_first z t) same) ∙ first_bare g t ∙ first in
        not_first p i (one_label p (first_spot f) (member_of p i) (inl refl) (e ∙ sym (eqb-true f.label t a)))
    unwalked l c (Entered b t d w tried enters) p i e =
        let k = branched b p i (ap (branches g b) e ∙ leads_branches g b d t (tries_leads g b d t tried)) in
        unwalked b d w k.0 k.1 k.2
    unwalked l c (Stopped b t d w tried stops) p i e =
        let k = branched b p i (ap (branches g b) e ∙ leads_branches g b d t (tries_leads g b d t tried)) in
        unwalked b d w k.0 k.1 k.2
    unwalked l c (Merged b m d w runs is role) p i e =
        let k = merged b p i (ap (names g) e ∙ role_once g b m role) (is ∙ ap (λ z. Some z) (sym e)) in
        unwalked b d w k.0 k.1 k.2
    unwalked l c (Continued b n d w runs is role) p i e =
        let k = continued b p i (ap (names g) e ∙ role_once g b n role) (is ∙ ap (λ z. Some z) (sym e)) in
        unwalked b d w k.0 k.1 k.2

    no_loop : ⊥
    no_loop = let b = found head head_member in walked header.label b.block b.same (λ c w. unwalked header.label c w head Itself refl)

  -- ---- so what is left leaves at once

  abbrev pub IsClosedAmong : Type 0
  IsClosedAmong = (functions : ℕ → Option Function) × IsClosed functions [] f.body

  pub arm_leaves : (arm : Body) → UnseenArm f arm → (is_loop arm ≡ false) ⊎ IsClosedAmong → leaves_at_once arm ≡ true
  arm_leaves (Leaves exit) u e = refl
  arm_leaves (Enters label body) u e = absurd (no_block label body u)
  arm_leaves (Loops (ByBranch values) header control inner next continuing merge rest) u (inl e) = absurd (cc e)
  arm_leaves (Loops (ByBranch values) header control inner next continuing merge rest) u (inr (functions, closed)) =
      absurd (no_loop values header control inner next continuing merge rest u functions closed)
  arm_leaves other u e = absurd (let b = u.held.begins in cc b)

  -- ---- where they go

  module _ (front : Front) (place : FrontSpot f front) where
    abbrev here : List Branching
    here = arriving front.label all

    -- the OpPhi of the front may stand there
    clean : phi_faults is_pointer g place.spot.label (phi_ins 0 here front.parameters ++ inside [] place.spot.body) ≡ []
    clean =
        let s = place.spot in
        let b = found s place.member in
        let faults : at_front is_pointer g s.label b.block ≡ [] =
        no_faults (at_front is_pointer g s.label b.block)
        (λ r h. walked s.label b.block b.same (λ c w. unbroken r.rule r.at (Found r.rule r.at (AtFront s.label b.block c r w b.same h)))) in
        let phis = front_empty (phi_faults is_pointer g s.label b.block.body) (merge_faults g s.label b.block.end b.block.body) faults in
        let body : map bare_ins b.block.body ≡ front_ins all s.front ++ inside [] s.body = ap (λ z. z.body) b.alike in
        let is : front_ins all s.front ++ inside [] s.body ≡ front_ins all (Some front) ++ inside [] s.body =
        ap (λ z. front_ins all z ++ inside [] s.body) place.is in
        ap (phi_faults is_pointer g s.label) (sym (body ∙ is)) ∙ phis_with is_pointer g s.label b.block.body phis

    -- so each block that an OpPhi names branches there
    named_branches : (p : Parameter) (ps : List Parameter) → front.parameters ≡ p ∷ ps → (exit : Exit) (l : ℕ) → OneOf {X = Branching} (l, exit) all
        → exit.target ≡ front.label
        → branches g l place.spot.label ≡ true
    named_branches p ps is exit l one to =
        let s = place.spot in
        let fits = phis_fit is_pointer g s.label 0 here (p ∷ ps) (inside [] s.body)
        (ap (λ z. phi_faults is_pointer g s.label (phi_ins 0 here z ++ inside [] s.body)) (sym is) ∙ clean) in
        let j = fits.0.0 in
        let parents = seconds (phi_pairs j (in_order p.parents here)) in
        let named : names_each_once (predecessors g s.label) parents ≡ true =
        both_right (not (is_first g s.label) && not (is_pointer p.type)) (names_each_once (predecessors g s.label) parents) fits.0.1 in
        let each = both_right (list_all (λ q. times parents q == 1) (predecessors g s.label))
        (list_all (λ q. has (predecessors g s.label) q) parents) named in
        let takes = phi_takes all (same_values all sound.alike) j l exit front.label p.parents one to in
        let from = comes_from (phi_pairs j (in_order p.parents here)) l _ takes in
        let among = list_all_at (λ q. has (predecessors g s.label) q) parents each l from in
        (filter_from (λ q. branches g q s.label) l (map (λ b. b.label) g) (has_one (predecessors g s.label) l among)).1

    pub no_parameter : (p : Parameter) (ps : List Parameter) → front.parameters ≡ p ∷ ps → (arm : Body) → UnseenArm f arm → leaves_at_once arm ≡ true
        → (target arm == front.label) ≡ false
    no_parameter p ps is (Leaves exit) u e = elim (tells (exit.target == front.label)) [
      | inl k ↦
          let to : exit.target ≡ front.label = eqb-true exit.target front.label k in
          let goes = named_branches p ps is exit u.spot.label (u.held.sends (u.spot.label, exit) (inl refl)) to in
          let branch : has (end_targets (first_end u.spot.body)) exit.target ≡ true =
          ap (has (end_targets (first_end u.spot.body))) (to ∙ sym place.label)
          ∙ ap (λ ts. has ts place.spot.label) (sym (targets_of u.spot u.member)) ∙ goes in
          truth_apart (has (end_targets (first_end u.spot.body)) exit.target) branch u.hidden
      | inr k ↦ k
    ]
    no_parameter p ps is other u e = absurd (cc e)
