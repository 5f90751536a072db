-- No rule is broken in a structured function as it is listed: the walk goes through its tree, block by block in the context of each.
use Rattle.std.proofs.Common.{◌≡◌, ℕ, ◌⊎◌, inl, inr, Bool, true, false, ◌==◌, ◌&&◌, not, List, [], ◌∷◌, ◌++◌, map, length, Option, Some, None, refl, sym, ap, ◌∙◌, subst, arith}
use Rattle.std.specs.Prelude.{Contains}
use Rattle.std.specs.List.{AllByRecursion, list_all}
use Rattle.std.proofs.lemmas.Bool.{eqb-true, eq-eqb}
use Rattle.spv_module.specs.First.{here}
use Rattle.spv_blocks.specs.Blocks.{Code, Block, Construct, ASelection, ASwitch, ALoop, construct, merge_of, next_of, is_first, branches, has, end_targets, stops, seconds, times}
use Rattle.spv_blocks.specs.Cutting.{blocks_of}
use Rattle.spv_walk.specs.Contexts.{Context, InSelection, InArm, InBody, InNext, behind, next_context, is_exit, is_fall}
use Rattle.spv_walk.specs.Walk.{Enters, end_of, leads, Walk, Starts, Entered, Stopped, Merged, Continued, BackEdge, OneBackEdge}
use Rattle.spv_walk.specs.Faults.{merge_faults, end_rules}
use Rattle.spv_walk.specs.Phis.{phi_faults, names_each_once, predecessors}
use Rattle.spv_walk.specs.Rules.{at_front, at_end, Finds, AtFront, AtEnd, BadTarget, CaseFall, BadContinue, NoTerminator, Broken, Found, NeverEntered}
use Rattle.spv_walk.proofs.Unique.{both_hold, both_left, both_right, not_true, not_false, false_equal, tells, leads_branches, tries_leads}
use Rattle.spv_walk.proofs.Letter.{entered_tries}
use Rattle.spv_walk.proofs.Entering.{predecessor}
use Rattle.spv_bodies.specs.Bodies.{Exit, Parameter, Front, Function}
use Rattle.spv_bodies.specs.Listing.{Branching, branches as sent, arriving, in_order, phi_pairs, listed}
use Rattle.spv_tree.specs.Branches.{branches_in}
use Rattle.spv_tree.specs.Sound.{IsSound}
use Rattle.spv_trees.specs.Standing.{OneOf}
use Rattle.spv_structured.specs.Structured.{IsStructured, NamesArms, ParameterFits, first_end}
use Rattle.spv_structured.specs.Spots.{Spot, spots_in, first_spot, blocks_in, block_of_spot, front_ins, inside, bare_block}
use Rattle.spv_structured.specs.Laws.{StructuredIsUnbroken}
use Rattle.spv_structured.proofs.Lists.{contained, filter_in, filter_from, one_has, has_one, one_map, map_from, list_all_at}
use Rattle.spv_structured.proofs.Bare.{bare, merge_bare, phi_bare}
use Rattle.spv_structured.proofs.Positions.{construct_in, Node, Going, Way, Goes, Merges, Continues, first_node}
use Rattle.spv_structured.proofs.Induction.{induct}
use Rattle.spv_structured.proofs.OwnBlocks.{PhiFits, block_merges, block_phis, block_ends, ends_closed}
use Rattle.spv_structured.proofs.Targets.{Leads, Out, On, AllLeaveWell, structured_leaves, Within, Here, Deeper, body_sources}
use Rattle.spv_structured.proofs.Looked.{one_node, construct_of, end_at, branches_to, first_of, placed, brancher, merge_to, merge_role, loop_of, next_role, roles, runs}
use Rattle.spv_structured.proofs.Exits.{longer, within_length, behind_none, ContextOk, context_ok, end_ok, header_exit}
use Rattle.spv_structured.proofs.Entered.{loop_by_next, same_next, leads_to, enters, no_exit}
use Rattle.spv_structured.proofs.ListedBlocks.{listed_blocks}

-- ---- lists

pub nothing_in : {X : Type 0} (x : X) (xs : List X) → xs ≡ [] → Contains xs x → ⊥
nothing_in x [] e h = contained [] x h
nothing_in x (y ∷ ys) e h = (let a = ap length e in absurd (omega (arith, a)))

-- a list of one
pub only : {X : Type 0} (xs : List X) → length xs ≡ 1 → (x y : X) → OneOf x xs → OneOf y xs → x ≡ y
only [] e x y h k = absurd h
only (z ∷ []) e x y (inl h) (inl k) = h ∙ sym k
only (z ∷ []) e x y (inl h) (inr k) = absurd k
only (z ∷ []) e x y (inr h) k = absurd h
only (z ∷ w ∷ zs) e x y h k = absurd (omega (arith, e))

pub some_of : {X : Type 0} (xs : List X) → length xs ≡ 1 → (x : X) × OneOf x xs
some_of [] e = absurd (omega (arith, e))
some_of (z ∷ zs) e = (z, inl refl)

pub seconds_of : (k : ℕ) (bs : List Branching) → seconds (phi_pairs k bs) ≡ map (λ b. b.0) bs
seconds_of k [] = refl
seconds_of k (b ∷ bs) = ap (λ l. b.0 ∷ l) (seconds_of k bs)

pub all_hold : {X : Type 0} (test : X → Bool) (xs : List X) → ((x : X) → OneOf x xs → test x ≡ true) → list_all test xs ≡ true
all_hold test [] h = refl
all_hold test (x ∷ xs) h = both_hold (test x) (list_all test xs) (h x (inl refl)) (all_hold test xs (λ y k. h y (inr k)))

-- the same numbers, in another order or more often
pub named_by_same : (ps qs parents : List ℕ) → ((p : ℕ) → OneOf p ps → OneOf p qs) → ((p : ℕ) → OneOf p qs → OneOf p ps) → names_each_once qs parents ≡ true
    → names_each_once ps parents ≡ true
named_by_same ps qs parents to from h =
    both_hold (list_all (λ p. times parents p == 1) ps) (list_all (λ p. has ps p) parents)
    (all_hold (λ p. times parents p == 1) ps (λ p k. list_all_at (λ q. times parents q == 1) qs (both_left (list_all (λ q. times parents q == 1) qs) (list_all (λ q. has qs q) parents) h) p (to p k)))
    (all_hold (λ p. has ps p) parents (λ p k. one_has ps p (from p (has_one qs p
    (list_all_at (λ q. has qs q) parents (both_right (list_all (λ q. times parents q == 1) qs) (list_all (λ q. has qs q) parents) h) p k)))))

module _ (is_pointer : ℕ → Bool) (f : Function) (sound : IsSound f) (arms : NamesArms f.body) (g : Code) (same : bare g ≡ blocks_in f) where
  pub one : (s r : Spot) → Node is_pointer f s → Node is_pointer f r → s.label ≡ r.label → s ≡ r
  one s r n k e = one_node is_pointer f sound arms g same s r n k e

  pub opens : (s : Spot) → Node is_pointer f s → construct g s.label ≡ construct_in s.body
  opens s n = construct_of is_pointer f sound arms g same s n

  -- the context at the terminator, and whether a label is an exit there
  pub exit_at : (s : Spot) (t : ℕ) → Node is_pointer f s
      → is_exit (behind (construct g s.label) s.label t s.context) (end_of g s.label) t ≡ is_exit (behind (construct_in s.body) s.label t s.context) (first_end s.body) t
  exit_at s t n =
      ap (λ k. is_exit (behind k s.label t s.context) (end_of g s.label) t) (opens s n)
      ∙ ap (λ e. is_exit (behind (construct_in s.body) s.label t s.context) e t) (end_at is_pointer f sound arms g same s n)

  pub leads_no_exit : (s : Spot) (t : ℕ) → Node is_pointer f s → leads g s.label s.context t ≡ true
      → is_exit (behind (construct_in s.body) s.label t s.context) (first_end s.body) t ≡ true → ⊥
  leads_no_exit s t n h e =
      let a : is_exit (behind (construct g s.label) s.label t s.context) (end_of g s.label) t ≡ false =
      not_true _ (both_right (not (stops g s.label) && branches g s.label t) (not (is_exit (behind (construct g s.label) s.label t s.context) (end_of g s.label) t)) h) in
      let b = exit_at s t n ∙ e in
      cc (a, b)

  module _ (well : AllLeaveWell is_pointer f) where
    -- ---- the walk goes through the tree

    -- a walked block
    pub record Walked (l : ℕ) (c : Context) : Type 0 where
      pub spot : Spot
      pub node : Node is_pointer f spot
      pub label : spot.label ≡ l
      pub context : spot.context ≡ c

    -- where a walked block leads that is no exit
    pub next_walked : (b t : ℕ) (c : Context) → Walked b c → leads g b c t ≡ true
        → (r : Spot) × Node is_pointer f r × (r.label ≡ t) × (r.context ≡ behind (construct g b) b t c) × ((s : Spot) × Node is_pointer f s × (s.label ≡ b) × Going is_pointer f s r × (r.from ≡ s.label))
    next_walked b t c w h =
        let s = w.spot in
        let h2 : leads g s.label s.context t ≡ true = ap (λ z. leads g z s.context t) w.label ∙ ap (λ z. leads g b z t) w.context ∙ h in
        by s w.node w.label w.context h2 (leads_to is_pointer f sound arms g same s t w.node (leads_branches g s.label s.context t h2))
      where
        by : (s : Spot) → Node is_pointer f s → s.label ≡ b → s.context ≡ c → leads g s.label s.context t ≡ true → Leads is_pointer f s t
            → (r : Spot) × Node is_pointer f r × (r.label ≡ t) × (r.context ≡ behind (construct g b) b t c) × ((s : Spot) × Node is_pointer f s × (s.label ≡ b) × Going is_pointer f s r × (r.from ≡ s.label))
        by s n e d h2 (Out x x_in to exits) = absurd (leads_no_exit s t n h2 (well s n t exits))
        by s n e d h2 (On r r_node going from to) = (
          r,
          r_node,
          to,
          going.inside ∙ ap (λ z. behind (construct_in s.body) s.label z s.context) to ∙ ap (λ k. behind k s.label t s.context) (sym (opens s n))
              ∙ ap (λ z. behind (construct g z) z t s.context) e ∙ ap (λ z. behind (construct g b) b t z) d,
          (s, n, e, going, from),
        )

    pub walked : (l : ℕ) (c : Context) → Walk g l c → Walked l c
    walked l c (Starts k h) = record {
      spot = first_spot f;
      node = first_node is_pointer f sound arms;
      label = eqb-true f.label l (sym (first_of is_pointer f sound arms g same l) ∙ h);
      context = refl;
    }
    walked l c (Entered b t d w tried entered) =
        let r = next_walked b t d (walked b d w) (tries_leads g b d t tried) in
        record { spot = r.0; node = r.1; label = r.2; context = r.3 }
    walked l c (Stopped b t d w tried ends) =
        let r = next_walked b t d (walked b d w) (tries_leads g b d t tried) in
        record { spot = r.0; node = r.1; label = r.2; context = r.3 }
    walked l c (Merged b m d w goes_on merge role) =
        let s = walked b d w in
        let to = merge_to is_pointer f sound arms g same s.spot m s.node
        (ap merge_of (sym (opens s.spot s.node)) ∙ ap (λ z. merge_of (construct g z)) s.label ∙ merge) in
        record { spot = to.spot; node = to.led.node; label = to.label; context = to.context ∙ s.context }
    walked l c (Continued b n d w goes_on next role) =
        let s = walked b d w in
        let is = ap next_of (sym (opens s.spot s.node)) ∙ ap (λ z. next_of (construct g z)) s.label ∙ next in
        let k = loop_by_next (construct_in s.spot.body) n is in
        let to = (loop_of is_pointer f sound arms g same s.spot k.0 n s.node k.1).next in
        record {
          spot = to.spot;
          node = to.led.node;
          label = to.label;
          context = to.context ∙ ap (λ z. next_context z s.spot.label s.spot.context) (sym (opens s.spot s.node ∙ k.1))
              ∙ ap (λ z. next_context (construct g z) z s.spot.context) s.label ∙ ap (λ z. next_context (construct g b) b z) s.context;
        }

    -- ---- each block of the tree is walked

    goes_walked : (s r : Spot) → Node is_pointer f s → Node is_pointer f r → Going is_pointer f s r → r.from ≡ s.label → Walk g s.label s.context → Walk g r.label r.context
    goes_walked s r n k going from w =
        let entered = enters is_pointer f sound arms g same well s r n k going from in
        let a : stops g s.label ≡ false = runs is_pointer f sound arms g same s n in
        let b : branches g s.label r.label ≡ true = branches_to is_pointer f sound arms g same s r.label n going.goes in
        let c : is_exit (behind (construct g s.label) s.label r.label s.context) (end_of g s.label) r.label ≡ false = no_exit_at (tells _) in
        let led : leads g s.label s.context r.label ≡ true =
        both_hold (not (stops g s.label) && branches g s.label r.label) (not (is_exit (behind (construct g s.label) s.label r.label s.context) (end_of g s.label) r.label))
        (both_hold (not (stops g s.label)) (branches g s.label r.label) (not_false (stops g s.label) a) b)
        (not_false (is_exit (behind (construct g s.label) s.label r.label s.context) (end_of g s.label) r.label) c) in
        subst (Walk g r.label) (ap (λ z. behind z s.label r.label s.context) (opens s n) ∙ sym going.inside)
        (Entered s.label r.label s.context w (entered_tries g s.label r.label s.context w led entered) entered)
      where
        no_exit_at : (is_exit (behind (construct g s.label) s.label r.label s.context) (end_of g s.label) r.label ≡ true) ⊎ (is_exit (behind (construct g s.label) s.label r.label s.context) (end_of g s.label) r.label ≡ false)
            → is_exit (behind (construct g s.label) s.label r.label s.context) (end_of g s.label) r.label ≡ false
        no_exit_at (inl e) = absurd (no_exit is_pointer f sound arms g same s r (first_end s.body) n k going (sym (exit_at s r.label n) ∙ e))
        no_exit_at (inr e) = e

    way_walked : (s r : Spot) → Node is_pointer f s → Node is_pointer f r → Way is_pointer f s r → r.from ≡ s.label → Walk g s.label s.context → Walk g r.label r.context
    way_walked s r n k (Goes going) from w = goes_walked s r n k going from w
    way_walked s r n k (Merges is inside) from w =
        subst (Walk g r.label) (sym inside)
        (Merged s.label r.label s.context w (runs is_pointer f sound arms g same s n) (ap merge_of (opens s n) ∙ is)
        (merge_role is_pointer f sound arms g same s r.label n is))
    way_walked s r n k (Continues is inside) from w =
        let l = loop_by_next (construct_in s.body) r.label is in
        subst (Walk g r.label) (ap (λ z. next_context z s.label s.context) (opens s n) ∙ sym inside)
        (Continued s.label r.label s.context w (runs is_pointer f sound arms g same s n) (ap next_of (opens s n) ∙ is)
        (next_role is_pointer f sound arms g same s l.0 r.label n l.1))

    pub each_walked : (s : Spot) → Node is_pointer f s → Walk g s.label s.context
    each_walked s n =
        induct is_pointer f (λ z. Walk g z.label z.context) (λ s r n led w. way_walked s r n led.node led.child.way led.child.from w) sound arms
        (Starts f.label (first_of is_pointer f sound arms g same f.label ∙ eq-eqb f.label f.label refl)) s n.member

    -- ---- OpPhi

    abbrev pub all : List Branching
    all = branches_in f

    -- the blocks that branch to a front are those that carry values there
    pub sent_to : (s : Spot) (front : Front) → Node is_pointer f s → s.front ≡ Some front → front.label ≡ s.label → (p : ℕ) → OneOf p (predecessors g s.label)
        → OneOf p (map (λ b. b.0) (arriving front.label all))
    sent_to s front n is at p h =
        let branch = (filter_from (λ q. branches g q s.label) p (map (λ b. b.label) g) h).1 in
        let q = brancher is_pointer f sound arms g same p s.label branch in
        by q.0 q.1 q.2 (leads_to is_pointer f sound arms g same q.0 s.label q.1 (ap (λ z. branches g z s.label) q.2 ∙ branch))
      where
        arrives : (q : Spot) (x : Exit) → Node is_pointer f q → q.label ≡ p → OneOf (q.label, x) (sent q.label q.body) → x.target ≡ s.label → OneOf p (map (λ b. b.0) (arriving front.label all))
        arrives q x k e h to =
            subst (λ z. OneOf z (map (λ b. b.0) (arriving front.label all))) e
            (one_map (λ b. b.0) (arriving front.label all) (q.label, x)
            (filter_in (λ b. b.1.target == front.label) (q.label, x) all (k.within (q.label, x) h) (eq-eqb x.target front.label (to ∙ sym at))))

        by : (q : Spot) → Node is_pointer f q → q.label ≡ p → Leads is_pointer f q s.label → OneOf p (map (λ b. b.0) (arriving front.label all))
        by q k e (Out x h to exits) = arrives q x k e h to
        by q k e (On r r_node going from to) =
            let here : r ≡ s = one r s r_node n to in
            let x = going.carries front (ap (λ z. z.front) here ∙ is) in
            arrives q x.0 k e x.1 (x.2 ∙ to)

    pub sent_from : (s : Spot) (front : Front) → Node is_pointer f s → front.label ≡ s.label → (p : ℕ) → OneOf p (map (λ b. b.0) (arriving front.label all))
        → OneOf p (predecessors g s.label)
    sent_from s front n at p h =
        let m = map_from (λ b. b.0) (arriving front.label all) p h in
        let r = filter_from (λ b. b.1.target == front.label) m.from all m.one in
        let first = first_node is_pointer f sound arms in
        let source = body_sources is_pointer f [] f.body (first_spot f) [] f.label first first.position Here Here m.from r.0 in
        let to : m.from.1.target ≡ s.label = eqb-true m.from.1.target front.label r.1 ∙ at in
        let a : branches g source.spot.label s.label ≡ true =
        branches_to is_pointer f sound arms g same source.spot s.label source.node
        (ap (has (end_targets (first_end source.spot.body))) (sym to) ∙ source.goes) in
        let b : branches g p s.label ≡ true = ap (λ z. branches g z s.label) (m.same ∙ sym source.label) ∙ a in
        has_one (predecessors g s.label) p (predecessor g p s.label b)

    -- a block with a front is not the first
    pub front_not_first : (s : Spot) (front : Front) → Node is_pointer f s → s.front ≡ Some front → is_first g s.label ≡ false
    front_not_first s front n is =
        first_of is_pointer f sound arms g same s.label
        ∙ false_equal f.label s.label (λ d.
        let here : first_spot f ≡ s = one (first_spot f) s (first_node is_pointer f sound arms) n d in
        let none : None ≡ Some front = ap (λ z. z.front) here ∙ is in
        absurd (cc none))

    -- ---- one back edge

    -- the continue target of a loop
    abbrev pub part_of : (s : Spot) → Node is_pointer f s → (m k : ℕ) → construct_in s.body ≡ Some (ALoop m k) → Spot
    part_of s node m k is = (loop_of is_pointer f sound arms g same s m k node is).next.spot

    abbrev pub PartSends : (s : Spot) → Node is_pointer f s → (m k : ℕ) → construct_in s.body ≡ Some (ALoop m k) → Spot → Type 0
    PartSends s node m k is z =
        let next = part_of s node m k is in
        z.context ≡ InNext s.label m ∷ s.context → (x : Branching) → OneOf x (sent z.label z.body) → OneOf x (sent next.label next.body)

    -- from a block right in the continue part, values are sent as from its first block
    pub part_sends : (s : Spot) (node : Node is_pointer f s) (m k : ℕ) (is : construct_in s.body ≡ Some (ALoop m k)) (q : Spot) → Node is_pointer f q
        → PartSends s node m k is q
    part_sends s node m k is q n =
        induct is_pointer f (PartSends s node m k is) (λ p r j led before. step p r j led.node led.child.from led.child.way led.child.sends before) sound arms
        (λ e. (let a = ap length e in absurd (omega (arith, a)))) q n.member
      where
        step : (p r : Spot) → Node is_pointer f p → Node is_pointer f r → r.from ≡ p.label → Way is_pointer f p r → ((x : Branching) → OneOf x (sent r.label r.body) → OneOf x (sent p.label p.body)) → PartSends s node m k is p → PartSends s node m k is r
        step p r j i from (Goes going) sends before = λ e x h.
            before (behind_none (construct_in p.body) p.label r.label p.context s.context s.label m (sym going.inside ∙ e)).1 x (sends x h)
        step p r j i from (Merges to inside) sends before = λ e x h. before (sym inside ∙ e) x (sends x h)
        step p r j i from (Continues to inside) sends before = λ e x h.
            let l = loop_by_next (construct_in p.body) r.label to in
            let d : InNext p.label l.0 ∷ p.context ≡ InNext s.label m ∷ s.context = ap (λ z. next_context z p.label p.context) (sym l.1) ∙ sym inside ∙ e in
            let here : p ≡ s = one p s j node (same_next p.label s.label l.0 m p.context s.context d).0 in
            let labels : Some r.label ≡ Some k = sym to ∙ ap (λ z. next_of (construct_in z.body)) here ∙ ap next_of is in
            let label : r.label ≡ k = cc labels in
            let loop = loop_of is_pointer f sound arms g same s m k node is in
            let there : r ≡ part_of s node m k is = one r (part_of s node m k is) i loop.next.led.node (label ∙ sym loop.next.label) in
            subst (λ z. OneOf x (sent z.label z.body)) there h

    -- what branches to the header in the walk's continue part
    pub back_sent : (s : Spot) (node : Node is_pointer f s) (m k : ℕ) (is : construct_in s.body ≡ Some (ALoop m k)) (b : ℕ) → BackEdge g s.label b
        → (x : Exit) × OneOf (b, x) (arriving s.label (sent (part_of s node m k is).label (part_of s node m k is).body))
    back_sent s node m k is b edge =
        let w = walked b (InNext s.label edge.merge ∷ edge.context) edge.walked in
        let ok = subst (ContextOk is_pointer f sound arms g same) w.context (context_ok is_pointer f sound arms g same w.spot w.node.member) in
        let header = ok.0.1 in
        let here : header.spot ≡ s = one header.spot s header.node node ok.0.2 in
        let merges : Some (ALoop edge.merge ok.0.0) ≡ Some (ALoop m k) = sym header.opens ∙ ap (λ z. construct_in z.body) here ∙ is in
        let merge : Some edge.merge ≡ Some m = ap merge_of merges in
        let inside : w.spot.context ≡ InNext s.label m ∷ s.context =
        w.context ∙ ap (λ z. InNext s.label z ∷ edge.context) (let d : edge.merge ≡ m = cc merge in d) ∙ ap (λ z. InNext s.label m ∷ z) (sym header.context ∙ ap (λ z. z.context) here) in
        let none : construct_in w.spot.body ≡ None = sym (opens w.spot w.node) ∙ ap (construct g) w.label ∙ edge.bare in
        by w.spot w.node w.label inside none
        (leads_to is_pointer f sound arms g same w.spot s.label w.node (ap (λ z. branches g z s.label) w.label ∙ edge.branch))
      where
        by : (q : Spot) → Node is_pointer f q → q.label ≡ b → q.context ≡ InNext s.label m ∷ s.context → construct_in q.body ≡ None → Leads is_pointer f q s.label
            → (x : Exit) × OneOf (b, x) (arriving s.label (sent (part_of s node m k is).label (part_of s node m k is).body))
        by q n e inside none (Out x h to exits) =
            let r = part_sends s node m k is q n inside (q.label, x) h in
            let i = filter_in (λ y. y.1.target == s.label) (q.label, x) (sent (part_of s node m k is).label (part_of s node m k is).body) r (eq-eqb x.target s.label to) in
            (x, subst (λ z. OneOf (z, x) (arriving s.label (sent (part_of s node m k is).label (part_of s node m k is).body))) e i)
        by q n e inside none (On r r_node going from to) =
            let there : r ≡ s = one r s r_node node to in
            let a : s.context ≡ q.context = ap (λ z. z.context) (sym there) ∙ going.inside ∙ ap (λ z. behind z q.label r.label q.context) none in
            absurd (longer (InNext s.label m) s.context (a ∙ inside))

    within_behind : (c : Context) (k : Option Construct) (b t : ℕ) (d : Context) → Within c d → Within c (behind k b t d)
    within_behind c None b t d w = w
    within_behind c (Some (ASelection m)) b t d w = Deeper (InSelection m) d w
    within_behind c (Some (ASwitch m)) b t d w = Deeper (InArm b m t) d w
    within_behind c (Some (ALoop m n)) b t d w = Deeper (InBody b m n) d w

    -- a block in the continue part, or deeper, that branches to the header ends with a back edge
    pub back_edge : (s : Spot) → Node is_pointer f s → (m : ℕ) → (q : Spot) → Node is_pointer f q → Within (InNext s.label m ∷ s.context) q.context
        → branches g q.label s.label ≡ true → Leads is_pointer f q s.label → BackEdge g s.label q.label
    back_edge s node m q n w branch (Out x h to exits) =
        let c = behind (construct_in q.body) q.label s.label q.context in
        let here = header_exit is_pointer f sound arms g same s node m c (first_end q.body) (end_ok is_pointer f sound arms g same q s.label n)
        (within_behind (InNext s.label m ∷ s.context) (construct_in q.body) q.label s.label q.context w) (well q n s.label exits) in
        let b = behind_none (construct_in q.body) q.label s.label q.context s.context s.label m here in
        record { context = s.context; merge = m; walked = subst (Walk g q.label) b.1 (each_walked q n); bare = opens q n ∙ b.0; branch = branch }
    back_edge s node m q n w branch (On r r_node going from to) =
        let there : r ≡ s = one r s r_node node to in
        let a : s.context ≡ behind (construct_in q.body) q.label r.label q.context = ap (λ z. z.context) (sym there) ∙ going.inside in
        let b = within_length (InNext s.label m ∷ s.context) (behind (construct_in q.body) q.label r.label q.context)
        (within_behind (InNext s.label m ∷ s.context) (construct_in q.body) q.label r.label q.context w) in
        let d = ap length a in
        absurd (omega (arith, b, d))

    module _ (structured : IsStructured is_pointer f) where
      front_fits : (s : Spot) (front : Front) → Node is_pointer f s → s.front ≡ Some front → front.label ≡ s.label → is_first g s.label ≡ false
          → (ps : List Parameter) → AllByRecursion (ParameterFits is_pointer (arriving front.label all)) ps → AllByRecursion (PhiFits is_pointer g s.label (arriving front.label all)) ps
      front_fits s front n is at other [] h = tt
      front_fits s front n is at other (p ∷ ps) h = (
        (λ k.
            let here = arriving front.label all in
            let parents = seconds (phi_pairs k (in_order p.parents here)) in
            both_hold (not (is_first g s.label) && not (is_pointer p.type)) (names_each_once (predecessors g s.label) parents)
            (both_hold (not (is_first g s.label)) (not (is_pointer p.type)) (not_false (is_first g s.label) other) (not_false (is_pointer p.type) h.0.value))
            (named_by_same (predecessors g s.label) (map (λ b. b.0) here) parents (sent_to s front n is at) (sent_from s front n at)
            (ap (names_each_once (map (λ b. b.0) here)) (seconds_of k (in_order p.parents here)) ∙ h.0.named))),
        front_fits s front n is at other ps h.1,
      )

      phis_fit : (s : Spot) → Node is_pointer f s → (front : Front) → s.front ≡ Some front → AllByRecursion (PhiFits is_pointer g s.label (arriving front.label all)) front.parameters
      phis_fit s n front is =
          let h = n.fits front is in
          front_fits s front n is h.0 (front_not_first s front n is) front.parameters (h.1 structured)

      -- ---- the rules

      front_fine : (s : Spot) (b : Block) → Node is_pointer f s → bare_block b ≡ block_of_spot all s → at_front is_pointer g s.label b ≡ []
      front_fine s b n e =
          let body : map Rattle.spv_structured.specs.Spots.bare_ins b.body ≡ front_ins all s.front ++ inside [] s.body = ap (λ z. z.body) e in
          let end : b.end ≡ first_end s.body = ap (λ z. z.end) e in
          let phis = phi_bare is_pointer g s.label b.body (ap (phi_faults is_pointer g s.label) body ∙ block_phis is_pointer g s.label all s.front s.body n.position.formed (phis_fit s n)) in
          let merges = merge_bare g s.label b.end b.body
          (ap (merge_faults g s.label b.end) body ∙ ap (λ z. merge_faults g s.label z (front_ins all s.front ++ inside [] s.body)) end
          ∙ block_merges g s.label all s.front s.body n.position.formed (roles is_pointer f sound arms g same s n)) in
          ap (λ z. z ++ merge_faults g s.label b.end b.body) phis ∙ merges

      end_fine : (s : Spot) (b : Block) → Node is_pointer f s → bare_block b ≡ block_of_spot all s → at_end g s.label s.context b ≡ []
      end_fine s b n e =
          let end : b.end ≡ first_end s.body = ap (λ z. z.end) e in
          ap (here b.end_at)
          (ap (λ k. end_rules k (behind k s.label s.label s.context) b.end) (opens s n) ∙ ap (end_rules (construct_in s.body) (behind (construct_in s.body) s.label s.label s.context)) end
          ∙ block_ends s.context s.label s.label s.body all n.position.formed (n.position.flows structured))

      pub one_back_edge : (s : Spot) → Node is_pointer f s → (m k : ℕ) → construct_in s.body ≡ Some (ALoop m k) → OneBackEdge g s.label
      one_back_edge s node m k is =
          let loop = loop_of is_pointer f sound arms g same s m k node is in
          let next = loop.next.spot in
          let y = some_of (arriving s.label (sent next.label next.body)) (loop.one structured) in
          let r = filter_from (λ b. b.1.target == s.label) y.0 (sent next.label next.body) y.1 in
          let inside : next.context ≡ InNext s.label m ∷ s.context = loop.next.context in
          let source = body_sources is_pointer f next.context next.body next next.context next.label loop.next.led.node loop.next.led.node.position Here Here y.0 r.0 in
          let w : Within (InNext s.label m ∷ s.context) source.spot.context = subst (λ z. Within z source.spot.context) inside source.within in
          let to : y.0.1.target ≡ s.label = eqb-true y.0.1.target s.label r.1 in
          let goes : has (end_targets (first_end source.spot.body)) s.label ≡ true = ap (has (end_targets (first_end source.spot.body))) (sym to) ∙ source.goes in
          let branch = branches_to is_pointer f sound arms g same source.spot s.label source.node goes in
          let edge = back_edge s node m source.spot source.node w branch (leads_to is_pointer f sound arms g same source.spot s.label source.node branch) in
          record {
            block = source.spot.label;
            ends = edge;
            one = λ b other.
                let x = back_sent s node m k is b other in
                let z : (b, x.0) ≡ y.0 = only (arriving s.label (sent next.label next.body)) (loop.one structured) (b, x.0) y.0 x.1 y.1 in
                ap (λ v. v.0) z ∙ sym source.label;
          }

      -- ---- nothing is broken

      pub not_bad : (l t : ℕ) (c : Context) → Walk g l c → leads g l c t ≡ true → Enters g l t
      not_bad l t c w h =
          let r = next_walked l t c (walked l c w) h in
          let e = r.4 in
          subst (λ z. Enters g z t) e.2 (subst (λ z. Enters g e.0.label z) r.2 (enters is_pointer f sound arms g same well e.0 r.0 e.1 r.1 e.3 e.4))

      finds_none : (rule at : ℕ) → Finds is_pointer g rule at → ⊥
      finds_none rule at (AtFront l b c r w e h) =
          let p = placed is_pointer f sound arms g same l b e in
          nothing_in r (at_front is_pointer g l b) (ap (λ z. at_front is_pointer g z b) (sym p.label) ∙ front_fine p.spot b p.node p.alike) h
      finds_none rule at (AtEnd l b c r w e goes_on h) =
          let p = placed is_pointer f sound arms g same l b e in
          let q = walked l c w in
          let here : p.spot ≡ q.spot = one p.spot q.spot p.node q.node (p.label ∙ sym q.label) in
          let context : c ≡ p.spot.context = sym q.context ∙ ap (λ z. z.context) (sym here) in
          nothing_in r (at_end g l c b) (ap (λ z. at_end g l z b) context ∙ ap (λ z. at_end g z p.spot.context b) (sym p.label) ∙ end_fine p.spot b p.node p.alike) h
      finds_none rule at (BadTarget l t c w tried goes_on none) = none (not_bad l t c w (tries_leads g l c t tried))
      finds_none rule at (CaseFall l t c w led fall) =
          let tried = entered_tries g l t c w led (not_bad l t c w led) in
          let a = not_true (is_fall g c t) (both_right (leads g l c t) (not (is_fall g c t)) tried) in
          cc (a, fall)
      finds_none rule at (BadContinue l n b c w e goes_on next none) =
          let q = walked l c w in
          let k = loop_by_next (construct_in q.spot.body) n (ap next_of (sym (opens q.spot q.node)) ∙ ap (λ z. next_of (construct g z)) q.label ∙ next) in
          none (subst (OneBackEdge g) q.label (one_back_edge q.spot q.node k.0 n k.1))
      finds_none rule at (NoTerminator l b e unended) =
          let p = placed is_pointer f sound arms g same l b e in
          ends_closed p.spot.body (ap (λ z. z.end) (sym p.alike) ∙ unended)

      broken_none : (rule at : ℕ) → Broken is_pointer g rule at → ⊥
      broken_none rule at (Found r a h) = finds_none rule at h
      broken_none rule at (NeverEntered l b none e never) =
          let p = placed is_pointer f sound arms g same l b e in
          never p.spot.context (subst (λ z. Walk g z p.spot.context) p.label (each_walked p.spot p.node))

pub structured_is_unbroken : StructuredIsUnbroken
structured_is_unbroken f insts is_pointer sound opened structured listed rule at h =
    broken_none is_pointer f sound structured.arms (blocks_of insts) (listed_blocks f insts sound opened listed)
    (structured_leaves is_pointer f structured) structured rule at h
