-- Where no rule is broken, each continue part has one branch back to its header, and parameters fit.
use Rattle.std.proofs.Common.{◌≡◌, ℕ, ◌+◌, ◌≤◌, inl, inr, Bool, true, false, ◌==◌, ◌&&◌, not, cond, List, [], ◌∷◌, ◌++◌, map, length, Some, refl, sym, ap, ◌∙◌, subst, arith}
use Rattle.std.specs.List.{AllByRecursion}
use Rattle.std.proofs.lemmas.Bool.{eqb-true, eq-eqb}
use Rattle.spv_blocks.specs.Blocks.{Code, ALoop, next_of, is_first, has, end_targets, seconds, times}
use Rattle.spv_walk.specs.Contexts.{InNext}
use Rattle.spv_walk.specs.Walk.{BackEdge, OneBackEdge}
use Rattle.spv_walk.specs.Faults.{merge_faults}
use Rattle.spv_walk.specs.Phis.{phi_faults, phi_fits, names_each_once, predecessors}
use Rattle.spv_walk.specs.Rules.{loop_at, Finds, BadContinue}
use Rattle.spv_walk.proofs.Unique.{both_left, both_right, not_true}
use Rattle.spv_bodies.specs.Bodies.{Parameter, Front, Function}
use Rattle.spv_bodies.specs.Listing.{Branching, branches, arriving, in_order, phi_pairs}
use Rattle.spv_tree.specs.Branches.{branches_in}
use Rattle.spv_tree.specs.Sound.{IsSound}
use Rattle.spv_trees.specs.Standing.{OneOf}
use Rattle.spv_structured.specs.Structured.{NamesArms, ParameterFits, FrontFits, first_end}
use Rattle.spv_structured.specs.Spots.{Spot, blocks_in, front_ins, inside, bare_ins}
use Rattle.spv_structured.proofs.Lists.{filter_from}
use Rattle.spv_structured.proofs.Bare.{bare}
use Rattle.spv_structured.proofs.Positions.{construct_in, Node}
use Rattle.spv_structured.proofs.Targets.{Within, Here, body_sources}
use Rattle.spv_structured.proofs.Looked.{one_node, construct_of, found, branches_to, loop_of, runs}
use Rattle.spv_structured.proofs.Entered.{leads_to}
use Rattle.spv_structured.proofs.Unbroken.{named_by_same, seconds_of, sent_to, sent_from, part_of, back_sent, back_edge}
use Rattle.spv_unbroken.proofs.Own.{front_empty, phis_with, phis_fit}
use Rattle.spv_unbroken.proofs.Walks.{each_walked, front_clean, all_leave_well}
use Rattle.spv_unbroken.proofs.Sent.{sent}

-- two from one block
both_from : (y z : Branching) (bs : List Branching) (p : ℕ) → y.0 ≡ p → z.0 ≡ p → times (map (λ b. b.0) (y ∷ z ∷ bs)) p ≤ 1 → ⊥
both_from y z bs p d e le = by (y.0 == p) (z.0 == p) (eq-eqb y.0 p d) (eq-eqb z.0 p e) le
  where
    by : (a b : Bool) → a ≡ true → b ≡ true
        → cond a (cond b (times (map (λ b. b.0) bs) p + 1) (times (map (λ b. b.0) bs) p) + 1)
        (cond b (times (map (λ b. b.0) bs) p + 1) (times (map (λ b. b.0) bs) p)) ≤ 1 → ⊥
    by true true d e le = omega (arith, le)
    by true false d e le = absurd (cc e)
    by false b d e le = absurd (cc d)

module _ (is_pointer : ℕ → Bool) (f : Function) (sound : IsSound f) (arms : NamesArms f.body) (g : Code) (same : bare g ≡ blocks_in f)
    (none : (rule at : ℕ) → Finds is_pointer g rule at → ⊥) where
  abbrev all : List Branching
  all = branches_in f

  -- ---- one back edge

  module _ (s : Spot) (node : Node is_pointer f s) (m k : ℕ) (is : construct_in s.body ≡ Some (ALoop m k)) (q : Spot) (part : Node is_pointer f q)
      (label : q.label ≡ k)
      (context : q.context ≡ InNext s.label m ∷ s.context) where
    abbrev back : List Branching
    back = arriving s.label (branches q.label q.body)

    -- the continue part ends in one back edge, or 405 is found
    there_is_one : (OneBackEdge g s.label → ⊥) → ⊥
    there_is_one never =
        let b = found is_pointer f sound arms g same s node in
        let next : next_of (Rattle.spv_blocks.specs.Blocks.construct g s.label) ≡ Some k =
        ap next_of (construct_of is_pointer f sound arms g same s node ∙ is) in
        each_walked is_pointer f sound arms g same none s node
        (λ w. none 405 (loop_at b.block.body) (BadContinue s.label k b.block s.context w b.same (runs is_pointer f sound arms g same s node) next never))

    -- which is a branch with values
    some_back : OneBackEdge g s.label → (y : Branching) × OneOf y back
    some_back edge =
        let x = back_sent is_pointer f sound arms g same (all_leave_well is_pointer f sound arms g same none) s node m k is edge.block edge.ends in
        let loop = loop_of is_pointer f sound arms g same s m k node is in
        let here : part_of is_pointer f sound arms g same (all_leave_well is_pointer f sound arms g same none) s node m k is ≡ q =
        one_node is_pointer f sound arms g same loop.next.spot q loop.next.led.node part (loop.next.label ∙ sym label) in
        ((edge.block, x.0), subst (λ z. OneOf {X = Branching} (edge.block, x.0) (arriving s.label (branches z.label z.body))) here x.1)

    -- and each branch with values is one from its block
    each_back : (edge : OneBackEdge g s.label) (y : Branching) → OneOf y back → y.0 ≡ edge.block
    each_back edge y h =
        let r = filter_from (λ b. b.1.target == s.label) y (branches q.label q.body) h in
        let source = body_sources is_pointer f q.context q.body q q.context q.label part part.position Here Here y r.0 in
        let w : Within (InNext s.label m ∷ s.context) source.spot.context = subst (λ z. Within z source.spot.context) context source.within in
        let to : y.1.target ≡ s.label = eqb-true y.1.target s.label r.1 in
        let goes : has (end_targets (first_end source.spot.body)) s.label ≡ true = ap (has (end_targets (first_end source.spot.body))) (sym to) ∙ source.goes in
        let branch = branches_to is_pointer f sound arms g same source.spot s.label source.node goes in
        let there : BackEdge g s.label source.spot.label =
        back_edge is_pointer f sound arms g same (all_leave_well is_pointer f sound arms g same none) s node m source.spot source.node w branch
        (leads_to is_pointer f sound arms g same source.spot s.label source.node branch) in
        sym source.label ∙ edge.one source.spot.label there

    pub one_back : ((p : ℕ) → sent s.label (branches q.label q.body) p ≤ 1) → length (arriving s.label (branches q.label q.body)) ≡ 1
    one_back few = by back refl
      where
        by : (bs : List Branching) → back ≡ bs → length bs ≡ 1
        by [] e = absurd (there_is_one (λ edge. (let y = some_back edge in subst (OneOf y.0) e y.1)))
        by (y ∷ []) e = refl
        by (y ∷ z ∷ bs) e =
            absurd (there_is_one (λ edge.
            let one = each_back edge y (subst (OneOf y) (sym e) (inl refl)) in
            let two = each_back edge z (subst (OneOf z) (sym e) (inr (inl refl))) in
            both_from y z bs edge.block one two (subst (λ ys. times (map (λ b. b.0) ys) edge.block ≤ 1) e (few edge.block))))

  -- ---- parameters

  parameters_fit : (s : Spot) (front : Front) → Node is_pointer f s → s.front ≡ Some front → front.label ≡ s.label
      → (ps : List Parameter) → AllByRecursion
      (λ p. (j : ℕ) × (phi_fits is_pointer g s.label p.type (phi_pairs j (in_order p.parents (arriving front.label all))) ≡ true)) ps
      → AllByRecursion (ParameterFits is_pointer (arriving front.label all)) ps
  parameters_fit s front n is at [] h = tt
  parameters_fit s front n is at (p ∷ ps) h =
      let here = arriving front.label all in
      let j = h.0.0 in
      let parents = seconds (phi_pairs j (in_order p.parents here)) in
      let well = all_leave_well is_pointer f sound arms g same none in
      let named : names_each_once (predecessors g s.label) parents ≡ true =
      both_right (not (is_first g s.label) && not (is_pointer p.type)) (names_each_once (predecessors g s.label) parents) h.0.1 in
      let value = both_right (not (is_first g s.label)) (not (is_pointer p.type))
      (both_left (not (is_first g s.label) && not (is_pointer p.type)) (names_each_once (predecessors g s.label) parents) h.0.1) in (
        record {
          value = not_true (is_pointer p.type) value;
          named = ap (names_each_once (map (λ b. b.0) here)) (sym (seconds_of j (in_order p.parents here)))
              ∙ named_by_same (map (λ b. b.0) here) (predecessors g s.label) parents (sent_from is_pointer f sound arms g same well s front n at)
              (sent_to is_pointer f sound arms g same well s front n is at) named;
        },
        parameters_fit s front n is at ps h.1,
      )

  pub front_fits : (s : Spot) (front : Front) → Node is_pointer f s → s.front ≡ Some front → FrontFits is_pointer all front
  front_fits s front n is =
      let b = found is_pointer f sound arms g same s n in
      let phis = front_empty (phi_faults is_pointer g s.label b.block.body) (merge_faults g s.label b.block.end b.block.body)
      (front_clean is_pointer f sound arms g same none s n) in
      let body : map bare_ins b.block.body ≡ front_ins all s.front ++ inside [] s.body = ap (λ z. z.body) b.alike in
      let here : front_ins all s.front ++ inside [] s.body ≡ front_ins all (Some front) ++ inside [] s.body =
      ap (λ z. front_ins all z ++ inside [] s.body) is in
      let clean : phi_faults is_pointer g s.label (front_ins all (Some front) ++ inside [] s.body) ≡ [] =
      ap (phi_faults is_pointer g s.label) (sym (body ∙ here)) ∙ phis_with is_pointer g s.label b.block.body phis in
      parameters_fit s front n is (n.fits front is).0 front.parameters
      (phis_fit is_pointer g s.label 0 (arriving front.label all) front.parameters (inside [] s.body) clean)
