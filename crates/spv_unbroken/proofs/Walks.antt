-- The walk goes through a tree as long as no rule is broken: each block cannot but be walked in its context. So a block breaks no rule by its own words,
-- and each exit is one in its context.
use Rattle.std.proofs.Common.{◌≡◌, ℕ, ◌≤◌, ◌⊎◌, inl, inr, Bool, true, false, ◌&&◌, not, List, [], Option, Some, None, refl, sym, ap, ◌∙◌, subst, arith}
use Rattle.std.proofs.lemmas.Bool.{eq-eqb}
use Rattle.spv_blocks.specs.Blocks.{Code, Block, construct, block, merge_of, next_of, is_label, is_first, is_some_block, branches, stops, names, times}
use Rattle.spv_walk.specs.Contexts.{behind, next_context, is_exit, is_fall}
use Rattle.spv_walk.specs.Walk.{Enters, end_of, leads, tries, Walk, Starts, Entered, Merged, Continued}
use Rattle.spv_walk.specs.Faults.{end_rules}
use Rattle.spv_walk.specs.Rules.{at_front, at_end, end_at, Finds, AtFront, AtEnd, BadTarget, CaseFall}
use Rattle.spv_walk.proofs.Unique.{both_hold, both_left, both_right, not_false, tells, stops_next, one_enterer, goes_not_first, goes_unnamed, merge_is_named, next_is_named}
use Rattle.spv_bodies.specs.Bodies.{Function}
use Rattle.spv_bodies.specs.Listing.{Branching}
use Rattle.spv_tree.specs.Branches.{branches_in}
use Rattle.spv_tree.specs.Sound.{IsSound}
use Rattle.spv_trees.specs.Standing.{OneOf}
use Rattle.spv_structured.specs.Structured.{NamesArms, first_end}
use Rattle.spv_structured.specs.Spots.{Spot, first_spot, blocks_in}
use Rattle.spv_structured.proofs.Bare.{bare}
use Rattle.spv_structured.proofs.Counting.{one_by}
use Rattle.spv_structured.proofs.Positions.{construct_in, Leaving, Entering, heading_to, ways, Node, Going, Way, Goes, Merges, Continues, Led}
use Rattle.spv_structured.proofs.Induction.{induct}
use Rattle.spv_structured.proofs.Targets.{AllLeaveWell}
use Rattle.spv_structured.proofs.Looked.{one_node, construct_of, found, placed, looper, branches_to, first_of, merge_role, next_role, runs}
use Rattle.spv_structured.proofs.Entered.{loop_by_next, no_exit}
use Rattle.spv_structured.proofs.Unbroken.{exit_at}
use Rattle.spv_unbroken.proofs.Own.{no_faults, no_rules, ends_differ}
use Rattle.spv_unbroken.proofs.Headings.{led_to, leads_once, heading_leads}

some_block : (o : Option Block) → is_some_block o ≡ true → (b : Block) × (o ≡ Some b)
some_block None e = absurd (cc e)
some_block (Some b) e = (b, refl)

module _ (is_pointer : ℕ → Bool) (f : Function) (sound : IsSound f) (arms : NamesArms f.body) (g : Code) (same : bare g ≡ blocks_in f)
    (none : (rule at : ℕ) → Finds is_pointer g rule at → ⊥) where
  abbrev all : List Branching
  all = branches_in f

  opens : (s : Spot) → Node is_pointer f s → construct g s.label ≡ construct_in s.body
  opens s n = construct_of is_pointer f sound arms g same s n

  -- no block is a header that is its own continue target
  none_stops : (t : ℕ) → stops g t ≡ false
  none_stops t = elim (tells (stops g t)) [
    | inl e ↦
        let l = looper is_pointer f sound arms g same t t (stops_next g t e) in
        ap (stops g) (sym l.2) ∙ runs is_pointer f sound arms g same l.0 l.1
    | inr e ↦ e
  ]

  abbrev exits_at : Spot → ℕ → Bool
  exits_at s t = is_exit (behind (construct_in s.body) s.label t s.context) (first_end s.body) t

  -- where a walked block goes to a label that is no exit, it enters that
  attempt : (s : Spot) (t : ℕ) → Node is_pointer f s → Walk g s.label s.context → branches g s.label t ≡ true → exits_at s t ≡ false
      → (tries g s.label s.context t ≡ true → Enters g s.label t → ⊥) → ⊥
  attempt s t n w branch away k =
      let led : leads g s.label s.context t ≡ true =
      both_hold (not (stops g s.label) && branches g s.label t) (not (is_exit (behind (construct g s.label) s.label t s.context) (end_of g s.label) t))
      (both_hold (not (stops g s.label)) (branches g s.label t) (not_false (stops g s.label) (runs is_pointer f sound arms g same s n)) branch)
      (not_false (is_exit (behind (construct g s.label) s.label t s.context) (end_of g s.label) t) (exit_at is_pointer f sound arms g same s t n ∙ away)) in
      elim (tells (is_fall g s.context t)) [
        | inl fall ↦ none 404 (end_at g s.label) (CaseFall s.label t s.context w led fall)
        | inr other ↦
            let tried : tries g s.label s.context t ≡ true =
            both_hold (leads g s.label s.context t) (not (is_fall g s.context t)) led (not_false (is_fall g s.context t) other) in
            none 402 (end_at g s.label) (BadTarget s.label t s.context w tried (none_stops t) (λ e. k tried e))
      ]

  -- ---- each block is walked

  abbrev pub IsWalked : Spot → Type 0
  IsWalked s = (Walk g s.label s.context → ⊥) → ⊥

  enters_on : (s r : Spot) → Node is_pointer f s → Node is_pointer f r → Going is_pointer f s r → exits_at s r.label ≡ false
  enters_on s r n k going = elim (tells (exits_at s r.label)) [
    | inl e ↦ absurd (no_exit is_pointer f sound arms g same s r (first_end s.body) n k going e)
    | inr e ↦ e
  ]

  goes_walked : (s r : Spot) → Node is_pointer f s → Node is_pointer f r → Going is_pointer f s r → IsWalked s → IsWalked r
  goes_walked s r n k going before = λ never.
      before (λ w. attempt s r.label n w (branches_to is_pointer f sound arms g same s r.label n going.goes) (enters_on s r n k going)
      (λ tried e. never (subst (Walk g r.label) (ap (λ z. behind z s.label r.label s.context) (opens s n) ∙ sym going.inside)
      (Entered s.label r.label s.context w tried e))))

  way_walked : (s r : Spot) → Node is_pointer f s → Node is_pointer f r → Way is_pointer f s r → IsWalked s → IsWalked r
  way_walked s r n k (Goes going) before = goes_walked s r n k going before
  way_walked s r n k (Merges is inside) before = λ never.
      before (λ w. never (subst (Walk g r.label) (sym inside)
      (Merged s.label r.label s.context w (runs is_pointer f sound arms g same s n) (ap merge_of (opens s n) ∙ is)
      (merge_role is_pointer f sound arms g same s r.label n is))))
  way_walked s r n k (Continues is inside) before = λ never.
      let l = loop_by_next (construct_in s.body) r.label is in
      before (λ w. never (subst (Walk g r.label) (ap (λ z. next_context z s.label s.context) (opens s n) ∙ sym inside)
      (Continued s.label r.label s.context w (runs is_pointer f sound arms g same s n) (ap next_of (opens s n) ∙ is)
      (next_role is_pointer f sound arms g same s l.0 r.label n l.1))))

  pub each_walked : (s : Spot) → Node is_pointer f s → IsWalked s
  each_walked s n =
      induct is_pointer f IsWalked (λ s r n led before. way_walked s r n led.node led.child.way before) sound arms
      (λ never. never (Starts f.label (first_of is_pointer f sound arms g same f.label ∙ eq-eqb f.label f.label refl))) s n.member

  -- ---- what a block tells by its own words

  pub front_clean : (s : Spot) (n : Node is_pointer f s) → at_front is_pointer g s.label (found is_pointer f sound arms g same s n).block ≡ []
  front_clean s n =
      let b = found is_pointer f sound arms g same s n in
      no_faults (at_front is_pointer g s.label b.block) (λ r h. each_walked s n (λ w. none r.rule r.at (AtFront s.label b.block s.context r w b.same h)))

  pub end_clean : (s : Spot) → Node is_pointer f s
      → end_rules (construct_in s.body) (behind (construct_in s.body) s.label s.label s.context) (first_end s.body) ≡ []
  end_clean s n =
      let b = found is_pointer f sound arms g same s n in
      let faults = no_faults (at_end g s.label s.context b.block)
      (λ r h. each_walked s n (λ w. none r.rule r.at (AtEnd s.label b.block s.context r w b.same (runs is_pointer f sound arms g same s n) h))) in
      let end : b.block.end ≡ first_end s.body = ap (λ z. z.end) b.alike in
      sym (ap (λ k. end_rules k (behind k s.label s.label s.context) b.block.end) (opens s n) ∙ ap
      (end_rules (construct_in s.body) (behind (construct_in s.body) s.label s.label s.context)) end)
      ∙ no_rules b.block.end_at (end_rules (construct g s.label) (behind (construct g s.label) s.label s.label s.context) b.block.end) faults

  pub leads_apart : (s : Spot) → Node is_pointer f s → (t : ℕ) → times (led_to s.body) t ≤ 1
  leads_apart s n t =
      leads_once s.body all n.position.formed
      (ends_differ (construct_in s.body) (behind (construct_in s.body) s.label s.label s.context) (first_end s.body) (end_clean s n)) t

  -- ---- exits

  -- each block but the first is led to
  abbrev LedTo : Spot → Type 0
  LedTo r = (r ≡ first_spot f) ⊎ ((s : Spot) × Node is_pointer f s × Led is_pointer f s r)

  led_to_each : (r : Spot) → Node is_pointer f r → LedTo r
  led_to_each r n = induct is_pointer f LedTo (λ s r n led before. inr (s, n, led)) sound arms (inl refl) r n.member

  -- an exit leads to no block that the walk enters from there: that is entered where the tree says, and not by an exit
  way_not_left : (s : Spot) (t : ℕ) → Node is_pointer f s → OneOf (Leaving t) (ways s.body) → Enters g s.label t
      → (q r : Spot) → Node is_pointer f q → Node is_pointer f r → r.label ≡ t → Way is_pointer f q r → ⊥
  way_not_left s t n h e q r m k at (Merges is inside) =
      let a = merge_is_named g q.label r.label (ap merge_of (opens q m) ∙ is) in
      let b : names g r.label ≡ 0 = ap (names g) at ∙ goes_unnamed g s.label t e.free in
      omega (arith, a, b)
  way_not_left s t n h e q r m k at (Continues is inside) =
      let a = next_is_named g q.label r.label (ap next_of (opens q m) ∙ is) in
      let b : names g r.label ≡ 0 = ap (names g) at ∙ goes_unnamed g s.label t e.free in
      omega (arith, a, b)
  way_not_left s t n h e q r m k at (Goes going) =
      each_walked q m (λ w. attempt q r.label m w (branches_to is_pointer f sound arms g same q r.label m going.goes) (enters_on q r m k going)
      (λ tried d.
      let from : q.label ≡ s.label = one_enterer g q.label s.label t (subst (Enters g q.label) at d) e in
      let here : q ≡ s = one_node is_pointer f sound arms g same q s m n from in
      let i : OneOf (Entering r.label) (ways s.body) = subst (λ z. OneOf (Entering r.label) (ways z.body)) here going.way_on in
      let two : Entering r.label ≡ Leaving t = one_by heading_to (ways s.body) (leads_apart s n) (Entering r.label) (Leaving t) i h at in
      cc two))

  not_left : (s : Spot) (t : ℕ) → Node is_pointer f s → OneOf (Leaving t) (ways s.body) → Enters g s.label t → ⊥
  not_left s t n h e =
      let b = some_block (block g t) (both_right (branches g s.label t) (is_label g t)
      (both_left (branches g s.label t && is_label g t) (not (is_first g t))
      (both_left (branches g s.label t && is_label g t && not (is_first g t)) _ e.free))) in
      let p = placed is_pointer f sound arms g same t b.0 b.1 in
      by p.spot p.node p.label (led_to_each p.spot p.node)
    where
      by : (r : Spot) → Node is_pointer f r → r.label ≡ t → LedTo r → ⊥
      by r k at (inl first) =
          let a : is_first g t ≡ true = first_of is_pointer f sound arms g same t ∙ eq-eqb f.label t (ap (λ z. z.label) (sym first) ∙ at) in
          let b = goes_not_first g s.label t e.free in
          cc (a, b)
      by r k at (inr (q, m, led)) = way_not_left s t n h e q r m k at led.child.way

  pub all_leave_well : AllLeaveWell is_pointer f
  all_leave_well s n t h = elim (tells (exits_at s t)) [
    | inl e ↦ e
    | inr e ↦
        let goes = heading_leads s.body all n.position.formed n.position.named (Leaving t) h in
        absurd (each_walked s n (λ w. attempt s t n w (branches_to is_pointer f sound arms g same s t n goes) e (λ tried d. not_left s t n h d)))
  ]
