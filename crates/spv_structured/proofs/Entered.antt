-- Each target of a tree that is no exit is entered where all exits are right: the block is its one counted predecessor, since all others that branch to it are its back edges.
use Rattle.std.proofs.Common.{◌≡◌, ◌≢◌, ℕ, zero, suc, ◌+◌, ◌≤◌, ◌<◌, inl, inr, Bool, true, false, ◌==◌, ◌&&◌, not, List, [], ◌∷◌, length, Option, Some, None, sym, ap, ◌∙◌, subst, arith}
use Rattle.spv_blocks.specs.Blocks.{Code, End, Construct, ASelection, ASwitch, ALoop, names, construct, merge_of, next_of, is_label, is_first, branches, goes, is_switch}
use Rattle.spv_walk.specs.Contexts.{Level, Context, InSelection, InArm, InBody, InNext, behind, next_context, is_exit}
use Rattle.spv_walk.specs.Walk.{Top, Begins, Past, Along, Back, Falls, Counted, Enters}
use Rattle.spv_walk.proofs.Unique.{both_hold, both_left, not_false, true_equal, goes_branches, goes_unnamed, goes_not_first}
use Rattle.spv_bodies.specs.Bodies.{Function}
use Rattle.spv_tree.specs.Sound.{IsSound}
use Rattle.spv_trees.specs.Standing.{OneOf}
use Rattle.spv_structured.specs.Structured.{NamesArms, first_end}
use Rattle.spv_structured.specs.Spots.{Spot, spots_in, blocks_in}
use Rattle.spv_structured.proofs.Bare.{bare}
use Rattle.spv_structured.proofs.Naming.{unnamed, entered_unnamed, first_not_entered}
use Rattle.spv_structured.proofs.Positions.{construct_in, Node, Going, Way, Goes, Merges, Continues}
use Rattle.spv_structured.proofs.Induction.{induct}
use Rattle.spv_structured.proofs.Targets.{Leads, Out, On, AllLeaveWell, body_leads}
use Rattle.spv_structured.proofs.Looked.{one_node, construct_of, branches_from, branches_to, label_of, names_of, first_of, brancher, looper, merge_to, merge_role, loop_of, next_role, runs}
use Rattle.spv_structured.proofs.Exits.{longer, behind_none, Opened, context_ok, end_ok, Turns, unnamed_exit}

-- only a loop has a continue target
pub loop_by_next : (k : Option Construct) (n : ℕ) → next_of k ≡ Some n → (m : ℕ) × (k ≡ Some (ALoop m n))
loop_by_next None n e = absurd (cc e)
loop_by_next (Some (ASelection m)) n e = absurd (cc e)
loop_by_next (Some (ASwitch m)) n e = absurd (cc e)
loop_by_next (Some (ALoop m c)) n e = (m, (let h : c ≡ n = cc e in ap (λ z. Some (ALoop m z)) h))

-- levels that are the same
header_of : Level → ℕ
header_of (InSelection m) = 0
header_of (InArm h m a) = h
header_of (InBody h m n) = h
header_of (InNext h m) = h

merge_in : Level → ℕ
merge_in (InSelection m) = m
merge_in (InArm h m a) = m
merge_in (InBody h m n) = m
merge_in (InNext h m) = m

first_level : (Level → ℕ) → Context → ℕ
first_level part [] = 0
first_level part (level ∷ c) = part level

outer : Context → Context
outer [] = []
outer (level ∷ c) = c

pub same_next : (h k m n : ℕ) (c d : Context) → InNext h m ∷ c ≡ InNext k n ∷ d → (h ≡ k) × (m ≡ n) × (c ≡ d)
unfolding header_of merge_in first_level outer
same_next h k m n c d e = (ap (first_level header_of) e, ap (first_level merge_in) e, ap outer e)

module _ (is_pointer : ℕ → Bool) (f : Function) (sound : IsSound f) (arms : NamesArms f.body) (g : Code) (same : bare g ≡ blocks_in f) where
  one : (s r : Spot) → Node is_pointer f s → Node is_pointer f r → s.label ≡ r.label → s ≡ r
  one s r n k e = one_node is_pointer f sound arms g same s r n k e

  opens : (s : Spot) → Node is_pointer f s → construct g s.label ≡ construct_in s.body
  opens s n = construct_of is_pointer f sound arms g same s n

  -- what a block leads to
  pub leads_to : (s : Spot) (t : ℕ) → Node is_pointer f s → branches g s.label t ≡ true → Leads is_pointer f s t
  leads_to s t n h = body_leads is_pointer f s.body s s.context s.label t n n.position (branches_from is_pointer f sound arms g same s t n h)

  unnamed_names : (t : ℕ) → OneOf t (unnamed f.body) → names g t ≡ 0
  unnamed_names t h = names_of is_pointer f sound arms g same t ∙ entered_unnamed f sound t h

  -- a block that branches to a label that no merge instruction names, and does not enter it, ends with a back edge
  pub record Turning (s : Spot) (t : ℕ) : Type 0 where
    pub bare : construct_in s.body ≡ None
    pub merge : ℕ
    pub header : Spot
    pub node : Node is_pointer f header
    pub label : header.label ≡ t
    pub context : s.context ≡ InNext t merge ∷ header.context

  pub turning : (s : Spot) (e : End) (t : ℕ) → Node is_pointer f s → names g t ≡ 0 → is_exit (behind (construct_in s.body) s.label t s.context) e t ≡ true → Turning s t
  turning s e t n none h =
      let turns = unnamed_exit is_pointer f sound arms g same (behind (construct_in s.body) s.label t s.context) e t
      (end_ok is_pointer f sound arms g same s t n) none h in
      let b = behind_none (construct_in s.body) s.label t s.context turns.outer t turns.merge turns.same_context in
      let o = turns.loop.1 in
      record { bare = b.0; merge = turns.merge; header = o.spot; node = o.node; label = turns.loop.2; context = b.1 ∙ ap (λ d. InNext t turns.merge ∷ d) (sym o.context) }

  -- a block that is entered is no exit
  pub no_exit : (s r : Spot) (e : End) → Node is_pointer f s → Node is_pointer f r → Going is_pointer f s r → is_exit (behind (construct_in s.body) s.label r.label s.context) e r.label ≡ true → ⊥
  no_exit s r e n k going h =
      let t = turning s e r.label n (unnamed_names r.label going.entered) h in
      let here : t.header ≡ r = one t.header r t.node k t.label in
      let a : r.context ≡ s.context = going.inside ∙ ap (λ z. behind z s.label r.label s.context) t.bare in
      longer (InNext r.label t.merge) r.context (a ∙ t.context ∙ ap (λ z. InNext r.label t.merge ∷ z.context) here)

  goes_to : (s r : Spot) → Node is_pointer f s → Node is_pointer f r → Going is_pointer f s r → goes g s.label r.label ≡ true
  goes_to s r n k going =
      let a : branches g s.label r.label ≡ true = branches_to is_pointer f sound arms g same s r.label n going.goes in
      let b : is_label g r.label ≡ true = label_of is_pointer f sound arms g same r k in
      let c : is_first g r.label ≡ false = first_of is_pointer f sound arms g same r.label
      ∙ Rattle.spv_walk.proofs.Unique.false_equal f.label r.label (λ e. first_not_entered f sound (subst (λ z. OneOf z (unnamed f.body)) (sym e) going.entered)) in
      both_hold (branches g s.label r.label && is_label g r.label && not (is_first g r.label)) (names g r.label == 0)
      (both_hold (branches g s.label r.label && is_label g r.label) (not (is_first g r.label)) (both_hold (branches g s.label r.label) (is_label g r.label) a b) (not_false (is_first g r.label) c))
      (true_equal (names g r.label) 0 (unnamed_names r.label going.entered))

  -- where all exits are exits in their contexts
  module _ (well : AllLeaveWell is_pointer f) where
    -- ---- what is not entered from elsewhere

    pub data Source (s r q : Spot) : Type 0 where
      From : q ≡ s → Source s r q
      Turned : construct_in q.body ≡ None → (m : ℕ) → q.context ≡ InNext r.label m ∷ r.context → Source s r q

    -- a block q that branches to the block r that s enters
    pub source : (s r q : Spot) → Node is_pointer f s → Node is_pointer f r → Node is_pointer f q → Going is_pointer f s r → r.from ≡ s.label → branches g q.label r.label ≡ true → Source s r q
    source s r q n k j going from h = by (leads_to q r.label j h)
      where
        by : Leads is_pointer f q r.label → Source s r q
        by (Out x x_in e exits) =
            let t = turning q (first_end q.body) r.label j (unnamed_names r.label going.entered) (well q j r.label exits) in
            let here : t.header ≡ r = one t.header r t.node k t.label in
            Turned t.bare t.merge (t.context ∙ ap (λ z. InNext r.label t.merge ∷ z.context) here)
        by (On p p_node p_going p_from e) =
            let here : p ≡ r = one p r p_node k e in
            From (one q s j n (sym p_from ∙ ap (λ z. z.from) here ∙ from))

    -- ---- the top of a continue part

    -- a block there stands right in the part
    pub record AtTop (h b : ℕ) : Type 0 where
      pub header : Spot
      pub header_node : Node is_pointer f header
      pub header_label : header.label ≡ h
      pub spot : Spot
      pub node : Node is_pointer f spot
      pub label : spot.label ≡ b
      pub merge : ℕ
      pub context : spot.context ≡ InNext h merge ∷ header.context

    moved_to : (h b : ℕ) (top : AtTop h b) (r : Spot) → Node is_pointer f r → (t : ℕ) → r.label ≡ t → r.context ≡ top.spot.context → AtTop h t
    moved_to h b top r n t e c = record {
      header = top.header;
      header_node = top.header_node;
      header_label = top.header_label;
      spot = r;
      node = n;
      label = e;
      merge = top.merge;
      context = c ∙ top.context;
    }

    pub at_top : (h b : ℕ) → Top g h b → AtTop h b
    at_top h b (Begins h2 c next role) =
        let l = looper is_pointer f sound arms g same h c next in
        let k : next_of (construct_in l.0.body) ≡ Some c = ap next_of (sym (opens l.0 l.1)) ∙ ap (λ z. next_of (construct g z)) l.2 ∙ next in
        let m = loop_by_next (construct_in l.0.body) c k in
        let to = (loop_of is_pointer f sound arms g same l.0 m.0 c l.1 m.1).next in
        record {
          header = l.0;
          header_node = l.1;
          header_label = l.2;
          spot = to.spot;
          node = to.led.node;
          label = to.label;
          merge = m.0;
          context = (let e : to.spot.context ≡ InNext l.0.label m.0 ∷ l.0.context = to.context in subst (λ z. to.spot.context ≡ InNext z m.0 ∷ l.0.context) l.2 e);
        }
    at_top h b (Past h2 p m top goes_on merge role) =
        let before = at_top h p top in
        let k : merge_of (construct_in before.spot.body) ≡ Some m = ap merge_of (sym (opens before.spot before.node)) ∙ ap (λ z. merge_of (construct g z)) before.label ∙ merge in
        let to = merge_to is_pointer f sound arms g same before.spot m before.node k in
        moved_to h p before to.spot to.led.node m to.label to.context
    at_top h b (Along h2 p t top bare free differ others bares) =
        let before = at_top h p top in
        let k : construct_in before.spot.body ≡ None = sym (opens before.spot before.node) ∙ ap (construct g) before.label ∙ bare in
        by before k (leads_to before.spot t before.node (ap (λ z. branches g z t) before.label ∙ goes_branches g p t free)) (goes_unnamed g p t free) differ
      where
        by : (before : AtTop h p) → construct_in before.spot.body ≡ None → Leads is_pointer f before.spot t → names g t ≡ 0 → t ≢ h → AtTop h t
        by before k (Out x x_in e exits) none n =
            let turn = turning before.spot (first_end before.spot.body) t before.node none (well before.spot before.node t exits) in
            absurd (n (same_next t h turn.merge before.merge turn.header.context before.header.context (sym turn.context ∙ before.context)).0)
        by before k (On r r_node going from e) none n =
            moved_to h p before r r_node t e (going.inside ∙ ap (λ z. behind z before.spot.label r.label before.spot.context) k)

    -- so no block that enters a header ends with its back edge
    pub no_back : (s r : Spot) → Node is_pointer f s → Node is_pointer f r → Going is_pointer f s r → Back g r.label s.label → ⊥
    no_back s r n k going back =
        let top = at_top r.label s.label back.top in
        let header : top.header ≡ r = one top.header r top.header_node k top.header_label in
        let here : top.spot ≡ s = one top.spot s top.node n top.label in
        let none : construct_in s.body ≡ None = sym (opens s n) ∙ back.bare in
        let a : r.context ≡ s.context = going.inside ∙ ap (λ z. behind z s.label r.label s.context) none in
        let b : s.context ≡ InNext r.label top.merge ∷ r.context = ap (λ z. z.context) (sym here) ∙ top.context ∙ ap (λ z. InNext r.label top.merge ∷ z.context) header in
        longer (InNext r.label top.merge) r.context (a ∙ b)

    -- ---- blocks right in a continue part stand at its top

    -- a context is no longer than all together
    abbrev sum : List Spot → ℕ
    sum [] = 0
    sum (s ∷ ss) = length s.context + sum ss

    within_sum : (spots : List Spot) (s : Spot) → OneOf s spots → length s.context ≤ sum spots
    within_sum [] s h = absurd h
    within_sum (x ∷ xs) s (inl e) = let a = ap (λ z. length z.context) e in omega (arith, a)
    within_sum (x ∷ xs) s (inr h) = let a = within_sum xs s h in omega (arith, a)

    -- with contexts that leave so many levels at most
    abbrev Tops : ℕ → Spot → Type 0
    Tops room q = (h m : ℕ) (c : Context) → q.context ≡ InNext h m ∷ c → sum (spots_in f) < room + length q.context → Top g h q.label

    goes_top : (room : ℕ) → ((q : Spot) → OneOf q (spots_in f) → Tops room q) → (s r : Spot) → Node is_pointer f s → Node is_pointer f r → r.from ≡ s.label → Going is_pointer f s r → Tops (suc room) s → Tops (suc room) r
    goes_top room deeper s r n k from going before h m c e far =
        let b = behind_none (construct_in s.body) s.label r.label s.context c h m (sym going.inside ∙ e) in
        let inside : s.context ≡ r.context = b.1 ∙ sym e in
        let len = ap length inside in
        let bare : construct g s.label ≡ None = opens s n ∙ b.0 in
        let ok = subst (λ z. Rattle.spv_structured.proofs.Exits.ContextOk is_pointer f sound arms g same z) e
        (context_ok is_pointer f sound arms g same r k.member) in
        let header = ok.0.1 in
        let differ : r.label ≢ h = λ d.
        let here : header.spot ≡ r = one header.spot r header.node k (ok.0.2 ∙ sym d) in
        longer (InNext h m) c (sym header.context ∙ ap (λ z. z.context) here ∙ e) in
        Along h s.label r.label (before h m c b.1 (omega (arith, far, len))) bare (goes_to s r n k going) differ
        (λ q other branch. (turned q other branch).0) (λ q other branch. (turned q other branch).1)
      where
        turned : (q : ℕ) → q ≢ s.label → branches g q r.label ≡ true → Top g r.label q × (construct g q ≡ None)
        turned q other branch =
            let p = brancher is_pointer f sound arms g same q r.label branch in
            let branch2 : branches g p.0.label r.label ≡ true = ap (λ z. branches g z r.label) p.2 ∙ branch in
            by p.0 p.1 p.2 (source s r p.0 n k p.1 going from branch2)
          where
            by : (p : Spot) → Node is_pointer f p → p.label ≡ q → Source s r p → Top g r.label q × (construct g q ≡ None)
            by p j e (From d) = absurd (other (sym e ∙ ap (λ z. z.label) d))
            by p j e (Turned none m2 d) =
                let len = ap length d in
                (subst (λ z. Top g r.label z) e (deeper p j.member r.label m2 r.context d (omega (arith, far, len))), ap (construct g) (sym e) ∙ opens p j ∙ none)

    way_top : (room : ℕ) → ((q : Spot) → OneOf q (spots_in f) → Tops room q) → (s r : Spot) → Node is_pointer f s → Node is_pointer f r → r.from ≡ s.label → Way is_pointer f s r → Tops (suc room) s → Tops (suc room) r
    way_top room deeper s r n k from (Goes going) before = goes_top room deeper s r n k from going before
    way_top room deeper s r n k from (Merges is inside) before = λ h m c e far.
        let len = ap length inside in
        Past h s.label r.label (before h m c (sym inside ∙ e) (omega (arith, far, len))) (runs is_pointer f sound arms g same s n)
        (ap merge_of (opens s n) ∙ is) (merge_role is_pointer f sound arms g same s r.label n is)
    way_top room deeper s r n k from (Continues is inside) before = λ h m c e far.
        let l = loop_by_next (construct_in s.body) r.label is in
        let d : InNext s.label l.0 ∷ s.context ≡ InNext h m ∷ c = ap (λ z. next_context z s.label s.context) (sym l.1) ∙ sym inside ∙ e in
        subst (λ z. Top g z r.label) (same_next s.label h l.0 m s.context c d).0
        (Begins s.label r.label (ap next_of (opens s n) ∙ is) (next_role is_pointer f sound arms g same s l.0 r.label n l.1))

    -- by induction on the room that is left, since a header's back edges stand one level deeper
    tops : (room : ℕ) (q : Spot) → OneOf q (spots_in f) → Tops room q
    tops zero q member = λ h m c e far. let a = within_sum (spots_in f) q member in absurd (omega (arith, a, far))
    tops (suc room) q member =
        induct is_pointer f (Tops (suc room)) (λ s r n led before. way_top room (tops room) s r n led.node led.child.from led.child.way before) sound arms
        (λ h m c e far. (let a = ap length e in absurd (omega (arith, a)))) q member

    pub stands_at_top : (q : Spot) → Node is_pointer f q → (h m : ℕ) (c : Context) → q.context ≡ InNext h m ∷ c → Top g h q.label
    stands_at_top q n h m c e = tops (suc (sum (spots_in f))) q n.member h m c e (omega arith)

    -- ---- entering

    no_fall : (s r : Spot) → Node is_pointer f s → Node is_pointer f r → Going is_pointer f s r → r.from ≡ s.label → Falls g r.label s.label → ⊥
    no_fall s r n k going from falls =
        let switches : is_switch (construct g falls.switch) ≡ true =
        both_left (is_switch (construct g falls.switch)) (branches g falls.switch r.label) (both_left (is_switch (construct g falls.switch) && branches g falls.switch r.label) (names g r.label == 0) falls.to_case) in
        let branch : branches g falls.switch r.label ≡ true =
        Rattle.spv_walk.proofs.Unique.both_right (is_switch (construct g falls.switch)) (branches g falls.switch r.label)
        (both_left (is_switch (construct g falls.switch) && branches g falls.switch r.label) (names g r.label == 0) falls.to_case) in
        let p = brancher is_pointer f sound arms g same falls.switch r.label branch in
        by p.0 p.1 p.2 switches (source s r p.0 n k p.1 going from (ap (λ z. branches g z r.label) p.2 ∙ branch))
      where
        by : (p : Spot) → Node is_pointer f p → p.label ≡ falls.switch → is_switch (construct g falls.switch) ≡ true → Source s r p → ⊥
        by p j e switches (From d) = falls.other (ap (λ z. z.label) (sym d) ∙ e)
        by p j e switches (Turned none m d) =
            let a : is_switch (construct g falls.switch) ≡ false = ap (λ z. is_switch (construct g z)) (sym e) ∙ ap is_switch (opens p j ∙ none) in
            cc (a, switches)

    pub enters : (s r : Spot) → Node is_pointer f s → Node is_pointer f r → Going is_pointer f s r → r.from ≡ s.label → Enters g s.label r.label
    enters s r n k going from = record {
      free = goes_to s r n k going;
      counted = record {
        branch = branches_to is_pointer f sound arms g same s r.label n going.goes;
        no_back = no_back s r n k going;
        no_fall = no_fall s r n k going from;
      };
      one = λ q counted.
          let p = brancher is_pointer f sound arms g same q r.label counted.branch in
          by q counted p.0 p.1 p.2 (source s r p.0 n k p.1 going from (ap (λ z. branches g z r.label) p.2 ∙ counted.branch));
    }
      where
        by : (q : ℕ) → Counted g r.label q → (p : Spot) → Node is_pointer f p → p.label ≡ q → Source s r p → q ≡ s.label
        by q counted p j e (From d) = sym e ∙ ap (λ z. z.label) d
        by q counted p j e (Turned none m d) =
            absurd (counted.no_back (record { top = subst (λ z. Top g r.label z) e (stands_at_top p j r.label m r.context d); bare = ap (construct g) (sym e) ∙ opens p j ∙ none }))
