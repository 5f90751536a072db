-- What passes from each block of a tree to those that it leads to holds of all.
use Rattle.std.proofs.Common.{ℕ, Bool, List, [], ◌∷◌, ◌++◌, Some, None}
use Rattle.std.specs.List.{AllByRecursion}
use Rattle.spv_walk.specs.Contexts.{Context, InSelection, InArm, InBody, InNext}
use Rattle.spv_bodies.specs.Bodies.{Front, ByBranch, InPlace, Body, Leaves, Finishes, Step, Enters, Splits, Selects, Switches, Loops, Arms, Last, Also, Function, target}
use Rattle.spv_tree.specs.Sound.{IsSound}
use Rattle.spv_trees.specs.Standing.{OneOf}
use Rattle.spv_structured.specs.Structured.{NamesArms}
use Rattle.spv_structured.specs.Spots.{Spot, others, others_of_arms, first_spot, spots_in}
use Rattle.spv_structured.proofs.Lists.{each_at}
use Rattle.spv_structured.proofs.Positions.{Position, ArmsPosition, Node, Led, stepped, past_split, first_arm, second_arm, arms_of, last_arm, next_arm, arms_behind, in_header, entered_node, header_node, selection_node, switch_node, next_node, merge_node, first_node}

each_append : {X : Type 0} (P : X → Type 0) (xs ys : List X) → AllByRecursion P xs → AllByRecursion P ys → AllByRecursion P (xs ++ ys)
each_append P [] ys h g = g
each_append P (x ∷ xs) ys h g = (h.0, each_append P xs ys h.1 g)

module _ (is_pointer : ℕ → Bool) (f : Function) (P : Spot → Type 0) (step : (s r : Spot) → Node is_pointer f s → Led is_pointer f s r → P s → P r) where
  abbrev Holds : Body → Type 0
  Holds b = (s : Spot) (c : Context) (l : ℕ) → Node is_pointer f s → Position is_pointer f s c l b → P s → AllByRecursion P (others c l b)

  -- a block and what is behind it
  from_led : (s r : Spot) → Node is_pointer f s → Led is_pointer f s r → P s → Holds r.body → AllByRecursion P (r ∷ others r.context r.label r.body)
  from_led s r n led h holds =
      let g = step s r n led h in
      (g, holds r r.context r.label led.node led.node.position g)

  loop_holds : (header : Front) (control : ℕ) (inner : Body) (next : Front) (continuing : Body) (merge : Front) (rest : Body) → Holds inner → Holds continuing → Holds rest
      → Holds (Loops InPlace header control inner next continuing merge rest)
  loop_holds header control inner next continuing merge rest one two three s c l n p h =
      let i = InBody header.label merge.label next.label ∷ c in
      let j = InNext header.label merge.label ∷ c in
      let q : Spot = record { context = j; from = header.label; label = next.label; front = Some next; body = continuing } in
      let r : Spot = record { context = c; from = header.label; label = merge.label; front = Some merge; body = rest } in
      let last = from_led s r n (merge_node is_pointer f s c l header control inner next continuing merge rest n p) h three in
      let middle = from_led s q n (next_node is_pointer f s c l header control inner next continuing merge rest n p) h two in
      each_append P (others i header.label inner) (q ∷ (others j next.label continuing ++ (r ∷ others c merge.label rest)))
      (one s i header.label n (in_header is_pointer f s c l header control inner next continuing merge rest p) h)
      (middle.0, each_append P (others j next.label continuing) (r ∷ others c merge.label rest) middle.1 last)

  mutual
    body_holds : (b : Body) (s : Spot) (c : Context) (l : ℕ) → Node is_pointer f s → Position is_pointer f s c l b → P s → AllByRecursion P (others c l b)
    body_holds (Leaves exit) s c l n p h = tt
    body_holds (Finishes words) s c l n p h = tt
    body_holds (Step words b) s c l n p h = body_holds b s c l n (stepped is_pointer f s c l words b p) h
    body_holds (Enters label b) s c l n p h =
        from_led s (record { context = c; from = l; label = label; front = None; body = b }) n (entered_node is_pointer f s c l label b n p) h (body_holds b)
    body_holds (Splits condition on exit b) s c l n p h = body_holds b s c l n (past_split is_pointer f s c l condition on exit b p) h
    body_holds (Selects control condition first second merge rest) s c l n p h =
        let i = InSelection merge.label ∷ c in
        let r : Spot = record { context = c; from = l; label = merge.label; front = Some merge; body = rest } in
        each_append P (others i l first) (others i l second ++ (r ∷ others c merge.label rest))
        (body_holds first s i l n (first_arm is_pointer f s c l control condition first second merge rest p) h)
        (each_append P (others i l second) (r ∷ others c merge.label rest)
        (body_holds second s i l n (second_arm is_pointer f s c l control condition first second merge rest p) h)
        (from_led s r n (selection_node is_pointer f s c l control condition first second merge rest n p) h (body_holds rest)))
    body_holds (Switches control selector cases arms merge rest) s c l n p h =
        let r : Spot = record { context = c; from = l; label = merge.label; front = Some merge; body = rest } in
        each_append P (others_of_arms c l merge.label arms) (r ∷ others c merge.label rest)
        (arms_hold arms s c l merge.label n (arms_of is_pointer f s c l control selector cases arms merge rest p) h)
        (from_led s r n (switch_node is_pointer f s c l control selector cases arms merge rest n p) h (body_holds rest))
    body_holds (Loops (ByBranch values) header control inner next continuing merge rest) s c l n p h =
        from_led s (record { context = c; from = l; label = header.label; front = Some header; body = Loops InPlace header control inner next continuing merge rest }) n
        (header_node is_pointer f s c l values header control inner next continuing merge rest n p) h
        (loop_holds header control inner next continuing merge rest (body_holds inner) (body_holds continuing) (body_holds rest))
    body_holds (Loops InPlace header control inner next continuing merge rest) s c l n p h =
        loop_holds header control inner next continuing merge rest (body_holds inner) (body_holds continuing) (body_holds rest) s c l n p h

    arms_hold : (arms : Arms) (s : Spot) (c : Context) (l m : ℕ) → Node is_pointer f s → ArmsPosition is_pointer f s c l m arms → P s → AllByRecursion P (others_of_arms c l m arms)
    arms_hold (Last arm) s c l m n p h = body_holds arm s (InArm l m (target arm) ∷ c) l n (last_arm is_pointer f s c l m arm p) h
    arms_hold (Also arm arms) s c l m n p h =
        each_append P (others (InArm l m (target arm) ∷ c) l arm) (others_of_arms c l m arms)
        (body_holds arm s (InArm l m (target arm) ∷ c) l n (next_arm is_pointer f s c l m arm arms p) h)
        (arms_hold arms s c l m n (arms_behind is_pointer f s c l m arm arms p) h)

  pub induct : IsSound f → NamesArms f.body → P (first_spot f) → (s : Spot) → OneOf s (spots_in f) → P s
  induct sound arms h s g =
      let n = first_node is_pointer f sound arms in
      each_at P (spots_in f) (h, body_holds f.body (first_spot f) [] f.label n n.position h) s g

-- each is a block of the tree
pub each_node : (is_pointer : ℕ → Bool) (f : Function) → IsSound f → NamesArms f.body → (s : Spot) → OneOf s (spots_in f) → Node is_pointer f s
each_node is_pointer f sound arms s g =
    induct is_pointer f (Node is_pointer f) (λ s r n led h. led.node) sound arms (first_node is_pointer f sound arms) s g
