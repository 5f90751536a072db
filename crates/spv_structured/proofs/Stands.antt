-- A function that is sound as a tree and structured is sound where it stands: each exit reaches a construct round it, since it is an exit in its context.
use Rattle.std.proofs.Common.{◌≡◌, ℕ, ◌⊎◌, inl, inr, Bool, true, false, ◌==◌, ◌&&◌, ◌||◌, cond, List, [], ◌∷◌, ◌++◌, length, Option, Some, None, refl, sym, ap}
use Rattle.std.specs.Prelude.{All, Contains}
use Rattle.std.specs.List.{AllByRecursion}
use Rattle.std.proofs.lemmas.Bool.{eqb-true, eq-eqb}
use Rattle.std.proofs.lemmas.List.Elements.{recursion_from_All}
use Rattle.spv_blocks.specs.Blocks.{End}
use Rattle.spv_walk.specs.Contexts.{Context, InSelection, InArm, InBody, InNext, is_exit, leaves_inner, leaves_switch, leaves_loop, is_back_pair}
use Rattle.spv_walk.proofs.Unique.{either_holds, both_left, left_holds, right_holds}
use Rattle.spv_bodies.specs.Bodies.{Exit, Front, Entry, ByBranch, InPlace, Body, Leaves, Finishes, Step, Enters, Splits, Selects, Switches, Loops, Arms, Last, Also, target}
use Rattle.spv_bodies.specs.Listing.{Branching, branches, branches_of_arms, arriving, entering}
use Rattle.spv_tree.specs.Branches.{branches_in}
use Rattle.spv_tree.specs.Fronts.{CarriesAll, IsFilled}
use Rattle.spv_tree.specs.Sound.{AreAlike, IsSound, IsFormed, AreFormed, IsSwitch, ArePlaced, ArmsArePlaced, targets}
use Rattle.spv_trees.specs.Standing.{OneOf, Covers, has_arm}
use Rattle.spv_trees.specs.Sound as standing
use Rattle.spv_trees.specs.Sound.{Reaches, LeadsTo, SameValues, IsSoundFunction}
use Rattle.spv_trees.proofs.Members.{one_left, one_right}
use Rattle.spv_structured.specs.Structured.{Flows, ArmsFlow, first_end}
use Rattle.spv_structured.specs.Laws.{StructuredStands}
use Rattle.spv_structured.proofs.Lists.{all_at, contained, filter_in, pairs_at, Same, Before, Behind}
use Rattle.spv_structured.proofs.Middles.{step_is_middle, end_is_end}

-- ---- cases

arm_found : (arms : Arms) (label : ℕ) → OneOf label (targets arms) → has_arm arms label ≡ true
arm_found (Last arm) label (inl e) = eq-eqb (target arm) label (sym e)
arm_found (Last arm) label (inr h) = absurd h
arm_found (Also arm arms) label (inl e) = ap (λ b. cond b true (has_arm arms label)) (eq-eqb (target arm) label (sym e))
arm_found (Also arm arms) label (inr h) = later (target arm == label) (arm_found arms label h)
  where
    later : (b : Bool) → has_arm arms label ≡ true → cond b true (has_arm arms label) ≡ true
    later true e = refl
    later false e = e

cases_found : (arms : Arms) (cases : List (ℕ × ℕ)) → AllByRecursion (λ case. Contains (targets arms) case.1) cases → Covers arms cases
cases_found arms [] h = tt
cases_found arms (case ∷ cases) h = (arm_found arms case.1 (contained (targets arms) case.1 h.0), cases_found arms cases h.1)

-- ---- bodies

module _ (all : List Branching) where
  -- the exit carries as many values as its target has parameters
  abbrev Carries : Exit → Type 0
  Carries exit = (front : Front) → IsFilled all front → exit.target ≡ front.label → length exit.values ≡ length front.parameters

  carries : (l : ℕ) (exit : Exit) → OneOf (l, exit) all → Carries exit
  carries l exit h front filled e =
      all_at (CarriesAll (length front.parameters)) (arriving front.label all) filled.values (l, exit)
      (filter_in (λ branching. branching.1.target == front.label) (l, exit) all h (eq-eqb exit.target front.label e))

  -- what is an exit in the context reaches one of these blocks
  abbrev Scopes : Context → List Front → Type 0
  Scopes c fronts = (e : End) (exit : Exit) → Carries exit → is_exit c e exit.target ≡ true → Reaches fronts exit

  -- an exit from a switch or a loop round the place
  outer : (c : Context) (e : End) (t : ℕ) → leaves_switch c t ≡ true ⊎ leaves_loop c t ≡ true → is_exit c e t ≡ true
  outer c e t (inl h) = left_holds (leaves_inner c e t || leaves_switch c t) (leaves_loop c t) (right_holds (leaves_inner c e t) (leaves_switch c t) h)
  outer c e t (inr h) = right_holds (leaves_inner c e t || leaves_switch c t) (leaves_loop c t) h

  at_front : (front : Front) (fronts : List Front) (exit : Exit) → IsFilled all front → Carries exit → (exit.target == front.label) ≡ true → Reaches (front ∷ fronts) exit
  at_front front fronts exit filled carried h =
      let e = eqb-true exit.target front.label h in
      inl (e, carried front filled e)

  nowhere : (c : Context) (fronts : List Front) (e : End) (exit : Exit) → c ≡ [] → is_exit c e exit.target ≡ true → Reaches fronts exit
  nowhere [] fronts e exit d h = absurd (cc h)
  nowhere (level ∷ c) fronts e exit d h = absurd (cc d)

  in_selection : (c : Context) (fronts : List Front) (merge : Front) → IsFilled all merge → Scopes c fronts → Scopes (InSelection merge.label ∷ c) (merge ∷ fronts)
  in_selection c fronts merge filled scope e exit carried h =
      let t = exit.target in
      elim (either_holds ((t == merge.label) || leaves_switch c t) (leaves_loop c t) h) [
        | inl g ↦ elim (either_holds (t == merge.label) (leaves_switch c t) g) [
          | inl k ↦ at_front merge fronts exit filled carried k
          | inr k ↦ inr (scope e exit carried (outer c e t (inl k)))
        ]
        | inr g ↦ inr (scope e exit carried (outer c e t (inr g)))
      ]

  in_arm : (c : Context) (fronts : List Front) (merge : Front) (l a : ℕ) → IsFilled all merge → Scopes c fronts → Scopes (InArm l merge.label a ∷ c) (merge ∷ fronts)
  in_arm c fronts merge l a filled scope e exit carried h =
      let t = exit.target in
      elim (either_holds ((t == merge.label) || (t == merge.label)) (leaves_loop c t) h) [
        | inl g ↦ elim (either_holds (t == merge.label) (t == merge.label) g) [
          | inl k ↦ at_front merge fronts exit filled carried k
          | inr k ↦ at_front merge fronts exit filled carried k
        ]
        | inr g ↦ inr (scope e exit carried (outer c e t (inr g)))
      ]

  in_body : (c : Context) (fronts : List Front) (header next merge : Front) → IsFilled all next → IsFilled all merge
      → Scopes (InBody header.label merge.label next.label ∷ c) (next ∷ header ∷ merge ∷ fronts)
  in_body c fronts header next merge filled_next filled_merge e exit carried h =
      let t = exit.target in
      elim (either_holds (t == merge.label) (t == next.label) h) [
        | inl g ↦ inr (inr (at_front merge fronts exit filled_merge carried g))
        | inr g ↦ at_front next (header ∷ merge ∷ fronts) exit filled_next carried g
      ]

  in_next : (c : Context) (fronts : List Front) (header merge : Front) → IsFilled all header → IsFilled all merge
      → Scopes (InNext header.label merge.label ∷ c) (header ∷ merge ∷ fronts)
  in_next c fronts header merge filled_header filled_merge e exit carried h =
      let t = exit.target in
      let pair = (t == header.label) || ((t == merge.label) && is_back_pair header.label merge.label e) in
      elim (either_holds (pair || false) false h) [
        | inl g ↦ elim (either_holds pair false g) [
          | inl k ↦ elim (either_holds (t == header.label) ((t == merge.label) && is_back_pair header.label merge.label e) k) [
            | inl j ↦ at_front header (merge ∷ fronts) exit filled_header carried j
            | inr j ↦ inr (at_front merge fronts exit filled_merge carried (both_left (t == merge.label) (is_back_pair header.label merge.label e) j))
          ]
          | inr k ↦ absurd (cc k)
        ]
        | inr g ↦ absurd (cc g)
      ]

  abbrev Within : List Branching → Type 0
  Within some = (x : Branching) → OneOf x some → OneOf x all

  within_left : (a b : List Branching) → Within (a ++ b) → Within a
  within_left a b h x g = h x (one_left x a b g)

  within_right : (a b : List Branching) → Within (a ++ b) → Within b
  within_right a b h x g = h x (one_right x a b g)

  leads : (behind : Option Front) (header : Front) (entry : Entry) (l : ℕ) → IsFilled all header → Within (entering l header.label entry)
      → Rattle.spv_tree.specs.Sound.IsEntry behind header entry → LeadsTo behind header entry
  leads behind header (ByBranch values) l filled within placed =
      let exit : Exit = record { target = header.label; values = values } in
      carries l exit (within (l, exit) (inl refl)) header filled refl
  leads behind header InPlace l filled within placed = placed

  mutual
    body_stands : (body : Body) (behind : Option Front) (fronts : List Front) (c : Context) (l : ℕ) (e : End) → IsFormed all body → ArePlaced behind body → Flows c l e body → Scopes c fronts → Within (branches l body)
        → standing.IsSound behind fronts body
    body_stands (Leaves exit) o fronts c l e formed placed flows scope within = scope e exit (carries l exit (within (l, exit) (inl refl))) flows
    body_stands (Finishes words) o fronts c l e formed placed flows scope within = end_is_end words formed
    body_stands (Step words body) o fronts c l e formed placed flows scope within =
        (step_is_middle words formed.0, body_stands body None fronts c l e formed.1 placed flows scope within)
    body_stands (Enters label body) o fronts c l e formed placed flows scope within = body_stands body None fronts c label (first_end body) formed placed flows scope within
    body_stands (Splits condition on exit body) o fronts c l e formed placed flows scope within = (
      scope e exit (carries l exit (within (l, exit) (inl refl))) flows.0,
      formed.0,
      body_stands body None fronts c l e formed.1 placed flows.2 scope (λ x h. within x (inr h)),
    )
    body_stands (Selects control condition first second merge rest) o fronts c l e formed placed flows scope within =
        let inner = in_selection c fronts merge formed.2 scope in
        let within2 = within_right (branches l first) (branches l second ++ branches merge.label rest) within in (
          formed.0,
          body_stands first None (merge ∷ fronts) (InSelection merge.label ∷ c) l e formed.3 placed.0 flows.1 inner (within_left (branches l first) (branches l second ++ branches merge.label rest) within),
          formed.1,
          body_stands second None (merge ∷ fronts) (InSelection merge.label ∷ c) l e formed.4 placed.1 flows.2 inner (within_left (branches l second) (branches merge.label rest) within2),
          body_stands rest (Some merge) fronts c merge.label (first_end rest) formed.5 placed.2 flows.3 scope (within_right (branches l second) (branches merge.label rest) within2),
        )
    body_stands (Switches control selector cases arms merge rest) o fronts c l e formed placed flows scope within = (
      arms_stand arms merge fronts c l e formed.1 formed.2 placed.0 flows.1 scope (within_left (branches_of_arms l arms) (branches merge.label rest) within),
      cases_found arms cases (recursion_from_All (λ case. Contains (targets arms) case.1) cases formed.0.named),
      body_stands rest (Some merge) fronts c merge.label (first_end rest) formed.3 placed.1 flows.2 scope (within_right (branches_of_arms l arms) (branches merge.label rest) within),
    )
    body_stands (Loops entry header control inner next continuing merge rest) o fronts c l e formed placed flows scope within =
        let last = branches merge.label rest in
        let middle = branches next.label continuing ++ last in
        let behind = branches header.label inner ++ middle in
        let within1 = within_right (entering l header.label entry) behind within in
        let within2 = within_right (branches header.label inner) middle within1 in (
          leads o header entry l formed.1 (within_left (entering l header.label entry) behind within) placed.0,
          body_stands inner None (next ∷ header ∷ merge ∷ fronts) (InBody header.label merge.label next.label ∷ c) header.label (first_end inner) formed.4 placed.1 flows.1
              (in_body c fronts header next merge formed.2 formed.3) (within_left (branches header.label inner) middle within1),
          body_stands continuing (Some next) (header ∷ merge ∷ fronts) (InNext header.label merge.label ∷ c) next.label (first_end continuing) formed.5 placed.2 flows.2
              (in_next c fronts header merge formed.1 formed.3) (within_left (branches next.label continuing) last within2),
          body_stands rest (Some merge) fronts c merge.label (first_end rest) formed.6 placed.3 flows.4 scope (within_right (branches next.label continuing) last within2),
        )

    arms_stand : (arms : Arms) (merge : Front) (fronts : List Front) (c : Context) (l : ℕ) (e : End) → IsFilled all merge → AreFormed all arms → ArmsArePlaced arms → ArmsFlow c l merge.label e arms → Scopes c fronts
        → Within (branches_of_arms l arms) → standing.AreSound (merge ∷ fronts) arms
    arms_stand (Last arm) merge fronts c l e filled formed placed flows scope within = (
      formed.0,
      body_stands arm None (merge ∷ fronts) (InArm l merge.label (target arm) ∷ c) l e formed.1 placed flows (in_arm c fronts merge l (target arm) filled scope) within,
    )
    arms_stand (Also arm arms) merge fronts c l e filled formed placed flows scope within = (
      formed.0,
      body_stands arm None (merge ∷ fronts) (InArm l merge.label (target arm) ∷ c) l e formed.1 placed.0 flows.0 (in_arm c fronts merge l (target arm) filled scope)
          (within_left (branches l arm) (branches_of_arms l arms) within),
      arms_stand arms merge fronts c l e filled formed.2 placed.1 flows.1 scope (within_right (branches l arm) (branches_of_arms l arms) within),
    )

-- ---- functions

same_values : (all : List Branching) → Rattle.std.specs.Prelude.AllPairs AreAlike all → SameValues all
same_values all h x y g k from to = elim (pairs_at AreAlike all h x y g k) [
  | Same e ↦ ap (λ z. z.1.values) e
  | Before r ↦ r from to
  | Behind r ↦ sym (r (sym from) (sym to))
]

pub structured_stands : StructuredStands
structured_stands r f is_pointer sound structured function parameters = record {
  function = function;
  parameters = parameters;
  values = same_values (branches_in f) sound.alike;
  body = body_stands (branches_in f) f.body None [] [] f.label (first_end f.body) sound.formed sound.placed structured.flows
      (λ e exit carried h. absurd (cc h)) (λ x h. h);
}
