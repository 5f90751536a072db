-- How the machine follows a part of a tree, from step to step.
use Rattle.std.proofs.Common.{◌≡◌, ℕ, zero, suc, pred, ◌+◌, ◌<◌, ◌≤◌, inl, inr, Bool, true, false, ◌==◌, List, [], ◌∷◌, ◌++◌, Option, Some, refl, sym, subst, arith}
use Rattle.std.proofs.lemmas.Bool.{eqb-true, eq-eqb}
use Rattle.interleaving.specs.Machine.{Answer, Goes}
use Rattle.interleaving.specs.Trace.{Asks, Runs, Stuck, trace_of}
use Rattle.spv_meaning.specs.Statements.{Statement}
use Rattle.spv_machine.specs.Access.{Access}
use Rattle.spv_machine.specs.Setting.{Setting}
use Rattle.spv_machine.specs.State.{Value, Data, Caller, State, At, below, bind_all}
use Rattle.spv_machine.specs.Operations.{Outcome, Does, Wants, Fails}
use Rattle.spv_machine.specs.Steps.{look, goes_on, behind_label, behind_phis, phi_results, paired, bind_result, returns_to}
use Rattle.spv_bodies.specs.Bodies.{Front}
use Rattle.spv_trees.specs.Meaning.{Fate, LeavesFor, Returns, Awaits, RunsOut, Sticks, Result, Onward, Entry, behind, at_return, enters, arrives, at_label, then_at, turning}
use Rattle.spv_trees.specs.Standing.{OneOf, StandsFront}
use Rattle.spv_trees.proofs.Walks.{Walk, walk_goes, goes_counts, walk_answered, walk_join, join_counts, Halts, halts_behind, halts_asking, halts_stuck, runs_behind}

-- behind the OpPhi of a block, which have these values
abbrev pub landing : List Caller → (label : ℕ) → (there : List Statement) → List Value → Data → State
landing callers label there vs d = At callers (behind_phis there) label (bind_all (paired (phi_results there) vs) d)

-- a walk of some steps to a block whose label is one of these
pub record Lands (c : Setting) (callers : List Caller) (labels : List ℕ) (s : State) (xs : List Answer) (accesses : List Access) (label : ℕ) (vs : List Value) (d : Data) (ys : List Answer) : Type 0 where
  pub there : List Statement
  pub place : behind_label c.all label ≡ Some there
  pub walk : Walk (look c) s xs accesses (landing callers label there vs d) ys
  pub some : 1 ≤ walk.count
  pub listed : OneOf label labels

-- the machine at a state follows a part, which leaves for these labels alone; where the part runs out, the machine runs for b steps
abbrev pub Follows : Setting → List Caller → (labels : List ℕ) → (b : ℕ) → State → List Answer → List Access → Fate → Type 0
Follows c callers labels b s xs accesses (LeavesFor label vs d ys) = Lands c callers labels s xs accesses label vs d ys
Follows c callers labels b s xs accesses (Returns v d ys) = Walk (look c) s xs accesses (returns_to callers v d) ys
Follows c callers labels b s xs accesses Awaits = Halts (look c) s xs (record { accesses = accesses; end = Asks })
Follows c callers labels b s xs accesses RunsOut = (i : ℕ) → i < b → (trace_of (look c) s i xs).end ≡ Runs
Follows c callers labels b s xs accesses Sticks = Halts (look c) s xs (record { accesses = accesses; end = Stuck })

abbrev pub FollowsPart : Setting → List Caller → (labels : List ℕ) → (b : ℕ) → State → List Answer → Result → Type 0
FollowsPart c callers labels b s xs r = Follows c callers labels b s xs r.accesses r.fate

same_some : {X : Type 0} (o : Option X) (x y : X) → o ≡ Some x → o ≡ Some y → x ≡ y
same_some o x y e f = cc

module _ (c : Setting) (callers : List Caller) where
  -- behind a walk
  pub walk_then : (labels : List ℕ) (s v : State) (xs ys : List Answer) (t u : List Access) (fate : Fate) (w : Walk (look c) s xs t v ys) (b b2 : ℕ) → b ≤ w.count + b2
      → Follows c callers labels b2 v ys u fate → Follows c callers labels b s xs (t ++ u) fate
  walk_then labels s v xs ys t u (LeavesFor label vs d zs) w b b2 le h = record {
    there = h.there;
    place = h.place;
    walk = walk_join (look c) s v (landing callers label h.there vs d) xs ys zs t u w h.walk;
    some = (let some : 1 ≤ h.walk.count = h.some in omega (arith, join_counts (look c) s v (landing callers label h.there vs d) xs ys zs t u w h.walk));
    listed = h.listed;
  }
  walk_then labels s v xs ys t u (Returns r d zs) w b b2 le h = walk_join (look c) s v (returns_to callers r d) xs ys zs t u w h
  walk_then labels s v xs ys t u Awaits w b b2 le h = halts_behind (look c) s v xs ys t u Asks w h
  walk_then labels s v xs ys t u RunsOut w b b2 le h = runs_behind (look c) s v xs ys t w b b2 le h
  walk_then labels s v xs ys t u Sticks w b b2 le h = halts_behind (look c) s v xs ys t u Stuck w h

  -- behind a private step
  pub goes_then : (labels : List ℕ) (b b2 : ℕ) (s v : State) (xs : List Answer) (r : Result) → look c s ≡ Goes v → b ≤ 1 + b2 → FollowsPart c callers labels b2 v xs r → FollowsPart c callers labels b s xs r
  goes_then labels b b2 s v xs r e le h = walk_then labels s v xs xs [] r.accesses r.fate (walk_goes (look c) s v xs e) b b2 (omega (arith, goes_counts (look c) s v xs e)) h

  -- behind an operation
  pub operation_then : (labels : List ℕ) (b : ℕ) (s : State) (rest : List Statement) (block : ℕ) (xs : List Answer) (o : Outcome) (go : Onward) → look c s ≡ goes_on callers rest block o
      → ((e : Data) (ys : List Answer) → FollowsPart c callers labels b (At callers rest block e) ys (go e ys)) → FollowsPart c callers labels b s xs (behind o xs go)
  operation_then labels b s rest block xs (Does d) go e h = goes_then labels b b s (At callers rest block d) xs (go d xs) e (omega arith) (h d xs)
  operation_then labels b s rest block [] (Wants a by_answer) go e h = halts_asking (look c) s a (λ x. At callers rest block (by_answer x)) e
  operation_then labels b s rest block (x ∷ xs) (Wants a by_answer) go e h =
      walk_then labels s (At callers rest block (by_answer x)) (x ∷ xs) xs (a ∷ []) (go (by_answer x) xs).accesses (go (by_answer x) xs).fate
      (walk_answered (look c) s a (λ y. At callers rest block (by_answer y)) x xs e) b b (omega arith) (h (by_answer x) xs)
  operation_then labels b s rest block xs Fails go e h = halts_stuck (look c) s xs e

  -- behind a call: the callee's frame is one of more callers
  pub return_then : (labels : List ℕ) (b b2 : ℕ) (s : State) (caller : Caller) (xs : List Answer) (t : List Access) (fate : Fate) (go : Onward) → b ≤ b2
      → Follows c (caller ∷ callers) [] b2 s xs t fate
      → ((v : Data) (ys : List Answer) → FollowsPart c callers labels b (At callers caller.rest caller.block v) ys (go v ys))
      → FollowsPart c callers labels b s xs (at_return caller.result_id go t fate)
  return_then labels b b2 s caller xs t (LeavesFor label vs d ys) go le h more = absurd h.listed
  return_then labels b b2 s caller xs t (Returns v d ys) go le h more =
      let e : Data = bind_result caller.result_id v (record d { frames = below d.frames }) in
      walk_then labels s (At callers caller.rest caller.block e) xs ys t (go e ys).accesses (go e ys).fate h b b (omega arith) (more e ys)
  return_then labels b b2 s caller xs t Awaits go le h more = h
  return_then labels b b2 s caller xs t RunsOut go le h more = λ i lt. h i (omega arith)
  return_then labels b b2 s caller xs t Sticks go le h more = h

  -- ---- branches

  -- what is done behind the OpPhi of a block
  abbrev pub FollowsAt : (labels : List ℕ) → (b label : ℕ) → Entry → Type 0
  FollowsAt labels b label go =
      (there : List Statement) → behind_label c.all label ≡ Some there → (vs : List Value) (d : Data) (ys : List Answer) → FollowsPart c callers labels b (landing callers label there vs d) ys (go vs d ys)

  -- into a block whose parameters are these
  pub front_follows : (b : ℕ) (labels : List ℕ) (front : Front) (there : List Statement) (go : Onward) → StandsFront c.all front there
      → ((e : Data) (ys : List Answer) → FollowsPart c callers labels b (At callers (behind_phis there) front.label e) ys (go e ys))
      → FollowsAt labels b front.label (enters front go)
  front_follows b labels front there go h more = λ found place vs d ys.
      let same : there ≡ found = same_some (behind_label c.all front.label) there found h.place place in
      subst (λ z. FollowsPart c callers labels b (landing callers front.label z vs d) ys (enters front go vs d ys)) same
      (subst (λ z. FollowsPart c callers labels b (At callers (behind_phis there) front.label (bind_all (paired (phi_results there) vs) d)) ys (go (bind_all (paired z vs) d) ys)) h.parameters
      (more (bind_all (paired (phi_results there) vs) d) ys))

  one_of_others : (x y : ℕ) (labels : List ℕ) → (x == y) ≡ false → OneOf x (y ∷ labels) → OneOf x labels
  one_of_others x y labels e (inl h) = absurd (cc (eq-eqb x y h))
  one_of_others x y labels e (inr h) = h

  arrives_then : (labels : List ℕ) (b b2 : ℕ) (label : ℕ) (go : Entry) (s : State) (xs : List Answer) (t : List Access) (left : ℕ) (vs : List Value) (d : Data) (ys : List Answer) → b ≤ 1 + b2
      → Lands c callers (label ∷ labels) s xs t left vs d ys → FollowsAt labels b2 label go → (is : Bool) → (left == label) ≡ is
      → FollowsPart c callers labels b s xs (arrives is go t left vs d ys)
  arrives_then labels b b2 label go s xs t left vs d ys le h more true e =
      let same : left ≡ label = eqb-true left label e in
      let some : 1 ≤ h.walk.count = h.some in
      walk_then labels s (landing callers left h.there vs d) xs ys t (go vs d ys).accesses (go vs d ys).fate h.walk b b2 (omega arith)
      (subst (λ l. FollowsPart c callers labels b2 (landing callers l h.there vs d) ys (go vs d ys)) (sym same) (more h.there (subst (λ l. behind_label c.all l ≡ Some h.there) same h.place) vs d ys))
  arrives_then labels b b2 label go s xs t left vs d ys le h more false e =
      record { there = h.there; place = h.place; walk = h.walk; some = h.some; listed = one_of_others left label labels e h.listed }

  -- where a part is left for a label: one step at least was made then
  pub at_then : (labels : List ℕ) (b b1 b2 : ℕ) (label : ℕ) (go : Entry) (s : State) (xs : List Answer) (t : List Access) (fate : Fate) → b ≤ b1 → b ≤ 1 + b2
      → Follows c callers (label ∷ labels) b1 s xs t fate → FollowsAt labels b2 label go → FollowsPart c callers labels b s xs (at_label label go t fate)
  at_then labels b b1 b2 label go s xs t (LeavesFor left vs d ys) le1 le2 h more = arrives_then labels b b2 label go s xs t left vs d ys le2 h more (left == label) refl
  at_then labels b b1 b2 label go s xs t (Returns v d ys) le1 le2 h more = h
  at_then labels b b1 b2 label go s xs t Awaits le1 le2 h more = h
  at_then labels b b1 b2 label go s xs t RunsOut le1 le2 h more = λ i lt. h i (omega arith)
  at_then labels b b1 b2 label go s xs t Sticks le1 le2 h more = h

  -- ---- loops

  -- at most n turns of a loop, by induction on n
  pub turning_follows : (labels : List ℕ) (b : ℕ) (header : Front) (at_header : List Statement) (next : ℕ) (inner : Onward) (continuing : Entry) → StandsFront c.all header at_header
      → ((e : Data) (ys : List Answer) → FollowsPart c callers (next ∷ header.label ∷ labels) b (At callers (behind_phis at_header) header.label e) ys (inner e ys))
      → FollowsAt (header.label ∷ labels) b next continuing
      → (n b2 : ℕ) → b2 ≤ b → b2 ≤ n → (d : Data) (ys : List Answer) → FollowsPart c callers labels b2 (At callers (behind_phis at_header) header.label d) ys (turning n header next inner continuing d ys)
  turning_follows labels b header at_header next inner continuing front first second zero b2 le1 le2 d ys = λ i lt. absurd (omega arith)
  turning_follows labels b header at_header next inner continuing front first second (suc n) b2 le1 le2 d ys =
      let s : State = At callers (behind_phis at_header) header.label d in
      let part : Result = inner d ys in
      let turn : Result = then_at next continuing part in
      at_then labels b2 b (pred b2) header.label (enters header (turning n header next inner continuing)) s ys turn.accesses turn.fate le1 (omega arith)
      (at_then (header.label ∷ labels) b b b next continuing s ys part.accesses part.fate (omega arith) (omega arith) (first d ys) second)
      (front_follows (pred b2) labels header at_header (turning n header next inner continuing) front
      (turning_follows labels b header at_header next inner continuing front first second n (pred b2) (omega arith) (omega arith)))
