-- Where parts of both programs are left: the ways in which they are, and the future of the second there. Constructs that both have, or the second alone, and
-- where the second goes on alone.
use Rattle.std.proofs.Common.{◌≡◌, ◌⊎◌, inl, inr, ℕ, zero, suc, ◌==◌, Bool, true, false, cond, not, List, [], ◌∷◌, Option, Some, None, refl, sym, ap, ◌∙◌}
use Rattle.std.proofs.Common.{subst}
use Rattle.std.specs.Prelude.{IfSome, IsSomeAnd}
use Rattle.interleaving.specs.Machine.{Answer}
use Rattle.spv_meaning.specs.Statements.{said}
use Rattle.spv_meaning.specs.Types.{number_in}
use Rattle.spv_machine.specs.State.{Value, Data, value, values, words_of_value}
use Rattle.spv_bodies.specs.Bodies as bodies
use Rattle.spv_bodies.specs.Bodies.{Exit, Front, ByBranch, InPlace, Body, Leaves, Finishes, Step, Enters, Splits, Selects, Switches, Loops, Arms, Last, Also}
use Rattle.spv_bodies.specs.Bodies.{Function, target}
use Rattle.spv_trees.specs.Meaning.{LeavesFor, Returns, Result, Onward, Entry, only, given, finishes}
use Rattle.spv_trees.specs.Meaning.{enters, then_at, turning, begins, meaning}
use Rattle.spv_congruence.specs.Relation as relation
use Rattle.spv_congruence.specs.Relation.{Way, Leaving, Returning, Part, Future, After, followed, Rel, Under, Both, with_parameters, Into}
use Rattle.spv_congruence.specs.Shape as shape
use Rattle.spv_congruence.specs.OneSided.{Sim, BesideWay, UnderLabel, ReturnedTo, IntoFront, Begins}
use Rattle.spv_congruence.specs.Shape.{steps, Target, Joins, Pends, Wraps, Alone, AloneExit, ExitsAlike, ExitPends, AllPend, SameArm, CasesAlike, arm_of}
use Rattle.spv_congruence.specs.Shape.{EntryPasses, Shape, ShapeOfArms, EachArm, ShapeOfLoop}
use Rattle.spv_congruence.specs.Laws.{Pass, comparison, returned, Local}
use Rattle.spv_congruence.proofs.Relating.{after_label, then_at_followed, rel_same, rel_returns, rel_given}
use Rattle.spv_congruence.proofs.OneSided.{sim_same, sim_more, sim_runs_out, sim_then}
use Rattle.spv_congruence.proofs.OneSided.{rel_sim, sim_given_both}
use Rattle.spv_congruence.proofs.Functions.{both_more, finishes_with}
use Rattle.spv_congruence.proofs.Second.{selects_is, splits_past_is, splits_out_is}
use Rattle.spv_congruence.proofs.Doing.{steps_mean, second_alone}

module _ (p : Pass) (local : Local p) where
  abbrev pub Beside : (Way → Future → Type 0) → Part → Future → Type 0
  Beside Ways run future = Sim p.left_out p.Same Ways run future

  -- loops of both that are come to alike: the values and data at the headers
  abbrev pub EntriesAlike : p.Below → p.Known → (header header2 : Front) → (entry entry2 : bodies.Entry) → Data → Data → Type 0
  EntriesAlike z g header header2 (ByBranch ids) (ByBranch ids2) d d2 = Both (λ vs vs2. Into header header2 (p.Related z g) vs d vs2 d2) (values p.first d ids)
      (values p.second d2 ids2)
  EntriesAlike z g header header2 InPlace InPlace d d2 = p.Related z g d d2
  EntriesAlike z g header header2 entry entry2 d d2 = ⊥

  pub begins_beside : (Ways : Way → Future → Type 0) (after2 : After) (z : p.Below) (g : p.Known) (header header2 : Front) (entry entry2 : bodies.Entry)
      (turns turns2 : Onward) (d d2 : Data) → EntriesAlike z g header header2 entry entry2 d d2
      → ((e e2 : Data) → p.Related z g e e2 → Beside Ways (turns e) (λ ys. followed (turns2 e2 ys) after2))
      → Beside Ways (begins p.first entry header turns d) (λ ys. followed (begins p.second entry2 header2 turns2 d2 ys) after2)
  begins_beside Ways after2 z g header header2 (ByBranch ids) (ByBranch ids2) turns turns2 d d2 h more =
      sim_given_both p.left_out p.Same Ways (λ vs vs2. Into header header2 (p.Related z g) vs d vs2 d2) (values p.first d ids) (values p.second d2 ids2)
      (λ vs. enters header turns vs d) (λ vs. enters header2 turns2 vs d2) after2 h
      (λ vs vs2 r. more (with_parameters header vs d) (with_parameters header2 vs2 d2) r)
  begins_beside Ways after2 z g header header2 InPlace InPlace turns turns2 d d2 h more = more d d2 h
  begins_beside Ways after2 z g header header2 (ByBranch ids) InPlace turns turns2 d d2 h more = absurd h
  begins_beside Ways after2 z g header header2 InPlace (ByBranch ids2) turns turns2 d d2 h more = absurd h

  module _ (turns : ℕ) (call2 : ℕ → Entry) where
    abbrev pub second_does : Body → Onward
    second_does body d xs = meaning p.second call2 turns body d xs

    -- what the second does from a body on
    abbrev pub onward : Body → Data → After → Future
    onward body2 d2 after2 ys = followed (second_does body2 d2 ys) after2

    -- the first is not left for this label
    abbrev Misses : (label : ℕ) → Way → Type 0
    Misses n (Leaving l vs d) = (l == n) ≡ false
    Misses n (Returning v d) = Unit {0}

    -- a function is not left for a label
    abbrev Strays : Way → Type 0
    Strays (Leaving l vs d) = Unit {0}
    Strays (Returning v d) = ⊥

    -- where the first has returned, the second comes alone to this front, and goes on from there to a way that is beside
    abbrev ComesAlone : Front → Option Body → (Way → Way → Type 0) → Option Value → Data → List Value → Data → Type 0
    ComesAlone front None Ways v d vs2 d2 = ⊥
    ComesAlone front (Some behind2) Ways v d vs2 d2 = (w2 : Way) × Ways (Returning v d) w2 × ((after2 : After)
        → onward behind2 (with_parameters front vs2 d2) after2 ≡ after2 w2)

    -- ways out of a construct of both
    abbrev Meets : (label label2 : ℕ) → (Arrive : List Value → Data → List Value → Data → Type 0) → (Late : Option Value → Data → List Value → Data → Type 0)
        → (Ways : Way → Way → Type 0) → Way → Way → Type 0
    Meets n n2 Arrive Late Ways (Leaving l vs d) (Leaving l2 vs2 d2) = Under n n2 Arrive Ways (Leaving l vs d) (Leaving l2 vs2 d2)
    Meets n n2 Arrive Late Ways (Leaving l vs d) (Returning v2 d2) = ⊥
    Meets n n2 Arrive Late Ways (Returning v d) (Leaving l2 vs2 d2) = (((l2 == n2) ≡ true) × Late v d vs2 d2) ⊎
        (((l2 == n2) ≡ false) × Ways (Returning v d) (Leaving l2 vs2 d2))
    Meets n n2 Arrive Late Ways (Returning v d) (Returning v2 d2) = Ways (Returning v d) (Returning v2 d2)

    -- and of one that only the second has
    abbrev PassesBy : (label2 : ℕ) → (Late : Option Value → Data → List Value → Data → Type 0) → (Ways : Way → Way → Type 0) → Way → Way → Type 0
    PassesBy n2 Late Ways (Leaving l vs d) (Leaving l2 vs2 d2) = ((l2 == n2) ≡ false) × Ways (Leaving l vs d) (Leaving l2 vs2 d2)
    PassesBy n2 Late Ways (Leaving l vs d) (Returning v2 d2) = Ways (Leaving l vs d) (Returning v2 d2)
    PassesBy n2 Late Ways (Returning v d) (Leaving l2 vs2 d2) = (((l2 == n2) ≡ true) × Late v d vs2 d2) ⊎
        (((l2 == n2) ≡ false) × Ways (Returning v d) (Leaving l2 vs2 d2))
    PassesBy n2 Late Ways (Returning v d) (Returning v2 d2) = Ways (Returning v d) (Returning v2 d2)

    -- the ways in which both are left, where these targets are round them
    abbrev pub WaysTo : p.Below → Option Body → List (Target p.Known) → Way → Way → Type 0
    WaysTo z None [] = relation.Returned (p.Ends z)
    WaysTo z (Some rest2) [] = λ w w2. Strays w
    WaysTo z R (Joins first second known behind2 ∷ K) = Meets first.label second.label (Into first second (p.Related z known))
        (ComesAlone second behind2 (WaysTo z R K)) (WaysTo z R K)
    WaysTo z R (Pends first known body2 ∷ K) = λ w w2. (Misses first.label w × WaysTo z R K w w2)
    WaysTo z R (Wraps second behind2 ∷ K) = PassesBy second.label (ComesAlone second (Some behind2) (WaysTo z R K)) (WaysTo z R K)

    pub returning_alike : (z : p.Below) (K : List (Target p.Known)) (v v2 : Option Value) (d d2 : Data) → p.Ends z v d v2 d2
        → WaysTo z None K (Returning v d) (Returning v2 d2)
    returning_alike z [] v v2 d d2 h = h
    returning_alike z (Joins first second known behind2 ∷ K) v v2 d d2 h = returning_alike z K v v2 d d2 h
    returning_alike z (Wraps second behind2 ∷ K) v v2 d d2 h = returning_alike z K v v2 d d2 h
    returning_alike z (Pends first known body2 ∷ K) v v2 d d2 h = (tt, returning_alike z K v v2 d d2 h)

    pub exits_alike : (z : p.Below) (R : Option Body) (K : List (Target p.Known)) (g : p.Known) (exit exit2 : Exit) (d d2 : Data)
        → ExitsAlike p.edits K g exit exit2 → p.Related z g d d2
        → Both (λ vs vs2. WaysTo z R K (Leaving exit.target vs d) (Leaving exit2.target vs2 d2)) (values p.first d exit.values)
        (values p.second d2 exit2.values)
    exits_alike z R [] g exit exit2 d d2 h r = absurd h
    exits_alike z R (Joins first second known behind2 ∷ K) g exit exit2 d d2 (inl h) r =
        both_more (λ vs vs2. Into first second (p.Related z known) vs d vs2 d2) (λ vs vs2. WaysTo z R (Joins first second known behind2 ∷ K)
        (Leaving exit.target vs d) (Leaving exit2.target vs2 d2))
        (values p.first d exit.values) (values p.second d2 exit2.values) (λ vs vs2 s. inl (h.0, h.1, s))
        (local.carried z g known exit.values exit2.values first second d d2 h.2 r)
    exits_alike z R (Joins first second known behind2 ∷ K) g exit exit2 d d2 (inr h) r =
        both_more (λ vs vs2. WaysTo z R K (Leaving exit.target vs d) (Leaving exit2.target vs2 d2)) (λ vs vs2. WaysTo z R (Joins first second known behind2 ∷ K)
        (Leaving exit.target vs d) (Leaving exit2.target vs2 d2))
        (values p.first d exit.values) (values p.second d2 exit2.values) (λ vs vs2 s. inr (h.0, h.1, s)) (exits_alike z R K g exit exit2 d d2 h.2 r)
    exits_alike z R (Pends first known body2 ∷ K) g exit exit2 d d2 h r =
        both_more (λ vs vs2. WaysTo z R K (Leaving exit.target vs d) (Leaving exit2.target vs2 d2)) (λ vs vs2. WaysTo z R (Pends first known body2 ∷ K)
        (Leaving exit.target vs d) (Leaving exit2.target vs2 d2))
        (values p.first d exit.values) (values p.second d2 exit2.values) (λ vs vs2 s. (h.0, s)) (exits_alike z R K g exit exit2 d d2 h.1 r)
    exits_alike z R (Wraps second behind2 ∷ K) g exit exit2 d d2 h r =
        both_more (λ vs vs2. WaysTo z R K (Leaving exit.target vs d) (Leaving exit2.target vs2 d2))
        (λ vs vs2. WaysTo z R (Wraps second behind2 ∷ K) (Leaving exit.target vs d) (Leaving exit2.target vs2 d2))
        (values p.first d exit.values) (values p.second d2 exit2.values) (λ vs vs2 s. (h.0, s)) (exits_alike z R K g exit exit2 d d2 h.1 r)

    pub finishes_beside : (z : p.Below) (K : List (Target p.Known)) (words words2 : List ℕ) (d d2 : Data)
        → Both (λ v v2. p.Ends z v d v2 d2) (returned p.first (said words []) d) (returned p.second (said words2 []) d2)
        → Rel p.left_out p.Same (WaysTo z None K) (finishes p.first (said words []) d) (finishes p.second (said words2 []) d2)
    finishes_beside z K words words2 d d2 both =
        rel_same p.left_out p.Same (WaysTo z None K)
        (finishes p.first (said words []) d) (λ xs. given (returned p.first (said words []) d) (λ v. only (Returns v d xs)))
        (finishes p.second (said words2 []) d2) (λ xs. given (returned p.second (said words2 []) d2) (λ v. only (Returns v d2 xs)))
        (λ xs. finishes_with p.first (said words []) d xs) (λ xs. finishes_with p.second (said words2 []) d2 xs)
        (rel_given p.left_out p.Same (WaysTo z None K) (λ v v2. p.Ends z v d v2 d2) (returned p.first (said words []) d) (returned p.second (said words2 []) d2)
        (λ v xs. only (Returns v d xs)) (λ v xs. only (Returns v d2 xs)) both
        (λ v v2 e. rel_returns p.left_out p.Same (WaysTo z None K) v v2 d d2 (returning_alike z K v v2 d d2 e)))

    -- the second is before a body, and the data are related
    abbrev pub Before : p.Below → p.Known → Body → After → Data → Future → Type 0
    Before z known body2 after2 d t = (d2 : Data) × p.Related z known d d2 × (t ≡ onward body2 d2 after2)

    -- only the first returns, and the second is before a body
    abbrev pub InPlaceOf : p.Below → Body → After → Option Value → Data → Future → Type 0
    InPlaceOf z rest2 after2 v d t = (d2 : Data) × p.EndsInPlace z v d d2 × (t ≡ onward rest2 d2 after2)

    -- where the first is left, and the future of the second there
    abbrev pub Places : p.Below → Option Body → List (Target p.Known) → After → Way → Future → Type 0
    Places z None [] after2 = BesideWay (WaysTo z None []) after2
    Places z (Some rest2) [] after2 = ReturnedTo (InPlaceOf z rest2 after2)
    Places z R (Joins first second known behind2 ∷ K) after2 = BesideWay (WaysTo z R (Joins first second known behind2 ∷ K)) after2
    Places z R (Wraps second behind2 ∷ K) after2 = BesideWay (WaysTo z R (Wraps second behind2 ∷ K)) after2
    Places z R (Pends first known body2 ∷ K) after2 = UnderLabel first.label (IntoFront first (Before z known body2 after2)) (Places z R K after2)

    pub from_ways : (z : p.Below) (R : Option Body) (K : List (Target p.Known)) (after2 : After) (w w2 : Way) (t : Future) → WaysTo z R K w w2 → t ≡ after2 w2
        → Places z R K after2 w t
    from_ways z None [] after2 w w2 t h e = (w2, h, e)
    from_ways z (Some rest2) [] after2 (Leaving l vs d) w2 t h e = tt
    from_ways z (Some rest2) [] after2 (Returning v d) w2 t h e = absurd h
    from_ways z R (Joins first second known behind2 ∷ K) after2 w w2 t h e = (w2, h, e)
    from_ways z R (Wraps second behind2 ∷ K) after2 w w2 t h e = (w2, h, e)
    from_ways z R (Pends first known body2 ∷ K) after2 (Leaving l vs d) w2 t h e = inr (h.0, from_ways z R K after2 (Leaving l vs d) w2 t h.1 e)
    from_ways z R (Pends first known body2 ∷ K) after2 (Returning v d) w2 t h e = from_ways z R K after2 (Returning v d) w2 t h.1 e

    pub by_rel : (z : p.Below) (R : Option Body) (K : List (Target p.Known)) (after2 : After) (run run2 : Part) → Rel p.left_out p.Same (WaysTo z R K) run run2
        → Beside (Places z R K after2) run (λ ys. followed (run2 ys) after2)
    by_rel z R K after2 run run2 h =
        sim_more p.left_out p.Same (BesideWay (WaysTo z R K) after2) (Places z R K after2) run (λ ys. followed (run2 ys) after2)
        (λ w t e. from_ways z R K after2 w e.0 t e.1 e.2)
        (rel_sim p.left_out p.Same (WaysTo z R K) run run2 after2 h)

    -- ---- a construct of both

    -- where both are left for the front that the construct ends at, and the future of the second there
    abbrev Joined : p.Below → p.Known → (front front2 : Front) → (go2 : Entry) → After → List Value → Data → Future → Type 0
    Joined z known front front2 go2 after2 vs d t = (vs2 : List Value) × (d2 : Data) × Into front front2 (p.Related z known) vs d vs2 d2 ×
        (t ≡ (λ ys. followed (go2 vs2 d2 ys) after2))

    -- what the second does behind the front, where it may come there alone
    abbrev GoesOn : Option Body → Front → Entry → Type 0
    GoesOn None front2 go2 = Unit {0}
    GoesOn (Some behind2) front2 go2 = (vs2 : List Value) (d2 : Data) (ys : List Answer)
        → go2 vs2 d2 ys ≡ second_does behind2 (with_parameters front2 vs2 d2) ys

    alone_at : (z : p.Below) (R : Option Body) (K : List (Target p.Known)) (front2 : Front) (behind2 : Option Body) (go2 : Entry) (after2 : After)
        (v : Option Value) (d : Data) (vs2 : List Value) (d2 : Data) (t : Future)
        → GoesOn behind2 front2 go2 → ComesAlone front2 behind2 (WaysTo z R K) v d vs2 d2 → t ≡ (λ ys. followed (go2 vs2 d2 ys) after2)
        → Places z R K after2 (Returning v d) t
    alone_at z R K front2 None go2 after2 v d vs2 d2 t goes h e = absurd h
    alone_at z R K front2 (Some behind2) go2 after2 v d vs2 d2 t goes h e =
        let same : (λ (ys : List Answer). followed (go2 vs2 d2 ys) after2) ≡ onward behind2 (with_parameters front2 vs2 d2) after2 = λ i ys. followed
        (goes vs2 d2 ys i) after2 in
        from_ways z R K after2 (Returning v d) h.0 t h.1 (e ∙ same ∙ h.2 after2)

    label_taken : (n2 : ℕ) (go2 : Entry) (after2 : After) (l2 : ℕ) (vs2 : List Value) (d2 : Data) → (l2 == n2) ≡ true
        → after_label n2 go2 after2 (Leaving l2 vs2 d2) ≡ (λ ys. followed (go2 vs2 d2 ys) after2)
    label_taken n2 go2 after2 l2 vs2 d2 e = λ i ys. cond (e i) (followed (go2 vs2 d2 ys) after2) (after2 (Leaving l2 vs2 d2) ys)

    label_passed : (n2 : ℕ) (go2 : Entry) (after2 : After) (l2 : ℕ) (vs2 : List Value) (d2 : Data) → (l2 == n2) ≡ false
        → after_label n2 go2 after2 (Leaving l2 vs2 d2) ≡ after2 (Leaving l2 vs2 d2)
    label_passed n2 go2 after2 l2 vs2 d2 e = λ i ys. cond (e i) (followed (go2 vs2 d2 ys) after2) (after2 (Leaving l2 vs2 d2) ys)

    joined_at : (z : p.Below) (R : Option Body) (K : List (Target p.Known)) (front front2 : Front) (known : p.Known) (behind2 : Option Body) (go2 : Entry)
        (after2 : After) (w w2 : Way) (t : Future) → GoesOn behind2 front2 go2
        → WaysTo z R (Joins front front2 known behind2 ∷ K) w w2 → t ≡ after_label front2.label go2 after2 w2
        → UnderLabel front.label (Joined z known front front2 go2 after2) (Places z R K after2) w t
    joined_at z R K front front2 known behind2 go2 after2 (Leaving l vs d) (Leaving l2 vs2 d2) t goes (inl h) e =
        inl (h.0, (vs2, d2, h.2, e ∙ label_taken front2.label go2 after2 l2 vs2 d2 h.1))
    joined_at z R K front front2 known behind2 go2 after2 (Leaving l vs d) (Leaving l2 vs2 d2) t goes (inr h) e =
        inr (h.0, from_ways z R K after2 (Leaving l vs d) (Leaving l2 vs2 d2) t h.2 (e ∙ label_passed front2.label go2 after2 l2 vs2 d2 h.1))
    joined_at z R K front front2 known behind2 go2 after2 (Leaving l vs d) (Returning v2 d2) t goes h e = absurd h
    joined_at z R K front front2 known behind2 go2 after2 (Returning v d) (Leaving l2 vs2 d2) t goes (inl h) e =
        alone_at z R K front2 behind2 go2 after2 v d vs2 d2 t goes h.1 (e ∙ label_taken front2.label go2 after2 l2 vs2 d2 h.0)
    joined_at z R K front front2 known behind2 go2 after2 (Returning v d) (Leaving l2 vs2 d2) t goes (inr h) e =
        from_ways z R K after2 (Returning v d) (Leaving l2 vs2 d2) t h.1 (e ∙ label_passed front2.label go2 after2 l2 vs2 d2 h.0)
    joined_at z R K front front2 known behind2 go2 after2 (Returning v d) (Returning v2 d2) t goes h e = from_ways z R K after2 (Returning v d)
        (Returning v2 d2) t h e

    -- parts of both and what is behind the labels that they end at
    pub join : (z : p.Below) (R : Option Body) (K : List (Target p.Known)) (front front2 : Front) (known : p.Known) (behind2 : Option Body) (run run2 : Part)
        (go go2 : Entry) (after2 : After) → GoesOn behind2 front2 go2
        → Beside (Places z R (Joins front front2 known behind2 ∷ K) (after_label front2.label go2 after2)) run
        (λ ys. followed (run2 ys) (after_label front2.label go2 after2))
        → ((vs : List Value) (d : Data) (vs2 : List Value) (d2 : Data) → Into front front2 (p.Related z known) vs d vs2 d2
        → Beside (Places z R K after2) (go vs d) (λ ys. followed (go2 vs2 d2 ys) after2))
        → Beside (Places z R K after2) (λ xs. then_at front.label go (run xs)) (λ ys. followed (then_at front2.label go2 (run2 ys)) after2)
    join z R K front front2 known behind2 run run2 go go2 after2 goes h more =
        let future : Future = λ ys. followed (run2 ys) (after_label front2.label go2 after2) in
        sim_same p.left_out p.Same (Places z R K after2) (λ xs. then_at front.label go (run xs)) (λ xs. then_at front.label go (run xs))
        (λ ys. followed (then_at front2.label go2 (run2 ys)) after2) future
        (λ xs. refl) (λ ys. then_at_followed front2.label go2 (run2 ys) after2)
        (sim_then p.left_out p.Same front.label (Joined z known front front2 go2 after2) (Places z R K after2) run go future
        (sim_more p.left_out p.Same (Places z R (Joins front front2 known behind2 ∷ K) (after_label front2.label go2 after2))
        (UnderLabel front.label (Joined z known front front2 go2 after2) (Places z R K after2)) run future
        (λ w t e. joined_at z R K front front2 known behind2 go2 after2 w e.0 t goes e.1 e.2) h)
        (λ vs d t a. subst (λ (u : Future). Beside (Places z R K after2) (go vs d) u) (sym a.3) (more vs d a.0 a.1 a.2)))

    -- ---- a construct of the second

    unwrapped_at : (z : p.Below) (R : Option Body) (K : List (Target p.Known)) (second : Front) (behind2 : Body) (after2 : After) (w w2 : Way) (t : Future)
        → WaysTo z R (Wraps second behind2 ∷ K) w w2 → t ≡ after_label second.label (enters second (second_does behind2)) after2 w2 → Places z R K after2 w t
    unwrapped_at z R K second behind2 after2 (Leaving l vs d) (Leaving l2 vs2 d2) t h e =
        from_ways z R K after2 (Leaving l vs d) (Leaving l2 vs2 d2) t h.1 (e ∙ label_passed second.label (enters second (second_does behind2)) after2 l2 vs2 d2
        h.0)
    unwrapped_at z R K second behind2 after2 (Leaving l vs d) (Returning v2 d2) t h e = from_ways z R K after2 (Leaving l vs d) (Returning v2 d2) t h e
    unwrapped_at z R K second behind2 after2 (Returning v d) (Leaving l2 vs2 d2) t (inl h) e =
        alone_at z R K second (Some behind2) (enters second (second_does behind2)) after2 v d vs2 d2 t (λ vs e2 ys. refl) h.1
        (e ∙ label_taken second.label (enters second (second_does behind2)) after2 l2 vs2 d2 h.0)
    unwrapped_at z R K second behind2 after2 (Returning v d) (Leaving l2 vs2 d2) t (inr h) e =
        from_ways z R K after2 (Returning v d) (Leaving l2 vs2 d2) t h.1 (e ∙ label_passed second.label (enters second (second_does behind2)) after2 l2 vs2 d2
        h.0)
    unwrapped_at z R K second behind2 after2 (Returning v d) (Returning v2 d2) t h e = from_ways z R K after2 (Returning v d) (Returning v2 d2) t h e

    -- what follows the second inside
    abbrev pub inside : Front → Body → After → After
    inside merge2 rest2 after2 = after_label merge2.label (enters merge2 (second_does rest2)) after2

    pub unwrap : (z : p.Below) (R : Option Body) (K : List (Target p.Known)) (merge2 : Front) (rest2 : Body) (after2 : After) (run : Part)
        (future future2 : Future)
        → ((ys : List Answer) → future ys ≡ future2 ys)
        → Beside (Places z R (Wraps merge2 rest2 ∷ K) (inside merge2 rest2 after2)) run future2 → Beside (Places z R K after2) run future
    unwrap z R K merge2 rest2 after2 run future future2 e h =
        sim_same p.left_out p.Same (Places z R K after2) run run future future2 (λ xs. refl) e
        (sim_more p.left_out p.Same (Places z R (Wraps merge2 rest2 ∷ K) (inside merge2 rest2 after2)) (Places z R K after2) run future2
        (λ w t q. unwrapped_at z R K merge2 rest2 after2 w q.0 t q.1 q.2) h)

    -- ---- the second alone

    abbrev GoesAlone : p.Below → List (Target p.Known) → Body → Option Value → Data → Data → Type 0
    GoesAlone z K body2 v d d2 = (w2 : Way) × WaysTo z None K (Returning v d) w2 × ((after2 : After) → onward body2 d2 after2 ≡ after2 w2)

    goes_alone : (z : p.Below) (K : List (Target p.Known)) (body2 next2 : Body) (v : Option Value) (d d2 e2 : Data)
        → ((after2 : After) (ys : List Answer) → onward body2 d2 after2 ys ≡ onward next2 e2 after2 ys)
        → GoesAlone z K next2 v d e2 → GoesAlone z K body2 v d d2
    goes_alone z K body2 next2 v d d2 e2 same h =
        (h.0, h.1, λ after2. (let q : onward body2 d2 after2 ≡ onward next2 e2 after2 = λ i ys. same after2 ys i in q ∙ h.2 after2))

    finish_alone : (z : p.Below) (K : List (Target p.Known)) (words2 : List ℕ) (v : Option Value) (d d2 : Data) (o2 : Option (Option Value))
        → returned p.second (said words2 []) d2 ≡ o2
        → Both (λ u u2. p.Ends z u d u2 d2) (Some v) o2 → GoesAlone z K (Finishes words2) v d d2
    finish_alone z K words2 v d d2 None e both = absurd both
    finish_alone z K words2 v d d2 (Some v2) e both = (
      Returning v2 d2,
      returning_alike z K v v2 d d2 both,
      λ after2. λ i ys. followed ((finishes_with p.second (said words2 []) d2 ys ∙ ap (λ o. given o (λ u. only (Returns u d2 ys))) e) i) after2,
    )

    -- in a selection of its own
    unwrap_alone : (z : p.Below) (K : List (Target p.Known)) (merge2 : Front) (rest2 arm2 whole2 : Body) (v : Option Value) (d d2 : Data)
        → ((after2 : After) (ys : List Answer) → onward whole2 d2 after2 ys ≡ onward arm2 d2 (inside merge2 rest2 after2) ys)
        → (w2 : Way) → WaysTo z None (Wraps merge2 rest2 ∷ K) (Returning v d) w2 → ((after2 : After) → onward arm2 d2 after2 ≡ after2 w2)
        → GoesAlone z K whole2 v d d2
    unwrap_alone z K merge2 rest2 arm2 whole2 v d d2 same (Leaving l2 vs2 e2) (inl h) runs = (
      h.1.0,
      h.1.1,
      λ after2. (
          let q : onward whole2 d2 after2 ≡ onward arm2 d2 (inside merge2 rest2 after2) = λ i ys. same after2 ys i in
          q ∙ runs (inside merge2 rest2 after2) ∙ label_taken merge2.label (enters merge2 (second_does rest2)) after2 l2 vs2 e2 h.0 ∙ h.1.2 after2),
    )
    unwrap_alone z K merge2 rest2 arm2 whole2 v d d2 same (Leaving l2 vs2 e2) (inr h) runs = (
      Leaving l2 vs2 e2,
      h.1,
      λ after2. (
          let q : onward whole2 d2 after2 ≡ onward arm2 d2 (inside merge2 rest2 after2) = λ i ys. same after2 ys i in
          q ∙ runs (inside merge2 rest2 after2) ∙ label_passed merge2.label (enters merge2 (second_does rest2)) after2 l2 vs2 e2 h.0),
    )
    unwrap_alone z K merge2 rest2 arm2 whole2 v d d2 same (Returning v2 e2) h runs = (
      Returning v2 e2,
      h,
      λ after2. (
          let q : onward whole2 d2 after2 ≡ onward arm2 d2 (inside merge2 rest2 after2) = λ i ys. same after2 ys i in
          q ∙ runs (inside merge2 rest2 after2)),
    )

    some_of : {X : Type 0} (P : X → Type 0) (o : Option X) → IsSomeAnd o P → (x : X) × (o ≡ Some x) × P x
    some_of P None h = absurd h
    some_of P (Some x) h = (x, refl, h)

    mutual
      pub alone : {words : List ℕ} {K : List (Target p.Known)} {g : p.Known} {body2 : Body} → Alone p.edits words K g body2
          → (z : p.Below) (v : Option Value) (d d2 : Data) → p.Related z g d d2
          → returned p.first (said words []) d ≡ Some v → GoesAlone z K body2 v d d2
      alone {words = words} (shape.alone_finishes {K = K} {g = g} {words2 = words2} edit) z v d d2 r o =
          finish_alone z K words2 v d d2 (returned p.second (said words2 []) d2) refl
          (subst (λ q. Both (λ u u2. p.Ends z u d u2 d2) q (returned p.second (said words2 []) d2)) o (local.finished z g words words2 d d2 edit r))
      alone (shape.alone_inserts {K = K} {g = g} {h = h} {others = others} {body2 = body2} edit a) z v d d2 r o =
          let s = second_alone (comparison p) (p.Related z h) call2 (local.inserted z g h others d d2 edit r) refl in
          goes_alone z K (steps others body2) body2 v d d2 s.0
          (λ after2 ys. ap (λ (u : Result). followed u after2) (steps_mean p.second call2 turns others body2 d2 ys ∙ s.2 (second_does body2) ys))
          (alone a z v d s.0 s.1 o)
      alone (shape.alone_enters a) z v d d2 r o = alone a z v d d2 r o
      alone (shape.alone_splits_out {K = K} {g = g} {condition2 = q2} {on = on} {exit2 = exit2} {body2 = body2} edit a) z v d d2 r o =
          goes_alone z K (Splits q2 on exit2 body2) (Leaves exit2) v d d2 d2 (λ after2 ys. splits_out_is p.second call2 turns q2 on exit2 body2 d2 after2 ys
          (local.adds.decided2 z g q2 on d d2 edit r)) (alone a z v d d2 r o)
      alone (shape.alone_splits_past {K = K} {g = g} {condition2 = q2} {on = on} {exit2 = exit2} {body2 = body2} edit a) z v d d2 r o =
          goes_alone z K (Splits q2 on exit2 body2) body2 v d d2 d2 (λ after2 ys. splits_past_is p.second call2 turns q2 on exit2 body2 d2 after2 ys
          (local.adds.decided2 z g q2 (not on) d d2 edit r)) (alone a z v d d2 r o)
      alone (shape.alone_selects {K = K} {g = g} {control = control} {condition2 = q2} {on = on} {first2 = first2} {second2 = second2} {rest2 = rest2}
          {merge2 = merge2} edit a) z v d d2 r o =
          let h = alone a z v d d2 r o in
          unwrap_alone z K merge2 rest2 (cond on first2 second2) (Selects control q2 first2 second2 merge2 rest2) v d d2
          (λ after2 ys. selects_is p.second call2 turns control q2 on first2 second2 rest2 merge2 d2 after2 ys (local.adds.decided2 z g q2 on d d2 edit r)) h.0
          h.1 h.2
      alone (shape.alone_leaves {K = K} {exit2 = exit2} a) z v d d2 r o =
          let h = alone_exit a z v d d2 r o in
          (Leaving exit2.target h.0 d2, h.2, λ after2. λ i ys. followed (given (h.1 i) (λ vs. only (LeavesFor exit2.target vs d2 ys))) after2)

      alone_exit : {words : List ℕ} {K : List (Target p.Known)} {g : p.Known} {exit2 : Exit} → AloneExit p.edits words K g exit2
          → (z : p.Below) (v : Option Value) (d d2 : Data) → p.Related z g d d2
          → returned p.first (said words []) d ≡ Some v → (vs2 : List Value) × (values p.second d2 exit2.values ≡ Some vs2) × WaysTo z None K (Returning v d)
          (Leaving exit2.target vs2 d2)
      alone_exit {words = words} (shape.joins_alone {K = K} {g = g} {h = h} {exit2 = exit2} {second = second} {rest2 = rest2} is edit a) z v d d2 r o =
          let s = some_of (λ vs2. p.Related z h d (with_parameters second vs2 d2)) (values p.second d2 exit2.values)
          (local.adds.carried2 z g h words exit2.values second d d2 edit r) in
          (s.0, s.1, inl (is, alone a z v d (with_parameters second s.0 d2) s.2 o))
      alone_exit {words = words} (shape.wraps_alone {K = K} {g = g} {h = h} {exit2 = exit2} {second = second} {rest2 = rest2} is edit a) z v d d2 r o =
          let s = some_of (λ vs2. p.Related z h d (with_parameters second vs2 d2)) (values p.second d2 exit2.values)
          (local.adds.carried2 z g h words exit2.values second d d2 edit r) in
          (s.0, s.1, inl (is, alone a z v d (with_parameters second s.0 d2) s.2 o))
      alone_exit (shape.past_joins is a) z v d d2 r o = let h = alone_exit a z v d d2 r o in (h.0, h.1, inr (is, h.2))
      alone_exit (shape.past_wraps is a) z v d d2 r o = let h = alone_exit a z v d d2 r o in (h.0, h.1, inr (is, h.2))
      alone_exit (shape.past_pends a) z v d d2 r o = let h = alone_exit a z v d d2 r o in (h.0, h.1, (tt, h.2))

    -- at most n turns of both: by induction on n
    pub turns_beside : (z : p.Below) (R : Option Body) (K : List (Target p.Known)) (header header2 next next2 : Front) (known known_next : p.Known)
        (inner inner2 continuing continuing2 : Onward)
        → ((after2 : After) (d d2 : Data) → p.Related z known d d2
        → Beside (Places z R (Joins next next2 known_next None ∷ Joins header header2 known None ∷ K) after2) (inner d)
        (λ ys. followed (inner2 d2 ys) after2))
        → ((after2 : After) (d d2 : Data) → p.Related z known_next d d2 → Beside (Places z R (Joins header header2 known None ∷ K) after2) (continuing d)
        (λ ys. followed (continuing2 d2 ys) after2))
        → (n : ℕ) (after2 : After) (d d2 : Data) → p.Related z known d d2
        → Beside (Places z R K after2) (turning n header next.label inner (enters next continuing) d)
        (λ ys. followed (turning n header2 next2.label inner2 (enters next2 continuing2) d2 ys) after2)
    turns_beside z R K header header2 next next2 known known_next inner inner2 continuing continuing2 h k zero after2 d d2 r =
        sim_runs_out p.left_out p.Same (Places z R K after2) (λ ys. followed (turning zero header2 next2.label inner2 (enters next2 continuing2) d2 ys) after2)
    turns_beside z R K header header2 next next2 known known_next inner inner2 continuing continuing2 h k (suc n) after2 d d2 r =
        let again : Entry = enters header (turning n header next.label inner (enters next continuing)) in
        let again2 : Entry = enters header2 (turning n header2 next2.label inner2 (enters next2 continuing2)) in
        let back : After = after_label header2.label again2 after2 in
        join z R K header header2 known None (λ xs. then_at next.label (enters next continuing) (inner d xs))
        (λ xs. then_at next2.label (enters next2 continuing2) (inner2 d2 xs)) again again2 after2 tt
        (join z R (Joins header header2 known None ∷ K) next next2 known_next None (inner d) (inner2 d2) (enters next continuing) (enters next2 continuing2)
        back tt
        (h (after_label next2.label (enters next2 continuing2) back) d d2 r)
        (λ vs e vs2 e2 a. k back (with_parameters next vs e) (with_parameters next2 vs2 e2) a))
        (λ vs e vs2 e2 a. turns_beside z R K header header2 next next2 known known_next inner inner2 continuing continuing2 h k n after2
        (with_parameters header vs e) (with_parameters header2 vs2 e2) a)

    -- ---- what only the first has

    pub pends_at : (z : p.Below) (R : Option Body) (K : List (Target p.Known)) (g : p.Known) (exit : Exit) (here : Body) (d d2 : Data) (after2 : After)
        → ExitPends p.edits K g exit here → p.Related z g d d2
        → (vs : List Value) → values p.first d exit.values ≡ Some vs → Places z R K after2 (Leaving exit.target vs d) (onward here d2 after2)
    pends_at z R [] g exit here d d2 after2 h r vs o = absurd h
    pends_at z R (Joins first second known behind2 ∷ K) g exit here d d2 after2 h r vs o = absurd h
    pends_at z R (Wraps second behind2 ∷ K) g exit here d d2 after2 h r vs o = absurd h
    pends_at z R (Pends first known body2 ∷ K) g exit here d d2 after2 (inl h) r vs o =
        inl (
          h.0,
          (
            d2,
            subst (λ z0. IfSome z0 (λ us. p.Related z known (with_parameters first us d) d2)) o
                (local.drops.passed z g known exit.values first d d2 h.1 r),
            λ i. onward (h.2 i) d2 after2,
          ),
        )
    pends_at z R (Pends first known body2 ∷ K) g exit here d d2 after2 (inr h) r vs o = inr (h.0, pends_at z R K g exit here d d2 after2 h.1 r vs o)

    pub decided_at : (condition : ℕ) (on wanted : Bool) (d : Data) (ws : List ℕ)
        → IfSome (words_of_value (value p.first d condition)) (λ us. (number_in us == 1) ≡ on)
        → words_of_value (value p.first d condition) ≡ Some ws → (number_in ws == 1) ≡ wanted → on ≡ wanted
    decided_at condition on wanted d ws h o e =
        let is : (number_in ws == 1) ≡ on = subst (λ z. IfSome z (λ us. (number_in us == 1) ≡ on)) o h in
        sym is ∙ e

    -- how a loop that only the first has begins
    pub begins_before : (z : p.Below) (g h : p.Known) (header : Front) (entry : bodies.Entry) (body2 : Body) (after2 : After) (d d2 e : Data)
        → EntryPasses p.edits g header entry h → p.Related z g d d2 → Begins p.first entry header d e
        → Before z h body2 after2 e (onward body2 d2 after2)
    begins_before z g h header (ByBranch ids) body2 after2 d d2 e edit r begin =
        let there : p.Related z h (with_parameters header begin.0 d) d2 = subst (λ z0. IfSome z0 (λ vs. p.Related z h (with_parameters header vs d) d2)) begin.1
        (local.drops.passed z g h ids header d d2 edit r) in
        (d2, subst (λ (a : Data). p.Related z h a d2) (sym begin.2) there, refl)
    begins_before z g h header InPlace body2 after2 d d2 e edit r begin =
        (d2, subst (λ (a : Data). p.Related z h a d2) (sym begin) (subst (λ k. p.Related z k d d2) (sym edit) r), refl)

    -- where only the first returns
    pub resumes_at : (z : p.Below) (K : List (Target p.Known)) (rest2 : Body) (after2 : After) (v : Option Value) (d : Data) (t : Future) → AllPend K
        → InPlaceOf z rest2 after2 v d t → Places z (Some rest2) K after2 (Returning v d) t
    resumes_at z [] rest2 after2 v d t all h = h
    resumes_at z (Joins first second known behind2 ∷ K) rest2 after2 v d t all h = absurd all
    resumes_at z (Wraps second behind2 ∷ K) rest2 after2 v d t all h = absurd all
    resumes_at z (Pends first known body2 ∷ K) rest2 after2 v d t all h = resumes_at z K rest2 after2 v d t all h
