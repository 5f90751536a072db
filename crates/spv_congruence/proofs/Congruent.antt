-- Bodies in the shape do alike: by induction on the shape, inside that on turns, and outside on the depth of calls.
use Rattle.std.proofs.Common.{◌≡◌, ℕ, zero, suc, ◌==◌, ◌≤◌, Bool, true, false, cond, not, List, [], ◌∷◌, Option, Some, None, refl, sym, ap, ◌∙◌}
use Rattle.std.proofs.Common.{subst, arith}
use Rattle.std.specs.Prelude.{IfSome}
use Rattle.std.specs.Option.{unwrap_or}
use Rattle.interleaving.specs.Machine.{Answer}
use Rattle.spv_meaning.specs.Statements as says
use Rattle.spv_meaning.specs.Statements.{Statement, said, statements_in}
use Rattle.spv_meaning.specs.Types.{number_in}
use Rattle.spv_machine.specs.State.{Value, Data, value, values, words_of_value}
use Rattle.spv_machine.specs.Steps.{chosen}
use Rattle.spv_bodies.specs.Bodies as bodies
use Rattle.spv_bodies.specs.Bodies.{Exit, Front, ByBranch, InPlace, Body, Leaves, Finishes, Step, Enters, Splits, Selects, Switches, Loops, Arms, Last, Also}
use Rattle.spv_bodies.specs.Bodies.{Function, target}
use Rattle.spv_bodies.specs.Listing.{first_target}
use Rattle.spv_trees.specs.Meaning.{Returns, RunsOut, Sticks, Result, Onward, Entry, only, given, either, then_return, all_do, finishes, leaves}
use Rattle.spv_trees.specs.Meaning.{by_condition, enters, turning, begins, meaning, meaning_at, bound, tree}
use Rattle.spv_congruence.specs.Relation as relation
use Rattle.spv_congruence.specs.Relation.{Way, Leaving, Returning, Part, Future, After, followed, Rel, Under, Both, with_parameters, Into}
use Rattle.spv_congruence.specs.Statements.{back_from, DoAlike}
use Rattle.spv_congruence.specs.Shape as shape
use Rattle.spv_congruence.specs.OneSided.{Sim, ReturnedTo}
use Rattle.spv_congruence.specs.Shape.{steps, Target, Joins, Pends, Wraps, Alone, AloneExit, ExitsAlike, ExitPends, AllPend, SameArm, CasesAlike, arm_of}
use Rattle.spv_congruence.specs.Shape.{EntryPasses, Shape, ShapeOfArms, EachArm, ShapeOfLoop}
use Rattle.spv_congruence.specs.Laws.{Pass, begun, CallsAlike, comparison, returned, IsInlined, Local, FunctionsAlike, CongruenceLaw}
use Rattle.spv_congruence.proofs.Ways as ways
use Rattle.spv_congruence.proofs.Relating.{after_label, then_at_followed, rel_runs_out, rel_exit, rel_keeps}
use Rattle.spv_congruence.proofs.OneSided.{sim_same, sim_more, sim_stuck, sim_runs_out, sim_returns, sim_call, sim_given, sim_either, sim_exit}
use Rattle.spv_congruence.proofs.OneSided.{sim_splits, sim_selects, sim_switches, sim_loops, sim_rel, sim_given_both, sim_either_both}
use Rattle.spv_congruence.proofs.OneSided.{sim_condition_both, sim_splits_both}
use Rattle.spv_congruence.proofs.Functions.{finishes_with, chosen_alike, begun_given, known_beside}
use Rattle.spv_congruence.proofs.Second.{selects_is, splits_past_is, switches_is}
use Rattle.spv_congruence.proofs.Doing.{steps_mean, sim_does}

-- ---- where parts are left

not_itself : (b : Bool) → b ≡ not b → ⊥
not_itself true e = cc e
not_itself false e = cc e

module _ (p : Pass) (local : Local p) where
  abbrev Beside : (Way → Future → Type 0) → Part → Future → Type 0
  Beside Ways run future = Sim p.left_out p.Same Ways run future

  module _ (turns top : ℕ) (call2 : ℕ → Entry)
      (calls : (n : ℕ) → n ≤ top → (y : p.Below) (f f2 : ℕ) (vs vs2 : List Value) (d d2 : Data) → CallsAlike p y f vs d f2 vs2 d2
      → Rel p.left_out p.Same (relation.Returned (p.Ends y)) (tree p.first p.functions n turns f vs d) (call2 f2 vs2 d2)) where
    -- where it may call so many deep
    abbrev call : (depth : ℕ) → ℕ → Entry
    call n = tree p.first p.functions n turns

    abbrev first_does : (depth : ℕ) → Body → Onward
    first_does n body d xs = meaning p.first (call n) turns body d xs

    abbrev second_does : Body → Onward
    second_does body d xs = meaning p.second call2 turns body d xs

    abbrev onward : Body → Data → After → Future
    onward = ways.onward p local turns call2

    abbrev Before : p.Below → p.Known → Body → After → Data → Future → Type 0
    Before = ways.Before p local turns call2

    abbrev Places : p.Below → Option Body → List (Target p.Known) → After → Way → Future → Type 0
    Places = ways.Places p local turns call2

    abbrev WaysTo : p.Below → Option Body → List (Target p.Known) → Way → Way → Type 0
    WaysTo = ways.WaysTo p local turns call2

    abbrev inside : Front → Body → After → After
    inside = ways.inside p local turns call2

    abbrev EntriesAlike : p.Below → p.Known → (header header2 : Front) → (entry entry2 : bodies.Entry) → Data → Data → Type 0
    EntriesAlike = ways.EntriesAlike p local

    -- ---- what only the first has

    -- the rest of the first, where the second is before its body
    rest_beside : (n : ℕ) (z : p.Below) (R : Option Body) (K : List (Target p.Known)) (after2 : After) (rest : Body) (e : Data) (t : Future) (rest2 : Body)
        (known : p.Known) → Before z known rest2 after2 e t
        → ((e2 : Data) → p.Related z known e e2 → Beside (Places z R K after2) (first_does n rest e) (onward rest2 e2 after2))
        → Beside (Places z R K after2) (first_does n rest e) t
    rest_beside n z R K after2 rest e t rest2 known b more = subst (λ (u : Future). Beside (Places z R K after2) (first_does n rest e) u) (sym b.2)
        (more b.0 b.1)

    -- instructions of both, and behind them bodies
    steps_beside : (n : ℕ) → n ≤ top → (Ways : Way → Future → Type 0) (Behind : Data → Data → Type 0) (ss : List Statement) (others : List (List ℕ))
        (body body2 : Body) (after2 : After) (d d2 : Data)
        → DoAlike (comparison p) Behind ss d (statements_in others) d2
        → ((e e2 : Data) → Behind e e2 → Beside Ways (first_does n body e) (onward body2 e2 after2))
        → Beside Ways (λ xs. all_do p.first (call n) ss d xs (first_does n body)) (onward (steps others body2) d2 after2)
    steps_beside n le Ways Behind ss others body body2 after2 d d2 h more =
        sim_same p.left_out p.Same Ways
        (λ xs. all_do p.first (call n) ss d xs (first_does n body)) (λ xs. all_do p.first (call n) ss d xs (first_does n body))
        (onward (steps others body2) d2 after2) (λ ys. followed (all_do p.second call2 (statements_in others) d2 ys (second_does body2)) after2)
        (λ xs. refl) (λ ys. ap (λ (u : Result). followed u after2) (steps_mean p.second call2 turns others body2 d2 ys))
        (sim_does (comparison p) (call n) call2 (calls n le) Behind (first_does n body) (second_does body2) Ways after2 more h)

    -- the arm that is chosen
    this_or : (n : ℕ) (Ways : Way → Future → Type 0) (other arm : Body) (others : Onward) (more : Option Body) (d : Data) (t : Future) (b : Bool)
        → cond b (Some other) more ≡ Some arm → Beside Ways (first_does n arm d) t
        → (more ≡ Some arm → Beside Ways (others d) t) → Beside Ways (either b (first_does n other) others d) t
    this_or n Ways other arm others more d t true e h k =
        let same : arm ≡ other = sym (ap (λ (z : Option Body). unwrap_or z other) e) in
        subst (λ (z : Body). Beside Ways (first_does n z d) t) same h
    this_or n Ways other arm others more d t false e h k = k e

    arm_beside : (n : ℕ) (Ways : Way → Future → Type 0) (arms : Arms) (arm : Body) (label : ℕ) (d : Data) (t : Future) → arm_of arms label ≡ Some arm
        → Beside Ways (first_does n arm d) t
        → Beside Ways (meaning_at p.first (call n) turns arms label d) t
    arm_beside n Ways (Last other) arm label d t e h = this_or n Ways other arm (λ a ys. only Sticks) None d t (target other == label) e h (λ f. absurd (cc f))
    arm_beside n Ways (Also other arms) arm label d t e h =
        this_or n Ways other arm (meaning_at p.first (call n) turns arms label) (arm_of arms label) d t (target other == label) e h
        (λ f. arm_beside n Ways arms arm label d t f h)

    -- ---- callees that the second has in place

    -- a call as a step
    call_step : (n t r f : ℕ) (arguments : List ℕ) (words : List ℕ) (body : Body) (d : Data) (xs : List Answer)
        → said words [] ≡ says.FunctionCall t r f arguments ∷ []
        → first_does n (Step words body) d xs ≡ given (values p.first d arguments) (λ vs. then_return r (first_does n body) (call n f vs d xs))
    call_step n t r f arguments words body d xs e = ap (λ (ss : List Statement). all_do p.first (call n) ss d xs (first_does n body)) e

    -- no calls are left
    called_out : (f : ℕ) (r : ℕ) (vs : List Value) (d : Data) (go : Onward) (Ways : Way → Future → Type 0) (t : Future)
        → Beside Ways (λ xs. then_return r go (call zero f vs d xs)) t
    called_out f r vs d go Ways t = known_out (p.functions f) where
      bound_out : (o : Option (List (ℕ × Value))) → Beside Ways (λ xs. then_return r go (given o (λ entries. only RunsOut))) t
      bound_out None = sim_stuck p.left_out p.Same Ways t
      bound_out (Some entries) = sim_runs_out p.left_out p.Same Ways t

      known_out : (o : Option Function) → Beside Ways
          (λ xs. then_return r go (given o (λ function. given (bound p.first (statements_in function.parameters) vs []) (λ entries. only RunsOut)))) t
      known_out None = sim_stuck p.left_out p.Same Ways t
      known_out (Some function) = bound_out (bound p.first (statements_in function.parameters) vs [])

    inlined_out : (Ways : Way → Future → Type 0) (g k h : p.Known) (words : List ℕ) (callee body : Body) (d : Data) (t : Future)
        → IsInlined p g words callee k h → Beside Ways (first_does zero (Step words body) d) t
    inlined_out Ways g k h words callee body d t is =
        sim_same p.left_out p.Same Ways (first_does zero (Step words body) d)
        (λ xs. given (values p.first d is.arguments) (λ vs. then_return is.result_id (first_does zero body) (call zero is.function vs d xs))) t t
        (λ xs. call_step zero is.type is.result_id is.function is.arguments words body d xs is.call) (λ ys. refl)
        (sim_given p.left_out p.Same Ways (values p.first d is.arguments) (λ vs xs. then_return is.result_id (first_does zero body)
        (call zero is.function vs d xs)) t
        (λ vs o. called_out is.function is.result_id vs d (first_does zero body) Ways t))

    -- a function's body from its first data on
    entered : (n : ℕ) (Ways : Way → Future → Type 0) (vs : List Value) (d : Data) (t : Future) (callee : Body) (R : Data → Type 0)
        → (o : Option Function) → IfSome o (λ f. f.body ≡ callee) → IfSome o (λ f. IfSome (begun p.first f vs d) R)
        → ((e : Data) → R e → Beside Ways (first_does n callee e) t)
        → Beside Ways (λ xs. given o (λ f. given (bound p.first (statements_in f.parameters) vs [])
        (λ entries. first_does n f.body (record d { frames = record { values = entries; variables = [] } ∷ d.frames }) xs))) t
    entered n Ways vs d t callee R None is begin more = sim_stuck p.left_out p.Same Ways t
    entered n Ways vs d t callee R (Some f) is begin more =
        sim_same p.left_out p.Same Ways
        (λ xs. given (bound p.first (statements_in f.parameters) vs [])
        (λ entries. first_does n f.body (record d { frames = record { values = entries; variables = [] } ∷ d.frames }) xs))
        (λ xs. given (begun p.first f vs d) (λ e. first_does n f.body e xs)) t t
        (λ xs. begun_given d (first_does n f.body) xs (bound p.first (statements_in f.parameters) vs [])) (λ ys. refl)
        (sim_given p.left_out p.Same Ways (begun p.first f vs d) (first_does n f.body) t
        (λ e o. subst (λ (z : Body). Beside Ways (first_does n z e) t) (sym is) (more e (subst (λ z. IfSome z R) o begin))))

    inlined_beside : (n : ℕ) (Ways : Way → Future → Type 0) (z : p.Below) (g k h : p.Known) (words : List ℕ) (callee body rest2 : Body) (after2 : After)
        (d d2 : Data) (t : Future) → IsInlined p g words callee k h → p.Related z g d d2
        → ((y : p.Below) (e : Data) → p.Related y k e d2 → Beside (Places y (Some rest2) [] after2) (first_does n callee e) t)
        → ((e e2 : Data) → p.Related z h e e2 → Beside Ways (first_does (suc n) body e) (onward rest2 e2 after2))
        → Beside Ways (first_does (suc n) (Step words body) d) t
    inlined_beside n Ways z g k h words callee body rest2 after2 d d2 t is r inside behind =
        sim_same p.left_out p.Same Ways (first_does (suc n) (Step words body) d)
        (λ xs. given (values p.first d is.arguments) (λ vs. then_return is.result_id (first_does (suc n) body) (call (suc n) is.function vs d xs))) t t
        (λ xs. call_step (suc n) is.type is.result_id is.function is.arguments words body d xs is.call) (λ ys. refl)
        (sim_given p.left_out p.Same Ways (values p.first d is.arguments) (λ vs xs. then_return is.result_id (first_does (suc n) body)
        (call (suc n) is.function vs d xs)) t
        (λ vs o. sim_call p.left_out p.Same is.result_id Ended Ways (call (suc n) is.function vs d) (first_does (suc n) body) t
        (entered n (ReturnedTo Ended) vs d t callee Begun (p.functions is.function) is.body
        (subst (λ z0. IfSome z0 (λ us. IfSome (p.functions is.function) (λ f. IfSome (begun p.first f us d) Begun))) o (is.begins z d d2 r))
        (λ e b. sim_more p.left_out p.Same (Places b.0 (Some rest2) [] after2) (ReturnedTo Ended) (first_does n callee e) t (ended_at b.0 b.2)
        (inside b.0 e b.1)))
        (λ v e s q. subst (λ (u : Future). Beside Ways (first_does (suc n) body (back_from is.result_id v e)) u) (sym q.2)
        (behind (back_from is.result_id v e) q.0 q.1)))) where
          Begun : Data → Type 0
          Begun e = (y : p.Below) × p.Related y k e d2 × ((v : Option Value) (a a2 : Data) → p.EndsInPlace y v a a2
              → p.Related z h (back_from is.result_id v a) a2)

          Ended : Option Value → Data → Future → Type 0
          Ended v e s = (e2 : Data) × p.Related z h (back_from is.result_id v e) e2 × (s ≡ onward rest2 e2 after2)

          ended_at : (y : p.Below) → ((v : Option Value) (a a2 : Data) → p.EndsInPlace y v a a2 → p.Related z h (back_from is.result_id v a) a2)
              → (w : Way) (s : Future) → Places y (Some rest2) [] after2 w s → ReturnedTo Ended w s
          ended_at y back (Leaving l vs e) s q = tt
          ended_at y back (Returning v e) s q = (q.0, back v e q.0 q.1, q.2)

    -- ---- bodies

    mutual
      pub shaped : {R : Option Body} {K : List (Target p.Known)} {g : p.Known} {body body2 : Body} → Shape p.edits R K g body body2 → (n : ℕ) → n ≤ top
          → (z : p.Below) (after2 : After) (d d2 : Data) → p.Related z g d d2
          → Beside (Places z R K after2) (first_does n body d) (onward body2 d2 after2)
      shaped (shape.leaves {R = R} {K = K} {g = g} {exit = exit} {exit2 = exit2} h) n le z after2 d d2 r =
          ways.by_rel p local turns call2 z R K after2 (leaves p.first exit d) (leaves p.second exit2 d2)
          (rel_exit p.left_out p.Same (WaysTo z R K) p.first p.second exit exit2 d d2
          (ways.exits_alike p local turns call2 z R K g exit exit2 d d2 h r))
      shaped (shape.finishes {K = K} {g = g} {words = words} {words2 = words2} edit) n le z after2 d d2 r =
          ways.by_rel p local turns call2 z None K after2 (finishes p.first (said words []) d) (finishes p.second (said words2 []) d2)
          (ways.finishes_beside p local turns call2 z K words words2 d d2 (local.finished z g words words2 d d2 edit r))
      shaped (shape.turns {R = R} {K = K} {g = g} {h = h} {words = words} {others = others} {body = body} {body2 = body2} edit s) n le z after2 d d2 r =
          steps_beside n le (Places z R K after2) (p.Related z h) (said words []) others body body2 after2 d d2 (local.turned z g h words others d d2 edit r)
          (λ e e2 q. shaped s n le z after2 e e2 q)
      shaped (shape.splits {R = R} {K = K} {g = g} {condition = q} {condition2 = q2} {on = on} {exit = exit} {exit2 = exit2} {body = body} {body2 = body2} asked
          out s) n le z after2 d d2 r =
          sim_splits_both p.left_out p.Same (Places z R K after2) p.first p.second q q2 on (leaves p.first exit) (leaves p.second exit2) (first_does n body)
          (second_does body2) d d2 after2
          (local.asked z g q q2 d d2 asked r)
          (ways.by_rel p local turns call2 z R K after2 (leaves p.first exit d) (leaves p.second exit2 d2)
          (rel_exit p.left_out p.Same (WaysTo z R K) p.first p.second exit exit2 d d2
          (ways.exits_alike p local turns call2 z R K g exit exit2 d d2 out r)))
          (shaped s n le z after2 d d2 r)
      shaped (shape.selects {R = R} {K = K} {g = g} {h = h} {condition = q} {condition2 = q2} {first = first} {first2 = first2} {second = second}
          {second2 = second2} {rest = rest} {rest2 = rest2} {merge = merge} {merge2 = merge2} asked opened s1 s2 s3) n le z after2 d d2 r =
          let behind : After = after_label merge2.label (enters merge2 (second_does rest2)) after2 in
          ways.join p local turns call2 z R K merge merge2 h (Some rest2) (by_condition p.first q (first_does n first) (first_does n second) d)
          (by_condition p.second q2 (second_does first2) (second_does second2) d2)
          (enters merge (first_does n rest)) (enters merge2 (second_does rest2)) after2 (λ vs e ys. refl)
          (sim_condition_both p.left_out p.Same (Places z R (Joins merge merge2 h (Some rest2) ∷ K) behind) p.first p.second q q2 (first_does n first)
          (second_does first2) (first_does n second) (second_does second2) d d2 behind
          (local.asked z g q q2 d d2 asked r) (shaped s1 n le z behind d d2 r) (shaped s2 n le z behind d d2 r))
          (λ vs e vs2 e2 a. shaped s3 n le z after2 (with_parameters merge vs e) (with_parameters merge2 vs2 e2) a)
      shaped (shape.switches {R = R} {K = K} {g = g} {h = h} {selector = q} {selector2 = q2} {cases = cases} {cases2 = cases2} {arms = arms} {arms2 = arms2}
          {merge = merge} {merge2 = merge2} {rest = rest} {rest2 = rest2} asked opened default same s1 s2) n le z after2 d d2 r =
          let o = words_of_value (value p.first d q) in
          let o2 = words_of_value (value p.second d2 q2) in
          let behind : After = after_label merge2.label (enters merge2 (second_does rest2)) after2 in
          ways.join p local turns call2 z R K merge merge2 h (Some rest2)
          (λ xs. given o (λ ws. meaning_at p.first (call n) turns arms (chosen (number_in ws) (first_target arms) cases) d xs))
          (λ xs. given o2 (λ ws. meaning_at p.second call2 turns arms2 (chosen (number_in ws) (first_target arms2) cases2) d2 xs))
          (enters merge (first_does n rest)) (enters merge2 (second_does rest2)) after2 (λ vs e ys. refl)
          (sim_given_both p.left_out p.Same (Places z R (Joins merge merge2 h (Some rest2) ∷ K) behind) (λ ws ws2. number_in ws ≡ number_in ws2) o o2
          (λ ws. meaning_at p.first (call n) turns arms (chosen (number_in ws) (first_target arms) cases) d)
          (λ ws. meaning_at p.second call2 turns arms2 (chosen (number_in ws) (first_target arms2) cases2) d2) behind
          (local.selected z g q q2 d d2 asked r)
          (λ ws ws2 e. arms_shaped s1 n le z behind (chosen (number_in ws) (first_target arms) cases) (chosen (number_in ws2) (first_target arms2) cases2) d d2
          (chosen_alike arms arms2 (number_in ws) (number_in ws2) (first_target arms) (first_target arms2) cases cases2 e default same) r))
          (λ vs e vs2 e2 a. shaped s2 n le z after2 (with_parameters merge vs e) (with_parameters merge2 vs2 e2) a)
      shaped (shape.loops {R = R} {K = K} {g = g} {h = h} {values = ids} {values2 = ids2} {control = control} {header = header} {header2 = header2} opened edit
          s) n le z after2 d d2 r =
          loop_shaped s n le z (ByBranch ids) (ByBranch ids2) control after2 d d2 (local.carried z g h ids ids2 header header2 d d2 edit r)
      shaped (shape.placed {control = control} s) n le z after2 d d2 r = loop_shaped s n le z InPlace InPlace control after2 d d2 r
      shaped (shape.inserts {R = R} {K = K} {g = g} {h = h} {others = others} {body = body} {body2 = body2} edit s) n le z after2 d d2 r =
          steps_beside n le (Places z R K after2) (p.Related z h) [] others body body2 after2 d d2 (local.inserted z g h others d d2 edit r)
          (λ e e2 q. shaped s n le z after2 e e2 q)
      shaped (shape.enters_second s) n le z after2 d d2 r = shaped s n le z after2 d d2 r
      shaped (shape.enters s) n le z after2 d d2 r = shaped s n le z after2 d d2 r
      shaped (shape.pends {R = R} {K = K} {g = g} {exit = exit} {body2 = body2} h) n le z after2 d d2 r =
          sim_exit p.left_out p.Same (Places z R K after2) p.first exit d (onward body2 d2 after2)
          (ways.pends_at p local turns call2 z R K g exit body2 d d2 after2 h r)
      shaped (shape.splits_out {R = R} {K = K} {g = g} {condition = q} {on = on} {exit = exit} {body = body} {body2 = body2} edit s) n le z after2 d d2 r =
          sim_splits p.left_out p.Same (Places z R K after2) p.first q on (leaves p.first exit) (first_does n body) d (onward body2 d2 after2)
          (λ ws o e. shaped s n le z after2 d d2 r)
          (λ ws o e. absurd (not_itself on (ways.decided_at p local turns call2 q on (not on) d ws (local.drops.decided z g q on d d2 edit r) o e)))
      shaped (shape.splits_past {R = R} {K = K} {g = g} {condition = q} {on = on} {exit = exit} {body = body} {body2 = body2} edit s) n le z after2 d d2 r =
          sim_splits p.left_out p.Same (Places z R K after2) p.first q on (leaves p.first exit) (first_does n body) d (onward body2 d2 after2)
          (λ ws o e. absurd (not_itself on (sym (ways.decided_at p local turns call2 q (not on) on d ws (local.drops.decided z g q (not on) d d2 edit r) o e))))
          (λ ws o e. shaped s n le z after2 d d2 r)
      shaped (shape.drops_split {R = R} {K = K} {g = g} {condition = q} {on = on} {exit = exit} {body = body} {body2 = body2} s1 s2) n le z after2 d d2 r =
          sim_splits p.left_out p.Same (Places z R K after2) p.first q on (leaves p.first exit) (first_does n body) d (onward body2 d2 after2)
          (λ ws o e. shaped s1 n le z after2 d d2 r) (λ ws o e. shaped s2 n le z after2 d d2 r)
      shaped (shape.selects_arm {R = R} {K = K} {g = g} {h = h} {control = control} {condition = q} {on = true} {first = first} {second = second} {rest = rest}
          {rest2 = rest2} {body2 = body2} {merge = merge} edit s1 s2) n le z after2 d d2 r =
          sim_selects p.left_out p.Same p.first (call n) turns (Places z R K after2) (Before z h rest2 after2) control q first second rest merge d
          (onward body2 d2 after2)
          (λ ws o e. shaped s1 n le z after2 d d2 r)
          (λ ws o e. absurd (cc (ways.decided_at p local turns call2 q true false d ws (local.drops.decided z g q true d d2 edit r) o e)))
          (λ e t b. rest_beside n z R K after2 rest e t rest2 h b (λ e2 q0. shaped s2 n le z after2 e e2 q0))
      shaped (shape.selects_arm {R = R} {K = K} {g = g} {h = h} {control = control} {condition = q} {on = false} {first = first} {second = second} {rest = rest}
          {rest2 = rest2} {body2 = body2} {merge = merge} edit s1 s2) n le z after2 d d2 r =
          sim_selects p.left_out p.Same p.first (call n) turns (Places z R K after2) (Before z h rest2 after2) control q first second rest merge d
          (onward body2 d2 after2)
          (λ ws o e. absurd (cc (ways.decided_at p local turns call2 q false true d ws (local.drops.decided z g q false d d2 edit r) o e)))
          (λ ws o e. shaped s1 n le z after2 d d2 r)
          (λ e t b. rest_beside n z R K after2 rest e t rest2 h b (λ e2 q0. shaped s2 n le z after2 e e2 q0))
      shaped (shape.drops_selection {R = R} {K = K} {g = g} {h = h} {control = control} {condition = q} {first = first} {second = second} {rest = rest}
          {rest2 = rest2} {body2 = body2} {merge = merge} s1 s2 s3) n le z after2 d d2 r =
          sim_selects p.left_out p.Same p.first (call n) turns (Places z R K after2) (Before z h rest2 after2) control q first second rest merge d
          (onward body2 d2 after2)
          (λ ws o e. shaped s1 n le z after2 d d2 r) (λ ws o e. shaped s2 n le z after2 d d2 r)
          (λ e t b. rest_beside n z R K after2 rest e t rest2 h b (λ e2 q0. shaped s3 n le z after2 e e2 q0))
      shaped (shape.switches_arm {R = R} {K = K} {g = g} {h = h} {control = control} {selector = q} {number = number} {cases = cases} {arms = arms} {arm = arm}
          {rest = rest} {rest2 = rest2} {body2 = body2} {merge = merge} edit is s1 s2) n le z after2 d d2 r =
          let inner : Way → Future → Type 0 = Places z R (Pends merge h rest2 ∷ K) after2 in
          sim_switches p.left_out p.Same p.first (call n) turns (Places z R K after2) (Before z h rest2 after2) control q cases arms rest merge d
          (onward body2 d2 after2)
          (λ ws o. arm_beside n inner arms arm (chosen (number_in ws) (first_target arms) cases) d (onward body2 d2 after2)
          (ap (λ n. arm_of arms (chosen n (first_target arms) cases)) (subst (λ z0. IfSome z0 (λ us. number_in us ≡ number)) o
          (local.drops.chosen z g q number d d2 edit r)) ∙ is)
          (shaped s1 n le z after2 d d2 r))
          (λ e t b. rest_beside n z R K after2 rest e t rest2 h b (λ e2 q0. shaped s2 n le z after2 e e2 q0))
      shaped (shape.drops_switch {R = R} {K = K} {g = g} {h = h} {control = control} {selector = q} {cases = cases} {arms = arms} {rest = rest} {rest2 = rest2}
          {body2 = body2} {merge = merge} s1 s2) n le z after2 d d2 r =
          sim_switches p.left_out p.Same p.first (call n) turns (Places z R K after2) (Before z h rest2 after2) control q cases arms rest merge d
          (onward body2 d2 after2)
          (λ ws o. each_shaped s1 n le z after2 (chosen (number_in ws) (first_target arms) cases) d d2 r)
          (λ e t b. rest_beside n z R K after2 rest e t rest2 h b (λ e2 q0. shaped s2 n le z after2 e e2 q0))
      shaped (shape.drops_loop {R = R} {K = K} {g = g} {h = h} {k = k} {m = m} {entry = entry} {control = control} {header = header} {next = next}
          {merge = merge} {inner = inner} {continuing = continuing} {rest = rest} {body2 = body2} {continuing2 = continuing2} {rest2 = rest2} edit s1 s2 s3) n
          le z after2 d d2 r =
          sim_loops p.left_out p.Same p.first (call n) turns (Places z R K after2) (Before z h body2 after2) (Before z k continuing2 after2)
          (Before z m rest2 after2) entry header control inner next continuing merge rest d (onward body2 d2 after2)
          (λ e b. ways.begins_before p local turns call2 z g h header entry body2 after2 d d2 e edit r b)
          (λ e t b. rest_beside n z R (Pends next k continuing2 ∷ Pends header h body2 ∷ Pends merge m rest2 ∷ K) after2 inner e t body2 h b
          (λ e2 q0. shaped s1 n le z after2 e e2 q0))
          (λ e t b. rest_beside n z R (Pends header h body2 ∷ Pends merge m rest2 ∷ K) after2 continuing e t continuing2 k b
          (λ e2 q0. shaped s2 n le z after2 e e2 q0))
          (λ e t b. rest_beside n z R K after2 rest e t rest2 m b (λ e2 q0. shaped s3 n le z after2 e e2 q0))
      shaped (shape.inlines {R = R} {K = K} {g = g} {h = h} {k = k} {words = words} {callee = callee} {body = body} {rest2 = rest2} {body2 = body2} edit s1 s2)
          zero le z after2 d d2 r =
          inlined_out (Places z R K after2) g k h words callee body d (onward body2 d2 after2) (local.drops.inlined g k h words callee edit)
      shaped (shape.inlines {R = R} {K = K} {g = g} {h = h} {k = k} {words = words} {callee = callee} {body = body} {rest2 = rest2} {body2 = body2} edit s1 s2)
          (suc n) le z after2 d d2 r =
          inlined_beside n (Places z R K after2) z g k h words callee body rest2 after2 d d2 (onward body2 d2 after2)
          (local.drops.inlined g k h words callee edit) r
          (λ y e q. shaped s1 n (omega (arith, le)) y after2 e d2 q) (λ e e2 q. shaped s2 (suc n) le z after2 e e2 q)
      shaped (shape.resumes {K = K} {g = g} {words = words} {rest2 = rest2} edit all) n le z after2 d d2 r =
          sim_same p.left_out p.Same (Places z (Some rest2) K after2) (finishes p.first (said words []) d)
          (λ xs. given (returned p.first (said words []) d) (λ v. only (Returns v d xs))) (onward rest2 d2 after2) (onward rest2 d2 after2)
          (λ xs. finishes_with p.first (said words []) d xs) (λ ys. refl)
          (sim_given p.left_out p.Same (Places z (Some rest2) K after2) (returned p.first (said words []) d) (λ v xs. only (Returns v d xs))
          (onward rest2 d2 after2)
          (λ v o. sim_returns p.left_out p.Same (Places z (Some rest2) K after2) v d (onward rest2 d2 after2)
          (ways.resumes_at p local turns call2 z K rest2 after2 v d (onward rest2 d2 after2) all (
            d2,
            subst (λ z0. IfSome z0 (λ u. p.EndsInPlace z u d d2)) o
                (local.drops.resumed z g words d d2 edit r),
            refl,
          ))))
      shaped (shape.wraps {R = R} {K = K} {g = g} {control = control} {condition2 = q2} {on = on} {body = body} {first2 = first2} {second2 = second2}
          {rest2 = rest2} {merge2 = merge2} edit s) n le z after2 d d2 r =
          ways.unwrap p local turns call2 z R K merge2 rest2 after2 (first_does n body d) (onward (Selects control q2 first2 second2 merge2 rest2) d2 after2)
          (onward (cond on first2 second2) d2 (inside merge2 rest2 after2))
          (λ ys. selects_is p.second call2 turns control q2 on first2 second2 rest2 merge2 d2 after2 ys (local.adds.decided2 z g q2 on d d2 edit r))
          (shaped s n le z (inside merge2 rest2 after2) d d2 r)
      shaped (shape.wraps_switch {R = R} {K = K} {g = g} {control = control} {selector2 = q2} {number = number} {cases2 = cases2} {arms2 = arms2} {body = body}
          {arm2 = arm2} {rest2 = rest2} {merge2 = merge2} edit is s) n le z after2 d d2 r =
          ways.unwrap p local turns call2 z R K merge2 rest2 after2 (first_does n body d) (onward (Switches control q2 cases2 arms2 merge2 rest2) d2 after2)
          (onward arm2 d2 (inside merge2 rest2 after2))
          (λ ys. switches_is p.second call2 turns control q2 number cases2 arms2 arm2 rest2 merge2 d2 after2 ys (local.adds.chosen2 z g q2 number d d2 edit r)
          is) (shaped s n le z (inside merge2 rest2 after2) d d2 r)
      shaped (shape.splits_second {R = R} {K = K} {g = g} {condition2 = q2} {on = on} {exit2 = exit2} {body = body} {body2 = body2} edit s) n le z after2 d d2
          r =
          sim_same p.left_out p.Same (Places z R K after2) (first_does n body d) (first_does n body d) (onward (Splits q2 on exit2 body2) d2 after2)
          (onward body2 d2 after2)
          (λ xs. refl) (λ ys. splits_past_is p.second call2 turns q2 on exit2 body2 d2 after2 ys (local.adds.decided2 z g q2 (not on) d d2 edit r))
          (shaped s n le z after2 d d2 r)
      shaped (shape.returns_alone {K = K} {g = g} {words = words} {body2 = body2} a) n le z after2 d d2 r =
          sim_same p.left_out p.Same (Places z None K after2) (finishes p.first (said words []) d)
          (λ xs. given (returned p.first (said words []) d) (λ v. only (Returns v d xs))) (onward body2 d2 after2) (onward body2 d2 after2)
          (λ xs. finishes_with p.first (said words []) d xs) (λ ys. refl)
          (sim_given p.left_out p.Same (Places z None K after2) (returned p.first (said words []) d) (λ v xs. only (Returns v d xs)) (onward body2 d2 after2)
          (λ v o. sim_returns p.left_out p.Same (Places z None K after2) v d (onward body2 d2 after2)
          (let h = ways.alone p local turns call2 a z v d d2 r o in ways.from_ways p local turns call2 z None K after2 (Returning v d) h.0
          (onward body2 d2 after2) h.1 (h.2 after2))))
      shaped (shape.splits_selects {R = R} {K = K} {g = g} {control = control} {condition = q} {condition2 = q2} {on = true} {exit = exit} {body = body}
          {first2 = first2} {second2 = second2} {rest2 = rest2} {merge2 = merge2} asked s1 s2) n le z after2 d d2 r =
          let behind : After = inside merge2 rest2 after2 in
          ways.unwrap p local turns call2 z R K merge2 rest2 after2 (first_does n (Splits q true exit body) d)
          (onward (Selects control q2 first2 second2 merge2 rest2) d2 after2)
          (λ ys. followed (by_condition p.second q2 (second_does first2) (second_does second2) d2 ys) behind)
          (λ ys. then_at_followed merge2.label (enters merge2 (second_does rest2)) (by_condition p.second q2 (second_does first2) (second_does second2) d2 ys)
          after2)
          (sim_condition_both p.left_out p.Same (Places z R (Wraps merge2 rest2 ∷ K) behind) p.first p.second q q2 (leaves p.first exit) (second_does first2)
          (first_does n body) (second_does second2) d d2 behind
          (local.asked z g q q2 d d2 asked r) (shaped s1 n le z behind d d2 r) (shaped s2 n le z behind d d2 r))
      shaped (shape.splits_selects {R = R} {K = K} {g = g} {control = control} {condition = q} {condition2 = q2} {on = false} {exit = exit} {body = body}
          {first2 = first2} {second2 = second2} {rest2 = rest2} {merge2 = merge2} asked s1 s2) n le z after2 d d2 r =
          let behind : After = inside merge2 rest2 after2 in
          ways.unwrap p local turns call2 z R K merge2 rest2 after2 (first_does n (Splits q false exit body) d)
          (onward (Selects control q2 first2 second2 merge2 rest2) d2 after2)
          (λ ys. followed (by_condition p.second q2 (second_does first2) (second_does second2) d2 ys) behind)
          (λ ys. then_at_followed merge2.label (enters merge2 (second_does rest2)) (by_condition p.second q2 (second_does first2) (second_does second2) d2 ys)
          after2)
          (sim_condition_both p.left_out p.Same (Places z R (Wraps merge2 rest2 ∷ K) behind) p.first p.second q q2 (first_does n body) (second_does first2)
          (leaves p.first exit) (second_does second2) d d2 behind
          (local.asked z g q q2 d d2 asked r) (shaped s2 n le z behind d d2 r) (shaped s1 n le z behind d d2 r))
      shaped (shape.never {g = g} edit) n le z after2 d d2 r = absurd (local.drops.never z g d d2 edit r)

      arms_shaped : {R : Option Body} {K : List (Target p.Known)} {g : p.Known} {arms arms2 : Arms} → ShapeOfArms p.edits R K g arms arms2 → (n : ℕ) → n ≤ top
          → (z : p.Below) (after2 : After) (l l2 : ℕ) (d d2 : Data) → SameArm arms arms2 l l2 → p.Related z g d d2
          → Beside (Places z R K after2) (meaning_at p.first (call n) turns arms l d) (λ ys. followed (meaning_at p.second call2 turns arms2 l2 d2 ys) after2)
      arms_shaped (shape.last {R = R} {K = K} {arm = arm} {arm2 = arm2} s) n le z after2 l l2 d d2 same r =
          sim_either_both p.left_out p.Same (Places z R K after2) (target arm == l) (target arm2 == l2) (first_does n arm) (second_does arm2)
          (λ e ys. only Sticks) (λ e ys. only Sticks) d d2 after2 same
          (shaped s n le z after2 d d2 r) (sim_stuck p.left_out p.Same (Places z R K after2) (λ ys. followed (only Sticks) after2))
      arms_shaped (shape.also {R = R} {K = K} {arm = arm} {arm2 = arm2} {arms = arms} {arms2 = arms2} s ss) n le z after2 l l2 d d2 same r =
          sim_either_both p.left_out p.Same (Places z R K after2) (target arm == l) (target arm2 == l2) (first_does n arm) (second_does arm2)
          (meaning_at p.first (call n) turns arms l) (meaning_at p.second call2 turns arms2 l2) d d2 after2 same.0
          (shaped s n le z after2 d d2 r) (arms_shaped ss n le z after2 l l2 d d2 same.1 r)

      each_shaped : {R : Option Body} {K : List (Target p.Known)} {g : p.Known} {arms : Arms} {body2 : Body} → EachArm p.edits R K g arms body2 → (n : ℕ)
          → n ≤ top → (z : p.Below) (after2 : After) (l : ℕ) (d d2 : Data) → p.Related z g d d2
          → Beside (Places z R K after2) (meaning_at p.first (call n) turns arms l d) (onward body2 d2 after2)
      each_shaped (shape.the_last {R = R} {K = K} {arm = arm} {body2 = body2} s) n le z after2 l d d2 r =
          sim_either p.left_out p.Same (Places z R K after2) (target arm == l) (first_does n arm) (λ e ys. only Sticks) d (onward body2 d2 after2)
          (λ e. shaped s n le z after2 d d2 r)
          (λ e. sim_stuck p.left_out p.Same (Places z R K after2) (onward body2 d2 after2))
      each_shaped (shape.this_also {R = R} {K = K} {arm = arm} {body2 = body2} {arms = arms} s ss) n le z after2 l d d2 r =
          sim_either p.left_out p.Same (Places z R K after2) (target arm == l) (first_does n arm) (meaning_at p.first (call n) turns arms l) d
          (onward body2 d2 after2) (λ e. shaped s n le z after2 d d2 r)
          (λ e. each_shaped ss n le z after2 l d d2 r)

      -- a loop of both, however it is come to
      loop_shaped : {R : Option Body} {K : List (Target p.Known)} {g : p.Known} {header header2 : Front} {inner inner2 : Body} {next next2 : Front}
          {continuing continuing2 : Body} {merge merge2 : Front} {rest rest2 : Body}
          → ShapeOfLoop p.edits R K g header header2 inner inner2 next next2 continuing continuing2 merge merge2 rest rest2
          → (n : ℕ) → n ≤ top → (z : p.Below) (entry entry2 : bodies.Entry) (control : ℕ) (after2 : After) (d d2 : Data)
          → EntriesAlike z g header header2 entry entry2 d d2
          → Beside (Places z R K after2) (first_does n (Loops entry header control inner next continuing merge rest) d)
          (onward (Loops entry2 header2 control inner2 next2 continuing2 merge2 rest2) d2 after2)
      loop_shaped (shape.parts {R = R} {K = K} {g = g} {h = h} {k = k} {header = header} {header2 = header2} {next = next} {next2 = next2} {merge = merge}
          {merge2 = merge2} {inner = inner} {inner2 = inner2} {continuing = continuing} {continuing2 = continuing2} {rest = rest} {rest2 = rest2} opened opened2
          s1 s2 s3) n le z entry entry2 control after2 d d2 alike =
          let turns_on : Onward = turning turns header next.label (first_does n inner) (enters next (first_does n continuing)) in
          let turns_on2 : Onward = turning turns header2 next2.label (second_does inner2) (enters next2 (second_does continuing2)) in
          let behind : After = after_label merge2.label (enters merge2 (second_does rest2)) after2 in
          ways.join p local turns call2 z R K merge merge2 k (Some rest2) (begins p.first entry header turns_on d) (begins p.second entry2 header2 turns_on2 d2)
          (enters merge (first_does n rest)) (enters merge2 (second_does rest2)) after2 (λ vs e ys. refl)
          (ways.begins_beside p local (Places z R (Joins merge merge2 k (Some rest2) ∷ K) behind) behind z g header header2 entry entry2 turns_on turns_on2 d d2
          alike
          (λ e e2 q. ways.turns_beside p local turns call2 z R (Joins merge merge2 k (Some rest2) ∷ K) header header2 next next2 g h (first_does n inner)
          (second_does inner2)
          (first_does n continuing) (second_does continuing2)
          (λ a e0 e20 q0. shaped s1 n le z a e0 e20 q0) (λ a e0 e20 q0. shaped s2 n le z a e0 e20 q0) turns behind e e2 q))
          (λ vs e vs2 e2 a. shaped s3 n le z after2 (with_parameters merge vs e) (with_parameters merge2 vs2 e2) a)

-- ---- functions

module _ (p : Pass) (local : Local p) (alike : FunctionsAlike p) (turns : ℕ) where
  abbrev Shaped : (f f2 : ℕ) → Function → Function → Type 0
  Shaped f f2 function function2 = Shape p.edits None [] (p.entry f) function.body function2.body

  -- by induction on the depth of calls of the second, which is as great as that of the first
  pub functions_beside : (m n : ℕ) → n ≤ m → (z : p.Below) (f f2 : ℕ) (vs vs2 : List Value) (d d2 : Data) → CallsAlike p z f vs d f2 vs2 d2
      → Rel p.left_out p.Same (relation.Returned (p.Ends z)) (tree p.first p.functions n turns f vs d) (tree p.second p.functions2 m turns f2 vs2 d2)
  functions_beside zero zero le z f f2 vs vs2 d d2 h =
      known_beside p.left_out p.Same (relation.Returned (p.Ends z)) p.first p.second (λ body e xs. only RunsOut) (λ body e xs. only RunsOut)
      (p.Related z (p.entry f)) (Shaped f f2) vs vs2 d d2
      (p.functions f) (p.functions2 f2) (alike f f2 h.0) h.1 (λ g g2 e e2 s r. rel_runs_out p.left_out p.Same (relation.Returned (p.Ends z))
      (λ xs. only RunsOut))
  functions_beside zero (suc n) le z f f2 vs vs2 d d2 h = absurd (omega (arith, le))
  functions_beside (suc m) zero le z f f2 vs vs2 d d2 h =
      let second = meaning p.second (tree p.second p.functions2 m turns) turns in
      known_beside p.left_out p.Same (relation.Returned (p.Ends z)) p.first p.second (λ body e xs. only RunsOut) second (p.Related z (p.entry f))
      (Shaped f f2) vs vs2 d d2
      (p.functions f) (p.functions2 f2) (alike f f2 h.0) h.1 (λ g g2 e e2 s r. rel_runs_out p.left_out p.Same (relation.Returned (p.Ends z))
      (second g2.body e2))
  functions_beside (suc m) (suc n) le z f f2 vs vs2 d d2 h =
      let first = meaning p.first (tree p.first p.functions n turns) turns in
      let second = meaning p.second (tree p.second p.functions2 m turns) turns in
      known_beside p.left_out p.Same (relation.Returned (p.Ends z)) p.first p.second first second (p.Related z (p.entry f)) (Shaped f f2) vs vs2 d d2
      (p.functions f) (p.functions2 f2) (alike f f2 h.0) h.1
      (λ g g2 e e2 s r. sim_rel p.left_out p.Same (relation.Returned (p.Ends z)) (first g.body e) (second g2.body e2)
      (λ after2. shaped p local turns m (tree p.second p.functions2 m turns) (functions_beside m) s n (omega (arith, le)) z after2 e e2 r))

pub shape_keeps : (p : Pass) → CongruenceLaw p
shape_keeps p local alike z f f2 vs vs2 d d2 h depth turns xs =
    rel_keeps p.left_out p.Same (p.Ends z) (tree p.first p.functions depth turns f vs d) (tree p.second p.functions2 depth turns f2 vs2 d2)
    (functions_beside p local alike turns depth depth (omega arith) z f f2 vs vs2 d d2 h) xs
