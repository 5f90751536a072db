-- Parts of the first program beside futures of the second.
use Rattle.std.proofs.Common.{◌≡◌, inl, inr, ℕ, zero, suc, ◌==◌, Bool, true, false, cond, not, List, [], ◌∷◌, map, Option, Some, None, refl, sym, ap, subst}
use Rattle.interleaving.specs.Machine.{Answer}
use Rattle.interleaving.specs.Trace.{Trace, wanted, before}
use Rattle.interleaving.specs.Keeps.{Alike}
use Rattle.spv_meaning.specs.Types.{number_in}
use Rattle.spv_machine.specs.Access.{Access}
use Rattle.spv_machine.specs.Setting.{Setting}
use Rattle.spv_machine.specs.State.{Value, Data, value, values, words_of_value}
use Rattle.spv_machine.specs.Steps.{chosen}
use Rattle.spv_bodies.specs.Bodies as bodies
use Rattle.spv_bodies.specs.Bodies.{Exit, Front, ByBranch, InPlace, Body, Selects, Switches, Loops, Arms}
use Rattle.spv_bodies.specs.Listing.{first_target}
use Rattle.spv_trees.specs.Meaning.{LeavesFor, Returns, RunsOut, Sticks, Onward, Entry, only, given, either, answered, then_return, leaves, by_condition}
use Rattle.spv_trees.specs.Meaning.{enters, then_at, turning, begins, meaning, meaning_at}
use Rattle.spv_trees.specs.Laws.{trace_of_tree}
use Rattle.spv_congruence.specs.Relation.{Way, Leaving, Returning, Part, Future, After, followed, Kept, Rel, Returned, Both, SameTruth, with_parameters}
use Rattle.spv_congruence.specs.Statements.{back_from}
use Rattle.spv_congruence.specs.OneSided.{Sim, BesideWay, UnderLabel, ReturnedTo, IntoFront, Begins, Over, Selection, ArmBeside, RestBeside, WholeBeside}
use Rattle.spv_congruence.specs.OneSided.{Decided, TakenLaw, GoneLaw}
use Rattle.spv_congruence.proofs.Relating.{after_label, after_return, then_at_followed, then_return_followed, kept_same, kept_left_out, not_over, kept_both}
use Rattle.spv_congruence.proofs.Relating.{kept_wanted, kept_stuck, finally, tree_followed}

module _ (left_out : Access → Bool) (Same : Access → Access → Type 0) where
  abbrev Beside : (Way → Future → Type 0) → Part → Future → Type 0
  Beside Ways run future = Sim left_out Same Ways run future

  -- ---- what does the same otherwise

  pub sim_same : (Ways : Way → Future → Type 0) (run other : Part) (future future2 : Future) → ((xs : List Answer) → run xs ≡ other xs)
      → ((ys : List Answer) → future ys ≡ future2 ys)
      → Beside Ways other future2 → Beside Ways run future
  sim_same Ways run other future future2 e e2 h =
      let p : other ≡ run = λ i xs. sym (e xs) i in
      let p2 : future2 ≡ future = λ i ys. sym (e2 ys) i in
      subst (λ z. Beside Ways z future) p (subst (λ z. Beside Ways other z) p2 h)

  pub sim_more : (Ways More : Way → Future → Type 0) (run : Part) (future : Future) → ((w : Way) (t : Future) → Ways w t → More w t) → Beside Ways run future
      → Beside More run future
  sim_more Ways More run future more h xs after behind = h xs after (λ w t ys e. behind w t ys (more w t e))

  -- ---- ends

  pub sim_stuck : (Ways : Way → Future → Type 0) (future : Future) → Beside Ways (λ xs. only Sticks) future
  sim_stuck Ways future xs after behind over = absurd over

  pub sim_runs_out : (Ways : Way → Future → Type 0) (future : Future) → Beside Ways (λ xs. only RunsOut) future
  sim_runs_out Ways future xs after behind over = absurd over

  pub sim_leaves : (Ways : Way → Future → Type 0) (l : ℕ) (vs : List Value) (d : Data) (future : Future) → Ways (Leaving l vs d) future
      → Beside Ways (λ xs. only (LeavesFor l vs d xs)) future
  sim_leaves Ways l vs d future e xs after behind = behind (Leaving l vs d) future xs e

  pub sim_returns : (Ways : Way → Future → Type 0) (v : Option Value) (d : Data) (future : Future) → Ways (Returning v d) future
      → Beside Ways (λ xs. only (Returns v d xs)) future
  sim_returns Ways v d future e xs after behind = behind (Returning v d) future xs e

  -- ---- accesses

  pub sim_left_out : (Ways : Way → Future → Type 0) (a : Access) (by_answer : Answer → Data) (go : Onward) (future : Future) → left_out a ≡ true
      → ((x : Answer) → Beside Ways (go (by_answer x)) future) → Beside Ways (λ xs. answered a by_answer xs go) future
  sim_left_out Ways a by_answer go future out h [] after behind = not_over left_out Same (left_out a) a future out
  sim_left_out Ways a by_answer go future out h (x ∷ xs) after behind =
      let t : Trace Access = followed (go (by_answer x) xs) after in
      kept_left_out left_out Same (left_out a) (map left_out t.accesses) t a x xs future out (h x xs after behind)

  -- the second makes an access alike next
  pub sim_asks : (Ways : Way → Future → Type 0) (a b : Access) (by_answer : Answer → Data) (go : Onward) (future : Future) (next : Answer → Future)
      → left_out a ≡ false → Same a b
      → future [] ≡ wanted b → ((x : Answer) (ys : List Answer) → future (x ∷ ys) ≡ before b (next x ys))
      → ((x : Answer) → Beside Ways (go (by_answer x)) (next x)) → Beside Ways (λ xs. answered a by_answer xs go) future
  sim_asks Ways a b by_answer go future next kept same wants goes h [] after behind = kept_wanted left_out Same (left_out a) a b future kept same wants
  sim_asks Ways a b by_answer go future next kept same wants goes h (x ∷ xs) after behind =
      let t : Trace Access = followed (go (by_answer x) xs) after in
      kept_both left_out Same (left_out a) (map left_out t.accesses) t a b x xs future (next x) kept same (goes x) (h x xs after behind)

  -- ---- behind a part

  kept_if : (b : Bool) (t u : Trace Access) (future : Future) (xs : List Answer) → b ≡ true → Kept left_out Same t future xs
      → Kept left_out Same (cond b t u) future xs
  kept_if true t u future xs e h = h
  kept_if false t u future xs e h = absurd (cc e)

  kept_else : (b : Bool) (t u : Trace Access) (future : Future) (xs : List Answer) → b ≡ false → Kept left_out Same u future xs
      → Kept left_out Same (cond b t u) future xs
  kept_else false t u future xs e h = h
  kept_else true t u future xs e h = absurd (cc e)

  label_kept : (n : ℕ) (Arrive : List Value → Data → Future → Type 0) (Ways : Way → Future → Type 0) (go : Entry) (after : After)
      → ((vs : List Value) (d : Data) (future : Future) → Arrive vs d future → Beside Ways (go vs d) future)
      → ((w : Way) (future : Future) (ys : List Answer) → Ways w future → Kept left_out Same (after w ys) future ys)
      → (w : Way) (future : Future) (ys : List Answer) → UnderLabel n Arrive Ways w future → Kept left_out Same (after_label n go after w ys) future ys
  label_kept n Arrive Ways go after arrive behind (Leaving l vs d) future ys (inl h) =
      kept_if (l == n) (followed (go vs d ys) after) (after (Leaving l vs d) ys) future ys h.0 (arrive vs d future h.1 ys after behind)
  label_kept n Arrive Ways go after arrive behind (Leaving l vs d) future ys (inr h) =
      kept_else (l == n) (followed (go vs d ys) after) (after (Leaving l vs d) ys) future ys h.0 (behind (Leaving l vs d) future ys h.1)
  label_kept n Arrive Ways go after arrive behind (Returning v d) future ys h = behind (Returning v d) future ys h

  pub sim_then : (n : ℕ) (Arrive : List Value → Data → Future → Type 0) (Ways : Way → Future → Type 0) (run : Part) (go : Entry) (future : Future)
      → Beside (UnderLabel n Arrive Ways) run future
      → ((vs : List Value) (d : Data) (t : Future) → Arrive vs d t → Beside Ways (go vs d) t) → Beside Ways (λ xs. then_at n go (run xs)) future
  sim_then n Arrive Ways run go future h arrive xs after behind =
      kept_same left_out Same (followed (then_at n go (run xs)) after) (followed (run xs) (after_label n go after)) future future xs
      (then_at_followed n go (run xs) after) (λ ys. refl)
      (h xs (after_label n go after) (label_kept n Arrive Ways go after arrive behind))

  return_kept : (r : ℕ) (Ends : Option Value → Data → Future → Type 0) (Ways : Way → Future → Type 0) (go : Onward) (after : After)
      → ((v : Option Value) (d : Data) (future : Future) → Ends v d future → Beside Ways (go (back_from r v d)) future)
      → ((w : Way) (future : Future) (ys : List Answer) → Ways w future → Kept left_out Same (after w ys) future ys)
      → (w : Way) (future : Future) (ys : List Answer) → ReturnedTo Ends w future → Kept left_out Same (after_return r go after w ys) future ys
  return_kept r Ends Ways go after back behind (Leaving l vs d) future ys h = kept_stuck left_out Same future ys
  return_kept r Ends Ways go after back behind (Returning v d) future ys h = back v d future h ys after behind

  pub sim_call : (r : ℕ) (Ends : Option Value → Data → Future → Type 0) (Ways : Way → Future → Type 0) (run : Part) (go : Onward) (future : Future)
      → Beside (ReturnedTo Ends) run future
      → ((v : Option Value) (d : Data) (t : Future) → Ends v d t → Beside Ways (go (back_from r v d)) t) → Beside Ways (λ xs. then_return r go (run xs)) future
  sim_call r Ends Ways run go future h back xs after behind =
      kept_same left_out Same (followed (then_return r go (run xs)) after) (followed (run xs) (after_return r go after)) future future xs
      (then_return_followed r go (run xs) after) (λ ys. refl)
      (h xs (after_return r go after) (return_kept r Ends Ways go after back behind))

  -- ---- values and conditions

  pub sim_given : {X : Type 0} (Ways : Way → Future → Type 0) (o : Option X) (go : X → Part) (future : Future)
      → ((x : X) → o ≡ Some x → Beside Ways (go x) future) → Beside Ways (λ xs. given o (λ x. go x xs)) future
  sim_given Ways None go future h = sim_stuck Ways future
  sim_given Ways (Some x) go future h = h x refl

  pub sim_either : (Ways : Way → Future → Type 0) (b : Bool) (first second : Onward) (d : Data) (future : Future) → (b ≡ true → Beside Ways (first d) future)
      → (b ≡ false → Beside Ways (second d) future)
      → Beside Ways (either b first second d) future
  sim_either Ways true first second d future h k = h refl
  sim_either Ways false first second d future h k = k refl

  -- a selection, by what its condition is
  pub sim_condition : (Ways : Way → Future → Type 0) (c : Setting) (q : ℕ) (first second : Onward) (d : Data) (future : Future)
      → ((ws : List ℕ) → words_of_value (value c d q) ≡ Some ws → (number_in ws == 1) ≡ true → Beside Ways (first d) future)
      → ((ws : List ℕ) → words_of_value (value c d q) ≡ Some ws → (number_in ws == 1) ≡ false → Beside Ways (second d) future)
      → Beside Ways (by_condition c q first second d) future
  sim_condition Ways c q first second d future h k =
      sim_given Ways (words_of_value (value c d q)) (λ ws. either (number_in ws == 1) first second d) future
      (λ ws o. sim_either Ways (number_in ws == 1) first second d future (h ws o) (k ws o))

  pub sim_exit : (Ways : Way → Future → Type 0) (c : Setting) (exit : Exit) (d : Data) (future : Future) → ((vs : List Value) → values c d exit.values ≡ Some vs
      → Ways (Leaving exit.target vs d) future)
      → Beside Ways (leaves c exit d) future
  sim_exit Ways c exit d future h =
      sim_given Ways (values c d exit.values) (λ vs xs. only (LeavesFor exit.target vs d xs)) future (λ vs o. sim_leaves Ways exit.target vs d future (h vs o))

  -- a conditional exit
  pub sim_splits : (Ways : Way → Future → Type 0) (c : Setting) (q : ℕ) (on : Bool) (out body : Onward) (d : Data) (future : Future)
      → ((ws : List ℕ) → words_of_value (value c d q) ≡ Some ws → (number_in ws == 1) ≡ on → Beside Ways (out d) future)
      → ((ws : List ℕ) → words_of_value (value c d q) ≡ Some ws → (number_in ws == 1) ≡ not on → Beside Ways (body d) future)
      → Beside Ways (by_condition c q (cond on out body) (cond on body out) d) future
  sim_splits Ways c q true out body d future h k = sim_condition Ways c q out body d future h k
  sim_splits Ways c q false out body d future h k = sim_condition Ways c q body out d future k h

  -- ---- loops

  -- at most n turns of the first, where the data at the header and the future are in R: by induction on n
  pub sim_turning : (Ways : Way → Future → Type 0) (header : Front) (next : ℕ) (R : Data → Future → Type 0) (C : List Value → Data → Future
      → Type 0) (inner : Onward) (continuing : Entry)
      → ((d : Data) (t : Future) → R d t → Beside (UnderLabel next C (UnderLabel header.label (IntoFront header R) Ways)) (inner d) t)
      → ((vs : List Value) (d : Data) (t : Future) → C vs d t → Beside (UnderLabel header.label (IntoFront header R) Ways) (continuing vs d) t)
      → (n : ℕ) (d : Data) (t : Future) → R d t → Beside Ways (turning n header next inner continuing d) t
  sim_turning Ways header next R C inner continuing h k zero d t r = sim_runs_out Ways t
  sim_turning Ways header next R C inner continuing h k (suc n) d t r =
      sim_then header.label (IntoFront header R) Ways (λ xs. then_at next continuing (inner d xs)) (enters header (turning n header next inner continuing)) t
      (sim_then next C (UnderLabel header.label (IntoFront header R) Ways) (inner d) continuing t (h d t r) k)
      (λ vs e s q. sim_turning Ways header next R C inner continuing h k n (with_parameters header vs e) s q)

  pub sim_begins : (Ways : Way → Future → Type 0) (c : Setting) (entry : bodies.Entry) (header : Front) (turns : Onward) (d : Data) (future : Future)
      → ((e : Data) → Begins c entry header d e → Beside Ways (turns e) future) → Beside Ways (begins c entry header turns d) future
  sim_begins Ways c (ByBranch ids) header turns d future h =
      sim_given Ways (values c d ids) (λ vs. enters header turns vs d) future (λ vs o. h (with_parameters header vs d) (vs, o, refl))
  sim_begins Ways c InPlace header turns d future h = h d refl

  -- ---- bodies

  module _ (c : Setting) (call : ℕ → Entry) (turns : ℕ) where
    -- a selection, a switch and a loop, each with what is behind it
    pub sim_selects : (Ways : Way → Future → Type 0) (R : Data → Future → Type 0) (control q : ℕ) (first second rest : Body) (merge : Front) (d : Data)
        (future : Future)
        → ((ws : List ℕ) → words_of_value (value c d q) ≡ Some ws → (number_in ws == 1) ≡ true
        → Beside (UnderLabel merge.label (IntoFront merge R) Ways) (meaning c call turns first d) future)
        → ((ws : List ℕ) → words_of_value (value c d q) ≡ Some ws → (number_in ws == 1) ≡ false
        → Beside (UnderLabel merge.label (IntoFront merge R) Ways) (meaning c call turns second d) future)
        → ((e : Data) (t : Future) → R e t → Beside Ways (meaning c call turns rest e) t)
        → Beside Ways (meaning c call turns (Selects control q first second merge rest) d) future
    sim_selects Ways R control q first second rest merge d future h k behind =
        sim_then merge.label (IntoFront merge R) Ways (by_condition c q (meaning c call turns first) (meaning c call turns second) d)
        (enters merge (meaning c call turns rest)) future
        (sim_condition (UnderLabel merge.label (IntoFront merge R) Ways) c q (meaning c call turns first) (meaning c call turns second) d future h k)
        (λ vs e t r. behind (with_parameters merge vs e) t r)

    pub sim_switches : (Ways : Way → Future → Type 0) (R : Data → Future → Type 0) (control q : ℕ) (cases : List (ℕ × ℕ)) (arms : Arms) (rest : Body)
        (merge : Front) (d : Data) (future : Future)
        → ((ws : List ℕ) → words_of_value (value c d q) ≡ Some ws
        → Beside (UnderLabel merge.label (IntoFront merge R) Ways) (meaning_at c call turns arms (chosen (number_in ws) (first_target arms) cases) d) future)
        → ((e : Data) (t : Future) → R e t → Beside Ways (meaning c call turns rest e) t)
        → Beside Ways (meaning c call turns (Switches control q cases arms merge rest) d) future
    sim_switches Ways R control q cases arms rest merge d future h behind =
        sim_then merge.label (IntoFront merge R) Ways
        (λ xs. given (words_of_value (value c d q)) (λ ws. meaning_at c call turns arms (chosen (number_in ws) (first_target arms) cases) d xs))
        (enters merge (meaning c call turns rest)) future
        (sim_given (UnderLabel merge.label (IntoFront merge R) Ways) (words_of_value (value c d q))
        (λ ws. meaning_at c call turns arms (chosen (number_in ws) (first_target arms) cases) d) future h)
        (λ vs e t r. behind (with_parameters merge vs e) t r)

    -- H at the loop's header, C at its continue target, R at its merge block
    pub sim_loops : (Ways : Way → Future → Type 0) (H C R : Data → Future → Type 0) (entry : bodies.Entry) (header : Front) (control : ℕ) (inner : Body)
        (next : Front) (continuing : Body) (merge : Front) (rest : Body)
        (d : Data) (future : Future)
        → ((e : Data) → Begins c entry header d e → H e future)
        → ((e : Data) (t : Future) → H e t
        → Beside (UnderLabel next.label (IntoFront next C) (UnderLabel header.label (IntoFront header H) (UnderLabel merge.label (IntoFront merge R) Ways)))
        (meaning c call turns inner e) t)
        → ((e : Data) (t : Future) → C e t → Beside (UnderLabel header.label (IntoFront header H) (UnderLabel merge.label (IntoFront merge R) Ways))
        (meaning c call turns continuing e) t)
        → ((e : Data) (t : Future) → R e t → Beside Ways (meaning c call turns rest e) t)
        → Beside Ways (meaning c call turns (Loops entry header control inner next continuing merge rest) d) future
    sim_loops Ways H C R entry header control inner next continuing merge rest d future begin h k behind =
        let turns_on : Onward = turning turns header next.label (meaning c call turns inner) (enters next (meaning c call turns continuing)) in
        let out : Way → Future → Type 0 = UnderLabel merge.label (IntoFront merge R) Ways in
        sim_then merge.label (IntoFront merge R) Ways (begins c entry header turns_on d) (enters merge (meaning c call turns rest)) future
        (sim_begins out c entry header turns_on d future
        (λ e b. sim_turning out header next.label H (IntoFront next C) (meaning c call turns inner) (enters next (meaning c call turns continuing)) h
        (λ vs a t q. k (with_parameters next vs a) t q) turns e future (begin e b)))
        (λ vs e t r. behind (with_parameters merge vs e) t r)

  -- ---- to the end

  over_kept : (w : Way) (future : Future) (ys : List Answer) → ReturnedTo Over w future → Kept left_out Same (finally w ys) future ys
  over_kept (Leaving l vs d) future ys h over = absurd over
  over_kept (Returning v d) future ys h over = (subst (λ (z : Trace Access). Alike Same [] z.accesses) (sym (h ys)) tt, ap (λ z. z.end) (h ys))

  -- a function that returns where the future does keeps accesses
  pub sim_keeps : (run : Part) (future : Future) → Beside (ReturnedTo Over) run future → (xs : List Answer)
      → Kept left_out Same (trace_of_tree (run xs)) future xs
  sim_keeps run future h xs =
      kept_same left_out Same (trace_of_tree (run xs)) (followed (run xs) finally) future future xs (tree_followed (run xs)) (λ ys. refl)
      (h xs finally over_kept)

  -- ---- parts of both

  -- parts in the relation, before whatever follows the second; and back
  pub rel_sim : (Ways : Way → Way → Type 0) (run run2 : Part) (after2 : After) → Rel left_out Same Ways run run2
      → Beside (BesideWay Ways after2) run (λ ys. followed (run2 ys) after2)
  rel_sim Ways run run2 after2 h xs after behind = h xs after after2 (λ w w2 ys e. behind w (after2 w2) ys (w2, e, refl))

  pub sim_rel : (Ways : Way → Way → Type 0) (run run2 : Part) → ((after2 : After) → Beside (BesideWay Ways after2) run (λ ys. followed (run2 ys) after2))
      → Rel left_out Same Ways run run2
  sim_rel Ways run run2 h xs after after2 behind =
      h after2 xs after (λ w t ys e. subst (λ (z : Future). Kept left_out Same (after w ys) z ys) (sym e.2) (behind w e.0 ys e.1))

  -- values and conditions of both, before what follows the second
  pub sim_given_both : {X Y : Type 0} (Ways : Way → Future → Type 0) (R : X → Y → Type 0) (o : Option X) (o2 : Option Y) (go : X → Part) (go2 : Y
      → Part) (after2 : After) → Both R o o2
      → ((x : X) (y : Y) → R x y → Beside Ways (go x) (λ ys. followed (go2 y ys) after2))
      → Beside Ways (λ xs. given o (λ x. go x xs)) (λ ys. followed (given o2 (λ y. go2 y ys)) after2)
  sim_given_both Ways R None o2 go go2 after2 both h = sim_stuck Ways (λ ys. followed (given o2 (λ y. go2 y ys)) after2)
  sim_given_both Ways R (Some x) None go go2 after2 both h = absurd both
  sim_given_both Ways R (Some x) (Some y) go go2 after2 both h = h x y both

  pub sim_either_both : (Ways : Way → Future → Type 0) (b b2 : Bool) (first first2 second second2 : Onward) (d d2 : Data) (after2 : After) → b ≡ b2
      → Beside Ways (first d) (λ ys. followed (first2 d2 ys) after2) → Beside Ways (second d) (λ ys. followed (second2 d2 ys) after2)
      → Beside Ways (either b first second d) (λ ys. followed (either b2 first2 second2 d2 ys) after2)
  sim_either_both Ways true true first first2 second second2 d d2 after2 e h k = h
  sim_either_both Ways false false first first2 second second2 d d2 after2 e h k = k
  sim_either_both Ways true false first first2 second second2 d d2 after2 e h k = absurd (cc e)
  sim_either_both Ways false true first first2 second second2 d d2 after2 e h k = absurd (cc e)

  pub sim_condition_both : (Ways : Way → Future → Type 0) (c c2 : Setting) (q q2 : ℕ) (first first2 second second2 : Onward) (d d2 : Data) (after2 : After)
      → Both SameTruth (words_of_value (value c d q)) (words_of_value (value c2 d2 q2))
      → Beside Ways (first d) (λ ys. followed (first2 d2 ys) after2) → Beside Ways (second d) (λ ys. followed (second2 d2 ys) after2)
      → Beside Ways (by_condition c q first second d) (λ ys. followed (by_condition c2 q2 first2 second2 d2 ys) after2)
  sim_condition_both Ways c c2 q q2 first first2 second second2 d d2 after2 both h k =
      sim_given_both Ways SameTruth (words_of_value (value c d q)) (words_of_value (value c2 d2 q2)) (λ ws. either (number_in ws == 1) first second d)
      (λ ws. either (number_in ws == 1) first2 second2 d2) after2 both
      (λ ws ws2 e. sim_either_both Ways (number_in ws == 1) (number_in ws2 == 1) first first2 second second2 d d2 after2 e h k)

  pub sim_splits_both : (Ways : Way → Future → Type 0) (c c2 : Setting) (q q2 : ℕ) (on : Bool) (out out2 body body2 : Onward) (d d2 : Data) (after2 : After)
      → Both SameTruth (words_of_value (value c d q)) (words_of_value (value c2 d2 q2))
      → Beside Ways (out d) (λ ys. followed (out2 d2 ys) after2) → Beside Ways (body d) (λ ys. followed (body2 d2 ys) after2)
      → Beside Ways (by_condition c q (cond on out body) (cond on body out) d)
      (λ ys. followed (by_condition c2 q2 (cond on out2 body2) (cond on body2 out2) d2 ys) after2)
  sim_splits_both Ways c c2 q q2 true out out2 body body2 d d2 after2 both h k = sim_condition_both Ways c c2 q q2 out out2 body body2 d d2 after2 both h k
  sim_splits_both Ways c c2 q q2 false out out2 body body2 d d2 after2 both h k = sim_condition_both Ways c c2 q q2 body body2 out out2 d d2 after2 both k h

  -- a callee of both, where what follows the second is behind its call
  returned_to : (Ends : Option Value → Data → Option Value → Data → Type 0) (after2 : After) (w : Way) (t : Future) → BesideWay (Returned Ends) after2 w t
      → ReturnedTo (λ v d s. ((v2 : Option Value) × (d2 : Data) × Ends v d v2 d2 × (s ≡ after2 (Returning v2 d2)))) w t
  returned_to Ends after2 (Leaving l vs d) t h = tt
  returned_to Ends after2 (Returning v d) t h = at_way h.0 h.1 h.2 where
    at_way : (w2 : Way) → Returned Ends (Returning v d) w2 → t ≡ after2 w2
        → ((v2 : Option Value) × (d2 : Data) × Ends v d v2 d2 × (t ≡ after2 (Returning v2 d2)))
    at_way (Leaving l2 vs2 d2) h e = absurd h
    at_way (Returning v2 d2) h e = (v2, d2, h, e)

  pub sim_call_both : (r r2 : ℕ) (Ends : Option Value → Data → Option Value → Data → Type 0) (Ways : Way → Future → Type 0) (run run2 : Part) (go go2 : Onward)
      (after2 : After) → Rel left_out Same (Returned Ends) run run2
      → ((v v2 : Option Value) (d d2 : Data) → Ends v d v2 d2 → Beside Ways (go (back_from r v d)) (λ ys. followed (go2 (back_from r2 v2 d2) ys) after2))
      → Beside Ways (λ xs. then_return r go (run xs)) (λ ys. followed (then_return r2 go2 (run2 ys)) after2)
  sim_call_both r r2 Ends Ways run run2 go go2 after2 h back =
      let behind : After = after_return r2 go2 after2 in
      let Back : Option Value → Data → Future → Type 0 = λ v d s. ((v2 : Option Value) × (d2 : Data) × Ends v d v2 d2 × (s ≡ behind (Returning v2 d2))) in
      sim_same Ways (λ xs. then_return r go (run xs)) (λ xs. then_return r go (run xs)) (λ ys. followed (then_return r2 go2 (run2 ys)) after2)
      (λ ys. followed (run2 ys) behind)
      (λ xs. refl) (λ ys. then_return_followed r2 go2 (run2 ys) after2)
      (sim_call r Back Ways run go (λ ys. followed (run2 ys) behind)
      (sim_more (BesideWay (Returned Ends) behind) (ReturnedTo Back) run (λ ys. followed (run2 ys) behind) (returned_to Ends behind)
      (rel_sim (Returned Ends) run run2 behind h))
      (λ v d t e. subst (λ (z : Future). Beside Ways (go (back_from r v d)) z) (sym e.3) (back v e.0 d e.1 e.2)))

-- ---- selections that change

pub gone : (s : Selection) → GoneLaw s
gone s first second rest =
    sim_selects s.left_out s.Same s.setting s.call s.turns s.Ways s.Behind s.control s.condition s.yes s.no s.rest s.merge s.now s.future (λ ws o e. first)
    (λ ws o e. second) rest

taken_yes : (s : Selection) → Decided s true → ArmBeside s s.yes → RestBeside s → WholeBeside s
taken_yes s decided arm rest =
    sim_selects s.left_out s.Same s.setting s.call s.turns s.Ways s.Behind s.control s.condition s.yes s.no s.rest s.merge s.now s.future
    (λ ws o e. arm) (λ ws o e. absurd (cc (decided ws o, e))) rest

taken_no : (s : Selection) → Decided s false → ArmBeside s s.no → RestBeside s → WholeBeside s
taken_no s decided arm rest =
    sim_selects s.left_out s.Same s.setting s.call s.turns s.Ways s.Behind s.control s.condition s.yes s.no s.rest s.merge s.now s.future
    (λ ws o e. absurd (cc (decided ws o, e))) (λ ws o e. arm) rest

pub taken : (s : Selection) → TakenLaw s
taken s = (taken_yes s, taken_no s)
