-- Parts in the relation: each construct of its parts, whatever follows.
use Rattle.std.proofs.Common.{◌≡◌, inl, inr, ℕ, zero, suc, ◌==◌, Bool, true, false, cond, List, [], ◌∷◌, ◌++◌, map, Option, Some, None, refl, sym, ap, ◌∙◌}
use Rattle.std.proofs.Common.{subst, append_assoc, append-nil}
use Rattle.interleaving.specs.Machine.{Answer}
use Rattle.interleaving.specs.Trace as traces
use Rattle.interleaving.specs.Trace.{TraceEnd, Asks, Runs, Stuck, Trace, ended, before}
use Rattle.interleaving.specs.Keeps.{without, Alike, IsOver}
use Rattle.interleaving.proofs.Keeping.{over_behind}
use Rattle.spv_meaning.specs.Types.{number_in}
use Rattle.spv_machine.specs.Access.{Access}
use Rattle.spv_machine.specs.Setting.{Setting}
use Rattle.spv_machine.specs.State.{Value, Data, value, values, words_of_value}
use Rattle.spv_bodies.specs.Bodies.{Exit, Front, ByBranch, InPlace}
use Rattle.spv_trees.specs.Meaning.{Fate, LeavesFor, Returns, Awaits, RunsOut, Sticks, Result, Onward, Entry, only, made, given, either, answered, at_return}
use Rattle.spv_trees.specs.Meaning.{then_return, leaves, by_condition, enters, arrives, at_label, then_at, turning, begins}
use Rattle.spv_trees.specs.Laws.{prepended, trace_of_tree}
use Rattle.spv_congruence.specs.Relation.{Way, Leaving, Returning, Part, Future, After, on_fate, followed, Kept, Rel, Under, Returned, Both, SameTruth}
use Rattle.spv_congruence.specs.Relation.{with_parameters, Into}
use Rattle.spv_congruence.specs.Statements.{back_from}

-- ---- what follows a part, where a label or the return of a callee is taken up

abbrev pub after_label : (label : ℕ) → Entry → After → After
after_label n go after (Leaving l vs d) xs = cond (l == n) (followed (go vs d xs) after) (after (Leaving l vs d) xs)
after_label n go after (Returning v d) xs = after (Returning v d) xs

abbrev pub after_return : (result_id : ℕ) → Onward → After → After
after_return r go after (Leaving l vs d) xs = ended Stuck
after_return r go after (Returning v d) xs = followed (go (back_from r v d) xs) after

prepended_twice : (t u : List Access) (r : Trace Access) → prepended (t ++ u) r ≡ prepended t (prepended u r)
prepended_twice t u r = ap (λ (l : List Access). let z : Trace Access = record { accesses = l; end = r.end } in z) (append_assoc t u r.accesses)

-- accesses, a result and what follows it
pub made_followed : (t : List Access) (r : Result) (after : After) → followed (made t r) after ≡ prepended t (followed r after)
made_followed t r after = prepended_twice t r.accesses (on_fate after r.fate)

arrives_followed : (b : Bool) (go : Entry) (t : List Access) (l : ℕ) (vs : List Value) (d : Data) (xs : List Answer) (after : After)
    → followed (arrives b go t l vs d xs) after ≡ prepended t (cond b (followed (go vs d xs) after) (after (Leaving l vs d) xs))
arrives_followed true go t l vs d xs after = made_followed t (go vs d xs) after
arrives_followed false go t l vs d xs after = refl

at_label_followed : (n : ℕ) (go : Entry) (t : List Access) (fate : Fate) (after : After)
    → followed (at_label n go t fate) after ≡ prepended t (on_fate (after_label n go after) fate)
at_label_followed n go t (LeavesFor l vs d xs) after = arrives_followed (l == n) go t l vs d xs after
at_label_followed n go t (Returns v d xs) after = refl
at_label_followed n go t Awaits after = refl
at_label_followed n go t RunsOut after = refl
at_label_followed n go t Sticks after = refl

pub then_at_followed : (n : ℕ) (go : Entry) (part : Result) (after : After) → followed (then_at n go part) after ≡ followed part (after_label n go after)
then_at_followed n go part after = at_label_followed n go part.accesses part.fate after

at_return_followed : (r : ℕ) (go : Onward) (t : List Access) (fate : Fate) (after : After)
    → followed (at_return r go t fate) after ≡ prepended t (on_fate (after_return r go after) fate)
at_return_followed r go t (LeavesFor l vs d xs) after = refl
at_return_followed r go t (Returns v d xs) after = made_followed t (go (back_from r v d) xs) after
at_return_followed r go t Awaits after = refl
at_return_followed r go t RunsOut after = refl
at_return_followed r go t Sticks after = refl

pub then_return_followed : (r : ℕ) (go : Onward) (callee : Result) (after : After)
    → followed (then_return r go callee) after ≡ followed callee (after_return r go after)
then_return_followed r go callee after = at_return_followed r go callee.accesses callee.fate after

-- ---- what is kept

module _ (left_out : Access → Bool) (Same : Access → Access → Type 0) where
  -- with the marks of what is left out
  abbrev KeptBy : List Bool → Trace Access → Future → List Answer → Type 0
  KeptBy marks t future xs = IsOver t.end marks
      → Alike Same (without marks t.accesses) (future (without marks xs)).accesses × ((future (without marks xs)).end ≡ t.end)

  pub kept_same : (t t2 : Trace Access) (future future2 : Future) (xs : List Answer) → t ≡ t2 → ((ys : List Answer) → future ys ≡ future2 ys)
      → Kept left_out Same t2 future2 xs → Kept left_out Same t future xs
  kept_same t t2 future future2 xs e e2 h =
      let p : future2 ≡ future = λ i ys. sym (e2 ys) i in
      subst (λ z. Kept left_out Same z future xs) (sym e) (subst (λ z. Kept left_out Same t2 z xs) p h)

  -- an access that is left out
  pub kept_left_out : (mark : Bool) (marks : List Bool) (t : Trace Access) (a : Access) (x : Answer) (xs : List Answer) (future : Future) → mark ≡ true
      → KeptBy marks t future xs → KeptBy (mark ∷ marks) (before a t) future (x ∷ xs)
  kept_left_out true marks t a x xs future e h over = h (over_behind t.end true marks over)
  kept_left_out false marks t a x xs future e h over = absurd (cc e)

  pub not_over : (mark : Bool) (a : Access) (future : Future) → mark ≡ true → KeptBy (mark ∷ []) (record { accesses = a ∷ []; end = Asks }) future []
  not_over true a future e over = absurd (cc over)
  not_over false a future e over = absurd (cc e)

  -- an access of both
  pub kept_both : (mark : Bool) (marks : List Bool) (t : Trace Access) (a b : Access) (x : Answer) (xs : List Answer) (future next : Future) → mark ≡ false
      → Same a b
      → ((ys : List Answer) → future (x ∷ ys) ≡ before b (next ys)) → KeptBy marks t next xs → KeptBy (mark ∷ marks) (before a t) future (x ∷ xs)
  kept_both true marks t a b x xs future next e same shows h over = absurd (cc e)
  kept_both false marks t a b x xs future next e same shows h over =
      let r = h (over_behind t.end false marks over) in
      let f = shows (without marks xs) in
      (subst (λ z. Alike Same (a ∷ without marks t.accesses) z.accesses) (sym f) (same, r.0), ap (λ z. z.end) f ∙ r.1)

  pub kept_wanted : (mark : Bool) (a b : Access) (future : Future) → mark ≡ false → Same a b → future [] ≡ record { accesses = b ∷ []; end = Asks }
      → KeptBy (mark ∷ []) (record { accesses = a ∷ []; end = Asks }) future []
  kept_wanted true a b future e same shows over = absurd (cc e)
  kept_wanted false a b future e same shows over =
      (subst (λ z. Alike Same (a ∷ []) z.accesses) (sym shows) (same, tt), ap (λ z. z.end) shows)

  kept_true : (b b2 : Bool) (t u : Trace Access) (future other : Future) (xs : List Answer) → b ≡ true → b2 ≡ true → Kept left_out Same t future xs
      → Kept left_out Same (cond b t u) (λ ys. cond b2 (future ys) (other ys)) xs
  kept_true true true t u future other xs e e2 h = h
  kept_true true false t u future other xs e e2 h = absurd (cc e2)
  kept_true false b2 t u future other xs e e2 h = absurd (cc e)

  kept_false : (b b2 : Bool) (t u : Trace Access) (future other : Future) (xs : List Answer) → b ≡ false → b2 ≡ false → Kept left_out Same u other xs
      → Kept left_out Same (cond b t u) (λ ys. cond b2 (future ys) (other ys)) xs
  kept_false false false t u future other xs e e2 h = h
  kept_false false true t u future other xs e e2 h = absurd (cc e2)
  kept_false true b2 t u future other xs e e2 h = absurd (cc e)

  pub kept_stuck : (future : Future) (xs : List Answer) → Kept left_out Same (ended Stuck) future xs
  kept_stuck future xs over = absurd over

  -- ---- parts that do the same otherwise

  pub rel_same : (Ways : Way → Way → Type 0) (run other run2 other2 : Part) → ((xs : List Answer) → run xs ≡ other xs)
      → ((xs : List Answer) → run2 xs ≡ other2 xs)
      → Rel left_out Same Ways other other2 → Rel left_out Same Ways run run2
  rel_same Ways run other run2 other2 e e2 h =
      let p : other ≡ run = λ i xs. sym (e xs) i in
      let p2 : other2 ≡ run2 = λ i xs. sym (e2 xs) i in
      subst (λ z. Rel left_out Same Ways z run2) p (subst (λ z. Rel left_out Same Ways other z) p2 h)

  pub rel_more : (Ways More : Way → Way → Type 0) (run run2 : Part) → ((w w2 : Way) → Ways w w2 → More w w2) → Rel left_out Same Ways run run2
      → Rel left_out Same More run run2
  rel_more Ways More run run2 more h xs after after2 behind = h xs after after2 (λ w w2 ys e. behind w w2 ys (more w w2 e))

  -- ---- ends

  -- a first part that is stuck, or runs out, owes nothing
  pub rel_stuck : (Ways : Way → Way → Type 0) (run2 : Part) → Rel left_out Same Ways (λ xs. only Sticks) run2
  rel_stuck Ways run2 xs after after2 behind over = absurd over

  pub rel_runs_out : (Ways : Way → Way → Type 0) (run2 : Part) → Rel left_out Same Ways (λ xs. only RunsOut) run2
  rel_runs_out Ways run2 xs after after2 behind over = absurd over

  pub rel_leaves : (Ways : Way → Way → Type 0) (l l2 : ℕ) (vs vs2 : List Value) (d d2 : Data) → Ways (Leaving l vs d) (Leaving l2 vs2 d2)
      → Rel left_out Same Ways (λ xs. only (LeavesFor l vs d xs)) (λ xs. only (LeavesFor l2 vs2 d2 xs))
  rel_leaves Ways l l2 vs vs2 d d2 e xs after after2 behind = behind (Leaving l vs d) (Leaving l2 vs2 d2) xs e

  pub rel_returns : (Ways : Way → Way → Type 0) (v v2 : Option Value) (d d2 : Data) → Ways (Returning v d) (Returning v2 d2)
      → Rel left_out Same Ways (λ xs. only (Returns v d xs)) (λ xs. only (Returns v2 d2 xs))
  rel_returns Ways v v2 d d2 e xs after after2 behind = behind (Returning v d) (Returning v2 d2) xs e

  -- ---- accesses

  -- an access of the first that is left out, whatever answers it
  pub rel_left_out : (Ways : Way → Way → Type 0) (a : Access) (by_answer : Answer → Data) (go : Onward) (run2 : Part) → left_out a ≡ true
      → ((x : Answer) → Rel left_out Same Ways (go (by_answer x)) run2) → Rel left_out Same Ways (λ xs. answered a by_answer xs go) run2
  rel_left_out Ways a by_answer go run2 out h [] after after2 behind = not_over (left_out a) a (λ ys. followed (run2 ys) after2) out
  rel_left_out Ways a by_answer go run2 out h (x ∷ xs) after after2 behind =
      let t : Trace Access = followed (go (by_answer x) xs) after in
      kept_left_out (left_out a) (map left_out t.accesses) t a x xs (λ ys. followed (run2 ys) after2) out (h x xs after after2 behind)

  -- accesses alike
  pub rel_asks : (Ways : Way → Way → Type 0) (a b : Access) (by_answer by_answer2 : Answer → Data) (go go2 : Onward) → left_out a ≡ false → Same a b
      → ((x : Answer) → Rel left_out Same Ways (go (by_answer x)) (go2 (by_answer2 x)))
      → Rel left_out Same Ways (λ xs. answered a by_answer xs go) (λ xs. answered b by_answer2 xs go2)
  rel_asks Ways a b by_answer by_answer2 go go2 kept same h [] after after2 behind =
      kept_wanted (left_out a) a b (λ ys. followed (answered b by_answer2 ys go2) after2) kept same refl
  rel_asks Ways a b by_answer by_answer2 go go2 kept same h (x ∷ xs) after after2 behind =
      let t : Trace Access = followed (go (by_answer x) xs) after in
      kept_both (left_out a) (map left_out t.accesses) t a b x xs (λ ys. followed (answered b by_answer2 ys go2) after2)
      (λ ys. followed (go2 (by_answer2 x) ys) after2) kept same (λ ys. refl)
      (h x xs after after2 behind)

  -- ---- behind a part

  label_kept : (n n2 : ℕ) (Arrive : List Value → Data → List Value → Data → Type 0) (Ways : Way → Way → Type 0) (go go2 : Entry) (after after2 : After)
      → ((vs : List Value) (d : Data) (vs2 : List Value) (d2 : Data) → Arrive vs d vs2 d2 → Rel left_out Same Ways (go vs d) (go2 vs2 d2))
      → ((w w2 : Way) (ys : List Answer) → Ways w w2 → Kept left_out Same (after w ys) (after2 w2) ys)
      → (w w2 : Way) (ys : List Answer) → Under n n2 Arrive Ways w w2 → Kept left_out Same (after_label n go after w ys) (after_label n2 go2 after2 w2) ys
  label_kept n n2 Arrive Ways go go2 after after2 arrive behind (Leaving l vs d) (Leaving l2 vs2 d2) ys (inl h) =
      kept_true (l == n) (l2 == n2) (followed (go vs d ys) after) (after (Leaving l vs d) ys) (λ zs. followed (go2 vs2 d2 zs) after2)
      (after2 (Leaving l2 vs2 d2)) ys h.0 h.1
      (arrive vs d vs2 d2 h.2 ys after after2 behind)
  label_kept n n2 Arrive Ways go go2 after after2 arrive behind (Leaving l vs d) (Leaving l2 vs2 d2) ys (inr h) =
      kept_false (l == n) (l2 == n2) (followed (go vs d ys) after) (after (Leaving l vs d) ys) (λ zs. followed (go2 vs2 d2 zs) after2)
      (after2 (Leaving l2 vs2 d2)) ys h.0 h.1
      (behind (Leaving l vs d) (Leaving l2 vs2 d2) ys h.2)
  label_kept n n2 Arrive Ways go go2 after after2 arrive behind (Leaving l vs d) (Returning v2 d2) ys h = absurd h
  label_kept n n2 Arrive Ways go go2 after after2 arrive behind (Returning v d) (Leaving l2 vs2 d2) ys h = absurd h
  label_kept n n2 Arrive Ways go go2 after after2 arrive behind (Returning v d) (Returning v2 d2) ys h = behind (Returning v d) (Returning v2 d2) ys h

  -- a part and what is behind the label that it may be left for
  pub rel_then : (n n2 : ℕ) (Arrive : List Value → Data → List Value → Data → Type 0) (Ways : Way → Way → Type 0) (run run2 : Part) (go go2 : Entry)
      → Rel left_out Same (Under n n2 Arrive Ways) run run2
      → ((vs : List Value) (d : Data) (vs2 : List Value) (d2 : Data) → Arrive vs d vs2 d2 → Rel left_out Same Ways (go vs d) (go2 vs2 d2))
      → Rel left_out Same Ways (λ xs. then_at n go (run xs)) (λ xs. then_at n2 go2 (run2 xs))
  rel_then n n2 Arrive Ways run run2 go go2 h arrive xs after after2 behind =
      kept_same (followed (then_at n go (run xs)) after) (followed (run xs) (after_label n go after)) (λ ys. followed (then_at n2 go2 (run2 ys)) after2)
      (λ ys. followed (run2 ys) (after_label n2 go2 after2)) xs
      (then_at_followed n go (run xs) after) (λ ys. then_at_followed n2 go2 (run2 ys) after2)
      (h xs (after_label n go after) (after_label n2 go2 after2) (label_kept n n2 Arrive Ways go go2 after after2 arrive behind))

  return_kept : (r r2 : ℕ) (Ends : Option Value → Data → Option Value → Data → Type 0) (Ways : Way → Way → Type 0) (go go2 : Onward) (after after2 : After)
      → ((v v2 : Option Value) (d d2 : Data) → Ends v d v2 d2 → Rel left_out Same Ways (go (back_from r v d)) (go2 (back_from r2 v2 d2)))
      → ((w w2 : Way) (ys : List Answer) → Ways w w2 → Kept left_out Same (after w ys) (after2 w2) ys)
      → (w w2 : Way) (ys : List Answer) → Returned Ends w w2 → Kept left_out Same (after_return r go after w ys) (after_return r2 go2 after2 w2) ys
  return_kept r r2 Ends Ways go go2 after after2 back behind (Leaving l vs d) w2 ys h = kept_stuck (after_return r2 go2 after2 w2) ys
  return_kept r r2 Ends Ways go go2 after after2 back behind (Returning v d) (Leaving l2 vs2 d2) ys h = absurd h
  return_kept r r2 Ends Ways go go2 after after2 back behind (Returning v d) (Returning v2 d2) ys h = back v v2 d d2 h ys after after2 behind

  -- a callee and what is behind the call
  pub rel_call : (r r2 : ℕ) (Ends : Option Value → Data → Option Value → Data → Type 0) (Ways : Way → Way → Type 0) (run run2 : Part) (go go2 : Onward)
      → Rel left_out Same (Returned Ends) run run2
      → ((v v2 : Option Value) (d d2 : Data) → Ends v d v2 d2 → Rel left_out Same Ways (go (back_from r v d)) (go2 (back_from r2 v2 d2)))
      → Rel left_out Same Ways (λ xs. then_return r go (run xs)) (λ xs. then_return r2 go2 (run2 xs))
  rel_call r r2 Ends Ways run run2 go go2 h back xs after after2 behind =
      kept_same (followed (then_return r go (run xs)) after) (followed (run xs) (after_return r go after))
      (λ ys. followed (then_return r2 go2 (run2 ys)) after2) (λ ys. followed (run2 ys) (after_return r2 go2 after2)) xs
      (then_return_followed r go (run xs) after) (λ ys. then_return_followed r2 go2 (run2 ys) after2)
      (h xs (after_return r go after) (after_return r2 go2 after2) (return_kept r r2 Ends Ways go go2 after after2 back behind))

  -- ---- values and conditions

  pub rel_given : {X Y : Type 0} (Ways : Way → Way → Type 0) (R : X → Y → Type 0) (o : Option X) (o2 : Option Y) (go : X → Part) (go2 : Y → Part) → Both R o o2
      → ((x : X) (y : Y) → R x y → Rel left_out Same Ways (go x) (go2 y))
      → Rel left_out Same Ways (λ xs. given o (λ x. go x xs)) (λ xs. given o2 (λ y. go2 y xs))
  rel_given Ways R None o2 go go2 both h = rel_stuck Ways (λ xs. given o2 (λ y. go2 y xs))
  rel_given Ways R (Some x) None go go2 both h = absurd both
  rel_given Ways R (Some x) (Some y) go go2 both h = h x y both

  pub rel_either : (Ways : Way → Way → Type 0) (b b2 : Bool) (first first2 second second2 : Onward) (d d2 : Data) → b ≡ b2
      → Rel left_out Same Ways (first d) (first2 d2) → Rel left_out Same Ways (second d) (second2 d2)
      → Rel left_out Same Ways (either b first second d) (either b2 first2 second2 d2)
  rel_either Ways true true first first2 second second2 d d2 e h k = h
  rel_either Ways false false first first2 second second2 d d2 e h k = k
  rel_either Ways true false first first2 second second2 d d2 e h k = absurd (cc e)
  rel_either Ways false true first first2 second second2 d d2 e h k = absurd (cc e)

  -- a selection
  pub rel_condition : (Ways : Way → Way → Type 0) (c c2 : Setting) (q q2 : ℕ) (first first2 second second2 : Onward) (d d2 : Data)
      → Both SameTruth (words_of_value (value c d q)) (words_of_value (value c2 d2 q2))
      → Rel left_out Same Ways (first d) (first2 d2) → Rel left_out Same Ways (second d) (second2 d2)
      → Rel left_out Same Ways (by_condition c q first second d) (by_condition c2 q2 first2 second2 d2)
  rel_condition Ways c c2 q q2 first first2 second second2 d d2 both h k =
      rel_given Ways SameTruth (words_of_value (value c d q)) (words_of_value (value c2 d2 q2)) (λ ws. either (number_in ws == 1) first second d)
      (λ ws. either (number_in ws == 1) first2 second2 d2) both
      (λ ws ws2 e. rel_either Ways (number_in ws == 1) (number_in ws2 == 1) first first2 second second2 d d2 e h k)

  -- out of a part
  pub rel_exit : (Ways : Way → Way → Type 0) (c c2 : Setting) (exit exit2 : Exit) (d d2 : Data)
      → Both (λ vs vs2. Ways (Leaving exit.target vs d) (Leaving exit2.target vs2 d2)) (values c d exit.values) (values c2 d2 exit2.values)
      → Rel left_out Same Ways (leaves c exit d) (leaves c2 exit2 d2)
  rel_exit Ways c c2 exit exit2 d d2 both =
      rel_given Ways (λ vs vs2. Ways (Leaving exit.target vs d) (Leaving exit2.target vs2 d2)) (values c d exit.values) (values c2 d2 exit2.values)
      (λ vs xs. only (LeavesFor exit.target vs d xs)) (λ vs xs. only (LeavesFor exit2.target vs d2 xs)) both
      (λ vs vs2 e. rel_leaves Ways exit.target exit2.target vs vs2 d d2 e)

  -- a conditional exit, whose body may leave too
  pub rel_splits : (Ways : Way → Way → Type 0) (c c2 : Setting) (q q2 : ℕ) (on : Bool) (out out2 body body2 : Onward) (d d2 : Data)
      → Both SameTruth (words_of_value (value c d q)) (words_of_value (value c2 d2 q2))
      → Rel left_out Same Ways (out d) (out2 d2) → Rel left_out Same Ways (body d) (body2 d2)
      → Rel left_out Same Ways (by_condition c q (cond on out body) (cond on body out) d) (by_condition c2 q2 (cond on out2 body2) (cond on body2 out2) d2)
  rel_splits Ways c c2 q q2 true out out2 body body2 d d2 both h k = rel_condition Ways c c2 q q2 out out2 body body2 d d2 both h k
  rel_splits Ways c c2 q q2 false out out2 body body2 d d2 both h k = rel_condition Ways c c2 q q2 body body2 out out2 d d2 both k h

  -- ---- loops

  -- at most n turns of both, where the data at the headers are in R and those behind exits to the continue targets in C: by induction on n
  pub rel_turning : (Ways : Way → Way → Type 0) (header header2 : Front) (next next2 : ℕ) (R : Data → Data → Type 0) (C : List Value → Data → List Value → Data
      → Type 0)
      (inner inner2 : Onward) (continuing continuing2 : Entry)
      → ((d d2 : Data) → R d d2 → Rel left_out Same (Under next next2 C (Under header.label header2.label (Into header header2 R) Ways)) (inner d) (inner2 d2))
      → ((vs : List Value) (d : Data) (vs2 : List Value) (d2 : Data) → C vs d vs2 d2
      → Rel left_out Same (Under header.label header2.label (Into header header2 R) Ways) (continuing vs d) (continuing2 vs2 d2))
      → (n : ℕ) (d d2 : Data) → R d d2 → Rel left_out Same Ways (turning n header next inner continuing d) (turning n header2 next2 inner2 continuing2 d2)
  rel_turning Ways header header2 next next2 R C inner inner2 continuing continuing2 h k zero d d2 r = rel_runs_out Ways
      (turning zero header2 next2 inner2 continuing2 d2)
  rel_turning Ways header header2 next next2 R C inner inner2 continuing continuing2 h k (suc n) d d2 r =
      rel_then header.label header2.label (Into header header2 R) Ways (λ xs. then_at next continuing (inner d xs))
      (λ xs. then_at next2 continuing2 (inner2 d2 xs))
      (enters header (turning n header next inner continuing)) (enters header2 (turning n header2 next2 inner2 continuing2))
      (rel_then next next2 C (Under header.label header2.label (Into header header2 R) Ways) (inner d) (inner2 d2) continuing continuing2 (h d d2 r) k)
      (λ vs e vs2 e2 s. rel_turning Ways header header2 next next2 R C inner inner2 continuing continuing2 h k n (with_parameters header vs e)
      (with_parameters header2 vs2 e2) s)

  -- into a loop by a branch, and in place
  pub rel_by_branch : (Ways : Way → Way → Type 0) (c c2 : Setting) (ids ids2 : List ℕ) (header header2 : Front) (R : Data → Data
      → Type 0) (turns turns2 : Onward) (d d2 : Data)
      → Both (λ vs vs2. Into header header2 R vs d vs2 d2) (values c d ids) (values c2 d2 ids2)
      → ((e e2 : Data) → R e e2 → Rel left_out Same Ways (turns e) (turns2 e2))
      → Rel left_out Same Ways (begins c (ByBranch ids) header turns d) (begins c2 (ByBranch ids2) header2 turns2 d2)
  rel_by_branch Ways c c2 ids ids2 header header2 R turns turns2 d d2 both h =
      rel_given Ways (λ vs vs2. Into header header2 R vs d vs2 d2) (values c d ids) (values c2 d2 ids2) (λ vs. enters header turns vs d)
      (λ vs. enters header2 turns2 vs d2) both
      (λ vs vs2 r. h (with_parameters header vs d) (with_parameters header2 vs2 d2) r)

  pub rel_in_place : (Ways : Way → Way → Type 0) (c c2 : Setting) (header header2 : Front) (turns turns2 : Onward) (d d2 : Data)
      → Rel left_out Same Ways (turns d) (turns2 d2)
      → Rel left_out Same Ways (begins c InPlace header turns d) (begins c2 InPlace header2 turns2 d2)
  rel_in_place Ways c c2 header header2 turns turns2 d d2 h = h

-- ---- to the end

-- what follows an entry point's function
abbrev pub finally : After
finally (Leaving l vs d) xs = ended Stuck
finally (Returning v d) xs = ended traces.Returned

abbrev trace : List Access → TraceEnd → Trace Access
trace accesses end = record { accesses = accesses; end = end }

ends_with : (accesses : List Access) (end : TraceEnd) → trace accesses end ≡ trace (accesses ++ []) end
ends_with accesses end = ap (λ (l : List Access). trace l end) (sym (append-nil accesses))

fate_followed : (accesses : List Access) (fate : Fate)
    → trace_of_tree (record { accesses = accesses; fate = fate }) ≡ followed (record { accesses = accesses; fate = fate }) finally
fate_followed accesses (LeavesFor l vs d xs) = ends_with accesses Stuck
fate_followed accesses (Returns v d xs) = ends_with accesses traces.Returned
fate_followed accesses Awaits = ends_with accesses Asks
fate_followed accesses RunsOut = ends_with accesses Runs
fate_followed accesses Sticks = ends_with accesses Stuck

pub tree_followed : (r : Result) → trace_of_tree r ≡ followed r finally
tree_followed r = fate_followed r.accesses r.fate

module _ (left_out : Access → Bool) (Same : Access → Access → Type 0) where
  finally_kept : (Ends : Option Value → Data → Option Value → Data → Type 0) (w w2 : Way) (ys : List Answer) → Returned Ends w w2
      → Kept left_out Same (finally w ys) (finally w2) ys
  finally_kept Ends (Leaving l vs d) w2 ys h = λ over. absurd over
  finally_kept Ends (Returning v d) (Leaving l2 vs2 d2) ys h = absurd h
  finally_kept Ends (Returning v d) (Returning v2 d2) ys h = λ over. (tt, refl)

  -- functions in the relation keep accesses
  pub rel_keeps : (Ends : Option Value → Data → Option Value → Data → Type 0) (run run2 : Part) → Rel left_out Same (Returned Ends) run run2
      → (xs : List Answer) → Kept left_out Same (trace_of_tree (run xs)) (λ ys. trace_of_tree (run2 ys)) xs
  rel_keeps Ends run run2 h xs =
      kept_same left_out Same (trace_of_tree (run xs)) (followed (run xs) finally) (λ ys. trace_of_tree (run2 ys)) (λ ys. followed (run2 ys) finally) xs
      (tree_followed (run xs)) (λ ys. tree_followed (run2 ys)) (h xs finally finally (finally_kept Ends))
