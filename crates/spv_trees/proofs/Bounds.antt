-- Greater bounds change nothing of what did not run out: by induction on the body, inside that on turns, and outside on the depth of calls.
use Rattle.std.proofs.Common.{◌≡◌, ℕ, zero, suc, ◌≤◌, ◌⊎◌, inl, inr, Bool, true, false, ◌==◌, cond, List, [], ◌∷◌, Option, Some, None, refl, sym, ap, subst, arith}
use Rattle.interleaving.specs.Machine.{Answer}
use Rattle.spv_meaning.specs.Statements as says
use Rattle.spv_meaning.specs.Statements.{Statement, said, statements_in}
use Rattle.spv_meaning.specs.Types.{number_in}
use Rattle.spv_machine.specs.Access.{Access}
use Rattle.spv_machine.specs.Setting.{Setting}
use Rattle.spv_machine.specs.State.{Value, Data, below, bind_all, value, values, words_of_value}
use Rattle.spv_machine.specs.Operations.{Outcome, Does, Wants, Fails, outcome}
use Rattle.spv_machine.specs.Steps.{paired, chosen, bind_result}
use Rattle.spv_bodies.specs.Bodies as bodies
use Rattle.spv_bodies.specs.Bodies.{Front, ByBranch, InPlace, Body, Leaves, Finishes, Step, Enters, Splits, Selects, Switches, Loops, Arms, Last, Also, Function, target}
use Rattle.spv_bodies.specs.Listing.{first_target}
use Rattle.spv_trees.specs.Meaning.{Fate, LeavesFor, Returns, Awaits, RunsOut, Sticks, Result, Onward, Entry, only, made, given, either, behind, at_return, then_return, does, all_do, leaves, by_condition, parameter_ids, enters, arrives, at_label, then_at, turning, begins, meaning, meaning_at, bound, called, tree}
use Rattle.spv_trees.specs.Laws.{BoundsLaw}

-- the first ran out, or both are the same
abbrev Same : Result → Result → Type 0
Same r r2 = (r.fate ≡ RunsOut) ⊎ (r ≡ r2)

abbrev SameOn : Onward → Onward → Type 0
SameOn go go2 = (d : Data) (xs : List Answer) → Same (go d xs) (go2 d xs)

abbrev SameAt : Entry → Entry → Type 0
SameAt go go2 = (vs : List Value) → SameOn (go vs) (go2 vs)

made_same : (t : List Access) (r r2 : Result) → Same r r2 → Same (made t r) (made t r2)
made_same t r r2 (inl h) = inl h
made_same t r r2 (inr h) = inr (ap (made t) h)

given_same : {X : Type 0} (o : Option X) (go go2 : X → Result) → ((x : X) → Same (go x) (go2 x)) → Same (given o go) (given o go2)
given_same None go go2 h = inr refl
given_same (Some x) go go2 h = h x

either_same : (b : Bool) (first first2 second second2 : Onward) → SameOn first first2 → SameOn second second2 → SameOn (either b first second) (either b first2 second2)
either_same true first first2 second second2 h k d xs = h d xs
either_same false first first2 second second2 h k d xs = k d xs

cond_same : (b : Bool) (first first2 second second2 : Onward) → SameOn first first2 → SameOn second second2 → SameOn (cond b first second) (cond b first2 second2)
cond_same true first first2 second second2 h k = h
cond_same false first first2 second second2 h k = k

-- ---- single instructions

behind_same : (o : Outcome) (xs : List Answer) (go go2 : Onward) → SameOn go go2 → Same (behind o xs go) (behind o xs go2)
behind_same (Does d) xs go go2 h = h d xs
behind_same (Wants a by_answer) [] go go2 h = inr refl
behind_same (Wants a by_answer) (x ∷ xs) go go2 h = made_same (a ∷ []) (go (by_answer x) xs) (go2 (by_answer x) xs) (h (by_answer x) xs)
behind_same Fails xs go go2 h = inr refl

at_return_same : (r : ℕ) (go go2 : Onward) → SameOn go go2 → (t : List Access) (fate : Fate) → Same (at_return r go t fate) (at_return r go2 t fate)
at_return_same r go go2 h t (LeavesFor label vs d xs) = inr refl
at_return_same r go go2 h t (Returns v d xs) =
    let e : Data = bind_result r v (record d { frames = below d.frames }) in
    made_same t (go e xs) (go2 e xs) (h e xs)
at_return_same r go go2 h t Awaits = inr refl
at_return_same r go go2 h t RunsOut = inr refl
at_return_same r go go2 h t Sticks = inr refl

then_return_same : (r : ℕ) (go go2 : Onward) → SameOn go go2 → (callee callee2 : Result) → Same callee callee2 → Same (then_return r go callee) (then_return r go2 callee2)
then_return_same r go go2 h callee callee2 (inl e) = inl (ap (λ z. (at_return r go callee.accesses z).fate) e)
then_return_same r go go2 h callee callee2 (inr e) =
    subst (λ z. Same (then_return r go callee) (then_return r go2 z)) e (at_return_same r go go2 h callee.accesses callee.fate)

module _ (c : Setting) (call call2 : ℕ → Entry) (calls : (f : ℕ) → SameAt (call f) (call2 f)) where
  does_same : (statement : Statement) (d : Data) (xs : List Answer) (go go2 : Onward) → SameOn go go2 → Same (does c call statement d xs go) (does c call2 statement d xs go2)
  does_same (says.FunctionCall t r f arguments) d xs go go2 h =
      given_same (values c d arguments) (λ vs. then_return r go (call f vs d xs)) (λ vs. then_return r go2 (call2 f vs d xs))
      (λ vs. then_return_same r go go2 h (call f vs d xs) (call2 f vs d xs) (calls f vs d xs))
  does_same other d xs go go2 h = behind_same (outcome c d other) xs go go2 h

  all_do_same : (statements : List Statement) (d : Data) (xs : List Answer) (go go2 : Onward) → SameOn go go2 → Same (all_do c call statements d xs go) (all_do c call2 statements d xs go2)
  all_do_same [] d xs go go2 h = h d xs
  all_do_same (s ∷ ss) d xs go go2 h =
      does_same s d xs (λ e ys. all_do c call ss e ys go) (λ e ys. all_do c call2 ss e ys go2) (λ e ys. all_do_same ss e ys go go2 h)

-- ---- branches

leaves_same : (c : Setting) (go : Onward) → SameOn go go
leaves_same c go d xs = inr refl

by_condition_same : (c : Setting) (condition : ℕ) (first first2 second second2 : Onward) → SameOn first first2 → SameOn second second2 → SameOn (by_condition c condition first second) (by_condition c condition first2 second2)
by_condition_same c condition first first2 second second2 h k d xs =
    given_same (words_of_value (value c d condition)) (λ ws. either (number_in ws == 1) first second d xs) (λ ws. either (number_in ws == 1) first2 second2 d xs)
    (λ ws. either_same (number_in ws == 1) first first2 second second2 h k d xs)

enters_same : (front : Front) (go go2 : Onward) → SameOn go go2 → SameAt (enters front go) (enters front go2)
enters_same front go go2 h vs d xs = h (bind_all (paired (parameter_ids front) vs) d) xs

arrives_same : (b : Bool) (go go2 : Entry) → SameAt go go2 → (t : List Access) (left : ℕ) (vs : List Value) (d : Data) (xs : List Answer) → Same (arrives b go t left vs d xs) (arrives b go2 t left vs d xs)
arrives_same true go go2 h t left vs d xs = made_same t (go vs d xs) (go2 vs d xs) (h vs d xs)
arrives_same false go go2 h t left vs d xs = inr refl

at_label_same : (label : ℕ) (go go2 : Entry) → SameAt go go2 → (t : List Access) (fate : Fate) → Same (at_label label go t fate) (at_label label go2 t fate)
at_label_same label go go2 h t (LeavesFor left vs d xs) = arrives_same (left == label) go go2 h t left vs d xs
at_label_same label go go2 h t (Returns v d xs) = inr refl
at_label_same label go go2 h t Awaits = inr refl
at_label_same label go go2 h t RunsOut = inr refl
at_label_same label go go2 h t Sticks = inr refl

then_at_same : (label : ℕ) (go go2 : Entry) → SameAt go go2 → (part part2 : Result) → Same part part2 → Same (then_at label go part) (then_at label go2 part2)
then_at_same label go go2 h part part2 (inl e) = inl (ap (λ z. (at_label label go part.accesses z).fate) e)
then_at_same label go go2 h part part2 (inr e) =
    subst (λ z. Same (then_at label go part) (then_at label go2 z)) e (at_label_same label go go2 h part.accesses part.fate)

turning_same : (header : Front) (next : ℕ) (inner inner2 : Onward) (continuing continuing2 : Entry) → SameOn inner inner2 → SameAt continuing continuing2
    → (n n2 : ℕ) → n ≤ n2 → SameOn (turning n header next inner continuing) (turning n2 header next inner2 continuing2)
turning_same header next inner inner2 continuing continuing2 h k zero n2 le d xs = inl refl
turning_same header next inner inner2 continuing continuing2 h k (suc n) zero le d xs = absurd (omega arith)
turning_same header next inner inner2 continuing continuing2 h k (suc n) (suc n2) le d xs =
    then_at_same header.label (enters header (turning n header next inner continuing)) (enters header (turning n2 header next inner2 continuing2))
    (enters_same header (turning n header next inner continuing) (turning n2 header next inner2 continuing2) (turning_same header next inner inner2 continuing continuing2 h k n n2 (omega arith)))
    (then_at next continuing (inner d xs)) (then_at next continuing2 (inner2 d xs))
    (then_at_same next continuing continuing2 k (inner d xs) (inner2 d xs) (h d xs))

begins_same : (c : Setting) (entry : bodies.Entry) (header : Front) (go go2 : Onward) → SameOn go go2 → SameOn (begins c entry header go) (begins c entry header go2)
begins_same c (ByBranch ids) header go go2 h d xs =
    given_same (values c d ids) (λ vs. enters header go vs d xs) (λ vs. enters header go2 vs d xs) (λ vs. enters_same header go go2 h vs d xs)
begins_same c InPlace header go go2 h d xs = h d xs

-- ---- bodies

module _ (c : Setting) (call call2 : ℕ → Entry) (calls : (f : ℕ) → SameAt (call f) (call2 f)) (n n2 : ℕ) (le : n ≤ n2) where
  mutual
    meaning_same : (body : Body) → SameOn (meaning c call n body) (meaning c call2 n2 body)
    meaning_same (Leaves exit) d xs = inr refl
    meaning_same (Finishes words) d xs = inr refl
    meaning_same (Step words body) d xs = all_do_same c call call2 calls (said words []) d xs (meaning c call n body) (meaning c call2 n2 body) (meaning_same body)
    meaning_same (Enters label body) d xs = meaning_same body d xs
    meaning_same (Splits condition on exit body) d xs =
        by_condition_same c condition
        (cond on (leaves c exit) (meaning c call n body)) (cond on (leaves c exit) (meaning c call2 n2 body))
        (cond on (meaning c call n body) (leaves c exit)) (cond on (meaning c call2 n2 body) (leaves c exit))
        (cond_same on (leaves c exit) (leaves c exit) (meaning c call n body) (meaning c call2 n2 body) (leaves_same c (leaves c exit)) (meaning_same body))
        (cond_same on (meaning c call n body) (meaning c call2 n2 body) (leaves c exit) (leaves c exit) (meaning_same body) (leaves_same c (leaves c exit))) d xs
    meaning_same (Selects control condition first second merge rest) d xs =
        then_at_same merge.label (enters merge (meaning c call n rest)) (enters merge (meaning c call2 n2 rest)) (enters_same merge (meaning c call n rest) (meaning c call2 n2 rest) (meaning_same rest))
        (by_condition c condition (meaning c call n first) (meaning c call n second) d xs) (by_condition c condition (meaning c call2 n2 first) (meaning c call2 n2 second) d xs)
        (by_condition_same c condition (meaning c call n first) (meaning c call2 n2 first) (meaning c call n second) (meaning c call2 n2 second) (meaning_same first) (meaning_same second) d xs)
    meaning_same (Switches control selector cases arms merge rest) d xs =
        then_at_same merge.label (enters merge (meaning c call n rest)) (enters merge (meaning c call2 n2 rest)) (enters_same merge (meaning c call n rest) (meaning c call2 n2 rest) (meaning_same rest))
        (given (words_of_value (value c d selector)) (λ ws. meaning_at c call n arms (chosen (number_in ws) (first_target arms) cases) d xs))
        (given (words_of_value (value c d selector)) (λ ws. meaning_at c call2 n2 arms (chosen (number_in ws) (first_target arms) cases) d xs))
        (given_same (words_of_value (value c d selector))
        (λ ws. meaning_at c call n arms (chosen (number_in ws) (first_target arms) cases) d xs)
        (λ ws. meaning_at c call2 n2 arms (chosen (number_in ws) (first_target arms) cases) d xs)
        (λ ws. arms_same arms (chosen (number_in ws) (first_target arms) cases) d xs))
    meaning_same (Loops entry header control inner next continuing merge rest) d xs =
        let first : Onward = turning n header next.label (meaning c call n inner) (enters next (meaning c call n continuing)) in
        let second : Onward = turning n2 header next.label (meaning c call2 n2 inner) (enters next (meaning c call2 n2 continuing)) in
        then_at_same merge.label (enters merge (meaning c call n rest)) (enters merge (meaning c call2 n2 rest)) (enters_same merge (meaning c call n rest) (meaning c call2 n2 rest) (meaning_same rest))
        (begins c entry header first d xs) (begins c entry header second d xs)
        (begins_same c entry header first second
        (turning_same header next.label (meaning c call n inner) (meaning c call2 n2 inner) (enters next (meaning c call n continuing)) (enters next (meaning c call2 n2 continuing))
        (meaning_same inner) (enters_same next (meaning c call n continuing) (meaning c call2 n2 continuing) (meaning_same continuing)) n n2 le) d xs)

    arms_same : (arms : Arms) (label : ℕ) → SameOn (meaning_at c call n arms label) (meaning_at c call2 n2 arms label)
    arms_same (Last arm) label d xs =
        either_same (target arm == label) (meaning c call n arm) (meaning c call2 n2 arm) (λ e ys. only Sticks) (λ e ys. only Sticks) (meaning_same arm) (leaves_same c (λ e ys. only Sticks)) d xs
    arms_same (Also arm arms) label d xs =
        either_same (target arm == label) (meaning c call n arm) (meaning c call2 n2 arm) (meaning_at c call n arms label) (meaning_at c call2 n2 arms label) (meaning_same arm) (arms_same arms label) d xs

-- ---- functions

called_same : (c : Setting) (functions : ℕ → Option Function) (go go2 : Body → Onward) → ((body : Body) → SameOn (go body) (go2 body)) → (f : ℕ) → SameAt (called c functions go f) (called c functions go2 f)
called_same c functions go go2 h f vs d xs =
    given_same (functions f)
    (λ g. given (bound c (statements_in g.parameters) vs []) (λ entries. go g.body (record d { frames = record { values = entries; variables = [] } ∷ d.frames }) xs))
    (λ g. given (bound c (statements_in g.parameters) vs []) (λ entries. go2 g.body (record d { frames = record { values = entries; variables = [] } ∷ d.frames }) xs))
    (λ g. given_same (bound c (statements_in g.parameters) vs [])
    (λ entries. go g.body (record d { frames = record { values = entries; variables = [] } ∷ d.frames }) xs)
    (λ entries. go2 g.body (record d { frames = record { values = entries; variables = [] } ∷ d.frames }) xs)
    (λ entries. h g.body (record d { frames = record { values = entries; variables = [] } ∷ d.frames }) xs))

called_out : (c : Setting) (functions : ℕ → Option Function) (go : Body → Onward) (f : ℕ) → SameAt (called c functions (λ body d xs. only RunsOut) f) (called c functions go f)
called_out c functions go f = called_same c functions (λ body d xs. only RunsOut) go (λ body d xs. inl refl) f

tree_same : (c : Setting) (functions : ℕ → Option Function) (n n2 : ℕ) → n ≤ n2 → (depth depth2 : ℕ) → depth ≤ depth2 → (f : ℕ) → SameAt (tree c functions depth n f) (tree c functions depth2 n2 f)
tree_same c functions n n2 le zero zero deep f = called_out c functions (λ body d xs. only RunsOut) f
tree_same c functions n n2 le zero (suc depth2) deep f = called_out c functions (meaning c (tree c functions depth2 n2) n2) f
tree_same c functions n n2 le (suc depth) zero deep f = λ vs d xs. absurd (omega arith)
tree_same c functions n n2 le (suc depth) (suc depth2) deep f =
    called_same c functions (meaning c (tree c functions depth n) n) (meaning c (tree c functions depth2 n2) n2)
    (λ body. meaning_same c (tree c functions depth n) (tree c functions depth2 n2) (tree_same c functions n n2 le depth depth2 (omega arith)) n n2 le body) f

by_same : (r r2 : Result) → Same r r2 → (r.fate ≡ RunsOut → ⊥) → r2 ≡ r
by_same r r2 (inl h) over = absurd (over h)
by_same r r2 (inr h) over = sym h

pub bounds_law : BoundsLaw
bounds_law c functions depth turns depth2 turns2 deep long f vs d xs over =
    by_same (tree c functions depth turns f vs d xs) (tree c functions depth2 turns2 f vs d xs) (tree_same c functions turns turns2 long depth depth2 deep f vs d xs) over
