-- The laws: by induction on the depth of calls; and back by determinism.
use Rattle.std.proofs.Common.{◌≡◌, ℕ, zero, suc, ◌+◌, ◌-◌, ◌≤◌, min, true, List, [], ◌∷◌, ◌++◌, Option, Some, None, refl, sym, ap, ◌∙◌, subst, arith}
use Rattle.std.specs.Option.{IsSome}
use Rattle.std.specs.List.{AllByRecursion}
use Rattle.interleaving.specs.Machine.{Answer, HasReturned, IsStuck, Goes, Stands}
use Rattle.interleaving.specs.Trace.{Asks, Runs, Stuck, Trace}
use Rattle.interleaving.proofs.Traces.{some_more}
use Rattle.spv_meaning.specs.Statements as says
use Rattle.spv_meaning.specs.Statements.{Statement, statements_in}
use Rattle.spv_machine.specs.Access.{Access}
use Rattle.spv_machine.specs.Setting.{Setting}
use Rattle.spv_machine.specs.State.{Value, Data, Caller, State, At}
use Rattle.spv_machine.specs.Steps.{Next, given_some, look, behind_function, passed, returns_to}
use Rattle.spv_machine.specs.Steps as steps
use Rattle.spv_bodies.specs.Bodies.{Body, Function}
use Rattle.spv_trees.specs.Meaning.{Fate, LeavesFor, Returns, Awaits, RunsOut, Sticks, Result, Onward, only, given, bound, called, meaning, tree}
use Rattle.spv_trees.specs.Standing.{StandsFunction, AllStand, is_parameter}
use Rattle.spv_trees.specs.Laws.{trace_from, Agrees, AgreesFrom, entry, AgreementLaw, IsTrace, ConverseLaw}
use Rattle.spv_trees.proofs.Walks.{Halts}
use Rattle.spv_trees.proofs.Following.{Follows, FollowsPart}
use Rattle.spv_trees.proofs.Parts.{FollowsEntry, CallsFollow, stands_follows}

-- ---- into a function

-- behind the first label, in a new frame with these values
abbrev in_frame : Data → List (ℕ × Value) → Data
in_frame d entries = record d { frames = record { values = entries; variables = [] } ∷ d.frames }

-- the machine binds the parameters as the tree does
enters_bound : (c : Setting) (callers : List Caller) (parameters : List Statement) → AllByRecursion (λ s. is_parameter s ≡ true) parameters → (label : ℕ) (rest : List Statement) (vs : List Value) (entries : List (ℕ × Value)) (d : Data)
    → steps.enters c callers (parameters ++ says.Label label ∷ rest) vs entries d ≡ given_some (bound c parameters vs entries) (λ all. Goes (At callers rest label (in_frame d all)))
enters_bound c callers [] h label rest [] entries d = refl
enters_bound c callers [] h label rest (v ∷ vs) entries d = refl
enters_bound c callers (says.FunctionParameter t r ∷ ps) h label rest [] entries d = refl
enters_bound c callers (says.FunctionParameter t r ∷ ps) h label rest (v ∷ vs) entries d = enters_bound c callers ps h.1 label rest vs ((r, passed c r v) ∷ entries) d
enters_bound c callers (other ∷ ps) h label rest vs entries d = absurd (cc (h.0))

entry_is : (c : Setting) (functions : ℕ → Option Function) (f : ℕ) (function : Function) (stands : StandsFunction c.all functions f function) (callers : List Caller) (vs : List Value) (d : Data)
    → entry c callers f vs d ≡ given_some (bound c (statements_in function.parameters) vs []) (λ all. Goes (At callers stands.first_block function.label (in_frame d all)))
entry_is c functions f function stands callers vs d =
    ap (λ o. given_some o (λ rest. steps.enters c callers rest vs [] d)) stands.place
    ∙ enters_bound c callers (statements_in function.parameters) stands.parameters function.label stands.first_block vs [] d

module _ (c : Setting) (functions : ℕ → Option Function) (all_stand : AllStand c.all functions) where
  bound_follows : (callers : List Caller) (b : ℕ) (first_block : List Statement) (label : ℕ) (d : Data) (xs : List Answer) (go : Data → Result)
      → ((e : Data) → FollowsPart c callers [] b (At callers first_block label e) xs (go e))
      → (o : Option (List (ℕ × Value))) → FollowsEntry c callers b (given_some o (λ all. Goes (At callers first_block label (in_frame d all)))) xs (given o (λ all. go (in_frame d all)))
  bound_follows callers b first_block label d xs go h None = refl
  bound_follows callers b first_block label d xs go h (Some all) = h (in_frame d all)

  -- a function whose body is followed
  called_follows : (b : ℕ) (go : Body → Onward)
      → ((f : ℕ) (function : Function) (stands : StandsFunction c.all functions f function) (callers : List Caller) (e : Data) (xs : List Answer) → FollowsPart c callers [] b (At callers stands.first_block function.label e) xs (go function.body e xs))
      → (f : ℕ) (o : Option Function) → functions f ≡ o → IsSome o → (callers : List Caller) (vs : List Value) (d : Data) (xs : List Answer)
      → FollowsEntry c callers b (entry c callers f vs d) xs (called c functions go f vs d xs)
  called_follows b go h f None e known callers vs d xs = absurd (cc known)
  called_follows b go h f (Some function) e known callers vs d xs =
      let stands : StandsFunction c.all functions f function = all_stand f function e in
      subst (λ m. FollowsEntry c callers b m xs (called c functions go f vs d xs)) (sym (entry_is c functions f function stands callers vs d))
      (subst (λ o. FollowsEntry c callers b (given_some (bound c (statements_in function.parameters) vs []) (λ all. Goes (At callers stands.first_block function.label (in_frame d all)))) xs
      (given o (λ g. given (bound c (statements_in g.parameters) vs []) (λ all. go g.body (in_frame d all) xs)))) (sym e)
      (bound_follows callers b stands.first_block function.label d xs (λ z. go function.body z xs) (λ z. h f function stands callers z xs) (bound c (statements_in function.parameters) vs [])))

  -- by induction on the depth of calls
  pub tree_follows : (turns depth : ℕ) → CallsFollow c functions (min depth turns) (tree c functions depth turns)
  tree_follows turns zero = λ f known callers vs d xs.
      called_follows (min 0 turns) (λ body e ys. only RunsOut) (λ g function stands callers2 e ys i lt. absurd (omega arith)) f (functions f) refl known callers vs d xs
  tree_follows turns (suc depth) = λ f known callers vs d xs.
      called_follows (min (suc depth) turns) (meaning c (tree c functions depth turns) turns)
      (λ g function stands callers2 e ys. stands_follows c functions (tree c functions depth turns) turns (min (suc depth) turns) (min depth turns) (omega arith) (omega arith) (tree_follows turns depth) stands.stands [] stands.closed callers2 e ys)
      f (functions f) refl known callers vs d xs

-- ---- what that says of traces

agrees : (c : Setting) (callers : List Caller) (b : ℕ) (s : State) (xs : List Answer) (t : List Access) (fate : Fate) → Follows c callers [] b s xs t fate → Agrees c callers b s xs t fate
agrees c callers b s xs t (LeavesFor label vs d ys) h = h.listed
agrees c callers b s xs t (Returns v d ys) h = λ k. (h.count + k, omega arith, h.comes (h.count + k) k refl)
agrees c callers b s xs t Awaits h = h
agrees c callers b s xs t RunsOut h = h
agrees c callers b s xs t Sticks h = h

agrees_from : (c : Setting) (callers : List Caller) (b : ℕ) (m : Next) (xs : List Answer) (r : Result) → FollowsEntry c callers b m xs r → AgreesFrom c callers b m xs r
agrees_from c callers b (Goes s) xs r h = agrees c callers b s xs r.accesses r.fate h
agrees_from c callers b IsStuck xs r h = h
agrees_from c callers b HasReturned xs r h = h
agrees_from c callers b (Stands a k) xs r h = h

pub agreement_law : AgreementLaw
agreement_law c functions all_stand f known callers vs d xs depth turns =
    agrees_from c callers (min depth turns) (entry c callers f vs d) xs (tree c functions depth turns f vs d xs) (tree_follows c functions all_stand turns depth f known callers vs d xs)

-- a trace that is over stays so
pub over_stays : (c : Setting) (s : State) (n j : ℕ) (xs : List Answer) → n ≤ j → ((trace_from c s n xs).end ≡ Runs → ⊥) → trace_from c s n xs ≡ trace_from c s j xs
over_stays c s n j xs le over =
    let e : j - n + n ≡ j = omega arith in
    sym (some_more (look c) n (j - n) s xs over) ∙ ap (λ z. trace_from c s z xs) e

pub over_comes : (c : Setting) (s : State) (n : ℕ) (xs : List Answer) (t : Trace Access) → ((trace_from c s n xs).end ≡ Runs → ⊥) → Halts (look c) s xs t → trace_from c s n xs ≡ t
over_comes c s n xs t over h = over_stays c s n (n + h.0) xs (omega arith) over ∙ h.1 (n + h.0) (omega arith)

is_trace : (c : Setting) (callers : List Caller) (n : ℕ) (s : State) (xs : List Answer) (t : List Access) (fate : Fate) → ((trace_from c s n xs).end ≡ Runs → ⊥)
    → Agrees c callers (min (n + 1) (n + 1)) s xs t fate → IsTrace c callers n (trace_from c s n xs) t fate
is_trace c callers n s xs t (LeavesFor label vs d ys) over h = h
is_trace c callers n s xs t (Returns v d ys) over h =
    let r = h n in
    over_stays c s n r.0 xs r.1 over ∙ r.2
is_trace c callers n s xs t Awaits over h = over_comes c s n xs (record { accesses = t; end = Asks }) over h
is_trace c callers n s xs t RunsOut over h = over (h n (omega arith))
is_trace c callers n s xs t Sticks over h = over_comes c s n xs (record { accesses = t; end = Stuck }) over h

pub converse_law : ConverseLaw
converse_law c functions all_stand f known callers vs d xs s e n over =
    let r : Result = tree c functions (n + 1) (n + 1) f vs d xs in
    is_trace c callers n s xs r.accesses r.fate over
    (subst (λ m. AgreesFrom c callers (min (n + 1) (n + 1)) m xs r) e (agreement_law c functions all_stand f known callers vs d xs (n + 1) (n + 1)))
