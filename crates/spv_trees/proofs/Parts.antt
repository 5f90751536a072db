-- A body that stands in the module is followed by the machine: by induction on how it stands.
use Rattle.std.proofs.Common.{◌≡◌, ℕ, ◌+◌, ◌≤◌, Bool, true, false, ◌==◌, cond, List, [], ◌∷◌, ◌++◌, Option, Some, None, refl, sym, ap, ◌∙◌, subst, arith}
use Rattle.std.proofs.lemmas.Bool.{eqb-true, eq-eqb}
use Rattle.std.specs.Option.{IsSome}
use Rattle.std.specs.List.{AllByRecursion}
use Rattle.interleaving.specs.Machine.{Answer, HasReturned, IsStuck, Goes, Stands}
use Rattle.spv_meaning.specs.Statements as says
use Rattle.spv_meaning.specs.Statements.{Statement, said}
use Rattle.spv_meaning.specs.Types.{number_in}
use Rattle.spv_machine.specs.Setting.{Setting}
use Rattle.spv_machine.specs.State.{Value, Data, Caller, State, At, bind_all, value, values, words_of_value}
use Rattle.spv_machine.specs.Operations.{Fails, outcome}
use Rattle.spv_machine.specs.Steps as steps
use Rattle.spv_machine.specs.Steps.{Next, given_some, look, acts, behind_label, behind_function, behind_phis, phi_results, phi_sources, paired, chosen, returns_to}
use Rattle.spv_bodies.specs.Bodies.{Exit, Front, Body, Arms, Last, Also, Function, target}
use Rattle.spv_bodies.specs.Listing.{first_target}
use Rattle.spv_trees.specs.Meaning.{LeavesFor, Returns, Sticks, Result, Onward, Entry, only, given, either, does, all_do, then_return, finishes, leaves, by_condition, enters, then_at, turning, meaning, meaning_at}
use Rattle.spv_trees.specs.Standing as standing
use Rattle.spv_trees.specs.Standing.{StandsExit, StandsFront, IsCopied, copies, leads_on, is_finish, has_arm, Covers, Stands as StandsBody, StandsAt, StandsArms, StandsLoop, OneOf, CallsKnown, IsClosed, AreClosed}
use Rattle.spv_trees.specs.Laws.{entry}
use Rattle.spv_trees.proofs.Walks.{walk_goes, goes_counts, halts_stuck}
use Rattle.spv_trees.proofs.Following.{landing, FollowsPart, FollowsAt, goes_then, operation_then, return_then, front_follows, at_then, turning_follows}
use Rattle.spv_trees.proofs.Copying.{copies_mean}

pub look_at : (c : Setting) (callers : List Caller) (rest : List Statement) (block : ℕ) (d : Data) → look c (At callers rest block d) ≡ acts c callers block d rest
unfolding look
look_at c callers rest block d = refl

-- a branch to a block that is there
branches_to : (c : Setting) (callers : List Caller) (block : ℕ) (d : Data) (label : ℕ) (there : List Statement) (ids : List ℕ) → behind_label c.all label ≡ Some there → phi_sources there block ≡ Some ids
    → steps.branches c callers block d label ≡ given_some (values c d ids) (λ vs. Goes (landing callers label there vs d))
branches_to c callers block d label there ids place sources =
    ap (λ o. given_some o (λ target. given_some (phi_sources target block) (λ is. given_some (values c d is) (λ vs. Goes (landing callers label target vs d))))) place
    ∙ ap (λ o. given_some o (λ is. given_some (values c d is) (λ vs. Goes (landing callers label there vs d)))) sources

-- from the call on, the machine follows what a callee does
abbrev pub FollowsEntry : Setting → List Caller → (b : ℕ) → Next → List Answer → Result → Type 0
FollowsEntry c callers b (Goes s) xs r = FollowsPart c callers [] b s xs r
FollowsEntry c callers b IsStuck xs r = r ≡ only Sticks
FollowsEntry c callers b HasReturned xs r = ⊥
FollowsEntry c callers b (Stands a k) xs r = ⊥

abbrev pub CallsFollow : Setting → (ℕ → Option Function) → (b : ℕ) → (call : ℕ → Entry) → Type 0
CallsFollow c functions b call =
    (f : ℕ) → IsSome (functions f) → (callers : List Caller) (vs : List Value) (d : Data) (xs : List Answer) → FollowsEntry c callers b (entry c callers f vs d) xs (call f vs d xs)

-- ---- closed bodies

closed_copies : (functions : ℕ → Option Function) (labels : List ℕ) (there : List Statement) (sources : List ℕ) (body : Body) → IsClosed functions labels (copies there sources body) → IsClosed functions labels body
closed_copies functions labels [] sources body h = h
closed_copies functions labels (says.Phi t r pairs ∷ rest) [] body h = h
closed_copies functions labels (says.Phi t r pairs ∷ rest) (s ∷ ss) body h = closed_copies functions labels rest ss body h.1
closed_copies functions labels (other ∷ rest) sources body h = h

pub known_behind : (functions : ℕ → Option Function) (s : Statement) (rest : List Statement) → CallsKnown functions (s ∷ rest) → CallsKnown functions rest
known_behind functions (says.FunctionCall t r f arguments) rest h = h.1
known_behind functions other rest h = h

-- ---- blocks

module _ (c : Setting) (functions : ℕ → Option Function) (call : ℕ → Entry) (turns b : ℕ) where
  -- a branch by values that are there
  given_follows : (callers : List Caller) (labels : List ℕ) (s : State) (xs : List Answer) (o : Option (List Value)) (next : List Value → State) (go : List Value → Result)
      → look c s ≡ given_some o (λ vs. Goes (next vs)) → ((vs : List Value) → FollowsPart c callers labels b (next vs) xs (go vs)) → FollowsPart c callers labels b s xs (given o go)
  given_follows callers labels s xs None next go e h = halts_stuck (look c) s xs e
  given_follows callers labels s xs (Some vs) next go e h = goes_then c callers labels b b s (next vs) xs (go vs) e (omega arith) (h vs)

  -- a branch by a condition or a selector that is there
  chosen_follows : (callers : List Caller) (labels : List ℕ) (block : ℕ) (d : Data) (s : State) (xs : List Answer) (o : Option (List ℕ)) (label : List ℕ → ℕ) (go : List ℕ → Result)
      → look c s ≡ given_some o (λ ws. steps.branches c callers block d (label ws))
      → ((ws : List ℕ) → look c s ≡ steps.branches c callers block d (label ws) → FollowsPart c callers labels b s xs (go ws)) → FollowsPart c callers labels b s xs (given o go)
  chosen_follows callers labels block d s xs None label go e h = halts_stuck (look c) s xs e
  chosen_follows callers labels block d s xs (Some ws) label go e h = h ws e

  -- out of a part
  exit_follows : (callers : List Caller) (labels : List ℕ) (exit : Exit) (d : Data) (s : State) (xs : List Answer) (there : List Statement) → behind_label c.all exit.target ≡ Some there → OneOf exit.target labels
      → (o : Option (List Value)) → look c s ≡ given_some o (λ vs. Goes (landing callers exit.target there vs d))
      → FollowsPart c callers labels b s xs (given o (λ vs. only (LeavesFor exit.target vs d xs)))
  exit_follows callers labels exit d s xs there place listed None e = halts_stuck (look c) s xs e
  exit_follows callers labels exit d s xs there place listed (Some vs) e = record {
    there = there;
    place = place;
    walk = walk_goes (look c) s (landing callers exit.target there vs d) xs e;
    some = omega (arith, goes_counts (look c) s (landing callers exit.target there vs d) xs e);
    listed = listed;
  }

  leave_follows : (callers : List Caller) (labels : List ℕ) (block : ℕ) (exit : Exit) (d : Data) (s : State) (xs : List Answer) → StandsExit c.all block exit → OneOf exit.target labels
      → look c s ≡ steps.branches c callers block d exit.target → FollowsPart c callers labels b s xs (leaves c exit d xs)
  leave_follows callers labels block exit d s xs h listed e =
      exit_follows callers labels exit d s xs h.there h.place listed (values c d exit.values)
      (e ∙ branches_to c callers block d exit.target h.there exit.values h.place h.values)

  -- into a block whose OpPhi are copied
  enter_follows : (callers : List Caller) (labels : List ℕ) (block label : ℕ) (there : List Statement) (sources : List ℕ) (body : Body) (d : Data) (s : State) (xs : List Answer)
      → IsCopied c.all block label there sources → look c s ≡ steps.branches c callers block d label
      → ((e : Data) → FollowsPart c callers labels b (At callers (behind_phis there) label e) xs (meaning c call turns body e xs))
      → FollowsPart c callers labels b s xs (meaning c call turns (copies there sources body) d xs)
  enter_follows callers labels block label there sources body d s xs h e more =
      subst (FollowsPart c callers labels b s xs) (sym (copies_mean c call turns there block sources body h.values h.apart d xs))
      (given_follows callers labels s xs (values c d sources) (λ vs. landing callers label there vs d) (λ vs. meaning c call turns body (bind_all (paired (phi_results there) vs) d) xs)
      (e ∙ branches_to c callers block d label there sources h.place h.values)
      (λ vs. more (bind_all (paired (phi_results there) vs) d)))

  -- ---- single statements

  finish_value : (callers : List Caller) (labels : List ℕ) (s : State) (d : Data) (xs : List Answer) (o : Option Value) → look c s ≡ given_some o (λ v. Goes (returns_to callers (Some v) d))
      → FollowsPart c callers labels b s xs (given o (λ v. only (Returns (Some v) d xs)))
  finish_value callers labels s d xs None e = halts_stuck (look c) s xs e
  finish_value callers labels s d xs (Some v) e = walk_goes (look c) s (returns_to callers (Some v) d) xs e

  unreachable_fails : (d : Data) → outcome c d says.Unreachable ≡ Fails
  unfolding outcome
  unreachable_fails d = refl

  finish_follows : (callers : List Caller) (labels : List ℕ) (statement : Statement) → is_finish statement ≡ true → (after : List Statement) (block : ℕ) (d : Data) (xs : List Answer)
      → FollowsPart c callers labels b (At callers (statement ∷ after) block d) xs (finishes c (statement ∷ []) d xs)
  finish_follows callers labels says.Return h after block d xs =
      walk_goes (look c) (At callers (says.Return ∷ after) block d) (returns_to callers None d) xs (look_at c callers (says.Return ∷ after) block d)
  finish_follows callers labels (says.ReturnValue id) h after block d xs =
      finish_value callers labels (At callers (says.ReturnValue id ∷ after) block d) d xs (value c d id) (look_at c callers (says.ReturnValue id ∷ after) block d)
  finish_follows callers labels says.Unreachable h after block d xs =
      halts_stuck (look c) (At callers (says.Unreachable ∷ after) block d) xs
      (look_at c callers (says.Unreachable ∷ after) block d ∙ ap (steps.goes_on callers after block) (unreachable_fails d))
  finish_follows callers labels other h after block d xs = absurd (cc h)

  -- ---- calls

  swapped : {X Y : Type 0} (p : Option X) (o : Option Y) (go : X → Y → Next) → given_some p (λ x. given_some o (λ y. go x y)) ≡ given_some o (λ y. given_some p (λ x. go x y))
  swapped None None go = refl
  swapped None (Some y) go = refl
  swapped (Some x) None go = refl
  swapped (Some x) (Some y) go = refl

  entered_follows : (callers : List Caller) (labels : List ℕ) (caller : Caller) (s : State) (xs : List Answer) (go : Onward) (b2 : ℕ) → b ≤ 1 + b2
      → ((e : Data) (ys : List Answer) → FollowsPart c callers labels b (At callers caller.rest caller.block e) ys (go e ys))
      → (m : Next) → look c s ≡ m → (r : Result) → FollowsEntry c (caller ∷ callers) b2 m xs r → FollowsPart c callers labels b s xs (then_return caller.result_id go r)
  entered_follows callers labels caller s xs go b2 le more (Goes v) e r h =
      return_then c callers labels b b s caller xs r.accesses r.fate go (omega arith) (goes_then c (caller ∷ callers) [] b b2 s v xs r e le h) more
  entered_follows callers labels caller s xs go b2 le more IsStuck e r h =
      subst (λ z. FollowsPart c callers labels b s xs (then_return caller.result_id go z)) (sym h) (halts_stuck (look c) s xs e)
  entered_follows callers labels caller s xs go b2 le more HasReturned e r h = absurd h
  entered_follows callers labels caller s xs go b2 le more (Stands a k) e r h = absurd h

  call_follows : (b2 : ℕ) → b ≤ 1 + b2 → CallsFollow c functions b2 call
      → (callers : List Caller) (labels : List ℕ) (f : ℕ) → IsSome (functions f) → (caller : Caller) (d : Data) (s : State) (xs : List Answer) (go : Onward)
      → ((e : Data) (ys : List Answer) → FollowsPart c callers labels b (At callers caller.rest caller.block e) ys (go e ys))
      → (o : Option (List Value)) → look c s ≡ given_some o (λ vs. entry c (caller ∷ callers) f vs d)
      → FollowsPart c callers labels b s xs (given o (λ vs. then_return caller.result_id go (call f vs d xs)))
  call_follows b2 le calls callers labels f known caller d s xs go more None e = halts_stuck (look c) s xs e
  call_follows b2 le calls callers labels f known caller d s xs go more (Some vs) e =
      entered_follows callers labels caller s xs go b2 le more (entry c (caller ∷ callers) f vs d) e (call f vs d xs) (calls f known (caller ∷ callers) vs d xs)

  -- ---- steps

  one_follows : (b2 : ℕ) → b ≤ 1 + b2 → CallsFollow c functions b2 call
      → (callers : List Caller) (labels : List ℕ) (statement : Statement) (others : List Statement) → leads_on statement ≡ true → CallsKnown functions (statement ∷ others)
      → (rest : List Statement) (block : ℕ) (d : Data) (xs : List Answer) (go : Onward)
      → ((e : Data) (ys : List Answer) → FollowsPart c callers labels b (At callers rest block e) ys (go e ys))
      → FollowsPart c callers labels b (At callers (statement ∷ rest) block d) xs (does c call statement d xs go)
  one_follows b2 le calls callers labels (says.FunctionCall t r f arguments) others leads known rest block d xs go more =
      call_follows b2 le calls callers labels f known.0 (record { rest = rest; block = block; result_id = r }) d (At callers (says.FunctionCall t r f arguments ∷ rest) block d) xs go more
      (values c d arguments)
      (look_at c callers (says.FunctionCall t r f arguments ∷ rest) block d
      ∙ swapped (behind_function c.all f) (values c d arguments) (λ callee vs. steps.enters c (record { rest = rest; block = block; result_id = r } ∷ callers) callee vs [] d))
  one_follows b2 le calls callers labels says.Merge others leads known rest block d xs go more = absurd (cc leads)
  one_follows b2 le calls callers labels (says.Branch label) others leads known rest block d xs go more = absurd (cc leads)
  one_follows b2 le calls callers labels (says.BranchConditional condition label other) others leads known rest block d xs go more = absurd (cc leads)
  one_follows b2 le calls callers labels (says.Switch selector default cases) others leads known rest block d xs go more = absurd (cc leads)
  one_follows b2 le calls callers labels says.Return others leads known rest block d xs go more = absurd (cc leads)
  one_follows b2 le calls callers labels (says.ReturnValue id) others leads known rest block d xs go more = absurd (cc leads)
  one_follows b2 le calls callers labels other others leads known rest block d xs go more =
      operation_then c callers labels b (At callers (other ∷ rest) block d) rest block xs (outcome c d other) go (look_at c callers (other ∷ rest) block d) more

  all_follow : (b2 : ℕ) → b ≤ 1 + b2 → CallsFollow c functions b2 call
      → (callers : List Caller) (labels : List ℕ) (statements : List Statement) → AllByRecursion (λ s. leads_on s ≡ true) statements → CallsKnown functions statements
      → (after : List Statement) (block : ℕ) (d : Data) (xs : List Answer) (go : Onward)
      → ((e : Data) (ys : List Answer) → FollowsPart c callers labels b (At callers after block e) ys (go e ys))
      → FollowsPart c callers labels b (At callers (statements ++ after) block d) xs (all_do c call statements d xs go)
  all_follow b2 le calls callers labels [] leads known after block d xs go more = more d xs
  all_follow b2 le calls callers labels (s ∷ ss) leads known after block d xs go more =
      one_follows b2 le calls callers labels s ss leads.0 known (ss ++ after) block d xs (λ e ys. all_do c call ss e ys go)
      (λ e ys. all_follow b2 le calls callers labels ss leads.1 (known_behind functions s ss known) after block e ys go more)

  -- ---- arms

  -- one arm of two, by a condition
  split_follows : (callers : List Caller) (labels : List ℕ) (block : ℕ) (d : Data) (s : State) (xs : List Answer) (yes_label no_label : ℕ) (first second : Onward)
      → (look c s ≡ steps.branches c callers block d yes_label → FollowsPart c callers labels b s xs (first d xs))
      → (look c s ≡ steps.branches c callers block d no_label → FollowsPart c callers labels b s xs (second d xs))
      → (holds : Bool) → look c s ≡ steps.branches c callers block d (cond holds yes_label no_label) → FollowsPart c callers labels b s xs (either holds first second d xs)
  split_follows callers labels block d s xs yes_label no_label first second h k true e = h e
  split_follows callers labels block d s xs yes_label no_label first second h k false e = k e

  condition_follows : (callers : List Caller) (labels : List ℕ) (block : ℕ) (d : Data) (s : State) (xs : List Answer) (condition yes_label no_label : ℕ) (first second : Onward)
      → (look c s ≡ steps.branches c callers block d yes_label → FollowsPart c callers labels b s xs (first d xs))
      → (look c s ≡ steps.branches c callers block d no_label → FollowsPart c callers labels b s xs (second d xs))
      → look c s ≡ given_some (words_of_value (value c d condition)) (λ ws. steps.branches c callers block d (cond (number_in ws == 1) yes_label no_label))
      → FollowsPart c callers labels b s xs (by_condition c condition first second d xs)
  condition_follows callers labels block d s xs condition yes_label no_label first second h k e =
      chosen_follows callers labels block d s xs (words_of_value (value c d condition)) (λ ws. cond (number_in ws == 1) yes_label no_label) (λ ws. either (number_in ws == 1) first second d xs) e
      (λ ws f. split_follows callers labels block d s xs yes_label no_label first second h k (number_in ws == 1) f)

  -- the arm with a label, or another
  arm_or : (callers : List Caller) (labels : List ℕ) (block label arm : ℕ) (d : Data) (s : State) (xs : List Answer) (first second : Onward)
      → look c s ≡ steps.branches c callers block d label
      → (look c s ≡ steps.branches c callers block d arm → FollowsPart c callers labels b s xs (first d xs))
      → (is : Bool) → (arm == label) ≡ is → (is ≡ false → FollowsPart c callers labels b s xs (second d xs)) → FollowsPart c callers labels b s xs (either is first second d xs)
  arm_or callers labels block label arm d s xs first second e h true f k = h (e ∙ ap (steps.branches c callers block d) (sym (eqb-true arm label f)))
  arm_or callers labels block label arm d s xs first second e h false f k = k refl

  other_arm : (is rest : Bool) → cond is true rest ≡ true → is ≡ false → rest ≡ true
  other_arm true rest h e = absurd (cc e)
  other_arm false rest h e = h

  this_or : (is : Bool) (label other : ℕ) (arms : Arms) → has_arm arms label ≡ true → has_arm arms other ≡ true → has_arm arms (cond is label other) ≡ true
  this_or true label other arms h k = h
  this_or false label other arms h k = k

  -- each label that is chosen has an arm
  arm_chosen : (word default : ℕ) (arms : Arms) (cases : List (ℕ × ℕ)) → has_arm arms default ≡ true → Covers arms cases → has_arm arms (chosen word default cases) ≡ true
  arm_chosen word default arms [] first h = first
  arm_chosen word default arms (choice ∷ cases) first h = this_or (choice.0 == word) choice.1 (chosen word default cases) arms h.0 (arm_chosen word default arms cases first h.1)

  first_same : (label : ℕ) → (label == label) ≡ true
  first_same label = eq-eqb label label refl

  first_has : (is rest : Bool) → is ≡ true → cond is true rest ≡ true
  first_has true rest e = refl
  first_has false rest e = absurd (cc e)

  -- so does the default
  default_arm : (arms : Arms) → has_arm arms (first_target arms) ≡ true
  default_arm (Last arm) = first_same (target arm)
  default_arm (Also arm arms) = first_has (target arm == target arm) (has_arm arms (target arm)) (first_same (target arm))

  -- ---- bodies

  -- the machine follows the turns of a loop from behind its header's OpPhi and from a branch to it, and what is behind it from the merge block on
  record LoopFollows (callers : List Caller) (labels : List ℕ) (header : Front) (here : List Statement) (inner : Body) (next : Front) (continuing : Body) (merge : Front) (rest : Body) : Type 0 where
    round :
        (e : Data) (ys : List Answer) → FollowsPart c callers (merge.label ∷ labels) b (At callers here header.label e) ys
        (turning turns header next.label (meaning c call turns inner) (enters next (meaning c call turns continuing)) e ys)
    entered : FollowsAt c callers (merge.label ∷ labels) b header.label (enters header (turning turns header next.label (meaning c call turns inner) (enters next (meaning c call turns continuing))))
    behind : FollowsAt c callers labels b merge.label (enters merge (meaning c call turns rest))

  module _ (b2 : ℕ) (deep : b ≤ 1 + b2) (long : b ≤ turns) (calls : CallsFollow c functions b2 call) where
    mutual
      pub stands_follows : {block : ℕ} {rest : List Statement} {body : Body} → StandsBody c.all block rest body
          → (labels : List ℕ) → IsClosed functions labels body → (callers : List Caller) (d : Data) (xs : List Answer)
          → FollowsPart c callers labels b (At callers rest block d) xs (meaning c call turns body d xs)
      stands_follows (standing.branches {block = k} {label = l} {after = after} h) labels closed callers d xs =
          branch_follows h labels closed callers d (At callers (says.Branch l ∷ after) k d) xs (look_at c callers (says.Branch l ∷ after) k d)
      stands_follows (standing.joined {block = k} {label = l} {after = after} {there = there} {sources = sources} {body = body} copied h) labels closed callers d xs =
          enter_follows callers labels k l there sources body d (At callers (says.Branch l ∷ after) k d) xs copied (look_at c callers (says.Branch l ∷ after) k d)
          (λ e. stands_follows h labels (closed_copies functions labels there sources body closed) callers e xs)
      stands_follows (standing.finishes {block = k} {statement = statement} {after = after} same is) labels closed callers d xs =
          subst (λ ss. FollowsPart c callers labels b (At callers (statement ∷ after) k d) xs (finishes c ss d xs)) (sym same)
          (finish_follows callers labels statement is after k d xs)
      stands_follows (standing.steps {block = k} {after = after} {words = words} {body = body} leads h) labels closed callers d xs =
          all_follow b2 deep calls callers labels (said words []) leads closed.0 after k d xs (meaning c call turns body)
          (λ e ys. stands_follows h labels closed.1 callers e ys)
      stands_follows (standing.merges {block = k} {rest = rest} {body = body} h) labels closed callers d xs =
          goes_then c callers labels b b (At callers (says.Merge ∷ rest) k d) (At callers rest k d) xs (meaning c call turns body d xs) (look_at c callers (says.Merge ∷ rest) k d) (omega arith)
          (stands_follows h labels closed callers d xs)
      stands_follows (standing.splits {block = k} {condition = condition} {other = other} {on = true} {after = after} {exit = exit} {body = body} out h) labels closed callers d xs =
          let s : State = At callers (says.BranchConditional condition exit.target other ∷ after) k d in
          condition_follows callers labels k d s xs condition exit.target other (leaves c exit) (meaning c call turns body)
          (λ e. leave_follows callers labels k exit d s xs out closed.0 e)
          (λ e. branch_follows h labels closed.1 callers d s xs e)
          (look_at c callers (says.BranchConditional condition exit.target other ∷ after) k d)
      stands_follows (standing.splits {block = k} {condition = condition} {other = other} {on = false} {after = after} {exit = exit} {body = body} out h) labels closed callers d xs =
          let s : State = At callers (says.BranchConditional condition other exit.target ∷ after) k d in
          condition_follows callers labels k d s xs condition other exit.target (meaning c call turns body) (leaves c exit)
          (λ e. branch_follows h labels closed.1 callers d s xs e)
          (λ e. leave_follows callers labels k exit d s xs out closed.0 e)
          (look_at c callers (says.BranchConditional condition other exit.target ∷ after) k d)
      stands_follows (standing.selects {block = k} {condition = condition} {yes_label = l} {no_label = m} {after = after} {there = there} {first = first} {second = second} {rest = rest} {merge = merge} one two front h) labels closed callers d xs =
          let s : State = At callers (says.BranchConditional condition l m ∷ after) k d in
          let part : Result = by_condition c condition (meaning c call turns first) (meaning c call turns second) d xs in
          let go : Entry = enters merge (meaning c call turns rest) in
          goes_then c callers labels b b (At callers (says.Merge ∷ says.BranchConditional condition l m ∷ after) k d) s xs (then_at merge.label go part)
          (look_at c callers (says.Merge ∷ says.BranchConditional condition l m ∷ after) k d) (omega arith)
          (at_then c callers labels b b b merge.label go s xs part.accesses part.fate (omega arith) (omega arith)
          (condition_follows callers (merge.label ∷ labels) k d s xs condition l m (meaning c call turns first) (meaning c call turns second)
          (λ e. branch_follows one (merge.label ∷ labels) closed.0 callers d s xs e)
          (λ e. branch_follows two (merge.label ∷ labels) closed.1 callers d s xs e)
          (look_at c callers (says.BranchConditional condition l m ∷ after) k d))
          (front_follows c callers b labels merge there (meaning c call turns rest) front (λ e ys. stands_follows h labels closed.2 callers e ys)))
      stands_follows (standing.switches {block = k} {selector = selector} {cases = cases} {after = after} {there = there} {arms = arms} {rest = rest} {merge = merge} each covers front h) labels closed callers d xs =
          let s : State = At callers (says.Switch selector (first_target arms) cases ∷ after) k d in
          let part : Result = given (words_of_value (value c d selector)) (λ ws. meaning_at c call turns arms (chosen (number_in ws) (first_target arms) cases) d xs) in
          let go : Entry = enters merge (meaning c call turns rest) in
          goes_then c callers labels b b (At callers (says.Merge ∷ says.Switch selector (first_target arms) cases ∷ after) k d) s xs (then_at merge.label go part)
          (look_at c callers (says.Merge ∷ says.Switch selector (first_target arms) cases ∷ after) k d) (omega arith)
          (at_then c callers labels b b b merge.label go s xs part.accesses part.fate (omega arith) (omega arith)
          (chosen_follows callers (merge.label ∷ labels) k d s xs (words_of_value (value c d selector)) (λ ws. chosen (number_in ws) (first_target arms) cases)
          (λ ws. meaning_at c call turns arms (chosen (number_in ws) (first_target arms) cases) d xs)
          (look_at c callers (says.Switch selector (first_target arms) cases ∷ after) k d)
          (λ ws e. arms_follow each (merge.label ∷ labels) closed.0 (chosen (number_in ws) (first_target arms) cases)
          (arm_chosen (number_in ws) (first_target arms) arms cases (default_arm arms) covers) callers d s xs e))
          (front_follows c callers b labels merge there (meaning c call turns rest) front (λ e ys. stands_follows h labels closed.1 callers e ys)))
      stands_follows (standing.placed {here = here} {header = header} {next = next} {merge = merge} {inner = inner} {continuing = continuing} {rest = rest} loop) labels closed callers d xs =
          let turns_on : Onward = turning turns header next.label (meaning c call turns inner) (enters next (meaning c call turns continuing)) in
          let go : Entry = enters merge (meaning c call turns rest) in
          let h = loop_follows loop labels closed.0 closed.1 closed.2 callers in
          at_then c callers labels b b b merge.label go (At callers here header.label d) xs (turns_on d xs).accesses (turns_on d xs).fate (omega arith) (omega arith) (h.round d xs) h.behind

      -- a branch to a body that begins at one
      branch_follows : {block label : ℕ} {body : Body} → StandsAt c.all block label body → (labels : List ℕ) → IsClosed functions labels body → (callers : List Caller) (d : Data) (s : State) (xs : List Answer)
          → look c s ≡ steps.branches c callers block d label → FollowsPart c callers labels b s xs (meaning c call turns body d xs)
      branch_follows (standing.leaves {block = k} {exit = exit} h) labels closed callers d s xs e = leave_follows callers labels k exit d s xs h closed e
      branch_follows (standing.enters {block = k} {label = l} {there = there} {sources = sources} {body = body} copied h) labels closed callers d s xs e =
          enter_follows callers labels k l there sources body d s xs copied e
          (λ z. stands_follows h labels (closed_copies functions labels there sources body closed) callers z xs)
      branch_follows (standing.loops {block = k} {ids = ids} {here = here} {header = header} {next = next} {merge = merge} {inner = inner} {continuing = continuing} {rest = rest} out loop) labels closed callers d s xs e =
          let turns_on : Onward = turning turns header next.label (meaning c call turns inner) (enters next (meaning c call turns continuing)) in
          let part : Result = given (values c d ids) (λ vs. enters header turns_on vs d xs) in
          let go : Entry = enters merge (meaning c call turns rest) in
          let h = loop_follows loop labels closed.0 closed.1 closed.2 callers in
          at_then c callers labels b b b merge.label go s xs part.accesses part.fate (omega arith) (omega arith)
          (given_follows callers (merge.label ∷ labels) s xs (values c d ids) (λ vs. landing callers header.label out.there vs d) (λ vs. enters header turns_on vs d xs)
          (e ∙ branches_to c callers k d header.label out.there ids out.place out.values)
          (λ vs. h.entered out.there out.place vs d xs))
          h.behind

      -- the turns of a loop, the branch to it, and what is behind it
      loop_follows : {header : Front} {here : List Statement} {inner : Body} {next : Front} {continuing : Body} {merge : Front} {rest : Body} → StandsLoop c.all header here inner next continuing merge rest
          → (labels : List ℕ) → IsClosed functions (next.label ∷ header.label ∷ merge.label ∷ labels) inner → IsClosed functions (header.label ∷ merge.label ∷ labels) continuing → IsClosed functions labels rest
          → (callers : List Caller) → LoopFollows callers labels header here inner next continuing merge rest
      loop_follows (standing.parts {behind_header = at_header} {behind_next = at_next} {there = there} {header = header} {next = next} {merge = merge} {inner = inner} {continuing = continuing} {rest = rest} front1 h1 front2 h2 front3 h3) labels closed1 closed2 closed3 callers =
          let first : Onward = meaning c call turns inner in
          let second : Entry = enters next (meaning c call turns continuing) in
          let turns_follow : (e : Data) (ys : List Answer) → FollowsPart c callers (merge.label ∷ labels) b (At callers (behind_phis at_header) header.label e) ys (turning turns header next.label first second e ys) =
          turning_follows c callers (merge.label ∷ labels) b header at_header next.label first second front1
          (λ e ys. stands_follows h1 (next.label ∷ header.label ∷ merge.label ∷ labels) closed1 callers e ys)
          (front_follows c callers b (header.label ∷ merge.label ∷ labels) next at_next (meaning c call turns continuing) front2 (λ e ys. stands_follows h2 (header.label ∷ merge.label ∷ labels) closed2 callers e ys))
          turns b (omega arith) long in
          record {
            round = turns_follow;
            entered = front_follows c callers b (merge.label ∷ labels) header at_header (turning turns header next.label first second) front1 turns_follow;
            behind = front_follows c callers b labels merge there (meaning c call turns rest) front3 (λ e ys. stands_follows h3 labels closed3 callers e ys);
          }

      arms_follow : {block : ℕ} {arms : Arms} → StandsArms c.all block arms → (labels : List ℕ) → AreClosed functions labels arms → (label : ℕ) → has_arm arms label ≡ true
          → (callers : List Caller) (d : Data) (s : State) (xs : List Answer) → look c s ≡ steps.branches c callers block d label
          → FollowsPart c callers labels b s xs (meaning_at c call turns arms label d xs)
      arms_follow (standing.last {block = k} {arm = arm} h) labels closed label has callers d s xs e =
          arm_or callers labels k label (target arm) d s xs (meaning c call turns arm) (λ z ys. only Sticks) e
          (λ f. branch_follows h labels closed callers d s xs f) (target arm == label) refl
          (λ no_arm. absurd (cc (has, no_arm)))
      arms_follow (standing.also {block = k} {arm = arm} {arms = arms} h hs) labels closed label has callers d s xs e =
          arm_or callers labels k label (target arm) d s xs (meaning c call turns arm) (meaning_at c call turns arms label) e
          (λ f. branch_follows h labels closed.0 callers d s xs f) (target arm == label) refl
          (λ no_arm. arms_follow hs labels closed.1 label (other_arm (target arm == label) (has_arm arms label) has no_arm) callers d s xs e)
