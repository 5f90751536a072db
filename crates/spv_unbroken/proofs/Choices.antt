-- What a body does it does without the arms that no case names: a selector chooses the default or what a case names.
-- By induction on the body, and on the depth of calls.
use Rattle.std.proofs.Common.{◌≡◌, ℕ, zero, suc, ◌⊎◌, inl, inr, Bool, true, false, ◌==◌, cond, List, [], ◌∷◌, Option, Some, None, option_map, refl, sym, ap, ◌∙◌}
use Rattle.std.proofs.Math.Path.{fun_ext}
use Rattle.std.proofs.lemmas.Bool.{eqb-true, eq-eqb}
use Rattle.interleaving.specs.Machine.{Answer}
use Rattle.spv_blocks.specs.Blocks.{has, seconds}
use Rattle.spv_meaning.specs.Statements.{said, statements_in}
use Rattle.spv_meaning.specs.Types.{number_in}
use Rattle.spv_machine.specs.Setting.{Setting}
use Rattle.spv_machine.specs.State.{Value, Data, value, words_of_value}
use Rattle.spv_machine.specs.Steps.{chosen}
use Rattle.spv_walk.proofs.Unique.{left_holds, right_holds, truth_apart}
use Rattle.spv_bodies.specs.Bodies.{Body, Leaves, Finishes, Step, Enters, Splits, Selects, Switches, Loops, Arms, Last, Also, Function, target}
use Rattle.spv_bodies.specs.Listing.{first_target}
use Rattle.spv_trees.specs.Meaning as tree
use Rattle.spv_trees.specs.Meaning.{Onward, RunsOut, Sticks, Result, only, given, either, all_do, finishes, leaves, by_condition, enters, then_at, turning, begins, meaning, meaning_at, bound, called}
use Rattle.spv_unbroken.specs.Pruned.{is_named, with_named, named_arms, pruned, pruned_arms, pruned_function, pruned_all}
use Rattle.spv_unbroken.specs.Laws.{PrunedDoesTheSame}

-- ---- targets

pub target_pruned : (b : Body) → target (pruned b) ≡ target b
target_pruned (Leaves exit) = refl
target_pruned (Finishes words) = refl
target_pruned (Step words body) = refl
target_pruned (Enters label body) = refl
target_pruned (Splits condition on exit body) = refl
target_pruned (Selects control condition first second merge rest) = refl
target_pruned (Switches control selector cases arms merge rest) = refl
target_pruned (Loops entry header control inner next continuing merge rest) = refl

pub first_of_pruned : (arms : Arms) → first_target (pruned_arms arms) ≡ first_target arms
first_of_pruned (Last arm) = target_pruned arm
first_of_pruned (Also arm arms) = target_pruned arm

pub first_of_kept : (cases : List (ℕ × ℕ)) (first : Body) (others : Arms) → first_target (with_named cases first others) ≡ target first
first_of_kept cases first (Last arm) = by (is_named cases arm)
  where
    by : (b : Bool) → first_target (cond b (Also first (Last arm)) (Last first)) ≡ target first
    by true = refl
    by false = refl
first_of_kept cases first (Also arm arms) = by (is_named cases arm) (first_of_kept cases first arms)
  where
    by : (b : Bool) → first_target (with_named cases first arms) ≡ target first
        → first_target (cond b (Also first (with_named cases arm arms)) (with_named cases first arms)) ≡ target first
    by true e = refl
    by false e = e

pub first_of_named : (cases : List (ℕ × ℕ)) (arms : Arms) → first_target (named_arms cases arms) ≡ first_target arms
first_of_named cases (Last arm) = refl
first_of_named cases (Also arm arms) = first_of_kept cases arm arms

-- ---- what is chosen

-- the default, or a label that a case names
chosen_is : (word default : ℕ) (cases : List (ℕ × ℕ)) → (chosen word default cases ≡ default) ⊎ (has (seconds cases) (chosen word default cases) ≡ true)
chosen_is word default [] = inl refl
chosen_is word default (c ∷ cs) = by (c.0 == word) (chosen_is word default cs)
  where
    by : (b : Bool) → (chosen word default cs ≡ default) ⊎ (has (seconds cs) (chosen word default cs) ≡ true)
        → (cond b c.1 (chosen word default cs) ≡ default) ⊎ (has (c.1 ∷ seconds cs) (cond b c.1 (chosen word default cs)) ≡ true)
    by true h = inr (left_holds (c.1 == c.1) (has (seconds cs) c.1) (eq-eqb c.1 c.1 refl))
    by false (inl e) = inl e
    by false (inr h) = inr (right_holds (c.1 == chosen word default cs) (has (seconds cs) (chosen word default cs)) h)

-- an arm that no case names has another label than one that a case names
apart : (cases : List (ℕ × ℕ)) (arm : Body) (label : ℕ) → is_named cases arm ≡ false → has (seconds cases) label ≡ true → (target arm == label) ≡ false
apart cases arm label e h = by (target arm == label) refl
  where
    by : (b : Bool) → (target arm == label) ≡ b → b ≡ false
    by true k = absurd (truth_apart (has (seconds cases) label) h (ap (has (seconds cases)) (sym (eqb-true (target arm) label k)) ∙ e))
    by false k = refl

module _ (c : Setting) (call : ℕ → tree.Entry) (turns : ℕ) where
  abbrev sticks : Onward
  sticks d xs = only Sticks

  -- at a label that is the first arm's, or that a case names
  kept_at : (cases : List (ℕ × ℕ)) (label : ℕ) (first : Body) (others : Arms) → ((target first == label) ≡ false → has (seconds cases) label ≡ true)
      → (d : Data) (xs : List Answer)
      → meaning_at c call turns (with_named cases first others) label d xs ≡ meaning_at c call turns (Also first others) label d xs
  kept_at cases label first (Last arm) h d xs = by (is_named cases arm) refl
    where
      at : (t : Bool) → (target first == label) ≡ t → is_named cases arm ≡ false
          → either t (meaning c call turns first) sticks d xs ≡ either t (meaning c call turns first) (meaning_at c call turns (Last arm) label) d xs
      at true k e = refl
      at false k e = sym (ap (λ b. either b (meaning c call turns arm) sticks d xs) (apart cases arm label e (h k)))

      by : (n : Bool) → is_named cases arm ≡ n
          → meaning_at c call turns (cond n (Also first (Last arm)) (Last first)) label d xs ≡ meaning_at c call turns (Also first (Last arm)) label d xs
      by true e = refl
      by false e = at (target first == label) refl e
  kept_at cases label first (Also arm arms) h d xs =
      by (is_named cases arm) refl (λ g. kept_at cases label arm arms g d xs) (kept_at cases label first arms h d xs)
    where
      -- the arm is kept
      named : (t : Bool) → (target first == label) ≡ t → (((target arm == label) ≡ false → has (seconds cases) label ≡ true)
          → meaning_at c call turns (with_named cases arm arms) label d xs ≡ meaning_at c call turns (Also arm arms) label d xs)
          → either t (meaning c call turns first) (meaning_at c call turns (with_named cases arm arms) label) d xs
          ≡ either t (meaning c call turns first) (meaning_at c call turns (Also arm arms) label) d xs
      named true k more = refl
      named false k more = more (λ g. h k)

      -- or left out
      left_out : (t : Bool) → (target first == label) ≡ t → is_named cases arm ≡ false
          → either t (meaning c call turns first) (meaning_at c call turns arms label) d xs
          ≡ either t (meaning c call turns first) (meaning_at c call turns (Also arm arms) label) d xs
      left_out true k e = refl
      left_out false k e = sym (ap (λ b. either b (meaning c call turns arm) (meaning_at c call turns arms label) d xs) (apart cases arm label e (h k)))

      by : (n : Bool) → is_named cases arm ≡ n → (((target arm == label) ≡ false → has (seconds cases) label ≡ true)
          → meaning_at c call turns (with_named cases arm arms) label d xs ≡ meaning_at c call turns (Also arm arms) label d xs)
          → meaning_at c call turns (with_named cases first arms) label d xs ≡ meaning_at c call turns (Also first arms) label d xs
          → meaning_at c call turns (cond n (Also first (with_named cases arm arms)) (with_named cases first arms)) label d xs
          ≡ meaning_at c call turns (Also first (Also arm arms)) label d xs
      by true e more same = named (target first == label) refl more
      by false e more same = same ∙ left_out (target first == label) refl e

  -- the arm that is chosen is kept
  named_at : (word : ℕ) (cases : List (ℕ × ℕ)) (arms : Arms) (d : Data) (xs : List Answer) → let label = chosen word (first_target arms) cases in
      meaning_at c call turns (named_arms cases arms) label d xs ≡ meaning_at c call turns arms label d xs
  named_at word cases (Last arm) d xs = refl
  named_at word cases (Also arm arms) d xs = kept_at cases (chosen word (target arm) cases) arm arms (given_by (chosen_is word (target arm) cases)) d xs
    where
      given_by : (chosen word (target arm) cases ≡ target arm) ⊎ (has (seconds cases) (chosen word (target arm) cases) ≡ true)
          → (target arm == chosen word (target arm) cases) ≡ false → has (seconds cases) (chosen word (target arm) cases) ≡ true
      given_by (inl e) k = absurd (truth_apart (target arm == chosen word (target arm) cases) (eq-eqb (target arm) (chosen word (target arm) cases)
          (sym e)) k)
      given_by (inr h) k = h

  switch_same : (word : ℕ) (cases : List (ℕ × ℕ)) (arms : Arms) (d : Data) (xs : List Answer)
      → meaning_at c call turns arms (chosen word (first_target arms) cases) d xs
      ≡ meaning_at c call turns (pruned_arms arms) (chosen word (first_target arms) cases) d xs
      → meaning_at c call turns arms (chosen word (first_target arms) cases) d xs
      ≡ meaning_at c call turns (named_arms cases (pruned_arms arms)) (chosen word (first_target (named_arms cases (pruned_arms arms))) cases) d xs
  switch_same word cases arms d xs same =
      same ∙ ap (λ t. meaning_at c call turns (pruned_arms arms) (chosen word t cases) d xs) (sym (first_of_pruned arms))
      ∙ sym (named_at word cases (pruned_arms arms) d xs)
      ∙ ap (λ t. meaning_at c call turns (named_arms cases (pruned_arms arms)) (chosen word t cases) d xs) (sym (first_of_named cases (pruned_arms arms)))

  -- ---- bodies

  abbrev Same : Body → Type 0
  Same b = (d : Data) (xs : List Answer) → meaning c call turns b d xs ≡ meaning c call turns (pruned b) d xs

  onward : (b : Body) → Same b → meaning c call turns b ≡ meaning c call turns (pruned b)
  onward b same = fun_ext (λ d. fun_ext (λ xs. same d xs))

  mutual
    body_same : (b : Body) (d : Data) (xs : List Answer) → meaning c call turns b d xs ≡ meaning c call turns (pruned b) d xs
    body_same (Leaves exit) d xs = refl
    body_same (Finishes words) d xs = refl
    body_same (Step words b) d xs = ap (λ go. all_do c call (said words []) d xs go) (onward b (body_same b))
    body_same (Enters label b) d xs = body_same b d xs
    body_same (Splits condition on exit b) d xs =
        ap (λ (go : Onward). by_condition c condition (cond on (leaves c exit) go) (cond on go (leaves c exit)) d xs) (onward b (body_same b))
    body_same (Selects control condition first second merge rest) d xs =
        ap (λ (go : Onward). then_at merge.label (enters merge (meaning c call turns rest)) (by_condition c condition go (meaning c call turns second) d xs))
        (onward first (body_same first))
        ∙ ap (λ (go : Onward). then_at merge.label (enters merge (meaning c call turns rest))
        (by_condition c condition (meaning c call turns (pruned first)) go d xs))
        (onward second (body_same second))
        ∙ ap (λ (go : Onward). then_at merge.label (enters merge go)
        (by_condition c condition (meaning c call turns (pruned first)) (meaning c call turns (pruned second)) d xs)) (onward rest (body_same rest))
    body_same (Switches control selector cases arms merge rest) d xs =
        let arm_of = λ (kept : Arms) (word : ℕ). meaning_at c call turns kept (chosen word (first_target kept) cases) d xs in
        let each : (ws : List ℕ) → arm_of arms (number_in ws) ≡ arm_of (named_arms cases (pruned_arms arms)) (number_in ws) =
        λ ws. switch_same (number_in ws) cases arms d xs (arms_same arms (chosen (number_in ws) (first_target arms) cases) d xs) in
        ap (λ (go : List ℕ → Result). then_at merge.label (enters merge (meaning c call turns rest)) (given (words_of_value (value c d selector)) go))
        (fun_ext each)
        ∙ ap (λ (go : Onward). then_at merge.label (enters merge go)
        (given (words_of_value (value c d selector)) (λ ws. arm_of (named_arms cases (pruned_arms arms)) (number_in ws)))) (onward rest (body_same rest))
    body_same (Loops entry header control inner next continuing merge rest) d xs =
        ap (λ (go : Onward). then_at merge.label (enters merge (meaning c call turns rest))
        (begins c entry header (turning turns header next.label go (enters next (meaning c call turns continuing))) d xs)) (onward inner (body_same inner))
        ∙ ap (λ (go : Onward). then_at merge.label (enters merge (meaning c call turns rest))
        (begins c entry header (turning turns header next.label (meaning c call turns (pruned inner)) (enters next go)) d xs))
        (onward continuing (body_same continuing))
        ∙ ap (λ (go : Onward). then_at merge.label (enters merge go)
        (begins c entry header (turning turns header next.label (meaning c call turns (pruned inner))
        (enters next (meaning c call turns (pruned continuing)))) d xs))
        (onward rest (body_same rest))

    -- each arm
    arms_same : (arms : Arms) (label : ℕ) (d : Data) (xs : List Answer)
        → meaning_at c call turns arms label d xs ≡ meaning_at c call turns (pruned_arms arms) label d xs
    arms_same (Last arm) label d xs =
        ap (λ (go : Onward). either (target arm == label) go sticks d xs) (onward arm (body_same arm))
        ∙ ap (λ t. either (t == label) (meaning c call turns (pruned arm)) sticks d xs) (sym (target_pruned arm))
    arms_same (Also arm arms) label d xs =
        ap (λ (go : Onward). either (target arm == label) go (meaning_at c call turns arms label) d xs) (onward arm (body_same arm))
        ∙ ap (λ (go : Onward). either (target arm == label) (meaning c call turns (pruned arm)) go d xs)
        (fun_ext (λ e. fun_ext (λ ys. arms_same arms label e ys)))
        ∙ ap (λ t. either (t == label) (meaning c call turns (pruned arm)) (meaning_at c call turns (pruned_arms arms) label) d xs) (sym (target_pruned arm))

-- ---- functions

-- what a function does, where its body does this, and without its arms that
called_same : (c : Setting) (functions : ℕ → Option Function) (go kept : Body → Onward) → ((b : Body) → go b ≡ kept (pruned b))
    → (r : ℕ) (vs : List Value) (d : Data) (xs : List Answer) → called c functions go r vs d xs ≡ called c (pruned_all functions) kept r vs d xs
called_same c functions go kept same r vs d xs = by (functions r)
  where
    by : (o : Option Function)
        → given o (λ function. given (bound c (statements_in function.parameters) vs [])
        (λ entries. go function.body (record d { frames = record { values = entries; variables = [] } ∷ d.frames }) xs))
        ≡ given (option_map pruned_function o)
        (λ function. given (bound c (statements_in function.parameters) vs [])
        (λ entries. kept function.body (record d { frames = record { values = entries; variables = [] } ∷ d.frames }) xs))
    by None = refl
    by (Some f) =
        ap (λ (go_on : Onward). given (bound c (statements_in f.parameters) vs [])
        (λ entries. go_on (record d { frames = record { values = entries; variables = [] } ∷ d.frames }) xs))
        (same f.body)

pub prunes_alike : PrunedDoesTheSame
prunes_alike c functions zero turns r vs d xs = called_same c functions (λ body e ys. only RunsOut) (λ body e ys. only RunsOut) (λ b. refl) r vs d xs
prunes_alike c functions (suc calls) turns r vs d xs =
    let deeper : tree.tree c functions calls turns ≡ tree.tree c (pruned_all functions) calls turns =
    fun_ext (λ q. fun_ext (λ ws. fun_ext (λ e. fun_ext (λ ys. prunes_alike c functions calls turns q ws e ys)))) in
    called_same c functions (meaning c (tree.tree c functions calls turns) turns) (meaning c (tree.tree c (pruned_all functions) calls turns) turns)
    (λ b. onward c (tree.tree c functions calls turns) turns b (body_same c (tree.tree c functions calls turns) turns b)
    ∙ ap (λ k. meaning c k turns (pruned b)) deeper) r vs d xs
