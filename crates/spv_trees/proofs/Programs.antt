-- An invocation as a whole: its traces that are over are those of its tree.
use Rattle.std.proofs.Common.{◌≡◌, ℕ, ◌+◌, ◌≤◌, min, List, [], Option, Some, refl, sym, ap, ◌∙◌, subst, append-nil}
use Rattle.std.specs.Option.{IsSome}
use Rattle.interleaving.specs.Machine.{Answer, HasReturned, IsStuck, Goes, Stands}
use Rattle.interleaving.specs.Trace.{Returned, Runs, Stuck, Trace, ended}
use Rattle.interleaving.proofs.Traces.{trace_returned}
use Rattle.spv_machine.specs.Access.{Access}
use Rattle.spv_machine.specs.Setting.{Setting}
use Rattle.spv_machine.specs.State.{Data, State, At, Over}
use Rattle.spv_machine.specs.Steps.{Next, look, entered, entry_next, first_data, first_state}
use Rattle.spv_bodies.specs.Bodies.{Function}
use Rattle.spv_trees.specs.Meaning.{Fate, LeavesFor, Returns, Awaits, RunsOut, Sticks, Result}
use Rattle.spv_trees.specs.Standing.{AllStand}
use Rattle.spv_trees.specs.Laws.{prepended, trace_from, Agrees, AgreesFrom, IsTrace, entry, end_of, trace_of_tree, program_tree, IsProgram, ProgramLaw}
use Rattle.spv_trees.proofs.Walks.{trace_stuck}
use Rattle.spv_trees.proofs.Parts.{look_at}
use Rattle.spv_trees.proofs.Agreement.{agreement_law, converse_law, over_stays}

-- where nobody called, a return is the end
over_returned : (c : Setting) (n : ℕ) (xs : List Answer) → trace_from c Over n xs ≡ ended Returned
unfolding look
over_returned c n xs = trace_returned (look c) Over n xs refl

returned_here : (c : Setting) (t : List Access) (k : ℕ) (ys : List Answer) → prepended t (trace_from c Over k ys) ≡ record { accesses = t; end = Returned }
returned_here c t k ys =
    ap (prepended t) (over_returned c k ys) ∙ ap (λ l. record { accesses = l; end = Returned }) (append-nil t)

-- ---- behind the first label

whole_trace : (c : Setting) (n : ℕ) (t : Trace Access) (accesses : List Access) (fate : Fate) → IsTrace c [] n t accesses fate → t ≡ record { accesses = accesses; end = end_of fate }
whole_trace c n t accesses (LeavesFor label vs d ys) h = absurd h
whole_trace c n t accesses (Returns v d ys) h = h ∙ returned_here c accesses n ys
whole_trace c n t accesses Awaits h = h
whole_trace c n t accesses RunsOut h = absurd h
whole_trace c n t accesses Sticks h = h

-- from some number of steps on
abbrev Settles : Setting → State → List Answer → Trace Access → Type 0
Settles c s xs t = (j : ℕ) × ((k : ℕ) → j ≤ k → trace_from c s k xs ≡ t)

settles : (c : Setting) (b : ℕ) (s : State) (xs : List Answer) (accesses : List Access) (fate : Fate) → Agrees c [] b s xs accesses fate → (end_of fate ≡ Runs → ⊥)
    → Settles c s xs (record { accesses = accesses; end = end_of fate })
settles c b s xs accesses (LeavesFor label vs d ys) h over = absurd h
settles c b s xs accesses (Returns v d ys) h over =
    let r = h 0 in
    let here : trace_from c s r.0 xs ≡ record { accesses = accesses; end = Returned } = r.2 ∙ returned_here c accesses 0 ys in
    (r.0, λ k le. sym (over_stays c s r.0 k xs le (λ runs. absurd (cc (here, runs)))) ∙ here)
settles c b s xs accesses Awaits h over = h
settles c b s xs accesses RunsOut h over = absurd (over refl)
settles c b s xs accesses Sticks h over = h

-- ---- where the entry point's function cannot be called

nothing_left : (c : Setting) (d : Data) (n : ℕ) (xs : List Answer) → trace_from c (At [] [] 0 d) n xs ≡ ended Stuck
nothing_left c d n xs = trace_stuck (look c) (At [] [] 0 d) n xs (look_at c [] [] 0 d)

module _ (c : Setting) (functions : ℕ → Option Function) (all_stand : AllStand c.all functions) (f : ℕ) (is : c.function ≡ Some f) (known : IsSome (functions f)) (i : ℕ) where
  abbrev data_at : Data
  data_at = first_data c i

  first_is : (m : Next) → entry c [] f [] data_at ≡ m → first_state c i ≡ entered data_at m
  unfolding first_state
  first_is m e = ap (λ o. entered data_at (entry_next c data_at o)) is ∙ ap (entered data_at) e

  tree_agrees : (m : Next) → entry c [] f [] data_at ≡ m → (calls turns : ℕ) (xs : List Answer) → AgreesFrom c [] (min calls turns) m xs (program_tree c functions i f calls turns xs)
  tree_agrees m e calls turns xs =
      subst (λ z. AgreesFrom c [] (min calls turns) z xs (program_tree c functions i f calls turns xs)) e (agreement_law c functions all_stand f known [] [] data_at xs calls turns)

  program_at : (m : Next) → entry c [] f [] data_at ≡ m → IsProgram c functions i f
  program_at (Goes s) e = record {
    trace = λ n xs over. (
        let same : trace_from c (first_state c i) n xs ≡ trace_from c s n xs = ap (λ z. trace_from c z n xs) (first_is (Goes s) e) in
        let r : Result = program_tree c functions i f (n + 1) (n + 1) xs in
        same ∙ whole_trace c n (trace_from c s n xs) r.accesses r.fate (converse_law c functions all_stand f known [] [] data_at xs s e n (λ runs. over (ap (λ t. t.end) same ∙ runs))));
    tree = λ calls turns xs over. (
        let r : Result = program_tree c functions i f calls turns xs in
        let h = settles c (min calls turns) s xs r.accesses r.fate (tree_agrees (Goes s) e calls turns xs) over in
        (h.0, λ k le. ap (λ z. trace_from c z k xs) (first_is (Goes s) e) ∙ h.1 k le));
  }
  program_at IsStuck e = record {
    trace = λ n xs over. stuck_trace e n (n + 1) (n + 1) xs;
    tree = λ calls turns xs over. (0, λ k le. stuck_trace e k calls turns xs);
  } where
    stuck_trace : entry c [] f [] data_at ≡ IsStuck → (n calls turns : ℕ) (xs : List Answer) → trace_from c (first_state c i) n xs ≡ trace_of_tree (program_tree c functions i f calls turns xs)
    stuck_trace e n calls turns xs =
        ap (λ z. trace_from c z n xs) (first_is IsStuck e)
        ∙ nothing_left c data_at n xs
        ∙ sym (ap trace_of_tree (tree_agrees IsStuck e calls turns xs))
  program_at HasReturned e = absurd (tree_agrees HasReturned e 0 0 [])
  program_at (Stands a k) e = absurd (tree_agrees (Stands a k) e 0 0 [])

-- by what a call of the entry point's function does
pub program_law : ProgramLaw
program_law c functions all_stand f is known i = program_at c functions all_stand f is known i (entry c [] f [] (first_data c i)) refl
