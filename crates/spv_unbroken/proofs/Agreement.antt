-- Functions that are unbroken trees as they are listed stand there without the arms that no case names; so the laws of trees speak of those, and of the
-- functions themselves, which do the same.
use Rattle.std.proofs.Common.{◌≡◌, ℕ, min, ◌+◌, ◌≤◌, Bool, List, [], ◌∷◌, ◌++◌, Option, Some, None, IsSome, option_map, refl, sym, ap, ◌∙◌, subst}
use Rattle.interleaving.specs.Trace.{Runs}
use Rattle.spv_meaning.specs.Statements as says
use Rattle.spv_meaning.specs.Statements.{Statement, statements_in}
use Rattle.spv_bodies.specs.Bodies.{Function}
use Rattle.spv_bodies.specs.Listing.{listed}
use Rattle.spv_trees.specs.Standing.{AllStand, StandsFunction, CallsKnown}
use Rattle.spv_trees.specs.Sound.{labels_in, Distinct}
use Rattle.spv_trees.specs.Laws.{AgreesFrom, IsTrace, IsProgram, entry, trace_from, trace_of_tree}
use Rattle.spv_machine.specs.Steps.{first_data}
use Rattle.spv_machine.specs.Machine.{trace_in}
use Rattle.spv_trees.proofs.Agreement.{agreement_law, converse_law}
use Rattle.spv_trees.proofs.Programs.{program_law}
use Rattle.spv_unbroken.specs.Pruned.{pruned_function, pruned_all}
use Rattle.spv_unbroken.specs.Laws.{AreListedIn, IsListedIn, UnbrokenAgrees, AgreesConversely, AgreesAsAWhole}
use Rattle.spv_unbroken.proofs.Choices.{prunes_alike}
use Rattle.spv_unbroken.proofs.Pruning.{pruned_is_unbroken}
use Rattle.spv_unbroken.proofs.Stands.{unbroken_stands}

some_kept : (o : Option Function) → IsSome o → IsSome (option_map pruned_function o)
some_kept None h = h
some_kept (Some f) h = h

known_kept : (functions : ℕ → Option Function) (ss : List Statement) → CallsKnown functions ss → CallsKnown (pruned_all functions) ss
known_kept functions [] h = tt
known_kept functions (says.FunctionCall t r f arguments ∷ ss) h = (some_kept (functions f) h.0, known_kept functions ss h.1)
known_kept functions (s ∷ ss) h = known_kept functions ss h

listed_stands : (is_pointer : ℕ → Bool) (functions : ℕ → Option Function) (all : List Statement) → Distinct (labels_in all) → (r : ℕ) (f : Function)
    → IsListedIn is_pointer functions all r f → StandsFunction all (pruned_all functions) r (pruned_function f)
listed_stands is_pointer functions all once r f l =
    let u = pruned_is_unbroken is_pointer r f l.insts l.unbroken in
    let alike : listed (pruned_function f) ≡ listed f = sym u.words ∙ l.unbroken.words in
    let place : all ≡ statements_in (l.before ++ (listed (pruned_function f) ++ l.behind)) =
    l.place ∙ ap (λ ls. statements_in (l.before ++ (ls ++ l.behind))) (sym alike) in
    let known = known_kept functions (statements_in (listed (pruned_function f))) (subst (λ ls. CallsKnown functions (statements_in ls))
    (sym alike) l.known) in
    subst (λ z. StandsFunction z (pruned_all functions) r (pruned_function f)) (sym place)
    (unbroken_stands (pruned_all functions) is_pointer r (pruned_function f) l.insts l.before l.behind u known l.fresh
    (subst (λ z. Distinct (labels_in z)) place once))

all_stand : (is_pointer : ℕ → Bool) (functions : ℕ → Option Function) (all : List Statement) → AreListedIn is_pointer functions all
    → AllStand all (pruned_all functions)
all_stand is_pointer functions all listed r kept e = by (functions r) refl e
  where
    by : (o : Option Function) → functions r ≡ o → option_map pruned_function o ≡ Some kept → StandsFunction all (pruned_all functions) r kept
    by None d g = absurd (cc g)
    by (Some f) d g =
        subst (λ z. StandsFunction all (pruned_all functions) r z) (let h : pruned_function f ≡ kept = cc g in h)
        (listed_stands is_pointer functions all listed.once r f (listed.each r f d))

pub unbroken_agrees : UnbrokenAgrees
unbroken_agrees c functions is_pointer listed f known callers vs d xs calls turns =
    subst (λ r. AgreesFrom c callers (min calls turns) (entry c callers f vs d) xs r) (sym (prunes_alike c functions calls turns f vs d xs))
    (agreement_law c (pruned_all functions) (all_stand is_pointer functions c.all listed) f (some_kept (functions f) known) callers vs d xs calls turns)

pub agrees_conversely : AgreesConversely
agrees_conversely c functions is_pointer listed f known callers vs d xs s goes n over =
    subst (λ r. IsTrace c callers n (trace_from c s n xs) r.accesses r.fate) (sym (prunes_alike c functions (n + 1) (n + 1) f vs d xs))
    (converse_law c (pruned_all functions) (all_stand is_pointer functions c.all listed) f (some_kept (functions f) known) callers vs d xs s goes n over)

pub agrees_as_a_whole : AgreesAsAWhole
agrees_as_a_whole c functions is_pointer listed f is known i =
    let p : IsProgram c (pruned_all functions) i f =
    program_law c (pruned_all functions) (all_stand is_pointer functions c.all listed) f is (some_kept (functions f) known) i in
    record {
      trace = λ n xs over. p.trace n xs over ∙ ap trace_of_tree (sym (prunes_alike c functions (n + 1) (n + 1) f [] (first_data c i) xs));
      tree = λ calls turns xs.
          subst (λ r. ((trace_of_tree r).end ≡ Runs → ⊥) → (j : ℕ) × ((k : ℕ) → j ≤ k → trace_in c i k xs ≡ trace_of_tree r))
          (sym (prunes_alike c functions calls turns f [] (first_data c i) xs)) (p.tree calls turns xs);
    }
