-- Each body has the shape of itself, and statements do what they do.
use Rattle.std.proofs.Common.{◌≡◌, inl, inr, ℕ, ◌==◌, Bool, true, false, List, [], ◌∷◌, map, Option, Some, None, refl, sym, subst}
use Rattle.std.proofs.lemmas.Bool.{eq-eqb}
use Rattle.spv_meaning.specs.Statements as says
use Rattle.spv_meaning.specs.Statements.{Statement, said, statements_in}
use Rattle.spv_meaning.specs.Types.{number_in}
use Rattle.spv_machine.specs.Setting.{Setting}
use Rattle.spv_machine.specs.State.{Value, Data, value, values, words_of_value}
use Rattle.spv_machine.specs.Operations.{Outcome, Does, Wants, Fails, outcome}
use Rattle.spv_bodies.specs.Bodies.{Exit, Front, ByBranch, InPlace, Body, Leaves, Finishes, Step, Enters, Splits, Selects, Switches, Loops, Arms, Last, Also}
use Rattle.spv_bodies.specs.Bodies.{Function}
use Rattle.spv_bodies.specs.Listing.{first_target}
use Rattle.spv_trees.specs.Standing.{OneOf, IsClosed, AreClosed}
use Rattle.spv_congruence.specs.Relation.{Both, SameTruth, Into}
use Rattle.spv_congruence.specs.Statements as rule
use Rattle.spv_congruence.specs.Statements.{Comparison, is_call, back_from, DoAlike}
use Rattle.spv_congruence.specs.Shape as shape
use Rattle.spv_congruence.specs.Shape.{Drops, no_drops, Adds, no_adds, ExitsAlike, SameArm, CasesAlike, Shape, ShapeOfArms, ShapeOfLoop}
use Rattle.spv_congruence.specs.Laws.{Pass, begun, CallsAlike, comparison, returned, LocalDrops, LocalAdds, Local}
use Rattle.spv_congruence.specs.Identity.{no_edits, unchanged, same_target, SameShapeLaw, IdentityLaw}

-- where every construct stays
pub nothing_dropped : (p : Pass) → p.edits.drops ≡ no_drops → LocalDrops p
nothing_dropped p none = record {
  passed = λ z g h ids front d d2 e r. absurd (subst (λ (w : Drops p.Known). w.Passed g ids front h) none e);
  decided = λ z g condition on d d2 e r. absurd (subst (λ (w : Drops p.Known). w.Decided g condition on) none e);
  chosen = λ z g selector number d d2 e r. absurd (subst (λ (w : Drops p.Known). w.Chosen g selector number) none e);
  inlined = λ g k h words callee e. absurd (subst (λ (w : Drops p.Known). w.Inlined g words callee k h) none e);
  resumed = λ z g words d d2 e r. absurd (subst (λ (w : Drops p.Known). w.Resumed g words) none e);
  never = λ z g d d2 e r. subst (λ (w : Drops p.Known). w.Never g) none e;
}

pub nothing_added : (p : Pass) → p.edits.adds ≡ no_adds → LocalAdds p
nothing_added p none = record {
  decided2 = λ z g condition2 on d d2 e r. absurd (subst (λ (w : Adds p.Known). w.Decided2 g condition2 on) none e);
  chosen2 = λ z g selector2 number d d2 e r. absurd (subst (λ (w : Adds p.Known). w.Chosen2 g selector2 number) none e);
  carried2 = λ z g h words ids2 front2 d d2 e r. absurd (subst (λ (w : Adds p.Known). w.Carried2 g words ids2 front2 h) none e);
}

pub both_same : {X : Type 0} (R : X → X → Type 0) (o : Option X) → ((x : X) → R x x) → Both R o o
both_same R None h = tt
both_same R (Some x) h = h x

-- ---- shapes

abbrev labels_of : List (Front × Option Body) → List ℕ
labels_of fronts = map (λ t. t.0.label) fronts

exit_at : (front : Front × Option Body) (fronts : List (Front × Option Body)) (exit : Exit) (b : Bool) → (exit.target == front.0.label) ≡ b
    → OneOf exit.target (front.0.label ∷ labels_of fronts)
    → (OneOf exit.target (labels_of fronts) → ExitsAlike no_edits (map same_target fronts) tt exit exit)
    → ExitsAlike no_edits (same_target front ∷ map same_target fronts) tt exit exit
exit_at front fronts exit true e h more = inl (e, e, (refl, refl))
exit_at front fronts exit false e (inl h) more = absurd (cc (eq-eqb exit.target front.0.label h, e))
exit_at front fronts exit false e (inr h) more = inr (e, e, more h)

exit_same : (fronts : List (Front × Option Body)) (exit : Exit) → OneOf exit.target (labels_of fronts)
    → ExitsAlike no_edits (map same_target fronts) tt exit exit
exit_same [] exit h = absurd h
exit_same (front ∷ fronts) exit h = exit_at front fronts exit (exit.target == front.0.label) refl h (exit_same fronts exit)

pub same_arm : (arms : Arms) (label : ℕ) → SameArm arms arms label label
same_arm (Last arm) label = refl
same_arm (Also arm arms) label = (refl, same_arm arms label)

pub same_cases : (arms : Arms) (cases : List (ℕ × ℕ)) → CasesAlike arms arms cases cases
same_cases arms [] = tt
same_cases arms (c ∷ cs) = (refl, same_arm arms c.1, same_cases arms cs)

-- a loop of parts that have the shape of themselves
loop_same : (header : Front) (inner : Body) (next : Front) (continuing : Body) (merge : Front) (rest : Body) (fronts : List (Front × Option Body))
    → Shape no_edits None (map same_target ((next, None) ∷ (header, None) ∷ (merge, Some rest) ∷ fronts)) tt inner inner
    → Shape no_edits None (map same_target ((header, None) ∷ (merge, Some rest) ∷ fronts)) tt continuing continuing
    → Shape no_edits None (map same_target fronts) tt rest rest
    → ShapeOfLoop no_edits None (map same_target fronts) tt header header inner inner next next continuing continuing merge merge rest rest
loop_same header inner next continuing merge rest fronts h k l = shape.parts {h = tt} {k = tt} refl refl h k l

module _ (functions : ℕ → Option Function) where
  mutual
    same_shape : (body : Body) (fronts : List (Front × Option Body)) → IsClosed functions (labels_of fronts) body
        → Shape no_edits None (map same_target fronts) tt body body
    same_shape (Leaves exit) fronts h = shape.leaves (exit_same fronts exit h)
    same_shape (Finishes words) fronts h = shape.finishes refl
    same_shape (Step words body) fronts h = shape.turns {h = tt} {words = words} {others = words ∷ []} {body = body} {body2 = body} refl
        (same_shape body fronts h.1)
    same_shape (Enters label body) fronts h = shape.enters_second (shape.enters (same_shape body fronts h))
    same_shape (Splits condition on exit body) fronts h = shape.splits refl (exit_same fronts exit h.0) (same_shape body fronts h.1)
    same_shape (Selects control condition first second merge rest) fronts h =
        shape.selects {h = tt} refl refl (same_shape first ((merge, Some rest) ∷ fronts) h.0) (same_shape second ((merge, Some rest) ∷ fronts) h.1)
        (same_shape rest fronts h.2)
    same_shape (Switches control selector cases arms merge rest) fronts h =
        shape.switches {h = tt} refl refl (same_arm arms (first_target arms)) (same_cases arms cases) (same_arms arms ((merge, Some rest) ∷ fronts) h.0)
        (same_shape rest fronts h.1)
    same_shape (Loops (ByBranch ids) header control inner next continuing merge rest) fronts h =
        shape.loops {h = tt} refl (refl, refl) (loop_same header inner next continuing merge rest fronts
        (same_shape inner ((next, None) ∷ (header, None) ∷ (merge, Some rest) ∷ fronts) h.0)
        (same_shape continuing ((header, None) ∷ (merge, Some rest) ∷ fronts) h.1) (same_shape rest fronts h.2))
    same_shape (Loops InPlace header control inner next continuing merge rest) fronts h =
        shape.placed (loop_same header inner next continuing merge rest fronts (same_shape inner ((next, None) ∷ (header, None) ∷ (merge, Some rest) ∷ fronts)
        h.0) (same_shape continuing ((header, None) ∷ (merge, Some rest) ∷ fronts) h.1) (same_shape rest fronts h.2))

    same_arms : (arms : Arms) (fronts : List (Front × Option Body)) → AreClosed functions (labels_of fronts) arms
        → ShapeOfArms no_edits None (map same_target fronts) tt arms arms
    same_arms (Last arm) fronts h = shape.last (same_shape arm fronts h)
    same_arms (Also arm arms) fronts h = shape.also (same_shape arm fronts h.0) (same_arms arms fronts h.1)

pub same_shape_law : SameShapeLaw
same_shape_law functions fronts body h = same_shape functions body fronts h

-- ---- statements

module _ (c : Setting) (functions : ℕ → Option Function) where
  abbrev Alike : List Statement → Data → List Statement → Data → Type 0
  Alike ss d ss2 d2 = DoAlike (comparison (unchanged c functions)) (λ e e2. e2 ≡ e) ss d ss2 d2

  same_calls : (f : ℕ) (vs : List Value) (d : Data) → CallsAlike (unchanged c functions) tt f vs d f vs d
  same_calls f vs d = (
    refl,
    both_same (λ function function2. Both (λ e e2. e2 ≡ e) (begun c function vs d) (begun c function2 vs d)) (functions f)
        (λ function. both_same (λ e e2. e2 ≡ e) (begun c function vs d) (λ e. refl)),
  )

  call_alike : (t r f : ℕ) (arguments : List ℕ) (ss : List Statement) (d : Data) (o : Option (List Value)) → values c d arguments ≡ o
      → ((e : Data) → Alike ss e ss e)
      → Alike (says.FunctionCall t r f arguments ∷ ss) d (says.FunctionCall t r f arguments ∷ ss) d
  call_alike t r f arguments ss d None e more = rule.fails_to_call e
  call_alike t r f arguments ss d (Some vs) e more =
      rule.calls e e tt (same_calls f vs d) (λ v v2 a a2 ends.
      let same : back_from r v a ≡ back_from r v2 a2 = λ i. back_from r (sym ends.0 i) (sym ends.1 i) in
      subst (λ (z : Data). Alike ss (back_from r v a) ss z) same (more (back_from r v a)))

  one_alike : (s : Statement) (ss : List Statement) (d : Data) (o : Outcome) → is_call s ≡ false → outcome c d s ≡ o → ((e : Data) → Alike ss e ss e)
      → Alike (s ∷ ss) d (s ∷ ss) d
  one_alike s ss d (Does e) is o more = rule.goes o (rule.goes_second o (more e))
  one_alike s ss d (Wants a by_answer) is o more = rule.asks o o refl refl (λ x. more (by_answer x))
  one_alike s ss d Fails is o more = rule.fails is o

  this_alike : (s : Statement) (ss : List Statement) (d : Data) → ((e : Data) → Alike ss e ss e) → Alike (s ∷ ss) d (s ∷ ss) d
  this_alike (says.FunctionCall t r f arguments) ss d more = call_alike t r f arguments ss d (values c d arguments) refl more
  this_alike other ss d more = one_alike other ss d (outcome c d other) refl refl more

  same_do : (ss : List Statement) (d : Data) → Alike ss d ss d
  same_do [] d = rule.done refl
  same_do (s ∷ ss) d = this_alike s ss d (same_do ss)

  words_do : (words : List ℕ) (d : Data) → Alike (said words []) d (statements_in (words ∷ [])) d
  unfolding statements_in
  words_do words d = same_do (said words []) d

  turned_alike : (words : List ℕ) (others : List (List ℕ)) (d d2 : Data) → others ≡ words ∷ [] → d2 ≡ d → Alike (said words []) d (statements_in others) d2
  turned_alike words others d d2 e r =
      subst (λ z. Alike (said words []) d (statements_in z) d2) (sym e)
      (subst (λ z. Alike (said words []) d (statements_in (words ∷ [])) z) (sym r) (words_do words d))

  same_local : Local (unchanged c functions)
  same_local = record {
    turned = λ z g h words others d d2 e r. turned_alike words others d d2 e r;
    inserted = λ z g h others d d2 e r. absurd e;
    carried = λ z g h ids ids2 front front2 d d2 e r. carried_alike ids ids2 front front2 d d2 e.0 e.1 r;
    asked = λ z g q q2 d d2 e r. words_alike SameTruth q q2 d d2 e r (λ ws. refl);
    selected = λ z g q q2 d d2 e r. words_alike (λ ws ws2. number_in ws ≡ number_in ws2) q q2 d d2 e r (λ ws. refl);
    finished = λ z g words words2 d d2 e r. finished_alike words words2 d d2 e r;
    drops = nothing_dropped (unchanged c functions) refl;
    adds = nothing_added (unchanged c functions) refl;
  } where
    carried_alike : (ids ids2 : List ℕ) (front front2 : Front) (d d2 : Data) → ids2 ≡ ids → front2 ≡ front → d2 ≡ d
        → Both (λ vs vs2. Into front front2 (λ a b. b ≡ a) vs d vs2 d2) (values c d ids) (values c d2 ids2)
    carried_alike ids ids2 front front2 d d2 e f r =
        subst (λ z. Both (λ vs vs2. Into front front2 (λ a b. b ≡ a) vs d vs2 d2) (values c d ids) (values c d2 z)) (sym e)
        (subst (λ z. Both (λ vs vs2. Into front z (λ a b. b ≡ a) vs d vs2 d2) (values c d ids) (values c d2 ids)) (sym f)
        (subst (λ z. Both (λ vs vs2. Into front front (λ a b. b ≡ a) vs d vs2 z) (values c d ids) (values c z ids)) (sym r)
        (both_same (λ vs vs2. Into front front (λ a b. b ≡ a) vs d vs2 d) (values c d ids) (λ vs. refl))))

    words_alike : (R : List ℕ → List ℕ → Type 0) (q q2 : ℕ) (d d2 : Data) → q2 ≡ q → d2 ≡ d → ((ws : List ℕ) → R ws ws)
        → Both R (words_of_value (value c d q)) (words_of_value (value c d2 q2))
    words_alike R q q2 d d2 e r h =
        subst (λ z. Both R (words_of_value (value c d q)) (words_of_value (value c d2 z))) (sym e)
        (subst (λ z. Both R (words_of_value (value c d q)) (words_of_value (value c z q))) (sym r) (both_same R (words_of_value (value c d q)) h))

    finished_alike : (words words2 : List ℕ) (d d2 : Data) → words2 ≡ words → d2 ≡ d
        → Both (λ v v2. (v2 ≡ v) × (d2 ≡ d)) (returned c (said words []) d) (returned c (said words2 []) d2)
    finished_alike words words2 d d2 e r =
        subst (λ z. Both (λ v v2. (v2 ≡ v) × (d2 ≡ d)) (returned c (said words []) d) (returned c (said z []) d2)) (sym e)
        (subst (λ z. Both (λ v v2. (v2 ≡ v) × (z ≡ d)) (returned c (said words []) d) (returned c (said words []) z)) (sym r)
        (both_same (λ v v2. (v2 ≡ v) × (d ≡ d)) (returned c (said words []) d) (λ v. (refl, refl))))

  functions_at : (f : ℕ) (o : Option Function) → ((function : Function) → o ≡ Some function → IsClosed functions [] function.body)
      → Both (λ (function function2 : Function). Shape no_edits None [] tt function.body function2.body) o o
  functions_at f None h = tt
  functions_at f (Some function) h = same_shape functions function.body [] (h function refl)

pub identity_law : IdentityLaw
identity_law c functions closed = (
  same_local c functions,
  λ f f2 e. subst (λ z. Both (λ (function function2 : Function). Shape no_edits None [] tt function.body function2.body) (functions f) (functions z)) (sym e)
      (functions_at c functions f (functions f) (closed f)),
)
