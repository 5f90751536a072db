-- The small pass that has a callee's body in place proves its steps.
use Rattle.std.proofs.Common.{◌≡◌, ℕ, true, cond, List, [], ◌∷◌, Option, Some, None, refl, sym, ◌∙◌, subst}
use Rattle.std.specs.Prelude.{IfSome}
use Rattle.spv_opcodes.specs.declared.op.TheConstants as op
use Rattle.spv_meaning.specs.Statements as says
use Rattle.spv_meaning.specs.Statements.{said, statements_in}
use Rattle.spv_meaning.specs.Computations.{Evaluates, computed}
use Rattle.spv_meaning.specs.Constants.{type_at}
use Rattle.spv_machine.specs.Places.{is_shared}
use Rattle.spv_machine.specs.Setting.{Setting, setting}
use Rattle.spv_machine.specs.State.{Pointer, Value, Data, bind, value, values, some_cons, words_of_value, typed_of_value, pointer_of_value}
use Rattle.spv_machine.specs.Operations.{Outcome, with_some, results, store_access, outcome}
use Rattle.spv_machine.specs.Facts.{no_data, uint}
use Rattle.spv_bodies.specs.Bodies.{Body, Function}
use Rattle.spv_trees.specs.Facts.{functions_of}
use Rattle.spv_congruence.specs.Relation.{Both}
use Rattle.spv_congruence.specs.Statements as rule
use Rattle.spv_congruence.specs.Statements.{back_from, DoAlike}
use Rattle.spv_congruence.specs.Shape as shape
use Rattle.spv_congruence.specs.Shape.{Shape}
use Rattle.spv_congruence.specs.Laws.{begun, some_value, comparison, CallsAlike, returned, IsInlined, Local, FunctionsAlike}
use Rattle.spv_congruence.specs.Operands.{Accesses, Changes, Writes, Stays, EffectKept, store}
use Rattle.spv_congruence.specs.Example.{store_line, Finish, finishes_both, Name, first_function, here}
use Rattle.spv_congruence.specs.InPlace.{sum_line, by_call, in_place, Stage, Calling, Summed, Called, Sum, sums, stores_sum, Inline, inlined_call, Give, gives}
use Rattle.spv_congruence.specs.InPlace.{place_edits, SameBase, caller_of, SameInside, SameSum, SameAt, GivesSum, place_in, PlaceLaw, PlaceKeeps}
use Rattle.spv_congruence.proofs.Congruent.{shape_keeps}
use Rattle.spv_congruence.proofs.Operands.{effect_alike}
use Rattle.spv_congruence.proofs.Identity.{nothing_added}

module _ (c : Setting) where
  abbrev Alike : Stage → List ℕ → Data → List (List ℕ) → Data → Type 0
  Alike g words d others d2 = DoAlike (comparison (place_in c)) (SameAt c g) (said words []) d (statements_in others) d2

  -- ---- the sum

  abbrev sum_of : Data → ℕ → Option Value → Option Value → Outcome
  sum_of d r x y =
      with_some (some_cons (typed_of_value x) (some_cons (typed_of_value y) (Some [])))
      (λ vs. results d r (type_at c.table 20) (computed (Evaluates op.I_ADD) (type_at c.table 20) vs))

  sum_alike : (a d2 : Data) → SameInside c a d2 → Alike Summed (sum_line 10 8 31) a (sum_line 12 31 31 ∷ []) d2
  unfolding outcome statements_in
  sum_alike a d2 r =
      rule.goes (λ i. sum_of a 10 (r.parameter i) (r.constant i)) (rule.goes_second (λ i. sum_of d2 12 (r.base.constant2 i) (r.base.constant2 i))
      (rule.done (record {
        base = record {
          pointer = r.base.pointer;
          shared = r.base.shared;
          type = r.base.type;
          words = r.base.words;
          outside = r.base.outside;
          constant = r.base.constant;
          constant2 = r.base.constant2;
        };
        sum = refl;
      })))

  -- ---- the store

  store_kept : (d d2 : Data) (o : Option Pointer) (words : Option (List ℕ)) → IfSome o (λ p. is_shared p.class ≡ true) → SameAt c Called d d2
      → EffectKept (comparison (place_in c)) (SameAt c Called) d d2 (store [] o words)
  store_kept d d2 None words h r = tt
  store_kept d d2 (Some p) None h r = tt
  store_kept d d2 (Some p) (Some words) h r =
      subst (λ b. EffectKept (comparison (place_in c)) (SameAt c Called) d d2 (cond b (Accesses (store_access p words []) (λ answer. Stays))
      (Changes (Writes p.place words)))) (sym h)
      (refl, refl, λ x. r)

  store_alike : (d d2 : Data) → SameAt c Called d d2 → Alike Called (store_line 12) d (store_line 12 ∷ []) d2
  unfolding statements_in
  store_alike d d2 r =
      effect_alike (comparison (place_in c)) (SameAt c Called) (says.Store 30 12 []) (says.Store 30 12 []) d d2 refl
      (λ i. store [] (pointer_of_value (r.base.pointer i)) (words_of_value (r.sum i)))
      (store_kept d d2 (pointer_of_value (value c d 30)) (words_of_value (value c d 12)) r.base.shared r)

  step_alike : {g h : Stage} {words : List ℕ} {others : List (List ℕ)} → Sum g words others h → (d d2 : Data) → SameAt c g d d2 → Alike h words d others d2
  step_alike sums d d2 r = sum_alike d d2 r
  step_alike stores_sum d d2 r = store_alike d d2 r

  -- ---- the call

  given_back : (v : Option Value) (a a2 : Data) → GivesSum c v a a2 → SameAt c Called (back_from 12 v a) a2
  given_back v a a2 h =
      let there : SameAt c Called (bind 12 h.value_of (caller_of a)) a2 = record {
        base = record {
          pointer = h.base.pointer;
          shared = h.base.shared;
          type = h.base.type;
          words = h.base.words;
          outside = h.base.outside;
          constant = h.base.constant;
          constant2 = h.base.constant2;
        };
        sum = sym h.there;
      } in
      subst (λ z. SameAt c Called (back_from 12 z a) a2) (sym h.same) there

  call_begins : (d d2 : Data) → SameBase c d d2
      → IfSome (values c d (31 ∷ [])) (λ vs. IfSome (functions_of by_call 7)
      (λ f. IfSome (begun c f vs d) (λ e. ((y : Unit {0}) × SameInside c e d2 × ((v : Option Value) (a a2 : Data) → GivesSum c v a a2
      → SameAt c Called (back_from 12 v a) a2)))))
  unfolding statements_in
  call_begins d d2 r =
      subst (λ o. IfSome (some_cons o (Some []))
      (λ vs. IfSome (functions_of by_call 7)
      (λ f. IfSome (begun c f vs d) (λ e. ((y : Unit {0}) × SameInside c e d2 × ((v : Option Value) (a a2 : Data) → GivesSum c v a a2
      → SameAt c Called (back_from 12 v a) a2))))))
      (sym r.constant)
      (tt, record { base = r; parameter = refl; constant = r.outside }, given_back)

  inlined_alike : {g k h : Stage} {words : List ℕ} {callee : Body} → Inline g words callee k h → IsInlined (place_in c) g words callee k h
  inlined_alike inlined_call = record {
    type = 20;
    result_id = 12;
    function = 7;
    arguments = 31 ∷ [];
    call = refl;
    body = refl;
    begins = λ z d d2 r. call_begins d d2 r;
  }

  -- ---- the return

  give_at : (a d2 : Data) (o : Option Value) → value c a 10 ≡ o → SameSum c 10 12 caller_of a d2 → IfSome (some_value o) (λ v. GivesSum c v a d2)
  give_at a d2 None e r = tt
  give_at a d2 (Some v) e r = record { base = r.base; value_of = v; same = refl; there = sym r.sum ∙ e }

  give_alike : {g : Stage} {words : List ℕ} → Give g words → (a d2 : Data) → SameAt c g a d2 → IfSome (returned c (said words []) a) (λ v. GivesSum c v a d2)
  give_alike gives a d2 r = give_at a d2 (value c a 10) refl r

  finish_alike : {words words2 : List ℕ} → Finish words words2 → (d d2 : Data)
      → Both (λ v v2. Unit {0}) (returned c (said words []) d) (returned c (said words2 []) d2)
  finish_alike finishes_both d d2 = tt

  place_local : Local (place_in c)
  place_local = record {
    turned = λ z g h words others d d2 e r. step_alike e d d2 r;
    inserted = λ z g h others d d2 e r. absurd e;
    carried = λ z g h ids ids2 front front2 d d2 e r. absurd e;
    asked = λ z g condition condition2 d d2 e r. absurd e;
    selected = λ z g selector selector2 d d2 e r. absurd e;
    finished = λ z g words words2 d d2 e r. finish_alike e d d2;
    drops = record {
      passed = λ z g h ids front d d2 e r. absurd e;
      decided = λ z g condition on d d2 e r. absurd e;
      chosen = λ z g selector number d d2 e r. absurd e;
      inlined = λ g k h words callee e. inlined_alike e;
      resumed = λ z g words d d2 e r. give_alike e d d2 r;
      never = λ z g d d2 e r. e;
    };
    adds = nothing_added (place_in c) refl;
  }

-- ---- the shape

place_shape : Shape place_edits None [] Calling by_call in_place
place_shape =
    shape.inlines inlined_call (shape.turns sums (shape.resumes gives tt)) (shape.turns stores_sum (shape.finishes finishes_both))

named_alike : {f f2 : ℕ} → Name f f2 → Both (λ (function function2 : Function). Shape place_edits None [] Calling function.body function2.body)
    (functions_of by_call f) (functions_of in_place f2)
named_alike first_function = place_shape

functions_alike : (c : Setting) → FunctionsAlike (place_in c)
functions_alike c f f2 h = named_alike h

pub place_law : PlaceLaw
place_law c = (place_local c, functions_alike c)

begins_here : CallsAlike (place_in here) tt 1 [] no_data 1 [] no_data
unfolding setting statements_in
begins_here = (first_function, record { pointer = refl; shared = refl; type = uint; words = 1 ∷ []; outside = refl; constant = refl; constant2 = refl })

pub place_keeps : PlaceKeeps
place_keeps = shape_keeps (place_in here) (place_local here) (functions_alike here) tt 1 1 [] [] no_data no_data begins_here
