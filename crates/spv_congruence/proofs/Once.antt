-- The small pass that makes a function return once proves its steps.
use Rattle.std.proofs.Common.{◌≡◌, inl, ℕ, ◌==◌, Bool, true, false, cond, List, [], ◌∷◌, Option, Some, None, refl, sym, ap, subst}
use Rattle.std.specs.Prelude.{IfSome, IsSomeAnd}
use Rattle.spv_meaning.specs.Statements as says
use Rattle.spv_meaning.specs.Statements.{said, statements_in}
use Rattle.spv_meaning.specs.Types.{number_in}
use Rattle.spv_machine.specs.Places.{is_shared}
use Rattle.spv_machine.specs.Setting.{Setting, setting}
use Rattle.spv_machine.specs.State.{Pointer, Value, Data, some_cons, value, values, words_of_value, pointer_of_value}
use Rattle.spv_machine.specs.Operations.{store_access}
use Rattle.spv_machine.specs.Facts.{no_data}
use Rattle.spv_bodies.specs.Bodies.{Front, Function}
use Rattle.spv_opcodes.specs.declared.op.TheConstants as op
use Rattle.spv_bodies.specs.Listing.{instruction}
use Rattle.spv_trees.specs.Facts.{front, stores, returns, functions_of}
use Rattle.spv_congruence.specs.Relation.{Both, SameTruth, with_parameters, Into}
use Rattle.spv_congruence.specs.Statements.{DoAlike}
use Rattle.spv_congruence.specs.Shape as shape
use Rattle.spv_congruence.specs.Shape.{Alone, Joins, Wraps, Shape}
use Rattle.spv_congruence.specs.Laws.{comparison, CallsAlike, returned, Local, FunctionsAlike}
use Rattle.spv_congruence.specs.Operands.{Accesses, Changes, Writes, Stays, EffectKept, store}
use Rattle.spv_congruence.specs.Example.{store_line, Finish, finishes_both, Ask, asks_the_same, Name, first_function, here}
use Rattle.spv_congruence.specs.Once.{twice, flagged, by_flag, once, Keep, store_stays, Flag, goes_on, FlagAlone, returns_early, goes_to_the_end, ByFlag}
use Rattle.spv_congruence.specs.Once.{has_returned, has_not, once_edits, SameButFlag, once_in, OnceLaw, OnceKeeps}
use Rattle.spv_congruence.proofs.Congruent.{shape_keeps}
use Rattle.spv_congruence.proofs.Operands.{effect_alike}
use Rattle.spv_congruence.proofs.Identity.{nothing_dropped, both_same}

-- ---- values that have words

module _ (c : Setting) where
  word_of : (o : Option Value) (word : ℕ) → words_of_value o ≡ Some (word ∷ []) → (v : Value) × (o ≡ Some v) × (words_of_value (Some v) ≡ Some (word ∷ []))
  word_of None word e = absurd (cc e)
  word_of (Some v) word e = (v, refl, e)

  -- one value that is there
  one_value : (d : Data) (id : ℕ) (v : Value) → value c d id ≡ Some v → values c d (id ∷ []) ≡ Some (v ∷ [])
  one_value d id v e = ap (λ o. some_cons o (Some [])) e

  -- the flag gets its word
  flagged_data : (known : Option ℕ) (word : ℕ) (v : Value) (d d2 : Data) → words_of_value (Some v) ≡ Some (word ∷ []) → SameButFlag c known d d2
      → SameButFlag c (Some word) d (with_parameters flagged (v ∷ []) d2)
  flagged_data known word v d d2 e r =
      record { pointer = r.pointer; source = r.source; condition = r.condition; holds = r.holds; fails = r.fails; shared = r.shared; flag = e }

  flag_alike : {known known2 : Option ℕ} {ids ids2 : List ℕ} {front front2 : Front} → Flag known ids ids2 front front2 known2 → (d d2 : Data)
      → SameButFlag c known d d2
      → Both (λ vs vs2. Into front front2 (SameButFlag c known2) vs d vs2 d2) (values c d ids) (values c d2 ids2)
  flag_alike goes_on d d2 r =
      let w = word_of (value c d2 34) 0 r.fails in
      subst (λ o. Both (λ vs vs2. Into (front 5 []) flagged (SameButFlag c (Some 0)) vs d vs2 d2) (Some []) o) (sym (one_value d2 34 w.0 w.1))
      (flagged_data None 0 w.0 d d2 w.2 r)

  alone_alike : {known known2 : Option ℕ} {words ids2 : List ℕ} {front2 : Front} → FlagAlone known words ids2 front2 known2 → (d d2 : Data)
      → SameButFlag c known d d2
      → IsSomeAnd (values c d2 ids2) (λ vs2. SameButFlag c known2 d (with_parameters front2 vs2 d2))
  alone_alike returns_early d d2 r =
      let w = word_of (value c d2 33) 1 r.holds in
      subst (λ o. IsSomeAnd o (λ vs2. SameButFlag c (Some 1) d (with_parameters flagged vs2 d2))) (sym (one_value d2 33 w.0 w.1))
      (flagged_data None 1 w.0 d d2 w.2 r)
  alone_alike goes_to_the_end d d2 r = r

  by_flag_alike : {known : Option ℕ} {condition2 : ℕ} {on : Bool} → ByFlag known condition2 on → (d d2 : Data) → SameButFlag c known d d2
      → IsSomeAnd (words_of_value (value c d2 condition2)) (λ ws. (number_in ws == 1) ≡ on)
  by_flag_alike has_returned d d2 r = subst (λ o. IsSomeAnd o (λ ws. (number_in ws == 1) ≡ true)) (sym r.flag) refl
  by_flag_alike has_not d d2 r = subst (λ o. IsSomeAnd o (λ ws. (number_in ws == 1) ≡ false)) (sym r.flag) refl

  -- ---- the store, by its effect

  store_kept : (known : Option ℕ) (d d2 : Data) (o : Option Pointer) (words : Option (List ℕ)) → IfSome o (λ p. is_shared p.class ≡ true)
      → SameButFlag c known d d2
      → EffectKept (comparison (once_in c)) (SameButFlag c known) d d2 (store [] o words)
  store_kept known d d2 None words h r = tt
  store_kept known d d2 (Some p) None h r = tt
  store_kept known d d2 (Some p) (Some words) h r =
      subst (λ b. EffectKept (comparison (once_in c)) (SameButFlag c known) d d2 (cond b (Accesses (store_access p words []) (λ answer. Stays))
      (Changes (Writes p.place words)))) (sym h)
      (refl, refl, λ x. r)

  store_alike : (known : Option ℕ) (d d2 : Data) → SameButFlag c known d d2 → DoAlike (comparison (once_in c)) (SameButFlag c known) (said (store_line 31) []) d
      (statements_in (store_line 31 ∷ [])) d2
  unfolding statements_in
  store_alike known d d2 r =
      effect_alike (comparison (once_in c)) (SameButFlag c known) (says.Store 30 31 []) (says.Store 30 31 []) d d2 refl
      (λ i. store [] (pointer_of_value (r.pointer i)) (words_of_value (r.source i)))
      (store_kept known d d2 (pointer_of_value (value c d 30)) (words_of_value (value c d 31)) r.shared r)

  keep_alike : {words : List ℕ} {others : List (List ℕ)} → Keep words others → (known : Option ℕ) (d d2 : Data) → SameButFlag c known d d2
      → DoAlike (comparison (once_in c)) (SameButFlag c known) (said words []) d (statements_in others) d2
  keep_alike store_stays known d d2 r = store_alike known d d2 r

  ask_alike : {known : Option ℕ} {condition condition2 : ℕ} → Ask condition condition2 → (d d2 : Data) → SameButFlag c known d d2
      → Both SameTruth (words_of_value (value c d condition)) (words_of_value (value c d2 condition2))
  ask_alike asks_the_same d d2 r =
      subst (λ z. Both SameTruth (words_of_value (value c d 34)) (words_of_value z)) r.condition (both_same SameTruth (words_of_value (value c d 34))
      (λ ws. refl))

  finish_alike : {words words2 : List ℕ} → Finish words words2 → (d d2 : Data)
      → Both (λ v v2. Unit {0}) (returned c (said words []) d) (returned c (said words2 []) d2)
  finish_alike finishes_both d d2 = tt

  once_local : Local (once_in c)
  once_local = record {
    turned = λ z g h words others d d2 e r. subst (λ k. DoAlike (comparison (once_in c)) (SameButFlag c k) (said words []) d (statements_in others) d2)
        (sym e.1) (keep_alike e.0 g d d2 r);
    inserted = λ z g h others d d2 e r. absurd e;
    carried = λ z g h ids ids2 front front2 d d2 e r. flag_alike e d d2 r;
    asked = λ z g condition condition2 d d2 e r. ask_alike e d d2 r;
    selected = λ z g selector selector2 d d2 e r. absurd e;
    finished = λ z g words words2 d d2 e r. finish_alike e d d2;
    drops = nothing_dropped (once_in c) refl;
    adds = record {
      decided2 = λ z g condition2 on d d2 e r. by_flag_alike e d d2 r;
      chosen2 = λ z g selector2 number d d2 e r. absurd e;
      carried2 = λ z g h words ids2 front2 d d2 e r. alone_alike e d d2 r;
    };
  }

-- ---- the shape

-- behind the merge block, where the first has returned and where it has not
late_shape : Alone once_edits (instruction op.RETURN []) [] (Some 1) by_flag
late_shape = shape.alone_selects {on = true} has_returned (shape.alone_leaves (shape.wraps_alone refl goes_to_the_end (shape.alone_finishes finishes_both)))

rest_shape : Shape once_edits None [] (Some 0) (stores 31 returns) by_flag
rest_shape =
    shape.wraps {on = false} has_not (shape.enters_second (shape.turns (store_stays, refl)
    (shape.returns_alone (shape.alone_leaves (shape.wraps_alone refl goes_to_the_end (shape.alone_finishes finishes_both))))))

once_shape : Shape once_edits None [] None twice once
once_shape =
    shape.selects {h = Some 0} asks_the_same tt
    (shape.enters_second (shape.enters (shape.returns_alone (shape.alone_leaves (shape.joins_alone refl returns_early late_shape)))))
    (shape.leaves (inl (refl, refl, goes_on)))
    rest_shape

named_alike : {f f2 : ℕ} → Name f f2 → Both (λ (function function2 : Function). Shape once_edits None [] None function.body function2.body)
    (functions_of twice f) (functions_of once f2)
named_alike first_function = once_shape

functions_alike : (c : Setting) → FunctionsAlike (once_in c)
functions_alike c f f2 h = named_alike h

pub once_law : OnceLaw
once_law c = (once_local c, functions_alike c)

begins : CallsAlike (once_in here) tt 1 [] no_data 1 [] no_data
unfolding setting statements_in
begins = (first_function, record { pointer = refl; source = refl; condition = refl; holds = refl; fails = refl; shared = refl; flag = tt })

pub once_keeps : OnceKeeps
once_keeps = shape_keeps (once_in here) (once_local here) (functions_alike here) tt 1 1 [] [] no_data no_data begins
