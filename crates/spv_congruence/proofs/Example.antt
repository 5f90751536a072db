-- The small pass proves its steps.
use Rattle.std.proofs.Common.{◌≡◌, inl, ℕ, ◌==◌, Bool, true, false, cond, List, [], ◌∷◌, Option, Some, None, refl, sym, ap, ◌∙◌, subst}
use Rattle.std.specs.Prelude.{IfSome}
use Rattle.spv_meaning.specs.Statements.{said, statements_in}
use Rattle.spv_meaning.specs.Types.{number_in, cells, booleans, fitted}
use Rattle.spv_meaning.specs.Constants.{type_at}
use Rattle.spv_machine.specs.Places.{is_shared}
use Rattle.spv_machine.specs.Setting.{Setting, setting}
use Rattle.spv_machine.specs.State.{Pointer, Value, Words, Data, bind, value, values, words_of_value, pointer_of_value, read_held, write_held}
use Rattle.spv_machine.specs.Operations.{Does, Wants, with_some, load_access, store_access, results, loads, stores as stored_at, outcome}
use Rattle.spv_machine.specs.Facts.{no_data}
use Rattle.spv_bodies.specs.Bodies.{Front, Function}
use Rattle.spv_trees.specs.Facts.{functions_of}
use Rattle.spv_congruence.specs.Relation.{Both, SameTruth, with_parameters, Into}
use Rattle.spv_congruence.specs.Statements as rule
use Rattle.spv_congruence.specs.Statements.{DoAlike}
use Rattle.spv_congruence.specs.Shape as shape
use Rattle.spv_congruence.specs.Shape.{Shape}
use Rattle.spv_congruence.specs.Laws.{comparison, CallsAlike, returned, Local, FunctionsAlike}
use Rattle.spv_congruence.specs.Example.{load_line, copy_line, store_line, may_store, before, after, Turn, load_goes, copy_goes, store_changes, Carry}
use Rattle.spv_congruence.specs.Example.{carries_nothing, Skip, skips, Ask, asks_the_same, Decide, decides, Finish, finishes_both, Name, first_function, edits}
use Rattle.spv_congruence.specs.Example.{Alongside, example_in, here, ExampleLaw, ExampleKeeps}
use Rattle.spv_congruence.proofs.Congruent.{shape_keeps}
use Rattle.spv_congruence.proofs.Identity.{nothing_added, both_same}

module _ (c : Setting) where
  abbrev Alike : Bool → List ℕ → Data → List (List ℕ) → Data → Type 0
  Alike known words d others d2 = DoAlike (comparison (example_in c)) (Alongside c known) (said words []) d (statements_in others) d2

  -- ---- the load

  loads_shared : (d : Data) (p : Pointer) → is_shared p.class ≡ true
      → loads c d (type_at c.table 20) 12 [] p ≡ Wants (load_access 12 (cells (type_at c.table 20)) p [])
      (λ answer. bind 12 (Words (type_at c.table 20) (fitted (booleans (type_at c.table 20)) answer)) d)
  loads_shared d p h =
      let a = Wants (load_access 12 (cells (type_at c.table 20)) p [])
      (λ answer. bind 12 (Words (type_at c.table 20) (fitted (booleans (type_at c.table 20)) answer)) d) in
      ap (λ b. cond b a (results d 12 (type_at c.table 20) (read_held c d (cells (type_at c.table 20)) p.place))) h

  load_alike : (d d2 : Data) (o : Option Pointer) → pointer_of_value (value c d 30) ≡ o → IfSome o (λ p. is_shared p.class ≡ true) → Alongside c false d d2
      → Alike false load_line d [] d2
  unfolding outcome statements_in
  load_alike d d2 None e h r = rule.fails refl (ap (λ z. with_some z (loads c d (type_at c.table 20) 12 [])) e)
  load_alike d d2 (Some p) e h r =
      rule.leaves_out (ap (λ z. with_some z (loads c d (type_at c.table 20) 12 [])) e ∙ loads_shared d p h) refl
      (λ x. rule.done (record {
        pointer = r.pointer;
        source = r.source;
        condition = r.condition;
        decided = r.decided;
        shared = r.shared;
        copied = λ is. absurd
            (cc is);
      }))

  -- ---- the copy

  copy_alike : (d d2 : Data) (o : Option Value) → value c d 31 ≡ o → Alongside c false d d2 → Alike true copy_line d [] d2
  unfolding outcome statements_in
  copy_alike d d2 None e r = rule.fails refl (ap (λ z. with_some z (λ v. Does (bind 11 v d))) e)
  copy_alike d d2 (Some v) e r =
      rule.goes (ap (λ z. with_some z (λ u. Does (bind 11 u d))) e)
      (rule.done (record {
        pointer = r.pointer;
        source = r.source;
        condition = r.condition;
        decided = r.decided;
        shared = r.shared;
        copied = λ is. sym e
            ∙ r.source;
      }))

  -- ---- the store

  stores_shared : (d : Data) (words : List ℕ) (p : Pointer) → is_shared p.class ≡ true → stored_at d [] words p ≡ Wants (store_access p words []) (λ answer. d)
  stores_shared d words p h = ap (λ b. cond b (Wants (store_access p words []) (λ answer. d)) (Does (write_held d p.place words))) h

  store_words : (d d2 : Data) (p : Pointer) (o : Option (List ℕ)) → pointer_of_value (value c d 30) ≡ Some p → pointer_of_value (value c d2 30) ≡ Some p
      → is_shared p.class ≡ true
      → words_of_value (value c d 11) ≡ o → words_of_value (value c d2 31) ≡ o → Alongside c true d d2 → Alike true (store_line 11) d (store_line 31 ∷ []) d2
  unfolding outcome statements_in
  store_words d d2 p None e e2 h f f2 r =
      rule.fails refl (ap (λ z. with_some z (λ q. with_some (words_of_value (value c d 11)) (λ words. stored_at d [] words q))) e
      ∙ ap (λ z. with_some z (λ words. stored_at d [] words p)) f)
  store_words d d2 p (Some words) e e2 h f f2 r =
      rule.asks
      (ap (λ z. with_some z (λ q. with_some (words_of_value (value c d 11)) (λ ws. stored_at d [] ws q))) e ∙ ap (λ z. with_some z (λ ws. stored_at d [] ws p))
      f ∙ stores_shared d words p h)
      (ap (λ z. with_some z (λ q. with_some (words_of_value (value c d2 31)) (λ ws. stored_at d2 [] ws q))) e2
      ∙ ap (λ z. with_some z (λ ws. stored_at d2 [] ws p)) f2 ∙ stores_shared d2 words p h)
      refl refl (λ x. rule.done r)

  store_alike : (d d2 : Data) (o : Option Pointer) → pointer_of_value (value c d 30) ≡ o → IfSome o (λ p. is_shared p.class ≡ true) → Alongside c true d d2
      → Alike true (store_line 11) d (store_line 31 ∷ []) d2
  unfolding outcome statements_in
  store_alike d d2 None e h r = rule.fails refl (ap (λ z. with_some z (λ q. with_some (words_of_value (value c d 11)) (λ words. stored_at d [] words q))) e)
  store_alike d d2 (Some p) e h r =
      store_words d d2 p (words_of_value (value c d 11)) e (ap pointer_of_value (sym r.pointer) ∙ e) h refl (ap words_of_value (sym (r.copied refl))) r

  turn_alike : {known known2 : Bool} {words : List ℕ} {others : List (List ℕ)} → Turn known words others known2 → (d d2 : Data) → Alongside c known d d2
      → Alike known2 words d others d2
  turn_alike load_goes d d2 r = load_alike d d2 (pointer_of_value (value c d 30)) refl r.shared r
  turn_alike copy_goes d d2 r = copy_alike d d2 (value c d 31) refl r
  turn_alike store_changes d d2 r = store_alike d d2 (pointer_of_value (value c d 30)) refl r.shared r

  -- ---- the rest

  carry_alike : {known known2 : Bool} {ids ids2 : List ℕ} {front front2 : Front} → Carry known ids ids2 front front2 known2 → (d d2 : Data)
      → Alongside c known d d2
      → Both (λ vs vs2. Into front front2 (Alongside c known2) vs d vs2 d2) (values c d ids) (values c d2 ids2)
  carry_alike carries_nothing d d2 r = r

  skip_alike : {known known2 : Bool} {ids : List ℕ} {front : Front} → Skip known ids front known2 → (d d2 : Data) → Alongside c known d d2
      → IfSome (values c d ids) (λ vs. Alongside c known2 (with_parameters front vs d) d2)
  skip_alike skips d d2 r = r

  ask_alike : {known : Bool} {condition condition2 : ℕ} → Ask condition condition2 → (d d2 : Data) → Alongside c known d d2
      → Both SameTruth (words_of_value (value c d condition)) (words_of_value (value c d2 condition2))
  ask_alike asks_the_same d d2 r =
      subst (λ z. Both SameTruth (words_of_value (value c d 34)) (words_of_value z)) r.condition (both_same SameTruth (words_of_value (value c d 34))
      (λ ws. refl))

  decide_alike : {known : Bool} {condition : ℕ} {on : Bool} → Decide condition on → (d d2 : Data) → Alongside c known d d2
      → IfSome (words_of_value (value c d condition)) (λ ws. (number_in ws == 1) ≡ on)
  decide_alike decides d d2 r = subst (λ z. IfSome z (λ ws. (number_in ws == 1) ≡ true)) (sym r.decided) refl

  finish_alike : {words words2 : List ℕ} → Finish words words2 → (d d2 : Data)
      → Both (λ v v2. Unit {0}) (returned c (said words []) d) (returned c (said words2 []) d2)
  finish_alike finishes_both d d2 = tt

  example_local : Local (example_in c)
  example_local = record {
    turned = λ z g h words others d d2 e r. turn_alike e d d2 r;
    inserted = λ z g h others d d2 e r. absurd e;
    carried = λ z g h ids ids2 front front2 d d2 e r. carry_alike e d d2 r;
    asked = λ z g condition condition2 d d2 e r. ask_alike e d d2 r;
    selected = λ z g selector selector2 d d2 e r. absurd e;
    finished = λ z g words words2 d d2 e r. finish_alike e d d2;
    drops = record {
      passed = λ z g h ids front d d2 e r. skip_alike e d d2 r;
      decided = λ z g condition on d d2 e r. decide_alike e d d2 r;
      chosen = λ z g selector number d d2 e r. absurd e;
      inlined = λ g k h words callee e. absurd e;
      resumed = λ z g words d d2 e r. absurd e;
      never = λ z g d d2 e r. e;
    };
    adds = nothing_added (example_in c) refl;
  }

-- ---- the shape

may_store_shape : Shape edits None [] true (may_store 11) (may_store 31)
may_store_shape =
    shape.selects {h = true} asks_the_same refl
    (shape.enters_second (shape.enters (shape.turns store_changes (shape.leaves (inl (refl, refl, carries_nothing))))))
    (shape.leaves (inl (refl, refl, carries_nothing)))
    (shape.finishes finishes_both)

before_shape : Shape edits None [] false before after
before_shape =
    shape.turns load_goes (shape.turns copy_goes
    (shape.selects_arm {h = true} decides (shape.enters (shape.turns store_changes (shape.pends (inl (refl, skips, refl))))) may_store_shape))

named_alike : {f f2 : ℕ} → Name f f2 → Both (λ (function function2 : Function). Shape edits None [] false function.body function2.body) (functions_of before f)
    (functions_of after f2)
named_alike first_function = before_shape

functions_alike : (c : Setting) → FunctionsAlike (example_in c)
functions_alike c f f2 h = named_alike h

pub example_law : ExampleLaw
example_law c = (example_local c, functions_alike c)

begins : CallsAlike (example_in here) tt 1 [] no_data 1 [] no_data
unfolding setting statements_in
begins = (first_function, record { pointer = refl; source = refl; condition = refl; decided = refl; shared = refl; copied = λ is. absurd (cc is) })

pub example_keeps : ExampleKeeps
example_keeps = shape_keeps (example_in here) (example_local here) (functions_alike here) tt 1 1 [] [] no_data no_data begins
