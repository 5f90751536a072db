-- A function that is built and edited is built in the module that it then stands in.
use Rattle.std.proofs.Common.{◌≡◌, inl, inr, ◌≤◌, ℕ, Bool, true, false, ◌==◌, ◌&&◌, ◌||◌, not, List, [], ◌∷◌, refl, sym, ap, ◌∙◌, subst, true≢false, eqb-true, eq-eqb}
use Rattle.std.proofs.Math.Path.{fun_ext}
use Rattle.std.specs.List.{AllByRecursion, list_any}
use Rattle.spv_blocks.specs.Blocks.{has}
use Rattle.spv_bodies.specs.Bodies.{Function}
use Rattle.spv_functions.specs.Functions.{is_pointer}
use Rattle.spv_tree.specs.Sound.{fronts}
use Rattle.spv_structured.specs.Structured.{IsStructured}
use Rattle.spv_editing.specs.Editing.{edited_function}
use Rattle.spv_editing.proofs.Kept.{depth-kept}
use Rattle.spv_editing.proofs.Soundness.{sound-kept}
use Rattle.spv_fine.specs.Fine.{Ids, IsFine}
use Rattle.spv_fine.specs.Laws.{IsKnown, Told}
use Rattle.spv_fine_edits.specs.Laws.{Put, Replacing}
use Rattle.spv_fine_edits.proofs.Bools.{both_told, each_told}
use Rattle.spv_fine_edits.proofs.Dropped.{dropped}
use Rattle.spv_fine_edits.proofs.Lists.{one_or}
use Rattle.spv_fine_edits.proofs.Replaced.{replaced}
use Rattle.spv_structured_edits.proofs.Whole.{opens_stays, structured_stays}
use Rattle.spv_typed_edits.proofs.Edited.{typed_stays}
use Rattle.spv_built.proofs.Narrower.{Promises, function_less}
use Rattle.spv_built_edits.proofs.Normal.{normal_stays}
use Rattle.spv_built_edits.proofs.Short.{short_stays}
use Rattle.spv_built_edits.specs.Edits.{MovesOnly}
use Rattle.spv_built_edits.specs.Laws.{BuiltStays, BuiltWhereDropped, BuiltWhereReplaced}

pub built_stays : BuiltStays
built_stays before after e f promised fits fine h = record {
  sound = sound-kept e f fits.steps h.sound;
  opens = opens_stays e f h.opens;
  short = short_stays e f h.sound fits.short h.short;
  structured =
      structured_stays e (is_pointer after) f h.sound
      (subst (λ (test : ℕ → Bool). IsStructured test f) (sym (fun_ext fits.pointers)) h.structured);
  normal = normal_stays e f h.sound h.normal;
  shallow = subst (λ n. n ≤ 255) (sym (depth-kept e f.body)) h.shallow;
  typed = typed_stays before after e f h.sound h.opens fits.round fits.fitting fits.uses h.typed;
  promised = promised;
  fine = fine;
}

-- ---- what is promised, told by a test

-- a tree that is fine is so where the same is promised in other words
same_fine : (P R : (label id : ℕ) → Type 0) (Known : Ids) (f : Function) → ((label id : ℕ) → R label id → P label id) → ((label id : ℕ) → P label id → R label id)
    → IsFine Known P f → IsFine Known R f
same_fine P R Known f less more h = function_less P R less Known f (all_same (fronts f.body)) h where
  all_same : (labels : List ℕ) → AllByRecursion (Promises P R) labels
  all_same [] = tt
  all_same (label ∷ labels) = (record { all = more label }, all_same labels)

pub built_where_dropped : BuiltWhereDropped
built_where_dropped before after e gone f fits drops h =
    let test : ℕ → ℕ → Bool = λ label id. h.promised label id && not (gone id) in
    built_stays before after e f test fits
    (same_fine (λ label id. (h.promised label id ≡ true) × (gone id ≡ false)) (λ label. Told (test label)) (IsKnown after) (edited_function e f)
    (λ label id k. each_told (h.promised label id) (gone id) k) (λ label id k. both_told (h.promised label id) (gone id) k.0 k.1)
    (dropped (record { Known = IsKnown before; Promised = λ label. Told (h.promised label); KnownBehind = IsKnown after }) e gone f h.sound drops h.fine)) h

-- ---- what is put for what was promised

-- told by a test, where other ids are put for some alone: what was promised and what is put for it, but for what is gone
abbrev put_for : (moved : List ℕ) → Replacing → (promised : (label id : ℕ) → Bool) → (label id : ℕ) → Bool
put_for moved r promised label id = not (r.gone id) && (promised label id || list_any (λ x. promised label x && r.edit.uses x == id) moved)

both : (a b : Bool) → (a && b) ≡ true → (a ≡ true) × (b ≡ true)
both true b e = (refl, e)
both false b e = absurd (true≢false (sym e))

both_hold : (a b : Bool) → a ≡ true → b ≡ true → (a && b) ≡ true
both_hold true b e k = k
both_hold false b e k = absurd (true≢false (sym e))

first_holds : (a b : Bool) → a ≡ true → (a || b) ≡ true
first_holds true b e = refl
first_holds false b e = absurd (true≢false (sym e))

second_holds : (a b : Bool) → b ≡ true → (a || b) ≡ true
second_holds true b e = refl
second_holds false b e = e

module _ (r : Replacing) (promised : (label id : ℕ) → Bool) where
  abbrev moves_to : (label id x : ℕ) → Bool
  moves_to label id x = promised label x && r.edit.uses x == id

  -- some id of a list, and what is told of one
  some : (label id : ℕ) (moved : List ℕ) → list_any (moves_to label id) moved ≡ true → (x : ℕ) × (promised label x ≡ true) × (r.edit.uses x ≡ id)
  some label id [] e = absurd (true≢false (sym e))
  some label id (x ∷ moved) e = elim (one_or (moves_to label id x) (list_any (moves_to label id) moved) e) [
    | inl here ↦ let parts = both (promised label x) (r.edit.uses x == id) here in (x, parts.0, eqb-true (r.edit.uses x) id parts.1)
    | inr there ↦ some label id moved there
  ]

  one : (label id x : ℕ) (moved : List ℕ) → has moved x ≡ true → promised label x ≡ true → r.edit.uses x ≡ id → list_any (moves_to label id) moved ≡ true
  one label id x [] e p same = absurd (true≢false (sym e))
  one label id x (y ∷ moved) e p same = elim (one_or (y == x) (has moved x) e) [
    | inl here ↦
        let is : y ≡ x = eqb-true y x here in
        first_holds (moves_to label id y) (list_any (moves_to label id) moved)
        (both_hold (promised label y) (r.edit.uses y == id) (ap (promised label) is ∙ p) (eq-eqb (r.edit.uses y) id (ap r.edit.uses is ∙ same)))
    | inr there ↦ second_holds (moves_to label id y) (list_any (moves_to label id) moved) (one label id x moved there p same)
  ]

  module _ (moved : List ℕ) (only : MovesOnly moved r.edit) where
    told_is_put : (label id : ℕ) → put_for moved r promised label id ≡ true → Put r (Told (promised label)) id
    told_is_put label id k =
        let parts = both (not (r.gone id)) (promised label id || list_any (moves_to label id) moved) k in (
          not_gone (r.gone id) parts.0,
          elim (one_or (promised label id) (list_any (moves_to label id) moved) parts.1) [
            | inl here ↦ (id, here, inl refl)
            | inr there ↦ let found = some label id moved there in (found.0, found.1, inr (sym found.2))
          ],
        )
      where
        not_gone : (b : Bool) → not b ≡ true → b ≡ false
        not_gone true e = sym e
        not_gone false e = refl

    put_is_told : (label id : ℕ) → Put r (Told (promised label)) id → put_for moved r promised label id ≡ true
    put_is_told label id put =
        both_hold (not (r.gone id)) (promised label id || list_any (moves_to label id) moved) (ap not put.0)
        (elim put.1.2 [
          | inl same ↦ first_holds (promised label id) (list_any (moves_to label id) moved) (ap (promised label) same ∙ put.1.1)
          | inr same ↦ by (has moved put.1.0) refl same
        ])
      where
        by : (b : Bool) → has moved put.1.0 ≡ b → id ≡ r.edit.uses put.1.0 → (promised label id || list_any (moves_to label id) moved) ≡ true
        by true e same =
            second_holds (promised label id) (list_any (moves_to label id) moved) (one label id put.1.0 moved e put.1.1 (sym same))
        by false e same =
            first_holds (promised label id) (list_any (moves_to label id) moved) (ap (promised label) (same ∙ only put.1.0 e) ∙ put.1.1)

pub built_where_replaced : BuiltWhereReplaced
built_where_replaced before after r moved f fits only puts offers h =
    built_stays before after r.edit f (put_for moved r h.promised) fits
    (same_fine (λ label. Put r (Told (h.promised label))) (λ label. Told (put_for moved r h.promised label)) (IsKnown after) (edited_function r.edit f)
    (told_is_put r h.promised moved only) (put_is_told r h.promised moved only)
    (replaced (record { Known = IsKnown before; Promised = λ label. Told (h.promised label); KnownBehind = IsKnown after }) r f h.sound puts
    (offers h.promised h.fine) h.fine)) h
