-- 606: the functions of entry points are other ids than the new one, and so are their types; and the new instruction calls none.
use Rattle.std.proofs.Common.{◌≡◌, ℕ, Bool, true, false, not, ◌==◌, ◌&&◌, ◌||◌, List, length, Option, Some, None, refl, ap, ◌∙◌, eqb-true, cond}
use Rattle.std.specs.List.{slice_index}
use Rattle.std.specs.Option.{option_map_or}
use Rattle.spv_opcodes.specs.declared.op.TheConstants as op
use Rattle.spv_grammar.specs.Table.{row_of}
use Rattle.spv_module.specs.Instruction.{Instruction, opcode}
use Rattle.spv_module.specs.Layout.{is_entry_point}
use Rattle.spv_ids.specs.Ids.{definition, kind, word_of, words_of}
use Rattle.spv_typing.specs.Kinds.{is_void}
use Rattle.spv_walk.proofs.Unique.{both_hold, both_left, both_right}
use Rattle.spv_alike_uses.proofs.Used.{used_word, word_uses}
use Rattle.spv_entries.specs.Functions.{called_function, function_fits, may_be_entered}
use Rattle.spv_entries.specs.Sizes.{names, some_names}
use Rattle.spv_added.proofs.Walk.{Adding, FactOf, In, inst, is_foreign, no_opcode}
use Rattle.spv_added.proofs.Definitions.{old_definition, same_kind, same_word, same_words}
use Rattle.spv_added.proofs.Interfaces.{entry_function_stays}
use Rattle.spv_added.proofs.Sizes.{some_as_before}

function_uses : (word_uses 0 op.FUNCTION ≡ true) × (word_uses 3 op.FUNCTION ≡ true)
unfolding row_of
function_uses = (refl, refl)

foreign_kinds : (is_foreign op.FUNCTION_CALL ≡ true) × (is_foreign op.ENTRY_POINT ≡ true)
unfolding row_of
foreign_kinds = (refl, refl)

module _ (t : Adding) where
  -- the types of a function
  types_stay : (f : ℕ) → (kind t.before f == op.FUNCTION) ≡ true → In t (word_of t.before f 1) × In t (word_of t.before f 4)
  types_stay f h = by (definition t.before f) refl h
    where
      by : (o : Option Instruction) → definition t.before f ≡ o → (option_map_or opcode o 0 == op.FUNCTION) ≡ true
          → In t (option_map_or (λ i. slice_index i.words 1) o 0) × In t (option_map_or (λ i. slice_index i.words 4) o 0)
      by None e h = absurd (cc h)
      by (Some i) e h =
          let k = (old_definition t f i e).0 in
          let is : opcode i ≡ op.FUNCTION = eqb-true (opcode i) op.FUNCTION h in (
            used_word (In t) i k.whole k.free.used 0 (ap (word_uses 0) is ∙ function_uses.0),
            used_word (In t) i k.whole k.free.used 3 (ap (word_uses 3) is ∙ function_uses.1),
          )

  same_called : (f : ℕ) → some_names called_function t.after f ≡ some_names called_function t.before f
  same_called f =
      some_as_before t (λ ws. names (called_function (inst ws)) f) (λ ws. names (called_function (inst ws)) f)
      (ap (λ (b : Bool). names (cond b (Some (slice_index t.new.words 3)) None) f) (no_opcode t op.FUNCTION_CALL foreign_kinds.0)) (λ i k. refl)

  entered_stays : (f : ℕ) → In t f → may_be_entered t.before f ≡ true → may_be_entered t.after f ≡ true
  entered_stays f s h =
      let none : Bool = length (words_of t.before (word_of t.before f 4) 3) == 0 in
      let uncalled : Bool = not (some_names called_function t.before f) in
      let is_it = both_left (kind t.before f == op.FUNCTION) (is_void t.before (word_of t.before f 1) && (none && uncalled)) h in
      let rest = both_right (kind t.before f == op.FUNCTION) (is_void t.before (word_of t.before f 1) && (none && uncalled)) h in
      let void = both_left (is_void t.before (word_of t.before f 1)) (none && uncalled) rest in
      let last = both_right (is_void t.before (word_of t.before f 1)) (none && uncalled) rest in
      let types = types_stay f is_it in
      both_hold (kind t.after f == op.FUNCTION) _ (ap (λ (k : ℕ). k == op.FUNCTION) (same_kind t f s) ∙ is_it)
      (both_hold (is_void t.after (word_of t.after f 1)) _
      (ap (is_void t.after) (same_word t f s 1) ∙ ap (λ (k : ℕ). k == op.TYPE_VOID) (same_kind t (word_of t.before f 1) types.0) ∙ void)
      (both_hold (length (words_of t.after (word_of t.after f 4) 3) == 0) (not (some_names called_function t.after f))
      (ap (λ (u : ℕ). length (words_of t.after u 3) == 0) (same_word t f s 4)
      ∙ ap (λ (ws : List ℕ). length ws == 0) (same_words t (word_of t.before f 4) types.1 3) ∙ both_left none uncalled last)
      (ap not (same_called f) ∙ both_right none uncalled last)))

  -- of an instruction that was there
  pub function_stays : (i j : Instruction) → FactOf t i → j.words ≡ i.words → function_fits t.before i ≡ true → function_fits t.after j ≡ true
  unfolding function_fits
  function_stays i j f w h =
      ap (λ ws. not (is_entry_point (inst ws)) || may_be_entered t.after (slice_index ws 2)) w ∙ by (is_entry_point i) refl h
    where
      by : (b : Bool) → is_entry_point i ≡ b → (not b || may_be_entered t.before (slice_index i.words 2)) ≡ true
          → (not b || may_be_entered t.after (slice_index i.words 2)) ≡ true
      by false e h = refl
      by true p h = entered_stays (slice_index i.words 2) (entry_function_stays t i f p) h

  pub new_function : (j : Instruction) → j.words ≡ t.new.words → function_fits t.after j ≡ true
  unfolding function_fits
  new_function j w =
      ap (λ ws. not (is_entry_point (inst ws)) || may_be_entered t.after (slice_index ws 2)) w
      ∙ ap (λ (b : Bool). not b || may_be_entered t.after (slice_index t.new.words 2)) (no_opcode t op.ENTRY_POINT foreign_kinds.1)
