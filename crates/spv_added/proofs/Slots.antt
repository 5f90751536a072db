-- 603 and 604: in front of an instruction that was there stand the same variables and entry points; and behind the new one no global variable stands.
use Rattle.std.proofs.Common.{◌≡◌, ℕ, Bool, true, false, cond, not, nat_eq, ◌==◌, ◌&&◌, ◌||◌, List, [], ◌∷◌, ◌++◌, Option, Some, None, refl, sym, ap, ap₂, subst, ◌∙◌, append-nil, eqb-true}
use Rattle.std.specs.List.{AllByRecursion, list_any, slice_index}
use Rattle.std.specs.Option.{option_map_or}
use Rattle.std.specs.Cmp.Lexicographic.{pointwise}
use Rattle.spv_opcodes.specs.declared.op.TheConstants as op
use Rattle.spv_opcodes.specs.declared.decoration.TheConstants as decoration
use Rattle.spv_opcodes.specs.declared.storage_class.TheConstants as storage_class
use Rattle.spv_grammar.specs.Table.{row_of}
use Rattle.spv_module.specs.Code.{is_function}
use Rattle.spv_module.specs.Instruction.{Instruction, opcode}
use Rattle.spv_module.specs.Layout.{is_entry_point}
use Rattle.spv_meaning.specs.Constants.{first_literal}
use Rattle.spv_meaning.specs.Statements.{words_of}
use Rattle.spv_entries.specs.Bindings.{Slot, binding_fits, is_buffer, is_same_slot, other_class, slot_fits, slot_in, slot_of, stands_at}
use Rattle.spv_entries.specs.Names.{entry_name, has_name, name_fits}
use Rattle.spv_added.specs.Added.{starts_function}
use Rattle.spv_added.proofs.Walk.{Adding, FactOf, inst, is_foreign, no_opcode}
use Rattle.spv_added.proofs.Coming.{More, Same, Stand, stand_along}
use Rattle.spv_added.proofs.Lists.{any_back, any_words, behind_same}
use Rattle.spv_added.proofs.Said.{same_decorations}

entry_foreign : is_foreign op.ENTRY_POINT ≡ true
unfolding row_of
entry_foreign = refl

first_starts : (y : Instruction) (ys rest : List Instruction) → rest ≡ y ∷ ys → starts_function rest ≡ true → is_function y ≡ true
first_starts y ys rest e h = subst (λ is. starts_function is ≡ true) e h

no_buffer : (i : Instruction) → is_function i ≡ true → is_buffer i ≡ false
no_buffer i h =
    ap (λ (o : ℕ). o == op.VARIABLE && (slice_index i.words 3 == storage_class.UNIFORM || slice_index i.words 3 == storage_class.STORAGE_BUFFER))
    (eqb-true (opcode i) op.FUNCTION h)

module _ (t : Adding) where
  -- ---- 603

  same_slot : (i j : Instruction) → j.words ≡ i.words → slot_of t.after j ≡ slot_of t.before i
  same_slot i j w =
      ap (λ ws. slot_of t.after (inst ws)) w
      ∙ ap₂ (λ (a b : Option ℕ). cond (opcode i == op.VARIABLE) (slot_in a b (slice_index i.words 3)) None)
      (ap first_literal (same_decorations t (slice_index i.words 2) decoration.DESCRIPTOR_SET))
      (ap first_literal (same_decorations t (slice_index i.words 2) decoration.BINDING))

  same_fit : (pre qs : List Instruction) → words_of qs ≡ words_of pre → (o : Option Slot) → slot_fits t.after qs o ≡ slot_fits t.before pre o
  same_fit pre qs e None = refl
  same_fit pre qs e (Some slot) =
      ap not
      (any_words (stands_at t.after (slot.0, slot.1, other_class slot.2)) (stands_at t.before (slot.0, slot.1, other_class slot.2))
      (λ i j w. ap (λ o. option_map_or (is_same_slot (slot.0, slot.1, other_class slot.2)) o false) (same_slot i j w)) pre qs e)

  binding_by : (before : List Instruction) (i : Instruction) → is_buffer i ≡ false → binding_fits t.after before i ≡ true
  unfolding binding_fits
  binding_by before i h =
      ap (λ (b : Bool). list_any is_function before || (not b || slot_fits t.after before (slot_of t.after i))) h ∙ by (list_any is_function before)
    where
      by : (b : Bool) → (b || true) ≡ true
      by true = refl
      by false = refl

  binding_begun : (before : List Instruction) (i : Instruction) → list_any is_function before ≡ true → binding_fits t.after before i ≡ true
  unfolding binding_fits
  binding_begun before i h = ap (λ (b : Bool). b || (not (is_buffer i) || slot_fits t.after before (slot_of t.after i))) h

  -- of an instruction that was there
  pub binding_stays : (pre qs : List Instruction) (i j : Instruction) (post : List Instruction) → t.before ≡ pre ++ i ∷ post → Stand t.new t.front pre qs
      → j.words ≡ i.words → binding_fits t.before pre i ≡ true → binding_fits t.after qs j ≡ true
  unfolding binding_fits
  binding_stays pre qs i j post cut (Same e) w h =
      ap₂ (λ (ws : List ℕ) o. list_any is_function qs || (not (is_buffer (inst ws)) || slot_fits t.after qs o)) w (same_slot i j w)
      ∙ ap₂ (λ (a b : Bool). a || (not (is_buffer i) || b))
      (any_words is_function is_function (λ x y v. ap (λ ws. is_function (inst ws)) v) pre qs e) (same_fit pre qs e (slot_of t.before i))
      ∙ h
  binding_stays pre qs i j post cut (More [] is s e) w h =
      let whole : i ∷ post ≡ t.rest =
      behind_same t.front (i ∷ post) t.rest
      (ap (λ z. z ++ i ∷ post) (sym (append-nil t.front)) ∙ ap (λ z. z ++ i ∷ post) (sym is) ∙ sym cut ∙ t.added.parts) in
      binding_by qs j (ap (λ ws. is_buffer (inst ws)) w ∙ no_buffer i (first_starts i post t.rest (sym whole) t.added.functions))
  binding_stays pre qs i j post cut (More (x ∷ xs) is s e) w h = binding_begun qs j (begun qs t.front e)
    where
      -- one of those in front begins a function
      begun : (qs front : List Instruction) → words_of qs ≡ words_of front ++ t.new.words ∷ words_of (x ∷ xs) → list_any is_function qs ≡ true
      begun qs front e =
          any_tests qs (words_of front ++ t.new.words ∷ words_of (x ∷ xs)) e
          ∙ any_back (λ ws. is_function (inst ws)) (words_of front) (t.new.words ∷ words_of (x ∷ xs))
          (ap (λ (b : Bool). is_function t.new || (b || list_any (λ ws. is_function (inst ws)) (words_of xs))) s ∙ by (is_function t.new))
        where
          by : (b : Bool) → (b || true) ≡ true
          by true = refl
          by false = refl

          any_tests : (is : List Instruction) (ws : List (List ℕ)) → words_of is ≡ ws → list_any is_function is ≡ list_any (λ ws. is_function (inst ws)) ws
          any_tests [] [] e = refl
          any_tests [] (w ∷ ws) e = absurd (cc e)
          any_tests (i ∷ is) [] e = absurd (cc e)
          any_tests (i ∷ is) (w ∷ ws) e =
              let here : i.words ≡ w = cc e in
              let later : words_of is ≡ ws = cc e in
              ap₂ (λ (a b : Bool). a || b) (ap (λ ws. is_function (inst ws)) here) (any_tests is ws later)

  pub new_binding : (qs : List Instruction) (j : Instruction) → is_buffer t.new ≡ false → j.words ≡ t.new.words → binding_fits t.after qs j ≡ true
  new_binding qs j h w = binding_by qs j (ap (λ ws. is_buffer (inst ws)) w ∙ h)

  -- ---- 604

  no_entry : (name : List ℕ) (j : Instruction) → j.words ≡ t.new.words → has_name name j ≡ false
  no_entry name j w =
      ap (λ ws. has_name name (inst ws)) w
      ∙ ap (λ (b : Bool). b && pointwise nat_eq name (entry_name t.new)) (no_opcode t op.ENTRY_POINT entry_foreign)

  pub name_stays : (pre qs : List Instruction) (i j : Instruction) → AllByRecursion (FactOf t) pre → Stand t.new t.front pre qs → j.words ≡ i.words
      → name_fits pre i ≡ true → name_fits qs j ≡ true
  unfolding name_fits
  name_stays pre qs i j all stand w h =
      ap (λ ws. not (is_entry_point (inst ws) && list_any (has_name (entry_name (inst ws))) qs)) w
      ∙ ap (λ b. not (is_entry_point i && b))
      (stand_along t.new (FactOf t) (λ is js. list_any (has_name (entry_name i)) js ≡ list_any (has_name (entry_name i)) is) refl
      (λ j is js b w h. ap (λ (c : Bool). c || list_any (has_name (entry_name i)) js) (no_entry (entry_name i) j w) ∙ h)
      (λ x y is js f w h. ap₂ (λ (a b : Bool). a || b) (ap (λ ws. has_name (entry_name i) (inst ws)) w) h) t.front pre qs all stand)
      ∙ h

  pub new_name : (qs : List Instruction) (j : Instruction) → j.words ≡ t.new.words → name_fits qs j ≡ true
  unfolding name_fits
  new_name qs j w =
      ap (λ ws. not (is_entry_point (inst ws) && list_any (has_name (entry_name (inst ws))) qs)) w
      ∙ ap (λ (b : Bool). not (b && list_any (has_name (entry_name t.new)) qs)) (no_opcode t op.ENTRY_POINT entry_foreign)
