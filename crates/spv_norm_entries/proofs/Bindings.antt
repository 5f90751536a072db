-- 603 and 604: what stays before an instruction stood before it, so bindings and names that fit still do.
use Rattle.std.proofs.Common.{◌≡◌, ℕ, Bool, true, false, cond, not, ◌==◌, ◌&&◌, ◌||◌, List, filter, slice_index, Option, Some, None, refl, sym, ap, ◌∙◌}
use Rattle.std.specs.List.{list_any}
use Rattle.std.specs.Option.{option_map_or}
use Rattle.spv_opcodes.specs.declared.op.TheConstants as op
use Rattle.spv_opcodes.specs.declared.decoration.TheConstants as decoration
use Rattle.spv_opcodes.specs.declared.storage_class.TheConstants as storage_class
use Rattle.spv_module.specs.Code.{is_function}
use Rattle.spv_module.specs.Instruction.{Instruction, opcode}
use Rattle.spv_module.specs.Layout.{is_entry_point}
use Rattle.spv_decorations.specs.Decorations.{decoration_of}
use Rattle.spv_walk.proofs.Unique.{not_true, right_holds}
use Rattle.spv_tree.specs.Tree.{words_of}
use Rattle.spv_entries.specs.Bindings.{Slot, binding_fits, is_buffer, is_same_slot, other_class, slot_fits, slot_in, slot_of, stands_at}
use Rattle.spv_entries.specs.Names.{entry_name, has_name, name_fits}
use Rattle.spv_alike.specs.Alike.{AreAlike}
use Rattle.spv_norm_entries.proofs.Lists.{any_same, any_words, inst_of, none_filtered}
use Rattle.spv_norm_entries.proofs.Lookups.{same_decoration}

-- a test of words that none passed, none of those that stay passes
none_stays : (p : List ℕ → Bool) (test : Instruction → Bool) (before after : List Instruction) → words_of after ≡ words_of (filter test before)
    → list_any (λ (i : Instruction). p i.words) before ≡ false → list_any (λ (i : Instruction). p i.words) after ≡ false
none_stays p test before after e h =
    any_words p after ∙ ap (list_any p) e ∙ sym (any_words p (filter test before)) ∙ none_filtered (λ (i : Instruction). p i.words) test before h

-- ---- 604

pub name_stays : (test : Instruction → Bool) (before after : List Instruction) (i j : Instruction) → words_of after ≡ words_of (filter test before)
    → j.words ≡ i.words → name_fits before i ≡ true → name_fits after j ≡ true
unfolding name_fits
name_stays test before after i j e s h =
    ap (λ w. not (is_entry_point (inst_of w) && list_any (has_name (entry_name (inst_of w))) after)) s
    ∙ by (is_entry_point i) (list_any (has_name (entry_name i)) before) refl h
  where
    by : (a b : Bool) → list_any (has_name (entry_name i)) before ≡ b → not (a && b) ≡ true → not (a && list_any (has_name (entry_name i)) after) ≡ true
    by false b g h = refl
    by true true g h = absurd (cc h)
    by true false g h = ap not (none_stays (λ w. has_name (entry_name i) (inst_of w)) test before after e g)

-- what is no entry point passes
pub no_name : (before : List Instruction) (i : Instruction) → is_entry_point i ≡ false → name_fits before i ≡ true
unfolding name_fits
no_name before i h = ap (λ (b : Bool). not (b && list_any (has_name (entry_name i)) before)) h

-- ---- 603

or_right : (a b : Bool) → a ≡ false → (a || b) ≡ true → b ≡ true
or_right true b e h = absurd (cc e)
or_right false b e h = h

-- behind an OpFunction each passes
pub binding_behind : (insts before : List Instruction) (i : Instruction) → list_any is_function before ≡ true → binding_fits insts before i ≡ true
unfolding binding_fits
binding_behind insts before i h = ap (λ (b : Bool). b || (not (is_buffer i) || slot_fits insts before (slot_of insts i))) h

-- and what is no variable
pub no_binding : (insts before : List Instruction) (i : Instruction) → (opcode i == op.VARIABLE) ≡ false → binding_fits insts before i ≡ true
unfolding binding_fits
no_binding insts before i h =
    right_holds (list_any is_function before) (not (is_buffer i) || slot_fits insts before (slot_of insts i))
    (ap
    (λ (b : Bool). not (b && (slice_index i.words 3 == storage_class.UNIFORM || slice_index i.words 3 == storage_class.STORAGE_BUFFER))
    || slot_fits insts before (slot_of insts i)) h)

module _ (insts again : List Instruction) (a : AreAlike insts again) where
  same_slot : (i : Instruction) → slot_of again i ≡ slot_of insts i
  same_slot i =
      let id : ℕ = slice_index i.words 2 in
      ap (λ o. cond (opcode i == op.VARIABLE) (slot_in o (decoration_of again id decoration.BINDING) (slice_index i.words 3)) None)
      (same_decoration insts again a id decoration.DESCRIPTOR_SET)
      ∙ ap (λ o. cond (opcode i == op.VARIABLE) (slot_in (decoration_of insts id decoration.DESCRIPTOR_SET) o (slice_index i.words 3)) None)
      (same_decoration insts again a id decoration.BINDING)

  same_stands : (slot : Slot) (i : Instruction) → stands_at again slot i ≡ stands_at insts slot i
  same_stands slot i = ap (λ o. option_map_or (is_same_slot slot) o false) (same_slot i)

  slot_stays : (test : Instruction → Bool) (before after : List Instruction) (o : Option Slot) → words_of after ≡ words_of (filter test before)
      → slot_fits insts before o ≡ true → slot_fits again after o ≡ true
  slot_stays test before after None e h = h
  slot_stays test before after (Some slot) e h =
      let there : Slot = (slot.0, slot.1, other_class slot.2) in
      ap not
      (any_same (stands_at again there) (stands_at insts there) after (same_stands there)
      ∙ none_stays (λ w. stands_at insts there (inst_of w)) test before after e (not_true (list_any (stands_at insts there) before) h))

  pub binding_stays : (test : Instruction → Bool) (before after : List Instruction) (i j : Instruction) → words_of after ≡ words_of (filter test before)
      → j.words ≡ i.words → list_any is_function before ≡ false → binding_fits insts before i ≡ true → binding_fits again after j ≡ true
  unfolding binding_fits
  binding_stays test before after i j e s none h =
      right_holds (list_any is_function after) (not (is_buffer j) || slot_fits again after (slot_of again j))
      (ap (λ o. not (is_buffer j) || slot_fits again after o) (same_slot j)
      ∙ ap (λ w. not (is_buffer (inst_of w)) || slot_fits again after (slot_of insts (inst_of w))) s
      ∙ by (is_buffer i) (or_right (list_any is_function before) (not (is_buffer i) || slot_fits insts before (slot_of insts i)) none h))
    where
      by : (b : Bool) → (not b || slot_fits insts before (slot_of insts i)) ≡ true → (not b || slot_fits again after (slot_of insts i)) ≡ true
      by false h = refl
      by true h = slot_stays test before after (slot_of insts i) e h
