-- 603: of the variables outside functions those are left that are used, with their sets and bindings; so none before one of them is of the other class.
use Rattle.std.proofs.Common.{◌≡◌, ℕ, Bool, true, false, not, nat_eq, ◌==◌, ◌||◌, List, [], ◌∷◌, drop, take, filter, Option, Some, None, refl, sym, ap, ap₂, ◌∙◌, eqb-true, arith}
use Rattle.std.specs.List.{AllByRecursion, list_any, slice_index}
use Rattle.std.specs.Option.{option_map_or}
use Rattle.std.proofs.lemmas.Bool.Decides.{nat_tests}
use Rattle.spv_opcodes.specs.declared.op.TheConstants as op
use Rattle.spv_opcodes.specs.declared.decoration.TheConstants as decoration
use Rattle.spv_grammar.specs.Roles.{is_defined_id}
use Rattle.spv_grammar.specs.Table.{row_of}
use Rattle.spv_module.specs.Code.{is_function}
use Rattle.spv_module.specs.Instruction.{Instruction, opcode, word_with}
use Rattle.spv_meaning.specs.Constants.{first_literal}
use Rattle.spv_meaning.specs.Statements.{words_of}
use Rattle.spv_decorations.specs.Decorations.{decoration_of}
use Rattle.spv_declarations.proofs.Parts.{defined-typed, first_typed, row_test, typed-words}
use Rattle.spv_walk.proofs.Unique.{not_true}
use Rattle.spv_alike_uses.proofs.Lookups.{where_true}
use Rattle.spv_entries.specs.Bindings.{Slot, binding_fits, is_buffer, is_same_slot, other_class, slot_fits, slot_in, slot_of, stands_at}
use Rattle.spv_norm_entries.proofs.Lists.{none_filtered}
use Rattle.spv_thinned.proofs.Walk.{inst}
use Rattle.spv_thinned.proofs.Places.{no_function}
use Rattle.spv_thinned_entries.proofs.Cases.{FactOf, In, Thinning}
use Rattle.spv_thinned_entries.proofs.Kept.{all_kept, all_take, any_kept, any_on, any_same_words}

variable_typed : row_test first_typed (row_of op.VARIABLE) ≡ true
unfolding row_of
variable_typed = refl

itself : (k : ℕ) → nat_eq k k ≡ true
itself k = grind (arith, nat_tests)

module _ (t : Thinning) where
  -- a variable that is kept stays
  variable_stays : (i : Instruction) → FactOf t i → t.keep i ≡ true → (opcode i == op.VARIABLE) ≡ true → In t (slice_index i.words 2)
  variable_stays i f e h =
      let typed : row_test first_typed (row_of (opcode i)) ≡ true =
      ap (λ o. row_test first_typed (row_of o)) (eqb-true (opcode i) op.VARIABLE h) ∙ variable_typed in
      let w = typed-words i (opcode i) f.whole refl typed in
      let defined : word_with is_defined_id i ≡ Some (slice_index (drop 1 i.words) 1) = defined-typed i f.whole typed in
      let third : slice_index (drop 1 i.words) 1 ≡ slice_index i.words 2 =
      ap (λ ws. slice_index (drop 1 ws) 1) w.words_are ∙ sym (ap (λ ws. slice_index ws 2) w.words_are) in
      (f.kept e).defined (slice_index i.words 2)
      (ap (λ o. option_map_or (nat_eq (slice_index i.words 2)) o false) (defined ∙ ap Some third) ∙ itself (slice_index i.words 2))

  same_decoration : (id d : ℕ) → In t id → decoration_of t.after id d ≡ decoration_of t.before id d
  same_decoration id d s = ap first_literal (t.alike.decorations id d s)

  same_slot : (i : Instruction) → FactOf t i → t.keep i ≡ true → slot_of t.after i ≡ slot_of t.before i
  same_slot i f e =
      where_true (opcode i == op.VARIABLE) _ _ _ _
      (λ h. ap₂ (λ (set binding : Option ℕ). slot_in set binding (slice_index i.words 3))
      (same_decoration (slice_index i.words 2) decoration.DESCRIPTOR_SET (variable_stays i f e h))
      (same_decoration (slice_index i.words 2) decoration.BINDING (variable_stays i f e h)))
      refl

  -- the first instructions of what is left are those that are kept of the first of the module
  module _ (p q : ℕ) (front : words_of (take p t.after) ≡ words_of (filter t.keep (take q t.before))) where
    facts : AllByRecursion (FactOf t) (take q t.before)
    facts = all_take (FactOf t) q t.before t.facts

    begun : list_any is_function (take q t.before) ≡ list_any is_function (take p t.after)
    begun =
        sym (any_kept t.keep is_function (take q t.before) (each (take q t.before) facts))
        ∙ sym (any_same_words (λ ws. is_function (inst ws)) (take p t.after) (filter t.keep (take q t.before)) front)
      where
        each : (is : List Instruction) → AllByRecursion (FactOf t) is → AllByRecursion (λ i. t.keep i ≡ false → is_function i ≡ false) is
        each [] all = tt
        each (i ∷ is) all = (no_function t.gone t.keep t.before t.after t.thin t.facts i all.0, each is all.1)

    none_there : (slot : Slot) → list_any (stands_at t.before slot) (take q t.before) ≡ false → list_any (stands_at t.after slot) (take p t.after) ≡ false
    none_there slot h =
        any_same_words (λ ws. stands_at t.after slot (inst ws)) (take p t.after) (filter t.keep (take q t.before)) front
        ∙ any_on (λ i. FactOf t i × (t.keep i ≡ true)) (stands_at t.after slot) (stands_at t.before slot)
        (λ i k. ap (λ o. option_map_or (is_same_slot slot) o false) (same_slot i k.0 k.1)) (filter t.keep (take q t.before))
        (all_kept t.keep (FactOf t) (take q t.before) facts)
        ∙ none_filtered (stands_at t.before slot) t.keep (take q t.before) h

    slot_stays : (o : Option Slot) → slot_fits t.before (take q t.before) o ≡ true → slot_fits t.after (take p t.after) o ≡ true
    slot_stays None h = h
    slot_stays (Some slot) h =
        let there : Slot = (slot.0, slot.1, other_class slot.2) in
        ap not (none_there there (not_true (list_any (stands_at t.before there) (take q t.before)) h))

    pub binding_stays : (i j : Instruction) → FactOf t i → t.keep i ≡ true → j.words ≡ i.words → binding_fits t.before (take q t.before) i ≡ true
        → binding_fits t.after (take p t.after) j ≡ true
    unfolding binding_fits
    binding_stays i j f e w h =
        ap (λ ws. list_any is_function (take p t.after) || (not (is_buffer (inst ws)) || slot_fits t.after (take p t.after) (slot_of t.after (inst ws)))) w
        ∙ ap (λ o. list_any is_function (take p t.after) || (not (is_buffer i) || slot_fits t.after (take p t.after) o)) (same_slot i f e)
        ∙ by (list_any is_function (take p t.after)) (is_buffer i)
        (sym (ap (λ (b : Bool). b || (not (is_buffer i) || slot_fits t.before (take q t.before) (slot_of t.before i))) begun) ∙ h)
      where
        by : (a b : Bool) → (a || (not b || slot_fits t.before (take q t.before) (slot_of t.before i))) ≡ true
            → (a || (not b || slot_fits t.after (take p t.after) (slot_of t.before i))) ≡ true
        by true b h = refl
        by false false h = refl
        by false true h = slot_stays (slot_of t.before i) h
