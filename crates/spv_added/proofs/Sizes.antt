-- 605: the modes are those before, and what they name are other ids than the new one.
use Rattle.std.proofs.Common.{◌≡◌, ℕ, ◌+◌, Bool, true, false, cond, not, nat_eq, nat_lt, ◌==◌, ◌&&◌, ◌||◌, List, drop, Option, Some, None, refl, sym, ap, ap₂, ◌∙◌, eqb-true, arith}
use Rattle.std.specs.Prelude.{count_by}
use Rattle.std.specs.List.{AllByRecursion, list_any, slice_index}
use Rattle.std.proofs.lemmas.Bool.{and_parts}
use Rattle.std.proofs.lemmas.List.Sums.{sum_by-cons}
use Rattle.spv_opcodes.specs.declared.op.TheConstants as op
use Rattle.spv_opcodes.specs.declared.builtin.TheConstants as builtin
use Rattle.spv_opcodes.specs.declared.decoration.TheConstants as decoration
use Rattle.spv_opcodes.specs.declared.execution_mode.TheConstants as execution_mode
use Rattle.spv_grammar.specs.Table.{row_of}
use Rattle.spv_module.specs.Instruction.{Instruction, opcode}
use Rattle.spv_module.specs.Layout.{is_entry_point}
use Rattle.spv_repeats.specs.Repeats.{is_workgroup_size}
use Rattle.spv_typing.specs.Kinds.{is_constant, type_of}
use Rattle.spv_typing.specs.Operations.{has_shape, shape}
use Rattle.spv_alike_uses.proofs.Lookups.{and_on, and_true, same_constant, same_shape, same_type_of, type_of_stays}
use Rattle.spv_alike_uses.proofs.Used.{end_uses, used_word, used_words, word_uses}
use Rattle.spv_entries.specs.Sizes.{entry_function, id_function, is_mode, is_no_size, is_sized, literal_function, names, size_fits, sizes_all, sizes_unfit, some_names, unfit_function}
use Rattle.spv_added.proofs.Walk.{Adding, FactOf, In, along, inst, is_foreign, no_opcode}
use Rattle.spv_added.proofs.Cases.{case_of}
use Rattle.spv_added.proofs.Lists.{any_on}

size_uses : (end_uses 2 op.EXECUTION_MODE_ID ≡ true) × (word_uses 0 op.DECORATE ≡ true)
unfolding row_of
size_uses = (refl, refl)

foreign_kinds : (is_foreign op.ENTRY_POINT ≡ true) × (is_foreign op.EXECUTION_MODE ≡ true) × (is_foreign op.EXECUTION_MODE_ID ≡ true)
    × (is_foreign op.DECORATE ≡ true)
unfolding row_of
foreign_kinds = (refl, refl, refl, refl)

and_none : (b : Bool) → (b && false) ≡ false
and_none true = refl
and_none false = refl

none_more : (n : ℕ) → 0 + n ≡ n
none_more n = omega arith

module _ (t : Adding) where
  -- ---- what the new instruction is not

  no_entry : (opcode t.new == op.ENTRY_POINT) ≡ false
  no_entry = no_opcode t op.ENTRY_POINT foreign_kinds.0

  no_mode : (opcode t.new == op.EXECUTION_MODE) ≡ false
  no_mode = no_opcode t op.EXECUTION_MODE foreign_kinds.1

  no_mode_by_ids : (opcode t.new == op.EXECUTION_MODE_ID) ≡ false
  no_mode_by_ids = no_opcode t op.EXECUTION_MODE_ID foreign_kinds.2

  -- ---- a test that it does not pass

  pub some_as_before : (p q : List ℕ → Bool) → p t.new.words ≡ false → ((i : Instruction) → FactOf t i → p i.words ≡ q i.words)
      → list_any (λ (i : Instruction). p i.words) t.after ≡ list_any (λ (i : Instruction). q i.words) t.before
  some_as_before p q none same =
      along t (λ is js. list_any (λ (i : Instruction). p i.words) js ≡ list_any (λ (i : Instruction). q i.words) is) refl
      (λ j is js b w h. ap (λ (c : Bool). c || list_any (λ (i : Instruction). p i.words) js) (ap p w ∙ none) ∙ h)
      (λ i j is js f w h. ap₂ (λ (a b : Bool). a || b) (ap p w ∙ same i f) h)

  as_often : (p : List ℕ → Bool) → p t.new.words ≡ false
      → count_by (λ (i : Instruction). p i.words) t.after ≡ count_by (λ (i : Instruction). p i.words) t.before
  as_often p none =
      along t (λ is js. count_by (λ (i : Instruction). p i.words) js ≡ count_by (λ (i : Instruction). p i.words) is) refl
      (λ j is js b w h. sum_by-cons (λ (i : Instruction). cond (p i.words) 1 0) j js
      ∙ ap (λ (c : Bool). cond c 1 0 + count_by (λ (i : Instruction). p i.words) js) (ap p w ∙ none)
      ∙ none_more (count_by (λ (i : Instruction). p i.words) js) ∙ h)
      (λ i j is js f w h. sum_by-cons (λ (i : Instruction). cond (p i.words) 1 0) j js ∙ ap₂ (λ (c : Bool) n. cond c 1 0 + n) (ap p w) h
      ∙ sym (sum_by-cons (λ (i : Instruction). cond (p i.words) 1 0) i is))

  abbrev named : (Instruction → Option ℕ) → (f : ℕ) → List ℕ → Bool
  named kind f ws = names (kind (inst ws)) f

  literal_misses : (f : ℕ) → named literal_function f t.new.words ≡ false
  literal_misses f =
      ap (λ (b : Bool). names (cond (b && slice_index t.new.words 2 == execution_mode.LOCAL_SIZE) (Some (slice_index t.new.words 1)) None) f) no_mode

  id_misses : (f : ℕ) → named id_function f t.new.words ≡ false
  id_misses f =
      ap (λ (b : Bool). names (cond (b && slice_index t.new.words 2 == execution_mode.LOCAL_SIZE_ID) (Some (slice_index t.new.words 1)) None) f) no_mode_by_ids

  entry_misses : (f : ℕ) → named entry_function f t.new.words ≡ false
  entry_misses f = ap (λ (b : Bool). names (cond b (Some (slice_index t.new.words 2)) None) f) no_entry

  -- ---- sizes that do not fit

  same_no_size : (id : ℕ) → In t id → is_no_size t.after id ≡ is_no_size t.before id
  same_no_size id s =
      ap not
      (and_on (is_constant t.after id) (is_constant t.before id) _ _ (same_constant (case_of t) id s)
      (λ h. ap (λ (u : ℕ). has_shape false 1 (shape t.after u)) (same_type_of (case_of t) id s h)
      ∙ ap (has_shape false 1) (same_shape (case_of t) (type_of t.before id) (type_of_stays (case_of t) id s h))))

  sizes_stay : (i : Instruction) → FactOf t i → (opcode i == op.EXECUTION_MODE_ID) ≡ true → AllByRecursion (In t) (drop 3 i.words)
  sizes_stay i f h = used_words (In t) i f.whole f.free.used 2 (ap (end_uses 2) (eqb-true (opcode i) op.EXECUTION_MODE_ID h) ∙ size_uses.0)

  -- the function of a LocalSize or LocalSizeId, where a test of its ids is passed
  abbrev unfit_by : (i : Instruction) (mode by_ids unfit : Bool) → Option ℕ
  unfit_by i m d x =
      cond
      (cond m (list_any (nat_eq 0) (drop 3 i.words)) x
      && (names (cond (m && slice_index i.words 2 == execution_mode.LOCAL_SIZE) (Some (slice_index i.words 1)) None) (slice_index i.words 1)
      || names (cond (d && slice_index i.words 2 == execution_mode.LOCAL_SIZE_ID) (Some (slice_index i.words 1)) None) (slice_index i.words 1)))
      (Some (slice_index i.words 1)) None

  same_unfit : (i : Instruction) → FactOf t i → unfit_function t.after i ≡ unfit_function t.before i
  same_unfit i f =
      by (opcode i == op.EXECUTION_MODE) (opcode i == op.EXECUTION_MODE_ID) (list_any (is_no_size t.after) ids) (list_any (is_no_size t.before) ids)
      (λ h. any_on (In t) (is_no_size t.after) (is_no_size t.before) same_no_size ids (sizes_stay i f h))
    where
      ids : List ℕ
      ids = drop 3 i.words

      by : (m d x y : Bool) → (d ≡ true → x ≡ y) → unfit_by i m d x ≡ unfit_by i m d y
      by true d x y h = refl
      by false true x y h = ap (unfit_by i false true) (h refl)
      by false false x y h =
          ap (λ (b : Bool). cond b (Some (slice_index i.words 1)) None) (and_none x)
          ∙ sym (ap (λ (b : Bool). cond b (Some (slice_index i.words 1)) None) (and_none y))

  unfit_misses : (f : ℕ) → named (unfit_function t.after) f t.new.words ≡ false
  unfit_misses f =
      let n = inst t.new.words in
      let w = slice_index t.new.words 1 in
      ap (λ (b : Bool). names (cond (sizes_unfit t.after n && (b || names (id_function n) w)) (Some w) None) f) (literal_misses w)
      ∙ ap (λ (b : Bool). names (cond (sizes_unfit t.after n && b) (Some w) None) f) (id_misses w)
      ∙ ap (λ (b : Bool). names (cond b (Some w) None) f) (and_none (sizes_unfit t.after n))

  some_unfit : (f : ℕ) → some_names (unfit_function t.after) t.after f ≡ some_names (unfit_function t.before) t.before f
  some_unfit f =
      some_as_before (named (unfit_function t.after) f) (named (unfit_function t.before) f) (unfit_misses f) (λ i k. ap (λ o. names o f) (same_unfit i k))

  -- ---- a constant that is the size of all

  all_sized : list_any (sizes_all t.after) t.after ≡ list_any (sizes_all t.before) t.before
  all_sized =
      some_as_before (λ ws. sizes_all t.after (inst ws)) (λ ws. sizes_all t.before (inst ws))
      (ap (λ (b : Bool). (b && (slice_index t.new.words 2 == decoration.BUILTIN && slice_index t.new.words 3 == builtin.WORKGROUP_SIZE))
      && is_constant t.after (slice_index t.new.words 1)) (no_opcode t op.DECORATE foreign_kinds.3))
      (λ i f.
      and_true (is_workgroup_size i) (is_constant t.after (slice_index i.words 1)) (is_constant t.before (slice_index i.words 1))
      (λ h. same_constant (case_of t) (slice_index i.words 1)
      (used_word (In t) i f.whole f.free.used 0
      (ap (word_uses 0) (eqb-true (opcode i) op.DECORATE
      (and_parts (opcode i == op.DECORATE) (slice_index i.words 2 == decoration.BUILTIN && slice_index i.words 3 == builtin.WORKGROUP_SIZE) h).0)
      ∙ size_uses.1))))

  -- ---- the rule

  same_sized : (f : ℕ) → is_sized t.after f ≡ is_sized t.before f
  same_sized f = λ k.
      (literal k || (by_ids k || all_sized k)) && (not (nat_lt 1 (literals k)) && (not (nat_lt 1 (all_by_ids k)) && not (some_unfit f k)))
    where
      literal : some_names literal_function t.after f ≡ some_names literal_function t.before f
      literal = some_as_before (named literal_function f) (named literal_function f) (literal_misses f) (λ i k. refl)

      by_ids : some_names id_function t.after f ≡ some_names id_function t.before f
      by_ids = some_as_before (named id_function f) (named id_function f) (id_misses f) (λ i k. refl)

      literals : count_by (λ (i : Instruction). names (literal_function i) f) t.after ≡ count_by (λ (i : Instruction). names (literal_function i) f) t.before
      literals = as_often (named literal_function f) (literal_misses f)

      all_by_ids : count_by (λ (i : Instruction). names (id_function i) f) t.after ≡ count_by (λ (i : Instruction). names (id_function i) f) t.before
      all_by_ids = as_often (named id_function f) (id_misses f)

  -- of an instruction that was there
  pub size_stays : (i j : Instruction) → j.words ≡ i.words → size_fits t.before i ≡ true → size_fits t.after j ≡ true
  unfolding size_fits
  size_stays i j w h =
      ap
      (λ ws. cond (is_entry_point (inst ws)) (is_sized t.after (slice_index ws 2))
      (not (is_mode (inst ws)) || some_names entry_function t.after (slice_index ws 1))) w
      ∙ ap₂ (λ (a b : Bool). cond (is_entry_point i) a (not (is_mode i) || b)) (same_sized (slice_index i.words 2))
      (some_as_before (named entry_function (slice_index i.words 1)) (named entry_function (slice_index i.words 1)) (entry_misses (slice_index i.words 1))
      (λ i k. refl))
      ∙ h

  -- and the new one is no entry point and no mode
  pub new_size : (j : Instruction) → j.words ≡ t.new.words → size_fits t.after j ≡ true
  unfolding size_fits
  new_size j w =
      ap
      (λ ws. cond (is_entry_point (inst ws)) (is_sized t.after (slice_index ws 2))
      (not (is_mode (inst ws)) || some_names entry_function t.after (slice_index ws 1))) w
      ∙ (λ k. cond (no_entry k) (is_sized t.after (slice_index t.new.words 2))
      (not (no_mode k || no_mode_by_ids k) || some_names entry_function t.after (slice_index t.new.words 1)))
