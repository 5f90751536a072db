-- 603 to 606: each test of an instruction answers as it did before.
use Rattle.std.proofs.Common.{◌≡◌, inl, inr, ℕ, Bool, true, false, cond, not, nat_eq, nat_lt, ◌==◌, ◌&&◌, ◌||◌, List, drop, length, take, Option, Some, None, refl, sym, ap, ap₂, ◌∙◌, eqb-true}
use Rattle.std.specs.List.{list_any, slice_index}
use Rattle.std.specs.Option.{option_map_or}
use Rattle.std.specs.Cmp.Lexicographic.{pointwise}
use Rattle.spv_opcodes.specs.declared.builtin.TheConstants as builtin
use Rattle.spv_opcodes.specs.declared.decoration.TheConstants as decoration
use Rattle.spv_opcodes.specs.declared.execution_mode.TheConstants as execution_mode
use Rattle.spv_opcodes.specs.declared.op.TheConstants as op
use Rattle.spv_opcodes.specs.declared.storage_class.TheConstants as storage_class
use Rattle.spv_module.specs.Code.{is_function}
use Rattle.spv_module.specs.Instruction.{Instruction, opcode}
use Rattle.spv_module.specs.Layout.{is_entry_point}
use Rattle.spv_meaning.specs.Constants.{first_literal}
use Rattle.spv_ids.specs.Ids.{kind, word_of, words_of}
use Rattle.spv_repeats.specs.Repeats.{is_workgroup_size}
use Rattle.spv_typing.specs.Kinds.{is_constant, is_one_of, is_void, type_of}
use Rattle.spv_typing.specs.Operations.{has_shape, shape}
use Rattle.spv_decorations.specs.Decorations.{decoration_of}
use Rattle.spv_declarations.specs.Laws.{IsUnbroken}
use Rattle.spv_alike_uses.specs.Alike.{firm_kinds}
use Rattle.spv_alike_uses.proofs.Lookups.{Case, and_on, and_true, on, same_constant, same_shape, same_type_of, where_true}
use Rattle.spv_entries.specs.Bindings.{Slot, binding_fits, is_buffer, is_same_slot, other_class, slot_fits, slot_in, slot_of, stands_at}
use Rattle.spv_entries.specs.Functions.{called_function, function_fits, may_be_entered}
use Rattle.spv_entries.specs.Names.{entry_name, has_name, name_fits}
use Rattle.spv_entries.specs.Sizes.{entry_function, id_function, is_mode, is_no_size, is_sized, literal_function, names, size_fits, sizes_all, sizes_unfit, some_names, two_name, unfit_function}
use Rattle.spv_thinned.proofs.Walk.{inst}
use Rattle.spv_rewritten.specs.Rewritten.{EachAs, IsRewritten, IsRewrittenAs, settled_kinds}
use Rattle.spv_rewritten.proofs.Alike.{rewritten_is_alike}
use Rattle.spv_rewritten.proofs.Common.{by_opcode, entry_function_same, entry_name_same, not_settled, same_entry_point, same_function}
use Rattle.spv_rewritten.proofs.Lookups.{same_count, same_firm, same_kind}
use Rattle.spv_rewritten.proofs.Pairs.{each_take, same_any, same_count as same_times}
use Rattle.spv_rewritten.proofs.Statements.{same_decorations}

and_none : (b : Bool) → (b && false) ≡ false
and_none true = refl
and_none false = refl

not_or : (b x y : Bool) → (b ≡ true → x ≡ y) → (not b || x) ≡ (not b || y)
not_or true x y h = h refl
not_or false x y h = refl

-- ---- what an instruction names

module _ (b : List Instruction) (i j : Instruction) (r : IsRewrittenAs b i j) where
  same_entry_function : entry_function j ≡ entry_function i
  same_entry_function =
      ap (λ (t : Bool). cond t (Some (slice_index j.words 2)) None) (same_entry_point b i j r)
      ∙ where_true (is_entry_point i) _ _ _ _ (λ e. ap Some (entry_function_same b i j r e)) refl

  same_literal : literal_function j ≡ literal_function i
  same_literal =
      by_opcode op.EXECUTION_MODE refl (λ t ws. cond (t && slice_index ws 2 == execution_mode.LOCAL_SIZE) (Some (slice_index ws 1)) None) None
      (λ ws. refl) b i j r

  same_by_ids : id_function j ≡ id_function i
  same_by_ids =
      by_opcode op.EXECUTION_MODE_ID refl (λ t ws. cond (t && slice_index ws 2 == execution_mode.LOCAL_SIZE_ID) (Some (slice_index ws 1)) None) None
      (λ ws. refl) b i j r

  same_called : called_function j ≡ called_function i
  same_called = by r
    where
      by : IsRewrittenAs b i j → called_function j ≡ called_function i
      by (inl e) = ap (λ ws. called_function (inst ws)) e
      by (inr c) =
          ap (λ (o : ℕ). cond (o == op.FUNCTION_CALL) (Some (slice_index j.words 3)) None) c.kind
          ∙ where_true (opcode i == op.FUNCTION_CALL) _ _ _ _ (λ e. ap Some (c.callee (eqb-true (opcode i) op.FUNCTION_CALL e))) refl

  same_mode : is_mode j ≡ is_mode i
  same_mode =
      ap₂ (λ (x y : Bool). x || y)
      (by_opcode op.EXECUTION_MODE refl (λ t ws. t) false (λ ws. refl) b i j r) (by_opcode op.EXECUTION_MODE_ID refl (λ t ws. t) false (λ ws. refl) b i j r)

-- what is rewritten names no function as a mode
no_mode : (i : Instruction) → is_one_of settled_kinds (opcode i) ≡ false → is_mode i ≡ false
no_mode i s =
    ap₂ (λ (x y : Bool). x || y) (not_settled op.EXECUTION_MODE (opcode i) refl s) (not_settled op.EXECUTION_MODE_ID (opcode i) refl s)

no_unfit : (insts : List Instruction) (i : Instruction) → is_one_of settled_kinds (opcode i) ≡ false → unfit_function insts i ≡ None
no_unfit insts i s =
    ap₂ (λ (x y : Bool).
    cond
    (sizes_unfit insts i
    && (names (cond (x && slice_index i.words 2 == execution_mode.LOCAL_SIZE) (Some (slice_index i.words 1)) None) (slice_index i.words 1)
    || names (cond (y && slice_index i.words 2 == execution_mode.LOCAL_SIZE_ID) (Some (slice_index i.words 1)) None) (slice_index i.words 1)))
    (Some (slice_index i.words 1)) None)
    (not_settled op.EXECUTION_MODE (opcode i) refl s) (not_settled op.EXECUTION_MODE_ID (opcode i) refl s)
    ∙ ap (λ (b : Bool). cond b (Some (slice_index i.words 1)) None) (and_none (sizes_unfit insts i))

module _ (before after : List Instruction) (h : IsUnbroken before) (w : IsRewritten before after) where
  abbrev c : Case
  c = record { gone = λ id. false; before = before; after = after; unbroken = h; alike = rewritten_is_alike before after h w }

  abbrev R : Instruction → Instruction → Type 0
  R = IsRewrittenAs before

  fronts : (k : ℕ) → EachAs (IsRewrittenAs before) (take k before) (take k after)
  fronts k = each_take (IsRewrittenAs before) k before after w

  -- ---- 603

  same_decoration : (id d : ℕ) → decoration_of after id d ≡ decoration_of before id d
  same_decoration id d = ap first_literal (same_decorations before before after w id d)

  same_slot : (i j : Instruction) → IsRewrittenAs before i j → slot_of after j ≡ slot_of before i
  same_slot i j r =
      by_opcode op.VARIABLE refl
      (λ t ws. cond t
      (slot_in (decoration_of after (slice_index ws 2) decoration.DESCRIPTOR_SET) (decoration_of after (slice_index ws 2) decoration.BINDING)
      (slice_index ws 3))
      None) None (λ ws. refl) before i j r
      ∙ (λ k. cond (opcode i == op.VARIABLE)
      (slot_in (same_decoration (slice_index i.words 2) decoration.DESCRIPTOR_SET k) (same_decoration (slice_index i.words 2) decoration.BINDING k)
      (slice_index i.words 3))
      None)

  same_buffer : (i j : Instruction) → IsRewrittenAs before i j → is_buffer j ≡ is_buffer i
  same_buffer =
      by_opcode op.VARIABLE refl (λ t ws. t && (slice_index ws 3 == storage_class.UNIFORM || slice_index ws 3 == storage_class.STORAGE_BUFFER)) false
      (λ ws. refl) before

  same_slot_fits : (k : ℕ) (o : Option Slot) → slot_fits after (take k after) o ≡ slot_fits before (take k before) o
  same_slot_fits k None = refl
  same_slot_fits k (Some slot) =
      let there : Slot = (slot.0, slot.1, other_class slot.2) in
      ap not
      (same_any (IsRewrittenAs before) (stands_at after there) (stands_at before there)
      (λ i j r. ap (λ o. option_map_or (is_same_slot there) o false) (same_slot i j r)) (take k before) (take k after) (fronts k))

  pub same_binding : (k : ℕ) (i j : Instruction) → IsRewrittenAs before i j → binding_fits after (take k after) j ≡ binding_fits before (take k before) i
  unfolding binding_fits
  same_binding k i j r =
      let begun = same_any (IsRewrittenAs before) is_function is_function (same_function before) (take k before) (take k after) (fronts k) in
      let fits = ap (slot_fits after (take k after)) (same_slot i j r) ∙ same_slot_fits k (slot_of before i) in
      ap₂ (λ (a b : Bool). a || (not b || slot_fits after (take k after) (slot_of after j))) begun (same_buffer i j r)
      ∙ ap (λ (b : Bool). list_any is_function (take k before) || (not (is_buffer i) || b)) fits

  -- ---- 604

  same_name : (name : List ℕ) (i j : Instruction) → IsRewrittenAs before i j → has_name name j ≡ has_name name i
  same_name name i j r =
      ap (λ b. b && pointwise nat_eq name (entry_name j)) (same_entry_point before i j r)
      ∙ and_true (is_entry_point i) _ _ (λ e. ap (λ n. pointwise nat_eq name n) (entry_name_same before i j r e))

  pub same_name_fits : (k : ℕ) (i j : Instruction) → IsRewrittenAs before i j → name_fits (take k after) j ≡ name_fits (take k before) i
  unfolding name_fits
  same_name_fits k i j r =
      ap not
      (ap (λ b. b && list_any (has_name (entry_name j)) (take k after)) (same_entry_point before i j r)
      ∙ and_true (is_entry_point i) _ _
      (λ e. ap (λ n. list_any (has_name n) (take k after)) (entry_name_same before i j r e)
      ∙ same_any (IsRewrittenAs before) (has_name (entry_name i)) (has_name (entry_name i)) (same_name (entry_name i)) (take k before) (take k after)
      (fronts k)))

  -- ---- 605

  same_no_size : (id : ℕ) → is_no_size after id ≡ is_no_size before id
  same_no_size id =
      ap not
      (and_on (is_constant after id) (is_constant before id) _ _ (same_constant c id refl)
      (λ h. ap (λ (u : ℕ). has_shape false 1 (shape after u)) (same_type_of c id refl h) ∙ ap (has_shape false 1) (same_shape c (type_of before id) refl)))

  same_unfit : (i j : Instruction) → IsRewrittenAs before i j → unfit_function after j ≡ unfit_function before i
  same_unfit i j r =
      (λ k. cond
      (cond (opcode j == op.EXECUTION_MODE) (list_any (nat_eq 0) (drop 3 j.words)) (list_any (λ id. same_no_size id k) (drop 3 j.words))
      && (names (literal_function j) (slice_index j.words 1) || names (id_function j) (slice_index j.words 1)))
      (Some (slice_index j.words 1)) None)
      ∙ step r
    where
      step : IsRewrittenAs before i j → unfit_function before j ≡ unfit_function before i
      step (inl e) = ap (λ ws. unfit_function before (inst ws)) e
      step (inr c) = no_unfit before j (ap (is_one_of settled_kinds) c.kind ∙ c.passing) ∙ sym (no_unfit before i c.passing)

  same_sizes_all : (i j : Instruction) → IsRewrittenAs before i j → sizes_all after j ≡ sizes_all before i
  same_sizes_all i j r =
      by_opcode op.DECORATE refl
      (λ t ws. (t && (slice_index ws 2 == decoration.BUILTIN && slice_index ws 3 == builtin.WORKGROUP_SIZE)) && is_constant after (slice_index ws 1)) false
      (λ ws. refl) before i j r
      ∙ ap (λ b. is_workgroup_size i && b) (same_constant c (slice_index i.words 1) refl)

  -- as many name a function as did
  some_same : (kind_after kind_before : Instruction → Option ℕ) → ((i j : Instruction) → IsRewrittenAs before i j → kind_after j ≡ kind_before i) → (f : ℕ)
      → some_names kind_after after f ≡ some_names kind_before before f
  some_same p q same f =
      same_any (IsRewrittenAs before) (λ i. names (p i) f) (λ i. names (q i) f) (λ i j r. ap (λ o. names o f) (same i j r)) before after w

  two_same : (kind : Instruction → Option ℕ) → ((i j : Instruction) → IsRewrittenAs before i j → kind j ≡ kind i) → (f : ℕ)
      → two_name kind after f ≡ two_name kind before f
  two_same p same f =
      ap (nat_lt 1)
      (same_times (IsRewrittenAs before) (λ i. names (p i) f) (λ i. names (p i) f) (λ i j r. ap (λ o. names o f) (same i j r)) before after w)

  same_sized : (f : ℕ) → is_sized after f ≡ is_sized before f
  same_sized f =
      six (some_same literal_function literal_function (same_literal before) f) (some_same id_function id_function (same_by_ids before) f)
      (same_any (IsRewrittenAs before) (sizes_all after) (sizes_all before) same_sizes_all before after w)
      (two_same literal_function (same_literal before) f) (two_same id_function (same_by_ids before) f)
      (some_same (unfit_function after) (unfit_function before) same_unfit f)
    where
      six : {a b d e g m p q s r u n : Bool} → a ≡ p → b ≡ q → d ≡ s → e ≡ r → g ≡ u → m ≡ n
          → ((a || (b || d)) && (not e && (not g && not m))) ≡ ((p || (q || s)) && (not r && (not u && not n)))
      six h1 h2 h3 h4 h5 h6 = λ i. (h1 i || (h2 i || h3 i)) && (not (h4 i) && (not (h5 i) && not (h6 i)))

  pub same_size_fits : (i j : Instruction) → IsRewrittenAs before i j → size_fits after j ≡ size_fits before i
  unfolding size_fits
  same_size_fits i j r =
      on (is_entry_point j) (is_entry_point i) (is_sized after (slice_index j.words 2)) (is_sized before (slice_index i.words 2))
      (not (is_mode j) || some_names entry_function after (slice_index j.words 1)) (not (is_mode i) || some_names entry_function before (slice_index i.words 1))
      (same_entry_point before i j r) (λ e. ap (is_sized after) (entry_function_same before i j r e) ∙ same_sized (slice_index i.words 2)) (step r)
    where
      named : (f : ℕ) → some_names entry_function after f ≡ some_names entry_function before f
      named = some_same entry_function entry_function (same_entry_function before)

      step : IsRewrittenAs before i j
          → (not (is_mode j) || some_names entry_function after (slice_index j.words 1))
          ≡ (not (is_mode i) || some_names entry_function before (slice_index i.words 1))
      step (inl e) =
          ap (λ ws. not (is_mode (inst ws)) || some_names entry_function after (slice_index ws 1)) e
          ∙ ap (λ b. not (is_mode i) || b) (named (slice_index i.words 1))
      step (inr c) =
          ap (λ b. not b || some_names entry_function after (slice_index j.words 1)) (no_mode j (ap (is_one_of settled_kinds) c.kind ∙ c.passing))
          ∙ sym (ap (λ b. not b || some_names entry_function before (slice_index i.words 1)) (no_mode i c.passing))

  -- ---- 606

  same_entered : (f : ℕ) → may_be_entered after f ≡ may_be_entered before f
  same_entered f =
      and_on (kind after f == op.FUNCTION) (kind before f == op.FUNCTION) _ _ (ap (λ (k : ℕ). k == op.FUNCTION) (same_kind before before after w f))
      (λ e.
      let firm = ap (is_one_of firm_kinds) (eqb-true (kind before f) op.FUNCTION e) in
      let one : word_of after f 1 ≡ word_of before f 1 = same_firm before before after w f ℕ (λ ws. slice_index ws 1) 0 firm in
      let four : word_of after f 4 ≡ word_of before f 4 = same_firm before before after w f ℕ (λ ws. slice_index ws 4) 0 firm in
      ap₂ (λ (u v : ℕ). is_void after u && (length (words_of after v 3) == 0 && not (some_names called_function after f))) one four
      ∙ ap₂ (λ (k n : ℕ). k == op.TYPE_VOID && (n == 0 && not (some_names called_function after f)))
      (same_kind before before after w (word_of before f 1)) (same_count before before after w (word_of before f 4) 3)
      ∙ ap (λ b. is_void before (word_of before f 1) && (length (words_of before (word_of before f 4) 3) == 0 && not b))
      (some_same called_function called_function (same_called before) f))

  pub same_function_fits : (i j : Instruction) → IsRewrittenAs before i j → function_fits after j ≡ function_fits before i
  unfolding function_fits
  same_function_fits i j r =
      ap (λ b. not b || may_be_entered after (slice_index j.words 2)) (same_entry_point before i j r)
      ∙ not_or (is_entry_point i) _ _ (λ e. ap (may_be_entered after) (entry_function_same before i j r e) ∙ same_entered (slice_index i.words 2))
