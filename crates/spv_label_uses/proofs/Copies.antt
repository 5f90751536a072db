-- What instructions that copy values need, and OpPhi.
use Rattle.std.proofs.Common.{◌≡◌, ℕ, zero, suc, Bool, true, false, cond, not, ◌==◌, ◌&&◌, ◌||◌, nat_eq, List, [], ◌∷◌, map, drop, take, Option, Some, None, refl, sym, ap, ◌∙◌, arith}
use Rattle.std.specs.List.{find, list_any, list_all, slice_get, slice_index}
use Rattle.std.specs.Option.{is_some, option_map, option_map_or}
use Rattle.std.proofs.lemmas.Bool.{and_parts, and_from, not-true, or_parts}
use Rattle.std.proofs.lemmas.Bool.Decides.{nat_tests}
use Rattle.std.proofs.lemmas.List.Folds.{list_all-append}
use Rattle.spv_opcodes.specs.declared.op.TheConstants as op
use Rattle.spv_grammar.specs.Roles.{is_defined_id}
use Rattle.spv_grammar.specs.Table.{row_of}
use Rattle.spv_module.specs.Code.{is_line}
use Rattle.spv_module.specs.Instruction.{Instruction, IsInstruction, opcode, roles, word_with}
use Rattle.spv_ids.specs.Ids.{defines, definition, is_defined_before}
use Rattle.spv_typing.specs.Kinds.{is_one_of, is_closed}
use Rattle.spv_values.specs.Values.{value_type, is_value_of}
use Rattle.spv_blocks.specs.Cutting as cutting
use Rattle.spv_composites.specs.Forms.{Form, Plain, Array, Struct, FormTable, form_at, length_at, plain_types, parts_behind, NoPart, form_by, form_of, with_form, forms_behind, forms, same_forms, match_types}
use Rattle.spv_composites.specs.Composites.{copies_logically, merges, composite_operands_fit, composite_result_fits}
use Rattle.spv_declarations.specs.Laws.{IsUnbroken}
use Rattle.spv_declarations.proofs.Parts.{defined-plain, first_plain, row_test}
use Rattle.spv_declarations.proofs.Sites.{index-on}
use Rattle.spv_label_uses.proofs.Covered.{used_by_row}
use Rattle.spv_label_uses.proofs.Declared.{kept_at}
use Rattle.spv_label_uses.proofs.Free.{same_by, one_passes, all_2, all_cons, is_free, valueless, free_closed, free_if, free_value_of}
use Rattle.spv_label_uses.proofs.Types.{NeedsFree}

-- ---- copies

pub copy_needs : (insts : List Instruction) (i : Instruction) → IsInstruction i.words (roles i) → opcode i ≡ op.COPY_OBJECT
    → composite_operands_fit insts i ≡ true → composite_result_fits insts i ≡ true → NeedsFree insts i
unfolding row_of composite_operands_fit composite_result_fits
copy_needs insts i whole e h k =
    let fits : is_value_of insts (slice_index i.words 1) (slice_index i.words 3) ≡ true = rw e at h in
    let gives : is_closed insts (slice_index i.words 1) ≡ true = rw e at k in
    used_by_row (is_free insts) i op.COPY_OBJECT whole e refl
    (all_2 (is_free insts) (slice_index i.words 1) (slice_index i.words 3) (free_closed insts (slice_index i.words 1) gives)
    (free_value_of insts (slice_index i.words 1) (slice_index i.words 3) fits))

-- ---- what has a form is neither a label nor a string

abbrev formed : List ℕ
formed = op.TYPE_BOOL ∷ op.TYPE_INT ∷ op.TYPE_VECTOR ∷ op.TYPE_ARRAY ∷ op.TYPE_STRUCT ∷ []

formed_plain : list_all (λ o. row_test first_plain (row_of o) && not (o == op.LINE || o == op.NO_LINE)) formed ≡ true
unfolding row_of
formed_plain = refl

-- the first that passes; induction on the elements
found_there : {X : Type 0} (p : X → Bool) (xs : List X) (k : ℕ) (x : X) → slice_get xs k ≡ Some x → list_any p (take k xs) ≡ false → p x ≡ true
    → find p xs ≡ Some x
found_there p [] k x at none here = absurd (cc at)
found_there p (y ∷ ys) zero x at none here =
    let same : y ≡ x = cc at in
    rw (same, here) refl
found_there p (y ∷ ys) (suc k) x at none here =
    let parts = or_parts (p y) (list_any p (take k ys)) none in
    rw parts.0 (found_there p ys k x at parts.1 here)

same_id : (n : ℕ) → nat_eq n n ≡ true
same_id n = grind (arith, nat_tests)

-- such a type is defined by its instruction alone
formed_free : (insts : List Instruction) → IsUnbroken insts → (k : ℕ) (i : Instruction) → slice_get insts k ≡ Some i → is_one_of formed (opcode i) ≡ true
    → is_free insts (slice_index i.words 1) ≡ true
formed_free insts h k i at m =
    let tests = and_parts (row_test first_plain (row_of (opcode i))) (not (is_line i))
    (one_passes (λ o. row_test first_plain (row_of o) && not (o == op.LINE || o == op.NO_LINE)) formed (opcode i) formed_plain m) in
    let plain = not-true (is_line i) tests.1 in
    let id : ℕ = slice_index i.words 1 in
    let word : word_with is_defined_id i ≡ Some id = defined-plain i (h.whole k i at) tests.0 ∙ ap Some (index-on i.words 0) in
    let new : is_defined_before insts k id ≡ false =
    sym (ap (λ (o : Option ℕ). option_map_or (is_defined_before insts k) o false) word) ∙ (kept_at insts h k i at plain).once in
    let it : defines id i ≡ true = ap (λ (o : Option ℕ). option_map_or (nat_eq id) o false) word ∙ same_id id in
    let is : definition insts id ≡ Some i = found_there (defines id) insts k i at new it in
    ap (λ (d : Option Instruction). not (is_one_of valueless (option_map_or opcode d 0))) is
    ∙ one_passes (λ o. not (is_one_of valueless o)) formed (opcode i) refl m

-- only such an instruction gives a form
gives_form : (insts : List Instruction) (table : FormTable) (o : ℕ) (ws : List ℕ) → is_some (form_by insts table o ws) ≡ true → is_one_of formed o ≡ true
gives_form insts table o ws h = by (is_one_of plain_types o) (o == op.TYPE_ARRAY) (o == op.TYPE_STRUCT) refl refl refl h where
  by : (p a s : Bool) → is_one_of plain_types o ≡ p → (o == op.TYPE_ARRAY) ≡ a → (o == op.TYPE_STRUCT) ≡ s
      → is_some (cond p (Some (Plain (slice_index ws 1)))
      (cond a (option_map (Array (length_at insts (slice_index ws 3))) (form_at table (slice_index ws 2)))
      (cond s (option_map Struct (parts_behind table NoPart (drop 2 ws))) None))) ≡ true
      → is_one_of formed o ≡ true
  by true a s hp ha hs h = one_passes (is_one_of formed) plain_types o refl hp
  by false true s hp ha hs h = one_passes (is_one_of formed) (op.TYPE_ARRAY ∷ []) o refl (ap (λ b. b || false) ha)
  by false false true hp ha hs h = one_passes (is_one_of formed) (op.TYPE_STRUCT ∷ []) o refl (ap (λ b. b || false) hs)
  by false false false hp ha hs h = absurd (cc h)

abbrev AreFree : List Instruction → FormTable → Type 0
AreFree insts table = list_all (λ (entry : ℕ × Form). is_free insts entry.0) table ≡ true

-- induction on the instructions
table_free : (insts : List Instruction) (table : FormTable) (is : List Instruction) → AreFree insts table
    → ((k : ℕ) (i : Instruction) → slice_get is k ≡ Some i → is_one_of formed (opcode i) ≡ true → is_free insts (slice_index i.words 1) ≡ true)
    → AreFree insts (forms_behind insts table is)
table_free insts table [] h each = h
table_free insts table (i ∷ is) h each =
    table_free insts (with_form table (slice_index i.words 1) (form_of insts table i)) is (by (form_of insts table i) refl) (λ k j at. each (suc k) j at)
  where
    by : (f : Option Form) → form_of insts table i ≡ f → AreFree insts (with_form table (slice_index i.words 1) f)
    by None e = h
    by (Some f) e =
        let here = each 0 i refl (gives_form insts table (opcode i) i.words (ap is_some e)) in
        list_all-append (λ (entry : ℕ × Form). is_free insts entry.0) table ((slice_index i.words 1, f) ∷ [])
        ∙ and_from (list_all (λ (entry : ℕ × Form). is_free insts entry.0) table) (is_free insts (slice_index i.words 1) && true) h
        (and_from (is_free insts (slice_index i.words 1)) true here refl)

-- induction on the entries
entry_free : (insts : List Instruction) (table : FormTable) (t : ℕ) → AreFree insts table → is_some (form_at table t) ≡ true → is_free insts t ≡ true
entry_free insts [] t h k = absurd (cc k)
entry_free insts (entry ∷ table) t h k =
    let both = and_parts (is_free insts entry.0) (list_all (λ (entry : ℕ × Form). is_free insts entry.0) table) h in
    by (nat_eq t entry.0) refl k both.0 (λ m. entry_free insts table t both.1 m)
  where
    by : (b : Bool) → nat_eq t entry.0 ≡ b → is_some (cond b (Some entry.1) (form_at table t)) ≡ true → is_free insts entry.0 ≡ true
        → (is_some (form_at table t) ≡ true → is_free insts t ≡ true) → is_free insts t ≡ true
    by true e k here more = ap (is_free insts) (same_by t entry.0 e) ∙ here
    by false e k here more = more k

form_free : (insts : List Instruction) → IsUnbroken insts → (t : ℕ) → is_some (form_at (forms insts) t) ≡ true → is_free insts t ≡ true
unfolding forms
form_free insts h t k = entry_free insts (forms_behind insts [] insts) t (table_free insts [] insts refl (formed_free insts h)) k

second_form : (f g : Option Form) → same_forms f g ≡ true → is_some g ≡ true
second_form (Some f) (Some g) h = refl
second_form (Some f) None h = absurd (cc h)
second_form None (Some g) h = absurd (cc h)
second_form None None h = absurd (cc h)

copied_type : (insts : List Instruction) → IsUnbroken insts → (t id : ℕ) → copies_logically insts t id ≡ true → is_free insts t ≡ true
copied_type insts unbroken t id h = by (value_type insts id) h where
  by : (u : Option ℕ) → option_map_or (λ u. not (u == t) && match_types insts u t) u false ≡ true → is_free insts t ≡ true
  by None h = absurd (cc h)
  by (Some u) h =
      form_free insts unbroken t
      (second_form (form_at (forms insts) u) (form_at (forms insts) t) (and_parts (not (u == t)) (match_types insts u t) h).1)

pub copy_logical_needs : (insts : List Instruction) → IsUnbroken insts → (i : Instruction) → IsInstruction i.words (roles i) → opcode i ≡ op.COPY_LOGICAL
    → composite_operands_fit insts i ≡ true → NeedsFree insts i
unfolding row_of composite_operands_fit
copy_logical_needs insts unbroken i whole e h =
    let fits : copies_logically insts (slice_index i.words 1) (slice_index i.words 3) ≡ true = rw e at h in
    used_by_row (is_free insts) i op.COPY_LOGICAL whole e refl
    (all_2 (is_free insts) (slice_index i.words 1) (slice_index i.words 3) (copied_type insts unbroken (slice_index i.words 1) (slice_index i.words 3) fits)
    (free_if insts (slice_index i.words 3) (λ u. not (u == slice_index i.words 1) && match_types insts u (slice_index i.words 1)) fits))

-- ---- OpPhi

-- induction on the words
merged_free : (insts : List Instruction) (t : ℕ) (ws : List ℕ) → merges insts t ws ≡ true
    → list_all (is_free insts) (map (λ pair. pair.0) (cutting.pairs ws)) ≡ true
merged_free insts t [] h = refl
merged_free insts t (x ∷ []) h = refl
merged_free insts t (x ∷ y ∷ ws) h =
    let both = and_parts (is_value_of insts t x) (merges insts t ws) h in
    all_cons (is_free insts) x (map (λ pair. pair.0) (cutting.pairs ws)) (free_value_of insts t x both.0) (merged_free insts t ws both.1)

pub phi_values : (insts : List Instruction) (i : Instruction) → opcode i ≡ op.PHI → composite_operands_fit insts i ≡ true
    → composite_result_fits insts i ≡ true
    → list_all (is_free insts) (slice_index i.words 1 ∷ map (λ pair. pair.0) (cutting.pairs (drop 3 i.words))) ≡ true
unfolding composite_operands_fit composite_result_fits
phi_values insts i e h k =
    let fits : merges insts (slice_index i.words 1) (drop 3 i.words) ≡ true = rw e at h in
    let gives : is_closed insts (slice_index i.words 1) ≡ true = rw e at k in
    all_cons (is_free insts) (slice_index i.words 1) (map (λ pair. pair.0) (cutting.pairs (drop 3 i.words))) (free_closed insts (slice_index i.words 1) gives)
    (merged_free insts (slice_index i.words 1) (drop 3 i.words) fits)
