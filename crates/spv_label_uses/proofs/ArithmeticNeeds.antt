-- What an instruction of arithmetic needs, by its form.
use Rattle.std.proofs.Common.{◌≡◌, ℕ, zero, suc, true, not, ◌==◌, ◌&&◌, List, [], ◌∷◌, drop, Option, Some, None, refl, sym, ap, ◌∙◌}
use Rattle.std.specs.List.{list_all, slice_index}
use Rattle.std.proofs.lemmas.Bool.{and_parts, not-true}
use Rattle.spv_opcodes.specs.declared.op.TheConstants as op
use Rattle.spv_grammar.specs.Table.{row_of}
use Rattle.spv_module.specs.Instruction.{Instruction, IsInstruction, opcode, roles}
use Rattle.spv_declarations.proofs.Parts.{first_typed, row_test}
use Rattle.spv_arithmetic.specs.declared.forms.Form.{Form}
use Rattle.spv_arithmetic.specs.Forms.{forms, form_of, first_operand}
use Rattle.spv_arithmetic.specs.declared.forms.Form.TheVariants.{Ints, Bools, Compares, Reduces, Pairs, FieldInserts, FieldExtracts, Selects, Extended, Converts, Branches, Switches}
use Rattle.spv_arithmetic.specs.Operands.{operands_suit, form_operands_fit, operands_fit}
use Rattle.spv_arithmetic.specs.Results.{result_suits, form_result_fits, result_fits}
use Rattle.spv_label_uses.proofs.Arithmetic.{is_of_form, all_of_form, typed_row, extended_row, operands_free, set_free, result_free}
use Rattle.spv_label_uses.proofs.Covered.{used_by_row}
use Rattle.spv_label_uses.proofs.Free.{same_by, all_cons, is_free}
use Rattle.spv_label_uses.proofs.Fronts.{used_by_front}
use Rattle.spv_label_uses.proofs.Operations.{found_pair}
use Rattle.spv_label_uses.proofs.Types.{NeedsFree}

-- ---- words by their places

pub word_at : (ws : List ℕ) (k : ℕ) → slice_index (drop k ws) 0 ≡ slice_index ws k
word_at ws zero = refl
word_at [] (suc k) = refl
word_at (w ∷ ws) (suc k) = word_at ws k

behind_five : (ws : List ℕ) → drop 2 (drop 3 ws) ≡ drop 5 ws
behind_five [] = refl
behind_five (a ∷ []) = refl
behind_five (a ∷ b ∷ []) = refl
behind_five (a ∷ b ∷ c ∷ ws) = refl

-- ---- by the form

-- a terminator decides by a value, and all that another one needs is free
abbrev pub Needs : List Instruction → Form → Instruction → Type 0
Needs insts Branches i = is_free insts (slice_index i.words 1) ≡ true
Needs insts Switches i = is_free insts (slice_index i.words 1) ≡ true
Needs insts form i = NeedsFree insts i

-- an instruction of a form, which suits it
record Suits (insts : List Instruction) (form : Form) (i : Instruction) : Type 0 where
  whole : IsInstruction i.words (roles i)
  operands : operands_suit insts form (slice_index i.words 1) (drop (first_operand form) i.words) ≡ true
  result : result_suits insts form (slice_index i.words 1) (drop (first_operand form) i.words) ≡ true

typed_needs : (insts : List Instruction) (i : Instruction) → IsInstruction i.words (roles i)
    → (not (opcode i == op.SPEC_CONSTANT_OP) && row_test first_typed (row_of (opcode i))) ≡ true → is_free insts (slice_index i.words 1) ≡ true
    → list_all (is_free insts) (drop 3 i.words) ≡ true → NeedsFree insts i
typed_needs insts i whole row t ids =
    let tests = and_parts (not (opcode i == op.SPEC_CONSTANT_OP)) (row_test first_typed (row_of (opcode i))) row in
    used_by_front (is_free insts) 2 i (opcode i) whole refl (not-true (opcode i == op.SPEC_CONSTANT_OP) tests.0)
    (ap (list_all (is_free insts)) (typed_row (opcode i) tests.1 i.words) ∙ all_cons (is_free insts) (slice_index i.words 1) (drop 3 i.words) t ids)

extended_needs : (insts : List Instruction) (i : Instruction) → Suits insts Extended i → opcode i ≡ op.EXT_INST → NeedsFree insts i
extended_needs insts i s e =
    let t : ℕ = slice_index i.words 1 in
    let set : ℕ = slice_index i.words 3 in
    let set_is : is_free insts set ≡ true = ap (is_free insts) (sym (word_at i.words 3)) ∙ set_free insts t (drop 3 i.words) s.operands in
    let ids_are : list_all (is_free insts) (drop 5 i.words) ≡ true =
    ap (list_all (is_free insts)) (sym (behind_five i.words)) ∙ operands_free insts Extended t (drop 3 i.words) s.operands in
    used_by_row (is_free insts) i op.EXT_INST s.whole e refl
    (ap (list_all (is_free insts)) (extended_row i.words)
    ∙ all_cons (is_free insts) t (set ∷ drop 5 i.words) (result_free insts Extended t (drop 3 i.words) s.result)
    (all_cons (is_free insts) set (drop 5 i.words) set_is ids_are))

by_form : (insts : List Instruction) (form : Form) (i : Instruction) → Suits insts form i → is_of_form (opcode i) form ≡ true → Needs insts form i
by_form insts Branches i s row = ap (is_free insts) (sym (word_at i.words 1)) ∙ operands_free insts Branches (slice_index i.words 1)
    (drop 1 i.words) s.operands
by_form insts Switches i s row = ap (is_free insts) (sym (word_at i.words 1)) ∙ operands_free insts Switches (slice_index i.words 1)
    (drop 1 i.words) s.operands
by_form insts Extended i s row = extended_needs insts i s (same_by (opcode i) op.EXT_INST row)
by_form insts Converts i s row = absurd (cc s.result)
by_form insts (Ints n) i s row =
    typed_needs insts i s.whole row (result_free insts (Ints n) (slice_index i.words 1) (drop 3 i.words) s.result)
    (operands_free insts (Ints n) (slice_index i.words 1) (drop 3 i.words) s.operands)
by_form insts (Bools n) i s row =
    typed_needs insts i s.whole row (result_free insts (Bools n) (slice_index i.words 1) (drop 3 i.words) s.result)
    (operands_free insts (Bools n) (slice_index i.words 1) (drop 3 i.words) s.operands)
by_form insts Compares i s row =
    typed_needs insts i s.whole row (result_free insts Compares (slice_index i.words 1) (drop 3 i.words) s.result)
    (operands_free insts Compares (slice_index i.words 1) (drop 3 i.words) s.operands)
by_form insts Reduces i s row =
    typed_needs insts i s.whole row (result_free insts Reduces (slice_index i.words 1) (drop 3 i.words) s.result)
    (operands_free insts Reduces (slice_index i.words 1) (drop 3 i.words) s.operands)
by_form insts Pairs i s row =
    typed_needs insts i s.whole row (result_free insts Pairs (slice_index i.words 1) (drop 3 i.words) s.result)
    (operands_free insts Pairs (slice_index i.words 1) (drop 3 i.words) s.operands)
by_form insts FieldInserts i s row =
    typed_needs insts i s.whole row (result_free insts FieldInserts (slice_index i.words 1) (drop 3 i.words) s.result)
    (operands_free insts FieldInserts (slice_index i.words 1) (drop 3 i.words) s.operands)
by_form insts FieldExtracts i s row =
    typed_needs insts i s.whole row (result_free insts FieldExtracts (slice_index i.words 1) (drop 3 i.words) s.result)
    (operands_free insts FieldExtracts (slice_index i.words 1) (drop 3 i.words) s.operands)
by_form insts Selects i s row =
    typed_needs insts i s.whole row (result_free insts Selects (slice_index i.words 1) (drop 3 i.words) s.result)
    (operands_free insts Selects (slice_index i.words 1) (drop 3 i.words) s.operands)

abbrev pub NeedsOf : List Instruction → Option Form → Instruction → Type 0
NeedsOf insts None i = Unit {0}
NeedsOf insts (Some form) i = Needs insts form i

-- an instruction that has a form, if neither rule on arithmetic is broken
pub arithmetic_needs : (insts : List Instruction) (i : Instruction) → IsInstruction i.words (roles i) → operands_fit insts i ≡ true
    → result_fits insts i ≡ true
    → NeedsOf insts (form_of (opcode i)) i
unfolding operands_fit result_fits
arithmetic_needs insts i whole h k = by (form_of (opcode i)) refl h k where
  by : (form : Option Form) → form_of (opcode i) ≡ form → form_operands_fit insts form i ≡ true → form_result_fits insts form i ≡ true → NeedsOf insts form i
  by None e h k = tt
  by (Some form) e h k =
      by_form insts form i (record { whole = whole; operands = h; result = k }) (found_pair is_of_form forms (opcode i) all_of_form form e)
