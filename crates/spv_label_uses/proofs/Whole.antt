-- Where the rules find nothing, no instruction uses a label or a string as a value.
use Rattle.std.proofs.Common.{◌≡◌, ℕ, Bool, true, false, cond, not, ◌==◌, ◌||◌, List, [], ◌∷◌, map, drop, Option, Some, None, refl, ap, subst, ◌∙◌}
use Rattle.std.specs.List.{list_all, slice_get, slice_index}
use Rattle.std.specs.Option.{is_some}
use Rattle.std.proofs.lemmas.Bool.{not-true, or_parts}
use Rattle.spv_opcodes.specs.declared.op.TheConstants as op
use Rattle.spv_grammar.specs.Table.{row_of}
use Rattle.spv_module.specs.Instruction.{Instruction, opcode}
use Rattle.spv_ids.specs.Ids.{used_ids}
use Rattle.spv_typing.specs.Kinds.{is_one_of}
use Rattle.spv_blocks.specs.Cutting.{pairs}
use Rattle.spv_arithmetic.specs.declared.forms.Form.{Form}
use Rattle.spv_arithmetic.specs.declared.forms.Form.TheVariants.{Ints, Bools, Compares, Reduces, Pairs, FieldInserts, FieldExtracts, Selects, Extended, Converts, Branches, Switches}
use Rattle.spv_arithmetic.specs.Forms.{forms, form_of}
use Rattle.spv_alike.specs.Uses.{value_uses, namings}
use Rattle.spv_label_uses.specs.Laws.{FindNothing, LabelsAreNoValues, StringsAreNoValues}
use Rattle.spv_label_uses.proofs.Arithmetic.{is_of_form, all_of_form}
use Rattle.spv_label_uses.proofs.ArithmeticNeeds.{Needs, NeedsOf, arithmetic_needs}
use Rattle.spv_label_uses.proofs.Begun.{stands_outside}
use Rattle.spv_label_uses.proofs.ByKind.{by_opcode, silent_need, types_need, outside_need, constants_need, either_need, functions_need, parts_need, memory_need, chains_need, atomics_need}
use Rattle.spv_label_uses.proofs.Copies.{phi_values}
use Rattle.spv_label_uses.proofs.Free.{or_cases, same_by, one_passes, member_passes, all_1, is_free, free_is_no}
use Rattle.spv_label_uses.proofs.Groups.{also}
use Rattle.spv_label_uses.proofs.Known.{Known, known, body_of, has_row}
use Rattle.spv_label_uses.proofs.Memory as memories
use Rattle.spv_label_uses.proofs.Operations.{found_pair}
use Rattle.spv_label_uses.proofs.Sorted.{silent, branches, types, outside, constants, either, functions, parts, memory, sorted}
use Rattle.spv_label_uses.proofs.Types.{NeedsFree}
use Rattle.spv_composites.specs.Memory.{atomics}

-- ---- arithmetic

-- what has a form stands in functions
forms_inside : list_all (λ pair. not (stands_outside pair.0)) forms ≡ true
unfolding row_of
forms_inside = refl

differ : (b : Bool) → b ≡ true → b ≡ false → ⊥
differ true h k = cc
differ false h k = cc

form_needs : (insts : List Instruction) (i : Instruction) (form : Form) → is_of_form (opcode i) form ≡ true → is_one_of branches (opcode i) ≡ false
    → Needs insts form i → NeedsFree insts i
form_needs insts i Branches t other h =
    absurd (differ (is_one_of branches (opcode i)) (ap (is_one_of branches) (same_by (opcode i) op.BRANCH_CONDITIONAL t)) other)
form_needs insts i Switches t other h =
    absurd (differ (is_one_of branches (opcode i)) (ap (is_one_of branches) (same_by (opcode i) op.SWITCH t)) other)
form_needs insts i (Ints n) t other h = h
form_needs insts i (Bools n) t other h = h
form_needs insts i Compares t other h = h
form_needs insts i Reduces t other h = h
form_needs insts i Pairs t other h = h
form_needs insts i FieldInserts t other h = h
form_needs insts i FieldExtracts t other h = h
form_needs insts i Selects t other h = h
form_needs insts i Extended t other h = h
form_needs insts i Converts t other h = h

formed_need : (insts : List Instruction) (k : ℕ) (i : Instruction) → Known insts k i → is_one_of branches (opcode i) ≡ false
    → is_some (form_of (opcode i)) ≡ true → NeedsFree insts i
formed_need insts k i h other some = by (form_of (opcode i)) refl some where
  by : (form : Option Form) → form_of (opcode i) ≡ form → is_some form ≡ true → NeedsFree insts i
  by None e some = absurd (cc some)
  by (Some form) e some =
      let body = body_of insts k i h (not-true (stands_outside (opcode i))
      (found_pair (λ o f. not (stands_outside o)) forms (opcode i) forms_inside form e)) in
      let need : NeedsOf insts (Some form) i = subst (λ f. NeedsOf insts f i) e (arithmetic_needs insts i h.whole body.arithmetic body.arithmetic_result) in
      form_needs insts i form (found_pair is_of_form forms (opcode i) all_of_form form e) other need

-- ---- instructions that name no label

plain_need : (insts : List Instruction) (k : ℕ) (i : Instruction) → Known insts k i → is_one_of namings (opcode i) ≡ false
    → is_one_of silent (opcode i) ≡ false
    → is_one_of branches (opcode i) ≡ false → NeedsFree insts i
plain_need insts k i h named spoken other =
    let o : ℕ = opcode i in
    either_of (is_one_of silent o) _ (sorted o (has_row i h.whole)) (λ m. absurd (differ (is_one_of silent o) m spoken))
    (λ m. either_of (is_one_of namings o) _ m (λ m. absurd (differ (is_one_of namings o) m named))
    (λ m. either_of (is_one_of branches o) _ m (λ m. absurd (differ (is_one_of branches o) m other))
    (λ m. either_of (is_one_of types o) _ m (types_need insts k i h)
    (λ m. either_of (is_one_of outside o) _ m (outside_need insts k i h)
    (λ m. either_of (is_one_of constants o) _ m (constants_need insts k i h)
    (λ m. either_of (is_one_of either o) _ m (either_need insts k i h)
    (λ m. either_of (is_one_of functions o) _ m (functions_need insts k i h)
    (λ m. either_of (is_one_of parts o) _ m (parts_need insts k i h)
    (λ m. either_of (is_one_of memory o) _ m (memory_need insts k i h)
    (λ m. either_of (is_one_of memories.chains o) _ m (chains_need insts k i h)
    (λ m. either_of (is_one_of atomics o) _ m (atomics_need insts k i h)
    (λ m. formed_need insts k i h other m))))))))))))
  where
    either_of : {P : Type 0} (a b : Bool) → (a || b) ≡ true → (a ≡ true → P) → (b ≡ true → P) → P
    either_of a b h f g = or_cases a b h f g

-- ---- and those that do

branches_inside : list_all (λ o. not (stands_outside o)) branches ≡ true
unfolding row_of
branches_inside = refl

terminator_decides : (insts : List Instruction) (k : ℕ) (i : Instruction) → Known insts k i → is_one_of branches (opcode i) ≡ true
    → NeedsOf insts (form_of (opcode i)) i
terminator_decides insts k i h m =
    let body = body_of insts k i h (not-true (stands_outside (opcode i)) (one_passes (λ o. not (stands_outside o)) branches (opcode i) branches_inside m)) in
    arithmetic_needs insts i h.whole body.arithmetic body.arithmetic_result

-- what an instruction of an opcode uses as values
abbrev uses_by : (o : ℕ) → Instruction → List ℕ
uses_by o i =
    cond (o == op.PHI) (slice_index i.words 1 ∷ map (λ pair. pair.0) (pairs (drop 3 i.words)))
    (cond (o == op.BRANCH_CONDITIONAL || o == op.SWITCH) (slice_index i.words 1 ∷ [])
    (cond (is_one_of (op.BRANCH ∷ op.SELECTION_MERGE ∷ op.LOOP_MERGE ∷ []) o) [] (used_ids i)))

branches_use : (insts : List Instruction) (k : ℕ) (i : Instruction) → Known insts k i → is_one_of branches (opcode i) ≡ true
    → list_all (is_free insts) (uses_by (opcode i) i) ≡ true
branches_use insts k i h m =
    let body = body_of insts k i h (not-true (stands_outside (opcode i)) (one_passes (λ o. not (stands_outside o)) branches (opcode i) branches_inside m)) in
    let decides = terminator_decides insts k i h m in
    by_opcode i branches
    (also (λ e. at op.PHI e (phi_values insts i e body.composites body.composite_results))
    (also (λ e. at op.BRANCH_CONDITIONAL e (all_1 (is_free insts) (slice_index i.words 1) (subst (λ o. NeedsOf insts (form_of o) i) e decides)))
    (also (λ e. at op.SWITCH e (all_1 (is_free insts) (slice_index i.words 1) (subst (λ o. NeedsOf insts (form_of o) i) e decides)))
    (also (λ e. at op.BRANCH e refl)
    (also (λ e. at op.SELECTION_MERGE e refl)
    (also (λ e. at op.LOOP_MERGE e refl) tt)))))) m
  where
    at : (o : ℕ) → opcode i ≡ o → list_all (is_free insts) (uses_by o i) ≡ true → list_all (is_free insts) (uses_by (opcode i) i) ≡ true
    at o e all = ap (λ n. list_all (is_free insts) (uses_by n i)) e ∙ all

-- an instruction that names no label uses what it needs
plain_uses : (i : Instruction) (o : ℕ) → is_one_of branches o ≡ false → uses_by o i ≡ used_ids i
plain_uses i o h =
    let p = or_parts (o == op.PHI) _ h in
    let b = or_parts (o == op.BRANCH_CONDITIONAL) _ p.1 in
    let s = or_parts (o == op.SWITCH) _ b.1 in
    by (o == op.PHI) (o == op.BRANCH_CONDITIONAL) (o == op.SWITCH) (is_one_of (op.BRANCH ∷ op.SELECTION_MERGE ∷ op.LOOP_MERGE ∷ []) o) p.0 b.0 s.0 s.1
  where
    by : (p b s m : Bool) → p ≡ false → b ≡ false → s ≡ false → m ≡ false
        → cond p (slice_index i.words 1 ∷ map (λ pair. pair.0) (pairs (drop 3 i.words)))
        (cond (b || s) (slice_index i.words 1 ∷ []) (cond m [] (used_ids i))) ≡ used_ids i
    by false false false false hp hb hs hm = refl
    by true b s m hp hb hs hm = absurd (cc hp)
    by false true s m hp hb hs hm = absurd (cc hb)
    by false false true m hp hb hs hm = absurd (cc hs)
    by false false false true hp hb hs hm = absurd (cc hm)

-- ---- all

silent_apart : list_all (λ o. not (is_one_of branches o)) silent ≡ true
silent_apart = refl

loud : (o : ℕ) → is_one_of namings o ≡ false → is_one_of silent o ≡ false → (o == op.LINE || o == op.NO_LINE) ≡ false
loud o named spoken = by (o == op.LINE || o == op.NO_LINE) refl where
  by : (b : Bool) → (o == op.LINE || o == op.NO_LINE) ≡ b → (o == op.LINE || o == op.NO_LINE) ≡ false
  by false e = e
  by true e =
      or_cases (o == op.LINE) (o == op.NO_LINE) e
      (λ l. absurd (differ (is_one_of namings o) (ap (is_one_of namings) (same_by o op.LINE l)) named))
      (λ l. absurd (differ (is_one_of silent o) (ap (is_one_of silent) (same_by o op.NO_LINE l)) spoken))

all_free : (insts : List Instruction) → FindNothing insts → (k : ℕ) (i : Instruction) → slice_get insts k ≡ Some i → is_one_of namings (opcode i) ≡ false
    → list_all (is_free insts) (value_uses i) ≡ true
all_free insts h k i at named = by (is_one_of silent (opcode i)) (is_one_of branches (opcode i)) refl refl where
  there : is_one_of silent (opcode i) ≡ false → Known insts k i
  there spoken = known insts h k i at (loud (opcode i) named spoken)

  by : (s b : Bool) → is_one_of silent (opcode i) ≡ s → is_one_of branches (opcode i) ≡ b → list_all (is_free insts) (uses_by (opcode i) i) ≡ true
  by true b hs hb =
      let other = not-true (is_one_of branches (opcode i)) (one_passes (λ o. not (is_one_of branches o)) silent (opcode i) silent_apart hs) in
      ap (list_all (is_free insts)) (plain_uses i (opcode i) other) ∙ silent_need insts i (h.instructions k i at) hs
  by false true hs hb = branches_use insts k i (there hs) hb
  by false false hs hb = ap (list_all (is_free insts)) (plain_uses i (opcode i) hb) ∙ plain_need insts k i (there hs) named hs hb

pub labels_are_no_values : LabelsAreNoValues
labels_are_no_values insts h = record {
  at = λ k i there named id used.
      free_is_no insts id op.LABEL (member_passes (is_free insts) (value_uses i) id (all_free insts h k i there named) used) refl;
}

pub strings_are_no_values : StringsAreNoValues
strings_are_no_values insts h = record {
  at = λ k i there named id used.
      free_is_no insts id op.STRING (member_passes (is_free insts) (value_uses i) id (all_free insts h k i there named) used) refl;
}
