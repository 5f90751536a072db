-- What the lines of a function's normal form call and use: what its instructions do, but for labels.
use Rattle.std.proofs.Common.{◌≡◌, inl, inr, ◌⊎◌, ℕ, ◌^◌, Bool, true, false, cond, nat_eq, ◌==◌, ◌||◌, List, [], ◌∷◌, take, drop, Some, refl, sym, ap, subst, ◌∙◌, arith}
use Rattle.std.specs.List.{AllByRecursion, slice_index}
use Rattle.std.specs.Option.{option_map_or}
use Rattle.graph.proofs.Elements.{same_test}
use Rattle.spv_opcodes.specs.declared.op.TheConstants as op
use Rattle.spv_grammar.specs.Roles.{is_defined_id}
use Rattle.spv_grammar.specs.Table.{row_of}
use Rattle.spv_module.specs.Code.{is_line}
use Rattle.spv_module.specs.Instruction.{Instruction, IsInstruction, opcode, roles, word_with}
use Rattle.spv_ids.specs.Ids.{defines, kind, used_ids}
use Rattle.spv_declarations.proofs.Parts.{defined-plain, row_test, first_plain}
use Rattle.spv_blocks.specs.Blocks.{block, is_label, is_some_block}
use Rattle.spv_blocks.specs.Cutting.{block_of, blocks_of, function_insts, is_label_mark, word}
use Rattle.spv_walk.proofs.Unique.{equal_true, true_equal, truth_apart}
use Rattle.spv_bodies.specs.Bodies.{Function}
use Rattle.spv_bodies.specs.Listing.{instruction, label_line}
use Rattle.spv_normal.specs.Lines.{line, without_marks}
use Rattle.spv_normal.specs.Normal.{copied, normal_function, renamed}
use Rattle.spv_normal_trees.specs.Laws.{stays_by}
use Rattle.spv_normal_trees.proofs.Texts.{opcode_spelled}
use Rattle.spv_tree.specs.Sound.{opcode_in}
use Rattle.spv_spelling.specs.Spelling.{SpellsFunction}
use Rattle.spv_spelling.specs.Whole.{AreInstructions, IsAdmitted}
use Rattle.spv_texts.specs.Laws.{DefinesOnce}
use Rattle.spv_calls.specs.Interfaces.{has}
use Rattle.spv_structured.proofs.Lists.{each_at}
use Rattle.spv_trees.specs.Standing.{OneOf}
use Rattle.spv_norm_declared.proofs.Instructions.{IsUnbroken}
use Rattle.spv_norm_declared.proofs.MadeLines.{is_phi}
use Rattle.spv_norm_declared.proofs.FunctionLines.{AreMade, all_of_function, lines_made, stays_have}
use Rattle.spv_norm_entries.proofs.Lists.{all_when, there_of}
use Rattle.spv_norm_entries.proofs.Places.{the_kind}
use Rattle.spv_norm_entries.proofs.Uses.{IsNamed, IsPhiOf, branch_uses, copied_uses, end_uses, label_uses, renamed_uses, uses}

-- ---- labels

record IsMark (is : List Instruction) (l : ℕ) : Type 0 where
  inst : Instruction
  one : OneOf inst is
  marks : is_label_mark inst ≡ true
  label : word inst 1 ≡ l

-- a label of a block is that of an OpLabel; induction on the instructions
mark_of : (is : List Instruction) (l : ℕ) → is_label (blocks_of is) l ≡ true → IsMark is l
mark_of [] l e = absurd (cc e)
mark_of (i ∷ is) l e = by (is_label_mark i) (word i 1 == l) refl refl e (mark_of is l) where
  later : IsMark is l → IsMark (i ∷ is) l
  later m = record { inst = m.inst; one = inr m.one; marks = m.marks; label = m.label }

  by : (mark same : Bool) → is_label_mark i ≡ mark → (word i 1 == l) ≡ same
      → is_some_block (block (cond mark (block_of i is ∷ blocks_of is) (blocks_of is)) l) ≡ true
      → (is_label (blocks_of is) l ≡ true → IsMark is l) → IsMark (i ∷ is) l
  by true true m s e more = record { inst = i; one = inl refl; marks = m; label = equal_true (word i 1) l s }
  by true false m s e more = later (more (sym (ap (λ (b : Bool). is_some_block (cond b (Some (block_of i is)) (block (blocks_of is) l))) s) ∙ e))
  by false same m s e more = later (more e)

label_row : row_test first_plain (row_of op.LABEL) ≡ true
unfolding row_of
label_row = refl

second_word : (words : List ℕ) → slice_index (drop 1 words) 0 ≡ slice_index words 1
second_word [] = refl
second_word (w ∷ ws) = refl

label_defines : (i : Instruction) → IsInstruction i.words (roles i) → is_label_mark i ≡ true → word_with is_defined_id i ≡ Some (word i 1)
label_defines i whole h =
    defined-plain i whole (ap (λ o. row_test first_plain (row_of o)) (equal_true (opcode i) op.LABEL h) ∙ label_row) ∙ ap Some (second_word i.words)

label_no_line : (i : Instruction) → is_label_mark i ≡ true → is_line i ≡ false
label_no_line i h = ap (λ o. o == op.LINE || o == op.NO_LINE) (equal_true (opcode i) op.LABEL h)

label_kind : (insts : List Instruction) → AreInstructions insts → DefinesOnce insts → (j : Instruction) → OneOf j insts → is_label_mark j ≡ true → (l : ℕ)
    → word j 1 ≡ l → kind insts l ≡ op.LABEL
label_kind insts formed once j one mark l e =
    let t = there_of insts j one in
    let d : defines l j ≡ true =
    ap (λ o. option_map_or (nat_eq l) o false) (label_defines j (formed t.0 j t.1) mark) ∙ same_test l (word j 1) (sym e) in
    the_kind insts once t.0 j t.1 (label_no_line j mark) l d ∙ equal_true (opcode j) op.LABEL mark

-- ---- lines

-- what is said of a line that is made of these instructions of a module: a call is one of them, and each id that it uses is a label or used by one of them
pub record IsMade (insts is : List Instruction) (w : List ℕ) : Type 0 where
  pub called : opcode_in w ≡ op.FUNCTION_CALL → (j : Instruction) × OneOf j is × (j.words ≡ w)
  pub used : (id : ℕ) → has (uses w) id ≡ true → (kind insts id ≡ op.LABEL) ⊎ ((j : Instruction) × OneOf j is × (has (used_ids j) id ≡ true))

pub made_of_more : (insts is js : List Instruction) (w : List ℕ) → ((j : Instruction) → OneOf j is → OneOf j js) → IsMade insts is w → IsMade insts js w
made_of_more insts is js w h m = record {
  called = λ e. (let c = m.called e in (c.0, h c.0 c.1, c.2));
  used = λ id u. by id (m.used id u);
} where
  by : (id : ℕ) → (kind insts id ≡ op.LABEL) ⊎ ((j : Instruction) × OneOf j is × (has (used_ids j) id ≡ true))
      → (kind insts id ≡ op.LABEL) ⊎ ((j : Instruction) × OneOf j js × (has (used_ids j) id ≡ true))
  by id (inl l) = inl l
  by id (inr u) = inr (u.0, h u.0 u.1, u.2)

no_call : {P : Type 0} (o k : ℕ) → o ≡ k → (k == op.FUNCTION_CALL) ≡ false → o ≡ op.FUNCTION_CALL → P
no_call o k e n c = truth_apart (o == op.FUNCTION_CALL) (true_equal o op.FUNCTION_CALL c) (ap (λ z. z == op.FUNCTION_CALL) e ∙ n)

-- a line that uses nothing, and one that uses what an instruction uses
none_made : (insts is : List Instruction) (w : List ℕ) (k : ℕ) → opcode_in w ≡ k → (k == op.FUNCTION_CALL) ≡ false → uses w ≡ [] → IsMade insts is w
none_made insts is w k e n u = record { called = λ c. no_call (opcode_in w) k e n c; used = λ id h. absurd (cc (sym (ap (λ xs. has xs id) u) ∙ h)) }

like_made : (insts is : List Instruction) (w : List ℕ) (k : ℕ) (i : Instruction) → opcode_in w ≡ k → (k == op.FUNCTION_CALL) ≡ false → OneOf i is
    → ((id : ℕ) → has (uses w) id ≡ true → has (used_ids i) id ≡ true) → IsMade insts is w
like_made insts is w k i e n one u = record { called = λ c. no_call (opcode_in w) k e n c; used = λ id h. inr (i, one, u id h) }

phi_of : (i : Instruction) → IsUnbroken (2 ^ 32) i.words → opcode i ≡ op.PHI → IsPhiOf i.words
phi_of i u e =
    let p = is_phi (2 ^ 32) i.words u e in
    record { head = p.head; type = p.type; name = p.name; rest = p.rest; same = p.same; begins = p.begins; even = p.even }

renamed_opcode : (stays : ℕ → ℕ) (i : Instruction) → IsPhiOf i.words → opcode_in (renamed stays i) ≡ op.PHI
renamed_opcode stays i p = subst (λ w. opcode_in (renamed stays (record { offset = 0; words = w })) ≡ op.PHI) (sym p.same) p.begins

module _ (insts : List Instruction) (formed : AreInstructions insts) (once : DefinesOnce insts) (k : ℕ) (stays : ℕ → ℕ) (tree : Function)
    (admitted : IsAdmitted (without_marks (function_insts k insts))) (spells : SpellsFunction (without_marks (function_insts k insts)) stays tree) where
  abbrev is : List Instruction
  is = without_marks (function_insts k insts)

  abbrev given : ℕ → ℕ
  given = stays_by (blocks_of is)

  abbrev IsOwn : Instruction → Type 0
  IsOwn i = OneOf i is × IsUnbroken (2 ^ 32) i.words

  pub of_module : (j : Instruction) → OneOf j is → OneOf j insts
  of_module j h = each_at (λ i. OneOf i insts) is (all_of_function (λ i. OneOf i insts) insts k (all_when (λ i. OneOf i insts) insts (λ x g. g))) j h

  whole : (j : Instruction) → OneOf j is → IsInstruction j.words (roles j)
  whole j h = let t = there_of insts j (of_module j h) in formed t.0 j t.1

  own : AllByRecursion IsOwn is
  own = all_when IsOwn is (λ j h. (h, (let w = whole j h in record { counted = record { some = w.some; counted = w.counted }; rules = w.unbroken })))

  block_label : (l : ℕ) → is_label (blocks_of is) l ≡ true → kind insts l ≡ op.LABEL
  block_label l h = let m = mark_of is l h in label_kind insts formed once m.inst (of_module m.inst m.one) m.marks l m.label

  line_made : (i : Instruction) → IsOwn i → IsMade insts is (line i)
  line_made i u = by (opcode i == op.BRANCH_CONDITIONAL) refl where
    by : (b : Bool) → (opcode i == op.BRANCH_CONDITIONAL) ≡ b → IsMade insts is (cond b (instruction op.BRANCH_CONDITIONAL (take 3 (drop 1 i.words))) i.words)
    by true e =
        let w = whole i u.0 in
        like_made insts is (instruction op.BRANCH_CONDITIONAL (take 3 (drop 1 i.words))) op.BRANCH_CONDITIONAL i
        (opcode_spelled op.BRANCH_CONDITIONAL (take 3 (drop 1 i.words)) (omega arith)) refl u.0
        (λ id h. branch_uses i.words (roles i) w.parted (equal_true (opcode i) op.BRANCH_CONDITIONAL e) id h)
    by false e = record { called = λ c. (i, u.0, refl); used = λ id h. inr (i, u.0, h) }

  abbrev IsKnown : ℕ → Type 0
  IsKnown id = (kind insts id ≡ op.LABEL) ⊎ ((j : Instruction) × OneOf j is × (has (used_ids j) id ≡ true))

  renamed_made : (i : Instruction) → IsOwn i → opcode i ≡ op.PHI → IsMade insts is (renamed given i)
  renamed_made i u e = record {
    called = λ c. no_call (opcode_in (renamed given i)) op.PHI (renamed_opcode given i phi) refl c;
    used = λ id h. by id (renamed_uses given i phi id h);
  } where
    phi : IsPhiOf i.words
    phi = phi_of i u.1 e

    by : (id : ℕ) → IsNamed given (used_ids i) id → IsKnown id
    by id m = elim m.same [
      | inl s ↦ subst IsKnown (sym s) (inr (i, u.0, m.one))
      | inr s ↦ subst IsKnown (sym s) (stays_have is stays tree admitted spells IsKnown (λ l h. inl (block_label l h)) m.named (inr (i, u.0, m.one)))
    ]

  made : AreMade IsOwn (IsMade insts is) given
  made = record {
    label = λ i u m. none_made insts is (label_line (word i 1)) op.LABEL refl refl (label_uses (word i 1));
    line = line_made;
    renamed = renamed_made;
    copied = λ i u e some. like_made insts is (copied i) op.COPY_OBJECT i refl refl u.0 (copied_uses i (phi_of i u.1 e) some);
    end = none_made insts is (instruction op.FUNCTION_END []) op.FUNCTION_END refl refl end_uses;
  }

  -- the lines of the normal form of a function
  pub function_made : AllByRecursion (IsMade insts is) (normal_function (function_insts k insts))
  function_made = lines_made is stays tree admitted spells IsOwn (IsMade insts is) own made
