-- In a module that is its own normal form, each label that an instruction of a function names is defined by an OpLabel.
use Rattle.std.proofs.Common.{◌≡◌, ℕ, Bool, true, false, cond, ◌==◌, ◌||◌, List, [], ◌∷◌, ◌++◌, Some, refl, sym, ap, subst, ◌∙◌}
use Rattle.std.specs.List.{AllByRecursion}
use Rattle.spv_opcodes.specs.declared.op.TheConstants as op
use Rattle.spv_module.specs.Code.{is_line}
use Rattle.spv_module.specs.Instruction.{Instruction, opcode}
use Rattle.spv_ids.specs.Ids.{kind}
use Rattle.spv_blocks.specs.Blocks.{block, is_label, is_some_block}
use Rattle.spv_blocks.specs.Cutting.{block_of, blocks_of, function_insts, is_label_mark, word}
use Rattle.spv_walk.proofs.Unique.{equal_true}
use Rattle.spv_normal.specs.Lines.{without_marks}
use Rattle.spv_normal.specs.Normal.{normal_function}
use Rattle.spv_tree.specs.declared.body.Body.{Body}
use Rattle.spv_tree.specs.Tree.{body_of, words_of}
use Rattle.spv_spelling.specs.Spelling.{SpellsFunction}
use Rattle.spv_spelling.specs.Whole.{IsAdmitted}
use Rattle.spv_respelling.proofs.Admitted.{listing_is_admitted, normal_stays}
use Rattle.spv_respelling.proofs.Inside.{no_marks}
use Rattle.spv_respelling.proofs.Whole.{respells_listing}
use Rattle.spv_norm_means.proofs.InOrder.{joined}
use Rattle.spv_norm_structured.specs.Laws.{IsNormAgain, IsReadAsTrees}
use Rattle.spv_norm_structured.proofs.Again.{IsAgain, halves, known, pieces, whole}
use Rattle.spv_norm_structured.proofs.Pieces.{all_at, all_both, at_all}
use Rattle.spv_norm_declarations.proofs.Defined.{label_defines}
use Rattle.spv_norm_declarations.proofs.MadeLabels.{LineNames, function_labels}
use Rattle.spv_norm_declarations.proofs.Uses.{labels}
use Rattle.spv_norm_entries.proofs.Places.{the_kind}

-- ---- lists

pub all_to : {A : Type 0} (P Q : A → Type 0) (xs : List A) → ((x : A) → P x → Q x) → AllByRecursion P xs → AllByRecursion Q xs
all_to P Q [] to h = tt
all_to P Q (x ∷ xs) to h = (to x h.0, all_to P Q xs to h.1)

all_front : {A : Type 0} (P : A → Type 0) (xs ys : List A) → AllByRecursion P (xs ++ ys) → AllByRecursion P xs
all_front P [] ys h = tt
all_front P (x ∷ xs) ys h = (h.0, all_front P xs ys h.1)

all_back : {A : Type 0} (P : A → Type 0) (xs ys : List A) → AllByRecursion P (xs ++ ys) → AllByRecursion P ys
all_back P [] ys h = h
all_back P (x ∷ xs) ys h = all_back P xs ys h.1

in_texts : (P : Instruction → Type 0) (ts : List (List Instruction)) → AllByRecursion P (joined ts) → AllByRecursion (AllByRecursion P) ts
in_texts P [] h = tt
in_texts P (t ∷ ts) h = (all_front P t (joined ts) h, in_texts P ts (all_back P t (joined ts) h))

of_texts : (P : Instruction → Type 0) (ts : List (List Instruction)) → AllByRecursion (AllByRecursion P) ts → AllByRecursion P (joined ts)
of_texts P [] h = tt
of_texts P (t ∷ ts) h = all_both P t (joined ts) h.0 (of_texts P ts h.1)

of_words : (Q : List ℕ → Type 0) (is : List Instruction) → AllByRecursion Q (words_of is) → AllByRecursion (λ (i : Instruction). Q i.words) is
of_words Q [] h = tt
of_words Q (i ∷ is) h = (h.0, of_words Q is h.1)

-- ---- a label of a block

label_no_line : (i : Instruction) → opcode i ≡ op.LABEL → is_line i ≡ false
label_no_line i e = ap (λ o. o == op.LINE || o == op.NO_LINE) e

module _ (insts : List Instruction) (bodies : List Body) (read : IsReadAsTrees insts bodies) (norm : IsNormAgain insts insts) where
  abbrev pub IsLabel : ℕ → Type 0
  IsLabel l = kind insts l ≡ op.LABEL

  -- the id of an OpLabel is a label
  abbrev Marks : Instruction → Type 0
  Marks i = is_label_mark i ≡ true → IsLabel (word i 1)

  marks : AllByRecursion Marks insts
  marks =
      all_at Marks insts
      (λ k i there mark.
      let e = equal_true (opcode i) op.LABEL mark in
      the_kind insts read.once k i there (label_no_line i e) (word i 1) (label_defines i (read.instructions k i there) e) ∙ e)

  -- so is the label of a block; induction on the instructions
  block_label : (is : List Instruction) (l : ℕ) → AllByRecursion Marks is → is_label (blocks_of is) l ≡ true → IsLabel l
  block_label [] l h e = absurd (cc e)
  block_label (i ∷ is) l h e = by (is_label_mark i) (word i 1 == l) refl refl e (block_label is l h.1) where
    by : (mark same : Bool) → is_label_mark i ≡ mark → (word i 1 == l) ≡ same
        → is_some_block (block (cond mark (block_of i is ∷ blocks_of is) (blocks_of is)) l) ≡ true → (is_label (blocks_of is) l ≡ true → IsLabel l)
        → IsLabel l
    by true true m s e more = subst IsLabel (equal_true (word i 1) l s) (h.0 m)
    by true false m s e more = more (sym (ap (λ (b : Bool). is_some_block (cond b (Some (block_of i is)) (block (blocks_of is) l))) s) ∙ e)
    by false same m s e more = more e

  -- ---- in functions

  abbrev pub NamesLabels : Instruction → Type 0
  NamesLabels i = AllByRecursion IsLabel (labels i)

  -- a function names labels of its blocks
  text_names : (k : ℕ) (t : List Instruction) → IsAgain insts bodies k t → AllByRecursion (λ i. AllByRecursion (λ l. is_label (blocks_of t) l ≡ true) (labels i)) t
  text_names k t a =
      let s = a.tree.parsed.spelled in
      let own = function_insts k insts in
      let bare : without_marks t ≡ t = no_marks t a.text in
      let admitted : IsAdmitted t = listing_is_admitted (without_marks own) s.stays (body_of a.body) s.admitted s.spells t a.lists a.instructions in
      let spells : SpellsFunction t (λ l. l) (body_of a.body) = respells_listing (without_marks own) s.stays (body_of a.body) s.admitted s.spells t a.lists in
      let stays : normal_function t ≡ words_of t =
      normal_stays own s.stays (body_of a.body) s.admitted s.spells t (a.lists ∙ a.tree.normal) a.instructions in
      of_words (LineNames (λ l. is_label (blocks_of t) l ≡ true)) t
      (subst (AllByRecursion (LineNames (λ l. is_label (blocks_of t) l ≡ true))) stays
      (subst (λ z. AllByRecursion (LineNames (λ l. is_label (blocks_of z) l ≡ true)) (normal_function t)) bare
      (function_labels t (λ l. l) (body_of a.body) (subst IsAdmitted (sym bare) admitted)
      (subst (λ z. SpellsFunction z (λ l. l) (body_of a.body)) (sym bare) spells))))

  abbrev front : List Instruction
  front = (halves insts insts bodies read norm).front

  abbrev pub texts : List (List Instruction)
  texts = (pieces insts insts bodies read norm).texts

  marks_in_texts : AllByRecursion (AllByRecursion Marks) texts
  marks_in_texts =
      in_texts Marks texts (all_back Marks front (joined texts) (subst (AllByRecursion Marks) (whole insts insts bodies read norm) marks))

  pub texts_name_labels : AllByRecursion NamesLabels (joined texts)
  texts_name_labels =
      of_texts NamesLabels texts
      (all_at (AllByRecursion NamesLabels) texts
      (λ k t e.
      all_to (λ i. AllByRecursion (λ l. is_label (blocks_of t) l ≡ true) (labels i)) NamesLabels t
      (λ i h.
      all_to (λ l. is_label (blocks_of t) l ≡ true) IsLabel (labels i)
      (λ l g. block_label t l (at_all (AllByRecursion Marks) texts marks_in_texts k t e) g) h)
      (text_names k t (known insts insts bodies read norm k t e))))
