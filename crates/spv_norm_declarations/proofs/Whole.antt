-- The normal form of a module breaks no rule on declarations: outside functions by what stays, in functions by values and labels.
use Rattle.std.proofs.Common.{◌≡◌, ◌⊎◌, inl, inr, ℕ, zero, suc, Bool, true, false, cond, not, ◌==◌, ◌&&◌, ◌||◌, List, [], ◌∷◌, ◌++◌, Some, None, refl, sym, ap, subst, ◌∙◌, append_assoc}
use Rattle.std.specs.Prelude.{All}
use Rattle.std.proofs.lemmas.Bool.{or_parts}
use Rattle.std.proofs.lemmas.List.Elements.{All-head, All-tail}
use Rattle.std.proofs.lemmas.List.Folds.{list_any-append}
use Rattle.std.specs.List.{AllByRecursion, list_any, slice_get}
use Rattle.spv_opcodes.specs.declared.op.TheConstants as op
use Rattle.spv_grammar.specs.Table.{row_of}
use Rattle.spv_module.specs.Code.{is_function, is_line}
use Rattle.spv_module.specs.First.{first}
use Rattle.spv_module.specs.Instruction.{Instruction, opcode}
use Rattle.spv_ids.specs.Ids.{defines, is_defined, kind, used_ids}
use Rattle.spv_typing.specs.Kinds.{is_one_of}
use Rattle.spv_values.specs.Values.{value_type}
use Rattle.spv_declarations.specs.Broken.{group_3}
use Rattle.spv_declarations.proofs.Declares.{AllOf}
use Rattle.spv_blocks.specs.Blocks.{block, is_label, is_some_block}
use Rattle.spv_blocks.specs.Cutting.{block_of, blocks_of, function_insts, is_label_mark, word}
use Rattle.spv_walk.proofs.Unique.{equal_true, left_holds, right_holds, true_equal, truth_apart}
use Rattle.spv_normal.specs.Lines.{without_marks}
use Rattle.spv_normal.specs.Normal.{normal_function}
use Rattle.spv_tree.specs.declared.body.Body.{Body}
use Rattle.spv_tree.specs.Sound.{is_step}
use Rattle.spv_tree.specs.Sound as sound
use Rattle.spv_tree.specs.Tree.{body_of, words_of}
use Rattle.spv_spelling.specs.Spelling.{SpellsFunction}
use Rattle.spv_spelling.specs.Whole.{IsAdmitted, IsText, block_marks, is_in_block}
use Rattle.spv_texts.specs.Laws.{DefinesOnce}
use Rattle.spv_texts.proofs.Functions.{fits_in_module}
use Rattle.spv_respelling.proofs.Admitted.{listing_is_admitted, normal_stays}
use Rattle.spv_respelling.proofs.Whole.{respells_listing}
use Rattle.spv_respelling.proofs.Inside.{no_marks}
use Rattle.spv_norm.specs.Norm.{function_lines, is_gone, is_label_line, namings, outside, stays_outside, staying}
use Rattle.spv_norm_means.proofs.InOrder.{joined}
use Rattle.spv_norm_structured.specs.Laws.{IsNormAgain, IsReadAsTrees}
use Rattle.spv_norm_structured.proofs.Again.{IsAgain, are_pieces, halves, known, pieces, whole}
use Rattle.spv_norm_structured.proofs.Pieces.{IsPiece, all_at, all_both}
use Rattle.spv_norm_declared.proofs.FunctionLines.{all_of_function}
use Rattle.spv_norm_declarations.proofs.Defined.{IsFormed, label_defines, stays_defined}
use Rattle.spv_norm_declarations.proofs.InFunctions.{IsQuiet, declaring, none_inside, quiet_by}
use Rattle.spv_norm_declarations.proofs.Lookups.{LooksAlike}
use Rattle.spv_norm_declarations.proofs.MadeLabels.{LineNames, all_formed, function_labels}
use Rattle.spv_norm_declarations.proofs.MadeValues.{LineUsesValues, UsesValues, function_values}
use Rattle.spv_norm_declarations.proofs.Outside.{none_outside}
use Rattle.spv_norm_declarations.proofs.OutsideKnown.{ComesOf, NotInner, all_values, comes_of, goes_mute, lines_define, outside_not_inner, stays_no_gone, stays_no_line}
use Rattle.spv_norm_declarations.proofs.Rules.{NoneAt, none_found}
use Rattle.spv_norm_declarations.proofs.Uses.{labels, used_all, values}
use Rattle.spv_norm_declarations.proofs.Values.{IsKnown, IsThere, NoLabelValues, all_known_at, all_values_at, naming}

-- ---- lists

all_here : {A : Type 0} (P : A → Type 0) (xs : List A) (y : A) (ys : List A) → AllByRecursion P (xs ++ y ∷ ys) → P y
all_here P [] y ys h = h.0
all_here P (x ∷ xs) y ys h = all_here P xs y ys h.1

all_front : {A : Type 0} (P : A → Type 0) (xs ys : List A) → AllByRecursion P (xs ++ ys) → AllByRecursion P xs
all_front P [] ys h = tt
all_front P (x ∷ xs) ys h = (h.0, all_front P xs ys h.1)

all_to : {A : Type 0} (P Q : A → Type 0) (xs : List A) → ((x : A) → P x → Q x) → AllByRecursion P xs → AllByRecursion Q xs
all_to P Q [] to h = tt
all_to P Q (x ∷ xs) to h = (to x h.0, all_to P Q xs to h.1)

all_pair : {A : Type 0} (P Q : A → Type 0) (xs : List A) → AllByRecursion P xs → AllByRecursion Q xs → AllByRecursion (λ x. P x × Q x) xs
all_pair P Q [] h g = tt
all_pair P Q (x ∷ xs) h g = ((h.0, g.0), all_pair P Q xs h.1 g.1)

of_words : (Q : List ℕ → Type 0) (is : List Instruction) → AllByRecursion Q (words_of is) → AllByRecursion (λ (i : Instruction). Q i.words) is
of_words Q [] h = tt
of_words Q (i ∷ is) h = (h.0, of_words Q is h.1)

all_texts : (P : Instruction → Type 0) (ts : List (List Instruction)) → AllByRecursion (AllByRecursion P) ts → AllByRecursion P (joined ts)
all_texts P [] h = tt
all_texts P (t ∷ ts) h = all_both P t (joined ts) h.0 (all_texts P ts h.1)

-- a place among two lists is one in the first or in the second
data Place (xs ys qs : List Instruction) (j : Instruction) (rest : List Instruction) : Type 0 where
  InFront : (more : List Instruction) → xs ≡ qs ++ j ∷ more → Place xs ys qs j rest
  InBack : (before : List Instruction) → qs ≡ xs ++ before → ys ≡ before ++ j ∷ rest → Place xs ys qs j rest

place_more : (x : Instruction) (xs ys qs : List Instruction) (j : Instruction) (rest : List Instruction) → Place xs ys qs j rest → Place (x ∷ xs) ys
    (x ∷ qs) j rest
place_more x xs ys qs j rest (InFront more e) = InFront more (ap (λ z. x ∷ z) e)
place_more x xs ys qs j rest (InBack before e g) = InBack before (ap (λ z. x ∷ z) e) g

-- by induction on both
place_of : (xs ys qs : List Instruction) (j : Instruction) (rest : List Instruction) → xs ++ ys ≡ qs ++ j ∷ rest → Place xs ys qs j rest
place_of [] ys qs j rest e = InBack qs refl e
place_of (x ∷ xs) ys [] j rest e = let here : x ≡ j = cc e in InFront xs (ap (λ z. z ∷ xs) here)
place_of (x ∷ xs) ys (q ∷ qs) j rest e =
    let here : x ≡ q = cc e in
    let later : xs ++ ys ≡ qs ++ j ∷ rest = cc e in
    subst (λ z. Place (x ∷ xs) ys (z ∷ qs) j rest) here (place_more x xs ys qs j rest (place_of xs ys qs j rest later))

-- ---- what stands in a function

abbrev in_block : ℕ → Bool
in_block o =
    o == op.LABEL
    || (o == op.BRANCH || o == op.BRANCH_CONDITIONAL || o == op.SWITCH || o == op.RETURN || o == op.RETURN_VALUE || o == op.UNREACHABLE) || is_step o
    || sound.is_one_of block_marks o

-- it declares nothing, is no line mark and names no label of any use
record IsInner (i : Instruction) : Type 0 where
  quiet : IsQuiet (opcode i)
  plain : is_line i ≡ false
  names : is_one_of naming (opcode i) ≡ false

not_among : (test : ℕ → Bool) (ks : List ℕ) → AllOf (λ k. test k ≡ false) ks → (o : ℕ) → test o ≡ true → is_one_of ks o ≡ false
not_among test [] fails o passes = refl
not_among test (k ∷ ks) fails o passes = by (o == k) refl (not_among test ks fails.1 o passes) where
  by : (b : Bool) → (o == k) ≡ b → is_one_of ks o ≡ false → ((o == k) || is_one_of ks o) ≡ false
  by true e more = absurd (truth_apart (test o) passes (ap test (equal_true o k e) ∙ fails.0))
  by false e more = ap (λ z. z || is_one_of ks o) e ∙ more

inner_by : (test : ℕ → Bool) → AllOf (λ k. test k ≡ false) declaring → AllOf (λ k. test k ≡ false) (op.LINE ∷ op.NO_LINE ∷ []) → AllOf
    (λ k. test k ≡ false) naming
    → (i : Instruction) → test (opcode i) ≡ true → IsInner i
inner_by test f g h i passes = record {
  quiet = quiet_by test f (opcode i) passes;
  plain = plain_of (opcode i == op.LINE) (opcode i == op.NO_LINE) (not_among test (op.LINE ∷ op.NO_LINE ∷ []) g (opcode i) passes);
  names = not_among test naming h (opcode i) passes;
} where
  plain_of : (a b : Bool) → (a || (b || false)) ≡ false → (a || b) ≡ false
  plain_of true b h = absurd (cc h)
  plain_of false true h = absurd (cc h)
  plain_of false false h = refl

block_inner : (i : Instruction) → is_in_block i ≡ true → IsInner i
unfolding row_of
block_inner i h =
    inner_by in_block (refl, (refl, (refl, (refl, (refl, (refl, (refl, (refl, (refl, (refl, (refl, (refl, tt)))))))))))) (refl, (refl, tt))
    (refl, (refl, (refl, (refl, tt)))) i h

inner_at : (k : ℕ) → AllOf (λ o. (o == k) ≡ false) declaring → AllOf (λ o. (o == k) ≡ false) (op.LINE ∷ op.NO_LINE ∷ []) → AllOf
    (λ o. (o == k) ≡ false) naming
    → (i : Instruction) → opcode i ≡ k → IsInner i
inner_at k f g h i e = inner_by (λ o. o == k) f g h i (true_equal (opcode i) k e)

function_inner : (i : Instruction) → opcode i ≡ op.FUNCTION → IsInner i
function_inner i e =
    inner_at op.FUNCTION (refl, (refl, (refl, (refl, (refl, (refl, (refl, (refl, (refl, (refl, (refl, (refl, tt)))))))))))) (refl, (refl, tt))
    (refl, (refl, (refl, (refl, tt)))) i e

parameter_inner : (i : Instruction) → opcode i ≡ op.FUNCTION_PARAMETER → IsInner i
parameter_inner i e =
    inner_at op.FUNCTION_PARAMETER (refl, (refl, (refl, (refl, (refl, (refl, (refl, (refl, (refl, (refl, (refl, (refl, tt)))))))))))) (refl, (refl, tt))
    (refl, (refl, (refl, (refl, tt)))) i e

end_inner : (i : Instruction) → opcode i ≡ op.FUNCTION_END → IsInner i
end_inner i e =
    inner_at op.FUNCTION_END (refl, (refl, (refl, (refl, (refl, (refl, (refl, (refl, (refl, (refl, (refl, (refl, tt)))))))))))) (refl, (refl, tt))
    (refl, (refl, (refl, (refl, tt)))) i e

label_inner : (i : Instruction) → is_label_mark i ≡ true → IsInner i
label_inner i h =
    inner_at op.LABEL (refl, (refl, (refl, (refl, (refl, (refl, (refl, (refl, (refl, (refl, (refl, (refl, tt)))))))))))) (refl, (refl, tt))
    (refl, (refl, (refl, (refl, tt)))) i (equal_true (opcode i) op.LABEL h)

all_inner : (P : Instruction → Type 0) (is : List Instruction) → ((i : Instruction) → P i → IsInner i) → All P is → AllByRecursion IsInner is
all_inner P [] to h = tt
all_inner P (i ∷ is) to h = (to i (All-head P i is h), all_inner P is to (All-tail P i is h))

text_inner : (t : List Instruction) → IsText t → AllByRecursion IsInner t
text_inner t s =
    subst (AllByRecursion IsInner) (sym s.same) (
      function_inner s.function s.begins,
      all_both IsInner (s.parameters ++ s.label ∷ s.blocks) (s.last ∷ [])
          (all_both IsInner s.parameters (s.label ∷ s.blocks) (all_inner (λ i. opcode i ≡ op.FUNCTION_PARAMETER) s.parameters parameter_inner s.takes)
          (label_inner s.label s.first, all_inner (λ i. is_in_block i ≡ true) s.blocks block_inner s.inside))
          (end_inner s.last s.ends, tt),
    )

-- ---- a label of the blocks is defined

label_there : (is : List Instruction) (l : ℕ) → AllByRecursion IsFormed is → is_label (blocks_of is) l ≡ true → is_defined is l ≡ true
label_there [] l formed h = absurd (cc h)
label_there (i ∷ is) l formed h = by (is_label_mark i) (word i 1 == l) refl refl h (label_there is l formed.1) where
  by : (mark same : Bool) → is_label_mark i ≡ mark → (word i 1 == l) ≡ same
      → is_some_block (block (cond mark (block_of i is ∷ blocks_of is) (blocks_of is)) l) ≡ true
      → (is_label (blocks_of is) l ≡ true → is_defined is l ≡ true) → (defines l i || is_defined is l) ≡ true
  by true true m s e more =
      left_holds (defines l i) (is_defined is l)
      (subst (λ k. defines k i ≡ true) (equal_true (word i 1) l s) (label_defines i formed.0 (equal_true (opcode i) op.LABEL m)))
  by true false m s e more =
      right_holds (defines l i) (is_defined is l) (more (sym (ap (λ (b : Bool). is_some_block (cond b (Some (block_of i is)) (block (blocks_of is) l))) s)
      ∙ e))
  by false same m s e more = right_holds (defines l i) (is_defined is l) (more e)

-- ---- one of the texts begins

begins : (ts : List (List Instruction)) → AllByRecursion IsPiece ts → (rs : List Instruction) (j : Instruction) (rest : List Instruction)
    → joined ts ≡ rs ++ j ∷ rest
    → (list_any is_function rs ≡ true) ⊎ (opcode j ≡ op.FUNCTION)
begins [] h [] j rest e = absurd (cc e)
begins [] h (r ∷ rs) j rest e = absurd (cc e)
begins (t ∷ ts) h rs j rest e = by rs (sym (ap (λ z. z ++ joined ts) h.0.same) ∙ e) where
  by : (ps : List Instruction) → h.0.function ∷ ((h.0.inner ++ h.0.last ∷ []) ++ joined ts) ≡ ps ++ j ∷ rest
      → (list_any is_function ps ≡ true) ⊎ (opcode j ≡ op.FUNCTION)
  by [] g = let same : h.0.function ≡ j = cc g in inr (ap opcode (sym same) ∙ h.0.begins)
  by (p ∷ ps) g =
      let same : h.0.function ≡ p = cc g in
      inl (left_holds (is_function p) (list_any is_function ps) (true_equal (opcode p) op.FUNCTION (ap opcode (sym same) ∙ h.0.begins)))

-- ---- the instructions behind the first function

abbrev split_insts : (is : List Instruction) → List Instruction
split_insts [] = []
split_insts (i ∷ is) = cond (is_function i) (i ∷ is) (split_insts is)

in_two : (is : List Instruction) → is ≡ outside is ++ split_insts is
in_two [] = refl
in_two (i ∷ is) = by (is_function i) (in_two is) where
  by : (b : Bool) → is ≡ outside is ++ split_insts is → i ∷ is ≡ cond b [] (i ∷ outside is) ++ cond b (i ∷ is) (split_insts is)
  by true more = refl
  by false more = ap (λ z. i ∷ z) more

module _ (insts again : List Instruction) (bodies : List Body) (read : IsReadAsTrees insts bodies) (norm : IsNormAgain insts again)
    (clean : first (group_3 insts) ≡ None) (alike : LooksAlike insts again) (types : (id : ℕ) → value_type again id ≡ value_type insts id)
    (once : DefinesOnce again) (free : NoLabelValues insts) where
  formed : AllByRecursion IsFormed insts
  formed = all_formed insts read.instructions

  formed_again : AllByRecursion IsFormed again
  formed_again = all_formed again norm.instructions

  abbrev D : ℕ → Type 0
  D = IsThere insts again alike types formed clean

  abbrev K : ℕ → Type 0
  K = IsKnown insts again alike types formed clean

  abbrev F : Instruction → Type 0
  F i = IsFormed i × (is_line i ≡ false → is_one_of naming (opcode i) ≡ false → AllByRecursion D (values i))

  each_value : AllByRecursion F insts
  each_value =
      all_to (λ i. IsFormed i × (IsFormed i → is_line i ≡ false → is_one_of naming (opcode i) ≡ false → AllByRecursion D (values i))) F insts
      (λ i h. (h.0, h.1 h.0))
      (all_pair IsFormed (λ i. IsFormed i → is_line i ≡ false → is_one_of naming (opcode i) ≡ false → AllByRecursion D (values i)) insts formed
      (all_values_at insts again alike types formed clean free))

  -- ---- in functions

  abbrev IsFine : Instruction → Type 0
  IsFine j = IsInner j × AllByRecursion D (used_ids j)

  text_fine : (k : ℕ) (t : List Instruction) → ((l : ℕ) → is_defined t l ≡ true → D l) → IsAgain insts bodies k t → AllByRecursion IsFine t
  text_fine k t within a =
      let s = a.tree.parsed.spelled in
      let own = function_insts k insts in
      let lines : words_of t ≡ normal_function own = a.lists ∙ a.tree.normal in
      let bare : without_marks t ≡ t = no_marks t a.text in
      let admitted : IsAdmitted t = listing_is_admitted (without_marks own) s.stays (body_of a.body) s.admitted s.spells t a.lists a.instructions in
      let spells : SpellsFunction t (λ l. l) (body_of a.body) = respells_listing (without_marks own) s.stays (body_of a.body) s.admitted s.spells t a.lists in
      let stays : normal_function t ≡ words_of t = normal_stays own s.stays (body_of a.body) s.admitted s.spells t lines a.instructions in
      let formed_text = all_formed t a.instructions in
      let inner = text_inner (without_marks own) s.admitted.text in
      let used : AllByRecursion (λ i. IsFormed i × UsesValues D i) (without_marks own) =
      all_to (λ i. F i × IsInner i) (λ i. IsFormed i × UsesValues D i) (without_marks own) (λ i h. (h.0.0, h.0.1 h.1.plain h.1.names))
      (all_pair F IsInner (without_marks own) (all_of_function F insts k each_value) inner) in
      let value_lines : AllByRecursion (LineUsesValues D) (words_of t) =
      subst (AllByRecursion (LineUsesValues D)) (sym lines) (function_values D own s.stays (body_of a.body) s.admitted s.spells used) in
      let label_lines : AllByRecursion (LineNames (λ l. is_label (blocks_of t) l ≡ true)) (words_of t) =
      subst (AllByRecursion (LineNames (λ l. is_label (blocks_of t) l ≡ true))) stays
      (subst (λ z. AllByRecursion (LineNames (λ l. is_label (blocks_of z) l ≡ true)) (normal_function t)) bare
      (function_labels t (λ l. l) (body_of a.body) (subst IsAdmitted (sym bare) admitted)
      (subst (λ z. SpellsFunction z (λ l. l) (body_of a.body)) (sym bare) spells))) in
      let both =
      all_pair IsFormed (λ i. AllByRecursion D (values i) × AllByRecursion (λ l. is_label (blocks_of t) l ≡ true) (labels i)) t formed_text
      (all_pair (λ i. AllByRecursion D (values i)) (λ i. AllByRecursion (λ l. is_label (blocks_of t) l ≡ true) (labels i)) t
      (of_words (LineUsesValues D) t value_lines)
      (of_words (LineNames (λ l. is_label (blocks_of t) l ≡ true)) t label_lines)) in
      all_pair IsInner (λ j. AllByRecursion D (used_ids j)) t (text_inner t a.text)
      (all_to (λ i. IsFormed i × (AllByRecursion D (values i) × AllByRecursion (λ l. is_label (blocks_of t) l ≡ true) (labels i)))
      (λ j. AllByRecursion D (used_ids j)) t
      (λ i h.
      used_all D i h.0 h.1.0
      (all_to (λ l. is_label (blocks_of t) l ≡ true) D (labels i) (λ l g. within l (label_there t l formed_text g)) h.1.1)) both)

  text_within : (ts : List (List Instruction)) (k : ℕ) (t : List Instruction) → slice_get ts k ≡ Some t → (p : Instruction → Bool) → list_any p t ≡ true
      → list_any p (joined ts) ≡ true
  text_within [] k t e p h = absurd (cc e)
  text_within (u ∷ ts) zero t e p h =
      let same : u ≡ t = cc e in
      list_any-append p u (joined ts) ∙ left_holds (list_any p u) (list_any p (joined ts)) (ap (list_any p) same ∙ h)
  text_within (u ∷ ts) (suc k) t e p h =
      list_any-append p u (joined ts) ∙ right_holds (list_any p u) (list_any p (joined ts)) (text_within ts k t e p h)

  abbrev front : List Instruction
  front = (halves insts again bodies read norm).front

  abbrev texts : List (List Instruction)
  texts = (pieces insts again bodies read norm).texts

  cut : again ≡ front ++ joined texts
  cut = whole insts again bodies read norm

  texts_fine : AllByRecursion IsFine (joined texts)
  texts_fine =
      all_texts IsFine texts
      (all_at (AllByRecursion IsFine) texts
      (λ k t e.
      text_fine k t
      (λ l h.
      ap (λ is. is_defined is l) cut ∙ list_any-append (defines l) front (joined texts)
      ∙ right_holds (is_defined front l) (is_defined (joined texts) l) (text_within texts k t e (defines l) h))
      (known insts again bodies read norm k t e)))

  -- ---- outside functions

  label_again : (id : ℕ) → list_any (is_label_line id) (function_lines insts) ≡ true → D id
  label_again id h =
      lines_define again id formed_again
      (ap (list_any (is_label_line id)) norm.words ∙ list_any-append (is_label_line id) (words_of (staying insts)) (function_lines insts)
      ∙ right_holds (list_any (is_label_line id) (words_of (staying insts))) (list_any (is_label_line id) (function_lines insts)) h)

  -- an id that is known, and no label that went
  named_again : (id : ℕ) → K id → is_gone insts id ≡ false → D id
  named_again id known gone = by (kind insts id == op.LABEL) (list_any (is_label_line id) (function_lines insts)) refl refl gone where
    by : (a b : Bool) → (kind insts id == op.LABEL) ≡ a → list_any (is_label_line id) (function_lines insts) ≡ b → (a && not b) ≡ false → D id
    by true true e g h = label_again id g
    by true false e g h = absurd (cc h)
    by false b e g h = stays_defined insts again alike types formed id known e

  named_all : (ids : List ℕ) → AllByRecursion K ids → list_any (is_gone insts) ids ≡ false → AllByRecursion D ids
  named_all [] h g = tt
  named_all (id ∷ ids) h g =
      let parts = or_parts (is_gone insts id) (list_any (is_gone insts) ids) g in
      (named_again id h.0 parts.0, named_all ids h.1 parts.1)

  abbrev O : Instruction → Type 0
  O i = (F i × (is_line i ≡ false → AllByRecursion K (used_ids i))) × NotInner i

  each_outside : AllByRecursion O (outside insts)
  each_outside =
      all_pair (λ i. F i × (is_line i ≡ false → AllByRecursion K (used_ids i))) NotInner (outside insts)
      (all_front (λ i. F i × (is_line i ≡ false → AllByRecursion K (used_ids i))) (outside insts) (split_insts insts)
      (subst (AllByRecursion (λ i. F i × (is_line i ≡ false → AllByRecursion K (used_ids i)))) (in_two insts)
      (all_pair F (λ i. is_line i ≡ false → AllByRecursion K (used_ids i)) insts each_value (all_known_at insts again alike types formed clean))))
      (outside_not_inner insts (fits_in_module read.end insts read.laid_out))

  -- the ids that an instruction uses that stays
  stays_known : (i : Instruction) → O i → stays_outside insts i ≡ true → AllByRecursion D (used_ids i)
  stays_known i o stays = by (is_one_of namings (opcode i)) refl where
    plain : is_line i ≡ false
    plain = stays_no_line insts i stays

    not_named : is_one_of namings (opcode i) ≡ false → is_one_of naming (opcode i) ≡ false
    not_named n = four (opcode i == op.NAME) (opcode i == op.MEMBER_NAME) (opcode i == op.SOURCE) (opcode i == op.LINE) (opcode i == op.NO_LINE) n plain where
      four : (a b c d e : Bool) → (a || (b || (c || false))) ≡ false → (d || e) ≡ false → (a || (b || (c || (d || false)))) ≡ false
      four true b c d e h g = absurd (cc h)
      four false true c d e h g = absurd (cc h)
      four false false true d e h g = absurd (cc h)
      four false false false true e h g = absurd (cc g)
      four false false false false e h g = refl

    by : (b : Bool) → is_one_of namings (opcode i) ≡ b → AllByRecursion D (used_ids i)
    by true n = named_all (used_ids i) (o.0.1 plain) (stays_no_gone insts i stays n)
    by false n = subst (AllByRecursion D) (all_values i o.1) (o.0.0.1 plain (not_named n))

  none_in_front : (qs : List Instruction) (j : Instruction) (more behind : List Instruction) → front ≡ qs ++ j ∷ more → again ≡ qs ++ j ∷ behind
      → NoneAt again qs j
  none_in_front qs j more behind e g =
      let c : ComesOf (stays_outside insts) (outside insts) qs j =
      comes_of (stays_outside insts) (outside insts) qs j more (ap words_of (sym e) ∙ (halves insts again bodies read norm).front_words) in
      let o : O c.inst = all_here O c.pre c.inst c.post (subst (AllByRecursion O) c.cut each_outside) in
      let formed_pre : AllByRecursion IsFormed c.pre =
      all_front IsFormed c.pre (c.inst ∷ c.post)
      (subst (AllByRecursion IsFormed) c.cut (all_front IsFormed (outside insts) (split_insts insts)
      (subst (AllByRecursion IsFormed) (in_two insts) formed))) in
      let there : insts ≡ c.pre ++ c.inst ∷ (c.post ++ split_insts insts) =
      in_two insts ∙ ap (λ z. z ++ split_insts insts) c.cut ∙ append_assoc c.pre (c.inst ∷ c.post) (split_insts insts) in
      none_outside insts again alike (stays_outside insts) clean once c.pre c.inst (c.post ++ split_insts insts) qs j behind there g c.before c.same
      (goes_mute insts c.pre formed_pre) (stays_no_line insts c.inst c.stands) (stays_known c.inst o c.stands)

  none_in_back : (qs before : List Instruction) (j : Instruction) (rest : List Instruction) → qs ≡ front ++ before → joined texts ≡ before ++ j ∷ rest
      → again ≡ qs ++ j ∷ rest
      → NoneAt again qs j
  none_in_back qs before j rest e g at =
      let fine : IsFine j = all_here IsFine before j rest (subst (AllByRecursion IsFine) g texts_fine) in
      let start : (list_any is_function qs ≡ true) ⊎ (opcode j ≡ op.FUNCTION) = elim
      (begins texts (are_pieces insts again bodies read norm) before j rest g) [
        | inl b ↦ inl (ap (list_any is_function) e ∙ list_any-append is_function front before ∙ right_holds (list_any is_function front)
            (list_any is_function before) b)
        | inr b ↦ inr b
      ] in
      none_inside again once qs j rest at start fine.0.quiet fine.0.plain fine.1

  none_at : (qs : List Instruction) (j : Instruction) (rest : List Instruction) → again ≡ qs ++ j ∷ rest → NoneAt again qs j
  none_at qs j rest e = by (place_of front (joined texts) qs j rest (sym cut ∙ e)) where
    by : Place front (joined texts) qs j rest → NoneAt again qs j
    by (InFront more f) = none_in_front qs j more rest f e
    by (InBack before f g) = none_in_back qs before j rest f g e

  pub norm_breaks_none : first (group_3 again) ≡ None
  norm_breaks_none = none_found again none_at
