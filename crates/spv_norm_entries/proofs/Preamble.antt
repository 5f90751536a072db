-- Entry points, execution modes and decorations: they stand outside functions and stay, so the module and its normal form have the same.
use Rattle.std.proofs.Common.{◌≡◌, inl, inr, ℕ, ◌<◌, Bool, true, false, cond, not, nat_eq, ◌==◌, ◌&&◌, ◌||◌, List, [], ◌∷◌, ◌++◌, filter, length, slice_get, Some, refl, sym, ap, subst, ◌∙◌}
use Rattle.std.specs.Prelude.{All}
use Rattle.std.specs.List.{AllByRecursion, list_any}
use Rattle.std.proofs.lemmas.List.{map-append}
use Rattle.std.proofs.lemmas.List.Elements.{All-head, All-tail}
use Rattle.spv_opcodes.specs.declared.op.TheConstants as op
use Rattle.spv_grammar.specs.Table.{row_of}
use Rattle.spv_module.specs.Code.{is_line}
use Rattle.spv_module.specs.Instruction.{Instruction, opcode}
use Rattle.spv_ids.specs.Ids.{used_ids}
use Rattle.spv_typing.specs.Kinds.{is_one_of}
use Rattle.spv_blocks.specs.Cutting.{function_insts}
use Rattle.spv_walk.proofs.Unique.{either_holds, equal_true, tells, truth_apart}
use Rattle.spv_normal.specs.Lines.{without_marks}
use Rattle.spv_tree.specs.declared.body.Body.{Body}
use Rattle.spv_tree.specs.Sound.{is_step, opcode_in}
use Rattle.spv_tree.specs.Sound as sound
use Rattle.spv_tree.specs.Tree.{words_of}
use Rattle.spv_spelling.specs.Whole.{IsText, block_marks, is_in_block}
use Rattle.spv_texts.proofs.Functions.{fits_in_module}
use Rattle.spv_norm.specs.Norm.{is_gone, namings, outside, stays_outside}
use Rattle.spv_norm_means.proofs.InOrder.{functions_in, joined, module_is_cut}
use Rattle.spv_norm_structured.specs.Laws.{IsNormAgain, IsReadAsTrees}
use Rattle.spv_norm_structured.proofs.Again.{halves, known, pieces, place_below, whole}
use Rattle.spv_norm_structured.proofs.Pieces.{all_at, all_both, function_at_place, functions_count, one_at}

abbrev pub preamble : List ℕ
preamble = op.ENTRY_POINT ∷ op.EXECUTION_MODE ∷ op.EXECUTION_MODE_ID ∷ op.DECORATE ∷ []

abbrev pub is_pre : List ℕ → Bool
is_pre w = is_one_of preamble (opcode_in w)

abbrev pub NoPre : Instruction → Type 0
NoPre i = is_pre i.words ≡ false

-- ---- in functions none stands

apart_from : (test : ℕ → Bool) (o p : ℕ) → test o ≡ true → test p ≡ false → (o == p) ≡ false
apart_from test o p is other = elim (tells (o == p)) [
  | inl e ↦ truth_apart (test o) is (ap test (equal_true o p e) ∙ other)
  | inr e ↦ e
]

four_apart : (a b c d : Bool) → a ≡ false → b ≡ false → c ≡ false → d ≡ false → (a || (b || (c || (d || false)))) ≡ false
four_apart a b c d e f g h =
    ap (λ (z : Bool). z || (b || (c || (d || false)))) e ∙ ap (λ (z : Bool). z || (c || (d || false))) f ∙ ap (λ (z : Bool). z || (d || false)) g
    ∙ ap (λ (z : Bool). z || false) h

by_opcode : (i : Instruction) (k : ℕ) → opcode i ≡ k → is_one_of preamble k ≡ false → NoPre i
by_opcode i k e h = ap (is_one_of preamble) e ∙ h

abbrev in_block : ℕ → Bool
in_block o =
    o == op.LABEL
    || (o == op.BRANCH || o == op.BRANCH_CONDITIONAL || o == op.SWITCH || o == op.RETURN || o == op.RETURN_VALUE || o == op.UNREACHABLE) || is_step o
    || sound.is_one_of block_marks o

block_no_pre : (i : Instruction) → is_in_block i ≡ true → NoPre i
unfolding row_of
block_no_pre i h =
    four_apart (opcode i == op.ENTRY_POINT) (opcode i == op.EXECUTION_MODE) (opcode i == op.EXECUTION_MODE_ID) (opcode i == op.DECORATE)
    (apart_from in_block (opcode i) op.ENTRY_POINT h refl) (apart_from in_block (opcode i) op.EXECUTION_MODE h refl)
    (apart_from in_block (opcode i) op.EXECUTION_MODE_ID h refl)
    (apart_from in_block (opcode i) op.DECORATE h refl)

all_no_pre : (P : Instruction → Type 0) (is : List Instruction) → ((i : Instruction) → P i → NoPre i) → All P is → AllByRecursion NoPre is
all_no_pre P [] h a = tt
all_no_pre P (i ∷ is) h a = (h i (All-head P i is a), all_no_pre P is h (All-tail P i is a))

pub text_no_pre : (t : List Instruction) → IsText t → AllByRecursion NoPre t
text_no_pre t s =
    subst (AllByRecursion NoPre) (sym s.same) (
      by_opcode s.function op.FUNCTION s.begins refl,
      all_both NoPre (s.parameters ++ s.label ∷ s.blocks) (s.last ∷ [])
          (all_both NoPre s.parameters (s.label ∷ s.blocks)
          (all_no_pre (λ i. opcode i ≡ op.FUNCTION_PARAMETER) s.parameters (λ i e. by_opcode i op.FUNCTION_PARAMETER e refl) s.takes) (
            by_opcode s.label op.LABEL (equal_true (opcode s.label) op.LABEL s.first) refl,
            all_no_pre (λ i. is_in_block i ≡ true) s.blocks block_no_pre s.inside,
          ))
          (by_opcode s.last op.FUNCTION_END s.ends refl, tt),
    )

-- ---- those of a list of instructions

abbrev pub pre_of : List Instruction → List (List ℕ)
pre_of is = filter is_pre (words_of is)

filter_both : (xs ys : List (List ℕ)) → filter is_pre (xs ++ ys) ≡ filter is_pre xs ++ filter is_pre ys
filter_both [] ys = refl
filter_both (x ∷ xs) ys = by (is_pre x) (filter_both xs ys) where
  by : (b : Bool) → filter is_pre (xs ++ ys) ≡ filter is_pre xs ++ filter is_pre ys
      → cond b (x ∷ filter is_pre (xs ++ ys)) (filter is_pre (xs ++ ys)) ≡ cond b (x ∷ filter is_pre xs) (filter is_pre xs) ++ filter is_pre ys
  by true more = ap (λ z. x ∷ z) more
  by false more = more

append_nil : (xs : List (List ℕ)) → xs ++ [] ≡ xs
append_nil [] = refl
append_nil (x ∷ xs) = ap (λ z. x ∷ z) (append_nil xs)

pre_none : (is : List Instruction) → AllByRecursion NoPre is → pre_of is ≡ []
pre_none [] h = refl
pre_none (i ∷ is) h = ap (λ (b : Bool). cond b (i.words ∷ pre_of is) (pre_of is)) h.0 ∙ pre_none is h.1

pre_front : (xs ys : List Instruction) → pre_of ys ≡ [] → pre_of (xs ++ ys) ≡ pre_of xs
pre_front xs ys h =
    ap (filter is_pre) (map-append (λ (i : Instruction). i.words) xs ys) ∙ filter_both (words_of xs) (words_of ys)
    ∙ ap (λ z. pre_of xs ++ z) h ∙ append_nil (pre_of xs)

pre_joined : (ts : List (List Instruction)) → AllByRecursion (λ t. pre_of t ≡ []) ts → pre_of (joined ts) ≡ []
pre_joined [] h = refl
pre_joined (t ∷ ts) h = pre_front t (joined ts) (pre_joined ts h.1) ∙ h.0

-- what passes all of these has the same of them
pre_filtered : (test : Instruction → Bool) (is : List Instruction) → ((i : Instruction) → is_pre i.words ≡ true → test i ≡ true)
    → pre_of (filter test is) ≡ pre_of is
pre_filtered test [] h = refl
pre_filtered test (i ∷ is) h = by (test i) (is_pre i.words) refl refl (pre_filtered test is h) where
  by : (b c : Bool) → test i ≡ b → is_pre i.words ≡ c → pre_of (filter test is) ≡ pre_of is
      → pre_of (cond b (i ∷ filter test is) (filter test is)) ≡ cond (is_pre i.words) (i.words ∷ pre_of is) (pre_of is)
  by true c e f more = ap (λ z. cond (is_pre i.words) (i.words ∷ z) z) more
  by false true e f more = absurd (cc (e, h i f))
  by false false e f more = more ∙ sym (ap (λ (z : Bool). cond z (i.words ∷ pre_of is) (pre_of is)) f)

-- one of four opcodes is no line mark's, and no naming's
pre_stays : (test : ℕ → Bool) → test op.ENTRY_POINT ≡ true → test op.EXECUTION_MODE ≡ true → test op.EXECUTION_MODE_ID ≡ true → test op.DECORATE ≡ true
    → (o : ℕ) → is_one_of preamble o ≡ true → test o ≡ true
pre_stays test a b c d o h = elim (either_holds (nat_eq o op.ENTRY_POINT) _ h) [
  | inl e ↦ ap test (equal_true o op.ENTRY_POINT e) ∙ a
  | inr h ↦ elim (either_holds (nat_eq o op.EXECUTION_MODE) _ h) [
    | inl e ↦ ap test (equal_true o op.EXECUTION_MODE e) ∙ b
    | inr h ↦ elim (either_holds (nat_eq o op.EXECUTION_MODE_ID) _ h) [
      | inl e ↦ ap test (equal_true o op.EXECUTION_MODE_ID e) ∙ c
      | inr h ↦ elim (either_holds (nat_eq o op.DECORATE) _ h) [
        | inl e ↦ ap test (equal_true o op.DECORATE e) ∙ d
        | inr e ↦ absurd (cc e)
      ]
    ]
  ]
]

pre_no_mark : (i : Instruction) → is_pre i.words ≡ true → not (is_line i) ≡ true
pre_no_mark i h = pre_stays (λ o. not (o == op.LINE || o == op.NO_LINE)) refl refl refl refl (opcode i) h

pre_stays_outside : (insts : List Instruction) (i : Instruction) → is_pre i.words ≡ true → stays_outside insts i ≡ true
pre_stays_outside insts i h =
    pre_stays (λ o. not (o == op.LINE || o == op.NO_LINE) && not (is_one_of namings o && list_any (is_gone insts) (used_ids i))) refl refl refl refl
    (opcode i) h

pre_marks : (is : List Instruction) → pre_of (without_marks is) ≡ pre_of is
pre_marks is = pre_filtered (λ i. not (is_line i)) is pre_no_mark

module _ (insts again : List Instruction) (bodies : List Body) (h : IsReadAsTrees insts bodies) (n : IsNormAgain insts again) where
  function_none : (k : ℕ) (t : List Instruction) → slice_get (functions_in insts) k ≡ Some t → pre_of t ≡ []
  function_none k t e =
      let below : k < length bodies =
      subst (λ m. k < m) (sym (functions_count insts (functions_in insts) refl) ∙ sym h.count) (place_below (functions_in insts) k t e) in
      let b = one_at bodies k below in
      let s = (h.each k b.0 b.1).parsed.spelled in
      ap pre_of (sym (function_at_place insts (functions_in insts) refl k t e))
      ∙ sym (pre_marks (function_insts k insts))
      ∙ pre_none (without_marks (function_insts k insts)) (text_no_pre (without_marks (function_insts k insts)) s.admitted.text)

  of_module : pre_of insts ≡ pre_of (outside insts)
  of_module =
      sym (pre_marks insts) ∙ ap pre_of (module_is_cut insts (fits_in_module h.end insts h.laid_out)) ∙ pre_marks (outside insts ++ joined (functions_in insts))
      ∙ pre_front (outside insts) (joined (functions_in insts))
      (pre_joined (functions_in insts) (all_at (λ t. pre_of t ≡ []) (functions_in insts) function_none))

  -- the texts of the normal form have none
  pub texts_no_pre : (k : ℕ) (t : List Instruction) → slice_get (pieces insts again bodies h n).texts k ≡ Some t → AllByRecursion NoPre t
  texts_no_pre k t e = text_no_pre t (known insts again bodies h n k t e).text

  of_norm : pre_of again ≡ pre_of (outside insts)
  of_norm =
      ap pre_of (whole insts again bodies h n)
      ∙ pre_front (halves insts again bodies h n).front (joined (pieces insts again bodies h n).texts)
      (pre_joined (pieces insts again bodies h n).texts
      (all_at (λ t. pre_of t ≡ []) (pieces insts again bodies h n).texts (λ k t e. pre_none t (texts_no_pre k t e))))
      ∙ ap (filter is_pre) (halves insts again bodies h n).front_words
      ∙ pre_filtered (stays_outside insts) (outside insts) (pre_stays_outside insts)

  pub same_preamble : pre_of again ≡ pre_of insts
  same_preamble = of_norm ∙ sym of_module
