-- The normal form of a module is in normal form.
use Rattle.std.proofs.Common.{◌≡◌, ℕ, ◌+◌, ◌<◌, Bool, true, false, cond, not, ◌==◌, ◌&&◌, ◌||◌, List, [], ◌∷◌, ◌++◌, filter, slice_get, Some, refl, sym, ap, ◌∙◌, subst, arith}
use Rattle.std.specs.Prelude.{count_by}
use Rattle.std.specs.List.{AllByRecursion, flat_map, list_any, range_with_len}
use Rattle.spv_opcodes.specs.declared.op.TheConstants as op
use Rattle.spv_module.specs.Code.{is_function, is_line}
use Rattle.spv_module.specs.Instruction.{Instruction, opcode}
use Rattle.spv_ids.specs.Ids.{kind, used_ids}
use Rattle.spv_typing.specs.Kinds.{is_one_of}
use Rattle.spv_blocks.specs.Cutting.{function_insts}
use Rattle.spv_normal.specs.Normal.{normal_function}
use Rattle.spv_tree.specs.declared.body.Body.{Body}
use Rattle.spv_tree.specs.Sound.{opcode_in}
use Rattle.spv_tree.specs.Tree.{body_of, words_of}
use Rattle.spv_texts.proofs.Functions.{fits_in_module}
use Rattle.spv_respelling.proofs.Admitted as admitted
use Rattle.spv_norm.specs.Laws.{AreNormal, inside}
use Rattle.spv_norm.specs.Norm.{function_lines, is_gone, is_label_line, names_gone, namings, outside, staying, stays_outside}
use Rattle.spv_norm.proofs.NormalModules as modules
use Rattle.spv_norm_structured.specs.Laws.{IsNormAgain, IsReadAsTrees, NormIsNormal, NormStays}
use Rattle.spv_norm_structured.proofs.Again.{IsAgain, IsFormed, again_at, all_by_words, all_filtered, count_again, functions_again, halves, lines_again, lines_are, lines_of, listed_at, outside_again, pieces, place_below, whole}
use Rattle.spv_norm_structured.proofs.Labels.{NoLabel, label_inside, outside_labels}
use Rattle.spv_norm_structured.proofs.Pieces.{all_at, functions_joined}

-- ---- what passes the test

passes : (test : Instruction → Bool) (is : List Instruction) → AllByRecursion (λ i. test i ≡ true) (filter test is)
passes test [] = tt
passes test (i ∷ is) = by (test i) refl (passes test is) where
  by : (b : Bool) → test i ≡ b → AllByRecursion (λ j. test j ≡ true) (filter test is) → AllByRecursion (λ j. test j ≡ true) (cond b (i ∷ filter test is) (filter test is))
  by true e more = (e, more)
  by false e more = more

all_also : (P Q : Instruction → Type 0) (is : List Instruction) → ((i : Instruction) → P i → Q i) → AllByRecursion P is → AllByRecursion Q is
all_also P Q [] h a = tt
all_also P Q (i ∷ is) h a = (h i a.0, all_also P Q is h a.1)

abbrev NoMark : Instruction → Type 0
NoMark i = is_line i ≡ false

stays_no_mark : (insts : List Instruction) (i : Instruction) → stays_outside insts i ≡ true → NoMark i
stays_no_mark insts i h = by (is_line i) (not (names_gone insts i)) h where
  by : (a b : Bool) → (not a && b) ≡ true → a ≡ false
  by true b h = absurd (cc h)
  by false b h = refl

none_of : (p : ℕ → Bool) (ids : List ℕ) → ((id : ℕ) → p id ≡ false) → list_any p ids ≡ false
none_of p [] h = refl
none_of p (id ∷ ids) h = ap (λ (b : Bool). b || list_any p ids) (h id) ∙ none_of p ids h

-- where no label went, what is no line mark stays
stays_where_none_went : (insts : List Instruction) → ((id : ℕ) → is_gone insts id ≡ false) → (i : Instruction) → NoMark i → stays_outside insts i ≡ true
stays_where_none_went insts none i mark =
    ap (λ (b : Bool). not b && not (is_one_of namings (opcode i) && list_any (is_gone insts) (used_ids i))) mark
    ∙ ap (λ (b : Bool). not (is_one_of namings (opcode i) && b)) (none_of (is_gone insts) (used_ids i) none)
    ∙ nothing (is_one_of namings (opcode i))
  where
    nothing : (b : Bool) → not (b && false) ≡ true
    nothing true = refl
    nothing false = refl

not_gone : (a b : Bool) → (a ≡ true → b ≡ true) → (a && not b) ≡ false
not_gone true b h = ap not (h refl)
not_gone false b h = refl

module _ (insts again : List Instruction) (bodies : List Body) (h : IsReadAsTrees insts bodies) (n : IsNormAgain insts again) where
  -- each function is its normal form
  function_normal : (k : ℕ) → IsAgain insts bodies k (function_insts k again) → normal_function (function_insts k again) ≡ words_of (function_insts k again)
  function_normal k a =
      let s = a.tree.parsed.spelled in
      admitted.normal_stays (function_insts k insts) s.stays (body_of a.body) s.admitted s.spells (function_insts k again) (lines_again insts again bodies h n k a)
      a.instructions

  function_at : (k : ℕ) → k < count_by is_function again → normal_function (function_insts k again) ≡ words_of (function_insts k again)
  function_at k below = function_normal k (again_at insts again bodies h n k below)

  lists_again : (j : ℕ) (body : Body) → slice_get bodies j ≡ Some body → IsAgain insts bodies j (function_insts j again) → lines_of body ≡ normal_function (function_insts j again)
  lists_again j body e a =
      let same : Some a.body ≡ Some body = sym a.at ∙ e in
      let one : a.body ≡ body = cc same in
      ap lines_of (sym one) ∙ sym a.lists ∙ sym (function_normal j a)

  lines_stay : function_lines again ≡ function_lines insts
  lines_stay =
      ap (λ m. flat_map (λ k. normal_function (function_insts k again)) (range_with_len 0 m)) (count_again insts again bodies h n)
      ∙ listed_at (λ k. function_insts k again) 0 bodies
      (λ j b e. lists_again j b e (again_at insts again bodies h n j (subst (λ m. j < m) (sym (count_again insts again bodies h n)) (place_below bodies j b e)))
      ∙ ap (λ m. normal_function (function_insts m again)) (none_more j))
      ∙ sym (lines_are insts again bodies h n)
    where
      none_more : (m : ℕ) → m ≡ 0 + m
      none_more m = omega arith

  no_labels : AllByRecursion NoLabel (halves insts again bodies h n).front
  no_labels =
      all_by_words (λ w. (opcode_in w == op.LABEL) ≡ false) (halves insts again bodies h n).front (staying insts) (halves insts again bodies h n).front_words
      (all_filtered NoLabel (stays_outside insts) (outside insts) (outside_labels insts (fits_in_module h.end insts h.laid_out)))

  -- no label is gone
  none_went : (id : ℕ) → is_gone again id ≡ false
  none_went id =
      not_gone (kind again id == op.LABEL) (list_any (is_label_line id) (function_lines again))
      (λ e. ap (list_any (is_label_line id)) lines_stay
      ∙ label_inside again (halves insts again bodies h n).front (function_lines insts) id (all_at IsFormed again n.instructions)
      (n.words ∙ ap (λ z. z ++ function_lines insts) (sym (halves insts again bodies h n).front_words)) no_labels e)

  no_marks : AllByRecursion NoMark (halves insts again bodies h n).front
  no_marks =
      all_by_words (λ w. (opcode_in w == op.LINE || opcode_in w == op.NO_LINE) ≡ false) (halves insts again bodies h n).front (staying insts)
      (halves insts again bodies h n).front_words
      (all_also (λ i. stays_outside insts i ≡ true) NoMark (staying insts) (stays_no_mark insts) (passes (stays_outside insts) (outside insts)))

  are_normal : AreNormal again
  are_normal = record {
    functions = function_at;
    stays =
        subst (AllByRecursion (λ i. stays_outside again i ≡ true)) (sym (outside_again insts again bodies h n))
        (all_also NoMark (λ i. stays_outside again i ≡ true) (halves insts again bodies h n).front (stays_where_none_went again none_went) no_marks);
    whole =
        ap (λ z. z ++ inside again) (outside_again insts again bodies h n)
        ∙ ap (λ z. (halves insts again bodies h n).front ++ z)
        (functions_joined again (pieces insts again bodies h n).texts (functions_again insts again bodies h n))
        ∙ sym (whole insts again bodies h n);
  }

pub norm_is_normal : NormIsNormal
norm_is_normal insts again bodies h n = are_normal insts again bodies h n

pub norm_stays : NormStays
norm_stays insts again bodies h n = modules.normal_stays again (are_normal insts again bodies h n)
