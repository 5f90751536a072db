-- The types that are pointers are those of the module: they stand outside functions, and stay. So no rule on structured control flow is broken.
use Rattle.std.proofs.Common.{◌≡◌, ℕ, ◌<◌, Bool, true, false, cond, not, ◌==◌, ◌&&◌, ◌||◌, List, [], ◌∷◌, ◌++◌, filter, length, slice_get, Some, refl, sym, ap, ◌∙◌, subst}
use Rattle.std.specs.List.{AllByRecursion, list_any}
use Rattle.spv_opcodes.specs.declared.op.TheConstants as op
use Rattle.spv_module.specs.Code.{is_line}
use Rattle.spv_module.specs.Instruction.{Instruction, opcode}
use Rattle.spv_ids.specs.Ids.{defines, used_ids}
use Rattle.spv_typing.specs.Kinds.{is_one_of}
use Rattle.spv_blocks.specs.Cutting.{blocks_of, function_insts}
use Rattle.spv_walk.specs.Rules.{Broken}
use Rattle.spv_walk.proofs.Unique.{both_left, equal_true}
use Rattle.spv_normal.specs.Lines.{without_marks}
use Rattle.spv_tree.specs.declared.body.Body.{Body}
use Rattle.spv_tree.specs.Tree.{body_of, words_of}
use Rattle.spv_spelling.specs.Clean.{IsClean}
use Rattle.spv_clean_trees.proofs.Structures.{listing_is_unbroken}
use Rattle.spv_texts.proofs.Functions.{fits_in_module}
use Rattle.spv_texts.proofs.Marks.{blocks_without_marks}
use Rattle.spv_functions.specs.Functions.{defines_pointer, is_pointer}
use Rattle.spv_norm.specs.Norm.{is_gone, namings, outside, staying, stays_outside}
use Rattle.spv_norm_means.proofs.InOrder.{functions_in, joined, module_is_cut}
use Rattle.spv_norm_structured.specs.Laws.{IsNormAgain, IsReadAsTrees, NormIsUnbroken}
use Rattle.spv_norm_structured.proofs.Again.{IsAgain, again_at, are_pieces, halves, pieces, place_below, whole}
use Rattle.spv_norm_structured.proofs.Pieces.{IsPiece, IsPlain, all_at, function_at_place, functions_count, one_at, piece_of_text}

-- ---- whether some instruction is one

any_both : (p : Instruction → Bool) (xs ys : List Instruction) → list_any p ys ≡ false → list_any p (xs ++ ys) ≡ list_any p xs
any_both p [] ys h = h
any_both p (x ∷ xs) ys h = ap (λ b. p x || b) (any_both p xs ys h)

any_filtered : (p test : Instruction → Bool) (is : List Instruction) → ((i : Instruction) → p i ≡ true → test i ≡ true) → list_any p (filter test is) ≡ list_any p is
any_filtered p test [] h = refl
any_filtered p test (i ∷ is) h = by (test i) (p i) refl refl (any_filtered p test is h) where
  by : (b c : Bool) → test i ≡ b → p i ≡ c → list_any p (filter test is) ≡ list_any p is
      → list_any p (cond b (i ∷ filter test is) (filter test is)) ≡ (p i || list_any p is)
  by true c e g more = ap (λ z. p i || z) more
  by false true e g more = absurd (cc (e, h i g))
  by false false e g more = more ∙ sym (ap (λ (z : Bool). z || list_any p is) g)

any_by_words : (q : List ℕ → Bool) (xs ys : List Instruction) → words_of xs ≡ words_of ys → list_any (λ (i : Instruction). q i.words) xs ≡ list_any (λ (i : Instruction). q i.words) ys
any_by_words q xs ys e = in_words xs ∙ ap (list_any q) e ∙ sym (in_words ys) where
  in_words : (is : List Instruction) → list_any (λ (i : Instruction). q i.words) is ≡ list_any q (words_of is)
  in_words [] = refl
  in_words (i ∷ is) = ap (λ b. q i.words || b) (in_words is)

-- ---- types that are pointers

abbrev points : (type : ℕ) → List ℕ → Bool
points type words = defines_pointer type (record { offset = 0; words = words })

abbrev HasNone : (type : ℕ) → List Instruction → Type 0
HasNone type is = list_any (defines_pointer type) is ≡ false

other_none : (type : ℕ) (i : Instruction) → (opcode i == op.TYPE_POINTER) ≡ false → defines_pointer type i ≡ false
other_none type i h = ap (λ b. b && defines type i) h

inner_none : (type : ℕ) (is : List Instruction) (last : Instruction) → AllByRecursion IsPlain is → opcode last ≡ op.FUNCTION_END → HasNone type (is ++ last ∷ [])
inner_none type [] last h e = ap (λ (b : Bool). b || false) (other_none type last (ap (λ o. o == op.TYPE_POINTER) e))
inner_none type (i ∷ is) last h e = ap (λ (b : Bool). b || list_any (defines_pointer type) (is ++ last ∷ [])) (other_none type i h.0.pointer) ∙ inner_none type is last h.1 e

-- none is in a function
piece_none : (type : ℕ) (t : List Instruction) → IsPiece t → HasNone type t
piece_none type t p =
    ap (list_any (defines_pointer type)) p.same
    ∙ ap (λ (b : Bool). b || list_any (defines_pointer type) (p.inner ++ p.last ∷ [])) (other_none type p.function (ap (λ o. o == op.TYPE_POINTER) p.begins))
    ∙ inner_none type p.inner p.last p.plain p.ends

all_none : (type : ℕ) (ts : List (List Instruction)) → AllByRecursion (HasNone type) ts → HasNone type (joined ts)
all_none type [] h = refl
all_none type (t ∷ ts) h = any_both (defines_pointer type) t (joined ts) (all_none type ts h.1) ∙ h.0

pieces_none : (type : ℕ) (ts : List (List Instruction)) → AllByRecursion IsPiece ts → AllByRecursion (HasNone type) ts
pieces_none type [] h = tt
pieces_none type (t ∷ ts) h = (piece_none type t h.0, pieces_none type ts h.1)

-- one is no line mark, and names no label that went
pointer_no_mark : (type : ℕ) (i : Instruction) → defines_pointer type i ≡ true → not (is_line i) ≡ true
pointer_no_mark type i h =
    ap (λ o. not (o == op.LINE || o == op.NO_LINE)) (equal_true (opcode i) op.TYPE_POINTER (both_left (opcode i == op.TYPE_POINTER) (defines type i) h))

pointer_stays : (insts : List Instruction) (type : ℕ) (i : Instruction) → defines_pointer type i ≡ true → stays_outside insts i ≡ true
pointer_stays insts type i h =
    ap (λ o. not (o == op.LINE || o == op.NO_LINE) && not (is_one_of namings o && list_any (is_gone insts) (used_ids i)))
    (equal_true (opcode i) op.TYPE_POINTER (both_left (opcode i == op.TYPE_POINTER) (defines type i) h))

marks_none : (type : ℕ) (is : List Instruction) → list_any (defines_pointer type) (without_marks is) ≡ list_any (defines_pointer type) is
marks_none type is = any_filtered (defines_pointer type) (λ i. not (is_line i)) is (pointer_no_mark type)

module _ (insts again : List Instruction) (bodies : List Body) (h : IsReadAsTrees insts bodies) (n : IsNormAgain insts again) where
  function_none : (type k : ℕ) (t : List Instruction) → slice_get (functions_in insts) k ≡ Some t → HasNone type t
  function_none type k t e =
      let below : k < length bodies = subst (λ m. k < m) (sym (functions_count insts (functions_in insts) refl) ∙ sym h.count) (place_below (functions_in insts) k t e) in
      let b = one_at bodies k below in
      let s = (h.each k b.0 b.1).parsed.spelled in
      subst (HasNone type) (function_at_place insts (functions_in insts) refl k t e)
      (sym (marks_none type (function_insts k insts))
      ∙ piece_none type (without_marks (function_insts k insts)) (piece_of_text (without_marks (function_insts k insts)) s.admitted.text))

  of_module : (type : ℕ) → is_pointer insts type ≡ list_any (defines_pointer type) (outside insts)
  of_module type =
      sym (marks_none type insts)
      ∙ ap (list_any (defines_pointer type)) (module_is_cut insts (fits_in_module h.end insts h.laid_out))
      ∙ marks_none type (outside insts ++ joined (functions_in insts))
      ∙ any_both (defines_pointer type) (outside insts) (joined (functions_in insts))
      (all_none type (functions_in insts) (all_at (HasNone type) (functions_in insts) (function_none type)))

  of_norm : (type : ℕ) → is_pointer again type ≡ list_any (defines_pointer type) (outside insts)
  of_norm type =
      ap (list_any (defines_pointer type)) (whole insts again bodies h n)
      ∙ any_both (defines_pointer type) (halves insts again bodies h n).front (joined (pieces insts again bodies h n).texts)
      (all_none type (pieces insts again bodies h n).texts (pieces_none type (pieces insts again bodies h n).texts (are_pieces insts again bodies h n)))
      ∙ any_by_words (points type) (halves insts again bodies h n).front (staying insts) (halves insts again bodies h n).front_words
      ∙ any_filtered (defines_pointer type) (stays_outside insts) (outside insts) (pointer_stays insts type)

  each_pointer : (type : ℕ) → is_pointer again type ≡ is_pointer insts type
  each_pointer type = of_norm type ∙ sym (of_module type)

  pub same_pointers : is_pointer again ≡ is_pointer insts
  same_pointers = λ i type. each_pointer type i

  pub unbroken_at : (k : ℕ) → IsAgain insts bodies k (function_insts k again) → (rule at : ℕ)
      → Broken (is_pointer again) (blocks_of (function_insts k again)) rule at → ⊥
  unbroken_at k a =
      let s = a.tree.parsed.spelled in
      let clean : IsClean (is_pointer insts) (blocks_of (without_marks (function_insts k insts))) =
      subst (IsClean (is_pointer insts)) (sym (blocks_without_marks (function_insts k insts))) a.tree.parsed.clean in
      listing_is_unbroken (is_pointer again) (without_marks (function_insts k insts)) (function_insts k again) s.stays (body_of a.body) s.admitted
      (subst (λ z. IsClean z (blocks_of (without_marks (function_insts k insts)))) (sym same_pointers) clean) s.spells a.lists

pub norm_is_unbroken : NormIsUnbroken
norm_is_unbroken insts again bodies h n k below = unbroken_at insts again bodies h n k (again_at insts again bodies h n k below)
