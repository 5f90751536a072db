-- No label of a normal form is gone: each that it defines is that of a line of its functions, since none stands outside them.
use Rattle.std.proofs.Common.{◌≡◌, ℕ, Bool, true, false, cond, not, nat_eq, ◌==◌, ◌&&◌, ◌||◌, List, [], ◌∷◌, ◌++◌, drop, slice_index, Option, Some, refl, sym, ap, ◌∙◌, subst, arith}
use Rattle.std.specs.List.{AllByRecursion, find, list_any}
use Rattle.std.specs.Option.{option_map_or}
use Rattle.std.proofs.lemmas.Bool.Decides.{nat_tests}
use Rattle.spv_opcodes.specs.declared.op.TheConstants as op
use Rattle.spv_grammar.specs.Roles.{is_defined_id}
use Rattle.spv_grammar.specs.Table.{row_of}
use Rattle.spv_module.specs.declared.layout.Place.TheVariants.{Outside, Between}
use Rattle.spv_module.specs.Code.{is_function, is_line, plain_section, row_section}
use Rattle.spv_module.specs.Instruction.{Instruction, opcode, word_with}
use Rattle.spv_module.specs.Layout.{behind, fits_place, is_terminator}
use Rattle.spv_ids.specs.Ids.{defines, kind}
use Rattle.spv_declarations.proofs.Parts.{defined-plain, row_test, first_plain}
use Rattle.spv_blocks.specs.Cutting.{is_label_mark, word}
use Rattle.spv_walk.proofs.Unique.{equal_true}
use Rattle.spv_normal.specs.Lines.{without_marks}
use Rattle.spv_tree.specs.Tree.{words_of}
use Rattle.spv_texts.proofs.Functions.{Fits, IsKind, AFunction, AParameter, AnEnd, ALabel, Another, kind_of, parameter_fits, end_fits, label_fits, other_fits, behind_other, differ}
use Rattle.spv_texts.proofs.Marks.{line_is_no_label}
use Rattle.spv_norm.specs.Norm.{is_label_line, outside}
use Rattle.spv_norm_structured.proofs.Again.{IsFormed}

-- ---- no label stands outside functions

abbrev pub NoLabel : Instruction → Type 0
NoLabel i = is_label_mark i ≡ false

either_gives : {P : Type 0} (a b : Bool) → (a ≡ true → P) → (b ≡ true → P) → (a || b) ≡ true → P
either_gives true b f g h = f refl
either_gives false b f g h = g h

-- a terminator stands in functions alone
terminator_section : (i : Instruction) → is_terminator i ≡ true → row_section (row_of (opcode i)) ≡ 11
unfolding row_of
terminator_section i h =
    either_gives (o == op.BRANCH || o == op.BRANCH_CONDITIONAL || o == op.SWITCH || o == op.RETURN || o == op.RETURN_VALUE) (o == op.UNREACHABLE)
    (either_gives (o == op.BRANCH || o == op.BRANCH_CONDITIONAL || o == op.SWITCH || o == op.RETURN) (o == op.RETURN_VALUE)
    (either_gives (o == op.BRANCH || o == op.BRANCH_CONDITIONAL || o == op.SWITCH) (o == op.RETURN)
    (either_gives (o == op.BRANCH || o == op.BRANCH_CONDITIONAL) (o == op.SWITCH)
    (either_gives (o == op.BRANCH) (o == op.BRANCH_CONDITIONAL) (at op.BRANCH refl) (at op.BRANCH_CONDITIONAL refl))
    (at op.SWITCH refl)) (at op.RETURN refl)) (at op.RETURN_VALUE refl)) (at op.UNREACHABLE refl) h
  where
    o : ℕ
    o = opcode i

    at : (k : ℕ) → row_section (row_of k) ≡ 11 → (o == k) ≡ true → row_section (row_of o) ≡ 11
    at k p e = ap (λ q. row_section (row_of q)) (equal_true o k e) ∙ p

-- what fits outside before the first function stays there, and is no label
record StaysOutside (i : Instruction) : Type 0 where
  place : behind Outside i ≡ Outside
  label : NoLabel i

still : (i : Instruction) → is_function i ≡ false → fits_place Outside (plain_section false i) i ≡ true → StaysOutside i
still i f fits = by_kind (kind_of i) where
  by_end : (b : Bool) → is_terminator i ≡ b → (opcode i == op.FUNCTION) ≡ false → (opcode i == op.FUNCTION_PARAMETER) ≡ false → (opcode i == op.FUNCTION_END) ≡ false
      → (opcode i == op.LABEL) ≡ false → cond (is_terminator i) Between Outside ≡ Outside
  by_end true t g p e l = absurd (differ (sym fits ∙ other_fits Outside (plain_section false i) i g p e l (terminator_section i t)))
  by_end false t g p e l = ap (λ (b : Bool). cond b Between Outside) t

  by_kind : IsKind i → StaysOutside i
  by_kind (AFunction g) = absurd (differ (sym g ∙ f))
  by_kind (AParameter g p) = absurd (differ (sym fits ∙ parameter_fits Outside (plain_section false i) i g p))
  by_kind (AnEnd g p e) = absurd (differ (sym fits ∙ end_fits Outside (plain_section false i) i g p e))
  by_kind (ALabel g p e l) = absurd (differ (sym fits ∙ label_fits Outside (plain_section false i) i g p e l))
  by_kind (Another g p e l) = record { place = behind_other Outside i g e l ∙ by_end (is_terminator i) refl g p e l; label = l }

marks_step : (i : Instruction) (is : List Instruction) (b : Bool) → is_line i ≡ b → without_marks (i ∷ is) ≡ cond (not b) (i ∷ without_marks is) (without_marks is)
marks_step i is b h = ap (λ (z : Bool). cond (not z) (i ∷ without_marks is) (without_marks is)) h

-- by induction on the instructions
pub outside_labels : (is : List Instruction) → Fits Outside false (without_marks is) → AllByRecursion NoLabel (outside is)
outside_labels [] fits = tt
outside_labels (i ∷ is) fits = step (is_line i) (is_function i) refl refl (λ g. outside_labels is g) where
  step : (line function : Bool) → is_line i ≡ line → is_function i ≡ function → (Fits Outside false (without_marks is) → AllByRecursion NoLabel (outside is))
      → AllByRecursion NoLabel (cond (is_function i) [] (i ∷ outside is))
  step line true el ef more = subst (λ (b : Bool). AllByRecursion NoLabel (cond b [] (i ∷ outside is))) (sym ef) tt
  step true false el ef more =
      subst (λ (b : Bool). AllByRecursion NoLabel (cond b [] (i ∷ outside is))) (sym ef)
      (line_is_no_label i el, more (subst (Fits Outside false) (marks_step i is true el) fits))
  step false false el ef more =
      let here = subst (Fits Outside false) (marks_step i is false el) fits in
      let s = still i ef here.0 in
      let later = subst (λ b. Fits Outside b (without_marks is)) ef (subst (λ p. Fits p (is_function i) (without_marks is)) s.place here.2) in
      subst (λ (b : Bool). AllByRecursion NoLabel (cond b [] (i ∷ outside is))) (sym ef) (s.label, more later)

-- ---- a label that is defined is that of a line

label_row : row_test first_plain (row_of op.LABEL) ≡ true
unfolding row_of
label_row = refl

second_word : (words : List ℕ) → slice_index (drop 1 words) 0 ≡ slice_index words 1
second_word [] = refl
second_word (w ∷ ws) = refl

label_defines : (i : Instruction) → IsFormed i → is_label_mark i ≡ true → word_with is_defined_id i ≡ Some (word i 1)
label_defines i formed h =
    defined-plain i formed (ap (λ o. row_test first_plain (row_of o)) (equal_true (opcode i) op.LABEL h) ∙ label_row) ∙ ap Some (second_word i.words)

turned : (a b : ℕ) → nat_eq a b ≡ true → (b == a) ≡ true
turned a b h = grind (arith, nat_tests)

label_names : (i : Instruction) (id : ℕ) → IsFormed i → is_label_mark i ≡ true → defines id i ≡ true → is_label_line id i.words ≡ true
label_names i id formed mark d =
    ap (λ b. b && (word i 1 == id)) mark
    ∙ turned id (word i 1) (sym (ap (λ o. option_map_or (nat_eq id) o false) (label_defines i formed mark)) ∙ d)

abbrev kind_by : Option Instruction → ℕ
kind_by o = option_map_or opcode o 0

or_left : (a b : Bool) → a ≡ true → (a || b) ≡ true
or_left a b h = ap (λ z. z || b) h

or_right : (a b : Bool) → b ≡ true → (a || b) ≡ true
or_right true b h = refl
or_right false b h = h

-- by induction on the instructions
pub kind_of_line : (is : List Instruction) (id : ℕ) → AllByRecursion IsFormed is → (kind is id == op.LABEL) ≡ true → list_any (is_label_line id) (words_of is) ≡ true
kind_of_line [] id formed h = absurd (cc h)
kind_of_line (i ∷ is) id formed h = by (defines id i) refl h (kind_of_line is id formed.1) where
  by : (b : Bool) → defines id i ≡ b → (kind_by (cond (defines id i) (Some i) (find (defines id) is)) == op.LABEL) ≡ true
      → ((kind is id == op.LABEL) ≡ true → list_any (is_label_line id) (words_of is) ≡ true)
      → (is_label_line id i.words || list_any (is_label_line id) (words_of is)) ≡ true
  by true d g more =
      let mark : is_label_mark i ≡ true = sym (ap (λ (b : Bool). kind_by (cond b (Some i) (find (defines id) is)) == op.LABEL) d) ∙ g in
      or_left (is_label_line id i.words) (list_any (is_label_line id) (words_of is)) (label_names i id formed.0 mark d)
  by false d g more =
      let later : (kind is id == op.LABEL) ≡ true = sym (ap (λ (b : Bool). kind_by (cond b (Some i) (find (defines id) is)) == op.LABEL) d) ∙ g in
      or_right (is_label_line id i.words) (list_any (is_label_line id) (words_of is)) (more later)

-- no line of what is no label is a label's
no_label_lines : (is : List Instruction) (id : ℕ) → AllByRecursion NoLabel is → list_any (is_label_line id) (words_of is) ≡ false
no_label_lines [] id h = refl
no_label_lines (i ∷ is) id h =
    ap (λ (b : Bool). (b && (word i 1 == id)) || list_any (is_label_line id) (words_of is)) h.0 ∙ no_label_lines is id h.1

any_both : (p : List ℕ → Bool) (xs ys : List (List ℕ)) → list_any p xs ≡ false → list_any p (xs ++ ys) ≡ true → list_any p ys ≡ true
any_both p [] ys h g = g
any_both p (x ∷ xs) ys h g = by (p x) h g (any_both p xs ys) where
  by : (b : Bool) → (b || list_any p xs) ≡ false → (b || list_any p (xs ++ ys)) ≡ true
      → (list_any p xs ≡ false → list_any p (xs ++ ys) ≡ true → list_any p ys ≡ true) → list_any p ys ≡ true
  by true h g more = absurd (cc h)
  by false h g more = more h g

-- so a label that a module defines, outside whose functions none stands, is that of a line of them
pub label_inside : (again front : List Instruction) (lines : List (List ℕ)) (id : ℕ) → AllByRecursion IsFormed again → words_of again ≡ words_of front ++ lines
    → AllByRecursion NoLabel front → (kind again id == op.LABEL) ≡ true → list_any (is_label_line id) lines ≡ true
label_inside again front lines id formed same none h =
    any_both (is_label_line id) (words_of front) lines (no_label_lines front id none)
    (ap (list_any (is_label_line id)) (sym same) ∙ kind_of_line again id formed h)
