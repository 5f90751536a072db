-- Each label is defined once, so no two blocks of a function have one.
use Rattle.std.proofs.Common.{◌≡◌, ℕ, zero, suc, ◌+◌, ◌<◌, Bool, true, false, cond, not, ◌==◌, ◌&&◌, ◌||◌, nat_eq, List, [], ◌∷◌, ◌++◌, Option, Some, None, refl, sym, ap, ◌∙◌, subst, arith}
use Rattle.std.specs.Prelude.{take, drop, length, slice_get, slice_index}
use Rattle.std.specs.List.{list_any, filter}
use Rattle.std.specs.Option.{option_map_or}
use Rattle.std.proofs.lemmas.Bool.Decides.{nat_tests}
use Rattle.spv_opcodes.specs.declared.op.TheConstants as op
use Rattle.spv_grammar.specs.Roles.{is_defined_id}
use Rattle.spv_grammar.specs.Table.{row_of}
use Rattle.spv_module.specs.Code.{is_line, is_function}
use Rattle.spv_module.specs.First.{here, unless, first}
use Rattle.spv_module.specs.Instruction.{Instruction, IsInstruction, opcode, roles, word_with}
use Rattle.spv_ids.specs.Ids.{defines, is_defined, is_second, names_unknown, id_rules}
use Rattle.spv_declarations.specs.Declarations.{Declared, nothing_declared, declare, says}
use Rattle.spv_declarations.specs.Broken.{rules_at, declaration_rules, group_3, group_3_from}
use Rattle.spv_declarations.proofs.Parts.{defined-plain, row_test, first_plain}
use Rattle.spv_blocks.specs.Blocks.{Block, Code}
use Rattle.spv_blocks.specs.Cutting.{is_label_mark, is_function_end, word, block_of, blocks_of, rest_of_function, begun_function, function_insts, function_from, starts}
use Rattle.spv_walk.specs.Numbering.{HasOwnLabels}
use Rattle.spv_normal.specs.Lines.{without_marks}
use Rattle.spv_spelling.specs.Whole.{AreInstructions}
use Rattle.spv_texts.specs.Laws.{DefinesOnce, UnbrokenDefinesOnce, LabelsAreOwn}
use Rattle.spv_texts.proofs.Functions.{Nothing, nothing_first, nothing_both, nothing_here, nothing_unless}

-- ---- 301 IdTwice

not_holds : (b : Bool) → not b ≡ true → b ≡ false
not_holds true h = sym h
not_holds false h = refl

id_rules_found : (insts : List Instruction) (begun : Bool) (k : ℕ) (i : Instruction) → id_rules insts begun k i ≡ [] → is_line i ≡ false → is_second insts k i ≡ false
id_rules_found insts begun k i h plain = plainly (is_line i) plain h where
  plainly : (b : Bool) → b ≡ false → cond b [] (unless (not (is_second insts k i)) 301 ++ unless (not (names_unknown insts begun k i)) 302) ≡ [] → is_second insts k i ≡ false
  plainly true e found = absurd (cc)
  plainly false e found =
      not_holds (is_second insts k i)
      (nothing_unless (not (is_second insts k i)) 301 (nothing_both (unless (not (is_second insts k i)) 301) (unless (not (names_unknown insts begun k i)) 302) found).left)

rules_found : (insts : List Instruction) (d : Declared) (k : ℕ) (i : Instruction) → rules_at insts d k i ≡ [] → is_line i ≡ false → is_second insts k i ≡ false
unfolding rules_at
rules_found insts d k i h plain = plainly (is_line i) plain h where
  plainly : (b : Bool) → b ≡ false → cond b [] (id_rules insts d.begun k i ++ declaration_rules insts d k i) ≡ [] → is_second insts k i ≡ false
  plainly true e found = absurd (cc)
  plainly false e found = id_rules_found insts d.begun k i (nothing_both (id_rules insts d.begun k i) (declaration_rules insts d k i) found).left plain

-- by induction on the instructions that are left
once_from : (insts : List Instruction) (d : Declared) (n : ℕ) (rest : List Instruction) → group_3_from insts d n rest ≡ [] → (j : ℕ) (i : Instruction) → slice_get rest j ≡ Some i
    → is_line i ≡ false → is_second insts (n + j) i ≡ false
unfolding group_3_from
once_from insts d n [] h j i there plain = absurd (cc)
once_from insts d n (x ∷ rest) h zero i there plain =
    let same : x ≡ i = cc in
    let found = nothing_here x.offset (rules_at insts d n x) (nothing_both (here x.offset (rules_at insts d n x)) (group_3_from insts (declare (says insts) d x) (n + 1) rest) h).left in
    subst (λ m. is_second insts m i ≡ false) (sym (no_more n)) (subst (λ y. is_second insts n y ≡ false) same (rules_found insts d n x found (subst (λ y. is_line y ≡ false) (sym same) plain))) where
      no_more : (m : ℕ) → m + 0 ≡ m
      no_more m = omega arith
once_from insts d n (x ∷ rest) h (suc j) i there plain =
    let more = (nothing_both (here x.offset (rules_at insts d n x)) (group_3_from insts (declare (says insts) d x) (n + 1) rest) h).right in
    subst (λ m. is_second insts m i ≡ false) (one_more n j) (once_from insts (declare (says insts) d x) (n + 1) rest more j i there plain) where
      one_more : (m l : ℕ) → (m + 1) + l ≡ m + suc l
      one_more m l = omega arith

pub unbroken_defines_once : UnbrokenDefinesOnce
unbroken_defines_once insts h k i there plain =
    subst (λ m. is_second insts m i ≡ false) (none_before k) (once_from insts nothing_declared 0 insts (nothing_first (group_3 insts) h) k i there plain) where
      none_before : (m : ℕ) → 0 + m ≡ m
      none_before m = omega arith

-- ---- labels among instructions

-- a label stands among them
abbrev pub has_label : List Instruction → ℕ → Bool
has_label is l = list_any (λ i. is_label_mark i && (word i 1 == l)) is

-- each stands once
abbrev pub LabelsOnce : List Instruction → Type 0
LabelsOnce [] = Unit {0}
LabelsOnce (i ∷ is) = (is_label_mark i ≡ true → has_label is (word i 1) ≡ false) × LabelsOnce is

label_row : row_test first_plain (row_of op.LABEL) ≡ true
unfolding row_of
label_row = refl

same_opcode : (a b : ℕ) → (a == b) ≡ true → a ≡ b
same_opcode a b h = grind (arith, nat_tests)

-- a label's instruction defines it
second_word : (words : List ℕ) → slice_index (drop 1 words) 0 ≡ slice_index words 1
second_word [] = refl
second_word (w ∷ ws) = refl

label_defines : (i : Instruction) → IsInstruction i.words (roles i) → is_label_mark i ≡ true → word_with is_defined_id i ≡ Some (word i 1)
label_defines i whole h =
    defined-plain i whole (ap (λ o. row_test first_plain (row_of o)) (same_opcode (opcode i) op.LABEL h) ∙ label_row) ∙ ap Some (second_word i.words)

label_is_no_line : (i : Instruction) → is_label_mark i ≡ true → is_line i ≡ false
label_is_no_line i h = grind (arith, nat_tests)

same_id : (n : ℕ) → nat_eq n n ≡ true
same_id n = grind (arith, nat_tests)

defines_its_label : (i : Instruction) → IsInstruction i.words (roles i) → is_label_mark i ≡ true → defines (word i 1) i ≡ true
defines_its_label i whole h = ap (λ o. option_map_or (nat_eq (word i 1)) o false) (label_defines i whole h) ∙ same_id (word i 1)

-- places in a list that is made of two
at_front : {A : Type 0} (xs : List A) (y : A) (ys : List A) → slice_get (xs ++ y ∷ ys) (length xs) ≡ Some y
at_front [] y ys = refl
at_front (x ∷ xs) y ys = at_front xs y ys

take_front : {A : Type 0} (xs ys : List A) → take (length xs) (xs ++ ys) ≡ xs
take_front [] ys = refl
take_front (x ∷ xs) ys = ap (λ r. x ∷ r) (take_front xs ys)

append_push : {A : Type 0} (xs : List A) (i : A) (is : List A) → (xs ++ i ∷ []) ++ is ≡ xs ++ i ∷ is
append_push [] i is = refl
append_push (x ∷ xs) i is = ap (λ ys. x ∷ ys) (append_push xs i is)

any_push : (p : Instruction → Bool) (xs : List Instruction) (i : Instruction) → list_any p xs ≡ true → list_any p (xs ++ i ∷ []) ≡ true
any_push p [] i h = absurd (cc)
any_push p (x ∷ xs) i h = either (p x) (list_any p xs) h (any_push p xs i) where
  either : (a b : Bool) → (a || b) ≡ true → (b ≡ true → list_any p (xs ++ i ∷ []) ≡ true) → (a || list_any p (xs ++ i ∷ [])) ≡ true
  either true b h more = refl
  either false b h more = more h

any_last : (p : Instruction → Bool) (xs : List Instruction) (i : Instruction) → p i ≡ true → list_any p (xs ++ i ∷ []) ≡ true
any_last p [] i h = ap (λ (b : Bool). b || false) h
any_last p (x ∷ xs) i h = second (p x) (any_last p xs i h) where
  second : (a : Bool) → list_any p (xs ++ i ∷ []) ≡ true → (a || list_any p (xs ++ i ∷ [])) ≡ true
  second true h = refl
  second false h = h

-- a label that is defined before does not stand later; by induction on what is left
later_labels : (all : List Instruction) → AreInstructions all → DefinesOnce all → (before rest : List Instruction) → all ≡ before ++ rest → (l : ℕ) → is_defined before l ≡ true → has_label rest l ≡ false
later_labels all each once before [] e l h = refl
later_labels all each once before (j ∷ js) e l h =
    neither (is_label_mark j) (word j 1 == l) refl refl
    (later_labels all each once (before ++ j ∷ []) js (e ∙ sym (append_push before j js)) l (any_push (defines l) before j h)) where
      there : slice_get all (length before) ≡ Some j
      there = ap (λ is. slice_get is (length before)) e ∙ at_front before j js

      defined : is_defined (take (length before) all) l ≡ true
      defined = ap (λ is. is_defined (take (length before) is) l) e ∙ ap (λ is. is_defined is l) (take_front before (j ∷ js)) ∙ h

      neither : (a b : Bool) → is_label_mark j ≡ a → (word j 1 == l) ≡ b → has_label js l ≡ false → ((a && b) || has_label js l) ≡ false
      neither false b ea eb more = more
      neither true false ea eb more = more
      neither true true ea eb more =
          let second = once (length before) j there (label_is_no_line j ea) in
          let is_second_too : is_second all (length before) j ≡ true =
          ap (λ o. option_map_or (is_defined (take (length before) all)) o false) (label_defines j (each (length before) j there) ea)
          ∙ ap (is_defined (take (length before) all)) (same_opcode (word j 1) l eb) ∙ defined in
          absurd (cc)

pub labels_once_from : (all : List Instruction) → AreInstructions all → DefinesOnce all → (before rest : List Instruction) → all ≡ before ++ rest → LabelsOnce rest
labels_once_from all each once before [] e = tt
labels_once_from all each once before (i ∷ is) e = (
  (λ h. later_labels all each once (before ++ i ∷ []) is (e ∙ sym (append_push before i is)) (word i 1)
      (any_last (defines (word i 1)) before i (defines_its_label i (each (length before) i (ap (λ is. slice_get is (length before)) e ∙ at_front before i is)) h))),
  labels_once_from all each once (before ++ i ∷ []) is (e ∙ sym (append_push before i is)),
)

-- ---- parts of a list with labels once

drop_once : (n : ℕ) (is : List Instruction) → LabelsOnce is → LabelsOnce (drop n is)
drop_once zero is h = h
drop_once (suc n) [] h = h
drop_once (suc n) (i ∷ is) h = drop_once n is h.1

or_left : (a b : Bool) → (a || b) ≡ false → a ≡ false
or_left true b h = absurd (cc)
or_left false b h = refl

or_right : (a b : Bool) → (a || b) ≡ false → b ≡ false
or_right true b h = absurd (cc)
or_right false b h = h

or_both : (a b : Bool) → a ≡ false → b ≡ false → (a || b) ≡ false
or_both true b h k = h
or_both false b h k = k

abbrev names : ℕ → Instruction → Bool
names l i = is_label_mark i && (word i 1 == l)

-- what stands in the rest of a function stands there
rest_has_none : (is : List Instruction) (l : ℕ) → has_label is l ≡ false → has_label (rest_of_function is) l ≡ false
rest_has_none [] l h = refl
rest_has_none (i ∷ is) l h = by_kind (is_function i) (is_function_end i) (or_left (names l i) (has_label is l) h) (rest_has_none is l (or_right (names l i) (has_label is l) h)) where
  by_kind : (a b : Bool) → names l i ≡ false → has_label (rest_of_function is) l ≡ false → has_label (cond a [] (cond b (i ∷ []) (i ∷ rest_of_function is))) l ≡ false
  by_kind true b here more = refl
  by_kind false true here more = or_both (names l i) false here refl
  by_kind false false here more = or_both (names l i) (has_label (rest_of_function is) l) here more

rest_once : (is : List Instruction) → LabelsOnce is → LabelsOnce (rest_of_function is)
rest_once [] h = tt
rest_once (i ∷ is) h = by_kind (is_function i) (is_function_end i) (rest_once is h.1) where
  by_kind : (a b : Bool) → LabelsOnce (rest_of_function is) → LabelsOnce (cond a [] (cond b (i ∷ []) (i ∷ rest_of_function is)))
  by_kind true b more = tt
  by_kind false true more = ((λ e. refl), tt)
  by_kind false false more = ((λ e. rest_has_none is (word i 1) (h.0 e)), more)

marks_have_none : (is : List Instruction) (l : ℕ) → has_label is l ≡ false → has_label (without_marks is) l ≡ false
marks_have_none [] l h = refl
marks_have_none (i ∷ is) l h = by_kind (is_line i) (or_left (names l i) (has_label is l) h) (marks_have_none is l (or_right (names l i) (has_label is l) h)) where
  by_kind : (a : Bool) → names l i ≡ false → has_label (without_marks is) l ≡ false → has_label (cond (not a) (i ∷ without_marks is) (without_marks is)) l ≡ false
  by_kind true here more = more
  by_kind false here more = or_both (names l i) (has_label (without_marks is) l) here more

marks_once : (is : List Instruction) → LabelsOnce is → LabelsOnce (without_marks is)
marks_once [] h = tt
marks_once (i ∷ is) h = by_kind (is_line i) (marks_once is h.1) where
  by_kind : (a : Bool) → LabelsOnce (without_marks is) → LabelsOnce (cond (not a) (i ∷ without_marks is) (without_marks is))
  by_kind true more = more
  by_kind false more = ((λ e. marks_have_none is (word i 1) (h.0 e)), more)

begun_once : (is : List Instruction) → LabelsOnce is → LabelsOnce (begun_function is)
begun_once [] h = tt
begun_once (i ∷ is) h = ((λ e. rest_has_none is (word i 1) (h.0 e)), rest_once is h.1)

function_once : (insts : List Instruction) (number : Option ℕ) → LabelsOnce insts → LabelsOnce (function_from insts number)
function_once insts None h = tt
function_once insts (Some n) h = begun_once (drop n insts) (drop_once n insts h)

-- ---- blocks

-- a block with a label comes from an instruction that has it
block_has_label : (is : List Instruction) (k : ℕ) (b : Block) → slice_get (blocks_of is) k ≡ Some b → has_label is b.label ≡ true
block_has_label [] k b h = absurd (cc)
block_has_label (i ∷ is) k b h = by_kind (is_label_mark i) refl k h (λ j e. block_has_label is j b e) where
  second : (a c : Bool) → c ≡ true → (a || c) ≡ true
  second true c e = refl
  second false c e = e

  first_of : (label at : Bool) → label ≡ true → at ≡ true → ((label && at) || has_label is b.label) ≡ true
  first_of true true e f = refl
  first_of true false e f = absurd (cc)
  first_of false at e f = absurd (cc)

  equal : (n m : ℕ) → n ≡ m → (n == m) ≡ true
  equal n m e = grind (arith, nat_tests)

  by_kind : (a : Bool) → is_label_mark i ≡ a → (k : ℕ) → slice_get (cond a (block_of i is ∷ blocks_of is) (blocks_of is)) k ≡ Some b
      → ((j : ℕ) → slice_get (blocks_of is) j ≡ Some b → has_label is b.label ≡ true) → ((is_label_mark i && (word i 1 == b.label)) || has_label is b.label) ≡ true
  by_kind true e zero there more = let same : block_of i is ≡ b = cc in first_of (is_label_mark i) (word i 1 == b.label) e (equal (word i 1) b.label (ap (λ (x : Block). x.label) same))
  by_kind true e (suc k) there more = second (is_label_mark i && (word i 1 == b.label)) (has_label is b.label) (more k there)
  by_kind false e k there more = second (is_label_mark i && (word i 1 == b.label)) (has_label is b.label) (more k there)

first_is_own : (i : Instruction) (is : List Instruction) (k : ℕ) (b : Block) → has_label is (word i 1) ≡ false → slice_get (blocks_of is) k ≡ Some b → word i 1 ≡ b.label → ⊥
first_is_own i is k b none there e = different (ap (has_label is) e) (block_has_label is k b there) none where
  different : {x y : Bool} → x ≡ y → y ≡ true → x ≡ false → ⊥
  different e h g = absurd (cc)

own_blocks : (is : List Instruction) → LabelsOnce is → HasOwnLabels (blocks_of is)
own_blocks [] h j k a b ha hb e = absurd (cc)
own_blocks (i ∷ is) h j k a b ha hb e = by_kind (is_label_mark i) refl j k ha hb (own_blocks is h.1) where
  by_kind : (m : Bool) → is_label_mark i ≡ m → (j k : ℕ) → slice_get (cond m (block_of i is ∷ blocks_of is) (blocks_of is)) j ≡ Some a
      → slice_get (cond m (block_of i is ∷ blocks_of is) (blocks_of is)) k ≡ Some b → HasOwnLabels (blocks_of is) → j ≡ k
  by_kind false l j k ha hb more = more j k a b ha hb e
  by_kind true l zero zero ha hb more = refl
  by_kind true l zero (suc k) ha hb more =
      let same : block_of i is ≡ a = cc in
      absurd (first_is_own i is k b (h.0 l) hb (ap (λ (x : Block). x.label) same ∙ e))
  by_kind true l (suc j) zero ha hb more =
      let same : block_of i is ≡ b = cc in
      absurd (first_is_own i is j a (h.0 l) ha (ap (λ (x : Block). x.label) same ∙ sym e))
  by_kind true l (suc j) (suc k) ha hb more = ap suc (more j k a b ha hb e)

pub labels_are_own : LabelsAreOwn
labels_are_own insts k each once =
    own_blocks (without_marks (function_insts k insts)) (marks_once (function_insts k insts) (function_once insts (slice_get (starts insts) k) (labels_once_from insts each once [] insts refl)))
