-- What is defined in the module and is no label that went, is defined in the normal form.
use Rattle.std.proofs.Common.{◌≡◌, ◌≢◌, inl, inr, ℕ, zero, suc, ◌+◌, ◌<◌, ◌≤◌, ◌^◌, Bool, true, false, cond, not, nat_eq, ◌&&◌, ◌||◌, ◌==◌, List, [], ◌∷◌, ◌++◌, length, map, drop, find, Option, Some, None, refl, sym, ap, subst, ◌∙◌, arith}
use Rattle.std.specs.List.{AllByRecursion, count_by, flat_map, list_any, range_with_len, slice_index}
use Rattle.std.specs.Option.{option_map, option_map_or}
use Rattle.std.proofs.lemmas.List.Folds.{list_any-append}
use Rattle.spv_opcodes.specs.declared.op.TheConstants as op
use Rattle.spv_grammar.specs.Table.{row_of}
use Rattle.spv_module.specs.Code.{code_of, is_function, is_line}
use Rattle.spv_module.specs.Instruction.{Instruction, opcode}
use Rattle.spv_ids.specs.Ids.{defines, definition, is_defined, kind}
use Rattle.spv_declarations.proofs.Parts.{defined-plain, first_plain, row_test}
use Rattle.spv_blocks.specs.Cutting.{function_insts}
use Rattle.spv_walk.proofs.Unique.{both_left, both_right, either_holds, equal_true, false_equal, left_holds, right_holds, tells, true_equal}
use Rattle.spv_normal.specs.Lines.{without_marks}
use Rattle.spv_normal.specs.Normal.{normal_function}
use Rattle.spv_tree.specs.declared.body.Body.{Body}
use Rattle.spv_tree.specs.Sound.{opcode_in}
use Rattle.spv_tree.specs.Tree.{body_of, words_of}
use Rattle.spv_texts.specs.Laws.{DefinesOnce}
use Rattle.spv_texts.proofs.Functions.{fits_in_module, marks_front}
use Rattle.spv_norm.specs.Norm.{function_lines, is_gone, is_label_line, norm_lines, outside, staying}
use Rattle.spv_norm_means.proofs.InOrder.{functions_are, functions_in, joined, module_is_cut}
use Rattle.spv_norm_declared.specs.Laws.{IsWhole, NormDefinesAll, NormDefinesSame, SameDefinition, defining}
use Rattle.spv_norm_declared.proofs.Instructions.{Are, IsUnbroken, LinesAre, is_instruction}
use Rattle.spv_norm_declared.proofs.FunctionLines.{all_of_function, functions_have}
use Rattle.spv_norm_declared.proofs.CutAgain.{IsRead, group_2_none, is_read}
use Rattle.spv_norm_declared.proofs.Walks.{inst_of}
use Rattle.spv_norm_declared.proofs.Whole.{each_fine, tree}
use Rattle.spv_norm_declared.proofs.Definitions.{defined_outside, defines_by, found_by, line_defines_nothing}
use Rattle.spv_norm_declared.proofs.Definers.{IsOnly, defined_alike, firsts, instructions_of, low_enough}
use Rattle.spv_norm_declared.proofs.Covered.{NoLabel, function_covers}
use Rattle.spv_norm_declared.proofs.Tidy.{function_tidy, text_ends, whole_tidy}

-- ---- lists

any_found : (p : List ℕ → Bool) (ws : List (List ℕ)) → list_any p ws ≡ true → (w : List ℕ) × (find p ws ≡ Some w)
any_found p [] h = absurd (cc h)
any_found p (x ∷ ws) h = by (p x) h (any_found p ws)
  where
    by : (b : Bool) → (b || list_any p ws) ≡ true → (list_any p ws ≡ true → (w : List ℕ) × (find p ws ≡ Some w))
        → (w : List ℕ) × (cond b (Some x) (find p ws) ≡ Some w)
    by true h more = (x, refl)
    by false h more = more h

found_any : (p : List ℕ → Bool) (ws : List (List ℕ)) (w : List ℕ) → find p ws ≡ Some w → list_any p ws ≡ true
found_any p [] w h = absurd (cc h)
found_any p (x ∷ ws) w h = by (p x) h (found_any p ws w)
  where
    by : (b : Bool) → cond b (Some x) (find p ws) ≡ Some w → (find p ws ≡ Some w → list_any p ws ≡ true) → (b || list_any p ws) ≡ true
    by true h more = refl
    by false h more = more h

defined_somewhere : (id : ℕ) (is : List Instruction) (i : Instruction) → definition is id ≡ Some i → is_defined is id ≡ true
defined_somewhere id [] i h = absurd (cc h)
defined_somewhere id (x ∷ is) i h = by (defines id x) h (defined_somewhere id is i)
  where
    by : (b : Bool) → cond b (Some x) (definition is id) ≡ Some i → (definition is id ≡ Some i → is_defined is id ≡ true) → (b || is_defined is id) ≡ true
    by true h more = refl
    by false h more = more h

module _ (bound : ℕ) (low : bound ≤ 2 ^ 32) (id : ℕ) where
  -- line marks define nothing
  marks_apart : (is : List Instruction) → Are bound is → is_defined is id ≡ true → is_defined (without_marks is) id ≡ true
  marks_apart [] are h = absurd (cc h)
  marks_apart (i ∷ is) are h = by (is_line i) refl (marks_apart is are.1)
    where
      by : (l : Bool) → is_line i ≡ l → (is_defined is id ≡ true → is_defined (without_marks is) id ≡ true)
          → is_defined (cond (not l) (i ∷ without_marks is) (without_marks is)) id ≡ true
      by true e more =
          more (sym (ap (λ (b : Bool). b || is_defined is id) (line_defines_nothing id i (is_instruction bound i low are.0) e)) ∙ h)
      by false e more = elim (either_holds (defines id i) (is_defined is id) h) [
        | inl k ↦ left_holds (defines id i) (is_defined (without_marks is) id) k
        | inr k ↦ right_holds (defines id i) (is_defined (without_marks is) id) (more k)
      ]

  without_more : (is : List Instruction) → is_defined (without_marks is) id ≡ true → is_defined is id ≡ true
  without_more [] h = absurd (cc h)
  without_more (i ∷ is) h = by (is_line i) h (without_more is)
    where
      by : (l : Bool) → is_defined (cond (not l) (i ∷ without_marks is) (without_marks is)) id ≡ true
          → (is_defined (without_marks is) id ≡ true → is_defined is id ≡ true) → (defines id i || is_defined is id) ≡ true
      by true h more = right_holds (defines id i) (is_defined is id) (more h)
      by false h more = elim (either_holds (defines id i) (is_defined (without_marks is) id) h) [
        | inl k ↦ left_holds (defines id i) (is_defined is id) k
        | inr k ↦ right_holds (defines id i) (is_defined is id) (more k)
      ]

  -- an OpLabel of the normal form defines its label
  label_row : row_test first_plain (row_of op.LABEL) ≡ true
  unfolding row_of
  label_row = refl

  same_number : (n : ℕ) → nat_eq n n ≡ true
  same_number n = true_equal n n refl

  second_word : (ws : List ℕ) → slice_index (drop 1 ws) 0 ≡ slice_index ws 1
  second_word [] = refl
  second_word (w ∷ ws) = refl

  label_defines : (w : List ℕ) → IsUnbroken bound w → is_label_line id w ≡ true → defines_by id w ≡ true
  label_defines w u h =
      let mark = both_left (opcode (inst_of w) == op.LABEL) (slice_index w 1 == id) h in
      let label = equal_true (slice_index w 1) id (both_right (opcode (inst_of w) == op.LABEL) (slice_index w 1 == id) h) in
      ap (λ x. option_map_or (nat_eq id) x false)
      (defined-plain (inst_of w) (is_instruction bound (inst_of w) low u)
      (ap (λ o. row_test first_plain (row_of o)) (equal_true (opcode (inst_of w)) op.LABEL mark) ∙ label_row) ∙ ap Some (second_word w ∙ label))
      ∙ same_number id

  labels_define : (ws : List (List ℕ)) → LinesAre bound ws → list_any (is_label_line id) ws ≡ true → list_any (defines_by id) ws ≡ true
  labels_define [] are h = absurd (cc h)
  labels_define (w ∷ ws) are h = elim (either_holds (is_label_line id w) (list_any (is_label_line id) ws) h) [
    | inl e ↦ left_holds (defines_by id w) (list_any (defines_by id) ws) (label_defines w are.0 e)
    | inr e ↦ right_holds (defines_by id w) (list_any (defines_by id) ws) (labels_define ws are.1 e)
  ]

  -- some function defines it, and so does its normal form
  functions_cover : (F : ℕ → List Instruction) (G : ℕ → List (List ℕ)) (a n : ℕ)
      → ((j : ℕ) → j < n → is_defined (without_marks (F (a + j))) id ≡ true → list_any (defines_by id) (G (a + j)) ≡ true)
      → is_defined (without_marks (joined (map F (range_with_len a n)))) id ≡ true → list_any (defines_by id) (flat_map G (range_with_len a n)) ≡ true
  functions_cover F G a zero each h = absurd (cc h)
  functions_cover F G a (suc n) each h =
      let rest : List Instruction = joined (map F (range_with_len (a + 1) n)) in
      let both : (is_defined (without_marks (F a)) id || is_defined (without_marks rest) id) ≡ true =
      sym (ap (λ z. is_defined z id) (marks_front (F a) rest) ∙ list_any-append (defines id) (without_marks (F a)) (without_marks rest)) ∙ h in
      let here = subst (λ k. is_defined (without_marks (F k)) id ≡ true → list_any (defines_by id) (G k) ≡ true) (at_once a) (each 0 (omega arith)) in
      list_any-append (defines_by id) (G a) (flat_map G (range_with_len (a + 1) n))
      ∙ elim (either_holds (is_defined (without_marks (F a)) id) (is_defined (without_marks rest) id) both) [
        | inl e ↦ left_holds (list_any (defines_by id) (G a)) (list_any (defines_by id) (flat_map G (range_with_len (a + 1) n))) (here e)
        | inr e ↦ right_holds (list_any (defines_by id) (G a)) (list_any (defines_by id) (flat_map G (range_with_len (a + 1) n)))
            (functions_cover F G (a + 1) n
            (λ j lt. subst (λ k. is_defined (without_marks (F k)) id ≡ true → list_any (defines_by id) (G k) ≡ true) (one_later a j)
            (each (suc j) (omega arith))) e)
      ]
    where
      at_once : (n : ℕ) → n + 0 ≡ n
      at_once n = omega arith

      one_later : (n k : ℕ) → n + suc k ≡ (n + 1) + k
      one_later n k = omega arith

-- what defines the id is no label
no_labels : (bound id : ℕ) (insts is : List Instruction) → AllByRecursion (IsOnly bound insts) is → (kind insts id == op.LABEL) ≡ false
    → NoLabel (defines id) is
no_labels bound id insts [] h other = tt
no_labels bound id insts (i ∷ is) h other = (
  (λ d. ap (λ o. option_map_or opcode o 0 == op.LABEL) (sym (h.0.1 id d)) ∙ other),
  no_labels bound id insts is h.1 other,
)

not_both : (a b : Bool) → (a && not b) ≡ false → a ≡ true → b ≡ true
not_both true true h e = refl
not_both true false h e = absurd (cc h)
not_both false b h e = absurd (cc e)

defined_by : (v : List ℕ) (o : Option Instruction) → option_map (λ i. i.words) o ≡ Some v → (i : Instruction) × (o ≡ Some i)
defined_by v None h = absurd (cc h)
defined_by v (Some i) h = (i, refl)

same_some : (a b : List ℕ) → Some a ≡ Some b → a ≡ b
same_some a b h = cc

-- ---- modules

module _ (words : List ℕ) (bodies : List Body) (whole : IsWhole words bodies) (once : DefinesOnce (code_of words).insts) (id : ℕ) where
  abbrev insts : List Instruction
  insts = (code_of words).insts

  abbrev bound : ℕ
  bound = slice_index words 3

  read : IsRead words
  read = is_read words whole.decoded

  low : bound ≤ 2 ^ 32
  low = low_enough bound read.low

  abbrev F : ℕ → List Instruction
  F k = function_insts k insts

  abbrev G : ℕ → List (List ℕ)
  G k = normal_function (function_insts k insts)

  abbrev count : ℕ
  count = count_by is_function insts

  label_stays : list_any (is_label_line id) (function_lines insts) ≡ true → list_any (defines_by id) (function_lines insts) ≡ true
  label_stays h = labels_define bound low id (function_lines insts) (functions_have (IsUnbroken bound) G 0 count (each_fine words bodies whole)) h

  each_covers : (kind insts id == op.LABEL) ≡ false → (j : ℕ) → j < count → is_defined (without_marks (F (0 + j))) id ≡ true
      → list_any (defines_by id) (G (0 + j)) ≡ true
  each_covers other j lt =
      let t = tree words bodies whole j lt in
      let s = t.1.parsed.spelled in
      let is : List Instruction = without_marks (F j) in
      let laid = whole_tidy (without_marks insts) (fits_in_module (length words) insts (group_2_none words whole.decoded)) in
      subst (λ n. is_defined (without_marks (F n)) id ≡ true → list_any (defines_by id) (G n) ≡ true) (none_more j)
      (λ h. function_covers bound low id (F j) s.stays (body_of t.0) s.admitted s.spells (all_of_function (λ i. IsUnbroken bound i.words) insts j read.are)
      (function_tidy insts j laid) (text_ends is s.admitted.text)
      (no_labels bound id insts is (all_of_function (IsOnly bound insts) insts j (firsts words bodies whole once)) other) h)
    where
      none_more : (n : ℕ) → n ≡ 0 + n
      none_more n = omega arith

  -- an id that is defined outside functions
  from_outside : is_defined (outside insts) id ≡ true → list_any (defines_by id) (norm_lines insts) ≡ true
  from_outside h =
      let again : List Instruction = map inst_of (norm_lines insts) in
      let same : words_of again ≡ norm_lines insts = written (norm_lines insts) in
      let d = defined_outside insts id (function_lines insts) again (instructions_of bound insts low read.are) h same in
      found_any (defines_by id) (norm_lines insts) d.0 (ap (find (defines_by id)) (sym same) ∙ sym (found_by id again) ∙ d.2)
    where
      written : (ws : List (List ℕ)) → words_of (map inst_of ws) ≡ ws
      written [] = refl
      written (w ∷ ws) = ap (λ z. w ∷ z) (written ws)

  in_functions : list_any (defines_by id) (function_lines insts) ≡ true → list_any (defines_by id) (norm_lines insts) ≡ true
  in_functions h =
      list_any-append (defines_by id) (words_of (staying insts)) (function_lines insts)
      ∙ right_holds (list_any (defines_by id) (words_of (staying insts))) (list_any (defines_by id) (function_lines insts)) h

  -- an id of another instruction
  from_all : (kind insts id == op.LABEL) ≡ false → is_defined insts id ≡ true → list_any (defines_by id) (norm_lines insts) ≡ true
  from_all other h =
      let fits = fits_in_module (length words) insts (group_2_none words whole.decoded) in
      let cut : without_marks insts ≡ without_marks (outside insts) ++ without_marks (joined (functions_in insts)) =
      module_is_cut insts fits ∙ marks_front (outside insts) (joined (functions_in insts)) in
      let both : (is_defined (without_marks (outside insts)) id || is_defined (without_marks (joined (functions_in insts))) id) ≡ true =
      sym (ap (λ z. is_defined z id) cut ∙ list_any-append (defines id) (without_marks (outside insts)) (without_marks (joined (functions_in insts))))
      ∙ marks_apart bound low id insts read.are h in
      elim (either_holds (is_defined (without_marks (outside insts)) id) (is_defined (without_marks (joined (functions_in insts))) id) both) [
        | inl e ↦ from_outside (without_more bound low id (outside insts) e)
        | inr e ↦ in_functions (functions_cover bound low id F G 0 count (each_covers other)
            (ap (λ ts. is_defined (without_marks (joined ts)) id) (sym (functions_are insts)) ∙ e))
      ]

  some_line : (i : Instruction) → definition insts id ≡ Some i → is_gone insts id ≡ false → list_any (defines_by id) (norm_lines insts) ≡ true
  some_line i d stays = elim (tells (kind insts id == op.LABEL)) [
    | inl e ↦ in_functions (label_stays (not_both (kind insts id == op.LABEL) (list_any (is_label_line id) (function_lines insts)) stays e))
    | inr e ↦ from_all e (defined_somewhere id insts i d)
  ]

  pub defined_again : (after : List Instruction) → words_of after ≡ norm_lines insts → (v : List ℕ) → defining insts id ≡ Some v → is_gone insts id ≡ false
      → (w : List ℕ) × (defining after id ≡ Some w) × SameDefinition v w
  defined_again after same v d stays =
      let i = defined_by v (definition insts id) d in
      let found = any_found (defines_by id) (norm_lines insts) (some_line i.0 i.1 stays) in
      let there : defining after id ≡ Some found.0 = found_by id after ∙ ap (find (defines_by id)) same ∙ found.1 in
      let alike = defined_alike words bodies whole once after same id found.0 there in
      let one : alike.0 ≡ v = same_some alike.0 v (sym alike.1 ∙ d) in
      (found.0, there, subst (λ z. SameDefinition z found.0) one alike.2)

pub norm_defines_all : NormDefinesAll
norm_defines_all words bodies norm whole is once id v d stays = defined_again words bodies whole once id norm.insts is.lines v d stays

-- ---- the same words

other_kind : (b c : Bool) → b ≡ false → (b && c) ≡ false
other_kind true c h = absurd (cc h)
other_kind false c h = refl

no_label_goes : (insts : List Instruction) (id : ℕ) (w : List ℕ) → defining insts id ≡ Some w → opcode_in w ≢ op.LABEL → is_gone insts id ≡ false
no_label_goes insts id w d n =
    let i = defined_by w (definition insts id) d in
    let kind_is : kind insts id ≡ opcode i.0 = ap (λ o. option_map_or opcode o 0) i.1 in
    let words_are : i.0.words ≡ w = same_some i.0.words w (sym (ap (option_map (λ j. j.words)) i.1) ∙ d) in
    let other : (kind insts id == op.LABEL) ≡ false =
    false_equal (kind insts id) op.LABEL (λ e. n (sym (ap opcode_in words_are) ∙ sym kind_is ∙ e)) in
    other_kind (kind insts id == op.LABEL) (not (list_any (is_label_line id) (function_lines insts))) other

pub norm_defines_same : NormDefinesSame
norm_defines_same words bodies norm whole is once id w label phi copy = (
  (λ d.
      let found = defined_again words bodies whole once id norm.insts is.lines w d (no_label_goes (code_of words).insts id w d label) in
      elim found.2 [
        | inl same ↦ found.1 ∙ ap Some same
        | inr stays ↦ absurd (phi stays.phi)
      ]),
  (λ d.
      let found = defined_alike words bodies whole once norm.insts is.lines id w d in
      elim found.2 [
        | inl same ↦ found.1 ∙ ap Some (sym same)
        | inr stays ↦ elim stays.kind [
          | inl e ↦ absurd (phi e)
          | inr e ↦ absurd (copy e)
        ]
      ]),
)
