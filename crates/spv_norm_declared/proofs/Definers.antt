-- What defines an id in the normal form is what defines it in the module, or what became of an OpPhi.
use Rattle.std.proofs.Common.{◌≡◌, inl, inr, ℕ, ◌+◌, ◌%◌, ◌<◌, ◌≤◌, ◌^◌, Bool, true, false, cond, nat_eq, ◌||◌, ◌==◌, List, [], ◌∷◌, ◌++◌, length, map, take, drop, find, Option, Some, None, refl, sym, ap, subst, ◌∙◌, arith, append_assoc}
use Rattle.std.specs.List.{AllByRecursion, count_by, slice_get, slice_index}
use Rattle.std.specs.Option.{option_map, option_map_or}
use Rattle.spv_opcodes.specs.declared.op.TheConstants as op
use Rattle.spv_grammar.specs.Fronts.{has_result}
use Rattle.spv_grammar.specs.Roles.{is_defined_id}
use Rattle.spv_grammar.specs.Table.{row_of}
use Rattle.spv_module.specs.Code.{code_of, is_function, is_line}
use Rattle.spv_module.specs.Instruction.{Instruction, IsInstruction, opcode, roles, word_with}
use Rattle.spv_ids.specs.Ids.{defines, definition, is_defined}
use Rattle.spv_declarations.proofs.Parts.{defined-typed, first_typed, row_test}
use Rattle.spv_blocks.specs.Cutting.{blocks_of, function_insts, is_label_mark, pairs, word}
use Rattle.spv_walk.proofs.Unique.{equal_true}
use Rattle.spv_bodies.specs.Bodies.{Function}
use Rattle.spv_bodies.specs.Listing.{instruction, label_line, pair_words}
use Rattle.spv_normal.specs.Lines.{line, without_marks}
use Rattle.spv_normal.specs.Normal.{copied, normal_function, renamed}
use Rattle.spv_spelling.specs.Spelling.{SpellsFunction}
use Rattle.spv_spelling.specs.Whole.{IsAdmitted}
use Rattle.spv_tree.specs.Sound.{opcode_in}
use Rattle.spv_tree.specs.declared.body.Body.{Body}
use Rattle.spv_tree.specs.Tree.{body_of, words_of}
use Rattle.spv_texts.specs.Laws.{DefinesOnce}
use Rattle.spv_normal_trees.specs.Laws.{stays_by}
use Rattle.spv_normal_trees.proofs.Texts.{opcode_spelled}
use Rattle.spv_norm.specs.Norm.{function_lines, norm_lines, outside, stays_outside, staying}
use Rattle.spv_norm_declared.specs.Laws.{IsWhole, NormDefinesAlike, NormDefinesOutside, PhiStays, SameDefinition, defining}
use Rattle.spv_norm_declared.proofs.Instructions.{Are, IsUnbroken, is_instruction}
use Rattle.spv_norm_declared.proofs.MadeLines.{copied_fine, end_fine, is_phi, label_words, line_fine, renamed_fine}
use Rattle.spv_norm_declared.proofs.FunctionLines.{AreMade, all_both, all_filter, all_of_function, functions_have, lines_made, stays_in}
use Rattle.spv_norm_declared.proofs.Definitions.{defined_outside, defines_by, found_by, line_defines_nothing, no_result}
use Rattle.spv_norm_declared.proofs.CutAgain.{IsRead, is_read}
use Rattle.spv_norm_declared.proofs.Walks.{inst_of}
use Rattle.spv_norm_declared.proofs.Whole.{all_outside, tree}

-- ---- one definition

-- the instruction defines what it defines first
abbrev pub IsFirst : List Instruction → Instruction → Type 0
IsFirst insts i = (id : ℕ) → defines id i ≡ true → definition insts id ≡ Some i

none_found : (id : ℕ) (before : List Instruction) (i : Instruction) (is : List Instruction) → is_defined before id ≡ false → defines id i ≡ true
    → find (defines id) (before ++ i ∷ is) ≡ Some i
none_found id [] i is none h = ap (λ (b : Bool). cond b (Some i) (find (defines id) is)) h
none_found id (x ∷ before) i is none h = by (defines id x) none (λ g. none_found id before i is g h)
  where
    by : (b : Bool) → (b || is_defined before id) ≡ false → (is_defined before id ≡ false → find (defines id) (before ++ i ∷ is) ≡ Some i)
        → cond b (Some x) (find (defines id) (before ++ i ∷ is)) ≡ Some i
    by true none more = absurd (cc none)
    by false none more = more none

at_front : (xs : List Instruction) (y : Instruction) (ys : List Instruction) → slice_get (xs ++ y ∷ ys) (length xs) ≡ Some y
at_front [] y ys = refl
at_front (x ∷ xs) y ys = at_front xs y ys

take_front : (xs ys : List Instruction) → take (length xs) (xs ++ ys) ≡ xs
take_front [] ys = refl
take_front (x ∷ xs) ys = ap (λ r. x ∷ r) (take_front xs ys)

the_result : (id : ℕ) (before : List Instruction) (o : Option ℕ) → option_map_or (nat_eq id) o false ≡ true
    → option_map_or (is_defined before) o false ≡ false
    → is_defined before id ≡ false
the_result id before None h g = absurd (cc h)
the_result id before (Some x) h g = ap (is_defined before) (equal_true id x h) ∙ g

-- what it defines, none before it defines
pub defined_not_before : (id : ℕ) (all before : List Instruction) (i : Instruction) (is : List Instruction) → DefinesOnce all → all ≡ before ++ i ∷ is
    → is_line i ≡ false → defines id i ≡ true → is_defined before id ≡ false
defined_not_before id all before i is once e plain h =
    let there : slice_get all (length before) ≡ Some i = ap (λ z. slice_get z (length before)) e ∙ at_front before i is in
    let front : take (length before) all ≡ before = ap (take (length before)) e ∙ take_front before (i ∷ is) in
    let none : option_map_or (is_defined before) (word_with is_defined_id i) false ≡ false =
    ap (λ z. option_map_or (is_defined z) (word_with is_defined_id i) false) (sym front) ∙ once (length before) i there plain in
    the_result id before (word_with is_defined_id i) h none

first_there : (all before : List Instruction) (i : Instruction) (is : List Instruction) → DefinesOnce all → all ≡ before ++ i ∷ is
    → is_line i ≡ false → IsFirst all i
first_there all before i is once e plain id h =
    ap (λ z. find (defines id) z) e ∙ none_found id before i is (defined_not_before id all before i is once e plain h) h

abbrev pub IsOnly : ℕ → List Instruction → Instruction → Type 0
IsOnly bound insts i = IsUnbroken bound i.words × IsFirst insts i

-- a line mark defines nothing; induction on the instructions
all_first : (bound : ℕ) (all before is : List Instruction) → bound ≤ 2 ^ 32 → DefinesOnce all → all ≡ before ++ is → Are bound is
    → AllByRecursion (IsOnly bound all) is
all_first bound all before [] low once e are = tt
all_first bound all before (i ∷ is) low once e are = (
  (are.0, by (is_line i) refl),
  all_first bound all (before ++ i ∷ []) is low once (e ∙ sym (append_assoc before (i ∷ []) is)) are.1,
)
  where
    by : (b : Bool) → is_line i ≡ b → IsFirst all i
    by true h = λ id d. absurd (cc (d, line_defines_nothing id i (is_instruction bound i low are.0) h))
    by false h = first_there all before i is once e h

-- ---- results of lines

pub phi_row : row_test first_typed (row_of op.PHI) ≡ true
unfolding row_of
phi_row = refl

pub copy_row : row_test first_typed (row_of op.COPY_OBJECT) ≡ true
unfolding row_of
copy_row = refl

third_word : (ws : List ℕ) → slice_index (drop 1 ws) 1 ≡ slice_index ws 2
third_word [] = refl
third_word (w ∷ ws) = refl

pub typed_result : (bound id o : ℕ) (w : List ℕ) → bound ≤ 2 ^ 32 → IsUnbroken bound w → opcode_in w ≡ o → row_test first_typed (row_of o) ≡ true
    → defines_by id w ≡ nat_eq id (slice_index w 2)
typed_result bound id o w low u e row =
    ap (λ x. option_map_or (nat_eq id) x false)
    (defined-typed (inst_of w) (is_instruction bound (inst_of w) low u) (ap (λ k. row_test first_typed (row_of k)) e ∙ row) ∙ ap Some (third_word w))

split_result : has_result op.BRANCH_CONDITIONAL ≡ false
unfolding row_of
split_result = refl

end_result : has_result op.FUNCTION_END ≡ false
unfolding row_of
end_result = refl

-- what a line defines is defined alike in the module
abbrev pub IsDefinedAlike : List Instruction → List ℕ → Type 0
IsDefinedAlike insts w = (id : ℕ) → defines_by id w ≡ true → (v : List ℕ) × (defining insts id ≡ Some v) × SameDefinition v w

-- the same words
same_alike : (insts : List Instruction) (i : Instruction) → IsFirst insts i → IsDefinedAlike insts i.words
same_alike insts i first id h = (i.words, ap (option_map (λ j. j.words)) (first id h), inl refl)

-- words that define nothing
nothing_alike : (bound o : ℕ) (insts : List Instruction) (w : List ℕ) → bound ≤ 2 ^ 32 → IsUnbroken bound w → opcode_in w ≡ o → has_result o ≡ false
    → IsDefinedAlike insts w
nothing_alike bound o insts w low u e none id h = absurd (cc (h, no_result id o (inst_of w) (is_instruction bound (inst_of w) low u) e none))

-- what became of an OpPhi
stays_alike : (bound o : ℕ) (insts : List Instruction) (i : Instruction) (w : List ℕ) → bound ≤ 2 ^ 32 → IsUnbroken bound i.words → IsFirst insts i
    → PhiStays i.words w → IsUnbroken bound w → opcode_in w ≡ o → row_test first_typed (row_of o) ≡ true → IsDefinedAlike insts w
stays_alike bound o insts i w low u first s fine e row id h =
    let same : defines_by id i.words ≡ true =
    typed_result bound id op.PHI i.words low u s.phi phi_row ∙ ap (nat_eq id) (sym s.result_id) ∙ sym (typed_result bound id o w low fine e row) ∙ h in
    (i.words, ap (option_map (λ j. j.words)) (first id same), inr s)

pub front_kept : (w rest : List ℕ) (h a b : ℕ) (ws : List ℕ) → w ≡ h ∷ a ∷ b ∷ ws
    → (slice_index (take 3 w ++ rest) 0 ≡ slice_index w 0) × (slice_index (take 3 w ++ rest) 1 ≡ slice_index w 1)
    × (slice_index (take 3 w ++ rest) 2 ≡ slice_index w 2)
front_kept w rest h a b ws e = (
  ap (λ z. slice_index (take 3 z ++ rest) 0) e ∙ sym (ap (λ z. slice_index z 0) e),
  ap (λ z. slice_index (take 3 z ++ rest) 1) e ∙ sym (ap (λ z. slice_index z 1) e),
  ap (λ z. slice_index (take 3 z ++ rest) 2) e ∙ sym (ap (λ z. slice_index z 2) e),
)

pub opcode_kept : (w v : List ℕ) (o : ℕ) → slice_index v 0 ≡ slice_index w 0 → opcode_in w ≡ o → opcode_in v ≡ o
opcode_kept w v o e h = ap (λ n. n % 65536) e ∙ h

module _ (bound : ℕ) (insts : List Instruction) (low : bound ≤ 2 ^ 32) (stays : ℕ → ℕ)
    (closed : (i : Instruction) → IsUnbroken bound i.words → opcode i ≡ op.PHI
    → IsUnbroken bound (renamed stays i)) where
  label_alike : (i : Instruction) → IsOnly bound insts i → is_label_mark i ≡ true → IsDefinedAlike insts (label_line (word i 1))
  label_alike i h m =
      subst (IsDefinedAlike insts) (label_words bound i.words h.0 (equal_true (opcode i) op.LABEL m)) (same_alike insts i h.1)

  line_alike : (i : Instruction) → IsOnly bound insts i → IsDefinedAlike insts (line i)
  line_alike i h = by (opcode i == op.BRANCH_CONDITIONAL) refl (line_fine bound i h.0)
    where
      by : (b : Bool) → (opcode i == op.BRANCH_CONDITIONAL) ≡ b
          → IsUnbroken bound (cond b (instruction op.BRANCH_CONDITIONAL (take 3 (drop 1 i.words))) i.words)
          → IsDefinedAlike insts (cond b (instruction op.BRANCH_CONDITIONAL (take 3 (drop 1 i.words))) i.words)
      by true e u =
          nothing_alike bound op.BRANCH_CONDITIONAL insts (instruction op.BRANCH_CONDITIONAL (take 3 (drop 1 i.words))) low u
          (opcode_spelled op.BRANCH_CONDITIONAL (take 3 (drop 1 i.words)) (omega arith)) split_result
      by false e u = same_alike insts i h.1

  renamed_alike : (i : Instruction) → IsOnly bound insts i → opcode i ≡ op.PHI → IsDefinedAlike insts (renamed stays i)
  renamed_alike i h e =
      let p = is_phi bound i.words h.0 e in
      let rest = pair_words (map (λ pair. (pair.0, stays pair.1)) (pairs (drop 3 i.words))) in
      let front = front_kept i.words rest p.head p.type p.name p.rest p.same in
      let phi : opcode_in (renamed stays i) ≡ op.PHI = opcode_kept i.words (renamed stays i) op.PHI front.0 e in
      stays_alike bound op.PHI insts i (renamed stays i) low h.0 h.1 (record { phi = e; kind = inl phi; type = front.1; result_id = front.2 })
      (closed i h.0 e) phi phi_row

  copied_alike : (i : Instruction) → IsOnly bound insts i → opcode i ≡ op.PHI → 4 ≤ length i.words → IsDefinedAlike insts (copied i)
  copied_alike i h e some =
      stays_alike bound op.COPY_OBJECT insts i (copied i) low h.0 h.1 (record { phi = e; kind = inr refl; type = refl; result_id = refl })
      (copied_fine bound i h.0 e some) refl
      copy_row

  made_alike : AreMade (IsOnly bound insts) (IsDefinedAlike insts) stays
  made_alike = record {
    label = label_alike;
    line = line_alike;
    renamed = renamed_alike;
    copied = copied_alike;
    end = nothing_alike bound op.FUNCTION_END insts (instruction op.FUNCTION_END []) low (end_fine bound) refl end_result;
  }

-- ---- the normal form

firsts_of : (bound : ℕ) (insts is : List Instruction) → AllByRecursion (IsOnly bound insts) is → AllByRecursion (IsDefinedAlike insts) (words_of is)
firsts_of bound insts [] h = tt
firsts_of bound insts (i ∷ is) h = (same_alike insts i h.0.1, firsts_of bound insts is h.1)

units_of : (bound : ℕ) (insts is : List Instruction) → AllByRecursion (IsOnly bound insts) is → Are bound is
units_of bound insts [] h = tt
units_of bound insts (i ∷ is) h = (h.0.0, units_of bound insts is h.1)

-- a function in its normal form
function_alike : (bound : ℕ) (insts text : List Instruction) (stays : ℕ → ℕ) (tree : Function) → bound ≤ 2 ^ 32 → IsAdmitted (without_marks text)
    → SpellsFunction (without_marks text) stays tree → AllByRecursion (IsOnly bound insts) (without_marks text)
    → AllByRecursion (IsDefinedAlike insts) (normal_function text)
function_alike bound insts text stays tree low admitted spells are =
    let is : List Instruction = without_marks text in
    let given : ℕ → ℕ = stays_by (blocks_of is) in
    lines_made is stays tree admitted spells (IsOnly bound insts) (IsDefinedAlike insts) are
    (made_alike bound insts low given (λ i u e. renamed_fine bound given i (stays_in bound text stays tree admitted spells (units_of bound insts is are)) u e))

-- the line that is found is one of these
found_alike : (insts : List Instruction) (id : ℕ) (ws : List (List ℕ)) (w : List ℕ) → AllByRecursion (IsDefinedAlike insts) ws
    → find (defines_by id) ws ≡ Some w
    → (v : List ℕ) × (defining insts id ≡ Some v) × SameDefinition v w
found_alike insts id [] w h e = absurd (cc e)
found_alike insts id (x ∷ ws) w h e = by (defines_by id x) refl e (found_alike insts id ws w h.1)
  where
    by : (b : Bool) → defines_by id x ≡ b → cond b (Some x) (find (defines_by id) ws) ≡ Some w
        → (find (defines_by id) ws ≡ Some w → (v : List ℕ) × (defining insts id ≡ Some v) × SameDefinition v w)
        → (v : List ℕ) × (defining insts id ≡ Some v) × SameDefinition v w
    by true d e more =
        let same : x ≡ w = cc e in
        let here = h.0 id d in
        (here.0, here.1, subst (SameDefinition here.0) same here.2)
    by false d e more = more e

pub instructions_of : (bound : ℕ) (is : List Instruction) → bound ≤ 2 ^ 32 → Are bound is → AllByRecursion (λ i. IsInstruction i.words (roles i)) is
instructions_of bound [] low h = tt
instructions_of bound (i ∷ is) low h = (is_instruction bound i low h.0, instructions_of bound is low h.1)

pub low_enough : (n : ℕ) → n ≤ 4194303 → n ≤ 2 ^ 32
low_enough n h = omega arith

module _ (words : List ℕ) (bodies : List Body) (whole : IsWhole words bodies) (once : DefinesOnce (code_of words).insts) where
  abbrev insts : List Instruction
  insts = (code_of words).insts

  abbrev bound : ℕ
  bound = slice_index words 3

  read : IsRead words
  read = is_read words whole.decoded

  low : bound ≤ 2 ^ 32
  low = low_enough bound read.low

  pub firsts : AllByRecursion (IsOnly bound insts) insts
  firsts = all_first bound insts [] insts low once refl read.are

  each_alike : (j : ℕ) → j < count_by is_function insts → AllByRecursion (IsDefinedAlike insts) (normal_function (function_insts (0 + j) insts))
  each_alike j lt =
      let t = tree words bodies whole j lt in
      let s = t.1.parsed.spelled in
      subst (λ n. AllByRecursion (IsDefinedAlike insts) (normal_function (function_insts n insts))) (none_more j)
      (function_alike bound insts (function_insts j insts) s.stays (body_of t.0) low s.admitted s.spells (all_of_function (IsOnly bound insts) insts j firsts))
    where
      none_more : (n : ℕ) → n ≡ 0 + n
      none_more n = omega arith

  lines_alike : AllByRecursion (IsDefinedAlike insts) (norm_lines insts)
  lines_alike =
      all_both (IsDefinedAlike insts) (words_of (staying insts)) (function_lines insts)
      (firsts_of bound insts (staying insts) (all_filter (IsOnly bound insts) (stays_outside insts) (outside insts)
      (all_outside (IsOnly bound insts) insts firsts)))
      (functions_have (IsDefinedAlike insts) (λ k. normal_function (function_insts k insts)) 0 (count_by is_function insts) each_alike)

  pub defined_alike : (after : List Instruction) → words_of after ≡ norm_lines insts → (id : ℕ) (w : List ℕ) → defining after id ≡ Some w
      → (v : List ℕ) × (defining insts id ≡ Some v) × SameDefinition v w
  defined_alike after same id w e =
      found_alike insts id (norm_lines insts) w lines_alike (ap (find (defines_by id)) (sym same) ∙ sym (found_by id after) ∙ e)

-- ---- the laws

pub norm_defines_outside : NormDefinesOutside
norm_defines_outside words bodies norm whole is id h =
    let insts : List Instruction = (code_of words).insts in
    let read = is_read words whole.decoded in
    defined_outside insts id (function_lines insts) norm.insts
    (instructions_of (slice_index words 3) insts (low_enough (slice_index words 3) read.low) read.are) h is.lines

pub norm_defines_alike : NormDefinesAlike
norm_defines_alike words bodies norm whole is once id w e = defined_alike words bodies whole once norm.insts is.lines id w e
