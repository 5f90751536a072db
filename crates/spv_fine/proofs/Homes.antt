-- Which instruction of its module defines an id that a line of a block defines, and where it stands.
use Rattle.std.proofs.Common.{◌≡◌, ◌⊎◌, inl, inr, ℕ, ◌+◌, ◌<◌, Bool, true, false, cond, ◌||◌, ◌==◌, List, [], ◌∷◌, ◌++◌, length, take, drop, slice_index, Option, Some, None, refl, sym, ap, subst, ◌∙◌, arith, append_assoc}
use Rattle.std.specs.List.{slice_get}
use Rattle.std.specs.Option.{option_map_or}
use Rattle.std.proofs.lemmas.List.{length-append}
use Rattle.std.proofs.lemmas.Option.{slice_get_within}
use Rattle.spv_opcodes.specs.declared.op.TheConstants as op
use Rattle.spv_grammar.specs.Roles.{is_defined_id}
use Rattle.spv_grammar.specs.Table.{row_of}
use Rattle.spv_module.specs.Code.{is_line}
use Rattle.spv_module.specs.Instruction.{Instruction, IsInstruction, opcode, roles, word_with}
use Rattle.spv_module.specs.Layout.{is_terminator}
use Rattle.spv_ids.specs.Ids.{definition, place_of}
use Rattle.spv_declarations.proofs.Parts.{defined-typed, first_typed, row_test}
use Rattle.spv_blocks.specs.Blocks.{block, has}
use Rattle.spv_blocks.specs.Cutting.{blocks_of, is_function_end, is_label_mark, word}
use Rattle.spv_walk.specs.Contexts.{Context}
use Rattle.spv_walk.specs.Walk.{Walk}
use Rattle.spv_walk.proofs.Unique.{equal_true, tells, truth_apart}
use Rattle.spv_bodies.specs.Listing.{instruction}
use Rattle.spv_normal.specs.Lines.{behind_label, block_insts, line, up_to_terminator}
use Rattle.spv_tree.specs.Sound.{is_step, opcode_in}
use Rattle.spv_normal_trees.proofs.Arranging.{walked}
use Rattle.spv_normal_trees.proofs.Texts.{IsClosed, NoneCloses, closed_block, opcode_spelled}
use Rattle.spv_trees.specs.Standing.{OneOf}
use Rattle.spv_structured.proofs.Lists.{has_one, map_from}
use Rattle.spv_spelling.specs.Clean.{no_pointers}
use Rattle.spv_spelling.specs.Text.{is_phi, text}
use Rattle.spv_spelling.specs.Whole.{IsAdmitted}
use Rattle.spv_texts.specs.Laws.{DefinesOnce}
use Rattle.spv_availability.specs.Availability.{is_everywhere}
use Rattle.spv_availability.specs.Places as places
use Rattle.spv_availability.specs.Places.{function_of, last_label}
use Rattle.spv_fine.specs.Fine.{as_instruction, defined_in}
use Rattle.spv_fine.specs.Laws.{IsDefinedIn}
use Rattle.spv_fine.proofs.Numbers.{in_function, insts, number}
use Rattle.spv_fine.proofs.Places.{defined_at, get_behind, get_front, take_behind, take_front}

-- ---- parts of lists

pub record Parts {X : Type 0} (xs : List X) (x : X) : Type 0 where
  pub before : List X
  pub after : List X
  pub same : xs ≡ before ++ x ∷ after

one_parts : {X : Type 0} (x : X) (xs : List X) → OneOf x xs → Parts xs x
one_parts x [] o = absurd o
one_parts x (y ∷ ys) (inl e) = record { before = []; after = ys; same = ap (λ z. z ∷ ys) (sym e) }
one_parts x (y ∷ ys) (inr o) = let r = one_parts x ys o in record { before = y ∷ r.before; after = r.after; same = ap (λ z. y ∷ z) r.same }

one_split : {X : Type 0} (x y : X) (xs : List X) → OneOf x (xs ++ y ∷ []) → OneOf x xs ⊎ (x ≡ y)
one_split x y [] (inl e) = inr e
one_split x y [] (inr o) = absurd o
one_split x y (z ∷ xs) (inl e) = inl (inl e)
one_split x y (z ∷ xs) (inr o) = elim (one_split x y xs o) [ inl h ↦ inl (inr h) | inr h ↦ inr h ]

-- no label stands among them
abbrev pub NoLabels : List Instruction → Type 0
NoLabels [] = Unit {0}
NoLabels (i ∷ is) = (is_label_mark i ≡ false) × NoLabels is

no_label : (a b c : Bool) → (a || b || c) ≡ false → b ≡ false
no_label true b c h = absurd (cc (h))
no_label false false c h = refl
no_label false true c h = absurd (cc (h))

none_labels : (is : List Instruction) → NoneCloses is → NoLabels is
none_labels [] h = tt
none_labels (i ∷ is) h = (no_label (is_terminator i) (is_label_mark i) (is_function_end i) h.0, none_labels is h.1)

labels_front : (xs ys : List Instruction) → NoLabels (xs ++ ys) → NoLabels xs
labels_front [] ys h = tt
labels_front (x ∷ xs) ys h = (h.0, labels_front xs ys h.1)

labels_back : (xs ys : List Instruction) → NoLabels (xs ++ ys) → NoLabels ys
labels_back [] ys h = h
labels_back (x ∷ xs) ys h = labels_back xs ys h.1

last_stays : (l : ℕ) (is : List Instruction) → NoLabels is → last_label l is ≡ l
last_stays l [] h = refl
last_stays l (i ∷ is) h = ap (λ b. last_label (cond b (word i 1) l) is) h.0 ∙ last_stays l is h.1

last_append : (l : ℕ) (xs ys : List Instruction) → last_label l (xs ++ ys) ≡ last_label (last_label l xs) ys
last_append l [] ys = refl
last_append l (x ∷ xs) ys = last_append (cond (is_label_mark x) (word x 1) l) xs ys

-- ---- a line of a block

-- the instructions behind the first label l, and the label
pub record Behind (is : List Instruction) (l : ℕ) : Type 0 where
  pub front : List Instruction
  pub label : Instruction
  pub same : is ≡ front ++ label ∷ behind_label is l
  pub mark : is_label_mark label ≡ true
  pub is_it : word label 1 ≡ l

behind_further : (i : Instruction) (is : List Instruction) (l : ℕ) (rest : List Instruction) → rest ≡ behind_label is l
    → (behind_label is l ≡ []) ⊎ Behind is l
    → (rest ≡ []) ⊎ ((front : List Instruction) × (label : Instruction) × (i ∷ is ≡ front ++ label ∷ rest) × (is_label_mark label ≡ true) × (word label 1 ≡ l))
behind_further i is l rest e (inl none) = inl (e ∙ none)
behind_further i is l rest e (inr r) = inr (i ∷ r.front, r.label, ap (λ z. i ∷ z) (r.same ∙ ap (λ z. r.front ++ r.label ∷ z) (sym e)), r.mark, r.is_it)

behind_by : (i : Instruction) (is : List Instruction) (l : ℕ) (b : Bool) → cond (is_label_mark i) (word i 1 == l) false ≡ b
    → (behind_label is l ≡ []) ⊎ Behind is l
    → (behind_label (i ∷ is) l ≡ []) ⊎ Behind (i ∷ is) l
behind_by i is l true e more =
    let both : (is_label_mark i ≡ true) × (word i 1 ≡ l) = split (is_label_mark i) e in
    let rest : behind_label (i ∷ is) l ≡ is = ap (λ b. cond b is (behind_label is l)) e in
    inr (record { front = []; label = i; same = ap (λ z. i ∷ z) (sym rest); mark = both.0; is_it = both.1 })
  where
    split : (m : Bool) → cond m (word i 1 == l) false ≡ true → (m ≡ true) × (word i 1 ≡ l)
    split true h = (refl, equal_true (word i 1) l h)
    split false h = absurd (cc (h))
behind_by i is l false e more =
    let rest : behind_label (i ∷ is) l ≡ behind_label is l = ap (λ b. cond b is (behind_label is l)) e in
    elim (behind_further i is l (behind_label (i ∷ is) l) rest more) [
      | inl none ↦ inl none
      | inr r ↦ inr (record { front = r.0; label = r.1; same = r.2; mark = r.3; is_it = r.4 })
    ]

pub behind_cut : (is : List Instruction) (l : ℕ) → (behind_label is l ≡ []) ⊎ Behind is l
behind_cut [] l = inl refl
behind_cut (i ∷ is) l = behind_by i is l (cond (is_label_mark i) (word i 1 == l) false) refl (behind_cut is l)

up_to_front : (ys : List Instruction) → (more : List Instruction) × (ys ≡ up_to_terminator ys ++ more)
up_to_front [] = ([], refl)
up_to_front (y ∷ ys) = by (is_terminator y) (up_to_front ys) where
  by : (b : Bool) → (more : List Instruction) × (ys ≡ up_to_terminator ys ++ more)
      → (more : List Instruction) × (y ∷ ys ≡ cond b (y ∷ []) (y ∷ up_to_terminator ys) ++ more)
  by true r = (ys, refl)
  by false r = (r.0, ap (λ z. y ∷ z) r.1)

-- where a line of the block l stands: behind its label, with no label between
pub record LineAt (is : List Instruction) (l : ℕ) (words : List ℕ) : Type 0 where
  pub front : List Instruction
  pub label : Instruction
  pub between : List Instruction
  pub inst : Instruction
  pub after : List Instruction
  pub same : is ≡ (front ++ label ∷ between) ++ inst ∷ after
  pub mark : is_label_mark label ≡ true
  pub is_it : word label 1 ≡ l
  pub none : NoLabels between
  pub plain : is_label_mark inst ≡ false
  pub line_is : words ≡ line inst

module _ (again : List Instruction) (admitted : IsAdmitted again) where
  -- a terminator is no label
  ends_no_label : (i : Instruction) → is_terminator i ≡ true → is_label_mark i ≡ false
  ends_no_label i h = elim (tells (is_label_mark i)) [
    | inr e ↦ e
    | inl e ↦ truth_apart (is_terminator i) h (ap ends (equal_true (opcode i) op.LABEL e))
  ]
    where
      ends : ℕ → Bool
      ends o = o == op.BRANCH || o == op.BRANCH_CONDITIONAL || o == op.SWITCH || o == op.RETURN || o == op.RETURN_VALUE || o == op.UNREACHABLE

  pub text_line_at : (l : ℕ) (c : Context) (words : List ℕ) → Walk (blocks_of again) l c → OneOf words (text again l) → LineAt again l words
  text_line_at l c words w o =
      let k = walked no_pointers (blocks_of again) admitted.clean l c w in
      let closed : IsClosed (behind_label again l) = closed_block again l k.block_of k.at k.settled_there.ends in
      let m = map_from line (block_insts again l) words o in
      let among : OneOf m.from (closed.inner ++ closed.last ∷ []) = subst (OneOf m.from) closed.whole m.one in
      let p = one_parts m.from (closed.inner ++ closed.last ∷ []) among in
      let none : NoLabels (closed.inner ++ closed.last ∷ []) = labels_both closed.inner closed.last (none_labels closed.inner closed.none)
      (ends_no_label closed.last closed.terminates) in
      let parted : NoLabels (p.before ++ m.from ∷ p.after) = subst NoLabels p.same none in
      let more = up_to_front (behind_label again l) in
      elim (behind_cut again l) [
        | inl nothing ↦ absurd (no_text (closed.inner) closed.last (sym closed.whole ∙ ap up_to_terminator nothing))
        | inr r ↦ record {
          front = r.front;
          label = r.label;
          between = p.before;
          inst = m.from;
          after = p.after ++ more.0;
          same = r.same ∙ ap (λ z. r.front ++ r.label ∷ z)
              (more.1 ∙ ap (λ z. z ++ more.0) (closed.whole ∙ p.same) ∙ append_assoc p.before (m.from ∷ p.after) more.0)
              ∙ sym (append_assoc r.front (r.label ∷ p.before) (m.from ∷ (p.after ++ more.0)));
          mark = r.mark;
          is_it = r.is_it;
          none = labels_front p.before (m.from ∷ p.after) parted;
          plain = (labels_back p.before (m.from ∷ p.after) parted).0;
          line_is = m.same;
        }
      ]
    where
      labels_both : (xs : List Instruction) (x : Instruction) → NoLabels xs → is_label_mark x ≡ false → NoLabels (xs ++ x ∷ [])
      labels_both [] x h g = (g, tt)
      labels_both (y ∷ ys) x h g = (h.0, labels_both ys x h.1 g)

      no_text : (xs : List Instruction) (x : Instruction) → xs ++ x ∷ [] ≡ [] → ⊥
      no_text [] x e = cc (e)
      no_text (y ∷ ys) x e = cc (e)

-- ---- where an id is defined

-- the instruction that defines the id stands in the block l of the function
pub record Stands (insts : List Instruction) (function l id at : ℕ) : Type 0 where
  pub inst : Instruction
  pub is_at : place_of insts id ≡ Some at
  pub is : definition insts id ≡ Some inst
  pub inside : function_of insts at ≡ function
  pub block : places.block_of insts at ≡ l
  pub inner : (is_everywhere inst || (opcode inst == op.FUNCTION_PARAMETER)) ≡ false
  pub within : at < length insts

pub record IsHome (insts : List Instruction) (function l id : ℕ) : Type 0 where
  pub at : ℕ
  pub stands : Stands insts function l id at

-- it is no function, parameter or label
step_apart : (o p : ℕ) → is_step o ≡ true → is_step p ≡ false → (o == p) ≡ false
step_apart o p is other = elim (tells (o == p)) [
  | inl e ↦ truth_apart (is_step o) is (ap is_step (equal_true o p e) ∙ other)
  | inr e ↦ e
]

pub step_inner : (i : Instruction) → is_step (opcode i) ≡ true → (is_everywhere i || (opcode i == op.FUNCTION_PARAMETER)) ≡ false
unfolding row_of
step_inner i is =
    let x = step_apart (opcode i) op.FUNCTION is refl in
    let y = step_apart (opcode i) op.LABEL is refl in
    let z = step_apart (opcode i) op.FUNCTION_PARAMETER is refl in
    rw (x, y, z) refl

pub phi_inner : (i : Instruction) → opcode i ≡ op.PHI → (is_everywhere i || (opcode i == op.FUNCTION_PARAMETER)) ≡ false
phi_inner i e = ap (λ o. (o == op.FUNCTION || o == op.LABEL) || o == op.FUNCTION_PARAMETER) e

pub step_no_line : (i : Instruction) → is_step (opcode i) ≡ true → is_line i ≡ false
unfolding row_of
step_no_line i is =
    let x = step_apart (opcode i) op.LINE is refl in
    let y = step_apart (opcode i) op.NO_LINE is refl in
    rw (x, y) refl

pub step_no_label : (i : Instruction) → is_step (opcode i) ≡ true → is_label_mark i ≡ false
unfolding row_of
step_no_label i is = step_apart (opcode i) op.LABEL is refl

no_branch : (o : ℕ) → is_step o ≡ true → (o == op.BRANCH_CONDITIONAL) ≡ false
unfolding row_of
no_branch o is = step_apart o op.BRANCH_CONDITIONAL is refl

pub phi_no_line : (i : Instruction) → opcode i ≡ op.PHI → is_line i ≡ false
phi_no_line i e = ap (λ o. o == op.LINE || o == op.NO_LINE) e

-- what a line defines, its instruction does
pub has_defined : (words : List ℕ) (id : ℕ) → has (defined_in words) id ≡ true → word_with is_defined_id (as_instruction words) ≡ Some id
has_defined words id h = by (word_with is_defined_id (as_instruction words)) h where
  by : (o : Option ℕ) → has (option_map_or (λ x. x ∷ []) o []) id ≡ true → o ≡ Some id
  by None e = absurd (cc (e))
  by (Some x) e = ap Some (one_has x id e)
    where
      one_has : (x y : ℕ) → has (x ∷ []) y ≡ true → x ≡ y
      one_has x y e = elim (has_one (x ∷ []) y e) [ inl k ↦ sym k | inr k ↦ absurd k ]

pub phi_defines : (i : Instruction) → IsInstruction i.words (roles i) → opcode i ≡ op.PHI
    → word_with is_defined_id i ≡ Some (slice_index i.words 2)
unfolding row_of
phi_defines i whole e =
    defined-typed i whole (ap (λ o. row_test first_typed (row_of o)) e) ∙ ap Some (third i.words)
  where
    third : (ws : List ℕ) → slice_index (drop 1 ws) 1 ≡ slice_index ws 2
    third [] = refl
    third (x ∷ ws) = refl

-- an instruction whose line is no conditional branch has the words of its line
line_plain : (i : Instruction) → (opcode_in (line i) == op.BRANCH_CONDITIONAL) ≡ false → line i ≡ i.words
line_plain i h = by (opcode i == op.BRANCH_CONDITIONAL) h where
  by : (b : Bool) → (opcode_in (cond b (instruction op.BRANCH_CONDITIONAL (take 3 (drop 1 i.words))) i.words) == op.BRANCH_CONDITIONAL) ≡ false
      → cond b (instruction op.BRANCH_CONDITIONAL (take 3 (drop 1 i.words))) i.words ≡ i.words
  by true e =
      truth_apart (opcode_in (instruction op.BRANCH_CONDITIONAL (take 3 (drop 1 i.words))) == op.BRANCH_CONDITIONAL)
      (ap (λ o. o == op.BRANCH_CONDITIONAL) (opcode_spelled op.BRANCH_CONDITIONAL (take 3 (drop 1 i.words)) (omega arith))) e
  by false e = refl

last_found : (l : ℕ) (front : List Instruction) (label : Instruction) (between : List Instruction) (inst : Instruction) → is_label_mark label ≡ true
    → NoLabels between → is_label_mark inst ≡ false → last_label l ((front ++ label ∷ between) ++ inst ∷ []) ≡ word label 1
last_found l front label between inst mark none plain =
    last_append l (front ++ label ∷ between) (inst ∷ []) ∙ ap (λ b. cond b (word inst 1) (last_label l (front ++ label ∷ between))) plain
    ∙ last_append l front (label ∷ between) ∙ ap (λ b. last_label (cond b (word label 1) (last_label l front)) between) mark
    ∙ last_stays (word label 1) between none

module _ (before again after : List Instruction) (admitted : IsAdmitted again) (once : DefinesOnce (insts before again after admitted.text)) where
  abbrev module_insts : List Instruction
  module_insts = insts before again after admitted.text

  abbrev n : ℕ
  n = number before again after admitted.text

  -- an instruction that defines an id stands there
  pub stands_at : (k : ℕ) (i : Instruction) (l id : ℕ) → slice_get module_insts k ≡ Some i → is_line i ≡ false → word_with is_defined_id i ≡ Some id
      → function_of module_insts k ≡ n → places.block_of module_insts k ≡ l → (is_everywhere i || (opcode i == op.FUNCTION_PARAMETER)) ≡ false
      → Stands module_insts n l id k
  stands_at k i l id at plain is inside block inner =
      let d = defined_at module_insts once k i id at plain is in
      record { inst = i; is_at = d.0; is = d.1; inside = inside; block = block; inner = inner; within = slice_get_within module_insts k i at }

  line_home : (l id : ℕ) (words : List ℕ) → (x : LineAt again l words) → words ≡ x.inst.words → word_with is_defined_id x.inst ≡ Some id
      → is_line x.inst ≡ false
      → (is_everywhere x.inst || (opcode x.inst == op.FUNCTION_PARAMETER)) ≡ false → IsHome module_insts n l id
  line_home l id words x same is plain inner =
      let xs = x.front ++ x.label ∷ x.between in
      let j = length xs in
      let here : slice_get again j ≡ Some x.inst =
      ap (λ z. slice_get z j) x.same ∙ (let e : j ≡ length xs + 0 = omega arith in ap (slice_get (xs ++ x.inst ∷ x.after)) e)
      ∙ get_behind xs (x.inst ∷ x.after) 0 in
      let less : j < length again = (let e = ap length x.same in omega (arith, e, length-append xs (x.inst ∷ x.after))) in
      let there : slice_get module_insts (length before + j) ≡ Some x.inst = get_behind before (again ++ after) j ∙ get_front again after j x.inst here in
      let taken : take (length before + j + 1) module_insts ≡ before ++ (xs ++ x.inst ∷ []) =
      (let e : length before + j + 1 ≡ length before + (j + 1) = omega arith in ap (λ k. take k module_insts) e)
      ∙ take_behind before (again ++ after) (j + 1) ∙ ap (λ z. before ++ z)
      (take_front again after (j + 1) (omega arith) ∙ ap (take (j + 1)) x.same ∙ take_behind xs (x.inst ∷ x.after) 1) in
      let block : places.block_of module_insts (length before + j) ≡ l =
      ap (last_label 0) taken ∙ last_append 0 before (xs ++ x.inst ∷ [])
      ∙ last_found (last_label 0 before) x.front x.label x.between x.inst x.mark x.none x.plain ∙ x.is_it in
      record {
        at = length before + j;
        stands = stands_at (length before + j) x.inst l id there plain is (in_function before again after admitted.text j less) block inner;
      }

  whole_at : (l : ℕ) (words : List ℕ) → (x : LineAt again l words) → IsInstruction x.inst.words (roles x.inst)
  whole_at l words x =
      let xs = x.front ++ x.label ∷ x.between in
      admitted.each (length xs) x.inst
      (ap (λ z. slice_get z (length xs)) x.same
      ∙ (let e : length xs ≡ length xs + 0 = omega arith in ap (slice_get (xs ++ x.inst ∷ x.after)) e) ∙ get_behind xs (x.inst ∷ x.after) 0)

  -- a line of a block that defines an id is its home
  pub homes : (l id : ℕ) (c : Context) → Walk (blocks_of again) l c → IsDefinedIn again l id → IsHome module_insts n l id
  homes l id c w d = by d.defines
    where
      x : LineAt again l d.line
      x = text_line_at again admitted l c d.line w d.stands

      by : ((is_step (opcode_in d.line) ≡ true) × (has (defined_in d.line) id ≡ true)) ⊎ ((is_phi d.line ≡ true) × (slice_index d.line 2 ≡ id))
          → IsHome module_insts n l id
      by (inl h) =
          let same : d.line ≡ x.inst.words = x.line_is ∙ line_plain x.inst (ap (λ z. opcode_in z == op.BRANCH_CONDITIONAL) (sym x.line_is)
          ∙ no_branch (opcode_in d.line) h.0) in
          let step : is_step (opcode x.inst) ≡ true = ap (λ z. is_step (opcode_in z)) (sym same) ∙ h.0 in
          line_home l id d.line x same (subst (λ z. word_with is_defined_id (as_instruction z) ≡ Some id) same (has_defined d.line id h.1))
          (step_no_line x.inst step) (step_inner x.inst step)
      by (inr h) =
          let opcode_is : opcode_in d.line ≡ op.PHI = equal_true (opcode_in d.line) op.PHI h.0 in
          let same : d.line ≡ x.inst.words =
          x.line_is ∙ line_plain x.inst (ap (λ z. opcode_in z == op.BRANCH_CONDITIONAL) (sym x.line_is) ∙ ap (λ o. o == op.BRANCH_CONDITIONAL) opcode_is) in
          let phi : opcode x.inst ≡ op.PHI = ap opcode_in (sym same) ∙ opcode_is in
          line_home l id d.line x same (phi_defines x.inst (whole_at l d.line x) phi ∙ ap Some (ap (λ z. slice_index z 2) (sym same) ∙ h.1))
          (phi_no_line x.inst phi) (phi_inner x.inst phi)
