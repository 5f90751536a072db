-- The OpPhi in front of a block of a function, by their places in the module.
use Rattle.std.proofs.Common.{◌≡◌, ℕ, ◌+◌, ◌<◌, inl, inr, Bool, true, false, cond, not, ◌==◌, ◌&&◌, ◌||◌, List, [], ◌∷◌, ◌++◌, map}
use Rattle.std.proofs.Common.{Some, refl, sym, ap, subst, ◌∙◌, drop, take, length, arith}
use Rattle.std.specs.Prelude.{slice_get, count_by}
use Rattle.std.specs.List.{AllByRecursion, list_any}
use Rattle.spv_opcodes.specs.declared.op.TheConstants as op
use Rattle.spv_module.specs.Code.{is_function, is_line}
use Rattle.spv_module.specs.Instruction.{Instruction, opcode}
use Rattle.spv_module.specs.Layout.{is_terminator}
use Rattle.spv_body_rules.specs.Broken.{is_of_functions}
use Rattle.spv_blocks.specs.Cutting.{function_insts, is_label_mark, rest_of_function, word}
use Rattle.spv_walk.proofs.Unique.{equal_true, true_equal}
use Rattle.spv_bodies.specs.Listing.{instruction}
use Rattle.spv_normal.specs.Lines.{behind_label, line, up_to_terminator, without_marks}
use Rattle.spv_spelling.specs.Text.{is_phi, phis, text}
use Rattle.spv_texts.proofs.Marks.{line_is_no_function, line_is_no_label}
use Rattle.spv_availability.specs.Places.{block_of, function_of, last_label}
use Rattle.spv_trees.specs.Standing.{OneOf}
use Rattle.spv_standing.proofs.Fronts.{line_opcode}
use Rattle.spv_standing.proofs.Saying.{ends_block}
use Rattle.spv_admitted.proofs.Lists.{append_push, at_front, take_front, take_with}
use Rattle.spv_admitted.proofs.Functions.{FunctionAt, behind_function, count_begun, count_pushed, function_at, function_is_no_label}
use Rattle.spv_admitted.proofs.Functions.{function_is_no_line, none_begins, rest_again, some_counted}

-- ---- single instructions

pub marks_line : (i : Instruction) (is : List Instruction) → is_line i ≡ true → without_marks (i ∷ is) ≡ without_marks is
marks_line i is h = ap (λ (b : Bool). cond (not b) (i ∷ without_marks is) (without_marks is)) h

pub marks_plain : (i : Instruction) (is : List Instruction) → is_line i ≡ false → without_marks (i ∷ is) ≡ i ∷ without_marks is
marks_plain i is h = ap (λ (b : Bool). cond (not b) (i ∷ without_marks is) (without_marks is)) h

-- in front of the lines of a block
abbrev pub front : List Instruction → List (List ℕ)
front is = phis (map line (up_to_terminator is))

pub front_phi : (i : Instruction) (is : List Instruction) → opcode i ≡ op.PHI → front (i ∷ is) ≡ i.words ∷ front is
front_phi i is e =
    let lines : List (List ℕ) = map line (up_to_terminator is) in
    ap (λ o. phis (map line (cond (ends_block o) (i ∷ []) (i ∷ up_to_terminator is)))) e
    ∙ ap (λ o. phis (cond (o == op.BRANCH_CONDITIONAL) (instruction op.BRANCH_CONDITIONAL (take 3 (drop 1 i.words))) i.words ∷ lines)) e
    ∙ ap (λ b. cond b (i.words ∷ phis lines) []) (true_equal (opcode i) op.PHI e)

front_other_by : (i : Instruction) (is : List Instruction) (b : Bool) → is_phi (line i) ≡ false
    → phis (map line (cond b (i ∷ []) (i ∷ up_to_terminator is))) ≡ []
front_other_by i is true h = ap (λ b. cond b (line i ∷ []) []) h
front_other_by i is false h = ap (λ b. cond b (line i ∷ front is) []) h

pub front_other : (i : Instruction) (is : List Instruction) → (opcode i == op.PHI) ≡ false → front (i ∷ is) ≡ []
front_other i is e = front_other_by i is (is_terminator i) (ap (λ o. o == op.PHI) (line_opcode i) ∙ e)

-- the label of the last block that begins
label_pushed : (l : ℕ) (before : List Instruction) (i : Instruction)
    → last_label l (before ++ i ∷ []) ≡ cond (is_label_mark i) (word i 1) (last_label l before)
label_pushed l [] i = refl
label_pushed l (x ∷ before) i = label_pushed (cond (is_label_mark x) (word x 1) l) before i

label_stays : (before : List Instruction) (i : Instruction) → is_label_mark i ≡ false → last_label 0 (before ++ i ∷ []) ≡ last_label 0 before
label_stays before i h = label_pushed 0 before i ∙ ap (λ b. cond b (word i 1) (last_label 0 before)) h

label_begins : (before : List Instruction) (i : Instruction) → is_label_mark i ≡ true → last_label 0 (before ++ i ∷ []) ≡ word i 1
label_begins before i h = label_pushed 0 before i ∙ ap (λ b. cond b (word i 1) (last_label 0 before)) h

phi_is_no_function : (i : Instruction) → opcode i ≡ op.PHI → is_function i ≡ false
phi_is_no_function i e = ap (λ o. o == op.FUNCTION) e

phi_is_no_label : (i : Instruction) → opcode i ≡ op.PHI → is_label_mark i ≡ false
phi_is_no_label i e = ap (λ o. o == op.LABEL) e

pub phi_is_no_line : (i : Instruction) → opcode i ≡ op.PHI → is_line i ≡ false
phi_is_no_line i e = ap (λ o. o == op.LINE || o == op.NO_LINE) e

-- ---- where one stands

-- an OpPhi of these words stands in the function that is numbered from 0, in the block with a label
pub record StandsIn (insts : List Instruction) (number label : ℕ) (words : List ℕ) : Type 0 where
  pub at : ℕ
  pub inst : Instruction
  pub there : slice_get insts at ≡ Some inst
  pub same : inst.words ≡ words
  pub is_phi : opcode inst ≡ op.PHI
  pub function : function_of insts at ≡ number + 1
  pub block : block_of insts at ≡ label
  pub inside : is_of_functions insts at inst ≡ true

pub more_than_none : (n k : ℕ) → n ≡ k + 1 → 0 < n
more_than_none n k e = omega (arith, e)

stands_here : (insts : List Instruction) (number label : ℕ) (before : List Instruction) (i : Instruction) (after : List Instruction)
    → insts ≡ before ++ i ∷ after
    → opcode i ≡ op.PHI → count_by is_function before ≡ number + 1 → last_label 0 before ≡ label → StandsIn insts number label i.words
stands_here insts number label before i after e phi count last = record {
  at = length before;
  inst = i;
  there = ap (λ is. slice_get is (length before)) e ∙ at_front before i after;
  same = refl;
  is_phi = phi;
  function =
      ap (λ is. count_by is_function (take (length before + 1) is)) e ∙ ap (count_by is_function) (take_with before i after)
      ∙ count_pushed before i (phi_is_no_function i phi) ∙ count;
  block =
      ap (λ is. last_label 0 (take (length before + 1) is)) e ∙ ap (last_label 0) (take_with before i after)
      ∙ label_stays before i (phi_is_no_label i phi) ∙ last;
  inside =
      ap (λ is. (list_any is_function (take (length before) is) || is_function i) && not (is_line i)) e
      ∙ ap (λ is. (list_any is_function is || is_function i) && not (is_line i)) (take_front before (i ∷ after))
      ∙ ap (λ b. (b || is_function i) && not (is_line i)) (some_counted before (more_than_none (count_by is_function before) number count))
      ∙ ap not (phi_is_no_line i phi);
}

next_whole : (insts before : List Instruction) (i : Instruction) (is after : List Instruction) → insts ≡ before ++ ((i ∷ is) ++ after)
    → insts ≡ (before ++ i ∷ []) ++ (is ++ after)
next_whole insts before i is after e = e ∙ sym (append_push before i (is ++ after))

-- ---- those of a block

module _ (insts : List Instruction) (number label : ℕ) where
  -- what stands before some instructions of the block
  record InBlock (before is after : List Instruction) : Type 0 where
    whole : insts ≡ before ++ (is ++ after)
    count : count_by is_function before ≡ number + 1
    last : last_label 0 before ≡ label

  in_block_next : (before : List Instruction) (i : Instruction) (is after : List Instruction) → is_function i ≡ false → is_label_mark i ≡ false
      → InBlock before (i ∷ is) after → InBlock (before ++ i ∷ []) is after
  in_block_next before i is after f l h = record {
    whole = next_whole insts before i is after h.whole;
    count = count_pushed before i f ∙ h.count;
    last = label_stays before i l ∙ h.last;
  }

  front_step : (before : List Instruction) (i : Instruction) (is after : List Instruction) (words : List ℕ) → InBlock before (i ∷ is) after
      → (mark phi : Bool) → is_line i ≡ mark
      → (opcode i == op.PHI) ≡ phi → (InBlock (before ++ i ∷ []) is after → OneOf words (front (without_marks is)) → StandsIn insts number label words)
      → OneOf words (front (without_marks (i ∷ is))) → StandsIn insts number label words
  front_step before i is after words h true phi m p later o =
      later (in_block_next before i is after (line_is_no_function i m) (line_is_no_label i m) h) (subst (λ x. OneOf words (front x)) (marks_line i is m) o)
  front_step before i is after words h false true m p later o =
      let e : opcode i ≡ op.PHI = equal_true (opcode i) op.PHI p in
      elim (subst (λ x. OneOf words x) (ap front (marks_plain i is m) ∙ front_phi i (without_marks is) e) o) [
        | inl same ↦ subst (StandsIn insts number label) (sym same) (stands_here insts number label before i (is ++ after) h.whole e h.count h.last)
        | inr g ↦ later (in_block_next before i is after (phi_is_no_function i e) (phi_is_no_label i e) h) g
      ]
  front_step before i is after words h false false m p later o =
      absurd (subst (λ x. OneOf words x) (ap front (marks_plain i is m) ∙ front_other i (without_marks is) p) o)

  -- by induction on what stands behind the label
  front_stands : (before is after : List Instruction) → InBlock before is after → (words : List ℕ) → OneOf words (front (without_marks is))
      → StandsIn insts number label words
  front_stands before [] after h words o = absurd o
  front_stands before (i ∷ is) after h words o =
      front_step before i is after words h (is_line i) (opcode i == op.PHI) refl refl (λ g p. front_stands (before ++ i ∷ []) is after g words p) o

  -- ---- those of a function

  record InFunction (before is after : List Instruction) : Type 0 where
    whole : insts ≡ before ++ (is ++ after)
    count : count_by is_function before ≡ number + 1
    none : AllByRecursion (λ i. is_function i ≡ false) is

  in_function_next : (before : List Instruction) (i : Instruction) (is after : List Instruction) → InFunction before (i ∷ is) after
      → InFunction (before ++ i ∷ []) is after
  in_function_next before i is after h = record {
    whole = next_whole insts before i is after h.whole;
    count = count_pushed before i h.none.0 ∙ h.count;
    none = h.none.1;
  }

  begins_block : (before : List Instruction) (i : Instruction) (is after : List Instruction) → is_label_mark i ≡ true → word i 1 ≡ label
      → InFunction before (i ∷ is) after
      → InBlock (before ++ i ∷ []) is after
  begins_block before i is after m e h = record {
    whole = next_whole insts before i is after h.whole;
    count = count_pushed before i h.none.0 ∙ h.count;
    last = label_begins before i m ∙ e;
  }

  abbrev behind : List Instruction → List Instruction
  behind is = behind_label (without_marks is) label

  behind_on : (i : Instruction) (is : List Instruction) → is_line i ≡ false → (mark here : Bool) → is_label_mark i ≡ mark → (word i 1 == label) ≡ here
      → behind (i ∷ is) ≡ cond (cond mark here false) (without_marks is) (behind is)
  behind_on i is m mark here e g =
      ap (λ x. behind_label x label) (marks_plain i is m)
      ∙ ap (λ b. cond (cond b (word i 1 == label) false) (without_marks is) (behind is)) e
      ∙ ap (λ b. cond (cond mark b false) (without_marks is) (behind is)) g

  block_step : (before : List Instruction) (i : Instruction) (is after : List Instruction) (words : List ℕ) → InFunction before (i ∷ is) after
      → (line mark here : Bool) → is_line i ≡ line
      → is_label_mark i ≡ mark → (word i 1 == label) ≡ here → (InFunction (before ++ i ∷ []) is after → OneOf words (front (behind is))
      → StandsIn insts number label words)
      → OneOf words (front (behind (i ∷ is))) → StandsIn insts number label words
  block_step before i is after words h true mark here m e g later o =
      later (in_function_next before i is after h) (subst (λ x. OneOf words (front (behind_label x label))) (marks_line i is m) o)
  block_step before i is after words h false true true m e g later o =
      front_stands (before ++ i ∷ []) is after (begins_block before i is after e (equal_true (word i 1) label g) h) words
      (subst (λ x. OneOf words (front x)) (behind_on i is m true true e g) o)
  block_step before i is after words h false true false m e g later o =
      later (in_function_next before i is after h) (subst (λ x. OneOf words (front x)) (behind_on i is m true false e g) o)
  block_step before i is after words h false false here m e g later o =
      later (in_function_next before i is after h) (subst (λ x. OneOf words (front x)) (behind_on i is m false here e g) o)

  -- by induction on what stands behind the OpFunction
  block_stands : (before is after : List Instruction) → InFunction before is after → (words : List ℕ) → OneOf words (front (behind is))
      → StandsIn insts number label words
  block_stands before [] after h words o = absurd o
  block_stands before (i ∷ is) after h words o =
      block_step before i is after words h (is_line i) (is_label_mark i) (word i 1 == label) refl refl refl
      (λ g p. block_stands (before ++ i ∷ []) is after g words p) o

  -- the lines of a block of the function are those behind its OpFunction
  text_behind : (f : FunctionAt insts number)
      → text (without_marks (function_insts number insts)) label ≡ map line (up_to_terminator (behind (rest_of_function f.rest)))
  text_behind f =
      let i : Instruction = f.function in
      let is : List Instruction = rest_of_function f.rest in
      ap (λ x. text (without_marks x) label) f.same
      ∙ ap (λ x. text x label) (marks_plain i is (function_is_no_line i f.begins))
      ∙ ap (λ b. map line (up_to_terminator (cond (cond b (word i 1 == label) false) (without_marks is) (behind is)))) (function_is_no_label i f.begins)

  in_function : (f : FunctionAt insts number) → InFunction (f.before ++ f.function ∷ []) (rest_of_function f.rest) (behind_function f.rest)
  in_function f = record {
    whole =
        f.whole ∙ ap (λ x. f.before ++ f.function ∷ x) (sym (rest_again f.rest))
        ∙ sym (append_push f.before f.function (rest_of_function f.rest ++ behind_function f.rest));
    count = count_begun f.before f.function f.begins ∙ ap (λ n. n + 1) f.count;
    none = none_begins f.rest;
  }

  -- each OpPhi in front of a block of a function stands in the module
  pub phi_stands : number < count_by is_function insts → (words : List ℕ) → OneOf words (phis (text (without_marks (function_insts number insts)) label))
      → StandsIn insts number label words
  phi_stands within words o =
      let f = function_at insts number within in
      block_stands (f.before ++ f.function ∷ []) (rest_of_function f.rest) (behind_function f.rest) (in_function f) words
      (subst (λ x. OneOf words (phis x)) (text_behind f) o)
