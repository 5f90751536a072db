-- Where the functions of a module begin, and in which function an instruction stands.
use Rattle.std.proofs.Common.{◌≡◌, ℕ, zero, suc, ◌+◌, ◌<◌, ◌≤◌, Bool, true, false, cond, not, ◌||◌, List, [], ◌∷◌, ◌++◌, length, take, Some, refl, sym, ap, subst, ◌∙◌, append_assoc, arith}
use Rattle.std.specs.List.{count_by, list_any, slice_get}
use Rattle.std.proofs.lemmas.List.{take-take}
use Rattle.std.proofs.lemmas.List.Folds.{list_any-append}
use Rattle.std.proofs.lemmas.List.Sums.{sum_by-cons, sum_by-take-le}
use Rattle.spv_module.specs.Code.{is_function, is_line}
use Rattle.spv_module.specs.Instruction.{Instruction}
use Rattle.spv_blocks.specs.Cutting.{block_of, blocks_of, is_label_mark, starts, starts_from}
use Rattle.spv_blocks.proofs.Slices.{take-at}
use Rattle.spv_walk.proofs.Unique.{both_hold, left_holds, not_false, right_holds}
use Rattle.spv_normal.specs.Lines.{without_marks}
use Rattle.spv_spelling.specs.Whole.{IsText}
use Rattle.spv_texts.proofs.Marks.{blocks_without_marks}
use Rattle.spv_body_rules.specs.Broken.{is_of_functions}
use Rattle.spv_availability.specs.Places.{function_of}
use Rattle.spv_check.specs.Parts.{BeginsAt}

-- ---- counting functions

abbrev counted : List Instruction → ℕ
counted is = count_by is_function is

counted_cons : (i : Instruction) (is : List Instruction) → counted (i ∷ is) ≡ cond (is_function i) 1 0 + counted is
counted_cons i is = sum_by-cons (λ (x : Instruction). cond (is_function x) 1 0) i is

-- fewer instructions have no more functions
pub no_more : (insts : List Instruction) (m n : ℕ) → m ≤ n → count_by is_function (take m insts) ≤ count_by is_function (take n insts)
no_more insts m n h =
    subst (λ (is : List Instruction). counted is ≤ counted (take n insts)) (take-take m n insts h)
    (sum_by-take-le (λ (x : Instruction). cond (is_function x) 1 0) (take n insts) m)

pub at_most : (insts : List Instruction) (k : ℕ) → function_of insts k ≤ count_by is_function insts
at_most insts k = sum_by-take-le (λ (x : Instruction). cond (is_function x) 1 0) insts (k + 1)

-- ---- where a function begins

-- the function numbered f of some instructions, of which the first has the number n, begins with the instruction numbered first
record IsStart (is : List Instruction) (n f first : ℕ) : Type 0 where
  before : ℕ
  place : first ≡ n + before
  none : counted (take before is) ≡ f
  begun : counted (take (suc before) is) ≡ suc f

start_here : (i : Instruction) (is : List Instruction) (n : ℕ) → is_function i ≡ true → IsStart (i ∷ is) n 0 n
start_here i is n e = record {
  before = 0;
  place = omega arith;
  none = refl;
  begun = counted_cons i [] ∙ ap (λ (b : Bool). cond b 1 0 + 0) e;
}

start_later : (i : Instruction) (is : List Instruction) (n f first k : ℕ) → cond (is_function i) 1 0 ≡ k → IsStart is (n + 1) f first
    → IsStart (i ∷ is) n (k + f) first
start_later i is n f first k e s =
    let place = s.place in
    let one : k + suc f ≡ suc (k + f) = omega arith in
    record {
      before = suc s.before;
      place = omega arith;
      none = counted_cons i (take s.before is) ∙ ap (λ m. m + counted (take s.before is)) e ∙ ap (λ m. k + m) s.none;
      begun = counted_cons i (take (suc s.before) is) ∙ ap (λ m. m + counted (take (suc s.before) is)) e ∙ ap (λ m. k + m) s.begun ∙ one;
    }

start_by : (i : Instruction) (is : List Instruction) (n first : ℕ) → ((f : ℕ) → slice_get (starts_from (n + 1) is) f ≡ Some first → IsStart is (n + 1) f first)
    → (b : Bool) → is_function i ≡ b → (f : ℕ) → slice_get (cond b (n ∷ starts_from (n + 1) is) (starts_from (n + 1) is)) f ≡ Some first
    → IsStart (i ∷ is) n f first
start_by i is n first later true e zero h = let same : n ≡ first = cc (h) in subst (IsStart (i ∷ is) n 0) same (start_here i is n e)
start_by i is n first later true e (suc f) h =
    let more : 1 + f ≡ suc f = omega arith in
    subst (λ m. IsStart (i ∷ is) n m first) more (start_later i is n f first 1 (ap (λ (b : Bool). cond b 1 0) e) (later f h))
start_by i is n first later false e f h =
    let same : 0 + f ≡ f = omega arith in
    subst (λ m. IsStart (i ∷ is) n m first) same (start_later i is n f first 0 (ap (λ (b : Bool). cond b 1 0) e) (later f h))

-- induction on the instructions
starts_are : (is : List Instruction) (n f first : ℕ) → slice_get (starts_from n is) f ≡ Some first → IsStart is n f first
starts_are [] n f first h = absurd (cc (h))
starts_are (i ∷ is) n f first h = start_by i is n first (λ g k. starts_are is (n + 1) g first k) (is_function i) refl f h

pub begins_at : (insts : List Instruction) (f first : ℕ) → slice_get (starts insts) f ≡ Some first → BeginsAt insts (f + 1) first
begins_at insts f first h =
    let s = starts_are insts 0 f first h in
    let place = s.place in
    let none = s.none in
    let begun = s.begun in
    record {
      before = λ k less. let fewer = no_more insts (k + 1) s.before (omega arith) in omega arith;
      from = λ k past. let fewer = no_more insts (suc s.before) (k + 1) (omega arith) in omega arith;
    }

-- ---- the instructions of functions

any_by : (b : Bool) (i : Instruction) (is : List Instruction) → is_function i ≡ b → 0 < counted (i ∷ is) → (0 < counted is → list_any is_function is ≡ true)
    → list_any is_function (i ∷ is) ≡ true
any_by true i is e some later = left_holds (is_function i) (list_any is_function is) e
any_by false i is e some later =
    let none : ◌≡◌ {A = ℕ} (cond (is_function i) 1 0) 0 = ap (λ (b : Bool). cond b 1 0) e in
    let all = counted_cons i is in
    right_holds (is_function i) (list_any is_function is) (later (omega arith))

any_counted : (is : List Instruction) → 0 < counted is → list_any is_function is ≡ true
any_counted [] some = absurd (omega arith)
any_counted (i ∷ is) some = any_by (is_function i) i is refl some (any_counted is)

or_none : (b : Bool) → (b || false) ≡ b
or_none true = refl
or_none false = refl

-- what stands in a function and is no line mark is one of functions
pub in_functions : (insts : List Instruction) (k : ℕ) (i : Instruction) → slice_get insts k ≡ Some i → 0 < function_of insts k → is_line i ≡ false
    → is_of_functions insts k i ≡ true
in_functions insts k i at inside line =
    let begun : (list_any is_function (take k insts) || is_function i) ≡ true =
    ap (λ (b : Bool). list_any is_function (take k insts) || b) (sym (or_none (is_function i)))
    ∙ sym (ap (list_any is_function) (take-at insts k i at) ∙ list_any-append is_function (take k insts) (i ∷ []))
    ∙ any_counted (take (k + 1) insts) inside in
    both_hold (list_any is_function (take k insts) || is_function i) (not (is_line i)) begun (not_false (is_line i) line)

-- ---- a function of the shape that the layout gives it has a block

blocks_by : (b : Bool) (x : Instruction) (is : List Instruction) → 0 < length (blocks_of is)
    → 0 < length (cond b (block_of x is ∷ blocks_of is) (blocks_of is))
blocks_by true x is some = omega arith
blocks_by false x is some = some

-- induction on what stands before the label
label_begins : (before : List Instruction) (label : Instruction) (behind : List Instruction) → is_label_mark label ≡ true
    → 0 < length (blocks_of (before ++ label ∷ behind))
label_begins [] label behind e =
    subst (λ (b : Bool). 0 < length (cond b (block_of label behind ∷ blocks_of behind) (blocks_of behind))) (sym e) (omega arith)
label_begins (x ∷ before) label behind e = blocks_by (is_label_mark x) x (before ++ label ∷ behind) (label_begins before label behind e)

pub text_has_blocks : (insts : List Instruction) → IsText (without_marks insts) → 0 < length (blocks_of insts)
text_has_blocks insts t =
    let parted = t.same ∙ ap (λ (z : List Instruction). t.function ∷ z) (append_assoc t.parameters (t.label ∷ t.blocks) (t.last ∷ [])) in
    subst (λ bs. 0 < length bs) (blocks_without_marks insts)
    (subst (λ (is : List Instruction). 0 < length (blocks_of is)) (sym parted)
    (label_begins (t.function ∷ t.parameters) t.label (t.blocks ++ t.last ∷ []) t.first))
