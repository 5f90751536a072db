-- Line marks stand between instructions and matter to none.
use Rattle.std.proofs.Common.{◌≡◌, ℕ, Bool, true, false, cond, not, ◌==◌, ◌||◌, List, [], ◌∷◌, ◌++◌, map, refl, sym, ap, ap₂, ◌∙◌, Option, Some, None, arith}
use Rattle.std.specs.List.{filter, find}
use Rattle.std.proofs.lemmas.Bool.Decides.{nat_tests}
use Rattle.spv_opcodes.specs.declared.op.TheConstants as op
use Rattle.spv_module.specs.Code.{is_line, is_function}
use Rattle.spv_module.specs.Instruction.{Instruction, opcode}
use Rattle.spv_module.specs.Layout.{is_terminator}
use Rattle.spv_blocks.specs.Blocks.{Block}
use Rattle.spv_blocks.specs.Cutting.{is_label_mark, is_function_end, closes, before_close, block_of, blocks_of, body_of, end_of, place_of, ins, word, rest_of_function}
use Rattle.spv_normal.specs.Lines.{without_marks}

-- a line mark is nothing else

pub line_is_no_label : (i : Instruction) → is_line i ≡ true → is_label_mark i ≡ false
line_is_no_label i h = grind (arith, nat_tests)

pub line_is_no_function : (i : Instruction) → is_line i ≡ true → is_function i ≡ false
line_is_no_function i h = grind (arith, nat_tests)

pub line_is_no_function_end : (i : Instruction) → is_line i ≡ true → is_function_end i ≡ false
line_is_no_function_end i h = grind (arith, nat_tests)

pub line_closes_nothing : (i : Instruction) → is_line i ≡ true → closes i ≡ false
line_closes_nothing i h = grind (arith, nat_tests)

-- ---- blocks, by induction on the instructions and by whether one is a line mark

abbrev kept : (mark : Bool) → Instruction → List Instruction → List Instruction
kept mark i is = cond (not mark) (i ∷ is) is

cond_same : {A : Type 0} (b : Bool) (x y : A) → x ≡ y → cond b x y ≡ y
cond_same true x y e = e
cond_same false x y e = refl

before_close_kept : (mark : Bool) (i : Instruction) (is : List Instruction) → (mark ≡ true → closes i ≡ false) →
    before_close (without_marks is) ≡ without_marks (before_close is) → is_line i ≡ mark → before_close (kept mark i (without_marks is)) ≡ without_marks (cond (closes i) [] (i ∷ before_close is))
before_close_kept true i is c e l =
    e ∙ sym (ap (λ (b : Bool). without_marks (cond b [] (i ∷ before_close is))) (c refl) ∙ ap (λ (b : Bool). cond (not b) (i ∷ without_marks (before_close is)) (without_marks (before_close is))) l)
before_close_kept false i is c e l = closing (closes i) e l where
  closing : (b : Bool) → before_close (without_marks is) ≡ without_marks (before_close is) → is_line i ≡ false → cond b [] (i ∷ before_close (without_marks is)) ≡ without_marks (cond b [] (i ∷ before_close is))
  closing true e l = refl
  closing false e l = ap (λ r. i ∷ r) e ∙ sym (ap (λ (b : Bool). cond (not b) (i ∷ without_marks (before_close is)) (without_marks (before_close is))) l)

before_close_marks : (is : List Instruction) → before_close (without_marks is) ≡ without_marks (before_close is)
before_close_marks [] = refl
before_close_marks (i ∷ is) = before_close_kept (is_line i) i is (line_closes_nothing i) (before_close_marks is) refl

filter_kept : {A : Type 0} (p : A → Bool) (x : A) (xs : List A) (b : Bool) → p x ≡ b → filter p (filter p xs) ≡ filter p xs →
    filter p (cond b (x ∷ filter p xs) (filter p xs)) ≡ cond b (x ∷ filter p xs) (filter p xs)
filter_kept p x xs true h e = ap (λ (b : Bool). cond b (x ∷ filter p (filter p xs)) (filter p (filter p xs))) h ∙ ap (λ r. x ∷ r) e
filter_kept p x xs false h e = e

filter_twice : {A : Type 0} (p : A → Bool) (xs : List A) → filter p (filter p xs) ≡ filter p xs
filter_twice p [] = refl
filter_twice p (x ∷ xs) = filter_kept p x xs (p x) refl (filter_twice p xs)

body_marks : (is : List Instruction) → body_of (without_marks is) ≡ body_of is
body_marks is =
    ap (λ r. map ins (filter (λ i. not (is_line i)) r)) (before_close_marks is) ∙ ap (map ins) (filter_twice (λ i. not (is_line i)) (before_close is))

find_kept : (mark : Bool) (i : Instruction) (is : List Instruction) → (mark ≡ true → closes i ≡ false) → find closes (without_marks is) ≡ find closes is →
    find closes (kept mark i (without_marks is)) ≡ cond (closes i) (Some i) (find closes is)
find_kept true i is c e = e ∙ sym (ap (λ (b : Bool). cond b (Some i) (find closes is)) (c refl))
find_kept false i is c e = ap (λ r. cond (closes i) (Some i) r) e

find_marks : (is : List Instruction) → find closes (without_marks is) ≡ find closes is
find_marks [] = refl
find_marks (i ∷ is) = find_kept (is_line i) i is (line_closes_nothing i) (find_marks is)

block_marks : (label : Instruction) (is : List Instruction) → block_of label (without_marks is) ≡ block_of label is
block_marks label is =
    ap₂ (λ body close. record { label = word label 1; at = label.offset; body = body; end_at = place_of close; end = end_of close }) (body_marks is) (find_marks is)

blocks_kept : (mark : Bool) (i : Instruction) (is : List Instruction) → (mark ≡ true → is_label_mark i ≡ false) → blocks_of (without_marks is) ≡ blocks_of is →
    blocks_of (kept mark i (without_marks is)) ≡ cond (is_label_mark i) (block_of i is ∷ blocks_of is) (blocks_of is)
blocks_kept true i is c e = e ∙ sym (ap (λ (b : Bool). cond b (block_of i is ∷ blocks_of is) (blocks_of is)) (c refl))
blocks_kept false i is c e = ap₂ (λ b bs. cond (is_label_mark i) (b ∷ bs) bs) (block_marks i is) e

pub blocks_without_marks : (is : List Instruction) → blocks_of (without_marks is) ≡ blocks_of is
blocks_without_marks [] = refl
blocks_without_marks (i ∷ is) = blocks_kept (is_line i) i is (line_is_no_label i) (blocks_without_marks is)

-- ---- functions

rest_kept : (mark : Bool) (i : Instruction) (is : List Instruction) → (mark ≡ true → is_function i ≡ false) → (mark ≡ true → is_function_end i ≡ false) → is_line i ≡ mark →
    rest_of_function (without_marks is) ≡ without_marks (rest_of_function is) →
    rest_of_function (kept mark i (without_marks is)) ≡ without_marks (cond (is_function i) [] (cond (is_function_end i) (i ∷ []) (i ∷ rest_of_function is)))
rest_kept true i is f n l e =
    e ∙ sym (ap (λ (b : Bool). without_marks (cond b [] (cond (is_function_end i) (i ∷ []) (i ∷ rest_of_function is)))) (f refl)
    ∙ ap (λ (b : Bool). without_marks (cond b (i ∷ []) (i ∷ rest_of_function is))) (n refl)
    ∙ ap (λ (b : Bool). cond (not b) (i ∷ without_marks (rest_of_function is)) (without_marks (rest_of_function is))) l)
rest_kept false i is f n l e = ending (is_function i) (is_function_end i) where
  ending : (a b : Bool) → cond a [] (cond b (i ∷ []) (i ∷ rest_of_function (without_marks is))) ≡ without_marks (cond a [] (cond b (i ∷ []) (i ∷ rest_of_function is)))
  ending true b = refl
  ending false true = sym (ap (λ (b : Bool). cond (not b) (i ∷ []) []) l)
  ending false false = ap (λ r. i ∷ r) e ∙ sym (ap (λ (b : Bool). cond (not b) (i ∷ without_marks (rest_of_function is)) (without_marks (rest_of_function is))) l)

pub rest_marks : (is : List Instruction) → rest_of_function (without_marks is) ≡ without_marks (rest_of_function is)
rest_marks [] = refl
rest_marks (i ∷ is) = rest_kept (is_line i) i is (line_is_no_function i) (line_is_no_function_end i) refl (rest_marks is)
