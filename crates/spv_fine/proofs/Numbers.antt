-- The number of a function in its module: each of its instructions stands in the function of that number, whose code is theirs.
use Rattle.std.proofs.Common.{◌≡◌, inl, inr, ℕ, zero, suc, ◌+◌, ◌-◌, ◌<◌, Bool, true, false, cond, ◌||◌, ◌==◌, List, [], ◌∷◌, ◌++◌, length, take, Some, All, refl, sym, ap, ◌∙◌, arith}
use Rattle.std.specs.List.{AllByRecursion, count_by, slice_get}
use Rattle.std.proofs.lemmas.List.Elements.{All-head, All-tail}
use Rattle.std.proofs.lemmas.List.Sums.{sum_by-append, sum_by-cons}
use Rattle.spv_opcodes.specs.declared.op.TheConstants as op
use Rattle.spv_grammar.specs.Table.{row_of}
use Rattle.spv_module.specs.Code.{is_function}
use Rattle.spv_module.specs.Instruction.{Instruction, opcode}
use Rattle.spv_blocks.specs.Cutting.{begun_function, function_from, function_insts, is_function_end, rest_of_function, starts_from}
use Rattle.spv_tree.specs.Sound.{is_one_of, is_step}
use Rattle.spv_walk.proofs.Unique.{equal_true, tells, true_equal, truth_apart}
use Rattle.spv_spelling.specs.Whole.{IsText, block_marks, is_in_block}
use Rattle.spv_availability.specs.Places.{function_of}
use Rattle.spv_fine.proofs.Places.{drop_behind, take_behind, take_front}

-- ---- counting

count : List Instruction → ℕ
count is = count_by is_function is

counted : (xs ys : List Instruction) → count (xs ++ ys) ≡ count xs + count ys
unfolding count
counted xs ys = sum_by-append (λ (x : Instruction). cond (is_function x) 1 0) xs ys

count_cons : (x : Instruction) (xs : List Instruction) → count (x ∷ xs) ≡ cond (is_function x) 1 0 + count xs
unfolding count
count_cons x xs = sum_by-cons (λ (x : Instruction). cond (is_function x) 1 0) x xs

count_nil : count [] ≡ 0
unfolding count
count_nil = refl

-- what stands in a function behind its OpFunction
abbrev IsInner : Instruction → Type 0
IsInner i = is_function i ≡ false

count_none : (is : List Instruction) (j : ℕ) → AllByRecursion IsInner is → count (take j is) ≡ 0
count_none is zero h = count_nil
count_none [] (suc j) h = count_nil
count_none (i ∷ is) (suc j) h =
    count_cons i (take j is) ∙ ap (λ b. cond b 1 0 + count (take j is)) h.0 ∙ (let e = count_none is j h.1 in omega arith)

-- ---- the shape of a function

from_all : (P Q : Instruction → Type 0) (is : List Instruction) → ((i : Instruction) → P i → Q i) → All P is → AllByRecursion Q is
from_all P Q [] h a = tt
from_all P Q (i ∷ is) h a = (h i (All-head P i is a), from_all P Q is h (All-tail P i is a))

all_append : (P : Instruction → Type 0) (xs ys : List Instruction) → AllByRecursion P xs → AllByRecursion P ys → AllByRecursion P (xs ++ ys)
all_append P [] ys h g = g
all_append P (x ∷ xs) ys h g = (h.0, all_append P xs ys h.1 g)

abbrev in_block : ℕ → Bool
in_block o =
    o == op.LABEL || (o == op.BRANCH || o == op.BRANCH_CONDITIONAL || o == op.SWITCH || o == op.RETURN || o == op.RETURN_VALUE || o == op.UNREACHABLE)
    || is_step o || is_one_of block_marks o

apart_from : (o p : ℕ) → in_block o ≡ true → in_block p ≡ false → (o == p) ≡ false
apart_from o p is other = elim (tells (o == p)) [
  | inl e ↦ truth_apart (in_block o) is (ap in_block (equal_true o p e) ∙ other)
  | inr e ↦ e
]

block_inner : (i : Instruction) → is_in_block i ≡ true → IsInner i
unfolding row_of
block_inner i h = apart_from (opcode i) op.FUNCTION h refl

block_goes_on : (i : Instruction) → is_in_block i ≡ true → is_function_end i ≡ false
unfolding row_of
block_goes_on i h = apart_from (opcode i) op.FUNCTION_END h refl

-- it neither begins nor ends a function
abbrev Goes : Instruction → Type 0
Goes i = IsInner i × (is_function_end i ≡ false)

module _ (is : List Instruction) (t : IsText is) where
  inner : List Instruction
  inner = t.parameters ++ (t.label ∷ t.blocks)

  tail : List Instruction
  tail = inner ++ t.last ∷ []

  whole : is ≡ t.function ∷ tail
  unfolding inner tail
  whole = t.same

  goes : AllByRecursion Goes inner
  unfolding inner
  goes =
      let label : opcode t.label ≡ op.LABEL = equal_true (opcode t.label) op.LABEL t.first in
      all_append Goes t.parameters (t.label ∷ t.blocks)
      (from_all (λ i. opcode i ≡ op.FUNCTION_PARAMETER) Goes t.parameters (λ i e. (ap (λ o. o == op.FUNCTION) e, ap (λ o. o == op.FUNCTION_END) e)) t.takes) (
        (ap (λ o. o == op.FUNCTION) label, ap (λ o. o == op.FUNCTION_END) label),
        from_all (λ i. is_in_block i ≡ true) Goes t.blocks (λ i e. (block_inner i e, block_goes_on i e)) t.inside,
      )

  all_inner : (xs : List Instruction) → AllByRecursion Goes xs → AllByRecursion IsInner (xs ++ t.last ∷ [])
  all_inner [] h = (ap (λ o. o == op.FUNCTION) t.ends, tt)
  all_inner (x ∷ xs) h = (h.0.0, all_inner xs h.1)

  begins : is_function t.function ≡ true
  begins = true_equal (opcode t.function) op.FUNCTION t.begins

  count_front : (j : ℕ) → count (take (suc j) is) ≡ 1
  unfolding tail
  count_front j =
      ap (λ z. count (take (suc j) z)) whole ∙ count_cons t.function (take j tail) ∙ ap (λ b. cond b 1 0 + count (take j tail)) begins
      ∙ (let e = count_none tail j (all_inner inner goes) in omega arith)

  -- the rest of a function ends with its OpFunctionEnd
  rest_is : (xs more : List Instruction) → AllByRecursion Goes xs → rest_of_function ((xs ++ t.last ∷ []) ++ more) ≡ xs ++ t.last ∷ []
  rest_is [] more h =
      ap (λ b. cond b [] (cond (is_function_end t.last) (t.last ∷ []) (t.last ∷ rest_of_function more))) (ap (λ o. o == op.FUNCTION) t.ends)
      ∙ ap (λ b. cond b (t.last ∷ []) (t.last ∷ rest_of_function more)) (true_equal (opcode t.last) op.FUNCTION_END t.ends)
  rest_is (x ∷ xs) more h =
      ap (λ b. cond b [] (cond (is_function_end x) (x ∷ []) (x ∷ rest_of_function ((xs ++ t.last ∷ []) ++ more)))) h.0.0
      ∙ ap (λ b. cond b (x ∷ []) (x ∷ rest_of_function ((xs ++ t.last ∷ []) ++ more))) h.0.1
      ∙ ap (λ z. x ∷ z) (rest_is xs more h.1)

  begun : (more : List Instruction) → begun_function (is ++ more) ≡ is
  unfolding tail
  begun more =
      ap (λ z. begun_function (z ++ more)) whole ∙ ap (λ z. t.function ∷ z) (rest_is inner more goes) ∙ sym whole

  first_is : (more : List Instruction) → (i : Instruction) × (rest : List Instruction) × (is ++ more ≡ i ∷ rest) × (is_function i ≡ true)
  unfolding tail
  first_is more = (t.function, tail ++ more, ap (λ z. z ++ more) whole, begins)

-- ---- in the module

start_found : (n : ℕ) (xs : List Instruction) (i : Instruction) (ys : List Instruction) → is_function i ≡ true
    → slice_get (starts_from n (xs ++ i ∷ ys)) (count xs) ≡ Some (n + length xs)
start_found n [] i ys h =
    ap (λ k. slice_get (starts_from n (i ∷ ys)) k) count_nil
    ∙ ap (λ b. slice_get (cond b (n ∷ starts_from (n + 1) ys) (starts_from (n + 1) ys)) 0) h ∙ ap Some (omega arith)
start_found n (x ∷ xs) i ys h =
    ap (slice_get (starts_from n (x ∷ (xs ++ i ∷ ys)))) (count_cons x xs) ∙ by (is_function x) (start_found (n + 1) xs i ys h) ∙ ap Some (omega arith)
  where
    by : (b : Bool) → slice_get (starts_from (n + 1) (xs ++ i ∷ ys)) (count xs) ≡ Some ((n + 1) + length xs)
        → slice_get (cond b (n ∷ starts_from (n + 1) (xs ++ i ∷ ys)) (starts_from (n + 1) (xs ++ i ∷ ys))) (cond b 1 0 + count xs) ≡ Some ((n + 1) + length xs)
    by true e = let k : 1 + count xs ≡ suc (count xs) = omega arith in ap (slice_get (n ∷ starts_from (n + 1) (xs ++ i ∷ ys))) k ∙ e
    by false e = let k : 0 + count xs ≡ count xs = omega arith in ap (slice_get (starts_from (n + 1) (xs ++ i ∷ ys))) k ∙ e

module _ (before again after : List Instruction) (t : IsText again) where
  abbrev pub insts : List Instruction
  insts = before ++ (again ++ after)

  abbrev pub number : ℕ
  number = count_by is_function before + 1

  number_is : count before + 1 ≡ number
  unfolding count
  number_is = refl

  pub in_function : (j : ℕ) → j < length again → function_of insts (length before + j) ≡ number
  unfolding count
  in_function j less =
      let e : length before + j + 1 ≡ length before + suc j = omega arith in
      ap (λ n. count (take n insts)) e ∙ ap count (take_behind before (again ++ after) (suc j)) ∙ counted before (take (suc j) (again ++ after))
      ∙ ap (λ z. count before + count z) (take_front again after (suc j) (omega arith)) ∙ ap (λ z. count before + z) (count_front again t j)

  pub its_code : function_insts (number - 1) insts ≡ again
  unfolding count
  its_code =
      let r = first_is again t after in
      let k : number - 1 ≡ count before = omega arith in
      let at : slice_get (starts_from 0 insts) (number - 1) ≡ Some (length before) =
      ap (slice_get (starts_from 0 insts)) k
      ∙ ap (λ z. slice_get (starts_from 0 (before ++ z)) (count before)) r.2
      ∙ start_found 0 before r.0 r.1 r.3 ∙ ap Some (omega arith) in
      ap (function_from insts) at ∙ ap begun_function (drop_behind before (again ++ after)) ∙ begun again t after
