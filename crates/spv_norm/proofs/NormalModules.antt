-- A module in normal form is its normal form.
use Rattle.std.proofs.Common.{◌≡◌, ℕ, zero, suc, ◌+◌, ◌<◌, Bool, true, cond, List, [], ◌∷◌, ◌++◌, filter, refl, sym, ap, ◌∙◌, arith, append-nil}
use Rattle.std.specs.List.{AllByRecursion, count_by, flat_map, range_with_len}
use Rattle.std.proofs.lemmas.Grind.{flat_map-append}
use Rattle.std.proofs.lemmas.List.{map-append}
use Rattle.graph.proofs.Predecessors.{range-push}
use Rattle.spv_module.specs.Code.{is_function}
use Rattle.spv_module.specs.Instruction.{Instruction}
use Rattle.spv_blocks.specs.Cutting.{function_insts}
use Rattle.spv_tree.specs.Tree.{words_of}
use Rattle.spv_normal.specs.Normal.{normal_function}
use Rattle.spv_norm.specs.Norm.{function_lines, outside, stays_outside}
use Rattle.spv_norm.specs.Laws.{NormalStays, inside}

-- where all stay; induction on the instructions
all_stay : (test : Instruction → Bool) (is : List Instruction) → AllByRecursion (λ i. test i ≡ true) is → filter test is ≡ is
all_stay test [] all = refl
all_stay test (i ∷ is) (here, rest) = ap (λ b. cond b (i ∷ filter test is) (filter test is)) here ∙ ap (λ xs. i ∷ xs) (all_stay test is rest)

-- one number more
one_more : {X : Type 0} (f : ℕ → List X) (n : ℕ) → flat_map f (range_with_len 0 (suc n)) ≡ flat_map f (range_with_len 0 n) ++ f n
one_more f n =
    ap (flat_map f) (range-push 0 n) ∙ flat_map-append f (range_with_len 0 n) ((0 + n) ∷ [])
    ∙ ap (λ xs. flat_map f (range_with_len 0 n) ++ xs) (append-nil (f (0 + n)) ∙ ap f (zero_more n))
  where
    zero_more : (n : ℕ) → 0 + n ≡ n
    zero_more n = omega arith

-- the lines of the first n functions are their words; induction on n
same_below : (insts : List Instruction) (n : ℕ) → ((k : ℕ) → k < n → normal_function (function_insts k insts) ≡ words_of (function_insts k insts))
    → flat_map (λ k. normal_function (function_insts k insts)) (range_with_len 0 n) ≡ words_of (flat_map (λ k. function_insts k insts) (range_with_len 0 n))
same_below insts zero each = refl
same_below insts (suc n) each =
    one_more (λ k. normal_function (function_insts k insts)) n
    ∙ ap (λ xs. xs ++ normal_function (function_insts n insts)) (same_below insts n (λ k h. each k (omega arith)))
    ∙ ap (λ xs. words_of (flat_map (λ k. function_insts k insts) (range_with_len 0 n)) ++ xs) (each n (omega arith))
    ∙ sym (map-append (λ i. i.words) (flat_map (λ k. function_insts k insts) (range_with_len 0 n)) (function_insts n insts))
    ∙ ap words_of (sym (one_more (λ k. function_insts k insts) n))

pub normal_stays : NormalStays
normal_stays insts normal =
    ap (λ is. words_of is ++ function_lines insts) (all_stay (stays_outside insts) (outside insts) normal.stays)
    ∙ ap (λ ls. words_of (outside insts) ++ ls) (same_below insts (count_by is_function insts) normal.functions)
    ∙ sym (map-append (λ i. i.words) (outside insts) (inside insts)) ∙ ap words_of normal.whole
