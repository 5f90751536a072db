-- What is kept of the function that an instruction stands in, from one instruction to the next.
use Rattle.std.proofs.Common.{◌≡◌, ℕ, zero, suc, ◌+◌, Bool, true, false, cond, List, [], ◌∷◌, drop, take, Option, Some, None, refl, sym, ap, ◌∙◌}
use Rattle.std.specs.Prelude.{slice_get, slice_index}
use Rattle.std.specs.List.{fold}
use Rattle.std.proofs.lemmas.List.Sums.{fold_more}
use Rattle.std.proofs.lemmas.Option.{get_or_from_slice_get, slice_get_within}
use Rattle.spv_module.specs.Code.{is_function}
use Rattle.spv_module.specs.Instruction.{Instruction}
use Rattle.spv_signatures.specs.declared.contexts.Context.{Context}
use Rattle.spv_signatures.specs.Functions.{is_parameter, parameter_types}
use Rattle.spv_signatures.specs.Contexts.{latest, function_of, counted, parameters_before, result_type_in, types_in, types_behind, IsContext}

-- a fold over one element more
pub fold-at : {X Y : Type 0} (f : Y → X → Y) (a : Y) (xs : List X) (k : ℕ) (x : X) → slice_get xs k ≡ Some x → fold f a (take (k + 1) xs) ≡ f (fold f a (take k xs)) x
fold-at f a xs k x at = fold_more f a xs k x (slice_get_within xs k x at) ∙ ap (f (fold f a (take k xs))) (get_or_from_slice_get xs k x x at)

pub function-next : (insts : List Instruction) (k : ℕ) (i : Instruction) → slice_get insts k ≡ Some i → function_of insts (k + 1) ≡ latest (function_of insts k) i
function-next insts k i at = fold-at latest None insts k i at

pub count-next : (insts : List Instruction) (k : ℕ) (i : Instruction) → slice_get insts k ≡ Some i → parameters_before insts (k + 1) ≡ counted (parameters_before insts k) i
count-next insts k i at = fold-at counted 0 insts k i at

-- the element behind those that are left out; induction on their number
pub first-behind : {X : Type 0} (xs : List X) (n : ℕ) → slice_get (drop n xs) 0 ≡ slice_get xs n
first-behind [] zero = refl
first-behind [] (suc n) = refl
first-behind (x ∷ xs) zero = refl
first-behind (x ∷ xs) (suc n) = first-behind xs n

-- one element more is left out; induction on their number
pub drop-more : {X : Type 0} (xs : List X) (n : ℕ) → drop (suc n) xs ≡ drop 1 (drop n xs)
drop-more [] zero = refl
drop-more [] (suc n) = refl
drop-more (x ∷ xs) zero = refl
drop-more (x ∷ xs) (suc n) = drop-more xs n

result_next : (is : Bool) (i : Instruction) (before : Option Instruction) → cond is (slice_index i.words 1) (result_type_in before) ≡ result_type_in (cond is (Some i) before)
result_next true i before = refl
result_next false i before = refl

types_next : (insts : List Instruction) (begins is : Bool) (i : Instruction) (before : Option Instruction) (n : ℕ) →
    cond begins (parameter_types insts (slice_index i.words 4)) (cond is (drop 1 (drop n (types_in insts before))) (drop n (types_in insts before)))
    ≡ drop (cond begins 0 (cond is (suc n) n)) (types_in insts (cond begins (Some i) before))
types_next insts true is i before n = refl
types_next insts false true i before n = sym (drop-more (types_in insts before) n)
types_next insts false false i before n = refl

pub context-next : (insts : List Instruction) (k : ℕ) (i : Instruction) (c d : Context) → IsContext insts k c → slice_get insts k ≡ Some i →
    d.result_type ≡ cond (is_function i) (slice_index i.words 1) c.result_type → d.types.now ≡ types_behind insts c.types.now i → IsContext insts (k + 1) d
context-next insts k i c d is at r t = record {
  result_type =
      r
      ∙ ap (λ (n : ℕ). cond (is_function i) (slice_index i.words 1) n) is.result_type
      ∙ result_next (is_function i) i (function_of insts k)
      ∙ sym (ap result_type_in (function-next insts k i at));
  types =
      t
      ∙ ap (λ (ts : List ℕ). types_behind insts ts i) is.types
      ∙ types_next insts (is_function i) (is_parameter i) i (function_of insts k) (parameters_before insts k)
      ∙ sym (ap (λ (n : ℕ). drop n (types_in insts (latest (function_of insts k) i))) (count-next insts k i at))
      ∙ sym (ap (λ (f : Option Instruction). drop (parameters_before insts (k + 1)) (types_in insts f)) (function-next insts k i at));
}
