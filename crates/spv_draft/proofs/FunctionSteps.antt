-- Steps of finding functions.
use Rattle.std.proofs.Common.{◌≡◌, ℕ, zero, suc, ◌+◌, ◌<◌, Bool, true, false, cond, List, [], ◌∷◌, length, drop, Some, sym, ap, ◌∙◌, arith, add-one}
use Rattle.std.specs.List.{slice_get}
use Rattle.spv_module.specs.Code.{is_function}
use Rattle.spv_module.specs.Instruction.{Instruction}
use Rattle.spv_draft.specs.Functions.{next_function, until_function}

drop_suc : (insts : List Instruction) (k : ℕ) (i : Instruction) → slice_get insts k ≡ Some i → drop k insts ≡ i ∷ drop (suc k) insts
drop_suc [] k i e = absurd (cc e)
drop_suc (j ∷ insts) zero i e = let same : j ≡ i = cc e in ap (λ x. x ∷ insts) same
drop_suc (j ∷ insts) (suc k) i e = drop_suc insts k i e

-- an instruction that is no OpFunction is passed
pub next-behind : (insts : List Instruction) (k : ℕ) (i : Instruction) → slice_get insts k ≡ Some i → is_function i ≡ false →
    next_function k insts ≡ next_function (k + 1) insts
next-behind insts k i at other =
    let rest = drop (k + 1) insts in
    let split : drop k insts ≡ i ∷ rest = rw add-one (drop_suc insts k i at) in
    let more : k + suc (until_function rest) ≡ (k + 1) + until_function rest = omega arith in
    ap (λ is. k + until_function is) split
    ∙ ap (λ b. k + cond b 0 (suc (until_function rest))) other
    ∙ more

-- at an OpFunction the search ends
pub next-here : (insts : List Instruction) (k : ℕ) (i : Instruction) → slice_get insts k ≡ Some i → is_function i ≡ true → next_function k insts ≡ k
next-here insts k i at begins =
    let rest = drop (k + 1) insts in
    let split : drop k insts ≡ i ∷ rest = rw add-one (drop_suc insts k i at) in
    let none : k + 0 ≡ k = omega arith in
    ap (λ is. k + until_function is) split
    ∙ ap (λ b. k + cond b 0 (suc (until_function rest))) begins
    ∙ none
