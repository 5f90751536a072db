-- Each instruction has a section, and functions are counted one by one.
use Rattle.std.proofs.Common.{◌≡◌, ℕ, suc, ◌+◌, ◌<◌, ◌≤◌, Bool, true, false, cond, ◌||◌, List, [], ◌∷◌, ◌++◌, length, take, drop, get_or, set, Option, Some, None, refl, sym, ap, subst, ◌∙◌, arith, append_assoc, add-one}
use Rattle.std.specs.List.{slice_get, count_by}
use Rattle.std.proofs.Math.Seq.{take-suc-set, drop-cons}
use Rattle.std.proofs.lemmas.List.Sums.{count_by_more_yes, count_by_more_no}
use Rattle.std.proofs.lemmas.Option.{get_or_from_slice_get}
use Rattle.spv_module.specs.Code.{section_in, sections_from, sections_of, is_function}
use Rattle.spv_module.specs.Instruction.{Instruction}

-- induction on the instructions
length-sections_from : (begun : Bool) (before : ℕ) (insts : List Instruction) → length (sections_from begun before insts) ≡ length insts
length-sections_from begun before [] = refl
length-sections_from begun before (i ∷ insts) = ap suc (length-sections_from (begun || is_function i) (section_in begun before i) insts)

pub length-sections_of : (insts : List Instruction) → length (sections_of insts) ≡ length insts
length-sections_of insts = length-sections_from false 1 insts

-- the section of one instruction more is in its place
pub sections-step : (insts : List Instruction) (out : List ℕ) (begun begun2 : Bool) (before before2 : ℕ) (k : ℕ) (i : Instruction) → sections_of insts ≡ take k out ++ sections_from begun before (drop k insts) → k < length insts → k < length out →
    slice_get insts k ≡ Some i → before2 ≡ section_in begun before i → begun2 ≡ (begun || is_function i) → sections_of insts ≡ take (k + 1) (set out k before2) ++ sections_from begun2 before2 (drop (k + 1) insts)
sections-step insts out begun begun2 before before2 k i e fits room at section function =
    let cut : drop k insts ≡ i ∷ drop (suc k) insts = drop-cons insts k i fits ∙ ap (λ (j : Instruction). j ∷ drop (suc k) insts) (get_or_from_slice_get insts k i i at) in
    rw (add-one, take-suc-set out k before2 room, section, function)
    (e ∙ ap (λ (rest : List Instruction). take k out ++ sections_from begun before rest) cut
    ∙ sym (append_assoc (take k out) (section_in begun before i ∷ []) (sections_from (begun || is_function i) (section_in begun before i) (drop (suc k) insts))))

-- one instruction more was counted
pub count-function : (insts : List Instruction) (k : ℕ) (i : Instruction) → k < length insts → slice_get insts k ≡ Some i → is_function i ≡ true → count_by is_function (take (k + 1) insts) ≡ count_by is_function (take k insts) + 1
count-function insts k i fits at h = count_by_more_yes is_function insts k i fits (ap is_function (get_or_from_slice_get insts k i i at) ∙ h)

pub count-other : (insts : List Instruction) (k : ℕ) (i : Instruction) → k < length insts → slice_get insts k ≡ Some i → is_function i ≡ false → count_by is_function (take (k + 1) insts) ≡ count_by is_function (take k insts)
count-other insts k i fits at h = count_by_more_no is_function insts k i fits (ap is_function (get_or_from_slice_get insts k i i at) ∙ h)
