-- The instructions of a function among those of a module.
use Rattle.std.proofs.Common.{◌≡◌, ℕ, zero, suc, ◌+◌, ◌<◌, ◌≤◌, true, false, List, [], ◌∷◌, ◌++◌, length, take, drop, Some, refl, sym, ap, ◌∙◌, arith, add-one, append_assoc}
use Rattle.std.specs.List.{slice_get}
use Rattle.std.proofs.lemmas.List.{drop_all}
use Rattle.spv_module.specs.Code.{is_function}
use Rattle.spv_module.specs.Instruction.{Instruction}
use Rattle.spv_blocks.specs.Cutting.{is_function_end, rest_of_function, begun_function, function_at, starts_from}
use Rattle.spv_blocks.proofs.Slices.{drop-at, front-goes_on, front-stops, front-stops_with}

-- an instruction more of the function
pub rest-goes_on : (insts : List Instruction) (from k : ℕ) (i : Instruction) → from ≤ k → slice_get insts k ≡ Some i →
    is_function i ≡ false → is_function_end i ≡ false →
    rest_of_function (drop from insts) ≡ drop from (take k insts) ++ rest_of_function (drop k insts) →
    rest_of_function (drop from insts) ≡ drop from (take (k + 1) insts) ++ rest_of_function (drop (k + 1) insts)
rest-goes_on insts from k i h at no_function no_end told =
    front-goes_on rest_of_function insts from k i h at (rw (no_function, no_end) refl) told

-- the next function begins
pub rest-stops : (insts : List Instruction) (from k : ℕ) (i : Instruction) → slice_get insts k ≡ Some i → is_function i ≡ true →
    rest_of_function (drop from insts) ≡ drop from (take k insts) ++ rest_of_function (drop k insts) →
    drop from (take k insts) ≡ rest_of_function (drop from insts)
rest-stops insts from k i at function told = front-stops rest_of_function insts from k i at (rw function refl) told

-- or OpFunctionEnd ends this one
pub rest-stops_with : (insts : List Instruction) (from k : ℕ) (i : Instruction) → from ≤ k → slice_get insts k ≡ Some i →
    is_function i ≡ false → is_function_end i ≡ true →
    rest_of_function (drop from insts) ≡ drop from (take k insts) ++ rest_of_function (drop k insts) →
    drop from (take (k + 1) insts) ≡ rest_of_function (drop from insts)
rest-stops_with insts from k i h at no_function end told =
    front-stops_with rest_of_function insts from k i h at (rw (no_function, end) refl) told

-- a function from its first instruction on; induction on the instructions before it
pub function-begins : (insts : List Instruction) (first end : ℕ) → first < length insts → first < end →
    drop (suc first) (take end insts) ≡ rest_of_function (drop (suc first) insts) →
    drop first (take end insts) ≡ function_at first insts
function-begins [] first end within h told = absurd (omega arith)
function-begins (i ∷ insts) first zero within h told = absurd (omega arith)
function-begins (i ∷ insts) zero (suc end) within h told = ap (λ rest. i ∷ rest) told
function-begins (i ∷ insts) (suc first) (suc end) within h told = function-begins insts first end (omega arith) (omega arith) told

pub function-is : (all insts : List Instruction) (first end : ℕ) → insts ≡ all → first < length insts → first < end →
    drop (first + 1) (take end insts) ≡ rest_of_function (drop (first + 1) insts) →
    drop first (take end insts) ≡ function_at first all
function-is all insts first end same within h told =
    function-begins insts first end within h (rw add-one at told) ∙ ap (function_at first) same

-- no function stands behind all instructions
pub function-none : (insts : List Instruction) (first : ℕ) → length insts ≤ first → [] ≡ function_at first insts
function-none insts first past = sym (ap begun_function (drop_all first insts past))

-- one start more, or none
pub starts-more : (insts : List Instruction) (k : ℕ) (i : Instruction) (found all : List ℕ) → slice_get insts k ≡ Some i → is_function i ≡ true →
    all ≡ found ++ starts_from k (drop k insts) →
    all ≡ (found ++ k ∷ []) ++ starts_from (k + 1) (drop (k + 1) insts)
starts-more insts k i found all at function told =
    told ∙ ap (λ rest. found ++ rest) (ap (starts_from k) (drop-at insts k i at) ∙ rw function refl)
    ∙ sym (append_assoc found (k ∷ []) (starts_from (k + 1) (drop (k + 1) insts)))

pub starts-other : (insts : List Instruction) (k : ℕ) (i : Instruction) (found all : List ℕ) → slice_get insts k ≡ Some i → is_function i ≡ false →
    all ≡ found ++ starts_from k (drop k insts) →
    all ≡ found ++ starts_from (k + 1) (drop (k + 1) insts)
starts-other insts k i found all at other told =
    told ∙ ap (λ rest. found ++ rest) (ap (starts_from k) (drop-at insts k i at) ∙ rw other refl)
