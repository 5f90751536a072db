-- What is defined before the first function, from two places.
use Rattle.std.proofs.Common.{◌≡◌, ℕ, ◌+◌, ◌<◌, ◌≤◌, Bool, true, false, cond, not, nat_lt, List, [], ◌∷◌, length, drop, Option, Some, None, refl, sym, ap, ◌∙◌, get_or, arith}
use Rattle.std.specs.List.{position_or_len, slice_get}
use Rattle.std.specs.Option.{option_map_or}
use Rattle.std.proofs.lemmas.Bool.Decides.{nat_tests}
use Rattle.std.proofs.lemmas.List.Sums.{prefix_len-le-length, prefix_len-drop_yes, prefix_len-drop_no, prefix_len-drop_all}
use Rattle.std.proofs.lemmas.Option.{get_or_from_slice_get}
use Rattle.spv_module.specs.Code.{is_function}
use Rattle.spv_module.specs.Instruction.{Instruction}
use Rattle.spv_ids.specs.Ids.{defines, place_of}
use Rattle.spv_typing.specs.Kinds.{is_outside}

outside_cons : (function defined : Bool) (n m : ℕ) → cond function false (cond defined true (nat_lt n m)) ≡ nat_lt (cond (not defined) (1 + n) 0) (cond (not function) (1 + m) 0)
outside_cons true d n m = grind (arith, nat_tests)
outside_cons false true n m = grind (arith, nat_tests)
outside_cons false false n m = grind (arith, nat_tests)

-- induction on the instructions
outside-places : (insts : List Instruction) (id : ℕ) → is_outside insts id ≡ nat_lt (position_or_len (defines id) insts) (position_or_len is_function insts)
outside-places [] id = refl
outside-places (i ∷ is) id =
    ap (λ (b : Bool). cond (is_function i) false (cond (defines id i) true b)) (outside-places is id)
    ∙ outside_cons (is_function i) (defines id i) (position_or_len (defines id) is) (position_or_len is_function is)

place_cases : (within : Bool) (n len m : ℕ) → m ≤ len → nat_lt n len ≡ within → option_map_or (λ k. nat_lt k m) (cond within (Some n) None) false ≡ nat_lt n m
place_cases true n len m h e = refl
place_cases false n len m h e = grind (arith, nat_tests)

-- what is outside, from the place of the definition
pub outside-at : (insts : List Instruction) (id : ℕ) (place : Option ℕ) → place ≡ place_of insts id → option_map_or (λ k. nat_lt k (position_or_len is_function insts)) place false ≡ is_outside insts id
outside-at insts id place e =
    ap (λ (o : Option ℕ). option_map_or (λ k. nat_lt k (position_or_len is_function insts)) o false) e
    ∙ place_cases (nat_lt (position_or_len (defines id) insts) (length insts)) (position_or_len (defines id) insts) (length insts) (position_or_len is_function insts)
    (prefix_len-le-length (λ (i : Instruction). not (is_function i)) insts) refl
    ∙ sym (outside-places insts id)

-- no function begins before the k-th instruction
abbrev pub AreOutside : List Instruction → ℕ → Type 0
AreOutside insts k = position_or_len is_function insts ≡ k + position_or_len is_function (drop k insts)

begins_none : (i j : Instruction) (b : Bool) → j ≡ i → is_function i ≡ b → not (is_function j) ≡ not b
begins_none i j b e h = ap (λ (x : Instruction). not (is_function x)) e ∙ ap not h

pub outside-found : (insts : List Instruction) (k : ℕ) (i : Instruction) → AreOutside insts k → k < length insts → slice_get insts k ≡ Some i → is_function i ≡ true →
    k ≡ position_or_len is_function insts
outside-found insts k i so_far fits at begins =
    let none : position_or_len is_function (drop k insts) ≡ 0 =
    prefix_len-drop_no (λ (j : Instruction). not (is_function j)) insts k i fits (begins_none i (get_or insts k i) true (get_or_from_slice_get insts k i i at) begins) in
    omega arith

pub outside-more : (insts : List Instruction) (k : ℕ) (i : Instruction) → AreOutside insts k → k < length insts → slice_get insts k ≡ Some i → is_function i ≡ false → AreOutside insts (k + 1)
outside-more insts k i so_far fits at begins =
    let more : position_or_len is_function (drop k insts) ≡ 1 + position_or_len is_function (drop (k + 1) insts) =
    prefix_len-drop_yes (λ (j : Instruction). not (is_function j)) insts k i fits (begins_none i (get_or insts k i) false (get_or_from_slice_get insts k i i at) begins) in
    omega arith

pub outside-all : (insts : List Instruction) (k : ℕ) → AreOutside insts k → k ≡ length insts → length insts ≡ position_or_len is_function insts
outside-all insts k so_far all =
    let none : position_or_len is_function (drop k insts) ≡ 0 = prefix_len-drop_all (λ (j : Instruction). not (is_function j)) insts k (omega arith) in
    omega arith
