-- The bound and the number of what stays of instructions.
use Rattle.std.proofs.Common.{◌≡◌, ℕ, ◌<◌, ◌≤◌, ◌^◌, max, Bool, true, false, cond, List, [], ◌∷◌, ◌++◌, length, ap, ◌∙◌, arith}
use Rattle.spv_grammar.specs.Roles.{names_id}
use Rattle.spv_bound.specs.Bound.{words_with, named_ids, greatest, bound_of_ids}
use Rattle.spv_module.specs.Instruction.{Instruction}
use Rattle.spv_stripped.specs.Strip.{stays, stripped_insts}

greatest-append : (xs ys : List ℕ) → greatest (xs ++ ys) ≡ max (greatest xs) (greatest ys)
greatest-append [] ys = grind arith
greatest-append (x ∷ xs) ys = ap (max x) (greatest-append xs ys) ∙ grind arith

max_less : (a x y : ℕ) → x ≤ y → max a x ≤ max a y
max_less a x y h = grind arith

less_max : (a x y : ℕ) → x ≤ y → x ≤ max a y
less_max a x y h = grind arith

kept_or_gone : (b : Bool) (i : Instruction) (insts : List Instruction) → greatest (named_ids (stripped_insts insts)) ≤ greatest (named_ids insts) →
    greatest (named_ids (cond b (i ∷ stripped_insts insts) (stripped_insts insts))) ≤ greatest (named_ids (i ∷ insts))
kept_or_gone true i insts h =
    rw (greatest-append (words_with names_id i) (named_ids (stripped_insts insts)), greatest-append (words_with names_id i) (named_ids insts))
    (max_less (greatest (words_with names_id i)) (greatest (named_ids (stripped_insts insts))) (greatest (named_ids insts)) h)
kept_or_gone false i insts h =
    rw (greatest-append (words_with names_id i) (named_ids insts)) (less_max (greatest (words_with names_id i)) (greatest (named_ids (stripped_insts insts))) (greatest (named_ids insts)) h)

-- fewer instructions ask for no higher bound
greatest-stripped : (insts : List Instruction) → greatest (named_ids (stripped_insts insts)) ≤ greatest (named_ids insts)
greatest-stripped [] = omega arith
greatest-stripped (i ∷ insts) = kept_or_gone (stays i) i insts (greatest-stripped insts)

pub bound-stripped : (insts : List Instruction) → bound_of_ids insts < 2 ^ 32 → bound_of_ids (stripped_insts insts) < 2 ^ 32
unfolding bound_of_ids
bound-stripped insts h = let fewer = greatest-stripped insts in omega arith

one_more : (b : Bool) (i : Instruction) (insts : List Instruction) → length (stripped_insts insts) ≤ length insts → length (cond b (i ∷ stripped_insts insts) (stripped_insts insts)) ≤ length (i ∷ insts)
one_more true i insts h = omega arith
one_more false i insts h = omega arith

pub length-stripped : (insts : List Instruction) → length (stripped_insts insts) ≤ length insts
length-stripped [] = omega arith
length-stripped (i ∷ insts) = one_more (stays i) i insts (length-stripped insts)
