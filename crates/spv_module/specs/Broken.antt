-- The broken rules of the first group: the header, and the instructions one by one.
use Rattle.std.specs.Prelude.{◌≡◌, ℕ, zero, suc, ◌+◌, ◌-◌, Bool, true, false, cond, ◌==◌, ◌&&◌, ◌||◌, nat_lt, nat_le, List, [], ◌∷◌, ◌++◌, length, take, drop, slice_index, Option, Some, None}
use Rattle.spv_base.specs.declared.fault.Refusal.{Refusal}
use Rattle.spv_grammar.specs.Operands.{count_of}
use Rattle.spv_module.specs.Instruction.{instruction_rules}
use Rattle.spv_module.specs.Code.{is_cut_short}
use Rattle.spv_module.specs.First.{here, unless, first}

-- 101 Version: the second word is not that of SPIR-V 1.6
abbrev pub version_rule : List ℕ → List Refusal
version_rule words = here 1 (unless (slice_index words 1 == 0x0001_0600) 101)

-- 103 Bound, in the header: the bound is 0 or above 4,194,303
abbrev pub header_bound_rule : List ℕ → List Refusal
header_bound_rule words = here 3 (unless (nat_lt 0 (slice_index words 3) && nat_le (slice_index words 3) 4194303) 103)

-- 102 Schema: the fifth word is not 0
abbrev pub schema_rule : List ℕ → List Refusal
schema_rule words = here 4 (unless (slice_index words 4 == 0) 102)

-- 104 ZeroCount, 105 PastEnd: the instruction in front of these words has a word count of 0, or one that passes the last word
abbrev pub count_rules : List ℕ → List ℕ
count_rules words = cond (count_of (slice_index words 0) == 0) (104 ∷ []) (105 ∷ [])

-- the rules that the instruction in front of these words breaks; one that is cut short is looked at no further
abbrev pub front_rules : ℕ → List ℕ → List ℕ
front_rules bound words = cond (is_cut_short words) (count_rules words) (instruction_rules bound (take (count_of (slice_index words 0)) words))

-- the rules that the instructions in these words break, up to the end or to one that is cut short (`at` and `passed` as in `cut`)
unfoldable pub broken_from : (bound at passed : ℕ) → List ℕ → List Refusal
broken_from bound at passed [] = []
broken_from bound at zero (w ∷ ws) =
    here at (front_rules bound (w ∷ ws)) ++ cond (is_cut_short (w ∷ ws)) [] (broken_from bound (at + 1) (count_of w - 1) ws)
broken_from bound at (suc passed) (w ∷ ws) = broken_from bound (at + 1) passed ws

abbrev pub instructions_broken : List ℕ → List Refusal
instructions_broken words = broken_from (slice_index words 3) 5 0 (drop 5 words)

-- what the rules on the header and on instructions find
abbrev pub group_1 : List ℕ → List Refusal
group_1 words = version_rule words ++ (header_bound_rule words ++ (schema_rule words ++ instructions_broken words))
