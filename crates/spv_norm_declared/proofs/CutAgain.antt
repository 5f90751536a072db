-- Words that break no rule are cut into instructions that break none; and instructions that break none, written as words, are cut again.
use Rattle.std.proofs.Common.{◌≡◌, ℕ, zero, suc, ◌+◌, ◌-◌, ◌<◌, ◌≤◌, Bool, true, false, cond, ◌&&◌, ◌==◌, nat_lt, nat_le, List, [], ◌∷◌, ◌++◌, length, take, drop, Option, Some, None, refl, ap, ◌∙◌, arith}
use Rattle.std.specs.List.{AllByRecursion, flat_map, slice_index}
use Rattle.std.proofs.Math.Seq.{take-append_seam, drop-append_seam}
use Rattle.std.proofs.lemmas.List.{length-append}
use Rattle.std.proofs.lemmas.Bool.Decides.{nat_tests}
use Rattle.spv_base.specs.declared.fault.Refusal.{Refusal}
use Rattle.spv_grammar.specs.Operands.{count_of}
use Rattle.spv_module.specs.Broken.{broken_from, count_rules, front_rules, group_1, header_bound_rule, instructions_broken, schema_rule, version_rule}
use Rattle.spv_module.specs.Code.{Code, code_of, cut, is_cut_short, spelling}
use Rattle.spv_module.specs.Decode.{first_in_decode}
use Rattle.spv_module.specs.First.{first, first_group, here, unless}
use Rattle.spv_module.specs.Instruction.{Instruction, instruction_rules}
use Rattle.spv_module.specs.Layout.{group_2}
use Rattle.spv_module.proofs.Cutting.{broken_from-step}
use Rattle.spv_texts.proofs.Functions.{nothing_both, nothing_first, nothing_here, nothing_unless}
use Rattle.spv_machine.proofs.Spelling.{AllCounted, cut_counted}
use Rattle.spv_norm_declared.proofs.Instructions.{Are}

-- ---- reading

no_first : (a b : Option Refusal) → first_group a b ≡ None → a ≡ None
no_first None b e = refl
no_first (Some refusal) b e = absurd (cc e)

no_second : (a b : Option Refusal) → first_group a b ≡ None → b ≡ None
no_second None b e = e
no_second (Some refusal) b e = absurd (cc e)

pub group_1_none : (words : List ℕ) → first_in_decode words ≡ None → first (group_1 words) ≡ None
group_1_none words e = no_first (first (group_1 words)) (first (group_2 (length words) (code_of words).insts)) e

pub group_2_none : (words : List ℕ) → first_in_decode words ≡ None → first (group_2 (length words) (code_of words).insts) ≡ None
group_2_none words e = no_second (first (group_1 words)) (first (group_2 (length words) (code_of words).insts)) e

-- instructions that are counted and break no rule; induction on the words
abbrev Rules : (bound : ℕ) → List Instruction → Type 0
Rules bound is = AllByRecursion (λ i. instruction_rules bound i.words ≡ []) is

cut_rules : (bound at passed : ℕ) (ws : List ℕ) → broken_from bound at passed ws ≡ [] → Rules bound (cut at passed ws)
unfolding cut broken_from
cut_rules bound at passed [] h = tt
cut_rules bound at zero (w ∷ ws) h =
    let later = broken_from bound (at + 1) (count_of w - 1) ws in
    let parts = nothing_both (here at (front_rules bound (w ∷ ws))) (cond (is_cut_short (w ∷ ws)) [] later) h in
    by (is_cut_short (w ∷ ws)) (nothing_here at (front_rules bound (w ∷ ws)) parts.left) parts.right (λ g. cut_rules bound (at + 1) (count_of w - 1) ws g)
  where
    by : (b : Bool) → cond b (count_rules (w ∷ ws)) (instruction_rules bound (take (count_of w) (w ∷ ws))) ≡ []
        → cond b [] (broken_from bound (at + 1) (count_of w - 1) ws) ≡ []
        → (broken_from bound (at + 1) (count_of w - 1) ws ≡ [] → Rules bound (cut (at + 1) (count_of w - 1) ws))
        → Rules bound (cond b [] ((record { offset = at; words = take (count_of w) (w ∷ ws) }) ∷ cut (at + 1) (count_of w - 1) ws))
    by true e g more = tt
    by false e g more = (e, more g)
cut_rules bound at (suc passed) (w ∷ ws) h = cut_rules bound (at + 1) passed ws h

both_are : (bound : ℕ) (is : List Instruction) → AllCounted is → Rules bound is → Are bound is
both_are bound [] h g = tt
both_are bound (i ∷ is) h g = (record { counted = h.0; rules = g.0 }, both_are bound is h.1 g.1)

-- the header and the instructions of words that break no rule
pub record IsRead (words : List ℕ) : Type 0 where
  pub version : slice_index words 1 ≡ 0x0001_0600
  pub some : 0 < slice_index words 3
  pub low : slice_index words 3 ≤ 4194303
  pub schema : slice_index words 4 ≡ 0
  pub are : Are (slice_index words 3) (code_of words).insts

both_true : (a b : Bool) → (a && b) ≡ true → (a ≡ true) × (b ≡ true)
both_true true b e = (refl, e)
both_true false b e = absurd (cc e)

same_number : (a b : ℕ) → (a == b) ≡ true → a ≡ b
same_number a b h = grind (arith, nat_tests)

above : (a b : ℕ) → nat_lt a b ≡ true → a < b
above a b h = grind (arith, nat_tests)

within : (a b : ℕ) → nat_le a b ≡ true → a ≤ b
within a b h = grind (arith, nat_tests)

pub is_read : (words : List ℕ) → first_in_decode words ≡ None → IsRead words
is_read words e =
    let all = nothing_first (group_1 words) (group_1_none words e) in
    let insts = instructions_broken words in
    let version = nothing_both (version_rule words) (header_bound_rule words ++ (schema_rule words ++ insts)) all in
    let bound = nothing_both (header_bound_rule words) (schema_rule words ++ insts) version.right in
    let schema = nothing_both (schema_rule words) insts bound.right in
    let version_passes = slice_index words 1 == 0x0001_0600 in
    let bound_passes = nat_lt 0 (slice_index words 3) && nat_le (slice_index words 3) 4194303 in
    let schema_passes = slice_index words 4 == 0 in
    let both = both_true (nat_lt 0 (slice_index words 3)) (nat_le (slice_index words 3) 4194303)
    (nothing_unless bound_passes 103 (nothing_here 3 (unless bound_passes 103) bound.left)) in
    record {
      version = same_number (slice_index words 1) 0x0001_0600 (nothing_unless version_passes 101 (nothing_here 1 (unless version_passes 101) version.left));
      some = above 0 (slice_index words 3) both.0;
      low = within (slice_index words 3) 4194303 both.1;
      schema = same_number (slice_index words 4) 0 (nothing_unless schema_passes 102 (nothing_here 4 (unless schema_passes 102) schema.left));
      are =
          both_are (slice_index words 3) (code_of words).insts (cut_counted 5 0 (drop 5 words))
          (cut_rules (slice_index words 3) 5 0 (drop 5 words) schema.right);
    }

-- ---- writing and reading again

pub counted_of : (bound : ℕ) (is : List Instruction) → Are bound is → AllCounted is
counted_of bound [] h = tt
counted_of bound (i ∷ is) h = (h.0.counted, counted_of bound is h.1)

front_none : (bound n : ℕ) (words rest : List ℕ) → count_of (slice_index (words ++ rest) 0) ≡ n → 0 < n → n ≤ length (words ++ rest)
    → take n (words ++ rest) ≡ words → instruction_rules bound words ≡ [] → front_rules bound (words ++ rest) ≡ []
front_none bound n words rest counted some long same rules =
    let not_short : is_cut_short (words ++ rest) ≡ false = grind (arith, nat_tests) in
    ap (λ (b : Bool). cond b (count_rules (words ++ rest))
    (instruction_rules bound (take (count_of (slice_index (words ++ rest) 0)) (words ++ rest)))) not_short
    ∙ ap (λ m. instruction_rules bound (take m (words ++ rest))) counted ∙ ap (instruction_rules bound) same ∙ rules

first_stays : (words rest : List ℕ) → 0 < length words → slice_index (words ++ rest) 0 ≡ slice_index words 0
first_stays [] rest h = absurd (omega arith)
first_stays (w ∷ ws) rest h = refl

-- induction on the instructions
pub none_broken : (bound at : ℕ) (is : List Instruction) → Are bound is → broken_from bound at 0 (flat_map (λ i. i.words) is) ≡ []
unfolding broken_from
none_broken bound at [] h = refl
none_broken bound at (i ∷ is) h =
    let rest : List ℕ = flat_map (λ (j : Instruction). j.words) is in
    let n : ℕ = length i.words in
    let long : n ≤ length (i.words ++ rest) = omega (arith, length-append i.words rest) in
    let counted : count_of (slice_index (i.words ++ rest) 0) ≡ n = ap count_of (first_stays i.words rest h.0.counted.some) ∙ h.0.counted.counted in
    broken_from-step bound at n (i.words ++ rest) counted h.0.counted.some long
    ∙ ap (λ (rules : List ℕ). here at rules ++ broken_from bound (at + n) 0 (drop n (i.words ++ rest)))
    (front_none bound n i.words rest counted h.0.counted.some long (take-append_seam i.words rest) h.0.rules)
    ∙ ap (broken_from bound (at + n) 0) (drop-append_seam i.words rest)
    ∙ none_broken bound (at + n) is h.1

none_group : (words : List ℕ) → slice_index words 1 ≡ 0x0001_0600 → 0 < slice_index words 3 → slice_index words 3 ≤ 4194303 → slice_index words 4 ≡ 0
    → instructions_broken words ≡ [] → group_1 words ≡ []
none_group words version some low schema insts =
    let v : (slice_index words 1 == 0x0001_0600) ≡ true = grind (arith, nat_tests) in
    let b : (nat_lt 0 (slice_index words 3) && nat_le (slice_index words 3) 4194303) ≡ true = grind (arith, nat_tests) in
    let s : (slice_index words 4 == 0) ≡ true = grind (arith, nat_tests) in
    ap (λ (t : Bool). here 1 (unless t 101) ++ (header_bound_rule words ++ (schema_rule words ++ instructions_broken words))) v
    ∙ ap (λ (t : Bool). here 3 (unless t 103) ++ (schema_rule words ++ instructions_broken words)) b
    ∙ ap (λ (t : Bool). here 4 (unless t 102) ++ instructions_broken words) s ∙ insts

-- no rule on the header and on instructions is broken
pub group_none : (code : Code) → code.header.version ≡ 0x0001_0600 → 0 < code.header.bound → code.header.bound ≤ 4194303 → code.header.schema ≡ 0
    → Are code.header.bound code.insts → first (group_1 (spelling code)) ≡ None
group_none code version some low schema are =
    ap first (none_group (spelling code) version some low schema (none_broken code.header.bound 5 code.insts are))
