-- Instructions that break no rule, below one bound of ids and below a higher one.
use Rattle.std.proofs.Common.{◌≡◌, ℕ, ◌<◌, ◌≤◌, ◌^◌, Bool, true, false, cond, ◌&&◌, ◌||◌, ◌==◌, nat_le, List, [], ◌∷◌, ◌++◌, length, take, Option, Some, None, Result, Ok, Err, refl, sym, ap, subst, ◌∙◌, arith}
use Rattle.std.specs.List.{list_any, zip, slice_index}
use Rattle.std.proofs.lemmas.Bool.Decides.{nat_tests}
use Rattle.std.proofs.lemmas.List.{length-take, get_or-take}
use Rattle.spv_grammar.specs.declared.kind.Role.{Role}
use Rattle.spv_grammar.specs.Operands.{roles_of, count_of}
use Rattle.spv_grammar.specs.Roles.{names_id}
use Rattle.spv_grammar.proofs.RoleCounts.{length-roles_of}
use Rattle.spv_module.specs.Broken.{front_rules, count_rules}
use Rattle.spv_module.specs.Code.{is_cut_short}
use Rattle.spv_module.specs.First.{least}
use Rattle.spv_module.specs.Instruction.{IsInstruction, bound_rule, string_rule, enumerant_rule, part_rules, roles_rules, instruction_rules, is_out_of_bound}
use Rattle.spv_module.specs.Reading.{IsFront}
use Rattle.std.proofs.lemmas.Bool.{false≢true}
use Rattle.spv_module.proofs.Ids.{is_bad_part, first_nil, second_nil, no_bad_part}

pub nil_from_least : (rules : List ℕ) → least rules ≡ None → rules ≡ []
nil_from_least [] h = refl
nil_from_least (rule ∷ rules) h = cc

both_false : (a b : Bool) → (a || b) ≡ false → (a ≡ false) × (b ≡ false)
both_false true b h = absurd (false≢true (sym h))
both_false false b h = (refl, h)

false_when : (a b : Bool) → (a ≡ true → b ≡ true) → b ≡ false → a ≡ false
false_when true b h no_b = absurd (false≢true (sym no_b ∙ h refl))
false_when false b h no_b = refl

-- a test that passes nowhere, where one that passes more often passes nowhere
none_as_well : {X : Type 0} (p q : X → Bool) (xs : List X) → ((x : X) → p x ≡ true → q x ≡ true) → list_any q xs ≡ false → list_any p xs ≡ false
none_as_well p q [] h none = refl
none_as_well p q (x ∷ xs) h none =
    let parts = both_false (q x) (list_any q xs) none in
    rw (false_when (p x) (q x) (h x) parts.0, none_as_well p q xs h parts.1) refl

bad_below : (low high : ℕ) (role : Role) (id : ℕ) → low ≤ high → is_bad_part high (role, id) ≡ true → is_bad_part low (role, id) ≡ true
bad_below low high role id h bad = grind (arith, nat_tests)

loosened_parts : (rules : List ℕ) (low high : ℕ) (roles : List Role) (words : List ℕ) → low ≤ high → part_rules rules low roles words ≡ [] → part_rules rules high roles words ≡ []
loosened_parts [] low high roles words h e =
    let none = no_bad_part (list_any (is_bad_part low) (zip roles words)) 103 (first_nil (bound_rule low roles words) (enumerant_rule roles) e) in
    let others = second_nil (bound_rule low roles words) (enumerant_rule roles) e in
    let still = none_as_well (is_bad_part high) (is_bad_part low) (zip roles words) (λ (part : Role × ℕ). bad_below low high part.0 part.1 h) none in
    rw (still, others) refl
loosened_parts (rule ∷ rules) low high roles words h e = e

loosened_roles : (low high : ℕ) (words : List ℕ) (expected : Result (List Role) ℕ) → low ≤ high → roles_rules low words expected ≡ [] → roles_rules high words expected ≡ []
loosened_roles low high words (Err rule) h e = e
loosened_roles low high words (Ok roles) h e = loosened_parts (string_rule roles) low high roles words h e

-- what breaks no rule below a bound breaks none below a higher one
pub loosened : (low high : ℕ) (words : List ℕ) → low ≤ high → instruction_rules low words ≡ [] → instruction_rules high words ≡ []
unfolding instruction_rules
loosened low high words h e = loosened_roles low high words (roles_of words) h e

whole_in_front : (bound n : ℕ) (words : List ℕ) (roles : List Role) → bound ≤ 2 ^ 32 → count_of (slice_index words 0) ≡ n → 0 < n → n ≤ length words → roles_of (take n words) ≡ Ok roles → instruction_rules bound (take n words) ≡ [] → IsInstruction (take n words) roles
whole_in_front bound n words roles below counted some within parted unbroken =
    let long : length (take n words) ≡ n = omega (arith, length-take n words) in
    record {
      some = omega (arith, long);
      counted = ap count_of (get_or-take n words 0 0 some) ∙ counted ∙ sym long;
      parted = parted;
      long = length-roles_of (take n words) roles parted;
      unbroken = loosened bound (2 ^ 32) (take n words) below unbroken;
    }

-- the instruction in front, where its word count is right and it breaks no rule
pub front_is : (bound n : ℕ) (words : List ℕ) (roles : List Role) → bound ≤ 2 ^ 32 → count_of (slice_index words 0) ≡ n → 0 < n → n ≤ length words → roles_of (take n words) ≡ Ok roles → instruction_rules bound (take n words) ≡ [] →
    IsFront bound words roles n
front_is bound n words roles below counted some within parted unbroken = record {
  unbroken = let not_short : is_cut_short words ≡ false = grind (arith, nat_tests) in rw (not_short, counted) unbroken;
  counted = counted;
  some = some;
  within = within;
  rules = unbroken;
  whole = whole_in_front bound n words roles below counted some within parted unbroken;
}
