-- When words are an instruction of the profile.
use Rattle.std.proofs.Common.{◌≡◌, ℕ, ◌<◌, ◌^◌, List, [], length, Option, Some, None, Result, Ok, Err, refl, sym, ap, subst, ◌∙◌}
use Rattle.spv_grammar.specs.declared.kind.Role.{Role}
use Rattle.std.specs.List.{slice_index}
use Rattle.spv_grammar.proofs.RoleCounts.{length-roles_of}
use Rattle.spv_grammar.specs.Operands.{roles_of, behind, count_of, Reads}
use Rattle.spv_module.specs.Instruction.{IsInstruction, parts, roles_rules, instruction_rules}

-- what was read in front of nothing
behind_nil : (expected : Result (List Role) ℕ) → behind [] expected ≡ expected
behind_nil (Err rule) = refl
behind_nil (Ok roles) = refl

from_behind : (expected : Result (List Role) ℕ) (old : List Role) (rule : ℕ) → behind old expected ≡ Err rule → expected ≡ Err rule
from_behind (Err found) old rule h = h
from_behind (Ok roles) old rule h = cc

no_rule : (bound : ℕ) (words : List ℕ) (expected : Result (List Role) ℕ) (rule : ℕ) → expected ≡ Err rule → roles_rules bound words expected ≡ [] → ⊥
no_rule bound words (Err found) rule e h = cc
no_rule bound words (Ok roles) rule e h = cc

-- words that break no rule have parts
pub no_misfit : (bound : ℕ) (words : List ℕ) (rule : ℕ) → roles_of words ≡ Err rule → instruction_rules bound words ≡ [] → ⊥
unfolding instruction_rules
no_misfit bound words rule e h = no_rule bound words (roles_of words) rule e h

-- reading words that break no rule gives no rule
pub misread : (bound : ℕ) (words : List ℕ) (old new : List Role) (rule : ℕ) → Reads (roles_of words) old new (Some rule) → instruction_rules bound words ≡ [] → ⊥
misread bound words old new rule h unbroken = no_misfit bound words rule (from_behind (roles_of words) old rule h) unbroken

-- reading words that break no rule gives their parts
pub read_parts : (bound : ℕ) (words : List ℕ) (new : List Role) (broken : Option ℕ) → Reads (roles_of words) [] new broken → instruction_rules bound words ≡ [] → roles_of words ≡ Ok new
read_parts bound words new None h unbroken = sym (behind_nil (roles_of words)) ∙ h
read_parts bound words new (Some rule) h unbroken = absurd (no_misfit bound words rule (sym (behind_nil (roles_of words)) ∙ h) unbroken)

-- words that were read in front of nothing are an instruction, where their count is right and they break no rule
pub whole_as_read : (words words2 : List ℕ) (old new : List Role) (broken : Option ℕ) → old ≡ [] → words2 ≡ words → Reads (roles_of words) old new broken → 0 < length words → count_of (slice_index words 0) ≡ length words →
    instruction_rules (2 ^ 32) words ≡ [] → IsInstruction words2 new
whole_as_read words words2 old new broken empty same h some counted unbroken =
    let parted : roles_of words ≡ Ok new = read_parts (2 ^ 32) words new broken (subst (λ (front : List Role). Reads (roles_of words) front new broken) empty h) unbroken in
    rw same (record { some = some; counted = counted; parted = parted; long = length-roles_of words new parted; unbroken = unbroken })

-- what was read of such words in front of nothing are the parts that they spell
pub parts_read : (words : List ℕ) (old new : List Role) (broken : Option ℕ) → old ≡ [] → Reads (roles_of words) old new broken → instruction_rules (2 ^ 32) words ≡ [] → new ≡ parts (roles_of words)
parts_read words old new broken empty h unbroken =
    sym (ap parts (read_parts (2 ^ 32) words new broken (subst (λ (front : List Role). Reads (roles_of words) front new broken) empty h) unbroken))

have_parts : (bound : ℕ) (words : List ℕ) (expected : Result (List Role) ℕ) → roles_of words ≡ expected → instruction_rules bound words ≡ [] → roles_of words ≡ Ok (parts expected)
have_parts bound words (Ok roles) e h = e
have_parts bound words (Err rule) e h = absurd (no_misfit bound words rule e h)

-- such words are an instruction with the parts that they spell
pub whole_by_words : (words : List ℕ) → 0 < length words → count_of (slice_index words 0) ≡ length words → instruction_rules (2 ^ 32) words ≡ [] → IsInstruction words (parts (roles_of words))
whole_by_words words some counted unbroken =
    let parted : roles_of words ≡ Ok (parts (roles_of words)) = have_parts (2 ^ 32) words (roles_of words) refl unbroken in
    record { some = some; counted = counted; parted = parted; long = length-roles_of words (parts (roles_of words)) parted; unbroken = unbroken }
