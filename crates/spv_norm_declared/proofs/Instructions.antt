-- Words that are counted and break no rule below a bound: their parts, and the ids that they name.
use Rattle.std.proofs.Common.{◌≡◌, ℕ, zero, suc, ◌%◌, ◌<◌, ◌≤◌, ◌^◌, max, Bool, true, false, cond, ◌&&◌, ◌||◌, ◌==◌, List, [], ◌∷◌, ◌++◌, map, Some, Result, Ok, Err, refl, sym, ap, subst, ◌∙◌, arith}
use Rattle.std.specs.List.{AllByRecursion, filter, list_any, zip, slice_get}
use Rattle.std.proofs.lemmas.Bool.{false≢true}
use Rattle.std.proofs.lemmas.Bool.Decides.{nat_tests}
use Rattle.spv_opcodes.specs.declared.op.TheConstants as op
use Rattle.spv_grammar.specs.declared.kind.Role.{Role}
use Rattle.spv_grammar.specs.declared.kind.Role.TheVariants.{Opcode}
use Rattle.spv_grammar.specs.Operands.{roles_of, operand_roles, fitted, behind}
use Rattle.spv_grammar.specs.Roles.{names_id}
use Rattle.spv_grammar.specs.Table.{Shape, row_of}
use Rattle.spv_grammar.proofs.RoleCounts.{length-roles_of}
use Rattle.spv_module.specs.Instruction.{Instruction, IsInstruction, roles, parts, bound_rule, string_rule, enumerant_rule, part_rules, roles_rules, instruction_rules, is_out_of_bound}
use Rattle.spv_module.proofs.Ids.{is_bad_part, first_nil, second_nil, no_bad_part, no_bad_parts}
use Rattle.spv_module.proofs.Unbroken.{loosened}
use Rattle.spv_module.proofs.Whole.{no_misfit}
use Rattle.spv_bound.specs.Bound.{greatest, words_with}
use Rattle.spv_machine.proofs.Spelling.{IsCounted}

-- ---- instructions that break no rule

pub record IsUnbroken (bound : ℕ) (words : List ℕ) : Type 0 where
  pub counted : IsCounted words
  pub rules : instruction_rules bound words ≡ []

abbrev pub Are : (bound : ℕ) → List Instruction → Type 0
Are bound insts = AllByRecursion (λ i. IsUnbroken bound i.words) insts

abbrev pub LinesAre : (bound : ℕ) → List (List ℕ) → Type 0
LinesAre bound lines = AllByRecursion (IsUnbroken bound) lines

whole_by : (bound : ℕ) (words : List ℕ) (r : Result (List Role) ℕ) → roles_of words ≡ r → bound ≤ 2 ^ 32 → IsUnbroken bound words
    → IsInstruction words (parts r)
whole_by bound words (Ok rs) e low h = record {
  some = h.counted.some;
  counted = h.counted.counted;
  parted = e;
  long = length-roles_of words rs e;
  unbroken = loosened bound (2 ^ 32) words low h.rules;
}
whole_by bound words (Err rule) e low h = absurd (no_misfit bound words rule e h.rules)

pub is_instruction : (bound : ℕ) (i : Instruction) → bound ≤ 2 ^ 32 → IsUnbroken bound i.words → IsInstruction i.words (roles i)
is_instruction bound i low h = whole_by bound i.words (roles_of i.words) refl low h

pub each_instruction : (bound : ℕ) (insts : List Instruction) → bound ≤ 2 ^ 32 → Are bound insts
    → (k : ℕ) (i : Instruction) → slice_get insts k ≡ Some i → IsInstruction i.words (roles i)
each_instruction bound [] low h k i e = absurd (cc e)
each_instruction bound (x ∷ xs) low h zero i e =
    let same : x ≡ i = cc e in
    subst (λ (j : Instruction). IsInstruction j.words (roles j)) same (is_instruction bound x low h.0)
each_instruction bound (x ∷ xs) low h (suc k) i e = each_instruction bound xs low h.1 k i e

-- ---- parts

-- the parts of an instruction that breaks no rule
pub record HasParts (words : List ℕ) : Type 0 where
  pub roles : List Role
  pub parted : roles_of words ≡ Ok roles

parts_by : (bound : ℕ) (words : List ℕ) (r : Result (List Role) ℕ) → roles_of words ≡ r → instruction_rules bound words ≡ [] → HasParts words
parts_by bound words (Ok rs) e h = record { roles = rs; parted = e }
parts_by bound words (Err rule) e h = absurd (no_misfit bound words rule e h)

pub has_parts : (bound : ℕ) (words : List ℕ) → instruction_rules bound words ≡ [] → HasParts words
has_parts bound words h = parts_by bound words (roles_of words) refl h

-- where they are those of no bad string and no unknown enumerant, and no id is out of bound, no rule is broken
pub fine_parts : (bound : ℕ) (words : List ℕ) (roles : List Role) → roles_of words ≡ Ok roles → string_rule roles ≡ [] → enumerant_rule roles ≡ []
    → list_any (is_bad_part bound) (zip roles words) ≡ false → instruction_rules bound words ≡ []
unfolding instruction_rules
fine_parts bound words roles parted strings marks ids =
    ap (roles_rules bound words) parted ∙ ap (λ rs. part_rules rs bound roles words) strings
    ∙ ap (λ (b : Bool). cond b (103 ∷ []) [] ++ enumerant_rule roles) ids ∙ marks

-- the parts of an opcode's words are those of its row
pub by_row : (h k : ℕ) (shape : Shape) (ws : List ℕ) → h % 65536 ≡ k → (k == op.SPEC_CONSTANT_OP) ≡ false → row_of k ≡ Some shape
    → roles_of (h ∷ ws) ≡ behind (Opcode ∷ []) (fitted (operand_roles shape.kinds ws))
unfolding roles_of
by_row h k shape ws e other row = rw (e, other, row) refl

-- ---- bounds

both_false : (a b : Bool) → (a || b) ≡ false → (a ≡ false) × (b ≡ false)
both_false true b h = absurd (false≢true (sym h))
both_false false b h = (refl, h)

abbrev ids : List (Role × ℕ) → List ℕ
ids ps = map (λ part. part.1) (filter (λ part. names_id part.0) ps)

in_bound : (low high id : ℕ) → is_out_of_bound low id ≡ false → id < high → is_out_of_bound high id ≡ false
in_bound low high id h lt = grind (arith, nat_tests)

max_left : (x y b : ℕ) → max x y < b → x < b
max_left x y b h = omega arith

max_right : (x y b : ℕ) → max x y < b → y < b
max_right x y b h = omega arith

-- ids that are not out of one bound, and all below another, are not out of that
tight_ids : (low high : ℕ) (ps : List (Role × ℕ)) → list_any (is_bad_part low) ps ≡ false → greatest (ids ps) < high → list_any (is_bad_part high) ps ≡ false
tight_ids low high [] h lt = refl
tight_ids low high (p ∷ ps) h lt =
    by (names_id p.0) (both_false (names_id p.0 && is_out_of_bound low p.1) (list_any (is_bad_part low) ps) h) lt (λ g k. tight_ids low high ps g k)
  where
    by : (b : Bool) → ((b && is_out_of_bound low p.1) ≡ false) × (list_any (is_bad_part low) ps ≡ false)
        → greatest (map (λ part. part.1) (cond b (p ∷ filter (λ part. names_id part.0) ps) (filter (λ part. names_id part.0) ps))) < high
        → (list_any (is_bad_part low) ps ≡ false → greatest (ids ps) < high → list_any (is_bad_part high) ps ≡ false)
        → ((b && is_out_of_bound high p.1) || list_any (is_bad_part high) ps) ≡ false
    by true h lt more =
        ap (λ (x : Bool). x || list_any (is_bad_part high) ps) (in_bound low high p.1 h.0 (max_left p.1 (greatest (ids ps)) high lt))
        ∙ more h.1 (max_right p.1 (greatest (ids ps)) high lt)
    by false h lt more = more h.1 lt

tight_rules : (rules : List ℕ) (low high : ℕ) (roles : List Role) (words : List ℕ) → part_rules rules low roles words ≡ []
    → greatest (ids (zip roles words)) < high → part_rules rules high roles words ≡ []
tight_rules [] low high roles words e lt =
    let none = no_bad_part (list_any (is_bad_part low) (zip roles words)) 103 (first_nil (bound_rule low roles words) (enumerant_rule roles) e) in
    let others = second_nil (bound_rule low roles words) (enumerant_rule roles) e in
    let still = tight_ids low high (zip roles words) none lt in
    ap (λ (b : Bool). cond b (103 ∷ []) [] ++ enumerant_rule roles) still ∙ others
tight_rules (rule ∷ rules) low high roles words e lt = e

tight_roles : (low high : ℕ) (words : List ℕ) (r : Result (List Role) ℕ) → roles_rules low words r ≡ [] → greatest (ids (zip (parts r) words)) < high
    → roles_rules high words r ≡ []
tight_roles low high words (Err rule) e lt = e
tight_roles low high words (Ok roles) e lt = tight_rules (string_rule roles) low high roles words e lt

-- what breaks no rule below one bound breaks none below another, if its ids are below that
pub tightened : (low high : ℕ) (i : Instruction) → instruction_rules low i.words ≡ [] → greatest (words_with names_id i) < high
    → instruction_rules high i.words ≡ []
unfolding instruction_rules
tightened low high i e lt = tight_roles low high i.words (roles_of i.words) e lt

below : (bound id : ℕ) → is_out_of_bound bound id ≡ false → id < bound
below bound id h = grind (arith, nat_tests)

-- and all ids are below the first
ids_below : (bound : ℕ) (ps : List (Role × ℕ)) → 0 < bound → list_any (is_bad_part bound) ps ≡ false → greatest (ids ps) < bound
ids_below bound [] some h = some
ids_below bound (p ∷ ps) some h =
    by (names_id p.0) (both_false (names_id p.0 && is_out_of_bound bound p.1) (list_any (is_bad_part bound) ps) h) (λ g. ids_below bound ps some g)
  where
    by : (b : Bool) → ((b && is_out_of_bound bound p.1) ≡ false) × (list_any (is_bad_part bound) ps ≡ false)
        → (list_any (is_bad_part bound) ps ≡ false → greatest (ids ps) < bound)
        → greatest (map (λ part. part.1) (cond b (p ∷ filter (λ part. names_id part.0) ps) (filter (λ part. names_id part.0) ps))) < bound
    by true h more =
        let here = below bound p.1 h.0 in
        let later = more h.1 in
        omega (arith, here, later)
    by false h more = more h.1

below_by : (bound : ℕ) (words : List ℕ) (r : Result (List Role) ℕ) → roles_of words ≡ r → 0 < bound → instruction_rules bound words ≡ []
    → greatest (ids (zip (parts r) words)) < bound
below_by bound words (Ok rs) e some h = ids_below bound (zip rs words) some (no_bad_parts bound words rs e h)
below_by bound words (Err rule) e some h = some

pub greatest_below : (bound : ℕ) (i : Instruction) → 0 < bound → instruction_rules bound i.words ≡ [] → greatest (words_with names_id i) < bound
greatest_below bound i some h = below_by bound i.words (roles_of i.words) refl some h
