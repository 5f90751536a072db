-- The ids of an instruction are above 0.
use Rattle.std.proofs.Common.{◌≡◌, ℕ, ◌<◌, ◌^◌, Bool, true, false, ◌&&◌, ◌||◌, ◌==◌, not, nat_lt, nat_le, List, [], ◌∷◌, ◌++◌, length, get_or, cond, Option, Some, None, Result, Ok, Err, refl, sym, ap, subst, ◌∙◌, arith}
use Rattle.std.specs.List.{list_any, zip, position}
use Rattle.std.proofs.lemmas.List.Folds.{list_any_at}
use Rattle.std.proofs.lemmas.List.Quantifiers.{position-Some}
use Rattle.std.proofs.lemmas.Slice.Zip.{get_or-zip, length-zip}
use Rattle.std.proofs.lemmas.Option.{slice_get-get_or}
use Rattle.std.specs.Option.{option_and_then, SomeIff}
use Rattle.std.specs.List.{slice_get}
use Rattle.std.proofs.lemmas.Bool.{false≢true}
use Rattle.std.proofs.lemmas.Bool.Decides.{nat_tests}
use Rattle.spv_grammar.specs.declared.kind.Role.{Role}
use Rattle.spv_grammar.specs.declared.kind.Role.TheVariants.{Opcode, TypeId, DefinedId, UsedId, Literal, Octets, UnknownEnumerant, BadOctets}
use Rattle.spv_grammar.specs.Operands.{roles_of}
use Rattle.spv_grammar.specs.Roles.{is_type_id, is_defined_id, names_id}
use Rattle.spv_module.specs.Instruction.{Instruction, IsInstruction, bound_rule, string_rule, enumerant_rule, part_rules, roles_rules, instruction_rules, is_out_of_bound, parts}

-- a part of an instruction that names an id which is out of bound
abbrev pub is_bad_part : ℕ → Role × ℕ → Bool
is_bad_part bound part = names_id part.0 && is_out_of_bound bound part.1

-- nothing in front of or behind no rule
pub first_nil : (xs ys : List ℕ) → xs ++ ys ≡ [] → xs ≡ []
first_nil [] ys h = refl
first_nil (x ∷ xs) ys h = cc

pub second_nil : (xs ys : List ℕ) → xs ++ ys ≡ [] → ys ≡ []
second_nil [] ys h = h
second_nil (x ∷ xs) ys h = cc

pub no_bad_part : (b : Bool) (rule : ℕ) → cond b (rule ∷ []) [] ≡ [] → b ≡ false
no_bad_part true rule h = cc
no_bad_part false rule h = refl

unbroken_parts : (rules : List ℕ) (bound : ℕ) (roles : List Role) (words : List ℕ) → part_rules rules bound roles words ≡ [] → list_any (is_bad_part bound) (zip roles words) ≡ false
unbroken_parts [] bound roles words h = no_bad_part (list_any (is_bad_part bound) (zip roles words)) 103 (first_nil (bound_rule bound roles words) (enumerant_rule roles) h)
unbroken_parts (rule ∷ rules) bound roles words h = cc

unbroken_roles : (bound : ℕ) (words : List ℕ) (expected : Result (List Role) ℕ) (roles : List Role) → expected ≡ Ok roles → roles_rules bound words expected ≡ [] → list_any (is_bad_part bound) (zip roles words) ≡ false
unbroken_roles bound words (Err rule) roles e h = cc
unbroken_roles bound words (Ok found) roles e h =
    let same : found ≡ roles = cc in
    subst (λ (rs : List Role). list_any (is_bad_part bound) (zip rs words) ≡ false) same (unbroken_parts (string_rule found) bound found words h)

-- an instruction that breaks no rule has no id out of bound
pub no_bad_parts : (bound : ℕ) (words : List ℕ) (roles : List Role) → roles_of words ≡ Ok roles → instruction_rules bound words ≡ [] → list_any (is_bad_part bound) (zip roles words) ≡ false
unfolding instruction_rules
no_bad_parts bound words roles e h = unbroken_roles bound words (roles_of words) roles e h

-- the word at a place that names an id
pub id_above_zero : (words : List ℕ) (roles : List Role) (p : ℕ) → IsInstruction words roles → p < length roles → names_id (get_or roles p Opcode) ≡ true → 0 < get_or words p 0
id_above_zero words roles p whole here names =
    let fits : p < length words = omega (arith, whole.long) in
    let none = no_bad_parts (2 ^ 32) words roles whole.parted whole.unbroken in
    let pair = get_or-zip roles words p (Opcode, 0) here fits in
    let not_zero : get_or words p 0 ≡ 0 → ⊥ = λ zero_word.
    false≢true (sym none ∙ list_any_at (is_bad_part (2 ^ 32)) (zip roles words) p (Opcode, 0) (omega (arith, length-zip roles words)) (rw (pair, names, zero_word) refl)) in
    omega (arith, not_zero)

defined_names_id : (role : Role) → is_defined_id role ≡ true → names_id role ≡ true
defined_names_id role h = grind (arith)

type_names_id : (role : Role) → is_type_id role ≡ true → names_id role ≡ true
type_names_id role h = grind (arith)

some_if : (r : Option ℕ) (n : ℕ) → 0 < n → SomeIff r (0 < n) n → r ≡ Some n
some_if None n above h = absurd (h above)
some_if (Some x) n above h = ap Some h.1

-- an id made of the word at the first place that passes a test is the word with that part
id_at : (test : Role → Bool) → ((role : Role) → test role ≡ true → names_id role ≡ true) → (words : List ℕ) (roles : List Role) (p : ℕ) → IsInstruction words roles → position test roles ≡ Some p →
    (r : Option ℕ) → SomeIff r (0 < get_or words p 0) (get_or words p 0) → r ≡ option_and_then (slice_get words) (position test (parts (roles_of words)))
id_at test names words roles p whole place r made =
    let first = position-Some test roles p Opcode place in
    let above = id_above_zero words roles p whole first.0 (names (get_or roles p Opcode) first.1) in
    let fits : p < length words = omega (arith, whole.long, first.0) in
    some_if r (get_or words p 0) above made ∙ sym (rw (whole.parted, place) (slice_get-get_or words p 0 fits))

pub result_at : (words : List ℕ) (roles : List Role) (p : ℕ) → IsInstruction words roles → position is_defined_id roles ≡ Some p →
    (r : Option ℕ) → SomeIff r (0 < get_or words p 0) (get_or words p 0) → r ≡ option_and_then (slice_get words) (position is_defined_id (parts (roles_of words)))
result_at = id_at is_defined_id defined_names_id

pub type_at : (words : List ℕ) (roles : List Role) (p : ℕ) → IsInstruction words roles → position is_type_id roles ≡ Some p →
    (r : Option ℕ) → SomeIff r (0 < get_or words p 0) (get_or words p 0) → r ≡ option_and_then (slice_get words) (position is_type_id (parts (roles_of words)))
type_at = id_at is_type_id type_names_id
