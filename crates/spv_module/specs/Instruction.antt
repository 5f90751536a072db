-- Instructions: words of which the first has the number of words in its high half and the opcode in its
-- low half (SPIR-V Specification, section 2.3).
use Rattle.std.specs.Prelude.{◌≡◌, ℕ, ◌<◌, ◌^◌, Bool, true, false, ◌==◌, ◌&&◌, ◌||◌, not, nat_lt, nat_le, if◌then◌else◌, List, [], ◌∷◌, ◌++◌, length, drop, Option, Some, None, Result, Ok, Err, position, slice_get, slice_index, take_while}
use Rattle.std.specs.List.{list_any, zip}
use Rattle.std.specs.Option.{option_and_then}
use Rattle.spv_grammar.specs.declared.kind.Role.{Role}
use Rattle.spv_grammar.specs.Operands.{roles_of, opcode_of, count_of}
use Rattle.spv_grammar.specs.Roles.{is_type_id, is_defined_id, is_used_id, names_id, is_front, is_unknown, is_bad_octets}

-- an instruction, and the place of its first word in the module
pub record Instruction : Type 0 where
  pub offset : ℕ
  pub words : List ℕ

abbrev pub opcode : Instruction → ℕ
opcode i = opcode_of (slice_index i.words 0)

-- the part that each word plays; none where the words do not fit the opcode
abbrev pub parts : Result (List Role) ℕ → List Role
parts (Ok roles) = roles
parts (Err rule) = []

abbrev pub roles : Instruction → List Role
roles i = parts (roles_of i.words)

-- an id is 0 or not below the bound
abbrev pub is_out_of_bound : ℕ → ℕ → Bool
is_out_of_bound bound id = id == 0 || nat_le bound id

-- 103 Bound, in an instruction: an id of it is 0 or not below the bound
abbrev pub bound_rule : ℕ → List Role → List ℕ → List ℕ
bound_rule bound roles words = if list_any (λ part. names_id part.0 && is_out_of_bound bound part.1) (zip roles words) then 103 ∷ [] else []

-- 108 BadString: a string has no octet of zero, is not UTF-8, or is padded with another octet than zero
abbrev pub string_rule : List Role → List ℕ
string_rule roles = if list_any is_bad_octets roles then 108 ∷ [] else []

-- 109 BadEnumerant: an enumerant, a mask or the name of an import is not one of the profile
abbrev pub enumerant_rule : List Role → List ℕ
enumerant_rule roles = if list_any is_unknown roles then 109 ∷ [] else []

-- the rules that an instruction with these parts breaks; one that breaks 108 is looked at no further
abbrev pub part_rules : List ℕ → ℕ → List Role → List ℕ → List ℕ
part_rules [] bound roles words = bound_rule bound roles words ++ enumerant_rule roles
part_rules (rule ∷ rules) bound roles words = rule ∷ rules

-- the rules that an instruction breaks, below a bound of ids; one that breaks 106 UnknownOpcode or 107 OperandCount is looked at no further
abbrev pub roles_rules : ℕ → List ℕ → Result (List Role) ℕ → List ℕ
roles_rules bound words (Err rule) = rule ∷ []
roles_rules bound words (Ok roles) = part_rules (string_rule roles) bound roles words

unfoldable pub instruction_rules : ℕ → List ℕ → List ℕ
instruction_rules bound words = roles_rules bound words (roles_of words)

-- words of one instruction of the profile, whatever the bound of its module: its word count is their number, and it breaks no rule
pub record IsInstruction (words : List ℕ) (roles : List Role) : Type 0 where
  pub some : 0 < length words
  pub counted : count_of (slice_index words 0) ≡ length words
  pub parted : roles_of words ≡ Ok roles
  pub long : length roles ≡ length words
  pub unbroken : instruction_rules (2 ^ 32) words ≡ []

-- the word of the first part that passes the test
abbrev pub word_with : (Role → Bool) → Instruction → Option ℕ
word_with test i = option_and_then (slice_get i.words) (position test (roles i))

-- the operands: the words behind the first one, the result's type and the result
abbrev pub front : Instruction → ℕ
front i = length (take_while is_front (roles i))

abbrev pub operands : Instruction → List ℕ
operands i = drop (front i) i.words

abbrev pub operand_roles : Instruction → List Role
operand_roles i = drop (front i) (roles i)
