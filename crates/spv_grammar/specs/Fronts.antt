-- What stands in front of an instruction's operands: the first word, the result's type and the result.
use Rattle.std.specs.Prelude.{◌≡◌, ℕ, Bool, true, false, List, length, drop, Option, Some, None, Ok, slice_index, take_while}
use Rattle.std.specs.List.{list_any}
use Rattle.spv_grammar.specs.declared.kind.Role.{Role}
use Rattle.spv_grammar.specs.declared.kind.Kind.{Kind}
use Rattle.spv_grammar.specs.declared.kind.Kind.TheVariants.{ResultType, ResultId}
use Rattle.spv_grammar.specs.Table.{Shape, row_of}
use Rattle.spv_grammar.specs.Operands.{opcode_of, roles_of}
use Rattle.spv_grammar.specs.Roles.{is_front}

abbrev pub is_result : Kind → Bool
is_result ResultId = true
is_result _ = false

abbrev pub is_result_type : Kind → Bool
is_result_type ResultType = true
is_result_type _ = false

-- a row has an operand that passes the test
abbrev pub row_has : (Kind → Bool) → Option Shape → Bool
row_has test None = false
row_has test (Some shape) = list_any test shape.kinds

-- the opcode's instructions define an id; that id has a type
abbrev pub has_result : ℕ → Bool
has_result opcode = row_has is_result (row_of opcode)

abbrev pub has_result_type : ℕ → Bool
has_result_type opcode = row_has is_result_type (row_of opcode)

-- the answer says whether an instruction of the opcode has a word whose part passes the test
abbrev pub Tells : (Role → Bool) → ℕ → Bool → Type 0
Tells test opcode answer =
    (words : List ℕ) (roles : List Role) → opcode_of (slice_index words 0) ≡ opcode → roles_of words ≡ Ok roles → list_any test roles ≡ answer

-- how many parts stand in front of those of the operands
abbrev pub front_count : List Role → ℕ
front_count roles = length (take_while is_front roles)

-- in the parts of an instruction, none behind so many is the first word's, a result's type or a result
abbrev pub IsAloneInFront : ℕ → List Role → Type 0
IsAloneInFront n roles = (words : List ℕ) → roles_of words ≡ Ok roles → list_any is_front (drop n roles) ≡ false
