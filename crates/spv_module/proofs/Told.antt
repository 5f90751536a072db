-- An instruction has a result, or a result's type, exactly where the row of its opcode has.
use Rattle.std.proofs.Common.{◌≡◌, ℕ, ◌<◌, ◌^◌, Bool, true, false, not, nat_lt, List, [], ◌∷◌, length, cond, Option, Some, None, Result, Ok, Err, refl, sym, ap, subst, ◌∙◌, arith, get_or}
use Rattle.std.specs.List.{list_any, position, position_or_len, slice_get}
use Rattle.std.specs.Option.{is_some, option_and_then}
use Rattle.std.proofs.lemmas.Bool.Decides.{nat_tests}
use Rattle.std.proofs.lemmas.List.Quantifiers.{position-Some}
use Rattle.std.proofs.lemmas.Option.{slice_get-get_or}
use Rattle.spv_grammar.specs.declared.kind.Role.{Role}
use Rattle.spv_grammar.specs.declared.kind.Role.TheVariants.{Opcode}
use Rattle.spv_grammar.specs.Operands.{roles_of, opcode_of}
use Rattle.spv_grammar.specs.Roles.{is_type_id, is_defined_id}
use Rattle.spv_grammar.specs.Fronts.{has_result, has_result_type}
use Rattle.spv_grammar.proofs.FrontParts.{defined_where_row_has_result, typed_where_row_has_result_type}
use Rattle.spv_module.specs.Instruction.{Instruction, IsInstruction, word_with, opcode, parts}

-- a test passes before the end exactly where one element passes it
passes_before_end : (test : Role → Bool) (roles : List Role) → nat_lt (position_or_len test roles) (length roles) ≡ list_any test roles
passes_before_end test [] = refl
passes_before_end test (role ∷ roles) =
    let behind = passes_before_end test roles in
    grind (arith, nat_tests)

some_of_cond : (b : Bool) (n : ℕ) → is_some (cond b (Some n) None) ≡ b
some_of_cond true n = refl
some_of_cond false n = refl

pub some_where_any : (test : Role → Bool) (roles : List Role) → is_some (position test roles) ≡ list_any test roles
some_where_any test roles = some_of_cond (nat_lt (position_or_len test roles) (length roles)) (position_or_len test roles) ∙ passes_before_end test roles

-- a word stands at each place of a part
some_word : (test : Role → Bool) (words : List ℕ) (roles : List Role) → length roles ≡ length words → (place : Option ℕ) → position test roles ≡ place →
    is_some (option_and_then (slice_get words) place) ≡ is_some place
some_word test words roles long None e = refl
some_word test words roles long (Some p) e =
    let first = position-Some test roles p Opcode e in
    let fits : p < length words = omega (arith, long, first.0) in
    ap is_some (slice_get-get_or words p 0 fits)

told : (test : Role → Bool) (words : List ℕ) (roles : List Role) → IsInstruction words roles →
    is_some (option_and_then (slice_get words) (position test (parts (roles_of words)))) ≡ list_any test roles
told test words roles whole =
    rw (whole.parted) (some_word test words roles whole.long (position test roles) refl ∙ some_where_any test roles)

-- a word with the part of a result is there where the row has a result
pub result_told : (words : List ℕ) (roles : List Role) → IsInstruction words roles →
    is_some (option_and_then (slice_get words) (position is_defined_id (parts (roles_of words)))) ≡ has_result (opcode_of (get_or words 0 0))
result_told words roles whole =
    told is_defined_id words roles whole ∙ defined_where_row_has_result (opcode_of (get_or words 0 0)) words roles refl whole.parted

-- and one with the part of a result's type likewise
pub type_told : (words : List ℕ) (roles : List Role) → IsInstruction words roles →
    is_some (option_and_then (slice_get words) (position is_type_id (parts (roles_of words)))) ≡ has_result_type (opcode_of (get_or words 0 0))
type_told words roles whole =
    told is_type_id words roles whole ∙ typed_where_row_has_result_type (opcode_of (get_or words 0 0)) words roles refl whole.parted

-- a part of a result is there where the row has a result
pub result_place_told : (words : List ℕ) (roles : List Role) → IsInstruction words roles → is_some (position is_defined_id roles) ≡ has_result (opcode_of (get_or words 0 0))
result_place_told words roles whole =
    some_where_any is_defined_id roles ∙ defined_where_row_has_result (opcode_of (get_or words 0 0)) words roles refl whole.parted

-- and a part of a result's type likewise
pub type_place_told : (words : List ℕ) (roles : List Role) → IsInstruction words roles → is_some (position is_type_id roles) ≡ has_result_type (opcode_of (get_or words 0 0))
type_place_told words roles whole =
    some_where_any is_type_id roles ∙ typed_where_row_has_result_type (opcode_of (get_or words 0 0)) words roles refl whole.parted
