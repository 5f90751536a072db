-- Which words name an id, and which show that an instruction is not of the profile.
use Rattle.std.specs.Prelude.{Bool, true, false}
use Rattle.spv_grammar.specs.declared.kind.Role.{Role}
use Rattle.spv_grammar.specs.declared.kind.Role.TheVariants.{Opcode, TypeId, DefinedId, UsedId, UnknownEnumerant, BadOctets}

abbrev pub is_type_id : Role → Bool
is_type_id TypeId = true
is_type_id _ = false

abbrev pub is_defined_id : Role → Bool
is_defined_id DefinedId = true
is_defined_id _ = false

abbrev pub is_used_id : Role → Bool
is_used_id UsedId = true
is_used_id _ = false

-- the id of a type, a result or an operand
abbrev pub names_id : Role → Bool
names_id TypeId = true
names_id DefinedId = true
names_id UsedId = true
names_id _ = false

-- the opcode's word, the result's type and the result, which stand in front of the operands
abbrev pub is_front : Role → Bool
is_front Opcode = true
is_front TypeId = true
is_front DefinedId = true
is_front _ = false

abbrev pub is_unknown : Role → Bool
is_unknown UnknownEnumerant = true
is_unknown _ = false

abbrev pub is_bad_octets : Role → Bool
is_bad_octets BadOctets = true
is_bad_octets _ = false
