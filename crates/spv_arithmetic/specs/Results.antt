-- 502 ResultType of arithmetic: the result's type measured against the operands.
use Rattle.std.specs.Option.{option_map_or}
use Rattle.std.specs.Prelude.{ℕ, Bool, true, false, ◌==◌, ◌&&◌, List, [], ◌∷◌, drop, slice_index, Option, Some, None}
use Rattle.spv_module.specs.Instruction.{Instruction, opcode}
use Rattle.spv_typing.specs.Kinds.{is_struct, is_closed, members}
use Rattle.spv_typing.specs.Operations.{shape, has_shape}
use Rattle.spv_values.specs.Values.{value_type}
use Rattle.spv_arithmetic.specs.Forms.{Form, form_of, first_operand}
use Rattle.spv_arithmetic.specs.Forms.{Ints, Bools, Compares, Reduces, Pairs, FieldInserts, FieldExtracts, Selects, Extended, Converts, Branches, Switches}
use Rattle.spv_arithmetic.specs.Operands.{common_count}

-- exactly two members, both of the type u
abbrev pub are_two_of : (u : ℕ) → (members : List ℕ) → Bool
are_two_of u (m ∷ n ∷ []) = m == u && n == u
are_two_of u ms = false

-- a struct of exactly two members of the operands' type
abbrev pub is_pair_of : List Instruction → (t u : ℕ) → Bool
is_pair_of insts t u = is_struct insts t && are_two_of u (members insts t)

-- the type t is Int(c), or Bool(c), for so many components
abbrev pub gives_ints : List Instruction → (t count : ℕ) → Bool
gives_ints insts t count = has_shape false count (shape insts t)

abbrev pub gives_bools : List Instruction → (t count : ℕ) → Bool
gives_bools insts t count = has_shape true count (shape insts t)

-- the result's type t suits the form and the operands; terminators have none
abbrev pub result_suits : List Instruction → Form → (t : ℕ) → (operands : List ℕ) → Bool
result_suits insts (Ints n) t ids = gives_ints insts t (common_count insts ids)
result_suits insts (Bools n) t ids = gives_bools insts t (common_count insts ids)
result_suits insts Compares t ids = gives_bools insts t (common_count insts ids)
result_suits insts Reduces t ids = gives_bools insts t 1
result_suits insts Pairs t ids = option_map_or (is_pair_of insts t) (value_type insts (slice_index ids 0)) false
result_suits insts FieldInserts t ids = gives_ints insts t (common_count insts ids)
result_suits insts FieldExtracts t ids = gives_ints insts t (common_count insts ids)
result_suits insts Selects t ids = is_closed insts t
result_suits insts Extended t (set ∷ number ∷ ids) = gives_ints insts t (common_count insts ids)
result_suits insts Extended t ids = false
result_suits insts Converts t ids = false
result_suits insts Branches t ids = true
result_suits insts Switches t ids = true

abbrev pub form_result_fits : List Instruction → Option Form → Instruction → Bool
form_result_fits insts None i = true
form_result_fits insts (Some form) i = result_suits insts form (slice_index i.words 1) (drop (first_operand form) i.words)

-- 502, of the instructions that have a form; every other one passes
unfoldable pub result_fits : List Instruction → Instruction → Bool
result_fits insts i = form_result_fits insts (form_of (opcode i)) i
