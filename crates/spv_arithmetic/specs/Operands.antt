-- 501 OperandType of arithmetic, and of the operands that terminators decide by: the operands measured against each other.
use Rattle.std.specs.Option.{option_map_or}
use Rattle.std.specs.Prelude.{ℕ, Bool, true, false, ◌==◌, ◌&&◌, ◌||◌, nat_le, List, [], ◌∷◌, length, drop, slice_index, Option, Some, None}
use Rattle.std.specs.List.{list_all}
use Rattle.spv_opcodes.specs.declared.op.TheConstants as op
use Rattle.spv_module.specs.Instruction.{Instruction, opcode}
use Rattle.spv_typing.specs.declared.shapes.Shape.{Shape}
use Rattle.spv_ids.specs.Ids.{kind}
use Rattle.spv_typing.specs.Operations.{shape, count_of}
use Rattle.spv_values.specs.Values.{value_type, value_shape, is_value_of, is_ints, is_bools}
use Rattle.spv_arithmetic.specs.Forms.{Form, form_of, first_operand}
use Rattle.spv_arithmetic.specs.Forms.{Ints, Bools, Compares, Reduces, Pairs, FieldInserts, FieldExtracts, Selects, Extended, Converts, Branches, Switches}

-- how many components the first of some operands has
abbrev pub common_count : List Instruction → (ids : List ℕ) → ℕ
common_count insts ids = count_of (value_shape insts (slice_index ids 0))

-- each is Int(c)
abbrev pub all_ints : List Instruction → (ids : List ℕ) → Bool
all_ints insts ids = list_all (is_ints insts (common_count insts ids)) ids

-- each is Bool(c)
abbrev pub all_bools : List Instruction → (ids : List ℕ) → Bool
all_bools insts ids = list_all (is_bools insts (common_count insts ids)) ids

-- values of one type
abbrev pub have_one_type : List Instruction → (first second : ℕ) → Bool
have_one_type insts a b = option_map_or (λ t. is_value_of insts t b) (value_type insts a) false

-- a place in the bits of an integer, and a number of bits
abbrev pub is_field : List Instruction → (offset count : ℕ) → Bool
is_field insts offset count = is_ints insts 1 offset && is_ints insts 1 count

-- a condition of a scalar or a vector may have as many components
abbrev pub has_components : List Instruction → Option Shape → (condition : ℕ) → Bool
has_components insts None c = false
has_components insts (Some s) c = is_bools insts s.count c

abbrev pub condition_fits : List Instruction → (t condition : ℕ) → Bool
condition_fits insts t c = is_bools insts 1 c || has_components insts (shape insts t) c

-- the set is one of extended instructions, and each operand Int(c)
unfoldable pub suits_set : List Instruction → (set : ℕ) → (operands : List ℕ) → Bool
suits_set insts set ids = kind insts set == op.EXT_INST_IMPORT && all_ints insts ids

-- the operands suit the form; a selection's also its result's type t
abbrev pub operands_suit : List Instruction → Form → (t : ℕ) → (operands : List ℕ) → Bool
operands_suit insts (Ints n) t ids = length ids == n && all_ints insts ids
operands_suit insts (Bools n) t ids = length ids == n && all_bools insts ids
operands_suit insts Compares t ids = length ids == 2 && all_ints insts ids
operands_suit insts Reduces t ids = length ids == 1 && (nat_le 2 (common_count insts ids) && all_bools insts ids)
operands_suit insts Pairs t (a ∷ b ∷ []) = all_ints insts (a ∷ b ∷ []) && have_one_type insts a b
operands_suit insts FieldInserts t (base ∷ insert ∷ offset ∷ count ∷ []) = all_ints insts (base ∷ insert ∷ []) && is_field insts offset count
operands_suit insts FieldExtracts t (base ∷ offset ∷ count ∷ []) = all_ints insts (base ∷ []) && is_field insts offset count
operands_suit insts Selects t (c ∷ a ∷ b ∷ []) = condition_fits insts t c && (is_value_of insts t a && is_value_of insts t b)
operands_suit insts Extended t (set ∷ number ∷ ids) = suits_set insts set ids
operands_suit insts Converts t ids = true
operands_suit insts Branches t (condition ∷ labels) = is_bools insts 1 condition
operands_suit insts Switches t (selector ∷ targets) = is_ints insts 1 selector
operands_suit insts form t ids = false

abbrev pub form_operands_fit : List Instruction → Option Form → Instruction → Bool
form_operands_fit insts None i = true
form_operands_fit insts (Some form) i = operands_suit insts form (slice_index i.words 1) (drop (first_operand form) i.words)

-- 501, of the instructions that have a form; every other one passes
unfoldable pub operands_fit : List Instruction → Instruction → Bool
operands_fit insts i = form_operands_fit insts (form_of (opcode i)) i
