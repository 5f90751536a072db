-- What arithmetic, and terminators that decide by an operand, need.
use Rattle.std.proofs.Common.{◌≡◌, ℕ, Bool, true, false, not, ◌==◌, ◌&&◌, ◌||◌, nat_le, List, [], ◌∷◌, ◌++◌, length, drop, Option, Some, None, refl}
use Rattle.std.specs.List.{list_all, slice_index}
use Rattle.std.specs.Option.{option_map_or}
use Rattle.std.proofs.lemmas.Bool.{and_parts}
use Rattle.spv_opcodes.specs.declared.op.TheConstants as op
use Rattle.spv_grammar.specs.declared.kind.Kind.{Kind}
use Rattle.spv_grammar.specs.declared.kind.Kind.TheVariants.{ResultType, ResultId}
use Rattle.spv_grammar.specs.Table.{Shape as Row, row_of}
use Rattle.spv_declarations.proofs.Parts.{first_typed, row_test}
use Rattle.spv_module.specs.Instruction.{Instruction}
use Rattle.spv_ids.specs.Ids.{kind}
use Rattle.spv_typing.specs.declared.shapes.Shape.{Shape}
use Rattle.spv_typing.specs.Kinds.{is_struct, members}
use Rattle.spv_typing.specs.Operations.{shape}
use Rattle.spv_values.specs.Values.{value_type, is_value_of, is_ints, is_bools}
use Rattle.spv_arithmetic.specs.declared.forms.Form.{Form}
use Rattle.spv_arithmetic.specs.Forms.{forms}
use Rattle.spv_arithmetic.specs.declared.forms.Form.TheVariants.{Ints, Bools, Compares, Reduces, Pairs, FieldInserts, FieldExtracts, Selects, Extended, Converts, Branches, Switches}
use Rattle.spv_arithmetic.specs.Operands.{common_count, all_ints, all_bools, have_one_type, is_field, has_components, condition_fits, suits_set, operands_suit}
use Rattle.spv_arithmetic.specs.Results.{are_two_of, is_pair_of, result_suits}
use Rattle.spv_label_uses.proofs.Covered.{row_uses}
use Rattle.spv_label_uses.proofs.Free.{or_cases, all_2, all_3, all_cons, all_weaker, is_free, free_kind, free_closed, free_shaped, free_value_of, free_ints, free_bools}
use Rattle.spv_label_uses.proofs.Fronts.{front_uses, row_front}

-- ---- the rows, by the forms

-- the opcode of a form has a row that begins with the result's type and the result; the other forms are of few opcodes
abbrev pub is_of_form : (o : ℕ) → Form → Bool
is_of_form o Branches = o == op.BRANCH_CONDITIONAL
is_of_form o Switches = o == op.SWITCH
is_of_form o Extended = o == op.EXT_INST
is_of_form o form = not (o == op.SPEC_CONSTANT_OP) && row_test first_typed (row_of o)

-- by computing over the forms
pub all_of_form : list_all (λ pair. is_of_form pair.0 pair.1) forms ≡ true
unfolding row_of
all_of_form = refl

typed_front : (kinds : List Kind) → first_typed kinds ≡ true → (words : List ℕ) → front_uses 2 kinds 1 words ≡ slice_index words 1 ∷ drop 3 words
typed_front (ResultType ∷ ResultId ∷ kinds) h words = refl
typed_front (ResultType ∷ []) h words = absurd (cc h)
typed_front [] h words = absurd (cc h)
typed_front other h words = absurd (cc h)

-- what such a row may need
pub typed_row : (o : ℕ) → row_test first_typed (row_of o) ≡ true → (words : List ℕ) → row_front 2 (row_of o) words ≡ slice_index words 1 ∷ drop 3 words
typed_row o h words = by (row_of o) h where
  by : (row : Option Row) → row_test first_typed row ≡ true → row_front 2 row words ≡ slice_index words 1 ∷ drop 3 words
  by None h = absurd (cc h)
  by (Some shape) h = typed_front shape.kinds h words

pub extended_row : (words : List ℕ) → row_uses (row_of op.EXT_INST) words ≡ slice_index words 1 ∷ slice_index words 3 ∷ drop 5 words
unfolding row_of
extended_row words = refl

-- ---- the operands

set_parts : (insts : List Instruction) (set : ℕ) (ids : List ℕ) → suits_set insts set ids ≡ true
    → ((kind insts set == op.EXT_INST_IMPORT) ≡ true) × (all_ints insts ids ≡ true)
unfolding suits_set
set_parts insts set ids h = and_parts (kind insts set == op.EXT_INST_IMPORT) (all_ints insts ids) h

free_condition : (insts : List Instruction) (t c : ℕ) → condition_fits insts t c ≡ true → is_free insts c ≡ true
free_condition insts t c h = by (shape insts t) h where
  by : (s : Option Shape) → (is_bools insts 1 c || has_components insts s c) ≡ true → is_free insts c ≡ true
  by None h = or_cases (is_bools insts 1 c) false h (λ k. free_bools insts 1 c k) (λ k. absurd (cc k))
  by (Some s) h = or_cases (is_bools insts 1 c) (is_bools insts s.count c) h (λ k. free_bools insts 1 c k) (λ k. free_bools insts s.count c k)

all_ints_free : (insts : List Instruction) (ids : List ℕ) → all_ints insts ids ≡ true → list_all (is_free insts) ids ≡ true
all_ints_free insts ids h = all_weaker (is_ints insts (common_count insts ids)) (is_free insts) ids (free_ints insts (common_count insts ids)) h

all_bools_free : (insts : List Instruction) (ids : List ℕ) → all_bools insts ids ≡ true → list_all (is_free insts) ids ≡ true
all_bools_free insts ids h = all_weaker (is_bools insts (common_count insts ids)) (is_free insts) ids (free_bools insts (common_count insts ids)) h

-- two and two, or one and two
field_free : (insts : List Instruction) (front : List ℕ) (a b : ℕ) → list_all (is_free insts) front ≡ true → is_field insts a b ≡ true
    → list_all (is_free insts) (front ++ a ∷ b ∷ []) ≡ true
field_free insts [] a b h k =
    let both = and_parts (is_ints insts 1 a) (is_ints insts 1 b) k in
    all_2 (is_free insts) a b (free_ints insts 1 a both.0) (free_ints insts 1 b both.1)
field_free insts (x ∷ xs) a b h k =
    let both = and_parts (is_free insts x) (list_all (is_free insts) xs) h in
    all_cons (is_free insts) x (xs ++ a ∷ b ∷ []) both.0 (field_free insts xs a b both.1 k)

-- of the forms but Extended, all operands; of terminators the first
abbrev pub AreFree : List Instruction → Form → (ids : List ℕ) → Type 0
AreFree insts Extended ids = list_all (is_free insts) (drop 2 ids) ≡ true
AreFree insts Branches ids = is_free insts (slice_index ids 0) ≡ true
AreFree insts Switches ids = is_free insts (slice_index ids 0) ≡ true
AreFree insts Converts ids = Unit {0}
AreFree insts form ids = list_all (is_free insts) ids ≡ true

pub operands_free : (insts : List Instruction) (form : Form) (t : ℕ) (ids : List ℕ) → operands_suit insts form t ids ≡ true → AreFree insts form ids
operands_free insts (Ints n) t ids h = all_ints_free insts ids (and_parts (length ids == n) (all_ints insts ids) h).1
operands_free insts (Bools n) t ids h = all_bools_free insts ids (and_parts (length ids == n) (all_bools insts ids) h).1
operands_free insts Compares t ids h = all_ints_free insts ids (and_parts (length ids == 2) (all_ints insts ids) h).1
operands_free insts Reduces t ids h =
    all_bools_free insts ids
    (and_parts (nat_le 2 (common_count insts ids)) (all_bools insts ids)
    (and_parts (length ids == 1) (nat_le 2 (common_count insts ids) && all_bools insts ids) h).1).1
operands_free insts Pairs t (a ∷ b ∷ []) h = all_ints_free insts (a ∷ b ∷ []) (and_parts (all_ints insts (a ∷ b ∷ [])) (have_one_type insts a b) h).0
operands_free insts FieldInserts t (base ∷ insert ∷ offset ∷ count ∷ []) h =
    let both = and_parts (all_ints insts (base ∷ insert ∷ [])) (is_field insts offset count) h in
    field_free insts (base ∷ insert ∷ []) offset count (all_ints_free insts (base ∷ insert ∷ []) both.0) both.1
operands_free insts FieldExtracts t (base ∷ offset ∷ count ∷ []) h =
    let both = and_parts (all_ints insts (base ∷ [])) (is_field insts offset count) h in
    field_free insts (base ∷ []) offset count (all_ints_free insts (base ∷ []) both.0) both.1
operands_free insts Selects t (c ∷ a ∷ b ∷ []) h =
    let both = and_parts (condition_fits insts t c) (is_value_of insts t a && is_value_of insts t b) h in
    let values = and_parts (is_value_of insts t a) (is_value_of insts t b) both.1 in
    all_3 (is_free insts) c a b (free_condition insts t c both.0) (free_value_of insts t a values.0) (free_value_of insts t b values.1)
operands_free insts Extended t (set ∷ number ∷ ids) h = all_ints_free insts ids (set_parts insts set ids h).1
operands_free insts Converts t ids h = tt
operands_free insts Branches t (condition ∷ labels) h = free_bools insts 1 condition h
operands_free insts Switches t (selector ∷ targets) h = free_ints insts 1 selector h
operands_free insts Pairs t [] h = absurd (cc h)
operands_free insts Pairs t (a ∷ []) h = absurd (cc h)
operands_free insts Pairs t (a ∷ b ∷ c ∷ ids) h = absurd (cc h)
operands_free insts FieldInserts t [] h = absurd (cc h)
operands_free insts FieldInserts t (a ∷ []) h = absurd (cc h)
operands_free insts FieldInserts t (a ∷ b ∷ []) h = absurd (cc h)
operands_free insts FieldInserts t (a ∷ b ∷ c ∷ []) h = absurd (cc h)
operands_free insts FieldInserts t (a ∷ b ∷ c ∷ d ∷ e ∷ ids) h = absurd (cc h)
operands_free insts FieldExtracts t [] h = absurd (cc h)
operands_free insts FieldExtracts t (a ∷ []) h = absurd (cc h)
operands_free insts FieldExtracts t (a ∷ b ∷ []) h = absurd (cc h)
operands_free insts FieldExtracts t (a ∷ b ∷ c ∷ d ∷ ids) h = absurd (cc h)
operands_free insts Selects t [] h = absurd (cc h)
operands_free insts Selects t (a ∷ []) h = absurd (cc h)
operands_free insts Selects t (a ∷ b ∷ []) h = absurd (cc h)
operands_free insts Selects t (a ∷ b ∷ c ∷ d ∷ ids) h = absurd (cc h)
operands_free insts Extended t [] h = absurd (cc h)
operands_free insts Extended t (a ∷ []) h = absurd (cc h)
operands_free insts Branches t [] h = absurd (cc h)
operands_free insts Switches t [] h = absurd (cc h)

-- the set of an extended instruction
pub set_free : (insts : List Instruction) (t : ℕ) (ids : List ℕ) → operands_suit insts Extended t ids ≡ true → is_free insts (slice_index ids 0) ≡ true
set_free insts t [] h = absurd (cc h)
set_free insts t (set ∷ []) h = absurd (cc h)
set_free insts t (set ∷ number ∷ ids) h = free_kind insts set op.EXT_INST_IMPORT (set_parts insts set ids h).0 refl

-- ---- the result's type

pair_free : (insts : List Instruction) (t : ℕ) (u : Option ℕ) → option_map_or (is_pair_of insts t) u false ≡ true → is_free insts t ≡ true
pair_free insts t None h = absurd (cc h)
pair_free insts t (Some u) h = free_kind insts t op.TYPE_STRUCT (and_parts (is_struct insts t) (are_two_of u (members insts t)) h).0 refl

-- terminators have none
abbrev pub TypeIsFree : List Instruction → Form → (t : ℕ) → Type 0
TypeIsFree insts Branches t = Unit {0}
TypeIsFree insts Switches t = Unit {0}
TypeIsFree insts form t = is_free insts t ≡ true

pub result_free : (insts : List Instruction) (form : Form) (t : ℕ) (ids : List ℕ) → result_suits insts form t ids ≡ true → TypeIsFree insts form t
result_free insts (Ints n) t ids h = free_shaped insts false (common_count insts ids) t h
result_free insts (Bools n) t ids h = free_shaped insts true (common_count insts ids) t h
result_free insts Compares t ids h = free_shaped insts true (common_count insts ids) t h
result_free insts Reduces t ids h = free_shaped insts true 1 t h
result_free insts Pairs t ids h = pair_free insts t (value_type insts (slice_index ids 0)) h
result_free insts FieldInserts t ids h = free_shaped insts false (common_count insts ids) t h
result_free insts FieldExtracts t ids h = free_shaped insts false (common_count insts ids) t h
result_free insts Selects t ids h = free_closed insts t h
result_free insts Extended t (set ∷ number ∷ ids) h = free_shaped insts false (common_count insts ids) t h
result_free insts Extended t [] h = absurd (cc h)
result_free insts Extended t (set ∷ []) h = absurd (cc h)
result_free insts Converts t ids h = absurd (cc h)
result_free insts Branches t ids h = tt
result_free insts Switches t ids h = tt
