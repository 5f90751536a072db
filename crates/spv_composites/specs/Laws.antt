-- Which types outside functions match in a module that breaks no rule of the third group, by the instructions that declare them, and which lengths of
-- arrays are Known.
use Rattle.std.specs.Prelude.{◌≡◌, ℕ, ◌<◌, Bool, true, false, ◌==◌, ◌&&◌, ◌||◌, List, [], ◌∷◌, length}
use Rattle.spv_module.specs.Instruction.{Instruction}
use Rattle.spv_ids.specs.Ids.{kind}
use Rattle.spv_typing.specs.Kinds.{is_one_of, is_array, is_struct, is_outside, element, length_id, members}
use Rattle.spv_declarations.specs.Constants.{has_length}
use Rattle.spv_declarations.specs.Declarations.{declared_before}
use Rattle.spv_declarations.specs.Laws.{IsUnbroken}
use Rattle.spv_composites.specs.Lengths.{has_known_length}
use Rattle.spv_composites.specs.Forms.{plain_types, same_length, length_at, match_types}

-- two types outside functions
pub record AreTypes (insts : List Instruction) (t u : ℕ) : Type 0 where
  pub unbroken : IsUnbroken insts
  pub one : is_outside insts t ≡ true
  pub other : is_outside insts u ≡ true

-- a scalar or a vector
abbrev pub is_plain : List Instruction → (t : ℕ) → Bool
is_plain insts t = is_one_of plain_types (kind insts t)

-- each matches the one at its place
abbrev pub match_each : List Instruction → (ts us : List ℕ) → Bool
match_each insts [] [] = true
match_each insts (t ∷ ts) (u ∷ us) = match_types insts t u && match_each insts ts us
match_each insts ts us = false

-- scalars and vectors match where they are one type
abbrev pub PlainsMatch : Type 0
PlainsMatch = (insts : List Instruction) (t u : ℕ) → AreTypes insts t u → is_plain insts t ≡ true → is_plain insts u ≡ true → match_types insts t u ≡ (t == u)

-- arrays where their lengths are the same and their elements match
abbrev pub ArraysMatch : Type 0
ArraysMatch =
    (insts : List Instruction) (t u : ℕ) → AreTypes insts t u → is_array insts t ≡ true → is_array insts u ≡ true →
    match_types insts t u ≡ (same_length (length_at insts (length_id insts t)) (length_at insts (length_id insts u)) && match_types insts (element insts t)
    (element insts u))

-- structs where they have as many members and these match one by one
abbrev pub StructsMatch : Type 0
StructsMatch =
    (insts : List Instruction) (t u : ℕ) → AreTypes insts t u → is_struct insts t ≡ true → is_struct insts u ≡ true →
    match_types insts t u ≡ match_each insts (members insts t) (members insts u)

-- and no other types
abbrev pub OthersDiffer : Type 0
OthersDiffer =
    (insts : List Instruction) (t u : ℕ) → AreTypes insts t u → match_types insts t u ≡ true →
    ((is_plain insts t && is_plain insts u) || ((is_array insts t && is_array insts u) || (is_struct insts t && is_struct insts u))) ≡ true

-- the length of an array type is Known to the operands of OpCompositeConstruct where it is to the constituents of a constant (304)
abbrev pub LengthsAgree : Type 0
LengthsAgree =
    (insts : List Instruction) (t n : ℕ) → IsUnbroken insts → is_outside insts t ≡ true → is_array insts t ≡ true → 0 < length_id insts t →
    has_known_length insts (length_id insts t) n ≡ has_length (declared_before insts (length insts)) (length_id insts t) n
