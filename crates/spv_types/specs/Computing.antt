-- What OpSpecConstantOp makes of the words behind the opcode of its operation.
use Rattle.std.specs.Prelude.{◌≡◌, ℕ, ◌≤◌, List, [], ◌∷◌, ◌++◌, length, map, take, drop, slice_index, slice_set, Some}
use Rattle.spv_value.specs.declared.words.Operand.{Operand}
use Rattle.spv_value.specs.Words.{words_of}
use Rattle.spv_meaning.specs.Computations as computes
use Rattle.spv_meaning.specs.Computations.{Computation, computed, shuffled, extracted, whole_part}
use Rattle.spv_meaning.specs.Constants.{Table, IsConstant, meaning, typed_at}
use Rattle.spv_meaning.specs.Types.{DataType}
use Rattle.spv_typing.specs.declared.operations.Form.{Form}
use Rattle.spv_typing.specs.declared.operations.Form.TheVariants.{Shuffles, Extracts, Inserts}
use Rattle.spv_meaning.specs.Parts.{packed_part}
use Rattle.spv_types.specs.Extracting.{LeadsTo}
use Rattle.spv_types.specs.Declaring.{AreSmall}

-- what an operation of the form computes, and of which of the words as ids
abbrev pub computation_by : Form → (opcode : ℕ) → List ℕ → Computation
computation_by Shuffles o rest = computes.Shuffles (drop 2 rest)
computation_by Extracts o rest = computes.Extracts (drop 1 rest)
computation_by Inserts o rest = computes.Inserts (drop 2 rest)
computation_by form o rest = computes.Evaluates o

abbrev pub ids_by : Form → List ℕ → List ℕ
ids_by Shuffles rest = take 2 rest
ids_by Extracts rest = take 1 rest
ids_by Inserts rest = take 2 rest
ids_by form rest = rest

-- the words of the result, whose type is t
abbrev pub computed_by : Table → Form → (opcode : ℕ) → (t : DataType) → List ℕ → List ℕ
computed_by table form o t rest = computed (computation_by form o rest) t (map (typed_at table) (ids_by form rest))

-- a shuffle of two vectors, by their ids and literals
abbrev pub IsShuffled : Table → List ℕ → Operand → Type 0
IsShuffled table (a ∷ b ∷ literals) x =
    AreSmall table (a ∷ b ∷ []) → length literals ≤ 4 → words_of x ≡ map (shuffled ((typed_at table a).words ++ (typed_at table b).words)) literals
IsShuffled table ids x = Unit {0}

-- a vector with another component, by the ids of the component and the vector and a literal
abbrev pub IsInserted : Table → List ℕ → Operand → Type 0
IsInserted table (o ∷ c ∷ j ∷ []) x =
    AreSmall table (o ∷ c ∷ []) → length (typed_at table c).words ≤ 4 → words_of x ≡ slice_set (typed_at table c).words j (slice_index (typed_at table o).words 0)
IsInserted table ids x = Unit {0}

-- the part of a constant that literals lead to
abbrev pub IsExtractedFrom : Table → (t : DataType) → (c : ℕ) → (literals : List ℕ) → Operand → Type 0
IsExtractedFrom table t c literals x =
    meaning table c ≡ Some (IsConstant (typed_at table c).type (typed_at table c).words) → LeadsTo t (typed_at table c).type literals →
    words_of x ≡ extracted t (typed_at table c).words (packed_part literals (whole_part (typed_at table c).type))

abbrev pub IsExtracted : Table → (t : DataType) → List ℕ → Operand → Type 0
IsExtracted table t [] x = Unit {0}
IsExtracted table t (c ∷ literals) x = IsExtractedFrom table t c literals x
