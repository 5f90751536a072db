-- What an operation makes of the words of its operands: in a body of those of values, outside functions of those of constants.
use Rattle.std.specs.Prelude.{ℕ, ◌+◌, ◌==◌, false, cond, List, [], ◌++◌, map, take, drop, slice_index, slice_index_or, Option, Some, None}
use Rattle.std.specs.List.{flat_map}
use Rattle.spv_value.specs.Eval.{Eval, ExtEval}
use Rattle.spv_meaning.specs.Types.{DataType, Void, cells, zeros, number_in}
use Rattle.spv_meaning.specs.Parts.{Part, part, packed_part}

pub data Computation : Type 0 where
  -- evaluated component by component
  Evaluates : (opcode : ℕ) → Computation
  -- an instruction of GLSL.std.450
  Extends : (number : ℕ) → Computation
  -- of two vectors
  Shuffles : (literals : List ℕ) → Computation
  Constructs : Computation
  -- of a composite
  Extracts : (literals : List ℕ) → Computation
  -- of an object and a composite
  Inserts : (literals : List ℕ) → Computation
  -- of a vector and an index
  ExtractsDynamic : Computation
  -- of a vector, a component and an index
  InsertsDynamic : Computation
  -- the same words under another type
  CopiesLogical : Computation

-- a value of words
pub record Typed : Type 0 where
  pub type : DataType
  pub words : List ℕ

abbrev pub no_value : Typed
no_value = record { type = Void; words = [] }

-- operand k, counted from 0
abbrev pub operand : List Typed → ℕ → Typed
operand vs k = slice_index_or vs k no_value

-- a component of a shuffle of these words; the literal 0xFFFFFFFF is 0
abbrev pub shuffled : List ℕ → (literal : ℕ) → ℕ
shuffled words literal = cond (literal == 0xFFFF_FFFF) 0 (slice_index words literal)

-- the words of a part; zeros where there is none
abbrev pub extracted : DataType → List ℕ → Option Part → List ℕ
extracted t words None = zeros t
extracted t words (Some p) = take (cells p.type) (drop p.first words)

-- words where those of a part are others; the words where there is none
abbrev pub inserted : List ℕ → List ℕ → Option Part → List ℕ
inserted object words None = words
inserted object words (Some p) = take p.first words ++ (object ++ drop (p.first + cells p.type) words)

abbrev pub whole_part : DataType → Part
whole_part t = record { first = 0; type = t }

-- the words of the result, whose type is t
unfoldable pub computed : Computation → (t : DataType) → (operands : List Typed) → List ℕ
computed (Evaluates opcode) t vs = Eval 32 opcode (map (λ v. v.words) vs)
computed (Extends number) t vs = ExtEval 32 number (map (λ v. v.words) vs)
computed (Shuffles literals) t vs = map (shuffled ((operand vs 0).words ++ (operand vs 1).words)) literals
computed Constructs t vs = flat_map (λ v. v.words) vs
computed (Extracts literals) t vs = extracted t (operand vs 0).words (packed_part literals (whole_part (operand vs 0).type))
computed (Inserts literals) t vs = inserted (operand vs 0).words (operand vs 1).words (packed_part literals (whole_part (operand vs 1).type))
computed ExtractsDynamic t vs = extracted t (operand vs 0).words (part false None (operand vs 0).type 0 (number_in (operand vs 1).words))
computed InsertsDynamic t vs = inserted (operand vs 1).words (operand vs 0).words (part false None (operand vs 0).type 0 (number_in (operand vs 2).words))
computed CopiesLogical t vs = (operand vs 0).words
