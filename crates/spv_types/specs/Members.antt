-- What is summed up of a struct's members, one after the other; and an array's length by its constant's first word.
use Rattle.std.specs.Prelude.{◌≡◌, ℕ, ◌+◌, min, max, Bool, true, ◌&&◌, [], ◌∷◌, slice_index, Option, Some}
use Rattle.spv_value.specs.Words.{words_of}
use Rattle.spv_meaning.specs.Constants.{IsConstant, length_in}
use Rattle.spv_meaning.specs.Types.{Members, Integer, member_cells}
use Rattle.spv_declarations.specs.Depth.{member_depth, are_laid_out}
use Rattle.spv_types.specs.declared.facts.TypeFacts.{TypeFacts}
use Rattle.spv_types.specs.declared.meaning.Value.{Value}
use Rattle.spv_types.specs.declared.meaning.Value.TheVariants.{Small}
use Rattle.spv_types.specs.declared.meaning.Kept.{Kept}
use Rattle.spv_types.specs.declared.meaning.Kept.TheVariants as kept
use Rattle.spv_types.specs.Facts.{in_64_bits}

-- What is summed up of a struct's members so far: with the rest it makes the whole. The depth of the deepest counts before it is cut at 256, and the words before they have to fit 64 bits.
pub record SumUp (summed : TypeFacts) (rest whole : Members) : Type 0 where
  pub deepest : ℕ
  pub depth : summed.depth ≡ min deepest 256
  pub deep : max deepest (member_depth rest) ≡ member_depth whole
  pub laid_out : (summed.is_laid_out && are_laid_out rest) ≡ are_laid_out whole
  pub is_data : summed.is_data ≡ true
  pub words : ℕ
  pub cells : summed.cells ≡ in_64_bits words
  pub sum : words + member_cells rest ≡ member_cells whole

-- the first word of a scalar or a vector that is kept; 0 of what else is kept
abbrev pub first_word_in : Value → ℕ
first_word_in (Small operand) = slice_index (words_of operand) 0
first_word_in value = 0

abbrev pub first_word_of_kept : Option Kept → ℕ
first_word_of_kept (Some (kept.Constant c)) = first_word_in c.value
first_word_of_kept k = 0

-- a length of one word
abbrev pub length_of_word : (is_signed : Bool) → (word : ℕ) → ℕ
length_of_word is_signed word = length_in (Some (IsConstant (Integer 32 is_signed) (word ∷ [])))
