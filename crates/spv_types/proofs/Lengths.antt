-- Lengths of arrays by what is kept of their constants.
use Rattle.std.proofs.Common.{◌≡◌, ℕ, Bool, List, [], ◌∷◌, Option, Some, None, sym, ap, subst, ◌∙◌}
use Rattle.std.specs.Prelude.{nat_eq}
use Rattle.std.specs.List.{slice_index}
use Rattle.std.specs.Map.{lookup}
use Rattle.spv_meaning.specs.Constants.{Table, IsConstant, meaning, length_in, length_at}
use Rattle.spv_meaning.specs.Types.{Integer}
use Rattle.spv_types.specs.declared.meaning.Value.{Value}
use Rattle.spv_types.specs.declared.meaning.Value.TheVariants.{Small, Zeros, Parts}
use Rattle.spv_types.specs.declared.meaning.Kept.{Kept}
use Rattle.spv_types.specs.declared.meaning.Kept.TheVariants as kept
use Rattle.spv_types.specs.Meanings.{StandFor, IsValue}
use Rattle.spv_types.specs.Members.{first_word_in, first_word_of_kept, length_of_word}
use Rattle.spv_types.proofs.Standing.{AreAlike, StandFrom-lookup}

word_of_value : (table : Table) (n : ℕ) (v : Value) (signed : Bool) (word : ℕ) → IsValue table n v (Integer 32 signed) (word ∷ []) → first_word_in v ≡ word
word_of_value table n (Small operand) signed word h = ap (λ ws. slice_index ws 0) h.0
word_of_value table n Zeros signed word h = cc
word_of_value table n (Parts numbers) signed word h = cc

word_alike : (table : Table) (ids : List ℕ) (r : ℕ) (k : Option Kept) (signed : Bool) (word : ℕ) → AreAlike table ids r k (Some (IsConstant (Integer 32 signed) (word ∷ []))) →
    first_word_of_kept k ≡ word
word_alike table ids r None signed word h = absurd h
word_alike table ids r (Some (kept.Type f)) signed word h = absurd h.1
word_alike table ids r (Some (kept.Pointer f)) signed word h = absurd h.1
word_alike table ids r (Some (kept.Constant c)) signed word h = word_of_value table h.0 c.value signed word h.1.0
word_alike table ids r (Some kept.Variable) signed word h = absurd h.1

-- a constant of one word is kept with that word
pub length_kept : (table : Table) (ids : List ℕ) (ks : List (ℕ × Kept)) (id : ℕ) (signed : Bool) (word : ℕ) → StandFor table ids ks →
    meaning table id ≡ Some (IsConstant (Integer 32 signed) (word ∷ [])) → length_of_word signed (first_word_of_kept (lookup (nat_eq id) ks)) ≡ length_at table id
length_kept table ids ks id signed word h e =
    ap (length_of_word signed) (word_alike table ids id (lookup (nat_eq id) ks) signed word (subst (AreAlike table ids id (lookup (nat_eq id) ks)) e (StandFrom-lookup table ids 0 ks table h id)))
    ∙ sym (ap length_in e)
