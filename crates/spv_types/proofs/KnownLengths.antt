-- Whether a constant that is the length of an array is Known.
use Rattle.std.proofs.Common.{◌≡◌, ℕ, not, List, Option, Some, None, ap, subst}
use Rattle.std.specs.Prelude.{nat_eq}
use Rattle.std.specs.Map.{lookup}
use Rattle.spv_module.specs.Instruction.{Instruction}
use Rattle.spv_meaning.specs.Constants.{Table, IsConstant, meaning}
use Rattle.spv_meaning.specs.Types.{DataType}
use Rattle.spv_typing.specs.Kinds.{is_one_of}
use Rattle.spv_types.specs.declared.meaning.Kept.{Kept}
use Rattle.spv_types.specs.declared.meaning.Kept.TheVariants as kept
use Rattle.spv_types.specs.Meanings.{StandFor, known_of_kept}
use Rattle.spv_types.specs.Steps.{IsLength}
use Rattle.spv_types.proofs.Standing.{AreAlike, StandFrom-lookup}

known_alike : (table : Table) (ids : List ℕ) (r : ℕ) (k : Option Kept) (t : DataType) (words : List ℕ) → AreAlike table ids r k (Some (IsConstant t words)) →
    known_of_kept k ≡ not (is_one_of ids r)
known_alike table ids r None t words h = absurd h
known_alike table ids r (Some (kept.Type f)) t words h = absurd h.1
known_alike table ids r (Some (kept.Pointer f)) t words h = absurd h.1
known_alike table ids r (Some (kept.Constant c)) t words h = ap not h.1.1.1
known_alike table ids r (Some kept.Variable) t words h = absurd h.1

-- what is kept of a constant says whether it is Known
pub known_kept : (table : Table) (ids : List ℕ) (ks : List (ℕ × Kept)) (id : ℕ) (t : DataType) (words : List ℕ) → StandFor table ids ks →
    meaning table id ≡ Some (IsConstant t words) → known_of_kept (lookup (nat_eq id) ks) ≡ not (is_one_of ids id)
known_kept table ids ks id t words h e =
    known_alike table ids id (lookup (nat_eq id) ks) t words (subst (AreAlike table ids id (lookup (nat_eq id) ks)) e (StandFrom-lookup table ids 0 ks table h id))

pub length_known : (insts : List Instruction) (table : Table) (ids : List ℕ) (ks : List (ℕ × Kept)) (id : ℕ) → StandFor table ids ks → IsLength insts table id →
    known_of_kept (lookup (nat_eq id) ks) ≡ not (is_one_of ids id)
length_known insts table ids ks id h is = known_kept table ids ks id _ _ h is.1
