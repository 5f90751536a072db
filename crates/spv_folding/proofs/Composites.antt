-- Composites of constants as lists: the words of their parts one after another, and the types of a struct's members.
use Rattle.std.proofs.Common.{◌≡◌, ℕ, suc, List, [], ◌∷◌, ◌++◌, map, refl, ap}
use Rattle.std.specs.List.{concat}
use Rattle.spv_meaning.specs.Statements.{Statement}
use Rattle.spv_meaning.specs.Constants.{Table, words_at, type_at, composed, members_of}
use Rattle.spv_folding.specs.Folding.{member_types}

pub composed_is : (table : Table) (ids : List ℕ) → composed table ids ≡ concat (map (words_at table) ids)
composed_is table [] = refl
composed_is table (id ∷ ids) = ap (λ ws. words_at table id ++ ws) (composed_is table ids)

pub member_types-members_of : (all : List Statement) (table : Table) (id number : ℕ) (types : List ℕ)
    → member_types (members_of all table id number types) ≡ map (type_at table) types
member_types-members_of all table id number [] = refl
member_types-members_of all table id number (t ∷ ts) = ap (λ us. type_at table t ∷ us) (member_types-members_of all table id (suc number) ts)
