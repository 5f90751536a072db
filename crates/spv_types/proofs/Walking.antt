-- The part of a constant that literals lead to, from part to part.
use Rattle.std.proofs.Common.{◌≡◌, ℕ, zero, suc, List, [], ◌∷◌, ◌++◌, length, map, replicate, slice_get, slice_index, Option, Some, None, refl, sym, ap, subst, ◌∙◌}
use Rattle.std.specs.List.{concat}
use Rattle.std.specs.Option.{IfSome}
use Rattle.spv_meaning.specs.Computations.{extracted, whole_part}
use Rattle.spv_meaning.specs.Constants.{Table}
use Rattle.spv_meaning.specs.Parts.{packed_part}
use Rattle.spv_meaning.specs.Types.{DataType, Void, Boolean, Integer, Vector, Array, RuntimeArray, Struct, Members, cells}
use Rattle.spv_folding.specs.Folding.{member_types, AreSized}
use Rattle.spv_folding.proofs.Extraction.{extract_member, extract_component, extract_zeros, type_here, type_in_member, type_in_element, type_in_component}
use Rattle.spv_types.specs.Extracting.{LeadsTo, IsPart, ArePartsOf}
use Rattle.spv_types.specs.Meanings.{joined, words_numbered, words_in_entry}

-- what they lead to has as many words; induction on the literals
pub leads-cells : (t u : DataType) (literals : List ℕ) → LeadsTo t u literals → IfSome (packed_part literals (whole_part u)) (λ p. cells p.type ≡ cells t)
leads-cells t u [] h = type_here (λ v. cells v ≡ cells t) u (ap cells h)
leads-cells t (Vector n v) (j ∷ rest) h =
    type_in_component (λ w. cells w ≡ cells t) v rest n j
    (subst (λ ls. IfSome (packed_part ls (whole_part v)) (λ p. cells p.type ≡ cells t)) (sym h.1.1.1) (ap cells h.1.1.0))
leads-cells t (Array stride n v) (j ∷ rest) h = type_in_element (λ w. cells w ≡ cells t) v rest stride n j (leads-cells t v rest h)
leads-cells t (Struct ms) (j ∷ rest) h = type_in_member (λ w. cells w ≡ cells t) h.0 rest ms j h.1.0 (leads-cells t h.0 rest h.1.1)
leads-cells t Void (j ∷ rest) h = absurd h
leads-cells t Boolean (j ∷ rest) h = absurd h
leads-cells t (Integer width signed) (j ∷ rest) h = absurd h
leads-cells t (RuntimeArray stride v) (j ∷ rest) h = absurd h

pub part-words : (table : Table) (t : DataType) (n : ℕ) (p : IsPart table t n) → words_numbered table n ≡ p.words
part-words table t n p = ap words_in_entry p.stands

pub part-sized : (table : Table) (t : DataType) (n : ℕ) → IsPart table t n → length (words_numbered table n) ≡ cells t
part-sized table t n p = ap length (part-words table t n p) ∙ p.sized

pub joined-concat : (table : Table) (ns : List ℕ) → joined table ns ≡ concat (map (words_numbered table) ns)
joined-concat table [] = refl
joined-concat table (n ∷ ns) = ap (λ ws. words_numbered table n ++ ws) (joined-concat table ns)

parts-sized : (table : Table) (ts : List DataType) (ns : List ℕ) → ArePartsOf table ts ns → AreSized ts (map (words_numbered table) ns)
parts-sized table [] [] h = tt
parts-sized table [] (n ∷ ns) h = absurd h
parts-sized table (t ∷ ts) [] h = absurd h
parts-sized table (t ∷ ts) (n ∷ ns) h = (part-sized table t n h.0, parts-sized table ts ns h.1)

-- the part at an index has the type there
pub record HasPart (table : Table) (t : DataType) (ns : List ℕ) (j : ℕ) : Type 0 where
  pub number : ℕ
  pub at : slice_get ns j ≡ Some number
  pub is : IsPart table t number

pub part-at : (table : Table) (ts : List DataType) (ns : List ℕ) (j : ℕ) (t : DataType) → ArePartsOf table ts ns → slice_get ts j ≡ Some t → HasPart table t ns j
part-at table [] ns j t h e = cc
part-at table (u ∷ ts) [] j t h e = absurd h
part-at table (u ∷ ts) (n ∷ ns) zero t h e = record { number = n; at = refl; is = subst (λ v. IsPart table v n) (same u t e) h.0 }
  where
    same : (u t : DataType) → Some u ≡ Some t → u ≡ t
    same u t e = cc
part-at table (u ∷ ts) (n ∷ ns) (suc j) t h e = let p = part-at table ts ns j t h.1 e in record { number = p.number; at = p.at; is = p.is }

pub words-at : (table : Table) (ns : List ℕ) (j n : ℕ) → slice_get ns j ≡ Some n → slice_get (map (words_numbered table) ns) j ≡ Some (words_numbered table n)
words-at table [] j n e = cc
words-at table (m ∷ ns) zero n e = ap (λ o. words_of_some o) e
  where
    words_of_some : Option ℕ → Option (List ℕ)
    words_of_some None = None
    words_of_some (Some n) = Some (words_numbered table n)
words-at table (m ∷ ns) (suc j) n e = words-at table ns j n e

-- ---- one step

-- into a struct, to a member
pub into-struct : (table : Table) (t v : DataType) (ns : List ℕ) (j n : ℕ) (rest : List ℕ) (ms : Members) → ArePartsOf table (member_types ms) ns → slice_get (member_types ms) j ≡ Some v → slice_get ns j ≡ Some n →
    extracted t (joined table ns) (packed_part (j ∷ rest) (whole_part (Struct ms))) ≡ extracted t (words_numbered table n) (packed_part rest (whole_part v))
into-struct table t v ns j n rest ms parts e at =
    ap (λ ws. extracted t ws (packed_part (j ∷ rest) (whole_part (Struct ms)))) (joined-concat table ns)
    ∙ extract_member t v rest ms (map (words_numbered table) ns) j (words_numbered table n) (parts-sized table (member_types ms) ns parts) e (words-at table ns j n at)

-- into zeros
pub into-zeros : (t u : DataType) (literals : List ℕ) → LeadsTo t u literals → extracted t (replicate (cells u) 0) (packed_part literals (whole_part u)) ≡ replicate (cells t) 0
into-zeros t u literals h = extract_zeros t u literals (leads-cells t u literals h)

-- into a vector
pub into-vector : (t v : DataType) (n j : ℕ) (rest ws : List ℕ) → LeadsTo t (Vector n v) (j ∷ rest) → length ws ≡ n → extracted t ws (packed_part (j ∷ rest) (whole_part (Vector n v))) ≡ slice_index ws j ∷ []
into-vector t v n j rest ws h sized =
    ap (λ ls. extracted t ws (packed_part (j ∷ ls) (whole_part (Vector n v)))) h.1.1.1 ∙ extract_component t v n ws j h.0 h.1.0 sized
