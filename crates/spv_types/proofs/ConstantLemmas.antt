-- What is kept of a constant, by its id.
use Rattle.std.proofs.Common.{◌≡◌, ℕ, suc, ◌<◌, Bool, true, false, cond, nat_eq, List, [], ◌∷◌, length, slice_get, position, Option, Some, None, refl, sym, ap, subst, ◌∙◌, arith}
use Rattle.std.specs.Option.{IfSome, IfNone, option_map}
use Rattle.std.specs.Map.{lookup, keys_of}
use Rattle.spv_value.specs.declared.words.Operand.{Operand}
use Rattle.spv_value.specs.Words.{words_of}
use Rattle.spv_meaning.specs.Constants.{Table, Meaning, IsType, IsPointer, IsConstant, IsVariable, meaning, words_in, words_at, typed_in, typed_at}
use Rattle.spv_meaning.specs.Types.{DataType}
use Rattle.spv_typing.specs.Kinds.{is_one_of}
use Rattle.spv_declarations.specs.Declarations.{Declared}
use Rattle.spv_ids.proofs.Places.{position-cons}
use Rattle.spv_types.specs.declared.meaning.Constant.{Constant}
use Rattle.spv_types.specs.declared.meaning.Kept.{Kept}
use Rattle.spv_types.specs.declared.meaning.Kept.TheVariants as kept
use Rattle.spv_types.specs.declared.meaning.Value.{Value}
use Rattle.spv_types.specs.declared.meaning.Value.TheVariants.{Small, Zeros, Parts}
use Rattle.spv_types.specs.Facts.{in_64_bits}
use Rattle.spv_types.specs.Meanings.{IsValue, StandFrom, StandFor, words_in_entry, constant_of_kept, cells_of_constant, is_small}
use Rattle.spv_types.specs.Declaring.{OnlyConstants, flag_of, meaning_in_entry, IsNumber, IsOperandIn, IsOperandOf}
use Rattle.spv_types.proofs.Standing.{AreAlike, StandFrom-lookup}

-- a constant is kept of a constant alone, with its words and its flag
pub record IsKept (table : Table) (specialised : List ℕ) (id : ℕ) (c : Constant) (words : List ℕ) : Type 0 where
  pub cells : c.cells ≡ in_64_bits (length words)
  pub flag : c.is_specialised ≡ is_one_of specialised id

abbrev pub ConstantsAlike : Table → List ℕ → (id : ℕ) → Option Constant → Option Meaning → Type 0
ConstantsAlike table ids id (Some c) (Some (IsConstant t words)) = IsKept table ids id c words × ((n : ℕ) × IsValue table n c.value t words)
ConstantsAlike table ids id (Some c) m = ⊥
ConstantsAlike table ids id None (Some (IsConstant t words)) = ⊥
ConstantsAlike table ids id None m = Unit {0}

constants_alike : (table : Table) (ids : List ℕ) (r : ℕ) (k : Option Kept) (m : Option Meaning) → AreAlike table ids r k m → ConstantsAlike table ids r (constant_of_kept k) m
constants_alike table ids r None None h = tt
constants_alike table ids r None (Some m) h = absurd h
constants_alike table ids r (Some k) None h = absurd h
constants_alike table ids r (Some (kept.Type f)) (Some (IsType t)) h = tt
constants_alike table ids r (Some (kept.Type f)) (Some (IsPointer class t)) h = absurd h.1
constants_alike table ids r (Some (kept.Type f)) (Some (IsConstant t words)) h = absurd h.1
constants_alike table ids r (Some (kept.Type f)) (Some (IsVariable class t words)) h = absurd h.1
constants_alike table ids r (Some (kept.Pointer f)) (Some (IsType t)) h = absurd h.1
constants_alike table ids r (Some (kept.Pointer f)) (Some (IsPointer class t)) h = tt
constants_alike table ids r (Some (kept.Pointer f)) (Some (IsConstant t words)) h = absurd h.1
constants_alike table ids r (Some (kept.Pointer f)) (Some (IsVariable class t words)) h = absurd h.1
constants_alike table ids r (Some (kept.Constant c)) (Some (IsType t)) h = absurd h.1
constants_alike table ids r (Some (kept.Constant c)) (Some (IsPointer class t)) h = absurd h.1
constants_alike table ids r (Some (kept.Constant c)) (Some (IsConstant t words)) h = (record { cells = h.1.1.0; flag = h.1.1.1 }, (h.0, h.1.0))
constants_alike table ids r (Some (kept.Constant c)) (Some (IsVariable class t words)) h = absurd h.1
constants_alike table ids r (Some kept.Variable) (Some (IsType t)) h = absurd h.1
constants_alike table ids r (Some kept.Variable) (Some (IsPointer class t)) h = absurd h.1
constants_alike table ids r (Some kept.Variable) (Some (IsConstant t words)) h = absurd h.1
constants_alike table ids r (Some kept.Variable) (Some (IsVariable class t words)) h = tt

pub constant_kept : (table : Table) (ids : List ℕ) (ks : List (ℕ × Kept)) (id : ℕ) → StandFor table ids ks → ConstantsAlike table ids id (constant_of_kept (lookup (nat_eq id) ks)) (meaning table id)
constant_kept table ids ks id h = constants_alike table ids id (lookup (nat_eq id) ks) (lookup (nat_eq id) table) (StandFrom-lookup table ids 0 ks table h id)

-- ---- flags

-- where an id is in the list only with a constant
not_among : (id : ℕ) (ids : List ℕ) (m : Option Meaning) (b : Bool) → is_one_of ids id ≡ b → ConstantsAlike [] [] id None m → (b ≡ true → (t : DataType) × (words : List ℕ) × (m ≡ Some (IsConstant t words))) → false ≡ is_one_of ids id
not_among id ids m false e h only = sym e
not_among id ids m true e h only = absurd (subst (λ x. ConstantsAlike [] [] id None x) (only refl).2 h)

flag_alike : (table : Table) (ids : List ℕ) (id : ℕ) (c : Option Constant) (m : Option Meaning) → ConstantsAlike table ids id c m →
    (is_one_of ids id ≡ true → (t : DataType) × (words : List ℕ) × (m ≡ Some (IsConstant t words))) → flag_of c ≡ is_one_of ids id
flag_alike table ids id (Some c) (Some (IsConstant t words)) h only = h.0.flag
flag_alike table ids id (Some c) None h only = absurd h
flag_alike table ids id (Some c) (Some (IsType t)) h only = absurd h
flag_alike table ids id (Some c) (Some (IsPointer class t)) h only = absurd h
flag_alike table ids id (Some c) (Some (IsVariable class t words)) h only = absurd h
flag_alike table ids id None (Some (IsConstant t words)) h only = absurd h
flag_alike table ids id None None h only = not_among id ids None (is_one_of ids id) refl tt only
flag_alike table ids id None (Some (IsType t)) h only = not_among id ids (Some (IsType t)) (is_one_of ids id) refl tt only
flag_alike table ids id None (Some (IsPointer class t)) h only = not_among id ids (Some (IsPointer class t)) (is_one_of ids id) refl tt only
flag_alike table ids id None (Some (IsVariable class t words)) h only = not_among id ids (Some (IsVariable class t words)) (is_one_of ids id) refl tt only

pub flag_kept : (d : Declared) (ks : List (ℕ × Kept)) (id : ℕ) → StandFor d.table d.specialised ks → OnlyConstants d → flag_of (constant_of_kept (lookup (nat_eq id) ks)) ≡ is_one_of d.specialised id
flag_kept d ks id h only =
    flag_alike d.table d.specialised id (constant_of_kept (lookup (nat_eq id) ks)) (meaning d.table id) (constant_kept d.table d.specialised ks id h) (only.at id)

-- ---- words

cells_alike : (table : Table) (ids : List ℕ) (id : ℕ) (c : Option Constant) (m : Option Meaning) → ConstantsAlike table ids id c m → cells_of_constant c ≡ in_64_bits (length (words_in m))
cells_alike table ids id (Some c) (Some (IsConstant t words)) h = h.0.cells
cells_alike table ids id (Some c) None h = absurd h
cells_alike table ids id (Some c) (Some (IsType t)) h = absurd h
cells_alike table ids id (Some c) (Some (IsPointer class t)) h = absurd h
cells_alike table ids id (Some c) (Some (IsVariable class t words)) h = absurd h
cells_alike table ids id None (Some (IsConstant t words)) h = absurd h
cells_alike table ids id None None h = refl
cells_alike table ids id None (Some (IsType t)) h = refl
cells_alike table ids id None (Some (IsPointer class t)) h = refl
cells_alike table ids id None (Some (IsVariable class t words)) h = refl

pub cells_kept_at : (table : Table) (ids : List ℕ) (ks : List (ℕ × Kept)) (id : ℕ) → StandFor table ids ks → cells_of_constant (constant_of_kept (lookup (nat_eq id) ks)) ≡ in_64_bits (length (words_at table id))
cells_kept_at table ids ks id h = cells_alike table ids id (constant_of_kept (lookup (nat_eq id) ks)) (meaning table id) (constant_kept table ids ks id h)

small_value : (table : Table) (n : ℕ) (v : Value) (t : DataType) (words : List ℕ) (x : Operand) → IsValue table n v t words → IsOperandIn v x → is_small t ≡ true → words_of x ≡ words
small_value table n (Small y) t words x h is small = ap words_of is ∙ h.0
small_value table n Zeros t words x h is small = let no : true ≡ false = sym small ∙ h.1 in cc
small_value table n (Parts numbers) t words x h is small = let no : true ≡ false = sym small ∙ h.1.1 in cc

operand_alike : (table : Table) (ids : List ℕ) (id : ℕ) (c : Option Constant) (m : Option Meaning) (x : Operand) → ConstantsAlike table ids id c m → IsOperandOf c x → is_small (typed_in m).type ≡ true → words_of x ≡ (typed_in m).words
operand_alike table ids id (Some c) (Some (IsConstant t words)) x h is small = small_value table h.1.0 c.value t words x h.1.1 is small
operand_alike table ids id (Some c) None x h is small = absurd h
operand_alike table ids id (Some c) (Some (IsType t)) x h is small = absurd h
operand_alike table ids id (Some c) (Some (IsPointer class t)) x h is small = absurd h
operand_alike table ids id (Some c) (Some (IsVariable class t words)) x h is small = absurd h
operand_alike table ids id None (Some (IsConstant t words)) x h is small = absurd h
operand_alike table ids id None None x h is small = cc
operand_alike table ids id None (Some (IsType t)) x h is small = cc
operand_alike table ids id None (Some (IsPointer class t)) x h is small = cc
operand_alike table ids id None (Some (IsVariable class t words)) x h is small = cc

pub operand_kept : (table : Table) (ids : List ℕ) (ks : List (ℕ × Kept)) (id : ℕ) (x : Operand) → StandFor table ids ks → IsOperandOf (constant_of_kept (lookup (nat_eq id) ks)) x → is_small (typed_at table id).type ≡ true →
    words_of x ≡ (typed_at table id).words
operand_kept table ids ks id x h is small = operand_alike table ids id (constant_of_kept (lookup (nat_eq id) ks)) (meaning table id) x (constant_kept table ids ks id h) is small

-- ---- numbers

-- the entry of the number is the id's
pub record IsPlace (table : Table) (id n : ℕ) : Type 0 where
  pub within : n < length table
  pub same : words_in_entry (slice_get table n) ≡ words_at table id
  pub meant : meaning_in_entry (slice_get table n) ≡ meaning table id

words_of_entry : (r : ℕ) (m : Meaning) → words_in_entry (Some (r, m)) ≡ words_in (Some m)
words_of_entry r (IsType t) = refl
words_of_entry r (IsPointer class t) = refl
words_of_entry r (IsConstant t words) = refl
words_of_entry r (IsVariable class t words) = refl

-- a place, if any
abbrev pub Places : Table → (id : ℕ) → Option ℕ → Type 0
Places table id None = meaning table id ≡ None
Places table id (Some n) = IsPlace table id n

place_behind : (id : ℕ) (e : ℕ × Meaning) (ts : Table) (n : Option ℕ) → nat_eq id e.0 ≡ false → Places ts id n → Places (e ∷ ts) id (option_map (λ k. suc k) n)
place_behind id e ts None other h = ap (λ b. cond b (Some e.1) (lookup (nat_eq id) ts)) other ∙ h
place_behind id e ts (Some n) other h = record {
  within = omega (arith, h.within);
  same = h.same ∙ sym (ap (λ b. words_in (cond b (Some e.1) (lookup (nat_eq id) ts))) other);
  meant = h.meant ∙ sym (ap (λ b. cond b (Some e.1) (lookup (nat_eq id) ts)) other);
}

place_first : (id : ℕ) (k : ℕ × Kept) (e : ℕ × Meaning) (ks : List (ℕ × Kept)) (ts : Table) (b : Bool) → nat_eq id k.0 ≡ b → k.0 ≡ e.0 → Places ts id (position (nat_eq id) (keys_of ks)) →
    Places (e ∷ ts) id (cond b (Some 0) (option_map (λ n. suc n) (position (nat_eq id) (keys_of ks))))
place_first id k e ks ts true is same h = record {
  within = omega arith;
  same = words_of_entry e.0 e.1 ∙ sym (ap (λ b. words_in (cond b (Some e.1) (lookup (nat_eq id) ts))) (ap (nat_eq id) (sym same) ∙ is));
  meant = sym (ap (λ b. cond b (Some e.1) (lookup (nat_eq id) ts)) (ap (nat_eq id) (sym same) ∙ is));
}
place_first id k e ks ts false is same h = place_behind id e ts (position (nat_eq id) (keys_of ks)) (ap (nat_eq id) (sym same) ∙ is) h

-- induction on the entries
places : (table : Table) (ids : List ℕ) (n id : ℕ) (ks : List (ℕ × Kept)) (ts : Table) → StandFrom table ids n ks ts → Places ts id (position (nat_eq id) (keys_of ks))
places table ids n id [] [] h = refl
places table ids n id [] (t ∷ ts) h = absurd h
places table ids n id (k ∷ ks) [] h = absurd h
places table ids n id (k ∷ ks) (t ∷ ts) h =
    subst (λ o. Places (t ∷ ts) id o) (sym (position-cons (nat_eq id) k.0 (keys_of ks)))
    (place_first id k t ks ts (nat_eq id k.0) refl h.0 (places table ids (suc n) id ks ts h.1.1))

abbrev pub IsFound : (id : ℕ) → List (ℕ × Kept) → Option ℕ → Type 0
IsFound id ks o = IfSome o (λ n. (table : Table) (ids : List ℕ) → StandFor table ids ks → IsNumber table id n)

abbrev pub IsAbsent : (id : ℕ) → List (ℕ × Kept) → Option ℕ → Type 0
IsAbsent id ks o = IfNone o ((table : Table) (ids : List ℕ) → StandFor table ids ks → meaning table id ≡ None)

pub number_kept : (ks : List (ℕ × Kept)) (id : ℕ) (o : Option ℕ) → o ≡ position (nat_eq id) (keys_of ks) → IsFound id ks o
number_kept ks id None e = tt
number_kept ks id (Some n) e = λ table ids h. number table (subst (λ o. Places table id o) (sym e) (places table ids 0 id ks table h))
  where
    number : (table : Table) → Places table id (Some n) → IsNumber table id n
    number table p = record { within = p.within; same = p.same; meant = p.meant }

pub no_number_kept : (ks : List (ℕ × Kept)) (id : ℕ) (o : Option ℕ) → o ≡ position (nat_eq id) (keys_of ks) → IsAbsent id ks o
no_number_kept ks id None e = λ table ids h. subst (λ o. Places table id o) (sym e) (places table ids 0 id ks table h)
no_number_kept ks id (Some n) e = tt
