-- The parts of constants of constituents: entries that have their words, of the types of the composite's parts.
use Rattle.std.proofs.Common.{◌≡◌, ℕ, zero, suc, ◌+◌, ◌<◌, Bool, true, false, cond, ◌==◌, ◌&&◌, nat_le, not, List, [], ◌∷◌, ◌++◌, length, take, map, replicate, slice_get, slice_index, Option, Some, None, refl, sym, ap, subst, ◌∙◌, arith}
use Rattle.std.specs.List.{list_all}
use Rattle.std.proofs.lemmas.List.{append-nil}
use Rattle.std.proofs.lemmas.Bool.{eqb-true, and_parts}
use Rattle.spv_module.specs.Instruction.{Instruction}
use Rattle.spv_meaning.specs.Constants.{Table, Meaning, IsConstant, type_in, type_at, length_at, words_at, composed}
use Rattle.spv_meaning.specs.Types.{DataType}
use Rattle.spv_folding.proofs.Composites.{member_types-members_of}
use Rattle.spv_ids.specs.Ids.{is_defined_before}
use Rattle.spv_typing.specs.Kinds.{is_one_of, is_vector, is_array, is_struct, is_constant, has_type, type_of, element, length_id, members}
use Rattle.spv_declarations.specs.Constants.{composite_fits, has_length, are_of}
use Rattle.spv_declarations.specs.Declarations.{says, declared_before}
use Rattle.spv_declarations.specs.Sound.{IsBefore, table_before, IsSoundType}
use Rattle.spv_types.specs.declared.meaning.Constant.{Constant}
use Rattle.spv_types.specs.declared.meaning.Kept.{Kept}
use Rattle.spv_types.specs.Meanings.{joined, words_numbered, AllBelow}
use Rattle.spv_types.specs.Extracting.{IsPart, ArePartsOf, part_types}
use Rattle.spv_types.specs.Declaring.{AreSound, IsConstantOf, AreConstantsOf, HasParts, AddsPart, AddsNumber, HasConstituents, HasWords, IsReady, IsNumber, meaning_in_entry}
use Rattle.spv_types.proofs.CompositeLemmas.{composed-next, joined-append, next_sound, parts_large}

-- ---- one part more

AllBelow-push : (n x : ℕ) (xs : List ℕ) → AllBelow n xs → x < n → AllBelow n (xs ++ x ∷ [])
AllBelow-push n x [] h less = (less, tt)
AllBelow-push n x (y ∷ ys) h less = (h.0, AllBelow-push n x ys h.1 less)

entry_of : (e : Option (ℕ × Meaning)) (m : Meaning) → meaning_in_entry e ≡ Some m → (id : ℕ) × (e ≡ Some (id, m))
entry_of None m h = cc
entry_of (Some e) m h = let same : e.1 ≡ m = cc in (e.0, ap (λ (x : Meaning). Some (e.0, x)) same)

-- the number of a constant is that of a part
numbered_part : (table : Table) (t : DataType) (id n : ℕ) → IsNumber table id n → IsConstantOf table t id → IsPart table t n
numbered_part table t id n number c =
    let entry = entry_of (slice_get table n) (IsConstant t c.words) (number.meant ∙ c.stands) in
    record { id = entry.0; words = c.words; stands = entry.1; sized = c.sized }

pub adds_number : (table : Table) (id n m : ℕ) (old new : List ℕ) → IsNumber table id n → m ≡ n → new ≡ old ++ m ∷ [] → AddsNumber table id old new
adds_number table id n m old new h same push = record {
  words_are = ap (joined table) push ∙ joined-append table old (m ∷ []) ∙ ap (λ ws. joined table old ++ ws) (append-nil (words_numbered table m) ∙ ap (words_numbered table) same ∙ h.same);
  below = λ b. subst (λ xs. AllBelow (length table) xs) (sym push) (AllBelow-push (length table) m old b (subst (λ x. x < length table) (sym same) h.within));
  typed = λ t c. record { number = m; is = subst (λ (x : ℕ). IsPart table t x) (sym same) (numbered_part table t id n h c); behind = push };
}

-- ---- the parts of so many constituents

none_typed : (table : Table) (ts : List DataType) → AreConstantsOf table ts [] → ArePartsOf table ts []
none_typed table [] h = tt
none_typed table (t ∷ ts) h = absurd h

pub no_parts : (table : Table) (numbers : List ℕ) → numbers ≡ [] → HasParts table [] numbers
no_parts table numbers e = subst (λ (ns : List ℕ). HasParts table [] ns) (sym e) (record { words_are = refl; below = tt; typed = none_typed table })

-- the types in front of the last, and the last
record IsOneMore (table : Table) (ts : List DataType) (ids : List ℕ) (id : ℕ) : Type 0 where
  front : List DataType
  last : DataType
  is : ts ≡ front ++ last ∷ []
  before : AreConstantsOf table front ids
  constant : IsConstantOf table last id

-- induction on the ids
one_more : (table : Table) (ts : List DataType) (ids : List ℕ) (i : ℕ) → i < length ids → AreConstantsOf table ts (take (suc i) ids) → IsOneMore table ts (take i ids) (slice_index ids i)
one_more table ts [] i less h = absurd (omega arith)
one_more table [] (id ∷ ids) i less h = absurd h
one_more table (t ∷ []) (id ∷ ids) zero less h = record { front = []; last = t; is = refl; before = tt; constant = h.0 }
one_more table (t ∷ u ∷ ts) (id ∷ ids) zero less h = absurd h.1
one_more table (t ∷ ts) (id ∷ ids) (suc i) less h =
    let rest = one_more table ts ids i (omega arith) h.1 in
    record { front = t ∷ rest.front; last = rest.last; is = ap (λ us. t ∷ us) rest.is; before = (h.0, rest.before); constant = rest.constant }

ArePartsOf-push : (table : Table) (ts : List DataType) (t : DataType) (ns : List ℕ) (n : ℕ) → ArePartsOf table ts ns → IsPart table t n → ArePartsOf table (ts ++ t ∷ []) (ns ++ n ∷ [])
ArePartsOf-push table [] t [] n h p = (p, tt)
ArePartsOf-push table [] t (m ∷ ms) n h p = absurd h
ArePartsOf-push table (u ∷ us) t [] n h p = absurd h
ArePartsOf-push table (u ∷ us) t (m ∷ ms) n h p = (h.0, ArePartsOf-push table us t ms n h.1 p)

typed-next : (table : Table) (ids : List ℕ) (i : ℕ) (old new : List ℕ) → i < length ids → ((us : List DataType) → AreConstantsOf table us (take i ids) → ArePartsOf table us old) →
    ((t : DataType) → IsConstantOf table t (slice_index ids i) → AddsPart table t old new) → (ts : List DataType) → AreConstantsOf table ts (take (suc i) ids) → ArePartsOf table ts new
typed-next table ids i old new less so_far adds ts h =
    let more = one_more table ts ids i less h in
    let part = adds more.last more.constant in
    let all = ArePartsOf-push table more.front more.last old part.number (so_far more.front more.before) part.is in
    subst (λ (ns : List ℕ). ArePartsOf table ts ns) (sym part.behind) (subst (λ (us : List DataType). ArePartsOf table us (old ++ part.number ∷ [])) (sym more.is) all)

pub parts-next : (table : Table) (ids : List ℕ) (i : ℕ) (old new : List ℕ) → i < length ids → HasParts table (take i ids) old → AddsNumber table (slice_index ids i) old new → HasParts table (take (i + 1) ids) new
parts-next table ids i old new less h adds =
    let next : i + 1 ≡ suc i = omega arith in
    record {
      words_are = composed-next table ids i less ∙ ap (λ ws. ws ++ words_at table (slice_index ids i)) h.words_are ∙ sym adds.words_are;
      below = adds.below h.below;
      typed = λ ts are. typed-next table ids i old new less h.typed adds.typed ts (subst (λ (n : ℕ). AreConstantsOf table ts (take n ids)) next are);
    }

-- ---- the types of constituents

typed_constant : (insts : List Instruction) (k t id : ℕ) → AreSound insts k → IsBefore insts k id → has_type insts t id ≡ true → IsConstantOf (table_before insts k) (type_at (table_before insts k) t) id
typed_constant insts k t id sound before typed =
    let table = table_before insts k in
    let both = and_parts (is_constant insts id) (type_of insts id == t) typed in
    let h = sound.constants id before both.0 in
    let same : type_at table (type_of insts id) ≡ type_at table t = ap (type_at table) (eqb-true (type_of insts id) t both.1) in
    subst (λ (u : DataType). IsConstantOf table u id) same (record { words = h.words; stands = h.stands; sized = h.sized })

-- induction on the constituents
elements_typed : (insts : List Instruction) (k t : ℕ) → AreSound insts k → (ids : List ℕ) → list_all (is_defined_before insts k) ids ≡ true → list_all (has_type insts t) ids ≡ true →
    AreConstantsOf (table_before insts k) (replicate (length ids) (type_at (table_before insts k) t)) ids
elements_typed insts k t sound [] known typed = tt
elements_typed insts k t sound (id ∷ ids) known typed =
    let known_both = and_parts (is_defined_before insts k id) (list_all (is_defined_before insts k) ids) known in
    let typed_both = and_parts (has_type insts t id) (list_all (has_type insts t) ids) typed in
    (typed_constant insts k t id sound known_both.0 typed_both.0, elements_typed insts k t sound ids known_both.1 typed_both.1)

-- induction on the members
members_typed : (insts : List Instruction) (k : ℕ) → AreSound insts k → (ts ids : List ℕ) → list_all (is_defined_before insts k) ids ≡ true → are_of insts ts ids ≡ true →
    AreConstantsOf (table_before insts k) (map (type_at (table_before insts k)) ts) ids
members_typed insts k sound [] [] known typed = tt
members_typed insts k sound [] (id ∷ ids) known typed = cc
members_typed insts k sound (t ∷ ts) [] known typed = cc
members_typed insts k sound (t ∷ ts) (id ∷ ids) known typed =
    let known_both = and_parts (is_defined_before insts k id) (list_all (is_defined_before insts k) ids) known in
    let typed_both = and_parts (has_type insts t id) (are_of insts ts ids) typed in
    (typed_constant insts k t id sound known_both.0 typed_both.0, members_typed insts k sound ts ids known_both.1 typed_both.1)

-- by the kind of the composite
large_typed : (insts : List Instruction) (k t : ℕ) (ids : List ℕ) → AreSound insts k → IsSoundType insts (table_before insts k) t → list_all (is_defined_before insts k) ids ≡ true → (a : Bool) → is_array insts t ≡ a →
    cond a (has_length (declared_before insts k) (length_id insts t) (length ids) && list_all (has_type insts (element insts t)) ids) (is_struct insts t && are_of insts (members insts t) ids) ≡ true →
    AreConstantsOf (table_before insts k) (part_types (type_at (table_before insts k) t)) ids
large_typed insts k t ids sound type known true array fits =
    let d = declared_before insts k in
    let u = type_at d.table (element insts t) in
    let both = and_parts (has_length d (length_id insts t) (length ids)) (list_all (has_type insts (element insts t)) ids) fits in
    let counted = and_parts (not (is_one_of d.specialised (length_id insts t))) (nat_le 1 (length ids) && length_at d.table (length_id insts t) == length ids) both.0 in
    let exact = and_parts (nat_le 1 (length ids)) (length_at d.table (length_id insts t) == length ids) counted.1 in
    let count : length_at d.table (length_id insts t) ≡ length ids = eqb-true (length_at d.table (length_id insts t)) (length ids) exact.1 in
    let types : part_types (type_at d.table t) ≡ replicate (length ids) u = ap (λ m. part_types (type_in m)) (type.array array).1 ∙ ap (λ (n : ℕ). replicate n u) count in
    subst (λ (us : List DataType). AreConstantsOf d.table us ids) (sym types) (elements_typed insts k (element insts t) sound ids known both.1)
large_typed insts k t ids sound type known false array fits =
    let table = table_before insts k in
    let both = and_parts (is_struct insts t) (are_of insts (members insts t) ids) fits in
    let types : part_types (type_at table t) ≡ map (type_at table) (members insts t) = ap (λ m. part_types (type_in m)) (type.struct both.0) ∙ member_types-members_of (says insts) table t 0 (members insts t) in
    subst (λ (us : List DataType). AreConstantsOf table us ids) (sym types) (members_typed insts k sound (members insts t) ids known both.1)

-- the constituents of an array or a struct are of the types of its parts
constituents_typed : (insts : List Instruction) (k : ℕ) (i : Instruction) (ks : List (ℕ × Kept)) (t : ℕ) (ids : List ℕ) → IsReady insts k i ks → IsBefore insts k t → is_vector insts t ≡ false →
    list_all (is_defined_before insts k) ids ≡ true → composite_fits insts (declared_before insts k) t ids ≡ true → AreConstantsOf (table_before insts k) (part_types (type_at (table_before insts k) t)) ids
constituents_typed insts k i ks t ids ready before v known fits =
    large_typed insts k t ids ready.sound (next_sound insts k i ks ready t before) known (is_array insts t) refl (other_rule (is_vector insts t) _ _ v fits)
  where
    other_rule : (b x y : Bool) → b ≡ false → cond b x y ≡ true → y ≡ true
    other_rule true x y e h = cc
    other_rule false x y e h = h

pub parts_words : (insts : List Instruction) (k : ℕ) (i : Instruction) (ks : List (ℕ × Kept)) (t : ℕ) (ids : List ℕ) (c : Constant) → IsReady insts k i ks → IsBefore insts k t → is_vector insts t ≡ false →
    list_all (is_defined_before insts k) ids ≡ true → composite_fits insts (declared_before insts k) t ids ≡ true → HasConstituents (table_before insts k) ids c →
    HasWords (table_before insts k) (type_at (table_before insts k) t) (composed (table_before insts k) ids) c
parts_words insts k i ks t ids c ready before v known fits has = record {
  value = has.value (type_at (table_before insts k) t) (parts_large insts k i ks t ids ready before v fits);
  cells = has.cells;
  parts = has.typed (part_types (type_at (table_before insts k) t)) (constituents_typed insts k i ks t ids ready before v known fits);
}
