-- What is kept of the meanings of ids stands for the table, entry by entry: what look-ups find, and one entry more.
use Rattle.std.proofs.Common.{◌≡◌, ℕ, zero, suc, ◌+◌, ◌<◌, ◌≤◌, Bool, true, false, cond, nat_eq, List, [], ◌∷◌, ◌++◌, length, slice_get, Option, Some, None, refl, sym, subst, ◌∙◌, arith}
use Rattle.std.specs.Map.{lookup}
use Rattle.std.proofs.lemmas.Bool.Decides.{nat_tests}
use Rattle.std.proofs.lemmas.Option.{none-some}
use Rattle.indexmap.proofs.CallerLemmas.{insert_entry-new}
use Rattle.spv_meaning.specs.Constants.{Table, Meaning, IsType, IsPointer, IsConstant, IsVariable, type_in, type_at, pointer_in, pointer_at}
use Rattle.spv_meaning.specs.Types.{DataType}
use Rattle.spv_typing.specs.Kinds.{is_one_of}
use Rattle.spv_types.specs.declared.meaning.Kept.{Kept}
use Rattle.spv_types.specs.declared.meaning.Kept.TheVariants as kept
use Rattle.spv_types.specs.declared.meaning.Value.{Value}
use Rattle.spv_types.specs.declared.meaning.Value.TheVariants.{Small, Zeros, Parts}
use Rattle.spv_types.specs.Facts.{facts}
use Rattle.spv_types.specs.Meanings.{type_of_kept, pointee_of_kept, IsValue, AllBelow, StandsFor, StandFrom, StandFor, words_numbered, joined}

-- ---- look-ups

-- both find nothing, or what stands for the other, as an entry before the end
abbrev pub AreAlike : Table → List ℕ → (r : ℕ) → Option Kept → Option Meaning → Type 0
AreAlike table specialised r None None = Unit {0}
AreAlike table specialised r None (Some m) = ⊥
AreAlike table specialised r (Some k) None = ⊥
AreAlike table specialised r (Some k) (Some m) = (n : ℕ) × StandsFor table specialised n r k m

alike_first : (table : Table) (specialised : List ℕ) (n id : ℕ) (k : ℕ × Kept) (t : ℕ × Meaning) (ks : List (ℕ × Kept)) (ts : Table) →
    k.0 ≡ t.0 → StandsFor table specialised n t.0 k.1 t.1 → AreAlike table specialised id (lookup (nat_eq id) ks) (lookup (nat_eq id) ts) →
    AreAlike table specialised id (lookup (nat_eq id) (k ∷ ks)) (lookup (nat_eq id) (t ∷ ts))
alike_first table specialised n id (key, k) (r, m) ks ts same stands rest =
    subst (λ x. AreAlike table specialised id (cond (nat_eq id x) (Some k) (lookup (nat_eq id) ks)) (cond (nat_eq id r) (Some m) (lookup (nat_eq id) ts))) (sym same)
    (by (nat_eq id r) refl)
  where
    by : (b : Bool) → nat_eq id r ≡ b → AreAlike table specialised id (cond b (Some k) (lookup (nat_eq id) ks)) (cond b (Some m) (lookup (nat_eq id) ts))
    by true e = let is : r ≡ id = grind (arith, nat_tests) in (n, subst (λ x. StandsFor table specialised n x k m) is stands)
    by false e = rest

-- induction on the entries
pub StandFrom-lookup : (table : Table) (specialised : List ℕ) (n : ℕ) (ks : List (ℕ × Kept)) (ts : Table) → StandFrom table specialised n ks ts →
    (id : ℕ) → AreAlike table specialised id (lookup (nat_eq id) ks) (lookup (nat_eq id) ts)
StandFrom-lookup table specialised n [] [] h id = tt
StandFrom-lookup table specialised n [] (t ∷ ts) h id = absurd h
StandFrom-lookup table specialised n (k ∷ ks) [] h id = absurd h
StandFrom-lookup table specialised n (k ∷ ks) (t ∷ ts) h id =
    alike_first table specialised n id k t ks ts h.0 h.1.0 (StandFrom-lookup table specialised (suc n) ks ts h.1.1 id)

-- the same of entries by their numbers
abbrev pub AreAlikeEntries : Table → List ℕ → (n : ℕ) → Option (ℕ × Kept) → Option (ℕ × Meaning) → Type 0
AreAlikeEntries table specialised n None None = Unit {0}
AreAlikeEntries table specialised n None (Some t) = ⊥
AreAlikeEntries table specialised n (Some k) None = ⊥
AreAlikeEntries table specialised n (Some k) (Some t) = (k.0 ≡ t.0) × StandsFor table specialised n t.0 k.1 t.1

pub StandFrom-at : (table : Table) (specialised : List ℕ) (n : ℕ) (ks : List (ℕ × Kept)) (ts : Table) → StandFrom table specialised n ks ts →
    (j : ℕ) → AreAlikeEntries table specialised (n + j) (slice_get ks j) (slice_get ts j)
StandFrom-at table specialised n [] [] h j = tt
StandFrom-at table specialised n [] (t ∷ ts) h j = absurd h
StandFrom-at table specialised n (k ∷ ks) [] h j = absurd h
StandFrom-at table specialised n (k ∷ ks) (t ∷ ts) h zero =
    let e : n + 0 ≡ n = omega arith in
    subst (λ x. AreAlikeEntries table specialised x (Some k) (Some t)) (sym e) (h.0, h.1.0)
StandFrom-at table specialised n (k ∷ ks) (t ∷ ts) h (suc j) =
    let e : suc n + j ≡ n + suc j = omega arith in
    subst (λ x. AreAlikeEntries table specialised x (slice_get ks j) (slice_get ts j)) e (StandFrom-at table specialised (suc n) ks ts h.1.1 j)

-- ---- one entry more

words_numbered-more : (table more : Table) (n : ℕ) → n < length table → words_numbered (table ++ more) n ≡ words_numbered table n
words_numbered-more [] more n h = absurd (omega (arith, h))
words_numbered-more (t ∷ ts) more zero h = refl
words_numbered-more (t ∷ ts) more (suc n) h = words_numbered-more ts more n (omega (arith, h))

joined-more : (table more : Table) (n : ℕ) (ns : List ℕ) → n ≤ length table → AllBelow n ns → joined (table ++ more) ns ≡ joined table ns
joined-more table more n [] within h = refl
joined-more table more n (x ∷ xs) within h =
    rw (words_numbered-more table more x (omega (arith, within, h.0)), joined-more table more n xs within h.1) refl

pub IsValue-more : (table more : Table) (n : ℕ) (v : Value) (t : DataType) (words : List ℕ) → n ≤ length table → IsValue table n v t words → IsValue (table ++ more) n v t words
IsValue-more table more n (Small operand) t words within h = h
IsValue-more table more n Zeros t words within h = h
IsValue-more table more n (Parts numbers) t words within h = (h.0 ∙ sym (joined-more table more n numbers.items within h.1.0), h.1)

is_one_of-more : (ids : List ℕ) (r id : ℕ) → nat_eq r id ≡ false → is_one_of (ids ++ r ∷ []) id ≡ is_one_of ids id
is_one_of-more [] r id h = grind (arith, nat_tests)
is_one_of-more (x ∷ xs) r id h = rw (is_one_of-more xs r id h) refl

-- the ids of these entries are among some ids where they are among others
abbrev pub SameFlags : (ids others : List ℕ) → Table → Type 0
SameFlags ids others [] = Unit {0}
SameFlags ids others (t ∷ ts) = (is_one_of others t.0 ≡ is_one_of ids t.0) × SameFlags ids others ts

pub SameFlags-same : (ids : List ℕ) (ts : Table) → SameFlags ids ids ts
SameFlags-same ids [] = tt
SameFlags-same ids (t ∷ ts) = (refl, SameFlags-same ids ts)

same_flag : (ids : List ℕ) (r : ℕ) (t : ℕ × Meaning) (ts : Table) (b : Bool) → nat_eq r t.0 ≡ b → (lookup (nat_eq r) ts ≡ None → SameFlags ids (ids ++ r ∷ []) ts) →
    cond b (Some t.1) (lookup (nat_eq r) ts) ≡ None → SameFlags ids (ids ++ r ∷ []) (t ∷ ts)
same_flag ids r t ts true e rest none = absurd (none-some t.1 (sym none))
same_flag ids r t ts false e rest none = (is_one_of-more ids r t.0 e, rest none)

-- one id more, which is none of them
pub SameFlags-new : (ids : List ℕ) (r : ℕ) (ts : Table) → lookup (nat_eq r) ts ≡ None → SameFlags ids (ids ++ r ∷ []) ts
SameFlags-new ids r [] none = tt
SameFlags-new ids r (t ∷ ts) none = same_flag ids r t ts (nat_eq r t.0) refl (SameFlags-new ids r ts) none

StandsFor-more : (table more : Table) (ids others : List ℕ) (n r : ℕ) (k : Kept) (m : Meaning) → n ≤ length table → is_one_of others r ≡ is_one_of ids r →
    StandsFor table ids n r k m → StandsFor (table ++ more) others n r k m
StandsFor-more table more ids others n r (kept.Type f) (IsType t) within same h = h
StandsFor-more table more ids others n r (kept.Pointer f) (IsPointer class t) within same h = h
StandsFor-more table more ids others n r (kept.Constant c) (IsConstant t words) within same h =
    (IsValue-more table more n c.value t words within h.0, (h.1.0, h.1.1 ∙ sym same))
StandsFor-more table more ids others n r kept.Variable (IsVariable class t words) within same h = h
StandsFor-more table more ids others n r (kept.Type f) (IsPointer class t) within same h = absurd h
StandsFor-more table more ids others n r (kept.Type f) (IsConstant t words) within same h = absurd h
StandsFor-more table more ids others n r (kept.Type f) (IsVariable class t words) within same h = absurd h
StandsFor-more table more ids others n r (kept.Pointer f) (IsType t) within same h = absurd h
StandsFor-more table more ids others n r (kept.Pointer f) (IsConstant t words) within same h = absurd h
StandsFor-more table more ids others n r (kept.Pointer f) (IsVariable class t words) within same h = absurd h
StandsFor-more table more ids others n r (kept.Constant c) (IsType t) within same h = absurd h
StandsFor-more table more ids others n r (kept.Constant c) (IsPointer class t) within same h = absurd h
StandsFor-more table more ids others n r (kept.Constant c) (IsVariable class t words) within same h = absurd h
StandsFor-more table more ids others n r kept.Variable (IsType t) within same h = absurd h
StandsFor-more table more ids others n r kept.Variable (IsPointer class t) within same h = absurd h
StandsFor-more table more ids others n r kept.Variable (IsConstant t words) within same h = absurd h

-- the entries stand for the same in a longer table
StandFrom-more : (table more : Table) (ids others : List ℕ) (n : ℕ) (ks : List (ℕ × Kept)) (ts : Table) → n + length ts ≤ length table → SameFlags ids others ts →
    StandFrom table ids n ks ts → StandFrom (table ++ more) others n ks ts
StandFrom-more table more ids others n [] [] within same h = tt
StandFrom-more table more ids others n [] (t ∷ ts) within same h = absurd h
StandFrom-more table more ids others n (k ∷ ks) [] within same h = absurd h
StandFrom-more table more ids others n (k ∷ ks) (t ∷ ts) within same h = (
  h.0,
  (
    StandsFor-more table more ids others n t.0 k.1 t.1 (omega (arith, within)) same.0 h.1.0,
    StandFrom-more table more ids others (suc n) ks ts (omega (arith, within)) same.1 h.1.1,
  ),
)

StandFrom-push : (table : Table) (ids : List ℕ) (n r : ℕ) (k : Kept) (m : Meaning) (ks : List (ℕ × Kept)) (ts : Table) →
    StandFrom table ids n ks ts → StandsFor table ids (n + length ts) r k m → StandFrom table ids n (ks ++ (r, k) ∷ []) (ts ++ (r, m) ∷ [])
StandFrom-push table ids n r k m [] [] h new = let e : n + 0 ≡ n = omega arith in (refl, (subst (λ x. StandsFor table ids x r k m) e new, tt))
StandFrom-push table ids n r k m [] (t ∷ ts) h new = absurd h
StandFrom-push table ids n r k m (x ∷ ks) [] h new = absurd h
StandFrom-push table ids n r k m (x ∷ ks) (t ∷ ts) h new =
    let e : n + suc (length ts) ≡ suc n + length ts = omega arith in
    (h.0, (h.1.0, StandFrom-push table ids (suc n) r k m ks ts h.1.1 (subst (λ y. StandsFor table ids y r k m) e new)))

-- a new id's entry more, which stands for its meaning behind all others
pub StandFor-push : (table : Table) (ids others : List ℕ) (r : ℕ) (k : Kept) (m : Meaning) (ks : List (ℕ × Kept)) → StandFor table ids ks → SameFlags ids others table →
    StandsFor (table ++ (r, m) ∷ []) others (length table) r k m → StandFor (table ++ (r, m) ∷ []) others (ks ++ (r, k) ∷ [])
StandFor-push table ids others r k m ks h same new =
    let e : length table ≡ 0 + length table = omega arith in
    StandFrom-push (table ++ (r, m) ∷ []) others 0 r k m ks table (StandFrom-more table ((r, m) ∷ []) ids others 0 ks table (omega arith) same h)
    (subst (λ n. StandsFor (table ++ (r, m) ∷ []) others n r k m) e new)

-- an id without a meaning has no entry
pub StandFor-none : (table : Table) (ids : List ℕ) (ks : List (ℕ × Kept)) → StandFor table ids ks → (id : ℕ) → lookup (nat_eq id) table ≡ None → lookup (nat_eq id) ks ≡ None
StandFor-none table ids ks h id none = by (lookup (nat_eq id) ks) (subst (λ o. AreAlike table ids id (lookup (nat_eq id) ks) o) none (StandFrom-lookup table ids 0 ks table h id))
  where
    by : (o : Option Kept) → AreAlike table ids id o None → o ≡ None
    by None alike = refl
    by (Some k) alike = absurd alike

-- ---- types

type_alike : (table : Table) (ids : List ℕ) (r : ℕ) (k : Option Kept) (m : Option Meaning) → AreAlike table ids r k m → type_of_kept k ≡ facts (type_in m)
type_alike table ids r None None h = refl
type_alike table ids r None (Some m) h = absurd h
type_alike table ids r (Some k) None h = absurd h
type_alike table ids r (Some (kept.Type f)) (Some (IsType t)) h = h.1
type_alike table ids r (Some (kept.Type f)) (Some (IsPointer class t)) h = absurd h.1
type_alike table ids r (Some (kept.Type f)) (Some (IsConstant t words)) h = absurd h.1
type_alike table ids r (Some (kept.Type f)) (Some (IsVariable class t words)) h = absurd h.1
type_alike table ids r (Some (kept.Pointer f)) (Some (IsType t)) h = absurd h.1
type_alike table ids r (Some (kept.Pointer f)) (Some (IsPointer class t)) h = refl
type_alike table ids r (Some (kept.Pointer f)) (Some (IsConstant t words)) h = absurd h.1
type_alike table ids r (Some (kept.Pointer f)) (Some (IsVariable class t words)) h = absurd h.1
type_alike table ids r (Some (kept.Constant c)) (Some (IsType t)) h = absurd h.1
type_alike table ids r (Some (kept.Constant c)) (Some (IsPointer class t)) h = absurd h.1
type_alike table ids r (Some (kept.Constant c)) (Some (IsConstant t words)) h = refl
type_alike table ids r (Some (kept.Constant c)) (Some (IsVariable class t words)) h = absurd h.1
type_alike table ids r (Some kept.Variable) (Some (IsType t)) h = absurd h.1
type_alike table ids r (Some kept.Variable) (Some (IsPointer class t)) h = absurd h.1
type_alike table ids r (Some kept.Variable) (Some (IsConstant t words)) h = absurd h.1
type_alike table ids r (Some kept.Variable) (Some (IsVariable class t words)) h = refl

pointee_alike : (table : Table) (ids : List ℕ) (r : ℕ) (k : Option Kept) (m : Option Meaning) → AreAlike table ids r k m → pointee_of_kept k ≡ facts (pointer_in m).1
pointee_alike table ids r None None h = refl
pointee_alike table ids r None (Some m) h = absurd h
pointee_alike table ids r (Some k) None h = absurd h
pointee_alike table ids r (Some (kept.Type f)) (Some (IsType t)) h = refl
pointee_alike table ids r (Some (kept.Type f)) (Some (IsPointer class t)) h = absurd h.1
pointee_alike table ids r (Some (kept.Type f)) (Some (IsConstant t words)) h = absurd h.1
pointee_alike table ids r (Some (kept.Type f)) (Some (IsVariable class t words)) h = absurd h.1
pointee_alike table ids r (Some (kept.Pointer f)) (Some (IsType t)) h = absurd h.1
pointee_alike table ids r (Some (kept.Pointer f)) (Some (IsPointer class t)) h = h.1
pointee_alike table ids r (Some (kept.Pointer f)) (Some (IsConstant t words)) h = absurd h.1
pointee_alike table ids r (Some (kept.Pointer f)) (Some (IsVariable class t words)) h = absurd h.1
pointee_alike table ids r (Some (kept.Constant c)) (Some (IsType t)) h = absurd h.1
pointee_alike table ids r (Some (kept.Constant c)) (Some (IsPointer class t)) h = absurd h.1
pointee_alike table ids r (Some (kept.Constant c)) (Some (IsConstant t words)) h = refl
pointee_alike table ids r (Some (kept.Constant c)) (Some (IsVariable class t words)) h = absurd h.1
pointee_alike table ids r (Some kept.Variable) (Some (IsType t)) h = absurd h.1
pointee_alike table ids r (Some kept.Variable) (Some (IsPointer class t)) h = absurd h.1
pointee_alike table ids r (Some kept.Variable) (Some (IsConstant t words)) h = absurd h.1
pointee_alike table ids r (Some kept.Variable) (Some (IsVariable class t words)) h = refl

pub type_kept : (table : Table) (ids : List ℕ) (ks : List (ℕ × Kept)) (id : ℕ) → StandFor table ids ks → type_of_kept (lookup (nat_eq id) ks) ≡ facts (type_at table id)
type_kept table ids ks id h = type_alike table ids id (lookup (nat_eq id) ks) (lookup (nat_eq id) table) (StandFrom-lookup table ids 0 ks table h id)

pub pointee_kept : (table : Table) (ids : List ℕ) (ks : List (ℕ × Kept)) (id : ℕ) → StandFor table ids ks → pointee_of_kept (lookup (nat_eq id) ks) ≡ facts (pointer_at table id).1
pointee_kept table ids ks id h = pointee_alike table ids id (lookup (nat_eq id) ks) (lookup (nat_eq id) table) (StandFrom-lookup table ids 0 ks table h id)

-- ---- insertion

pub ruleset entries = (insert_entry-new)
