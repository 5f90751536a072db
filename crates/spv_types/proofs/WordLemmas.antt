-- The words of constants, one by one.
use Rattle.std.proofs.Common.{◌≡◌, ℕ, zero, suc, ◌+◌, ◌-◌, ◌^◌, ◌<◌, ◌≤◌, nat_lt, slice_index, slice_index_or, drop, replicate, Contains, Bool, true, false, cond, List, [], ◌∷◌, ◌++◌, length, slice_get, Option, Some, None, refl, sym, ap, subst, ◌∙◌, arith}
use Rattle.std.specs.Option.{IfSome}
use Rattle.std.specs.Global.{Vec}
use Rattle.std.proofs.lemmas.List.{length-replicate}
use Rattle.std.proofs.Math.Seq.{drop-cons}
use Rattle.std.proofs.Math.ListN.{drop_of_length-le}
use Rattle.std.proofs.lemmas.Bool.Decides.{nat_tests}
use Rattle.std.proofs.lemmas.Option.{none-some, slice_get-get_or, slice_get_past}
use Rattle.spv_value.specs.declared.words.Operand.{Operand}
use Rattle.spv_value.specs.Words.{words_of}
use Rattle.spv_value.proofs.WordLists.{length-words_of}
use Rattle.spv_meaning.specs.Constants.{Table, Meaning, IsType, IsPointer, IsConstant, IsVariable}
use Rattle.spv_types.specs.declared.meaning.Constant.{Constant}
use Rattle.spv_types.specs.declared.meaning.Kept.{Kept}
use Rattle.spv_types.specs.declared.meaning.Kept.TheVariants as kept
use Rattle.spv_types.specs.Facts.{in_64_bits}
use Rattle.spv_meaning.specs.Types.{DataType}
use Rattle.spv_types.specs.declared.meaning.Value.TheVariants.{Small, Zeros, Parts}
use Rattle.spv_types.specs.Meanings.{IsValue, AllBelow, StandFor, words_numbered, words_in_entry, joined, second, constant_of_kept, cells_of_constant}
use Rattle.spv_types.proofs.Room.{in_64_bits-fits, in_64_bits-is}
use Rattle.spv_types.proofs.Standing.{AreAlikeEntries, StandFrom-at}

cells_alike : (table : Table) (ids : List ℕ) (n : ℕ) (k : Option (ℕ × Kept)) (t : Option (ℕ × Meaning)) → AreAlikeEntries table ids n k t →
    cells_of_constant (constant_of_kept (second k)) ≡ in_64_bits (length (words_in_entry t))
cells_alike table ids n None None h = refl
cells_alike table ids n None (Some t) h = absurd h
cells_alike table ids n (Some k) None h = absurd h
cells_alike table ids n (Some (r, kept.Type f)) (Some (s, IsType t)) h = refl
cells_alike table ids n (Some (r, kept.Type f)) (Some (s, IsPointer class t)) h = absurd h.1
cells_alike table ids n (Some (r, kept.Type f)) (Some (s, IsConstant t words)) h = absurd h.1
cells_alike table ids n (Some (r, kept.Type f)) (Some (s, IsVariable class t words)) h = absurd h.1
cells_alike table ids n (Some (r, kept.Pointer f)) (Some (s, IsType t)) h = absurd h.1
cells_alike table ids n (Some (r, kept.Pointer f)) (Some (s, IsPointer class t)) h = refl
cells_alike table ids n (Some (r, kept.Pointer f)) (Some (s, IsConstant t words)) h = absurd h.1
cells_alike table ids n (Some (r, kept.Pointer f)) (Some (s, IsVariable class t words)) h = absurd h.1
cells_alike table ids n (Some (r, kept.Constant c)) (Some (s, IsType t)) h = absurd h.1
cells_alike table ids n (Some (r, kept.Constant c)) (Some (s, IsPointer class t)) h = absurd h.1
cells_alike table ids n (Some (r, kept.Constant c)) (Some (s, IsConstant t words)) h = h.1.1.0
cells_alike table ids n (Some (r, kept.Constant c)) (Some (s, IsVariable class t words)) h = absurd h.1
cells_alike table ids n (Some (r, kept.Variable)) (Some (s, IsType t)) h = absurd h.1
cells_alike table ids n (Some (r, kept.Variable)) (Some (s, IsPointer class t)) h = absurd h.1
cells_alike table ids n (Some (r, kept.Variable)) (Some (s, IsConstant t words)) h = absurd h.1
cells_alike table ids n (Some (r, kept.Variable)) (Some (s, IsVariable class t words)) h = refl

pub cells_kept : (table : Table) (ids : List ℕ) (ks : List (ℕ × Kept)) (n : ℕ) → StandFor table ids ks →
    cells_of_constant (constant_of_kept (second (slice_get ks n))) ≡ in_64_bits (length (words_numbered table n))
cells_kept table ids ks n h = cells_alike table ids (0 + n) (slice_get ks n) (slice_get table n) (StandFrom-at table ids 0 ks table h n)

-- a word of two lists, one after the other
pub slice_get-first : {X : Type 0} → (xs ys : List X) (k : ℕ) → k < length xs → slice_get (xs ++ ys) k ≡ slice_get xs k
slice_get-first [] ys k h = absurd (omega (arith, h))
slice_get-first (x ∷ xs) ys zero h = refl
slice_get-first (x ∷ xs) ys (suc k) h = slice_get-first xs ys k (omega (arith, h))

pub slice_get-second : {X : Type 0} → (xs ys : List X) (k : ℕ) → length xs ≤ k → slice_get (xs ++ ys) k ≡ slice_get ys (k - length xs)
slice_get-second [] ys k h = let e : k ≡ k - 0 = omega arith in ap (slice_get ys) e
slice_get-second (x ∷ xs) ys zero h = absurd (omega (arith, h))
slice_get-second (x ∷ xs) ys (suc k) h =
    let e : k - length xs ≡ suc k - suc (length xs) = omega arith in
    slice_get-second xs ys k (omega (arith, h)) ∙ ap (slice_get ys) e

-- ---- the part in which a word stands

-- the words of parts from the i-th on
joined-at : (table : Table) (parts : List ℕ) (i : ℕ) → i < length parts → joined table (drop i parts) ≡ words_numbered table (slice_index parts i) ++ joined table (drop (i + 1) parts)
joined-at table parts i h = let e : suc i ≡ i + 1 = omega arith in ap (joined table) (drop-cons parts i 0 h ∙ ap (λ j. slice_index parts i ∷ drop j parts) e)

room_for : (n k : ℕ) (cells : Option ℕ) → cells ≡ in_64_bits n → IfSome cells (λ c. k < c) → k < 2 ^ 64 → k < n
room_for n k None e h within = by (nat_lt k n) refl
  where
    by : (b : Bool) → nat_lt k n ≡ b → k < n
    by true f = grind (arith, nat_tests)
    by false f = absurd (none-some n (e ∙ in_64_bits-fits n (grind (arith, nat_tests))))
room_for n k (Some c) e h within = subst (λ x. k < x) (in_64_bits-is c n e) h

-- it is the i-th, where the word's number is below how many words that has
pub part-here : (table : Table) (parts : List ℕ) (i k first : ℕ) (cells : Option ℕ) → i < length parts → k < 2 ^ 64 →
    cells ≡ in_64_bits (length (words_numbered table (slice_index parts i))) → IfSome cells (λ c. k < c) →
    slice_get (joined table parts) first ≡ slice_get (joined table (drop i parts)) k →
    slice_get (joined table parts) first ≡ slice_get (words_numbered table (slice_index parts i)) k
part-here table parts i k first cells within small e below so_far =
    so_far ∙ ap (λ ws. slice_get ws k) (joined-at table parts i within)
    ∙ slice_get-first (words_numbered table (slice_index parts i)) (joined table (drop (i + 1) parts)) k (room_for (length (words_numbered table (slice_index parts i))) k cells e below small)

-- it is a later one, where the word's number is not
pub part-later : (table : Table) (parts : List ℕ) (i k first cells : ℕ) → i < length parts →
    Some cells ≡ in_64_bits (length (words_numbered table (slice_index parts i))) → cells ≤ k →
    slice_get (joined table parts) first ≡ slice_get (joined table (drop i parts)) k →
    slice_get (joined table parts) first ≡ slice_get (joined table (drop (i + 1) parts)) (k - cells)
part-later table parts i k first cells within e most so_far =
    let is : cells ≡ length (words_numbered table (slice_index parts i)) = in_64_bits-is cells (length (words_numbered table (slice_index parts i))) e in
    so_far ∙ ap (λ ws. slice_get ws k) (joined-at table parts i within)
    ∙ slice_get-second (words_numbered table (slice_index parts i)) (joined table (drop (i + 1) parts)) k (subst (λ n. n ≤ k) is most)
    ∙ ap (λ n. slice_get (joined table (drop (i + 1) parts)) (k - n)) (sym is)

-- there is none behind the last
pub part-none : (table : Table) (parts : List ℕ) (i k first : ℕ) → length parts ≤ i →
    slice_get (joined table parts) first ≡ slice_get (joined table (drop i parts)) k → slice_get (joined table parts) first ≡ None
part-none table parts i k first past so_far = so_far ∙ ap (λ ps. slice_get (joined table ps) k) (drop_of_length-le parts past)

-- ---- the words of a scalar, a vector or zeros

pub small_word : (x : Operand) (k : ℕ) → slice_get (words_of x) k ≡ cond (nat_lt k x.len) (Some (slice_index (words_of x) k)) None
small_word x k = by (nat_lt k x.len) refl
  where
    by : (b : Bool) → nat_lt k x.len ≡ b → slice_get (words_of x) k ≡ cond b (Some (slice_index (words_of x) k)) None
    by true e =
        let below : k < x.len = grind (arith, nat_tests) in
        slice_get-get_or (words_of x) k 0 (subst (λ n. k < n) (sym (length-words_of x)) below)
    by false e =
        let past : x.len ≤ k = grind (arith, nat_tests) in
        slice_get_past (words_of x) k (subst (λ n. n ≤ k) (sym (length-words_of x)) past)

pub zeros-at : (n k : ℕ) → k < n → slice_get {X = ℕ} (replicate n 0) k ≡ Some 0
zeros-at zero k h = absurd (omega (arith, h))
zeros-at (suc n) zero h = refl
zeros-at (suc n) (suc k) h = zeros-at n k (omega (arith, h))

pub zeros-past : (n k : ℕ) → n ≤ k → slice_get {X = ℕ} (replicate n 0) k ≡ None
zeros-past zero k h = refl
zeros-past (suc n) zero h = absurd (omega (arith, h))
zeros-past (suc n) (suc k) h = zeros-past n k (omega (arith, h))

pub zero_word : (n k : ℕ) (cells : Option ℕ) → k < 2 ^ 64 → cells ≡ in_64_bits n → IfSome cells (λ c. k < c) → slice_get {X = ℕ} (replicate n 0) k ≡ Some 0
zero_word n k cells small e below = zeros-at n k (room_for n k cells e below small)

pub no_zero_word : (n k cells : ℕ) → Some cells ≡ in_64_bits n → cells ≤ k → slice_get {X = ℕ} (replicate n 0) k ≡ None
no_zero_word n k cells e past = zeros-past n k (subst (λ m. m ≤ k) (in_64_bits-is cells n e) past)

-- ---- the constant of a number

abbrev constant_or : Constant → Option Constant → Constant
constant_or d None = d
constant_or d (Some c) = c

constant_alike : (table : Table) (ids : List ℕ) (n : ℕ) (k : Option (ℕ × Kept)) (t : Option (ℕ × Meaning)) (c : Constant) → AreAlikeEntries table ids n k t →
    constant_of_kept (second k) ≡ Some c → (type : DataType) × (IsValue table n c.value type (words_in_entry t) × (c.cells ≡ in_64_bits (length (words_in_entry t))))
constant_alike table ids n None None c h e = absurd (none-some c e)
constant_alike table ids n None (Some t) c h e = absurd h
constant_alike table ids n (Some k) None c h e = absurd h
constant_alike table ids n (Some (r, kept.Type f)) (Some t) c h e = absurd (none-some c e)
constant_alike table ids n (Some (r, kept.Pointer f)) (Some t) c h e = absurd (none-some c e)
constant_alike table ids n (Some (r, kept.Variable)) (Some t) c h e = absurd (none-some c e)
constant_alike table ids n (Some (r, kept.Constant d)) (Some (s, IsType t)) c h e = absurd h.1
constant_alike table ids n (Some (r, kept.Constant d)) (Some (s, IsPointer class t)) c h e = absurd h.1
constant_alike table ids n (Some (r, kept.Constant d)) (Some (s, IsVariable class t words)) c h e = absurd h.1
constant_alike table ids n (Some (r, kept.Constant d)) (Some (s, IsConstant t words)) c h e =
    subst (λ (x : Constant). (type : DataType) × (IsValue table n x.value type words × (x.cells ≡ in_64_bits (length words)))) (ap (constant_or c) e) (t, (h.1.0, h.1.1.0))

-- what is kept of it says its words
pub constant_kept : (table : Table) (ids : List ℕ) (ks : List (ℕ × Kept)) (n : ℕ) (c : Constant) → StandFor table ids ks → constant_of_kept (second (slice_get ks n)) ≡ Some c →
    (type : DataType) × (IsValue table n c.value type (words_numbered table n) × (c.cells ≡ in_64_bits (length (words_numbered table n))))
constant_kept table ids ks n c h e =
    let is : 0 + n ≡ n = omega arith in
    constant_alike table ids n (slice_get ks n) (slice_get table n) c (subst (λ m. AreAlikeEntries table ids m (slice_get ks n) (slice_get table n)) is (StandFrom-at table ids 0 ks table h n)) e

nothing_alike : (table : Table) (ids : List ℕ) (n : ℕ) (k : Option (ℕ × Kept)) (t : Option (ℕ × Meaning)) → AreAlikeEntries table ids n k t →
    constant_of_kept (second k) ≡ None → words_in_entry t ≡ []
nothing_alike table ids n None None h e = refl
nothing_alike table ids n None (Some t) h e = absurd h
nothing_alike table ids n (Some k) None h e = absurd h
nothing_alike table ids n (Some (r, k)) (Some (s, IsType t)) h e = refl
nothing_alike table ids n (Some (r, k)) (Some (s, IsPointer class t)) h e = refl
nothing_alike table ids n (Some (r, k)) (Some (s, IsVariable class t words)) h e = refl
nothing_alike table ids n (Some (r, kept.Type f)) (Some (s, IsConstant t words)) h e = absurd h.1
nothing_alike table ids n (Some (r, kept.Pointer f)) (Some (s, IsConstant t words)) h e = absurd h.1
nothing_alike table ids n (Some (r, kept.Variable)) (Some (s, IsConstant t words)) h e = absurd h.1
nothing_alike table ids n (Some (r, kept.Constant c)) (Some (s, IsConstant t words)) h e = absurd (none-some c (sym e))

pub nothing_kept : (table : Table) (ids : List ℕ) (ks : List (ℕ × Kept)) (n : ℕ) → StandFor table ids ks → constant_of_kept (second (slice_get ks n)) ≡ None → words_numbered table n ≡ []
nothing_kept table ids ks n h e = nothing_alike table ids (0 + n) (slice_get ks n) (slice_get table n) (StandFrom-at table ids 0 ks table h n) e

-- one step of the search for a word, by what is kept of the constant
pub found-nothing : (table : Table) (ids : List ℕ) (ks : List (ℕ × Kept)) (n k : ℕ) → StandFor table ids ks → constant_of_kept (second (slice_get ks n)) ≡ None →
    slice_get (words_numbered table n) k ≡ None
found-nothing table ids ks n k h e = ap (λ ws. slice_get ws k) (nothing_kept table ids ks n h e)

pub found-small : (table : Table) (ids : List ℕ) (ks : List (ℕ × Kept)) (n k : ℕ) (c : Constant) (x : Operand) (word : Option ℕ) → StandFor table ids ks →
    constant_of_kept (second (slice_get ks n)) ≡ Some c → c.value ≡ Small x → word ≡ slice_get (words_of x) k → slice_get (words_numbered table n) k ≡ word
found-small table ids ks n k c x word h e is found =
    let known = constant_kept table ids ks n c h e in
    let value : IsValue table n (Small x) known.0 (words_numbered table n) = subst (λ v. IsValue table n v known.0 (words_numbered table n)) is known.1.0 in
    ap (λ ws. slice_get ws k) (sym value.0) ∙ sym found

pub found-zero : (table : Table) (ids : List ℕ) (ks : List (ℕ × Kept)) (n k : ℕ) (c : Constant) (word : Option ℕ) → StandFor table ids ks →
    constant_of_kept (second (slice_get ks n)) ≡ Some c → c.value ≡ Zeros → ((m : ℕ) → c.cells ≡ in_64_bits m → word ≡ slice_get (replicate m 0) k) →
    slice_get (words_numbered table n) k ≡ word
found-zero table ids ks n k c word h e is found =
    let known = constant_kept table ids ks n c h e in
    let value : IsValue table n Zeros known.0 (words_numbered table n) = subst (λ v. IsValue table n v known.0 (words_numbered table n)) is known.1.0 in
    let m = value.0.0 in
    let long : length (words_numbered table n) ≡ m = ap length value.0.1 ∙ length-replicate m 0 in
    ap (λ ws. slice_get ws k) value.0.1 ∙ sym (found m (known.1.1 ∙ ap in_64_bits long))

pub found-part : (table : Table) (ids : List ℕ) (ks : List (ℕ × Kept)) (n k : ℕ) (c : Constant) (parts : Vec ℕ) (word : Option ℕ) → StandFor table ids ks →
    constant_of_kept (second (slice_get ks n)) ≡ Some c → c.value ≡ Parts parts → slice_get (joined table parts.items) k ≡ word →
    slice_get (words_numbered table n) k ≡ word
found-part table ids ks n k c parts word h e is found =
    let known = constant_kept table ids ks n c h e in
    let value : IsValue table n (Parts parts) known.0 (words_numbered table n) = subst (λ v. IsValue table n v known.0 (words_numbered table n)) is known.1.0 in
    ap (λ ws. slice_get ws k) value.0 ∙ found

pub below-all : (n : ℕ) (xs : List ℕ) (x k : ℕ) → AllBelow n xs → k < length xs → slice_index_or xs k x ≡ x → x < n
below-all n [] x k h within e = absurd (omega (arith, within))
below-all n (y ∷ ys) x zero h within e = subst (λ z. z < n) e h.0
below-all n (y ∷ ys) x (suc k) h within e = below-all n ys x k h.1 (omega (arith, within)) e

pub part-below : (table : Table) (ids : List ℕ) (ks : List (ℕ × Kept)) (n x : ℕ) (c : Constant) (parts : Vec ℕ) → StandFor table ids ks →
    constant_of_kept (second (slice_get ks n)) ≡ Some c → c.value ≡ Parts parts → Contains parts.items x → x < n
part-below table ids ks n x c parts h e is among =
    let known = constant_kept table ids ks n c h e in
    let value : IsValue table n (Parts parts) known.0 (words_numbered table n) = subst (λ v. IsValue table n v known.0 (words_numbered table n)) is known.1.0 in
    below-all n parts.items x among.0 value.1.0 among.1 among.2
