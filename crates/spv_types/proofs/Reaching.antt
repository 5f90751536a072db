-- How far literals have led into a constant.
use Rattle.std.proofs.Common.{◌≡◌, ℕ, zero, suc, ◌+◌, ◌*◌, ◌<◌, ◌≤◌, true, false, List, [], ◌∷◌, length, map, drop, replicate, slice_get, slice_index, Option, Some, None, Ok, Err, refl, sym, ap, subst, ◌∙◌, arith}
use Rattle.std.specs.List.{All}
use Rattle.std.proofs.lemmas.List.{length-replicate, length-map}
use Rattle.std.proofs.Math.Seq.{drop-cons}
use Rattle.std.proofs.Math.ListN.{drop_of_length-le}
use Rattle.spv_value.specs.declared.words.Operand.{Operand}
use Rattle.spv_value.specs.Words.{words_of}
use Rattle.spv_meaning.specs.Computations.{extracted, whole_part}
use Rattle.spv_meaning.specs.Constants.{Table, Meaning, IsConstant}
use Rattle.spv_meaning.specs.Parts.{packed_part}
use Rattle.spv_meaning.specs.Types.{DataType, Void, Boolean, Integer, Vector, Array, RuntimeArray, Struct, cells}
use Rattle.spv_folding.specs.Folding.{member_types}
use Rattle.spv_folding.proofs.Extraction.{extract_here, extract_element, extract_past}
use Rattle.spv_types.specs.declared.meaning.Constant.{Constant}
use Rattle.spv_types.specs.declared.meaning.Kept.{Kept}
use Rattle.spv_types.specs.declared.meaning.Kept.TheVariants as kept
use Rattle.spv_types.specs.declared.meaning.Value.{Value}
use Rattle.spv_types.specs.declared.meaning.Value.TheVariants.{Small, Zeros, Parts}
use Rattle.spv_types.specs.Meanings.{IsValue, StandFor, constant_of_kept, second, words_numbered, is_small, joined}
use Rattle.spv_types.specs.Declaring.{IsOperandOf, IsOperandIn}
use Rattle.spv_types.specs.Extracting.{LeadsTo, IsPart, ArePartsOf, part_types, HasNumbers, AreComposed, IsValueStep, IsStep}
use Rattle.spv_types.proofs.Standing.{AreAlikeEntries, StandFrom-at}
use Rattle.spv_types.proofs.Walking.{part-words, part-sized, joined-concat, words-at, into-struct, into-zeros, into-vector, part-at}

-- what is kept of a constant's entry
pub record KeptAt (table : Table) (entries : List (ℕ × Kept)) (t : DataType) (words : List ℕ) (n : ℕ) : Type 0 where
  pub constant : Constant
  pub is : constant_of_kept (second (slice_get entries n)) ≡ Some constant
  pub m : ℕ
  pub value : IsValue table m constant.value t words

kept_alike : (table : Table) (ids : List ℕ) (m : ℕ) (k : Option (ℕ × Kept)) (id : ℕ) (t : DataType) (words : List ℕ) → AreAlikeEntries table ids m k (Some (id, IsConstant t words)) →
    (c : Constant) × ((constant_of_kept (second k) ≡ Some c) × IsValue table m c.value t words)
kept_alike table ids m None id t words h = absurd h
kept_alike table ids m (Some (r, kept.Type f)) id t words h = absurd h.1
kept_alike table ids m (Some (r, kept.Pointer f)) id t words h = absurd h.1
kept_alike table ids m (Some (r, kept.Constant c)) id t words h = (c, (refl, h.1.0))
kept_alike table ids m (Some (r, kept.Variable)) id t words h = absurd h.1

pub kept_at : (table : Table) (ids : List ℕ) (entries : List (ℕ × Kept)) (t : DataType) (n : ℕ) → StandFor table ids entries → (p : IsPart table t n) → KeptAt table entries t p.words n
kept_at table ids entries t n h p =
    let alike = subst (λ (e : Option (ℕ × Meaning)). AreAlikeEntries table ids (0 + n) (slice_get entries n) e) p.stands (StandFrom-at table ids 0 entries table h n) in
    let k = kept_alike table ids (0 + n) (slice_get entries n) p.id t p.words alike in
    record { constant = k.0; is = k.1.0; m = 0 + n; value = k.1.1 }

-- ---- the end of the literals

small_end : (table : Table) (m : ℕ) (v : Value) (t : DataType) (words : List ℕ) (x : Operand) → IsValue table m v t words → IsOperandIn v x → is_small t ≡ true → words_of x ≡ words
small_end table m (Small y) t words x h is small = ap words_of is ∙ h.0
small_end table m Zeros t words x h is small = let no : true ≡ false = sym small ∙ h.1 in cc
small_end table m (Parts numbers) t words x h is small = let no : true ≡ false = sym small ∙ h.1.1 in cc

pub ends_here : (table : Table) (ids : List ℕ) (entries : List (ℕ × Kept)) (t u : DataType) (n : ℕ) (x : Operand) → StandFor table ids entries → IsPart table u n → LeadsTo t u [] → is_small t ≡ true →
    IsOperandOf (constant_of_kept (second (slice_get entries n))) x → words_of x ≡ extracted t (words_numbered table n) (packed_part [] (whole_part u))
ends_here table ids entries t u n x h p leads small is =
    let k = kept_at table ids entries u n h p in
    let words = part-words table u n p in
    small_end table k.m k.constant.value u p.words x k.value (subst (λ (c : Option Constant). IsOperandOf c x) k.is is) (ap is_small leads ∙ small)
    ∙ sym (ap (λ ws. extracted t ws (packed_part [] (whole_part u))) words ∙ at_type ∙ extract_here t p.words (p.sized ∙ ap cells leads))
  where
    at_type : extracted t p.words (packed_part [] (whole_part u)) ≡ extracted t p.words (packed_part [] (whole_part t))
    at_type = ap (λ (v : DataType). extracted t p.words (packed_part [] (whole_part v))) leads

-- ---- arrays

array-count : (table : Table) (k : ℕ) (w : DataType) (ns : List ℕ) → ArePartsOf table (replicate k w) ns → length ns ≡ k
array-count table zero w [] h = refl
array-count table zero w (n ∷ ns) h = absurd h
array-count table (suc k) w [] h = absurd h
array-count table (suc k) w (n ∷ ns) h = ap suc (array-count table k w ns h.1)

array-part : (table : Table) (k : ℕ) (w : DataType) (ns : List ℕ) (j m : ℕ) → ArePartsOf table (replicate k w) ns → slice_get ns j ≡ Some m → IsPart table w m
array-part table k w [] j m h e = cc
array-part table zero w (n ∷ ns) j m h e = absurd h
array-part table (suc k) w (n ∷ ns) zero m h e = let same : n ≡ m = cc in subst (λ (x : ℕ). IsPart table w x) same h.0
array-part table (suc k) w (n ∷ ns) (suc j) m h e = array-part table k w ns j m h.1 e

array-sized : (table : Table) (k : ℕ) (w : DataType) (ns : List ℕ) → ArePartsOf table (replicate k w) ns → All (λ vs. length vs ≡ cells w) (map (words_numbered table) ns)
array-sized table k w [] h i d less = absurd (omega arith)
array-sized table zero w (n ∷ ns) h i d less = absurd h
array-sized table (suc k) w (n ∷ ns) h zero d less = part-sized table w n h.0
array-sized table (suc k) w (n ∷ ns) h (suc i) d less = array-sized table k w ns h.1 i d (omega arith)

past-end : (ns : List ℕ) (j : ℕ) → slice_get ns j ≡ None → length ns ≤ j
past-end [] j e = omega arith
past-end (n ∷ ns) zero e = cc
past-end (n ∷ ns) (suc j) e = let rest = past-end ns j e in omega arith

into-array : (table : Table) (t w : DataType) (ns : List ℕ) (j m : ℕ) (rest : List ℕ) (stride : Option ℕ) (k : ℕ) → ArePartsOf table (replicate k w) ns → slice_get ns j ≡ Some m →
    extracted t (joined table ns) (packed_part (j ∷ rest) (whole_part (Array stride k w))) ≡ extracted t (words_numbered table m) (packed_part rest (whole_part w))
into-array table t w ns j m rest stride k parts at =
    ap (λ ws. extracted t ws (packed_part (j ∷ rest) (whole_part (Array stride k w)))) (joined-concat table ns)
    ∙ extract_element t w rest stride k (map (words_numbered table) ns) j (words_numbered table m) (length-map ns (words_numbered table) ∙ array-count table k w ns parts) (array-sized table k w ns parts) (words-at table ns j m at)

-- ---- one literal

pub record Reaches (table : Table) (t : DataType) (m : ℕ) (rest : List ℕ) (all : List ℕ) : Type 0 where
  pub type : DataType
  pub part : IsPart table type m
  pub leads : LeadsTo t type rest
  pub same : all ≡ extracted t (words_numbered table m) (packed_part rest (whole_part type))

step_in : (table : Table) (m0 : ℕ) (value : Value) (t v : DataType) (words : List ℕ) (j count m : ℕ) (rest : List ℕ) → IsValue table m0 value v words → LeadsTo t v (j ∷ rest) →
    ((numbers : List ℕ) → HasNumbers value numbers → ArePartsOf table (part_types v) numbers) → IsValueStep value j count (Ok m) → Reaches table t m rest (extracted t words (packed_part (j ∷ rest) (whole_part v)))
step_in table m0 (Small y) t v words j count m rest h leads fits step = absurd step
step_in table m0 Zeros t v words j count m rest h leads fits step = absurd step
step_in table m0 (Parts numbers) t (Struct ms) words j count m rest h leads fits step =
    let parts = fits numbers.items refl in
    let p = part-at table (member_types ms) numbers.items j leads.0 parts leads.1.0 in
    let same : p.number ≡ m = same_number (slice_get numbers.items j) p.number m p.at step in
    record {
      type = leads.0;
      part = subst (λ (x : ℕ). IsPart table leads.0 x) same p.is;
      leads = leads.1.1;
      same = ap (λ ws. extracted t ws (packed_part (j ∷ rest) (whole_part (Struct ms)))) h.0 ∙ into-struct table t leads.0 numbers.items j m rest ms parts leads.1.0 step;
    }
  where
    same_number : (o : Option ℕ) (a b : ℕ) → o ≡ Some a → o ≡ Some b → a ≡ b
    same_number o a b e f = cc
step_in table m0 (Parts numbers) t (Array stride k w) words j count m rest h leads fits step =
    let parts = fits numbers.items refl in
    record {
      type = w;
      part = array-part table k w numbers.items j m parts step;
      leads = leads;
      same = ap (λ ws. extracted t ws (packed_part (j ∷ rest) (whole_part (Array stride k w)))) h.0 ∙ into-array table t w numbers.items j m rest stride k parts step;
    }
step_in table m0 (Parts numbers) t (Vector k w) words j count m rest h leads fits step = let no : true ≡ false = h.1.1 in absurd (cc)
step_in table m0 (Parts numbers) t Void words j count m rest h leads fits step = absurd leads
step_in table m0 (Parts numbers) t Boolean words j count m rest h leads fits step = absurd leads
step_in table m0 (Parts numbers) t (Integer width signed) words j count m rest h leads fits step = absurd leads
step_in table m0 (Parts numbers) t (RuntimeArray stride w) words j count m rest h leads fits step = absurd leads

zero_words : (words : List ℕ) (m n : ℕ) → words ≡ replicate m 0 → length words ≡ n → words ≡ replicate n 0
zero_words words m n e h = e ∙ ap (λ (k : ℕ). replicate k 0) (sym (length-replicate {A = ℕ} m 0) ∙ sym (ap length e) ∙ h)

times_one : (n m : ℕ) → m ≡ 1 → n * m ≡ n
times_one n m e = ap (λ (x : ℕ). n * x) e ∙ omega arith

step_out : (table : Table) (m0 : ℕ) (value : Value) (t v : DataType) (words : List ℕ) (j count : ℕ) (x : Operand) (rest : List ℕ) → IsValue table m0 value v words → length words ≡ cells v → LeadsTo t v (j ∷ rest) →
    ((numbers : List ℕ) → HasNumbers value numbers → ArePartsOf table (part_types v) numbers) → cells t ≡ count → count ≤ 4 → IsValueStep value j count (Err x) → words_of x ≡ extracted t words (packed_part (j ∷ rest) (whole_part v))
step_out table m0 Zeros t v words j count x rest h sized leads fits same few step =
    step few ∙ ap (λ (n : ℕ). replicate n 0) (sym same) ∙ sym (into-zeros t v (j ∷ rest) leads)
    ∙ ap (λ ws. extracted t ws (packed_part (j ∷ rest) (whole_part v))) (sym (zero_words words h.0.0 (cells v) h.0.1 sized))
step_out table m0 (Small y) t (Vector k w) words j count x rest h sized leads fits same few step =
    step ∙ ap (λ ws. slice_index ws j ∷ []) h.0 ∙ sym (into-vector t w k j rest words leads (sized ∙ times_one k (cells w) leads.1.0))
step_out table m0 (Small y) t (Array stride k w) words j count x rest h sized leads fits same few step = let no : false ≡ true = h.1 in absurd (cc)
step_out table m0 (Small y) t (Struct ms) words j count x rest h sized leads fits same few step = let no : false ≡ true = h.1 in absurd (cc)
step_out table m0 (Small y) t Void words j count x rest h sized leads fits same few step = absurd leads
step_out table m0 (Small y) t Boolean words j count x rest h sized leads fits same few step = absurd leads
step_out table m0 (Small y) t (Integer width signed) words j count x rest h sized leads fits same few step = absurd leads
step_out table m0 (Small y) t (RuntimeArray stride w) words j count x rest h sized leads fits same few step = absurd leads
step_out table m0 (Parts numbers) t (Struct ms) words j count x rest h sized leads fits same few step =
    let p = part-at table (member_types ms) numbers.items j leads.0 (fits numbers.items refl) leads.1.0 in
    absurd (no_part_there (slice_get numbers.items j) p.number p.at step.0)
  where
    no_part_there : (o : Option ℕ) (a : ℕ) → o ≡ Some a → o ≡ None → ⊥
    no_part_there o a e f = cc
step_out table m0 (Parts numbers) t (Array stride k w) words j count x rest h sized leads fits same few step =
    let past = past-end numbers.items j step.0 in
    let counts = array-count table k w numbers.items (fits numbers.items refl) in
    step.1 few ∙ ap (λ (n : ℕ). replicate n 0) (sym same) ∙ sym (extract_past t w rest stride k words j (omega arith))
step_out table m0 (Parts numbers) t (Vector k w) words j count x rest h sized leads fits same few step = let no : true ≡ false = h.1.1 in absurd (cc)
step_out table m0 (Parts numbers) t Void words j count x rest h sized leads fits same few step = absurd leads
step_out table m0 (Parts numbers) t Boolean words j count x rest h sized leads fits same few step = absurd leads
step_out table m0 (Parts numbers) t (Integer width signed) words j count x rest h sized leads fits same few step = absurd leads
step_out table m0 (Parts numbers) t (RuntimeArray stride w) words j count x rest h sized leads fits same few step = absurd leads

-- ---- the literals from the i-th on

pub record Reached (table : Table) (t u : DataType) (first number : ℕ) (literals : List ℕ) (i : ℕ) : Type 0 where
  pub reaches : Reaches table t number (drop i literals) (extracted t (words_numbered table first) (packed_part literals (whole_part u)))

pub reached-first : (table : Table) (t u : DataType) (first : ℕ) (literals : List ℕ) → IsPart table u first → LeadsTo t u literals → Reached table t u first first literals 0
reached-first table t u first literals p leads = record { reaches = record { type = u; part = p; leads = leads; same = refl } }

-- what the next literal finds
next_of : (table : Table) (ids : List ℕ) (entries : List (ℕ × Kept)) (t : DataType) (n j : ℕ) (rest all : List ℕ) → StandFor table ids entries → AreComposed table entries → Reaches table t n (j ∷ rest) all → (count m : ℕ) →
    IsStep (constant_of_kept (second (slice_get entries n))) j count (Ok m) → Reaches table t m rest all
next_of table ids entries t n j rest all h composed r count m step =
    let k = kept_at table ids entries r.type n h r.part in
    let inner = step_in table k.m k.constant.value t r.type r.part.words j count m rest k.value r.leads (λ numbers has. composed.parts n r.part.id r.type r.part.words k.constant numbers r.part.stands k.is has)
    (subst (λ (c : Option Constant). IsStep c j count (Ok m)) k.is step) in
    record { type = inner.type; part = inner.part; leads = inner.leads; same = r.same ∙ ap (λ ws. extracted t ws (packed_part (j ∷ rest) (whole_part r.type))) (part-words table r.type n r.part) ∙ inner.same }

out_of : (table : Table) (ids : List ℕ) (entries : List (ℕ × Kept)) (t : DataType) (n j : ℕ) (rest all : List ℕ) → StandFor table ids entries → AreComposed table entries → Reaches table t n (j ∷ rest) all → (count : ℕ) (x : Operand) →
    cells t ≡ count → count ≤ 4 → IsStep (constant_of_kept (second (slice_get entries n))) j count (Err x) → words_of x ≡ all
out_of table ids entries t n j rest all h composed r count x same few step =
    let k = kept_at table ids entries r.type n h r.part in
    step_out table k.m k.constant.value t r.type r.part.words j count x rest k.value r.part.sized r.leads (λ numbers has. composed.parts n r.part.id r.type r.part.words k.constant numbers r.part.stands k.is has) same few
    (subst (λ (c : Option Constant). IsStep c j count (Err x)) k.is step)
    ∙ sym (r.same ∙ ap (λ ws. extracted t ws (packed_part (j ∷ rest) (whole_part r.type))) (part-words table r.type n r.part))

drop-next : (literals : List ℕ) (i : ℕ) → i < length literals → drop i literals ≡ slice_index literals i ∷ drop (i + 1) literals
drop-next literals i h = let e : suc i ≡ i + 1 = omega arith in drop-cons literals i 0 h ∙ ap (λ (k : ℕ). slice_index literals i ∷ drop k literals) e

pub reached-next : (table : Table) (ids : List ℕ) (entries : List (ℕ × Kept)) (t u : DataType) (first number count m : ℕ) (literals : List ℕ) (i : ℕ) → i < length literals → StandFor table ids entries → AreComposed table entries →
    Reached table t u first number literals i → IsStep (constant_of_kept (second (slice_get entries number))) (slice_index literals i) count (Ok m) → Reached table t u first m literals (i + 1)
reached-next table ids entries t u first number count m literals i less h composed r step =
    record { reaches = next_of table ids entries t number (slice_index literals i) (drop (i + 1) literals) _ h composed (subst (λ (ls : List ℕ). Reaches table t number ls (extracted t (words_numbered table first) (packed_part literals (whole_part u)))) (drop-next literals i less) r.reaches) count m step }

pub reached-out : (table : Table) (ids : List ℕ) (entries : List (ℕ × Kept)) (t u : DataType) (first number count : ℕ) (x : Operand) (literals : List ℕ) (i : ℕ) → i < length literals → StandFor table ids entries → AreComposed table entries →
    cells t ≡ count → count ≤ 4 → Reached table t u first number literals i → IsStep (constant_of_kept (second (slice_get entries number))) (slice_index literals i) count (Err x) →
    words_of x ≡ extracted t (words_numbered table first) (packed_part literals (whole_part u))
reached-out table ids entries t u first number count x literals i less h composed same few r step =
    out_of table ids entries t number (slice_index literals i) (drop (i + 1) literals) _ h composed (subst (λ (ls : List ℕ). Reaches table t number ls (extracted t (words_numbered table first) (packed_part literals (whole_part u)))) (drop-next literals i less) r.reaches) count x same few step

pub reached-end : (table : Table) (ids : List ℕ) (entries : List (ℕ × Kept)) (t u : DataType) (first number : ℕ) (x : Operand) (literals : List ℕ) (i : ℕ) → length literals ≤ i → StandFor table ids entries → is_small t ≡ true →
    Reached table t u first number literals i → IsOperandOf (constant_of_kept (second (slice_get entries number))) x → words_of x ≡ extracted t (words_numbered table first) (packed_part literals (whole_part u))
reached-end table ids entries t u first number x literals i past h small r is =
    let all = extracted t (words_numbered table first) (packed_part literals (whole_part u)) in
    let last : Reaches table t number [] all = subst (λ (ls : List ℕ). Reaches table t number ls all) (drop_of_length-le literals past) r.reaches in
    ends_here table ids entries t last.type number x h last.part last.leads small is ∙ sym last.same
