-- What OpSpecConstantOp computes of sound constants suits its type.
use Rattle.std.proofs.Common.{◌≡◌, ℕ, zero, suc, ◌+◌, ◌*◌, ◌⊎◌, inl, inr, Bool, true, false, cond, not, ◌==◌, ◌&&◌, ◌||◌, nat_lt, List, [], ◌∷◌, ◌++◌, length, map, Option, Some, None, refl, sym, ap, subst, ◌∙◌, arith}
use Rattle.std.specs.Prelude.{nat_eq}
use Rattle.std.specs.Option.{is_some}
use Rattle.std.specs.List.{list_all, slice_get, slice_index}
use Rattle.std.specs.Map.{lookup}
use Rattle.std.proofs.lemmas.List.{length-map}
use Rattle.std.proofs.lemmas.Bool.{eqb-true, and_parts, or_cases}
use Rattle.spv_opcodes.specs.declared.op.TheConstants as op
use Rattle.spv_grammar.specs.Table.{row_of}
use Rattle.spv_module.specs.Instruction.{Instruction}
use Rattle.spv_value.specs.Eval.{Eval, choice}
use Rattle.spv_meaning.specs.Statements.{Statement}
use Rattle.spv_meaning.specs.Computations.{Typed, computed, shuffled, extracted, inserted, whole_part}
use Rattle.spv_meaning.specs.Parts as parts
use Rattle.spv_meaning.specs.Parts.{Part, part, packed_part, and_then}
use Rattle.spv_meaning.specs.Constants.{Table, Meaning, type_in, type_at, typed_in, typed_at, length_at, members_of}
use Rattle.spv_meaning.specs.Types.{DataType, copies, cells, booleans}
use Rattle.spv_ids.specs.Ids.{is_defined_before}
use Rattle.spv_declarations.proofs.FitParts.{selects-parts, shuffles-parts, extracts-parts, inserts-parts}
use Rattle.spv_typing.specs.Kinds.{is_bool, is_int, is_vector, is_array, is_struct, is_constant, type_of, component, component_count, element, length_id, members}
use Rattle.spv_typing.specs.declared.shapes.Shape.{Shape}
use Rattle.spv_typing.specs.declared.operations.Form.{Form}
use Rattle.spv_typing.specs.declared.operations.Form.TheVariants.{Ints, Bools, Compares, Selects, Shuffles, Extracts, Inserts}
use Rattle.spv_typing.specs.Operations.{shape, has_shape, count_of, part_at, part_behind, part_along, leads_to, spec_operations, all_shaped, picks, operands_fit}
use Rattle.spv_declarations.specs.Declarations.{declared_before, says}
use Rattle.spv_declarations.specs.Sound.{AreInstructions, Unbroken, IsBefore, table_before, IsSoundType}
use Rattle.spv_declarations.proofs.Tables.{stays-defined}
use Rattle.spv_declarations.proofs.Sites.{site-of, word-is, words-is}
use Rattle.spv_declarations.proofs.SoundTypes.{sound_type, vector-known, element-known, struct-known, type-rule}
use Rattle.spv_declarations.proofs.SoundShapes.{shaped}
use Rattle.spv_declarations.proofs.SoundConstants.{Holds, AllHold, OperationsHold, type_before}
use Rattle.spv_declarations.proofs.Operations.{computation_for, operands_for}
use Rattle.spv_declarations.proofs.Words.{AreWordsOf}
use Rattle.spv_declarations.proofs.PartWords.{extract-holds, insert-holds, shuffle-holds, words-joined}
use Rattle.spv_declarations.proofs.EvaluatedWords.{RulesHold, AllWords, ints-eval, bools-eval, compares-eval, selects-eval, choice-holds}

-- ---- where literals lead

-- a part that is found is of this type
abbrev TypeIs : DataType → Option Part → Type 0
TypeIs t None = Unit {0}
TypeIs t (Some q) = q.type ≡ t

element_type : (n stride : ℕ) (t u : DataType) (first index : ℕ) (within : Bool) → t ≡ u →
    TypeIs u (cond within (Some (record { first = first + index * stride; type = t })) None)
element_type n stride t u first index false e = tt
element_type n stride t u first index true e = e

-- induction on the members
member_type : (all : List Statement) (table : Table) (struct number packed first : ℕ) (ms : List ℕ) (index u : ℕ) → slice_get ms index ≡ Some u →
    TypeIs (type_at table u) (parts.member false packed (members_of all table struct number ms) first index)
member_type all table struct number packed first [] index u e = cc
member_type all table struct number packed first (m ∷ ms) zero u e =
    let same : m ≡ u = cc in
    ap (λ (x : ℕ). type_at table x) same
member_type all table struct number packed first (m ∷ ms) (suc index) u e =
    member_type all table struct (suc number) (packed + cells (type_at table m)) first ms index u e

all_at : (p : ℕ → Bool) (xs : List ℕ) (n x : ℕ) → list_all p xs ≡ true → slice_get xs n ≡ Some x → p x ≡ true
all_at p [] n x h e = cc
all_at p (y ∷ ys) zero x h e =
    let same : y ≡ x = cc in
    subst (λ (z : ℕ). p z ≡ true) same (and_parts (p y) (list_all p ys) h).0
all_at p (y ∷ ys) (suc n) x h e = all_at p ys n x (and_parts (p y) (list_all p ys) h).1 e

-- the part at an index is of a type before
pub record PartAt (insts : List Instruction) (k t index u : ℕ) : Type 0 where
  pub before : IsBefore insts k u
  pub typed : (first : ℕ) → TypeIs (type_at (table_before insts k) u) (part false None (type_at (table_before insts k) t) first index)

abbrev part_by : List Instruction → (t index : ℕ) → (struct array vector : Bool) → Option ℕ
part_by insts t index struct array vector =
    cond struct (slice_get (members insts t) index)
    (cond array (Some (element insts t)) (cond (vector && nat_lt index (component_count insts t)) (Some (component insts t)) None))

part_at_by : (insts : List Instruction) → AreInstructions insts → (k t index u : ℕ) → Unbroken insts k → (declared_before insts k).begun ≡ false →
    IsBefore insts k t → (struct array vector : Bool) → is_struct insts t ≡ struct → is_array insts t ≡ array → is_vector insts t ≡ vector →
    part_by insts t index struct array vector ≡ Some u → PartAt insts k t index u
unfolding row_of
part_at_by insts whole k t index u clean outside before true array vector s a v e =
    let table = table_before insts k in
    let site = site-of insts whole k t op.TYPE_STRUCT clean outside before s refl in
    let known : list_all (is_defined_before insts site.d.place) (members insts t) ≡ true =
    subst (λ (ms : List ℕ). list_all (is_defined_before insts site.d.place) ms ≡ true) (words-is insts k t 2 site.d)
    (struct-known insts k t site) in
    let is = ap type_in ((sound_type insts whole k t clean outside before).struct s) in
    record {
      before = stays-defined insts site.d.place k u (omega (arith, site.d.before))
          (all_at (is_defined_before insts site.d.place) (members insts t) index u known e);
      typed = λ first. subst (λ (x : DataType). TypeIs (type_at table u) (part false None x first index)) (sym is)
          (member_type (says insts) table t 0 0 first (members insts t) index u e);
    }
part_at_by insts whole k t index u clean outside before false true vector s a v e =
    let table = table_before insts k in
    let site = site-of insts whole k t op.TYPE_ARRAY clean outside before a refl in
    let known : is_defined_before insts site.d.place (element insts t) ≡ true =
    subst (λ (n : ℕ). is_defined_before insts site.d.place n ≡ true) (word-is insts k t 2 site.d) (element-known insts k t site) in
    let is = ap type_in ((sound_type insts whole k t clean outside before).array a).1 in
    let same : element insts t ≡ u = cc in
    record {
      before = subst (λ (n : ℕ). IsBefore insts k n) same (stays-defined insts site.d.place k (element insts t) (omega (arith, site.d.before)) known);
      typed = λ first. subst (λ (x : DataType). TypeIs (type_at table u) (part false None x first index)) (sym is)
          (element_type (length_at table (length_id insts t)) (cells (type_at table (element insts t))) (type_at table (element insts t)) (type_at table u) first index (nat_lt index (length_at table (length_id insts t))) (ap (λ (x : ℕ). type_at table x) same));
    }
part_at_by insts whole k t index u clean outside before false false true s a v e =
    let table = table_before insts k in
    let site = site-of insts whole k t op.TYPE_VECTOR clean outside before v refl in
    let known : is_defined_before insts site.d.place (component insts t) ≡ true =
    subst (λ (n : ℕ). is_defined_before insts site.d.place n ≡ true) (word-is insts k t 2 site.d) (vector-known insts k t site) in
    let is = ap type_in ((sound_type insts whole k t clean outside before).vector v) in
    let same : component insts t ≡ u = some_of (nat_lt index (component_count insts t)) (component insts t) u e in
    record {
      before = subst (λ (n : ℕ). IsBefore insts k n) same
          (stays-defined insts site.d.place k (component insts t) (omega (arith, site.d.before)) known);
      typed = λ first. subst (λ (x : DataType). TypeIs (type_at table u) (part false None x first index)) (sym is)
          (element_type (component_count insts t) (cells (type_at table (component insts t))) (type_at table (component insts t)) (type_at table u) first index (nat_lt index (component_count insts t)) (ap (λ (x : ℕ). type_at table x) same));
    }
  where
    some_of : (b : Bool) (c u : ℕ) → cond b (Some c) None ≡ Some u → c ≡ u
    some_of true c u e = cc
    some_of false c u e = cc
part_at_by insts whole k t index u clean outside before false false false s a v e = cc

part_at_is : (insts : List Instruction) → AreInstructions insts → (k t index u : ℕ) → Unbroken insts k → (declared_before insts k).begun ≡ false →
    IsBefore insts k t → part_at insts t index ≡ Some u → PartAt insts k t index u
part_at_is insts whole k t index u clean outside before e =
    part_at_by insts whole k t index u clean outside before (is_struct insts t) (is_array insts t) (is_vector insts t) refl refl refl e

next_along : (rest : List ℕ) (v : DataType) (u : DataType) (found : Option Part) → TypeIs u found →
    ((first : ℕ) (p : Part) → packed_part rest (record { first = first; type = u }) ≡ Some p → p.type ≡ v) → (p : Part) →
    and_then found (packed_part rest) ≡ Some p → p.type ≡ v
next_along rest v u None h others p e = cc
next_along rest v u (Some q) h others p e =
    others q.first p (sym (ap (λ (x : DataType). packed_part rest (record { first = q.first; type = x })) h) ∙ e)

-- literals that lead to a type lead to a part of that type; induction on them
along : (insts : List Instruction) → AreInstructions insts → (k : ℕ) → Unbroken insts k → (declared_before insts k).begun ≡ false →
    (literals : List ℕ) (t v : ℕ) → IsBefore insts k t → part_along insts literals t ≡ Some v → (first : ℕ) (p : Part) →
    packed_part literals (record { first = first; type = type_at (table_before insts k) t }) ≡ Some p → p.type ≡ type_at (table_before insts k) v
along insts whole k clean outside [] t v before e first p f =
    let same : t ≡ v = cc in
    sym (ap (λ (x : Part). x.type) (some_part (record { first = first; type = type_at (table_before insts k) t }) p f)) ∙ ap
    (λ (x : ℕ). type_at (table_before insts k) x) same
  where
    some_part : (a b : Part) → Some a ≡ Some b → a ≡ b
    some_part a b e = cc
along insts whole k clean outside (index ∷ rest) t v before e first p f =
    behind (part_at insts t index) refl e (λ u b g. along insts whole k clean outside rest u v b g)
  where
    table : Table
    table = table_before insts k

    behind : (found : Option ℕ) → part_at insts t index ≡ found → part_behind (part_along insts rest) found ≡ Some v →
        ((u : ℕ) → IsBefore insts k u → part_along insts rest u ≡ Some v → (first : ℕ) (p : Part) → packed_part rest (record { first = first; type = type_at (table_before insts k) u }) ≡ Some p → p.type ≡ type_at (table_before insts k) v) →
        p.type ≡ type_at (table_before insts k) v
    behind None is e others = cc
    behind (Some u) is e others =
        let at = part_at_is insts whole k t index u clean outside before is in
        next_along rest (type_at (table_before insts k) v) (type_at (table_before insts k) u)
        (part false None (type_at (table_before insts k) t) first index) (at.typed first) (others u at.before e) p f

leads : (t : ℕ) (found : Option ℕ) → leads_to t found ≡ true → found ≡ Some t
leads t None h = cc
leads t (Some u) h = ap Some (eqb-true u t h)

-- ---- operands

pub record IsShape (found : Option Shape) (is_boolean : Bool) (count : ℕ) : Type 0 where
  pub shape : Shape
  pub is : found ≡ Some shape
  pub kind : shape.is_boolean ≡ is_boolean
  pub counts : shape.count ≡ count

is_shape : (is_boolean : Bool) (count : ℕ) (found : Option Shape) → has_shape is_boolean count found ≡ true → IsShape found is_boolean count
is_shape true count None h = cc
is_shape false count None h = cc
is_shape true count (Some s) h =
    let both = and_parts s.is_boolean (s.count == count) h in
    record { shape = s; is = refl; kind = both.0; counts = eqb-true s.count count both.1 }
is_shape false count (Some s) h =
    let both = and_parts (not s.is_boolean) (s.count == count) h in
    record { shape = s; is = refl; kind = not_true s.is_boolean both.0; counts = eqb-true s.count count both.1 }
  where
    not_true : (b : Bool) → not b ≡ true → b ≡ false
    not_true true h = cc
    not_true false h = refl

-- the booleans of a type that has a shape
kinds_of : (insts : List Instruction) → AreInstructions insts → (k t : ℕ) → Unbroken insts k → (declared_before insts k).begun ≡ false →
    IsBefore insts k t → (is_boolean : Bool) (count : ℕ) → has_shape is_boolean count (shape insts t) ≡ true →
    booleans (type_at (table_before insts k) t) ≡ copies count (is_boolean ∷ [])
kinds_of insts whole k t clean outside before is_boolean count h =
    let s = is_shape is_boolean count (shape insts t) h in
    (shaped insts whole k t clean outside before s.shape s.is).kinds ∙ ap (λ (b : Bool). copies s.shape.count (b ∷ [])) s.kind ∙ ap
    (λ (n : ℕ). copies n (is_boolean ∷ [])) s.counts

-- the words of an operand
words_held : (P : ℕ → Type 0) (insts : List Instruction) (table : Table) (id : ℕ) → Holds P insts table id →
    AreWordsOf P (booleans (type_at table (type_of insts id))) (typed_at table id).words
words_held P insts table id h =
    subst (λ (ws : List ℕ). AreWordsOf P (booleans (type_at table (type_of insts id))) ws)
    (sym (ap (λ (m : Option Meaning). (typed_in m).words) h.stands)) h.suit

type_held : (P : ℕ → Type 0) (insts : List Instruction) (table : Table) (id : ℕ) → Holds P insts table id →
    (typed_at table id).type ≡ type_at table (type_of insts id)
type_held P insts table id h = ap (λ (m : Option Meaning). (typed_in m).type) h.stands

-- operands of one shape; induction on them
operands_hold : (P : ℕ → Type 0) (insts : List Instruction) → AreInstructions insts → (k : ℕ) → Unbroken insts k →
    (declared_before insts k).begun ≡ false → (is_boolean : Bool) (count : ℕ) (ids : List ℕ) → all_shaped insts is_boolean count ids ≡ true →
    AllHold P insts k ids →
    AllWords P is_boolean count (map (λ (v : Typed). v.words) (map (typed_at (table_before insts k)) ids))
operands_hold P insts whole k clean outside is_boolean count [] h held = tt
operands_hold P insts whole k clean outside is_boolean count (id ∷ ids) h held =
    let table = table_before insts k in
    let both =
    and_parts (is_constant insts id && has_shape is_boolean count (shape insts (type_of insts id))) (all_shaped insts is_boolean count ids) h in
    let one = and_parts (is_constant insts id) (has_shape is_boolean count (shape insts (type_of insts id))) both.0 in
    let before = type_before insts whole k id clean outside held.0 one.0 in
    let kinds = kinds_of insts whole k (type_of insts id) clean outside before is_boolean count one.1 in (
      subst (λ (bs : List Bool). AreWordsOf P bs (typed_at table id).words) kinds (words_held P insts table id held.1),
      operands_hold P insts whole k clean outside is_boolean count ids both.1 held.2,
    )

operand_count : (table : Table) (ids : List ℕ) → length (map (λ (v : Typed). v.words) (map (typed_at table) ids)) ≡ length ids
operand_count table ids = length-map (map (typed_at table) ids) (λ (v : Typed). v.words) ∙ length-map ids (typed_at table)

-- ---- form by form

-- what is in hand of an operation of a form
abbrev FormHolds : (ℕ → Type 0) → List Instruction → Form → Type 0
FormHolds P insts form =
    (k o t : ℕ) (rest : List ℕ) → Unbroken insts k → (declared_before insts k).begun ≡ false → is_defined_before insts k t ≡ true →
    lookup (nat_eq o) spec_operations ≡ Some form → operands_fit insts form t rest ≡ true → AllHold P insts k (operands_for form rest) →
    AreWordsOf P (booleans (type_at (table_before insts k) t))
    (computed (computation_for form o rest) (type_at (table_before insts k) t) (map (typed_at (table_before insts k)) (operands_for form rest)))

of_kinds : (P : ℕ → Type 0) (t : DataType) (bs : List Bool) (ws : List ℕ) → booleans t ≡ bs → AreWordsOf P bs ws → AreWordsOf P (booleans t) ws
of_kinds P t bs ws e h = subst (λ (x : List Bool). AreWordsOf P x ws) (sym e) h

ints_form : (P : ℕ → Type 0) → RulesHold P → (insts : List Instruction) → AreInstructions insts → (n : ℕ) → FormHolds P insts (Ints n)
unfolding computed
ints_form P rules_hold insts whole n k o t rest clean outside before is fit held =
    let table = table_before insts k in
    let c = count_of (shape insts t) in
    let wss = map (λ (v : Typed). v.words) (map (typed_at table) rest) in
    let both = and_parts (length rest == n) (has_shape false c (shape insts t) && all_shaped insts false c rest) fit in
    let shapes = and_parts (has_shape false c (shape insts t)) (all_shaped insts false c rest) both.1 in
    of_kinds P (type_at table t) (copies c (false ∷ [])) (Eval 32 o wss) (kinds_of insts whole k t clean outside before false c shapes.0)
    (ints-eval P rules_hold o n c wss is (operand_count table rest ∙ eqb-true (length rest) n both.0) (operands_hold P insts whole k clean outside false c rest shapes.1 held))

bools_form : (P : ℕ → Type 0) → RulesHold P → (insts : List Instruction) → AreInstructions insts → (n : ℕ) → FormHolds P insts (Bools n)
unfolding computed
bools_form P rules_hold insts whole n k o t rest clean outside before is fit held =
    let table = table_before insts k in
    let c = count_of (shape insts t) in
    let wss = map (λ (v : Typed). v.words) (map (typed_at table) rest) in
    let both = and_parts (length rest == n) (has_shape true c (shape insts t) && all_shaped insts true c rest) fit in
    let shapes = and_parts (has_shape true c (shape insts t)) (all_shaped insts true c rest) both.1 in
    of_kinds P (type_at table t) (copies c (true ∷ [])) (Eval 32 o wss) (kinds_of insts whole k t clean outside before true c shapes.0)
    (bools-eval P rules_hold o n c wss is (operand_count table rest ∙ eqb-true (length rest) n both.0) (operands_hold P insts whole k clean outside true c rest shapes.1 held))

compares_form : (P : ℕ → Type 0) → RulesHold P → (insts : List Instruction) → AreInstructions insts → FormHolds P insts Compares
unfolding computed
compares_form P rules_hold insts whole k o t rest clean outside before is fit held =
    let table = table_before insts k in
    let c = count_of (shape insts t) in
    let wss = map (λ (v : Typed). v.words) (map (typed_at table) rest) in
    let both = and_parts (length rest == 2) (has_shape true c (shape insts t) && all_shaped insts false c rest) fit in
    let shapes = and_parts (has_shape true c (shape insts t)) (all_shaped insts false c rest) both.1 in
    of_kinds P (type_at table t) (copies c (true ∷ [])) (Eval 32 o wss) (kinds_of insts whole k t clean outside before true c shapes.0)
    (compares-eval P rules_hold o c wss is (operand_count table rest ∙ eqb-true (length rest) 2 both.0) (operands_hold P insts whole k clean outside false c rest shapes.1 held))

some_shape : (found : Option Shape) → is_some found ≡ true → (s : Shape) × (found ≡ Some s)
some_shape None h = cc
some_shape (Some s) h = (s, refl)

-- the condition has one component, or as many as the result
condition_count : (insts : List Instruction) (t : ℕ) (s : Shape) → shape insts t ≡ Some s → count_of (shape insts t) ≡ s.count
condition_count insts t s e = ap count_of e

chosen_by : (P : ℕ → Type 0) (insts : List Instruction) → AreInstructions insts → (k c : ℕ) → Unbroken insts k →
    (declared_before insts k).begun ≡ false → IsBefore insts k (type_of insts c) → (count : ℕ) (is_boolean : Bool) (xs ys : List ℕ) →
    AreWordsOf P (booleans (type_at (table_before insts k) (type_of insts c))) (typed_at (table_before insts k) c).words →
    AreWordsOf P (copies count (is_boolean ∷ [])) xs → AreWordsOf P (copies count (is_boolean ∷ [])) ys →
    {m : ℕ} → (has_shape true 1 (shape insts (type_of insts c)) ≡ true) ⊎ (has_shape true m (shape insts (type_of insts c)) ≡ true) → m ≡ count →
    AreWordsOf P (copies count (is_boolean ∷ [])) (choice (typed_at (table_before insts k) c).words xs ys)
chosen_by P insts whole k c clean outside before count is_boolean xs ys cs h i {m} (inl one) e =
    choice-holds P true is_boolean 1 count (typed_at (table_before insts k) c).words xs ys
    (subst (λ (bs : List Bool). AreWordsOf P bs (typed_at (table_before insts k) c).words) (kinds_of insts whole k (type_of insts c) clean outside before true 1 one) cs) (inl refl) h i
chosen_by P insts whole k c clean outside before count is_boolean xs ys cs h i {m} (inr many) e =
    choice-holds P true is_boolean m count (typed_at (table_before insts k) c).words xs ys
    (subst (λ (bs : List Bool). AreWordsOf P bs (typed_at (table_before insts k) c).words) (kinds_of insts whole k (type_of insts c) clean outside before true m many) cs) (inr e) h i

selects_form : (P : ℕ → Type 0) → RulesHold P → (insts : List Instruction) → AreInstructions insts → FormHolds P insts Selects
unfolding computed
selects_form P rules_hold insts whole k o t [] clean outside before is fit held = cc
selects_form P rules_hold insts whole k o t (c ∷ []) clean outside before is fit held = cc
selects_form P rules_hold insts whole k o t (c ∷ a ∷ []) clean outside before is fit held = cc
selects_form P rules_hold insts whole k o t (c ∷ a ∷ b ∷ d ∷ rest) clean outside before is fit held = cc
selects_form P rules_hold insts whole k o t (c ∷ a ∷ b ∷ []) clean outside before is fit held =
    let table = table_before insts k in
    let last =
    and_parts _ (has_shape true 1 (shape insts (type_of insts c)) || has_shape true (count_of (shape insts t)) (shape insts (type_of insts c))) (selects-parts insts t c a b fit) in
    let types = and_parts _ (type_of insts a == t && type_of insts b == t) last.0 in
    let firsts = and_parts (is_some (shape insts t)) (is_constant insts c && is_constant insts a && is_constant insts b) types.0 in
    let ab = and_parts (type_of insts a == t) (type_of insts b == t) types.1 in
    let ca = and_parts (is_constant insts c && is_constant insts a) (is_constant insts b) firsts.1 in
    let condition = and_parts (is_constant insts c) (is_constant insts a) ca.0 in
    let s = some_shape (shape insts t) firsts.0 in
    let kinds = (shaped insts whole k t clean outside before s.0 s.1).kinds in
    let cs = (typed_at table c).words in
    let xs = (typed_at table a).words in
    let ys = (typed_at table b).words in
    let of_a : AreWordsOf P (copies s.0.count (s.0.is_boolean ∷ [])) xs =
    subst (λ (bs : List Bool). AreWordsOf P bs xs) kinds
    (subst (λ (u : ℕ). AreWordsOf P (booleans (type_at table u)) xs) (eqb-true (type_of insts a) t ab.0) (words_held P insts table a held.2.1)) in
    let of_b : AreWordsOf P (copies s.0.count (s.0.is_boolean ∷ [])) ys =
    subst (λ (bs : List Bool). AreWordsOf P bs ys) kinds
    (subst (λ (u : ℕ). AreWordsOf P (booleans (type_at table u)) ys) (eqb-true (type_of insts b) t ab.1) (words_held P insts table b held.2.2.1)) in
    let c_type = type_before insts whole k c clean outside held.0 condition.0 in
    let chosen = chosen_by P insts whole k c clean outside c_type s.0.count s.0.is_boolean xs ys (words_held P insts table c held.1) of_a of_b
    (or_cases (has_shape true 1 (shape insts (type_of insts c))) (has_shape true (count_of (shape insts t)) (shape insts (type_of insts c))) last.1)
    (condition_count insts t s.0 s.1) in
    of_kinds P (type_at table t) (copies s.0.count (s.0.is_boolean ∷ [])) (Eval 32 o (cs ∷ xs ∷ ys ∷ [])) kinds
    (subst (λ (ws : List ℕ). AreWordsOf P (copies s.0.count (s.0.is_boolean ∷ [])) ws) (sym (selects-eval P rules_hold o cs xs ys is)) chosen)

-- ---- vectors of one component type

scalar_kinds : (insts : List Instruction) (table : Table) (c : ℕ) → IsSoundType insts table c → (bool int : Bool) → is_bool insts c ≡ bool →
    is_int insts c ≡ int → (bool || int) ≡ true → booleans (type_at table c) ≡ bool ∷ []
scalar_kinds insts table c sound true int b i h = ap booleans (ap type_in (sound.boolean b))
scalar_kinds insts table c sound false true b i h = ap booleans (ap type_in (sound.integer i))
scalar_kinds insts table c sound false false b i h = cc

vector_kinds : (insts : List Instruction) → AreInstructions insts → (k t : ℕ) → Unbroken insts k → (declared_before insts k).begun ≡ false →
    IsBefore insts k t → is_vector insts t ≡ true →
    booleans (type_at (table_before insts k) t) ≡ copies (component_count insts t) (is_bool insts (component insts t) ∷ [])
unfolding row_of
vector_kinds insts whole k t clean outside before v =
    let table = table_before insts k in
    let c = component insts t in
    let site = site-of insts whole k t op.TYPE_VECTOR clean outside before v refl in
    let named = word-is insts k t 2 site.d in
    let known : is_defined_before insts site.d.place c ≡ true =
    subst (λ (n : ℕ). is_defined_before insts site.d.place n ≡ true) named (vector-known insts k t site) in
    let c_before = stays-defined insts site.d.place k c (omega (arith, site.d.before)) known in
    let rule =
    (and_parts (is_bool insts (slice_index site.d.inst.words 2) || is_int insts (slice_index site.d.inst.words 2)) _ (type-rule insts k t op.TYPE_VECTOR site)).0 in
    let rule_c : (is_bool insts c || is_int insts c) ≡ true = subst (λ (n : ℕ). (is_bool insts n || is_int insts n) ≡ true) named rule in
    ap booleans (ap type_in ((sound_type insts whole k t clean outside before).vector v))
    ∙ ap (λ (bs : List Bool). copies (component_count insts t) bs)
    (scalar_kinds insts table c (sound_type insts whole k c clean outside c_before) (is_bool insts c) (is_int insts c) refl refl rule_c)

-- the words of a vector whose component type is that of another
vector_words : (P : ℕ → Type 0) (insts : List Instruction) → AreInstructions insts → (k id c : ℕ) → Unbroken insts k →
    (declared_before insts k).begun ≡ false → IsBefore insts k id → is_constant insts id ≡ true → Holds P insts (table_before insts k) id →
    is_vector insts (type_of insts id) ≡ true → (component insts (type_of insts id) == c) ≡ true →
    AreWordsOf P (copies (component_count insts (type_of insts id)) (is_bool insts c ∷ [])) (typed_at (table_before insts k) id).words
vector_words P insts whole k id c clean outside before h held v same =
    let kinds = vector_kinds insts whole k (type_of insts id) clean outside (type_before insts whole k id clean outside before h) v in
    let component_is = eqb-true (component insts (type_of insts id)) c same in
    subst (λ (x : ℕ). AreWordsOf P (copies (component_count insts (type_of insts id)) (is_bool insts x ∷ [])) (typed_at (table_before insts k) id).words) component_is
    (subst (λ (bs : List Bool). AreWordsOf P bs (typed_at (table_before insts k) id).words) kinds (words_held P insts (table_before insts k) id held))

shuffles_form : (P : ℕ → Type 0) → P 0 → (insts : List Instruction) → AreInstructions insts → FormHolds P insts Shuffles
unfolding computed
shuffles_form P zero_holds insts whole k o t [] clean outside before is fit held = cc
shuffles_form P zero_holds insts whole k o t (a ∷ []) clean outside before is fit held = cc
shuffles_form P zero_holds insts whole k o t (a ∷ b ∷ literals) clean outside before is fit held =
    let table = table_before insts k in
    let c = component insts t in
    let ta = type_of insts a in
    let tb = type_of insts b in
    let all1 = and_parts _ (list_all (picks (component_count insts ta + component_count insts tb)) literals) (shuffles-parts insts t a b literals fit) in
    let all2 = and_parts _ (length literals == component_count insts t) all1.0 in
    let all3 = and_parts _ (component insts ta == c && component insts tb == c) all2.0 in
    let all4 = and_parts _ (is_vector insts ta && is_vector insts tb) all3.0 in
    let all5 = and_parts (is_vector insts t) (is_constant insts a && is_constant insts b) all4.0 in
    let constant = and_parts (is_constant insts a) (is_constant insts b) all5.1 in
    let vector = and_parts (is_vector insts ta) (is_vector insts tb) all4.1 in
    let same = and_parts (component insts ta == c) (component insts tb == c) all3.1 in
    let ws = (typed_at table a).words in
    let vs = (typed_at table b).words in
    let of_a = vector_words P insts whole k a c clean outside held.0 constant.0 held.1 vector.0 same.0 in
    let of_b = vector_words P insts whole k b c clean outside held.2.0 constant.1 held.2.1 vector.1 same.1 in
    let joined = words-joined P (is_bool insts c) (component_count insts ta) (component_count insts tb) ws vs of_a of_b in
    let picked = shuffle-holds P zero_holds (is_bool insts c) (component_count insts ta + component_count insts tb) (ws ++ vs) literals joined in
    of_kinds P (type_at table t) (copies (component_count insts t) (is_bool insts c ∷ [])) (map (shuffled (ws ++ vs)) literals)
    (vector_kinds insts whole k t clean outside before all5.0)
    (subst (λ (n : ℕ). AreWordsOf P (copies n (is_bool insts c ∷ [])) (map (shuffled (ws ++ vs)) literals)) (eqb-true (length literals) (component_count insts t) all2.1) picked)

extracts_form : (P : ℕ → Type 0) → P 0 → (insts : List Instruction) → AreInstructions insts → FormHolds P insts Extracts
unfolding computed
extracts_form P zero_holds insts whole k o t [] clean outside before is fit held = cc
extracts_form P zero_holds insts whole k o t (a ∷ literals) clean outside before is fit held =
    let table = table_before insts k in
    let ta = type_of insts a in
    let all1 = and_parts _ (leads_to t (part_along insts literals ta)) (extracts-parts insts t a literals fit) in
    let all2 = and_parts _ (nat_lt 0 (length literals)) all1.0 in
    let all3 = and_parts (is_some (shape insts t)) (is_constant insts a) all2.0 in
    let led = leads t (part_along insts literals ta) all1.1 in
    let ws = (typed_at table a).words in
    let u = type_at table ta in
    let a_type = type_before insts whole k a clean outside held.0 all3.1 in
    let there = along insts whole k clean outside literals ta t a_type led 0 in
    subst (λ (v : DataType). AreWordsOf P (booleans (type_at table t)) (extracted (type_at table t) ws (packed_part literals (whole_part v))))
    (sym (type_held P insts table a held.1))
    (extract-holds P zero_holds (type_at table t) u literals ws (words_held P insts table a held.1) there)

inserts_form : (P : ℕ → Type 0) (insts : List Instruction) → AreInstructions insts → FormHolds P insts Inserts
unfolding computed
inserts_form P insts whole k o t [] clean outside before is fit held = cc
inserts_form P insts whole k o t (a ∷ []) clean outside before is fit held = cc
inserts_form P insts whole k o t (a ∷ b ∷ literals) clean outside before is fit held =
    let table = table_before insts k in
    let ta = type_of insts a in
    let all1 = and_parts _ (leads_to ta (part_along insts literals t)) (inserts-parts insts t a b literals fit) in
    let all2 = and_parts _ (nat_lt 0 (length literals)) all1.0 in
    let all3 = and_parts _ (type_of insts b == t) all2.0 in
    let led = leads ta (part_along insts literals t) all1.1 in
    let object = (typed_at table a).words in
    let ws = (typed_at table b).words in
    let tb_is = eqb-true (type_of insts b) t all3.1 in
    let typed : (typed_at table b).type ≡ type_at table t = type_held P insts table b held.2.1 ∙ ap (λ (x : ℕ). type_at table x) tb_is in
    let of_b : AreWordsOf P (booleans (type_at table t)) ws =
    subst (λ (x : ℕ). AreWordsOf P (booleans (type_at table x)) ws) tb_is (words_held P insts table b held.2.1) in
    let there = along insts whole k clean outside literals t ta before led 0 in
    subst (λ (v : DataType). AreWordsOf P (booleans (type_at table t)) (inserted object ws (packed_part literals (whole_part v)))) (sym typed)
    (insert-holds P (type_at table ta) (type_at table t) literals object ws of_b (words_held P insts table a held.1) there)

-- ---- all operations

pub operations_hold : (P : ℕ → Type 0) → P 0 → RulesHold P → (insts : List Instruction) → AreInstructions insts → OperationsHold P insts
operations_hold P zero_holds rules_hold insts whole k (Ints n) o t rest = ints_form P rules_hold insts whole n k o t rest
operations_hold P zero_holds rules_hold insts whole k (Bools n) o t rest = bools_form P rules_hold insts whole n k o t rest
operations_hold P zero_holds rules_hold insts whole k Compares o t rest = compares_form P rules_hold insts whole k o t rest
operations_hold P zero_holds rules_hold insts whole k Selects o t rest = selects_form P rules_hold insts whole k o t rest
operations_hold P zero_holds rules_hold insts whole k Shuffles o t rest = shuffles_form P zero_holds insts whole k o t rest
operations_hold P zero_holds rules_hold insts whole k Extracts o t rest = extracts_form P zero_holds insts whole k o t rest
operations_hold P zero_holds rules_hold insts whole k Inserts o t rest = inserts_form P insts whole k o t rest
