-- What OpSpecConstantOp computes, by the form of its operation.
use Rattle.std.proofs.Common.{◌≡◌, ℕ, ◌*◌, ◌<◌, ◌≤◌, Bool, true, false, cond, ◌==◌, ◌&&◌, ◌||◌, nat_lt, List, [], ◌∷◌, length, map, drop, slice_index, Option, Some, None, ◌⊎◌, inl, inr, refl, sym, ap, subst, ◌∙◌, arith}
use Rattle.std.specs.List.{list_all}
use Rattle.std.specs.Option.{is_some}
use Rattle.std.proofs.lemmas.Bool.{eqb-true, and_parts, or_cases, ltb-true, false≢true}
use Rattle.spv_opcodes.specs.declared.op.TheConstants as op
use Rattle.spv_module.specs.Instruction.{Instruction, opcode}
use Rattle.spv_value.specs.declared.words.Operand.{Operand}
use Rattle.spv_value.specs.Words.{words_of}
use Rattle.spv_value.specs.Eval.{Eval}
use Rattle.spv_meaning.specs.Computations.{computed, inserted, whole_part}
use Rattle.spv_meaning.specs.Constants.{Table, Meaning, IsConstant, meaning, type_in, type_at, typed_at}
use Rattle.spv_meaning.specs.Parts.{packed_part}
use Rattle.spv_meaning.specs.Types.{DataType, Vector, cells}
use Rattle.spv_ids.specs.Ids.{is_defined_before}
use Rattle.spv_typing.specs.declared.operations.Form.{Form}
use Rattle.spv_typing.specs.declared.operations.Form.TheVariants.{Ints, Bools, Compares, Selects, Shuffles, Extracts, Inserts}
use Rattle.spv_typing.specs.Kinds.{is_one_of, is_bool, is_int, is_vector, is_array, is_struct, is_constant, type_of, has_type, component, component_count}
use Rattle.spv_typing.specs.Operations.{form_of, shape, operands_fit, is_vector_of, all_pick, components_of, literals_lead, part_at, part_along, part_behind, leads_to}
use Rattle.spv_declarations.specs.Declarations.{says, entry}
use Rattle.spv_declarations.specs.Sound.{IsBefore, table_before, IsSoundType}
use Rattle.spv_declarations.proofs.SoundConstants.{type_before}
use Rattle.spv_declarations.proofs.Operations.{fitting-form, operation-entry, operands-known, computation_for, operands_for}
use Rattle.spv_folding.proofs.Extraction.{insert_component}
use Rattle.spv_folding.specs.Folding.{AreOperands}
use Rattle.spv_types.specs.declared.meaning.Kept.{Kept}
use Rattle.spv_types.specs.Meanings.{is_small, words_in_entry}
use Rattle.spv_types.specs.Steps.{constant_opcodes}
use Rattle.spv_types.specs.Declaring.{IsReady, AreSmall}
use Rattle.spv_types.specs.Computing.{computed_by, ids_by, IsShuffled, IsInserted}
use Rattle.spv_types.proofs.CompositeLemmas.{typed_words, sound_typed, sound_words, next_sound, vector_of_scalars, vector_small, scalar_unit}
use Rattle.spv_types.proofs.DeclarationLemmas.{all_known, type_known}
use Rattle.spv_types.proofs.OpcodeLemmas.{shape_small}
use Rattle.spv_types.proofs.SuitLemmas.{short_opcode}
use Rattle.spv_types.proofs.OperandLemmas.{words_all, ints_suited, bools_suited, compares_suited, selects_suited, some_shape}

-- the words are what the form computes
abbrev pub Computes : List Instruction → (k o t : ℕ) → List ℕ → Operand → Form → Type 0
Computes insts k o t ids x form =
    operands_fit insts form t ids ≡ true → list_all (is_defined_before insts k) (ids_by form ids) ≡ true → words_of x ≡ computed_by (table_before insts k) form o (type_at (table_before insts k) t) ids

pub computes_by : (insts : List Instruction) (k o t : ℕ) (ids : List ℕ) (x : Operand) (form other : Form) → form ≡ other → Computes insts k o t ids x other → Computes insts k o t ids x form
computes_by insts k o t ids x form other e h = subst (λ (f : Form). Computes insts k o t ids x f) (sym e) h

-- ---- component by component

abbrev pub Evaluated : List Instruction → (k o : ℕ) → List ℕ → Operand → Form → Type 0
Evaluated insts k o ids x form =
    (c : ℕ) → AreSmall (table_before insts k) ids → AreOperands form c (words_all (table_before insts k) ids) → words_of x ≡ Eval 32 o (words_all (table_before insts k) ids)

pub ints_compute : (insts : List Instruction) (k : ℕ) (i : Instruction) (ks : List (ℕ × Kept)) → IsReady insts k i ks → (n o t : ℕ) (ids : List ℕ) (x : Operand) → IsBefore insts k t → Evaluated insts k o ids x (Ints n) → Computes insts k o t ids x (Ints n)
unfolding computed
ints_compute insts k i ks ready n o t ids x before e fits known = let s = ints_suited insts k i ks ready n t ids before known fits in e s.count s.small s.suited

pub bools_compute : (insts : List Instruction) (k : ℕ) (i : Instruction) (ks : List (ℕ × Kept)) → IsReady insts k i ks → (n o t : ℕ) (ids : List ℕ) (x : Operand) → IsBefore insts k t → Evaluated insts k o ids x (Bools n) → Computes insts k o t ids x (Bools n)
unfolding computed
bools_compute insts k i ks ready n o t ids x before e fits known = let s = bools_suited insts k i ks ready n t ids before known fits in e s.count s.small s.suited

pub compares_compute : (insts : List Instruction) (k : ℕ) (i : Instruction) (ks : List (ℕ × Kept)) → IsReady insts k i ks → (o t : ℕ) (ids : List ℕ) (x : Operand) → IsBefore insts k t → Evaluated insts k o ids x Compares → Computes insts k o t ids x Compares
unfolding computed
compares_compute insts k i ks ready o t ids x before e fits known = let s = compares_suited insts k i ks ready t ids before known fits in e s.count s.small s.suited

pub selects_compute : (insts : List Instruction) (k : ℕ) (i : Instruction) (ks : List (ℕ × Kept)) → IsReady insts k i ks → (o t : ℕ) (ids : List ℕ) (x : Operand) → IsBefore insts k t → Evaluated insts k o ids x Selects → Computes insts k o t ids x Selects
unfolding computed
selects_compute insts k i ks ready o t ids x before e fits known = let s = selects_suited insts k i ks ready t ids before known fits in e s.count s.small s.suited

-- ---- shuffles

-- a constant vector is small
vector_constant : (insts : List Instruction) (k : ℕ) (i : Instruction) (ks : List (ℕ × Kept)) → IsReady insts k i ks → (part id : ℕ) → IsBefore insts k id → is_vector_of insts part id ≡ true → is_small (typed_at (table_before insts k) id).type ≡ true
vector_constant insts k i ks ready part id known h =
    let table = table_before insts k in
    let one = and_parts (is_constant insts id) (is_vector insts (type_of insts id) && component insts (type_of insts id) == part) h in
    let two = and_parts (is_vector insts (type_of insts id)) (component insts (type_of insts id) == part) one.1 in
    let before = type_before insts ready.next.instructions k id ready.next.unbroken ready.next.outside known one.0 in
    ap is_small (sound_typed insts table id (ready.sound.constants id known one.0)) ∙ vector_small insts table (type_of insts id) (next_sound insts k i ks ready (type_of insts id) before) two.0

pub shuffles_compute : (insts : List Instruction) (k : ℕ) (i : Instruction) (ks : List (ℕ × Kept)) → IsReady insts k i ks → (o t : ℕ) (ids : List ℕ) (x : Operand) → IsBefore insts k t → IsShuffled (table_before insts k) ids x → Computes insts k o t ids x Shuffles
unfolding computed
shuffles_compute insts k i ks ready o t [] x before e fits known = cc
shuffles_compute insts k i ks ready o t (a ∷ []) x before e fits known = cc
shuffles_compute insts k i ks ready o t (a ∷ b ∷ literals) x before e fits known =
    let last = length literals == component_count insts t && all_pick (components_of insts a b) literals in
    let one = and_parts (is_vector insts t) (is_vector_of insts (component insts t) a && (is_vector_of insts (component insts t) b && last)) fits in
    let two = and_parts (is_vector_of insts (component insts t) a) (is_vector_of insts (component insts t) b && last) one.1 in
    let three = and_parts (is_vector_of insts (component insts t) b) last two.1 in
    let four = and_parts (length literals == component_count insts t) (all_pick (components_of insts a b) literals) three.1 in
    let first = and_parts (is_defined_before insts k a) (list_all (is_defined_before insts k) (b ∷ [])) known in
    let second = and_parts (is_defined_before insts k b) true first.1 in
    let of = vector_of_scalars insts ready.next.instructions k t ready.next.unbroken ready.next.outside before one.0 in
    e (vector_constant insts k i ks ready (component insts t) a first.0 two.0, (vector_constant insts k i ks ready (component insts t) b second.0 three.0, tt))
    (subst (λ (n : ℕ). n ≤ 4) (sym (eqb-true (length literals) (component_count insts t) four.0)) of.few)

-- ---- insertions

-- what literals lead to in a scalar or a vector
pub record IsComponent (insts : List Instruction) (k t j u : ℕ) : Type 0 where
  pub vector : is_vector insts t ≡ true
  pub within : j < component_count insts t
  pub part : component insts t ≡ u

small_no_struct : (insts : List Instruction) (table : Table) (t : ℕ) → IsSoundType insts table t → is_small (type_at table t) ≡ true → (is_struct insts t ≡ false) × (is_array insts t ≡ false)
small_no_struct insts table t sound small = (by_struct (is_struct insts t) refl, by_array (is_array insts t) refl)
  where
    by_struct : (b : Bool) → is_struct insts t ≡ b → b ≡ false
    by_struct true e = let no : true ≡ false = sym small ∙ ap (λ m. is_small (type_in m)) (sound.struct e) in sym (sym no)
    by_struct false e = refl

    by_array : (b : Bool) → is_array insts t ≡ b → b ≡ false
    by_array true e = let no : true ≡ false = sym small ∙ ap (λ m. is_small (type_in m)) (sound.array e).1 in sym (sym no)
    by_array false e = refl

scalar_no_vector : (insts : List Instruction) (table : Table) (t : ℕ) → IsSoundType insts table t → (is_bool insts t || is_int insts t) ≡ true → is_vector insts t ≡ false
scalar_no_vector insts table t sound h = by (is_vector insts t) refl (or_cases (is_bool insts t) (is_int insts t) h)
  where
    by : (b : Bool) → is_vector insts t ≡ b → (is_bool insts t ≡ true) ⊎ (is_int insts t ≡ true) → b ≡ false
    by true e (inl b) = let one = sound.vector e in let two = sound.boolean b in cc
    by true e (inr n) = let one = sound.vector e in let two = sound.integer n in cc
    by false e h = refl

-- nothing is a part of a scalar
pub no_part : (insts : List Instruction) (table : Table) (t j : ℕ) → IsSoundType insts table t → (is_bool insts t || is_int insts t) ≡ true → part_at insts t j ≡ None
no_part insts table t j sound h =
    let plain = small_no_struct insts table t sound (scalar_unit insts table t sound h).small in
    rw (plain.0, plain.1, scalar_no_vector insts table t sound h) refl

leads_component : (insts : List Instruction) (k t j u : ℕ) (within : Bool) → is_vector insts t ≡ true → nat_lt j (component_count insts t) ≡ within → leads_to u (cond within (Some (component insts t)) None) ≡ true → IsComponent insts k t j u
leads_component insts k t j u true v w h = record { vector = v; within = ltb-true j (component_count insts t) w; part = eqb-true (component insts t) u h }
leads_component insts k t j u false v w h = cc

-- the first literal into a scalar or a vector picks a component
first_leads : (insts : List Instruction) (k : ℕ) (i : Instruction) (ks : List (ℕ × Kept)) → IsReady insts k i ks → (t u j : ℕ) (rest : List ℕ) → IsBefore insts k t → is_small (type_at (table_before insts k) t) ≡ true →
    literals_lead insts (j ∷ rest) t u ≡ true → (leads_to u (part_along insts rest (component insts t)) ≡ true) × ((is_vector insts t ≡ true) × (j < component_count insts t))
first_leads insts k i ks ready t u j rest before small h =
    let plain = small_no_struct insts (table_before insts k) t (next_sound insts k i ks ready t before) small in
    let lead = (and_parts (nat_lt 0 (length (j ∷ rest))) (leads_to u (part_along insts (j ∷ rest) t)) h).1 in
    let at : part_at insts t j ≡ cond (is_vector insts t && nat_lt j (component_count insts t)) (Some (component insts t)) None = rw (plain.0, plain.1) refl in
    by (is_vector insts t) refl (nat_lt j (component_count insts t)) refl (sym (ap (λ (o : Option ℕ). leads_to u (part_behind (part_along insts rest) o)) at) ∙ lead)
  where
    by : (v : Bool) → is_vector insts t ≡ v → (w : Bool) → nat_lt j (component_count insts t) ≡ w → leads_to u (part_behind (part_along insts rest) (cond (v && w) (Some (component insts t)) None)) ≡ true →
        (leads_to u (part_along insts rest (component insts t)) ≡ true) × ((is_vector insts t ≡ true) × (j < component_count insts t))
    by true v true w e = (e, (v, ltb-true j (component_count insts t) w))
    by true v false w e = cc
    by false v w x e = cc

leads_one : (insts : List Instruction) (k : ℕ) (i : Instruction) (ks : List (ℕ × Kept)) → IsReady insts k i ks → (t u j : ℕ) → IsBefore insts k t → is_small (type_at (table_before insts k) t) ≡ true →
    literals_lead insts (j ∷ []) t u ≡ true → IsComponent insts k t j u
leads_one insts k i ks ready t u j before small h =
    let f = first_leads insts k i ks ready t u j [] before small h in
    record { vector = f.1.0; within = f.1.1; part = eqb-true (component insts t) u f.0 }

leads_no_more : (insts : List Instruction) (k : ℕ) (i : Instruction) (ks : List (ℕ × Kept)) → IsReady insts k i ks → (t u j l : ℕ) (rest : List ℕ) → IsBefore insts k t → is_small (type_at (table_before insts k) t) ≡ true →
    literals_lead insts (j ∷ l ∷ rest) t u ≡ true → ⊥
leads_no_more insts k i ks ready t u j l rest before small h =
    let f = first_leads insts k i ks ready t u j (l ∷ rest) before small h in
    let of = vector_of_scalars insts ready.next.instructions k t ready.next.unbroken ready.next.outside before f.1.0 in
    let none = no_part insts (table_before insts k) (component insts t) l (next_sound insts k i ks ready (component insts t) of.known) of.kind in
    false≢true (sym (ap (λ (o : Option ℕ). leads_to u (part_behind (part_along insts rest) o)) none) ∙ f.0)

times_one : (n m : ℕ) → m ≡ 1 → n * m ≡ n
times_one n m e = ap (λ (x : ℕ). n * x) e ∙ omega arith

pub inserts_compute : (insts : List Instruction) (k : ℕ) (i : Instruction) (ks : List (ℕ × Kept)) → IsReady insts k i ks → (n t : ℕ) (ids : List ℕ) (x : Operand) → IsBefore insts k t → IsInserted (table_before insts k) ids x → Computes insts k n t ids x Inserts
unfolding computed
inserts_compute insts k i ks ready n t [] x before e fits known = cc
inserts_compute insts k i ks ready n t (o ∷ []) x before e fits known = cc
inserts_compute insts k i ks ready n t (o ∷ c ∷ []) x before e fits known =
    let one = and_parts (is_some (shape insts t)) (is_constant insts o && (has_type insts t c && literals_lead insts [] t (type_of insts o))) fits in
    let two = and_parts (is_constant insts o) (has_type insts t c && literals_lead insts [] t (type_of insts o)) one.1 in
    let three = and_parts (has_type insts t c) (literals_lead insts [] t (type_of insts o)) two.1 in
    absurd (false≢true three.1)
inserts_compute insts k i ks ready n t (o ∷ c ∷ j ∷ l ∷ rest) x before e fits known =
    let literals = j ∷ l ∷ rest in
    let one = and_parts (is_some (shape insts t)) (is_constant insts o && (has_type insts t c && literals_lead insts literals t (type_of insts o))) fits in
    let two = and_parts (is_constant insts o) (has_type insts t c && literals_lead insts literals t (type_of insts o)) one.1 in
    let three = and_parts (has_type insts t c) (literals_lead insts literals t (type_of insts o)) two.1 in
    let s = some_shape (shape insts t) one.0 in
    absurd (leads_no_more insts k i ks ready t (type_of insts o) j l rest before (shape_small insts (table_before insts k) t s.0 (next_sound insts k i ks ready t before) s.1) three.1)
inserts_compute insts k i ks ready n t (o ∷ c ∷ j ∷ []) x before e fits known =
    let table = table_before insts k in
    let literals = j ∷ [] in
    let one = and_parts (is_some (shape insts t)) (is_constant insts o && (has_type insts t c && literals_lead insts literals t (type_of insts o))) fits in
    let two = and_parts (is_constant insts o) (has_type insts t c && literals_lead insts literals t (type_of insts o)) one.1 in
    let three = and_parts (has_type insts t c) (literals_lead insts literals t (type_of insts o)) two.1 in
    let cs = and_parts (is_constant insts c) (type_of insts c == t) three.0 in
    let k1 = and_parts (is_defined_before insts k o) (list_all (is_defined_before insts k) (c ∷ [])) known in
    let k2 = and_parts (is_defined_before insts k c) true k1.1 in
    let s = some_shape (shape insts t) one.0 in
    let sound = next_sound insts k i ks ready t before in
    let small = shape_small insts table t s.0 sound s.1 in
    let led = leads_one insts k i ks ready t (type_of insts o) j before small three.1 in
    let of = vector_of_scalars insts ready.next.instructions k t ready.next.unbroken ready.next.outside before led.vector in
    let part = type_at table (component insts t) in
    let unit = scalar_unit insts table (component insts t) (next_sound insts k i ks ready (component insts t) of.known) of.kind in
    let vector : type_at table t ≡ Vector (component_count insts t) part = ap type_in (sound.vector led.vector) in
    let hc = ready.sound.constants c k2.0 cs.0 in
    let ho = ready.sound.constants o k1.0 two.0 in
    let named : type_at table (type_of insts c) ≡ type_at table t = ap (type_at table) (eqb-true (type_of insts c) t cs.1) in
    let object : type_at table (type_of insts o) ≡ part = ap (type_at table) (sym led.part) in
    let type : (typed_at table c).type ≡ Vector (component_count insts t) part = sound_typed insts table c hc ∙ named ∙ vector in
    let sized : length (typed_at table c).words ≡ component_count insts t =
    ap length (typed_words (meaning table c)) ∙ sound_words insts table c hc ∙ ap cells (named ∙ vector) ∙ times_one (component_count insts t) (cells part) unit.single in
    let single : length (typed_at table o).words ≡ 1 = ap length (typed_words (meaning table o)) ∙ sound_words insts table o ho ∙ ap cells object ∙ unit.single in
    let o_small = ap is_small (sound_typed insts table o ho ∙ object) ∙ unit.small in
    let c_small = ap is_small (sound_typed insts table c hc ∙ named) ∙ small in
    e (o_small, (c_small, tt)) (subst (λ (m : ℕ). m ≤ 4) (sym sized) of.few)
    ∙ sym (insert_component part (component_count insts t) (typed_at table o).words (typed_at table c).words j led.within unit.single sized single)
    ∙ ap (λ (u : DataType). inserted (typed_at table o).words (typed_at table c).words (packed_part (j ∷ []) (whole_part u))) (sym type)

-- ---- the form that the operation has

pub evaluated_as : (insts : List Instruction) (k o : ℕ) (ids : List ℕ) (x : Operand) (form other : Form) → form ≡ other → Evaluated insts k o ids x form → Evaluated insts k o ids x other
evaluated_as insts k o ids x form other e h = subst (λ (f : Form). Evaluated insts k o ids x f) e h

-- ---- the instruction

ids_same : (form : Form) (rest : List ℕ) → operands_for form rest ≡ ids_by form rest
ids_same (Ints n) rest = refl
ids_same (Bools n) rest = refl
ids_same Compares rest = refl
ids_same Selects rest = refl
ids_same Shuffles rest = refl
ids_same Extracts rest = refl
ids_same Inserts rest = refl

computes_same : (table : Table) (form : Form) (o : ℕ) (t : DataType) (rest : List ℕ) → computed_by table form o t rest ≡ computed (computation_for form o rest) t (map (typed_at table) (operands_for form rest))
computes_same table (Ints n) o t rest = refl
computes_same table (Bools n) o t rest = refl
computes_same table Compares o t rest = refl
computes_same table Selects o t rest = refl
computes_same table Shuffles o t rest = refl
computes_same table Extracts o t rest = refl
computes_same table Inserts o t rest = refl

-- what is made of words that fit the form
abbrev pub Makes : List Instruction → (k : ℕ) → Operand → Form → (o t : ℕ) → List ℕ → Type 0
Makes insts k x form o t ids = IsBefore insts k t → Computes insts k o t ids x form

constant_words : (r : ℕ) (t u : DataType) (ws vs : List ℕ) (e : Option (ℕ × Meaning)) → e ≡ Some (r, IsConstant t ws) → e ≡ Some (r, IsConstant u vs) → ws ≡ vs
constant_words r t u ws vs e h k = ap words_in_entry (sym h ∙ k)

is_listed : (i : Instruction) → opcode i ≡ op.SPEC_CONSTANT_OP → is_one_of constant_opcodes (opcode i) ≡ true
is_listed i is_o = ap (is_one_of constant_opcodes) is_o

form_words : (insts : List Instruction) (k : ℕ) (i : Instruction) (ks : List (ℕ × Kept)) → IsReady insts k i ks → opcode i ≡ op.SPEC_CONSTANT_OP → (t : DataType) (ws : List ℕ) →
    entry (says insts) (table_before insts k) i ≡ Some (slice_index i.words 2, IsConstant t ws) → (form : Form) (x : Operand) → form_of (slice_index i.words 3) ≡ Some form →
    Makes insts k x form (slice_index i.words 3) (slice_index i.words 1) (drop 4 i.words) → words_of x ≡ ws
form_words insts k i ks ready is_o t ws e form x is makes =
    let table = table_before insts k in
    let next = ready.next in
    let whole = next.instructions k i next.at in
    let listed = is_listed i is_o in
    let rest = drop 4 i.words in
    let f = fitting-form insts i is_o next.operation in
    let same : f.form ≡ form = form_same (form_of (slice_index i.words 3)) f.form form f.is is in
    let fit : operands_fit insts form (slice_index i.words 1) rest ≡ true = subst (λ (g : Form). operands_fit insts g (slice_index i.words 1) rest ≡ true) same f.fit in
    let known = operands-known (is_defined_before insts k) insts i form whole is_o is fit (all_known insts k i next listed) in
    makes (type_known insts k i next listed) fit (subst (λ (ids : List ℕ). list_all (is_defined_before insts k) ids ≡ true) (ids_same form rest) known)
    ∙ computes_same table form (slice_index i.words 3) (type_at table (slice_index i.words 1)) rest
    ∙ sym (constant_words (slice_index i.words 2) t (type_at table (slice_index i.words 1)) ws _ (entry (says insts) table i) e (operation-entry (says insts) table i form whole is_o is))
  where
    form_same : (o : Option Form) (f g : Form) → o ≡ Some f → o ≡ Some g → f ≡ g
    form_same o f g h k = cc

pub operation_words : (insts : List Instruction) (k : ℕ) (i : Instruction) (ks : List (ℕ × Kept)) → IsReady insts k i ks → opcode i ≡ op.SPEC_CONSTANT_OP → (t : DataType) (ws : List ℕ) →
    entry (says insts) (table_before insts k) i ≡ Some (slice_index i.words 2, IsConstant t ws) → (form : Form) (x : Operand) (o result : ℕ) (ids : List ℕ) → form_of o ≡ Some form → o ≡ slice_index i.words 3 → result ≡ slice_index i.words 1 →
    ids ≡ drop 4 i.words → Makes insts k x form o result ids → words_of x ≡ ws
operation_words insts k i ks ready is_o t ws e form x o result ids is same_o same_t same_ids makes =
    form_words insts k i ks ready is_o t ws e form x (sym (ap form_of same_o) ∙ is)
    (subst (λ (n : ℕ). Makes insts k x form n (slice_index i.words 1) (drop 4 i.words)) same_o
    (subst (λ (u : ℕ). Makes insts k x form o u (drop 4 i.words)) same_t (subst (λ (vs : List ℕ). Makes insts k x form o result vs) same_ids makes)))

-- an OpSpecConstantOp names an operation
pub some_form : (insts : List Instruction) (k : ℕ) (i : Instruction) (ks : List (ℕ × Kept)) → IsReady insts k i ks → opcode i ≡ op.SPEC_CONSTANT_OP → (form : Form) × (form_of (slice_index i.words 3) ≡ Some form)
some_form insts k i ks ready is_o = let f = fitting-form insts i is_o ready.next.operation in (f.form, f.is)

pub no_long_opcode : (o n : ℕ) (form : Form) → form_of o ≡ Some form → n ≡ o → (n < 65536 → ⊥) → ⊥
no_long_opcode o n form is same long = long (subst (λ (m : ℕ). m < 65536) (sym same) (ltb-true o 65536 (short_opcode o form is)))
