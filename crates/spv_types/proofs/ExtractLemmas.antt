-- An extraction of constants.
use Rattle.std.proofs.Common.{◌≡◌, ℕ, ◌≤◌, true, ◌&&◌, nat_lt, List, [], ◌∷◌, length, slice_get, Option, Some, None, refl, sym, ap, subst, ◌∙◌}
use Rattle.std.specs.Option.{is_some}
use Rattle.std.proofs.lemmas.Bool.{eqb-true, and_parts}
use Rattle.spv_module.specs.Instruction.{Instruction}
use Rattle.spv_value.specs.declared.words.Operand.{Operand}
use Rattle.spv_value.specs.Words.{words_of}
use Rattle.spv_meaning.specs.Computations.{computed, extracted, whole_part}
use Rattle.spv_meaning.specs.Constants.{Table, Meaning, IsConstant, meaning, type_at, typed_in, typed_at}
use Rattle.spv_meaning.specs.Parts.{packed_part}
use Rattle.spv_meaning.specs.Types.{DataType, cells}
use Rattle.spv_ids.specs.Ids.{is_defined_before}
use Rattle.spv_typing.specs.declared.operations.Form.TheVariants.{Extracts}
use Rattle.spv_typing.specs.Kinds.{is_constant, type_of}
use Rattle.spv_typing.specs.Operations.{shape, count_of, literals_lead, part_along, leads_to}
use Rattle.spv_declarations.specs.Sound.{IsBefore, table_before}
use Rattle.spv_declarations.proofs.SoundConstants.{type_before}
use Rattle.spv_declarations.proofs.SoundShapes.{sound_shape}
use Rattle.spv_types.specs.declared.meaning.Kept.{Kept}
use Rattle.spv_types.specs.Meanings.{words_numbered, words_in_entry, is_small}
use Rattle.spv_types.specs.Declaring.{IsReady, IsNumber, meaning_in_entry}
use Rattle.spv_types.specs.Extracting.{LeadsTo, IsPart, AreComposed}
use Rattle.spv_types.specs.Computing.{IsExtractedFrom, IsExtracted}
use Rattle.spv_types.proofs.CompositeLemmas.{sound_typed, next_sound}
use Rattle.spv_types.proofs.FormLemmas.{Computes}
use Rattle.spv_types.proofs.Leading.{leads}
use Rattle.spv_types.proofs.OpcodeLemmas.{shape_small}
use Rattle.spv_types.proofs.OperandLemmas.{some_shape}

entry_of : (o : Option (ℕ × Meaning)) (m : Meaning) → meaning_in_entry o ≡ Some m → (r : ℕ) × (o ≡ Some (r, m))
entry_of None m e = cc
entry_of (Some e) m h = let same : e.1 ≡ m = cc in (e.0, ap (λ (n : Meaning). entry_at e.0 n) same)
  where
    entry_at : ℕ → Meaning → Option (ℕ × Meaning)
    entry_at r n = Some (r, n)

-- the part of the constant of a number
pub extracted-number : (table : Table) (entries : List (ℕ × Kept)) (t : DataType) (c n : ℕ) (literals : List ℕ) (x : Operand) → AreComposed table entries → IsNumber table c n →
    ((u : DataType) → IsPart table u n → LeadsTo t u literals → words_of x ≡ extracted t (words_numbered table n) (packed_part literals (whole_part u))) → IsExtractedFrom table t c literals x
extracted-number table entries t c n literals x composed number walks stands led =
    let u = (typed_at table c).type in
    let words = (typed_at table c).words in
    let e = entry_of (slice_get table n) (IsConstant u words) (number.meant ∙ stands) in
    let part : IsPart table u n = record { id = e.0; words = words; stands = e.1; sized = composed.sized n e.0 u words e.1 } in
    walks u part led ∙ ap (λ ws. extracted t ws (packed_part literals (whole_part u))) (ap words_in_entry e.1)

pub extracted-none : (table : Table) (t : DataType) (c : ℕ) (literals : List ℕ) (x : Operand) → meaning table c ≡ None → IsExtractedFrom table t c literals x
extracted-none table t c literals x none stands led = let no : None ≡ Some (IsConstant (typed_at table c).type (typed_at table c).words) = sym none ∙ stands in absurd (cc)

typed_is : (m : Option Meaning) (t : DataType) (ws : List ℕ) → m ≡ Some (IsConstant t ws) → m ≡ Some (IsConstant (typed_in m).type (typed_in m).words)
typed_is m t ws e = subst (λ (m : Option Meaning). m ≡ Some (IsConstant (typed_in m).type (typed_in m).words)) (sym e) refl

led_to : (u : ℕ) (o : Option ℕ) → leads_to u o ≡ true → o ≡ Some u
led_to u None h = cc
led_to u (Some v) h = ap Some (eqb-true v u h)

pub extracts_compute : (insts : List Instruction) (k : ℕ) (i : Instruction) (ks : List (ℕ × Kept)) → IsReady insts k i ks → (n t count : ℕ) (ids : List ℕ) (x : Operand) → IsBefore insts k t → count ≡ count_of (shape insts t) →
    ((u : DataType) → is_small u ≡ true → cells u ≡ count → count ≤ 4 → IsExtracted (table_before insts k) u ids x) → Computes insts k n t ids x Extracts
unfolding computed
extracts_compute insts k i ks ready n t count [] x before counts e fits known = cc
extracts_compute insts k i ks ready n t count (c ∷ literals) x before counts e fits known =
    let table = table_before insts k in
    let next = ready.next in
    let one = and_parts (is_some (shape insts t)) (is_constant insts c && literals_lead insts literals (type_of insts c) t) fits in
    let two = and_parts (is_constant insts c) (literals_lead insts literals (type_of insts c) t) one.1 in
    let three = and_parts (nat_lt 0 (length literals)) (leads_to t (part_along insts literals (type_of insts c))) two.1 in
    let known_c = (and_parts (is_defined_before insts k c) true known).0 in
    let s = some_shape (shape insts t) one.0 in
    let sound = sound_shape insts next.instructions k t next.unbroken next.outside before s.0 s.1 in
    let size : count ≡ s.0.count = counts ∙ ap count_of s.1 in
    let hc = ready.sound.constants c known_c two.0 in
    let before_c = type_before insts next.instructions k c next.unbroken next.outside known_c two.0 in
    let led = leads insts k i ks ready literals (type_of insts c) t before_c (led_to t (part_along insts literals (type_of insts c)) three.1) in
    e (type_at table t) (shape_small insts table t s.0 (next_sound insts k i ks ready t before) s.1) (sound.sized ∙ sym size) (subst (λ (m : ℕ). m ≤ 4) (sym size) sound.few)
    (typed_is (meaning table c) _ hc.words hc.stands) (subst (λ (u : DataType). LeadsTo (type_at table t) u literals) (sym (sound_typed insts table c hc)) led)
