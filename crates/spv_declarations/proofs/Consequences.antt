-- What follows: lengths of arrays, parts of composites, and that constants and types are exactly what the table says.
use Rattle.std.proofs.Common.{◌≡◌, ℕ, zero, suc, ◌^◌, ◌<◌, ◌⊎◌, inl, inr, Bool, true, false, ◌==◌, ◌&&◌, ◌||◌, List, [], ◌∷◌, length, take, map, Option, Some, None, refl, sym, ap, subst, ◌∙◌, arith}
use Rattle.std.specs.List.{list_any, list_all, slice_get, AllZip}
use Rattle.std.proofs.lemmas.Bool.{eqb-true, eq-eqb, and_parts, or_parts, or_cases, or_left, or_right}
use Rattle.spv_opcodes.specs.declared.op.TheConstants as op
use Rattle.spv_module.specs.Code.{is_function}
use Rattle.spv_module.specs.Instruction.{Instruction, opcode}
use Rattle.spv_meaning.specs.Statements.{Statement}
use Rattle.spv_meaning.specs.Constants.{Table, Meaning, IsType, IsConstant, meaning, type_in, type_at, words_in, words_at, composed}
use Rattle.spv_meaning.specs.Types.{DataType, Integer, cells, booleans}
use Rattle.spv_ids.specs.Ids.{defines, kind, word_of, is_defined_before}
use Rattle.spv_typing.specs.Kinds.{is_one_of, constants, data_types, is_int, is_data, is_runtime_array, is_constant, is_outside, type_of, has_type}
use Rattle.spv_declarations.specs.Constants.{composite_fits, are_of}
use Rattle.spv_declarations.specs.Declarations.{Declared, nothing_declared, declare, declare_all, declared_before, says, entry}
use Rattle.spv_declarations.specs.Sound.{AreInstructions, WordsFit, Unbroken, IsBefore, table_before, IsSoundType, IsSoundConstant}
use Rattle.spv_declarations.proofs.Defining.{entry-gives, suits_meaning}
use Rattle.spv_declarations.proofs.Tables.{no_meaning}
use Rattle.spv_declarations.proofs.Meanings.{DefinedAt, defined_at, not_begun, meaning_in, meaning-at}
use Rattle.spv_declarations.proofs.Sites.{opcode-is}
use Rattle.spv_declarations.proofs.SoundTypes.{sound_type}
use Rattle.spv_declarations.proofs.Declares.{AllOf, one_of-holds}
use Rattle.spv_declarations.proofs.SoundConstants.{Holds, Setting, constant_holds, composite_suits, type_before}
use Rattle.spv_declarations.proofs.Words.{AreWordsOf, words-cells, words-number}
use Rattle.spv_declarations.proofs.EvaluatedWords.{any_word, any_rules}
use Rattle.spv_declarations.proofs.OperationWords.{operations_hold}
use Rattle.spv_declarations.proofs.FittingWords.{fits_word, fitting_rules}
use Rattle.spv_declarations.proofs.SoundShapes.{shaped, shaped-booleans, shaped-number}
use Rattle.spv_typing.specs.declared.shapes.Shape.{Shape}
use Rattle.spv_typing.specs.Operations.{shape}
use Rattle.spv_value.specs.Eval.{AreBooleanWords}

any_setting : (insts : List Instruction) → AreInstructions insts → Setting any_word insts
any_setting insts whole =
    record { whole = whole; zero_word = tt; words = λ k i at n. tt; operations = operations_hold any_word tt any_rules insts whole }

-- ---- constants

pub sound_constant : (insts : List Instruction) → AreInstructions insts → (k id : ℕ) → Unbroken insts k → (declared_before insts k).begun ≡ false →
    IsBefore insts k id → is_constant insts id ≡ true → IsSoundConstant insts (table_before insts k) id
sound_constant insts whole k id clean outside before h =
    let held = constant_holds any_word insts (any_setting insts whole) k id clean outside before h in
    record { words = held.words; stands = held.stands; sized = words-cells any_word (type_at (table_before insts k) (type_of insts id)) held.words held.suit }

-- an integer constant has one word
pub sound_length : (insts : List Instruction) → AreInstructions insts → (k id : ℕ) → Unbroken insts k → (declared_before insts k).begun ≡ false →
    IsBefore insts k id → is_constant insts id ≡ true → is_int insts (type_of insts id) ≡ true →
    (w : ℕ) × (meaning (table_before insts k) id ≡ Some (IsConstant (Integer 32 (word_of insts (type_of insts id) 3 == 1)) (w ∷ [])))
sound_length insts whole k id clean outside before h int =
    let table = table_before insts k in
    let held = constant_holds any_word insts (any_setting insts whole) k id clean outside before h in
    let typed =
    ap type_in ((sound_type insts whole k (type_of insts id) clean outside (type_before insts whole k id clean outside before h)).integer int) in
    let one = words-number any_word held.words (subst (λ (t : DataType). AreWordsOf any_word (booleans t) held.words) typed held.suit) in
    (one.word, held.stands ∙ ap (λ (t : DataType). Some (IsConstant t held.words)) typed ∙ ap (λ (ws : List ℕ). Some (IsConstant (Integer 32 (word_of insts (type_of insts id) 3 == 1)) ws)) one.is)

-- where words of instructions are below 2 ^ 32, so are those of constants
pub fitting_constant : (insts : List Instruction) → AreInstructions insts → WordsFit insts → (k id : ℕ) → Unbroken insts k →
    (declared_before insts k).begun ≡ false → IsBefore insts k id → is_constant insts id ≡ true → Holds fits_word insts (table_before insts k) id
fitting_constant insts whole fit k id clean outside before h =
    constant_holds fits_word insts
    (record { whole = whole; zero_word = omega arith; words = fit; operations = operations_hold fits_word (omega arith) fitting_rules insts whole }) k id clean outside before h

pub same_words : (m : Option Meaning) (t u : DataType) (ws vs : List ℕ) → m ≡ Some (IsConstant t ws) → m ≡ Some (IsConstant u vs) → ws ≡ vs
same_words m t u ws vs e f = cc

-- the words of a constant whose type is of booleans
pub sound_booleans : (insts : List Instruction) → AreInstructions insts → (k id : ℕ) → Unbroken insts k → (declared_before insts k).begun ≡ false →
    IsBefore insts k id → is_constant insts id ≡ true → (s : Shape) → shape insts (type_of insts id) ≡ Some s → s.is_boolean ≡ true →
    (t : DataType) (ws : List ℕ) → meaning (table_before insts k) id ≡ Some (IsConstant t ws) → AreBooleanWords ws
sound_booleans insts whole k id clean outside before h s e b t ws is =
    let table = table_before insts k in
    let held = constant_holds any_word insts (any_setting insts whole) k id clean outside before h in
    let typed = type_before insts whole k id clean outside before h in
    subst AreBooleanWords (same_words (meaning table id) (type_at table (type_of insts id)) t held.words ws held.stands is)
    (shaped-booleans any_word (type_at table (type_of insts id)) s held.words (shaped insts whole k (type_of insts id) clean outside typed s e) b held.suit)

-- the word of an integer constant is below 2 ^ 32
pub sound_number : (insts : List Instruction) → AreInstructions insts → WordsFit insts → (k id : ℕ) → Unbroken insts k →
    (declared_before insts k).begun ≡ false → IsBefore insts k id → is_constant insts id ≡ true → (s : Shape) →
    shape insts (type_of insts id) ≡ Some s → s.is_boolean ≡ false → s.count ≡ 1 →
    (w : ℕ) × (meaning (table_before insts k) id ≡ Some (IsConstant (type_at (table_before insts k) (type_of insts id)) (w ∷ []))) × (w < 2 ^ 32)
sound_number insts whole fit k id clean outside before h s e b one =
    let table = table_before insts k in
    let held = fitting_constant insts whole fit k id clean outside before h in
    let typed = type_before insts whole k id clean outside before h in
    let only =
    shaped-number fits_word (type_at table (type_of insts id)) s held.words
    (shaped insts whole k (type_of insts id) clean outside typed s e) b one held.suit in
    (only.word, held.stands ∙ ap (λ (ws : List ℕ). Some (IsConstant (type_at table (type_of insts id)) ws)) only.is, only.holds)

-- ---- parts of composites

-- the words of a constant are as many as a value of its type has
pub sized_words : (insts : List Instruction) → AreInstructions insts → (k id t : ℕ) → Unbroken insts k → (declared_before insts k).begun ≡ false →
    IsBefore insts k id → has_type insts t id ≡ true →
    length (words_at (table_before insts k) id) ≡ cells (type_at (table_before insts k) t)
sized_words insts whole k id t clean outside before h =
    let both = and_parts (is_constant insts id) (type_of insts id == t) h in
    let sound = sound_constant insts whole k id clean outside before both.0 in
    ap (λ (m : Option Meaning). length (words_in m)) sound.stands ∙ sound.sized ∙ ap (λ (x : ℕ). cells (type_at (table_before insts k) x))
    (eqb-true (type_of insts id) t both.1)

-- constituents of a struct, each as long as its member's type; induction on the members
pub sound_members : (insts : List Instruction) → AreInstructions insts → (k : ℕ) → Unbroken insts k → (declared_before insts k).begun ≡ false →
    (ms ids : List ℕ) → list_all (is_defined_before insts k) ids ≡ true → are_of insts ms ids ≡ true →
    AllZip (λ t ws. length ws ≡ cells t) (map (type_at (table_before insts k)) ms) (map (words_at (table_before insts k)) ids)
sound_members insts whole k clean outside [] [] known typed = tt
sound_members insts whole k clean outside [] (id ∷ ids) known typed = cc
sound_members insts whole k clean outside (m ∷ ms) [] known typed = cc
sound_members insts whole k clean outside (m ∷ ms) (id ∷ ids) known typed =
    let known_both = and_parts (is_defined_before insts k id) (list_all (is_defined_before insts k) ids) known in
    let typed_both = and_parts (has_type insts m id) (are_of insts ms ids) typed in
    (sized_words insts whole k id m clean outside known_both.0 typed_both.0, sound_members insts whole k clean outside ms ids known_both.1 typed_both.1)

-- of an array or a vector, each as long as the type of a part; induction on them
pub sound_elements : (insts : List Instruction) → AreInstructions insts → (k t : ℕ) → Unbroken insts k → (declared_before insts k).begun ≡ false →
    (ids : List ℕ) → list_all (is_defined_before insts k) ids ≡ true → list_all (has_type insts t) ids ≡ true →
    AllZip (λ u ws. length ws ≡ cells u) (map (λ _. type_at (table_before insts k) t) ids) (map (words_at (table_before insts k)) ids)
sound_elements insts whole k t clean outside [] known typed = tt
sound_elements insts whole k t clean outside (id ∷ ids) known typed =
    let known_both = and_parts (is_defined_before insts k id) (list_all (is_defined_before insts k) ids) known in
    let typed_both = and_parts (has_type insts t id) (list_all (has_type insts t) ids) typed in
    (sized_words insts whole k id t clean outside known_both.0 typed_both.0, sound_elements insts whole k t clean outside ids known_both.1 typed_both.1)

-- the words of all constituents are as many as a value of the composite's type has
pub sound_composite : (insts : List Instruction) → AreInstructions insts → (k t : ℕ) → Unbroken insts k → (declared_before insts k).begun ≡ false →
    IsBefore insts k t → (ids : List ℕ) → list_all (is_defined_before insts k) ids ≡ true →
    composite_fits insts (declared_before insts k) t ids ≡ true →
    length (composed (table_before insts k) ids) ≡ cells (type_at (table_before insts k) t)
sound_composite insts whole k t clean outside before ids known h =
    words-cells any_word (type_at (table_before insts k) t) (composed (table_before insts k) ids)
    (composite_suits any_word insts k t ids (sound_type insts whole k t clean outside before) (λ x b c. constant_holds any_word insts (any_setting insts whole) k x clean outside b c) known h)

-- ---- what the table has

-- whether a function begins among some instructions
begun-all : (all : List Statement) (d : Declared) (xs : List Instruction) → (declare_all all d xs).begun ≡ (d.begun || list_any is_function xs)
begun-all all d [] = or_nothing d.begun
  where
    or_nothing : (b : Bool) → b ≡ (b || false)
    or_nothing true = refl
    or_nothing false = refl
begun-all all d (x ∷ xs) = begun-all all (declare all d x) xs ∙ or_regroup d.begun (is_function x) (list_any is_function xs)
  where
    or_regroup : (a b c : Bool) → ((a || b) || c) ≡ (a || (b || c))
    or_regroup true b c = refl
    or_regroup false b c = refl

-- induction on the instructions
stands_outside : (insts : List Instruction) (k id : ℕ) (i : Instruction) → slice_get insts k ≡ Some i → list_any is_function (take k insts) ≡ false →
    is_function i ≡ false → list_any (defines id) (take k insts) ≡ false → defines id i ≡ true → is_outside insts id ≡ true
stands_outside [] k id i at plain no_function new here = cc
stands_outside (x ∷ xs) zero id i at plain no_function new here =
    let same : x ≡ i = cc in
    rw (same, no_function, here) refl
stands_outside (x ∷ xs) (suc k) id i at plain no_function new here =
    let functions = or_parts (is_function x) (list_any is_function (take k xs)) plain in
    let definitions = or_parts (defines id x) (list_any (defines id) (take k xs)) new in
    rw (functions.0, definitions.0) (stands_outside xs k id i at functions.1 no_function definitions.1 here)

no_function_at : (i : Instruction) (o : ℕ) → opcode i ≡ o → (o == op.FUNCTION) ≡ false → is_function i ≡ false
no_function_at i o is_o h = ap (λ (n : ℕ). n == op.FUNCTION) is_o ∙ h

undefined_outside : (insts : List Instruction) (k id : ℕ) (d : DefinedAt insts k id) → (declared_before insts d.place).begun ≡ false →
    opcode d.inst ≡ op.UNDEF → is_outside insts id ≡ true
undefined_outside insts k id d outside is_o =
    stands_outside insts d.place id d.inst d.at (sym (begun-all (says insts) nothing_declared (take d.place insts)) ∙ outside)
    (no_function_at d.inst op.UNDEF is_o refl) d.new d.defines_it

pub entry_is : (e : Option (ℕ × Meaning)) (m : Meaning) → meaning_in e ≡ Some m → (r : ℕ) × (e ≡ Some (r, m))
entry_is None m h = cc
entry_is (Some e) m h =
    let same : e.1 ≡ m = cc in
    (e.0, ap (λ (n : Meaning). Some (entry_at e.0 n)) same)
  where
    entry_at : ℕ → Meaning → ℕ × Meaning
    entry_at r n = (r, n)

-- an id that has a meaning is defined before, by an instruction that gives such a meaning
pub record Meant (insts : List Instruction) (k id : ℕ) (m : Meaning) : Type 0 where
  pub before : IsBefore insts k id
  pub d : DefinedAt insts k id
  pub outside : (declared_before insts d.place).begun ≡ false
  pub suits : suits_meaning (kind insts id) m ≡ true

meant_by : (insts : List Instruction) → AreInstructions insts → (k id : ℕ) (m : Meaning) → Unbroken insts k →
    (declared_before insts k).begun ≡ false → meaning (table_before insts k) id ≡ Some m → (known : Bool) → is_defined_before insts k id ≡ known →
    Meant insts k id m
meant_by insts whole k id m clean outside h false e =
    let none = no_meaning insts whole k id e in
    cc
meant_by insts whole k id m clean outside h true e =
    let d = defined_at insts k id e in
    let here = not_begun insts d.place k (omega (arith, d.before)) outside in
    let stands = entry_is (entry (says insts) (table_before insts d.place) d.inst) m (sym (meaning-at insts whole k id clean d here) ∙ h) in
    let given = entry-gives (says insts) (table_before insts d.place) d.inst stands.0 m (whole d.place d.inst d.at) stands.1 in
    record { before = e; d = d; outside = here; suits = ap (λ (o : ℕ). suits_meaning o m) (opcode-is insts k id d) ∙ given.suits }

pub meant : (insts : List Instruction) → AreInstructions insts → (k id : ℕ) (m : Meaning) → Unbroken insts k →
    (declared_before insts k).begun ≡ false → meaning (table_before insts k) id ≡ Some m → Meant insts k id m
meant insts whole k id m clean outside h = meant_by insts whole k id m clean outside h (is_defined_before insts k id) refl

-- the table has a constant only where the instruction is one
pub constant_only : (insts : List Instruction) → AreInstructions insts → (k id : ℕ) (t : DataType) (ws : List ℕ) → Unbroken insts k →
    (declared_before insts k).begun ≡ false → meaning (table_before insts k) id ≡ Some (IsConstant t ws) → is_constant insts id ≡ true
constant_only insts whole k id t ws clean outside h =
    let m = meant insts whole k id (IsConstant t ws) clean outside h in
    either (or_cases (is_one_of constants (kind insts id)) (kind insts id == op.UNDEF) m.suits)
    (λ undefined. undefined_outside insts k id m.d m.outside (sym (opcode-is insts k id m.d) ∙ eqb-true (kind insts id) op.UNDEF undefined))
  where
    either : (is_one_of constants (kind insts id) ≡ true) ⊎ ((kind insts id == op.UNDEF) ≡ true) →
        ((kind insts id == op.UNDEF) ≡ true → is_outside insts id ≡ true) → is_constant insts id ≡ true
    either (inl h) f = or_left (is_one_of constants (kind insts id)) (kind insts id == op.UNDEF && is_outside insts id) h
    either (inr h) f = or_right (is_one_of constants (kind insts id)) (kind insts id == op.UNDEF && is_outside insts id) (rw (h, f h) refl)

-- and a data type or a runtime array only where the instruction is one
pub type_only : (insts : List Instruction) → AreInstructions insts → (k id : ℕ) (t : DataType) → Unbroken insts k →
    (declared_before insts k).begun ≡ false → meaning (table_before insts k) id ≡ Some (IsType t) →
    (is_data insts id || is_runtime_array insts id) ≡ true
type_only insts whole k id t clean outside h = (meant insts whole k id (IsType t) clean outside h).suits

-- the other way
pub record StandsForType (table : Table) (id : ℕ) : Type 0 where
  pub type : DataType
  pub is : meaning table id ≡ Some (IsType type)

type_of_kind : (insts : List Instruction) (table : Table) (id : ℕ) → IsSoundType insts table id →
    AllOf (λ o. (kind insts id == o) ≡ true → StandsForType table id) data_types
type_of_kind insts table id sound = (
  λ h. record { type = _; is = sound.boolean h },
  (
    λ h. record { type = _; is = sound.integer h },
    (
      λ h. record { type = _; is = sound.vector h },
      (
        λ h. record { type = _; is = (sound.array h).1 },
        (λ h. record { type = _; is = sound.struct h }, tt),
      ),
    ),
  ),
)

pub type_stands : (insts : List Instruction) → AreInstructions insts → (k id : ℕ) → Unbroken insts k → (declared_before insts k).begun ≡ false →
    IsBefore insts k id → (is_data insts id || is_runtime_array insts id) ≡ true → StandsForType (table_before insts k) id
type_stands insts whole k id clean outside before h =
    let sound = sound_type insts whole k id clean outside before in
    either sound (or_cases (is_data insts id) (is_runtime_array insts id) h)
  where
    either : IsSoundType insts (table_before insts k) id → (is_data insts id ≡ true) ⊎ (is_runtime_array insts id ≡ true) →
        StandsForType (table_before insts k) id
    either sound (inl data_type) = one_of-holds (λ o. (kind insts id == o) ≡ true → StandsForType (table_before insts k) id) data_types (type_of_kind insts (table_before insts k) id sound) (kind insts id) data_type (eq-eqb (kind insts id) (kind insts id) refl)
    either sound (inr runtime) = record { type = _; is = (sound.runtime_array runtime).1 }
