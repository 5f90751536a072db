-- What is kept of one declaration more stands for it, and then all that is kept stands for all that is declared.
use Rattle.std.proofs.Common.{◌≡◌, ℕ, zero, suc, ◌+◌, ◌<◌, Bool, true, false, cond, not, ◌==◌, ◌&&◌, ◌||◌, nat_eq, List, [], ◌∷◌, ◌++◌, length, drop, slice_get, Option, Some, None, Ok, Err, ◌⊎◌, inl, inr, refl, sym, ap, subst, ◌∙◌, arith}
use Rattle.std.specs.List.{list_any, slice_index}
use Rattle.std.specs.Map.{lookup}
use Rattle.std.specs.Option.{option_map}
use Rattle.std.proofs.lemmas.Bool.{eqb-true, eq-eqb, and_parts, or_cases, or_right}
use Rattle.std.proofs.lemmas.Option.{none-some, slice_get_within}
use Rattle.spv_base.specs.declared.fault.Fault.{Fault}
use Rattle.spv_base.specs.declared.fault.Fault.TheVariants as faults
use Rattle.spv_opcodes.specs.declared.op.TheConstants as op
use Rattle.spv_opcodes.specs.declared.storage_class.TheConstants as storage_class
use Rattle.spv_grammar.specs.declared.kind.Kind.TheVariants.{ResultId, Id}
use Rattle.spv_grammar.specs.Table.{row_of, in_section}
use Rattle.spv_module.specs.Code.{is_function}
use Rattle.spv_module.specs.Instruction.{Instruction, opcode, roles}
use Rattle.spv_meaning.specs.Constants.{Table, Meaning, IsType, IsPointer, IsConstant, IsVariable, meaning, words_in, pointer_at, initial}
use Rattle.spv_meaning.specs.Statements.{Statement}
use Rattle.spv_meaning.specs.Types.{DataType, Void, cells}
use Rattle.spv_ids.specs.Ids.{is_defined_before, is_unknown, is_declaration, used_ids}
use Rattle.spv_typing.specs.Kinds.{is_one_of, is_constant, is_closed, is_int, type_of, data_types, constants}
use Rattle.spv_typing.specs.Types.{type_fits}
use Rattle.spv_declarations.specs.Declarations.{Declared, declared_before, declare, says, entry, is_specialised}
use Rattle.spv_declarations.specs.Broken.{rules_at, depth_fits}
use Rattle.spv_declarations.specs.Sound.{AreInstructions, IsBefore, table_before}
use Rattle.spv_declarations.proofs.Consequences.{sound_length, sound_constant, sound_booleans, constant_only}
use Rattle.spv_declarations.proofs.Declares.{IsNew, one_of-holds, declares_new, declares_constant}
use Rattle.spv_declarations.proofs.Defining.{suits_meaning, entry-by, entry-gives}
use Rattle.spv_declarations.proofs.Naming.{known_all, third-known}
use Rattle.spv_declarations.proofs.Parts.{plain-parts}
use Rattle.spv_declarations.proofs.Sites.{index-on}
use Rattle.spv_declarations.proofs.Tables.{declared-more, lookup-own, no_meaning}
use Rattle.spv_types.specs.declared.meaning.Constant.{Constant}
use Rattle.spv_types.specs.declared.meaning.Kept.{Kept}
use Rattle.spv_types.specs.declared.meaning.Kept.TheVariants as kept
use Rattle.spv_types.specs.Declaring.{OnlyConstants, AreSound}
use Rattle.spv_types.specs.Entries.{AreKept, KeepsOne, Declares, depth_holds}
use Rattle.spv_types.specs.Extracting.{AreComposed, ArePartsOf, IsPart, HasNumbers, part_types}
use Rattle.spv_types.specs.Meanings.{StandsFor, StandFrom, constant_of_kept, second}
use Rattle.spv_types.specs.Steps.{IsNext, IsLength, KeepsType, KeepsConstant, type_opcodes, constant_opcodes}
use Rattle.spv_types.proofs.Reading.{unbroken_more}
use Rattle.spv_types.proofs.Standing.{IsValue-more, SameFlags-same, SameFlags-new, StandFor-push, StandFor-none}

-- ---- types

-- the length of an array type is known in front of it
length_before : (insts : List Instruction) (k : ℕ) (i : Instruction) → IsNext insts k i → opcode i ≡ op.TYPE_ARRAY → IsBefore insts k (slice_index i.words 3)
unfolding row_of
length_before insts k i next is_o =
    let whole = next.instructions k i next.at in
    let declares : is_declaration false i ≡ true = rw is_o refl in
    let known = known_all insts k (used_ids i) (sym (ap (λ (b : Bool). list_any (is_unknown insts b k) (used_ids i)) declares) ∙ next.known) in
    third-known (is_defined_before insts k) [] i.words (roles i)
    (plain-parts op.TYPE_ARRAY (in_section 10 (ResultId ∷ Id ∷ Id ∷ [])) (Id ∷ Id ∷ []) i.words (roles i) refl refl refl is_o whole.parted) known

length_is : (insts : List Instruction) (k : ℕ) (i : Instruction) → IsNext insts k i → opcode i ≡ op.TYPE_ARRAY → IsLength insts (table_before insts k) (slice_index i.words 3)
unfolding type_fits
length_is insts k i next is_o =
    let len = slice_index i.words 3 in
    let rule : (is_closed insts (slice_index i.words 2) && (is_constant insts len && is_int insts (type_of insts len))) ≡ true = rw is_o at next.type in
    let fits = and_parts (is_closed insts (slice_index i.words 2)) (is_constant insts len && is_int insts (type_of insts len)) rule in
    let both = and_parts (is_constant insts len) (is_int insts (type_of insts len)) fits.1 in
    sound_length insts next.instructions k len next.unbroken next.outside (length_before insts k i next is_o) both.0 both.1

constant_listed : (o : ℕ) (t : DataType) (words : List ℕ) → suits_meaning o (IsConstant t words) ≡ true → is_one_of constant_opcodes o ≡ true
constant_listed o t words suits = listed (or_cases _ _ suits)
  where
    listed : (is_one_of constants o ≡ true) ⊎ ((o == op.UNDEF) ≡ true) → is_one_of constant_opcodes o ≡ true
    listed (inl h) = one_of-holds (λ n. is_one_of constant_opcodes n ≡ true) constants (refl, (refl, (refl, (refl, (refl, (refl, (refl, (refl, (refl, (refl, tt)))))))))) o h
    listed (inr h) = ap (is_one_of constant_opcodes) (eqb-true o op.UNDEF h)

clash : (b : Bool) → b ≡ true → b ≡ false → ⊥
clash true t f = cc
clash false t f = cc

-- a type gets no constant's meaning
no_constant : (o : ℕ) (m : Meaning) (t : DataType) (words : List ℕ) → is_one_of type_opcodes o ≡ true → suits_meaning o m ≡ true → m ≡ IsConstant t words → ⊥
no_constant o m t words listed suits is =
    clash (is_one_of constant_opcodes o) (constant_listed o t words (subst (λ (m : Meaning). suits_meaning o m ≡ true) is suits))
    (one_of-holds (λ n. is_one_of constant_opcodes n ≡ false) type_opcodes (refl, (refl, (refl, (refl, (refl, (refl, (refl, tt))))))) o listed)

pub type_one : (insts : List Instruction) (k : ℕ) (i : Instruction) (k1 : Kept) → IsNext insts k i → is_one_of type_opcodes (opcode i) ≡ true → KeepsType insts (table_before insts k) i k1 →
    KeepsOne insts (declared_before insts k) i (slice_index i.words 1) k1
type_one insts k i k1 next listed keeps =
    let m = keeps.stands (length_is insts k i next) in
    record {
      meaning = m.0;
      declares = m.1;
      stands = λ more ids same. m.2 (table_before insts k ++ more) ids (length (table_before insts k));
      parts = λ t words c numbers is constant has.
          absurd (no_constant (opcode i) m.0 t words listed (entry-gives (says insts) (table_before insts k) i _ m.0 (next.instructions k i next.at) m.1).suits is);
    }

-- ---- constants

pub sound_before : (insts : List Instruction) (k : ℕ) (i : Instruction) → IsNext insts k i → AreSound insts k
sound_before insts k i next =
    record {
      constants = λ id before is. sound_constant insts next.instructions k id next.unbroken next.outside before is;
      booleans = λ id s before is shaped boolean.
          let sound = sound_constant insts next.instructions k id next.unbroken next.outside before is in
          let words = sound_booleans insts next.instructions k id next.unbroken next.outside before is s shaped boolean _ sound.words sound.stands in
          rw sound.stands words;
    }

abbrev constant_type : Meaning → DataType
constant_type (IsConstant t words) = t
constant_type m = Void

abbrev type_in_constant : Option Meaning → DataType
type_in_constant (Some m) = constant_type m
type_in_constant None = Void

abbrev constant_or : Constant → Option Constant → Constant
constant_or c None = c
constant_or c (Some c1) = c1

pub constant_one : (insts : List Instruction) (k : ℕ) (i : Instruction) (c : Constant) → KeepsConstant insts (declared_before insts k) i c →
    KeepsOne insts (declared_before insts k) i (slice_index i.words 2) (kept.Constant c)
constant_one insts k i c keeps =
    let table = table_before insts k in
    record {
      meaning = IsConstant keeps.type keeps.words;
      declares = keeps.stands;
      stands = λ more ids same. (IsValue-more table more (length table) c.value keeps.type keeps.words (omega arith) keeps.value, (keeps.cells, keeps.flag ∙ sym same));
      parts = λ t words c1 numbers is constant has.
          subst (λ (t : DataType). ArePartsOf table (part_types t) numbers) (ap constant_type is)
          (keeps.parts numbers (subst (λ (c : Constant). HasNumbers c.value numbers) (sym (ap (constant_or c) constant)) has));
    }

-- ---- variables

-- what OpVariable says of a variable of such a class
variable_entry : (all : List Statement) (table : Table) (i : Instruction) (b : Bool) → opcode i ≡ op.VARIABLE → (slice_index i.words 3 == storage_class.FUNCTION) ≡ b →
    entry all table i ≡ option_map (λ (m : Meaning). (slice_index (drop 1 i.words) 1, m))
    (cond b None (Some (IsVariable (slice_index (drop 1 i.words) 2) (pointer_at table (slice_index (drop 1 i.words) 0)).1 (initial table (pointer_at table (slice_index (drop 1 i.words) 0)).1 (drop 3 (drop 1 i.words))))))
variable_entry all table i b is_o e =
    let own : (slice_index (drop 1 i.words) 2 == storage_class.FUNCTION) ≡ b = ap (λ (n : ℕ). n == storage_class.FUNCTION) (index-on i.words 2) ∙ e in
    let target = (pointer_at table (slice_index (drop 1 i.words) 0)).1 in
    entry-by all table i op.VARIABLE is_o refl
    ∙ ap (λ (c : Bool). option_map (λ (m : Meaning). (slice_index (drop 1 i.words) 1, m)) (cond c None (Some (IsVariable (slice_index (drop 1 i.words) 2) target (initial table target (drop 3 (drop 1 i.words))))))) own

pub variable_one : (insts : List Instruction) (k : ℕ) (i : Instruction) → opcode i ≡ op.VARIABLE → (slice_index i.words 3 == storage_class.FUNCTION) ≡ false →
    KeepsOne insts (declared_before insts k) i (slice_index i.words 2) kept.Variable
variable_one insts k i is_o plain =
    let table = table_before insts k in
    let ws = drop 1 i.words in
    let m : Meaning = IsVariable (slice_index ws 2) (pointer_at table (slice_index ws 0)).1 (initial table (pointer_at table (slice_index ws 0)).1 (drop 3 ws)) in
    record {
      meaning = m;
      declares = variable_entry (says insts) table i false is_o plain ∙ ap (λ (r : ℕ). Some (entry_at r m)) (index-on i.words 1);
      stands = λ more ids same. tt;
      parts = λ t words c numbers is constant has. absurd (none-some c (constant));
    }
  where
    entry_at : ℕ → Meaning → ℕ × Meaning
    entry_at r m = (r, m)

-- ---- everything else

none_suits : (all : List Statement) (table : Table) (i : Instruction) (r : ℕ) (m : Meaning) → entry all table i ≡ Some (r, m) → suits_meaning (opcode i) m ≡ true →
    is_one_of type_opcodes (opcode i) ≡ false → is_one_of constant_opcodes (opcode i) ≡ false → (opcode i == op.VARIABLE && not (slice_index i.words 3 == storage_class.FUNCTION)) ≡ false → ⊥
none_suits all table i r (IsType t) e suits no_type no_constant no_variable = clash (is_one_of type_opcodes (opcode i)) (listed (or_cases _ _ suits)) no_type
  where
    listed : (is_one_of data_types (opcode i) ≡ true) ⊎ ((opcode i == op.TYPE_RUNTIME_ARRAY) ≡ true) → is_one_of type_opcodes (opcode i) ≡ true
    listed (inl h) = one_of-holds (λ n. is_one_of type_opcodes n ≡ true) data_types (refl, (refl, (refl, (refl, (refl, tt))))) (opcode i) h
    listed (inr h) = ap (is_one_of type_opcodes) (eqb-true (opcode i) op.TYPE_RUNTIME_ARRAY h)
none_suits all table i r (IsPointer class t) e suits no_type no_constant no_variable =
    clash (is_one_of type_opcodes (opcode i)) (ap (is_one_of type_opcodes) (eqb-true (opcode i) op.TYPE_POINTER suits)) no_type
none_suits all table i r (IsConstant t words) e suits no_type no_constant no_variable = clash (is_one_of constant_opcodes (opcode i)) (constant_listed (opcode i) t words suits) no_constant
none_suits all table i r (IsVariable class t words) e suits no_type no_constant no_variable =
    let is_o = eqb-true (opcode i) op.VARIABLE suits in
    by (slice_index i.words 3 == storage_class.FUNCTION) refl is_o
  where
    by : (b : Bool) → (slice_index i.words 3 == storage_class.FUNCTION) ≡ b → opcode i ≡ op.VARIABLE → ⊥
    by true is is_o = none-some (r, IsVariable class t words) (sym (variable_entry all table i true is_o is) ∙ e)
    by false is is_o = clash (opcode i == op.VARIABLE && not (slice_index i.words 3 == storage_class.FUNCTION)) (rw (is, suits) refl) no_variable

pub none_one : (insts : List Instruction) (k : ℕ) (i : Instruction) → IsNext insts k i → is_one_of type_opcodes (opcode i) ≡ false → is_one_of constant_opcodes (opcode i) ≡ false →
    (opcode i == op.VARIABLE && not (slice_index i.words 3 == storage_class.FUNCTION)) ≡ false → entry (says insts) (table_before insts k) i ≡ None
none_one insts k i next no_type no_constant no_variable = by (entry (says insts) (table_before insts k) i) refl
  where
    by : (e : Option (ℕ × Meaning)) → entry (says insts) (table_before insts k) i ≡ e → e ≡ None
    by None is = refl
    by (Some (r, m)) is =
        absurd (none_suits (says insts) (table_before insts k) i r m is (entry-gives (says insts) (table_before insts k) i r m (next.instructions k i next.at) is).suits no_type no_constant no_variable)

-- ---- behind it

append_found : (table more : Table) (id : ℕ) (m : Meaning) → lookup (nat_eq id) table ≡ Some m → lookup (nat_eq id) (table ++ more) ≡ Some m
append_found [] more id m h = cc
append_found (e ∷ es) more id m h = by (nat_eq id e.0) h (append_found es more id m)
  where
    by : (b : Bool) → cond b (Some e.1) (lookup (nat_eq id) es) ≡ Some m → (lookup (nat_eq id) es ≡ Some m → lookup (nat_eq id) (es ++ more) ≡ Some m) →
        cond b (Some e.1) (lookup (nat_eq id) (es ++ more)) ≡ Some m
    by true h f = h
    by false h f = f h

-- an id among some and one more is that or among them
one_of_more : (ids : List ℕ) (r id : ℕ) → is_one_of (ids ++ r ∷ []) id ≡ true → (is_one_of ids id ≡ true) ⊎ (id ≡ r)
one_of_more [] r id h = inr (eqb-true id r (last (nat_eq id r) h))
  where
    last : (b : Bool) → (b || false) ≡ true → b ≡ true
    last true h = refl
    last false h = h
one_of_more (x ∷ xs) r id h = by (nat_eq id x) h (one_of_more xs r id)
  where
    by : (b : Bool) → (b || is_one_of (xs ++ r ∷ []) id) ≡ true → (is_one_of (xs ++ r ∷ []) id ≡ true → (is_one_of xs id ≡ true) ⊎ (id ≡ r)) →
        ((b || is_one_of xs id) ≡ true) ⊎ (id ≡ r)
    by true h f = inl refl
    by false h f = f h

own_of_more : (ids : List ℕ) (r : ℕ) → is_one_of (ids ++ r ∷ []) r ≡ true
own_of_more [] r = rw (eq-eqb r r refl) refl
own_of_more (x ∷ xs) r = or_right (nat_eq r x) (is_one_of (xs ++ r ∷ []) r) (own_of_more xs r)

abbrev entry_id : Option (ℕ × Meaning) → ℕ
entry_id None = 0
entry_id (Some e) = e.0

abbrev entry_meaning : Meaning → Option (ℕ × Meaning) → Meaning
entry_meaning m None = m
entry_meaning m (Some e) = e.1

-- what entries stand for are as many
StandFrom-length : (table : Table) (ids : List ℕ) (n : ℕ) (ks : List (ℕ × Kept)) (ts : Table) → StandFrom table ids n ks ts → length ks ≡ length ts
StandFrom-length table ids n [] [] h = refl
StandFrom-length table ids n [] (t ∷ ts) h = absurd h
StandFrom-length table ids n (k ∷ ks) [] h = absurd h
StandFrom-length table ids n (k ∷ ks) (t ∷ ts) h = ap suc (StandFrom-length table ids (suc n) ks ts h.1.1)

found_front : {X : Type 0} (xs more : List X) (n : ℕ) (x : X) → slice_get xs n ≡ Some x → slice_get (xs ++ more) n ≡ Some x
found_front [] more n x h = absurd (none-some x h)
found_front (y ∷ ys) more zero x h = h
found_front (y ∷ ys) more (suc n) x h = found_front ys more n x h

found_below : {X : Type 0} (xs more : List X) (n : ℕ) → n < length xs → slice_get (xs ++ more) n ≡ slice_get xs n
found_below [] more n h = absurd (omega (arith, h))
found_below (y ∷ ys) more zero h = refl
found_below (y ∷ ys) more (suc n) h = found_below ys more n (omega (arith, h))

found_last : {X : Type 0} (xs : List X) (y : X) → slice_get (xs ++ y ∷ []) (length xs) ≡ Some y
found_last [] y = refl
found_last (x ∷ xs) y = found_last xs y

found_either : {X : Type 0} (xs : List X) (y : X) (n : ℕ) (x : X) → slice_get (xs ++ y ∷ []) n ≡ Some x → (slice_get xs n ≡ Some x) ⊎ ((n ≡ length xs) × (Some y ≡ Some x))
found_either [] y zero x h = inr (refl, h)
found_either [] y (suc n) x h = absurd (none-some x h)
found_either (z ∷ zs) y zero x h = inl h
found_either (z ∷ zs) y (suc n) x h = by (found_either zs y n x h)
  where
    by : (slice_get zs n ≡ Some x) ⊎ ((n ≡ length zs) × (Some y ≡ Some x)) → (slice_get zs n ≡ Some x) ⊎ ((suc n ≡ suc (length zs)) × (Some y ≡ Some x))
    by (inl e) = inl e
    by (inr e) = inr (ap suc e.0, e.1)

part-more : (table more : Table) (t : DataType) (n : ℕ) → IsPart table t n → IsPart (table ++ more) t n
part-more table more t n p = record { id = p.id; words = p.words; stands = found_front table more n (p.id, IsConstant t p.words) p.stands; sized = p.sized }

parts-more : (table more : Table) (ts : List DataType) (ns : List ℕ) → ArePartsOf table ts ns → ArePartsOf (table ++ more) ts ns
parts-more table more [] [] h = tt
parts-more table more [] (n ∷ ns) h = h
parts-more table more (t ∷ ts) [] h = h
parts-more table more (t ∷ ts) (n ∷ ns) h = (part-more table more t n h.0, parts-more table more ts ns h.1)

-- a table and ids with one entry more
abbrev AreKeptIn : (table : Table) (ids : List ℕ) → List (ℕ × Kept) → Type 0
AreKeptIn table ids entries = (begun : Bool) → AreKept (record { begun = begun; table = table; specialised = ids }) entries

-- what is declared, where it is a constant, has as many words as its type
abbrev IsSized : Meaning → Type 0
IsSized m = (t : DataType) (words : List ℕ) → m ≡ IsConstant t words → length words ≡ cells t

-- an entry of the table, or the one behind it
abbrev IsIn : Table → (last : ℕ × Meaning) → (n : ℕ) → ℕ × Meaning → Type 0
IsIn table last n e = (slice_get table n ≡ Some e) ⊎ ((n ≡ length table) × (Some last ≡ Some e))

composed-more : (insts : List Instruction) (d : Declared) (i : Instruction) (r : ℕ) (k : Kept) (entries : List (ℕ × Kept)) → (one : KeepsOne insts d i r k) → AreKept d entries → IsSized one.meaning →
    AreComposed (d.table ++ (r, one.meaning) ∷ []) (entries ++ (r, k) ∷ [])
composed-more insts d i r k entries one are sized =
    let more : Table = (r, one.meaning) ∷ [] in
    record {
      sized = λ n id t words at. by_words id t words (found_either d.table (r, one.meaning) n (id, IsConstant t words) at);
      parts = λ n id t words c numbers at constant has. parts-more d.table more (part_types t) numbers (by_parts n id t words c numbers (found_either d.table (r, one.meaning) n (id, IsConstant t words) at) constant has);
    }
  where
    as_many : length entries ≡ length d.table
    as_many = StandFrom-length d.table d.specialised 0 entries d.table are.stand

    by_words : {n : ℕ} (id : ℕ) (t : DataType) (words : List ℕ) → IsIn d.table (r, one.meaning) n (id, IsConstant t words) → length words ≡ cells t
    by_words {n} id t words (inl h) = are.composed.sized n id t words h
    by_words id t words (inr h) = sized t words (ap (entry_meaning one.meaning) h.1)

    by_parts : (n id : ℕ) (t : DataType) (words : List ℕ) (c : Constant) (numbers : List ℕ) →
        IsIn d.table (r, one.meaning) n (id, IsConstant t words) →
        constant_of_kept (second (slice_get (entries ++ (r, k) ∷ []) n)) ≡ Some c → HasNumbers c.value numbers → ArePartsOf d.table (part_types t) numbers
    by_parts n id t words c numbers (inl h) constant has =
        let below : n < length entries = omega (arith, slice_get_within d.table n (id, IsConstant t words) h, as_many) in
        are.composed.parts n id t words c numbers h (sym (ap (λ (o : Option (ℕ × Kept)). constant_of_kept (second o)) (found_below entries ((r, k) ∷ []) n below)) ∙ constant) has
    by_parts n id t words c numbers (inr h) constant has =
        let own : slice_get (entries ++ (r, k) ∷ []) n ≡ Some (r, k) = ap (slice_get (entries ++ (r, k) ∷ [])) (h.0 ∙ sym as_many) ∙ found_last entries (r, k) in
        one.parts t words c numbers (ap (entry_meaning one.meaning) h.1) (sym (ap (λ (o : Option (ℕ × Kept)). constant_of_kept (second o)) own) ∙ constant) has

known_more : (d : Declared) (r : ℕ) (m : Meaning) → OnlyConstants d → (id : ℕ) → is_one_of d.specialised id ≡ true →
    (t : DataType) × (words : List ℕ) × (meaning (d.table ++ (r, m) ∷ []) id ≡ Some (IsConstant t words))
known_more d r m only id h =
    let is = only.at id h in
    (is.0, is.1, append_found d.table ((r, m) ∷ []) id (IsConstant is.0 is.1) is.2)

-- what is declared is Known
more_known : (insts : List Instruction) (d : Declared) (i : Instruction) (r : ℕ) (k : Kept) (entries : List (ℕ × Kept)) → (one : KeepsOne insts d i r k) → AreKept d entries → IsSized one.meaning →
    is_one_of d.specialised r ≡ false → is_specialised (says insts) d.specialised i ≡ false → AreKeptIn (d.table ++ (r, one.meaning) ∷ []) d.specialised (entries ++ (r, k) ∷ [])
more_known insts d i r k entries one are sized new plain begun =
    record {
      stand = StandFor-push d.table d.specialised d.specialised r k one.meaning entries are.stand (SameFlags-same d.specialised d.table) (one.stands ((r, one.meaning) ∷ []) d.specialised (new ∙ sym plain));
      only = record { at = known_more d r one.meaning are.only };
      composed = composed-more insts d i r k entries one are sized;
    }

-- it is Specialised
more_specialised : (insts : List Instruction) (d : Declared) (i : Instruction) (r : ℕ) (k : Kept) (entries : List (ℕ × Kept)) → (one : KeepsOne insts d i r k) → AreKept d entries → IsSized one.meaning →
    meaning d.table r ≡ None → is_specialised (says insts) d.specialised i ≡ true → (t : DataType) (words : List ℕ) → one.meaning ≡ IsConstant t words →
    AreKeptIn (d.table ++ (r, one.meaning) ∷ []) (d.specialised ++ r ∷ []) (entries ++ (r, k) ∷ [])
more_specialised insts d i r k entries one are sized new special t words is begun =
    record {
      stand =
          StandFor-push d.table d.specialised (d.specialised ++ r ∷ []) r k one.meaning entries are.stand (SameFlags-new d.specialised r d.table new)
          (one.stands ((r, one.meaning) ∷ []) (d.specialised ++ r ∷ []) (own_of_more d.specialised r ∙ sym special));
      only = record { at = λ id h. by id (one_of_more d.specialised r id h) };
      composed = composed-more insts d i r k entries one are sized;
    }
  where
    by : (id : ℕ) → (is_one_of d.specialised id ≡ true) ⊎ (id ≡ r) → (t : DataType) × (words : List ℕ) × (meaning (d.table ++ (r, one.meaning) ∷ []) id ≡ Some (IsConstant t words))
    by id (inl h) = known_more d r one.meaning are.only id h
    by id (inr h) =
        (t, words, ap (λ (n : ℕ). meaning (d.table ++ (r, one.meaning) ∷ []) n) h ∙ lookup-own d.table r one.meaning new ∙ ap Some is)

no_function : (insts : List Instruction) (table : Table) (i : Instruction) (r : ℕ) (m : Meaning) → entry (says insts) table i ≡ Some (r, m) → is_function i ≡ false
no_function insts table i r m e = by (is_function i) refl
  where
    by : (b : Bool) → is_function i ≡ b → b ≡ false
    by false is = refl
    by true is = absurd (none-some (r, m) (sym (entry-by (says insts) table i op.FUNCTION (eqb-true (opcode i) op.FUNCTION is) refl) ∙ e))

-- a constant that the k-th declares has as many words as its type
sized_behind : (insts : List Instruction) (k : ℕ) (i : Instruction) (r : ℕ) (m : Meaning) → IsNext insts k i → rules_at insts (declared_before insts k) k i ≡ [] →
    entry (says insts) (table_before insts k) i ≡ Some (r, m) → IsSized m
sized_behind insts k i r m next clean declares t words is =
    let whole = next.instructions in
    let e : suc k ≡ k + 1 = omega arith in
    let more : declared_before insts (k + 1) ≡ declare (says insts) (declared_before insts k) i = sym (ap (declared_before insts) e) ∙ declared-more insts k i next.at in
    let unbroken = unbroken_more insts k i next.unbroken next.at clean in
    let outside : (declared_before insts (k + 1)).begun ≡ false = ap (λ (d : Declared). d.begun) more ∙ rw (next.outside, no_function insts (table_before insts k) i r m declares) refl in
    let new = declares_new insts whole k i r m next.at clean declares in
    let table : table_before insts (k + 1) ≡ table_before insts k ++ (r, m) ∷ [] = ap (λ (d : Declared). d.table) more ∙ rw (next.outside, declares) refl in
    let stands : meaning (table_before insts (k + 1)) r ≡ Some (IsConstant t words) = ap (λ (table : Table). meaning table r) table ∙ lookup-own (table_before insts k) r m new.unknown ∙ ap Some is in
    let before = defined_before insts whole (k + 1) r (IsConstant t words) stands (is_defined_before insts (k + 1) r) refl in
    let sound = sound_constant insts whole (k + 1) r unbroken outside before (constant_only insts whole (k + 1) r t words unbroken outside stands) in
    let same : Some (IsConstant t words) ≡ Some (IsConstant _ sound.words) = sym stands ∙ sound.stands in
    ap (λ (o : Option Meaning). length (words_in o)) same ∙ sound.sized ∙ sym (ap (λ (o : Option Meaning). cells (type_in_constant o)) same)
  where
    defined_before : (insts : List Instruction) → AreInstructions insts → (k id : ℕ) (m : Meaning) → meaning (table_before insts k) id ≡ Some m → (b : Bool) → is_defined_before insts k id ≡ b → b ≡ true
    defined_before insts whole k id m stands true is = refl
    defined_before insts whole k id m stands false is = absurd (none-some m (sym (no_meaning insts whole k id is) ∙ stands))

-- the k-th declares something
pub kept-more : (insts : List Instruction) (k : ℕ) (i : Instruction) (r : ℕ) (k1 : Kept) (entries : List (ℕ × Kept)) → IsNext insts k i → rules_at insts (declared_before insts k) k i ≡ [] →
    AreKept (declared_before insts k) entries → KeepsOne insts (declared_before insts k) i r k1 → AreKept (declared_before insts (k + 1)) (entries ++ (r, k1) ∷ [])
kept-more insts k i r k1 entries next clean are one =
    let d = declared_before insts k in
    let e : suc k ≡ k + 1 = omega arith in
    subst (λ (d : Declared). AreKept d (entries ++ (r, k1) ∷ [])) (sym (declared-more insts k i next.at) ∙ ap (declared_before insts) e)
    (behind d next.outside one.declares (by (is_specialised (says insts) d.specialised i) refl))
  where
    sized : IsSized one.meaning
    sized = sized_behind insts k i r one.meaning next clean one.declares

    new : IsNew (declared_before insts k) r
    new = declares_new insts next.instructions k i r one.meaning next.at clean one.declares

    behind : (d : Declared) → d.begun ≡ false → entry (says insts) d.table i ≡ Some (r, one.meaning) →
        AreKeptIn (d.table ++ (r, one.meaning) ∷ []) (cond (is_specialised (says insts) d.specialised i) (d.specialised ++ slice_index i.words 2 ∷ []) d.specialised) (entries ++ (r, k1) ∷ []) →
        AreKept (declare (says insts) d i) (entries ++ (r, k1) ∷ [])
    behind d outside is h = rw (outside, is) (h (false || is_function i))

    by : (b : Bool) → is_specialised (says insts) (declared_before insts k).specialised i ≡ b →
        AreKeptIn (table_before insts k ++ (r, one.meaning) ∷ []) (cond b ((declared_before insts k).specialised ++ slice_index i.words 2 ∷ []) (declared_before insts k).specialised) (entries ++ (r, k1) ∷ [])
    by false plain = more_known insts (declared_before insts k) i r k1 entries one are sized new.not_specialised plain
    by true special =
        let c = declares_constant insts next.instructions k i next.at clean special in
        let same : Some (slice_index i.words 2, IsConstant c.type c.words) ≡ Some (r, one.meaning) = sym c.stands ∙ one.declares in
        subst (λ (n : ℕ). AreKeptIn (table_before insts k ++ (r, one.meaning) ∷ []) ((declared_before insts k).specialised ++ n ∷ []) (entries ++ (r, k1) ∷ [])) (sym (ap entry_id same))
        (more_specialised insts (declared_before insts k) i r k1 entries one are sized new.unknown special c.type c.words (sym (ap (entry_meaning one.meaning) same)))

-- the k-th declares nothing
pub kept-same : (insts : List Instruction) (k : ℕ) (i : Instruction) (entries : List (ℕ × Kept)) → slice_get insts k ≡ Some i → ((declared_before insts k).begun ≡ false → entry (says insts) (table_before insts k) i ≡ None) →
    ((declared_before insts k).begun ≡ false → is_specialised (says insts) (declared_before insts k).specialised i ≡ false) →
    AreKept (declared_before insts k) entries → AreKept (declared_before insts (k + 1)) entries
kept-same insts k i entries at none plain are =
    let e : suc k ≡ k + 1 = omega arith in
    subst (λ (d : Declared). AreKept d entries) (sym (declared-more insts k i at) ∙ ap (declared_before insts) e)
    (by (declared_before insts k) (declared_before insts k).begun refl none plain are)
  where
    by : (d : Declared) (b : Bool) → d.begun ≡ b → (d.begun ≡ false → entry (says insts) d.table i ≡ None) → (d.begun ≡ false → is_specialised (says insts) d.specialised i ≡ false) →
        AreKept d entries → AreKept (declare (says insts) d i) entries
    by d true begun none plain are = rw begun (record { stand = are.stand; only = record { at = are.only.at }; composed = are.composed })
    by d false outside none plain are = rw (outside, none outside, plain outside) (record { stand = are.stand; only = record { at = are.only.at }; composed = are.composed })

-- ---- what keeping comes to

none_known : (insts : List Instruction) (k : ℕ) (i : Instruction) → IsNext insts k i → rules_at insts (declared_before insts k) k i ≡ [] → entry (says insts) (table_before insts k) i ≡ None →
    is_specialised (says insts) (declared_before insts k).specialised i ≡ false
none_known insts k i next clean none = by (is_specialised (says insts) (declared_before insts k).specialised i) refl
  where
    by : (b : Bool) → is_specialised (says insts) (declared_before insts k).specialised i ≡ b → b ≡ false
    by false e = refl
    by true e =
        let c = declares_constant insts next.instructions k i next.at clean e in
        absurd (none-some (slice_index i.words 2, IsConstant c.type c.words) (sym none ∙ c.stands))

pub nothing-declared : (insts : List Instruction) (k : ℕ) (i : Instruction) (entries : List (ℕ × Kept)) → IsNext insts k i → entry (says insts) (table_before insts k) i ≡ None →
    AreKept (declared_before insts k) entries → Declares insts k i entries (Ok tt)
nothing-declared insts k i entries next none are =
    (ap depth_fits none, λ clean. kept-same insts k i entries next.at (λ outside. none) (λ outside. none_known insts k i next clean none) are)

-- some ids among which it is, or is not
flagged : (r : ℕ) (b : Bool) → (ids : List ℕ) × (is_one_of ids r ≡ b)
flagged r true = (r ∷ [], own_of_more [] r)
flagged r false = ([], refl)

abbrev TellsDepth : Kept → Bool → Type 0
TellsDepth k1 b = (table : Table) (ids : List ℕ) (n r : ℕ) (m : Meaning) → StandsFor table ids n r k1 m → b ≡ depth_fits (Some (r, m))

depth_told : (insts : List Instruction) (k : ℕ) (i : Instruction) (r : ℕ) (k1 : Kept) (b : Bool) → KeepsOne insts (declared_before insts k) i r k1 → TellsDepth k1 b → depth_holds insts k i ≡ b
depth_told insts k i r k1 b one tells =
    let ids = flagged r (is_specialised (says insts) (declared_before insts k).specialised i) in
    ap depth_fits one.declares ∙ sym (tells (table_before insts k ++ []) ids.0 (length (table_before insts k)) r one.meaning (one.stands [] ids.0 ids.1))

pub too-deep : (insts : List Instruction) (k : ℕ) (i : Instruction) (r : ℕ) (k1 : Kept) (b : Bool) (entries : List (ℕ × Kept)) (fault : Fault) → KeepsOne insts (declared_before insts k) i r k1 → TellsDepth k1 b → b ≡ false →
    fault ≡ faults.Refused (record { rule = 309; at = i.offset }) → Declares insts k i entries (Err fault)
too-deep insts k i r k1 b entries fault one tells deep is =
    subst (λ (f : Fault). Declares insts k i entries (Err f)) (sym is) (depth_told insts k i r k1 b one tells ∙ deep, refl)

pub one-declared : (insts : List Instruction) (k : ℕ) (i : Instruction) (r : ℕ) (k1 : Kept) (b : Bool) (entries new : List (ℕ × Kept)) → IsNext insts k i → KeepsOne insts (declared_before insts k) i r k1 → TellsDepth k1 b → b ≡ true →
    AreKept (declared_before insts k) entries → (lookup (nat_eq r) entries ≡ None → new ≡ entries ++ (r, k1) ∷ []) → Declares insts k i new (Ok tt)
one-declared insts k i r k1 b entries new next one tells fits are adds = (depth_told insts k i r k1 b one tells ∙ fits, behind)
  where
    behind : rules_at insts (declared_before insts k) k i ≡ [] → AreKept (declared_before insts (k + 1)) new
    behind clean =
        let is_new = declares_new insts next.instructions k i r one.meaning next.at clean one.declares in
        let none = StandFor-none (table_before insts k) (declared_before insts k).specialised entries are.stand r is_new.unknown in
        subst (AreKept (declared_before insts (k + 1))) (sym (adds none)) (kept-more insts k i r k1 entries next clean are one)
