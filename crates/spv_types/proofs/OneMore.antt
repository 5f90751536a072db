-- One instruction more that is read breaks no rule and is kept, or the least rule that it breaks is told.
use Rattle.std.proofs.Common.{◌≡◌, ℕ, Bool, true, false, cond, not, ◌==◌, ◌||◌, List, [], ◌∷◌, Option, Some, None, Ok, Err, ◌⊎◌, inl, inr, refl, sym, ap, subst, ◌∙◌}
use Rattle.std.specs.Prelude.{Result, ⊤}
use Rattle.std.specs.List.{list_any, slice_index}
use Rattle.std.proofs.lemmas.Bool.{eqb-true, and_parts, or_cases, or_right, not-true}
use Rattle.spv_base.specs.declared.fault.Fault.{Fault}
use Rattle.spv_base.specs.declared.fault.Fault.TheVariants as faults
use Rattle.spv_base.specs.declared.fault.Refusal.{Refusal}
use Rattle.spv_opcodes.specs.declared.op.TheConstants as op
use Rattle.spv_grammar.specs.Table.{row_of}
use Rattle.spv_grammar.specs.declared.section.TheConstants as section
use Rattle.spv_module.specs.Code.{is_line, row_section}
use Rattle.spv_module.specs.First.{least}
use Rattle.spv_module.specs.Instruction.{Instruction, IsInstruction, opcode, roles}
use Rattle.spv_meaning.specs.Constants.{Table}
use Rattle.spv_meaning.specs.Statements.{Statement, is_silent_opcode, is_debug_opcode, is_line_opcode}
use Rattle.spv_ids.specs.Ids.{is_defined_before, is_unknown, names_unknown, used_ids}
use Rattle.spv_repeats.specs.Repeats.{occurs_before}
use Rattle.spv_typing.specs.Kinds.{is_one_of}
use Rattle.spv_typing.specs.Types.{type_fits}
use Rattle.spv_declarations.specs.Broken.{rules_at, depth_fits}
use Rattle.spv_declarations.specs.Constants.{constant_fits}
use Rattle.spv_declarations.specs.Declarations.{Declared, declared_before, says, entry, is_specialised}
use Rattle.spv_declarations.specs.Sound.{IsBefore, table_before}
use Rattle.spv_declarations.proofs.Naming.{known_all, type-known}
use Rattle.spv_declarations.proofs.Parts.{first_typed, row_test, typed-words}
use Rattle.spv_declarations.proofs.Declares.{AllOf, one_of-holds}
use Rattle.spv_types.specs.declared.meaning.Kept.{Kept}
use Rattle.spv_types.specs.declared.rules.Standing.{Standing}
use Rattle.spv_types.specs.Entries.{IsReading, Reads, Declares, depth_holds}
use Rattle.spv_types.specs.Progress.{AreKnown, IsAsked, first_failing, early_tests}
use Rattle.spv_types.specs.Steps.{IsNext, ArrayIsKnown, composites}
use Rattle.spv_types.proofs.ArrayLengths.{array-length}
use Rattle.spv_types.proofs.EarlyRules.{rules-early, rules-late}
use Rattle.spv_types.proofs.Entries.{kept-same}
use Rattle.spv_types.proofs.Reading.{least-none}

-- ---- line marks

silent_none : (all : List Statement) (table : Table) (i : Instruction) (b : Bool) → is_silent_opcode (opcode i) ≡ b → b ≡ true → entry all table i ≡ None
silent_none all table i false is e = cc
silent_none all table i true is e = rw is refl

line_declares : (all : List Statement) (table : Table) (i : Instruction) → is_line i ≡ true → entry all table i ≡ None
line_declares all table i h = silent_none all table i true (or_right (is_debug_opcode (opcode i)) (is_line_opcode (opcode i)) h) refl

line_known : (all : List Statement) (ids : List ℕ) (i : Instruction) → is_line i ≡ true → is_specialised all ids i ≡ false
line_known all ids i h = by (or_cases (opcode i == op.LINE) (opcode i == op.NO_LINE) h)
  where
    by : ((opcode i == op.LINE) ≡ true) ⊎ ((opcode i == op.NO_LINE) ≡ true) → is_specialised all ids i ≡ false
    by (inl e) = rw (eqb-true (opcode i) op.LINE e) refl
    by (inr e) = rw (eqb-true (opcode i) op.NO_LINE e) refl

line_breaks_none : (insts : List Instruction) (d : Declared) (k : ℕ) (i : Instruction) → is_line i ≡ true → rules_at insts d k i ≡ []
unfolding rules_at
line_breaks_none insts d k i h = rw h refl

pub line-read : (insts : List Instruction) (k : ℕ) (i : Instruction) (standing : Standing) (entries : List (ℕ × Kept)) → IsReading insts k i standing entries → is_line i ≡ true →
    Reads insts k i entries (Ok tt)
line-read insts k i standing entries reading line =
    let d = declared_before insts k in
    (line_breaks_none insts d k i line, kept-same insts k i entries reading.at (λ outside. line_declares (says insts) d.table i line) (λ outside. line_known (says insts) d.specialised i line) reading.kept)

-- ---- what is known when it is asked for its broken rule

abbrev DeclaresTyped : ℕ → Type 0
DeclaresTyped o = (row_test first_typed (row_of o) ≡ true) × ((row_section (row_of o) == section.DECLARATIONS) ≡ true)

composites_declare : AllOf DeclaresTyped composites
unfolding row_of
composites_declare = ((refl, refl), ((refl, refl), tt))

-- the type that a composite constant names
type_before : (insts : List Instruction) (k : ℕ) (i : Instruction) → IsInstruction i.words (roles i) → names_unknown insts false k i ≡ false →
    is_one_of composites (opcode i) ≡ true → IsBefore insts k (slice_index i.words 1)
type_before insts k i whole known listed =
    let declares = one_of-holds DeclaresTyped composites composites_declare (opcode i) listed in
    let all = known_all insts k (used_ids i) (sym (ap (λ (b : Bool). list_any (is_unknown insts b k) (used_ids i)) declares.1) ∙ known) in
    type-known (is_defined_before insts k) i.words (roles i) (typed-words i (opcode i) whole refl declares.0) all

lengths_known : (insts : List Instruction) (k : ℕ) (i : Instruction) (standing : Standing) (entries : List (ℕ × Kept)) → IsReading insts k i standing entries →
    (declared_before insts k).begun ≡ false → AreKnown insts (declared_before insts k) k i → ArrayIsKnown insts (table_before insts k) i
lengths_known insts k i standing entries reading outside known listed array =
    let own : names_unknown insts false k i ≡ false = sym (ap (λ (b : Bool). names_unknown insts b k i) outside) ∙ known in
    array-length insts reading.instructions k (slice_index i.words 1) reading.unbroken outside
    (type_before insts k i (reading.instructions k i reading.at) own listed) array

pub asked : (insts : List Instruction) (k : ℕ) (i : Instruction) (standing : Standing) (entries : List (ℕ × Kept)) → IsReading insts k i standing entries → is_line i ≡ false →
    IsAsked insts (declared_before insts k) standing.number i standing.occurs standing.repeats entries
asked insts k i standing entries reading plain =
    subst (λ (n : ℕ). IsAsked insts (declared_before insts k) n i standing.occurs standing.repeats entries) (sym reading.number_is)
    (record {
      loud = plain;
      occurs_is = reading.occurs_is;
      repeats_is = reading.repeats_is;
      stand = reading.kept.stand;
      lengths = lengths_known insts k i standing entries reading;
    })

-- ---- refused

abbrev IsEarly : List Instruction → (k : ℕ) → Instruction → Standing → Option ℕ → Type 0
IsEarly insts k i standing o = o ≡ first_failing (early_tests insts (declared_before insts k) standing.number i)

at_number : (insts : List Instruction) (k : ℕ) (i : Instruction) (standing : Standing) (o : Option ℕ) → standing.number ≡ k → IsEarly insts k i standing o →
    o ≡ first_failing (early_tests insts (declared_before insts k) k i)
at_number insts k i standing o e h = h ∙ ap (λ (n : ℕ). first_failing (early_tests insts (declared_before insts k) n i)) e

pub early-read : (insts : List Instruction) (k : ℕ) (i : Instruction) (standing : Standing) (entries : List (ℕ × Kept)) (rule : ℕ) (fault : Fault) → IsReading insts k i standing entries → is_line i ≡ false →
    IsEarly insts k i standing (Some rule) → fault ≡ faults.Refused (record { rule = rule; at = i.offset }) → Reads insts k i entries (Err fault)
early-read insts k i standing entries rule fault reading plain early is =
    subst (λ (f : Fault). Reads insts k i entries (Err f)) (sym is)
    (rules-early insts (declared_before insts k) k i rule plain (at_number insts k i standing (Some rule) reading.number_is early), refl)

-- ---- in functions

pub begun-read : (insts : List Instruction) (k : ℕ) (i : Instruction) (standing : Standing) (entries : List (ℕ × Kept)) → IsReading insts k i standing entries → is_line i ≡ false →
    IsEarly insts k i standing None → standing.begun ≡ true → Reads insts k i entries (Ok tt)
begun-read insts k i standing entries reading plain early begun =
    let d = declared_before insts k in
    let is_begun = reading.begun_is ∙ begun in
    let deep : depth_fits (cond d.begun None (entry (says insts) d.table i)) ≡ true = ap (λ (b : Bool). depth_fits (cond b None (entry (says insts) d.table i))) is_begun in (
      least-none (rules_at insts d k i) (rules-late insts d k i true plain (at_number insts k i standing None reading.number_is early) deep),
      kept-same insts k i entries reading.at (λ outside. absurd (clash d.begun is_begun outside)) (λ outside. absurd (clash d.begun is_begun outside)) reading.kept,
    )
  where
    clash : (b : Bool) → b ≡ true → b ≡ false → ⊥
    clash true t f = cc
    clash false t f = cc

-- ---- declared

abbrev AllPass : List (Bool × ℕ) → Type 0
AllPass [] = Unit {0}
AllPass (test ∷ tests) = (test.0 ≡ true) × AllPass tests

-- induction on the tests
all_pass : (tests : List (Bool × ℕ)) → None ≡ first_failing tests → AllPass tests
all_pass [] h = tt
all_pass (test ∷ tests) h = by test.0 refl h (all_pass tests)
  where
    by : (b : Bool) → test.0 ≡ b → None ≡ cond b (first_failing tests) (Some test.1) → (None ≡ first_failing tests → AllPass tests) → (test.0 ≡ true) × AllPass tests
    by true e h f = (e, f h)
    by false e h f = cc

pub next-is : (insts : List Instruction) (k : ℕ) (i : Instruction) (standing : Standing) (entries : List (ℕ × Kept)) → IsReading insts k i standing entries →
    IsEarly insts k i standing None → standing.begun ≡ false → IsNext insts k i
next-is insts k i standing entries reading early plain =
    let d = declared_before insts k in
    let outside = reading.begun_is ∙ plain in
    let pass = all_pass (early_tests insts d k i) (at_number insts k i standing None reading.number_is early) in
    record {
      instructions = reading.instructions;
      unbroken = reading.unbroken;
      at = reading.at;
      outside = outside;
      known = sym (ap (λ (b : Bool). names_unknown insts b k i) outside) ∙ not-true (names_unknown insts d.begun k i) pass.1.0;
      type = (and_parts (type_fits insts i) (not (occurs_before insts k i)) pass.1.1.0).0;
      constant = sym (ap (λ (b : Bool). b || constant_fits insts d i) outside) ∙ pass.1.1.1.0;
      operation = pass.1.1.1.1.0;
    }

pub declared-read : (insts : List Instruction) (k : ℕ) (i : Instruction) (standing : Standing) (entries new : List (ℕ × Kept)) (result : Result ⊤ Fault) → IsReading insts k i standing entries → is_line i ≡ false →
    IsEarly insts k i standing None → standing.begun ≡ false → Declares insts k i new result → Reads insts k i new result
declared-read insts k i standing entries new result reading plain early outside = by result
  where
    late : (b : Bool) → depth_holds insts k i ≡ b → least (rules_at insts (declared_before insts k) k i) ≡ cond b None (Some 309)
    late b deep =
        rules-late insts (declared_before insts k) k i b plain (at_number insts k i standing None reading.number_is early)
        (ap (λ (c : Bool). depth_fits (cond c None (entry (says insts) (table_before insts k) i))) (reading.begun_is ∙ outside) ∙ deep)

    by : (result : Result ⊤ Fault) → Declares insts k i new result → Reads insts k i new result
    by (Ok done) h = let clean = least-none (rules_at insts (declared_before insts k) k i) (late true h.0) in (clean, h.1 clean)
    by (Err (faults.Refused refusal)) h =
        (late false h.0 ∙ sym (ap (λ (r : Refusal). Some r.rule) h.1), ap (λ (r : Refusal). r.at) h.1)
    by (Err faults.Nesting) h = h
    by (Err faults.NoMemory) h = h
