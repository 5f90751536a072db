-- The instruction that defines an id outside functions, and what is known there.
use Rattle.std.proofs.Common.{◌≡◌, ℕ, zero, suc, Bool, true, false, not, ◌==◌, ◌&&◌, List, [], ◌∷◌, ◌++◌, drop, Option, refl, sym, ap, ◌∙◌, arith}
use Rattle.std.specs.Prelude.{nat_eq}
use Rattle.std.specs.Option.{option_map_or}
use Rattle.std.specs.List.{list_all, slice_index}
use Rattle.std.specs.Map.{lookup}
use Rattle.std.proofs.lemmas.Bool.{eqb-true, and_parts}
use Rattle.spv_opcodes.specs.declared.decoration.TheConstants as decoration
use Rattle.spv_grammar.specs.Table.{row_of}
use Rattle.spv_grammar.specs.declared.section.TheConstants as section
use Rattle.spv_module.specs.Code.{row_section}
use Rattle.spv_module.specs.Instruction.{Instruction, IsInstruction, opcode, roles}
use Rattle.spv_meaning.specs.Statements.{Statement, rows, by_row, is_silent_opcode}
use Rattle.spv_meaning.specs.Constants.{Table, Meaning, meaning, type_in, type_at, words_in, words_at, defined, composed, members_of, member_decorated, first_literal}
use Rattle.spv_meaning.specs.Types.{Members, Member}
use Rattle.std.specs.Option.{is_some}
use Rattle.spv_ids.specs.Ids.{kind, word_of, words_of, is_defined_before, used_ids}
use Rattle.spv_declarations.specs.Declarations.{declared_before, says}
use Rattle.spv_declarations.specs.Sound.{AreInstructions, Unbroken, IsBefore, table_before}
use Rattle.spv_declarations.proofs.Defining.{entry-by}
use Rattle.spv_declarations.proofs.Unbroken.{Keeps, keeps, loud-plain}
use Rattle.spv_declarations.proofs.Tables.{keeps_meaning, unbroken-less}
use Rattle.spv_declarations.proofs.Meanings.{DefinedAt, defined_at, not_begun, meaning_in, meaning-at}
use Rattle.spv_declarations.proofs.Naming.{names-known}

-- ---- by the instruction

pub kind-is : (insts : List Instruction) (k id o : ℕ) (d : DefinedAt insts k id) → (kind insts id == o) ≡ true → opcode d.inst ≡ o
kind-is insts k id o d h = sym (ap (λ (i : Option Instruction). option_map_or opcode i 0) d.is_definition) ∙ eqb-true (kind insts id) o h

pub opcode-is : (insts : List Instruction) (k id : ℕ) (d : DefinedAt insts k id) → kind insts id ≡ opcode d.inst
opcode-is insts k id d = ap (λ (i : Option Instruction). option_map_or opcode i 0) d.is_definition

pub word-is : (insts : List Instruction) (k id n : ℕ) (d : DefinedAt insts k id) → slice_index d.inst.words n ≡ word_of insts id n
word-is insts k id n d = sym (ap (λ (i : Option Instruction). option_map_or (λ (i : Instruction). slice_index i.words n) i 0) d.is_definition)

pub words-is : (insts : List Instruction) (k id n : ℕ) (d : DefinedAt insts k id) → drop n d.inst.words ≡ words_of insts id n
words-is insts k id n d = sym (ap (λ (i : Option Instruction). option_map_or (λ (i : Instruction). drop n i.words) i []) d.is_definition)

-- words counted without the first one
pub index-on : (words : List ℕ) (n : ℕ) → slice_index (drop 1 words) n ≡ slice_index words (suc n)
index-on [] n = refl
index-on (w ∷ ws) n = refl

pub drop-on : (words : List ℕ) (n : ℕ) → drop n (drop 1 words) ≡ drop (suc n) words
drop-on [] zero = refl
drop-on [] (suc n) = refl
drop-on (w ∷ ws) n = refl

-- ---- at its place

-- an instruction of an opcode defines the id outside functions and breaks no rule
pub record Site (insts : List Instruction) (k id o : ℕ) : Type 0 where
  pub d : DefinedAt insts k id
  pub is_o : opcode d.inst ≡ o
  pub whole : IsInstruction d.inst.words (roles d.inst)
  pub kept : Keeps insts (declared_before insts d.place) d.place d.inst
  pub known : list_all (is_defined_before insts d.place) (used_ids d.inst) ≡ true
  pub outside : (declared_before insts d.place).begun ≡ false
  pub clean : Unbroken insts d.place
  pub stands : meaning (table_before insts k) id ≡ meaning_in (defined (says insts) [] (table_before insts d.place) (by_row (lookup (nat_eq o) rows) (drop 1 d.inst.words)))
  -- what is defined before it means the same behind it
  pub same : (x : ℕ) → is_defined_before insts d.place x ≡ true → meaning (table_before insts d.place) x ≡ meaning (table_before insts k) x

-- an opcode of declarations that say something
abbrev pub is_declared : ℕ → Bool
is_declared o = not (is_silent_opcode o) && row_section (row_of o) == section.DECLARATIONS

loud_of : (b c : Bool) → (not b && c) ≡ true → (b ≡ false) × (c ≡ true)
loud_of true c h = cc
loud_of false c h = (refl, h)

pub site : (insts : List Instruction) → AreInstructions insts → (k id o : ℕ) → Unbroken insts k → (declared_before insts k).begun ≡ false →
    (d : DefinedAt insts k id) → opcode d.inst ≡ o → is_declared o ≡ true → Site insts k id o
site insts whole k id o clean outside d is_o declares =
    let parts = loud_of (is_silent_opcode o) (row_section (row_of o) == section.DECLARATIONS) declares in
    let here = not_begun insts d.place k (omega (arith, d.before)) outside in
    let kept =
    keeps insts (declared_before insts d.place) d.place d.inst (loud-plain d.inst (ap is_silent_opcode is_o ∙ parts.0))
    (clean d.place d.inst d.before d.at) in
    record {
      d = d;
      is_o = is_o;
      whole = whole d.place d.inst d.at;
      kept = kept;
      known = names-known insts (declared_before insts d.place) d.place d.inst o kept here is_o parts.1;
      outside = here;
      clean = unbroken-less insts d.place k (omega (arith, d.before)) clean;
      stands = meaning-at insts whole k id clean d here ∙ ap meaning_in (entry-by (says insts) (table_before insts d.place) d.inst o is_o parts.0);
      same = λ x h. sym (keeps_meaning insts whole d.place k x (omega (arith, d.before)) clean h);
    }

pub site-of : (insts : List Instruction) → AreInstructions insts → (k id o : ℕ) → Unbroken insts k → (declared_before insts k).begun ≡ false →
    IsBefore insts k id → (kind insts id == o) ≡ true → is_declared o ≡ true → Site insts k id o
site-of insts whole k id o clean outside before is_kind declares =
    let d = defined_at insts k id before in
    site insts whole k id o clean outside d (kind-is insts k id o d is_kind) declares

-- ---- lists of ids

-- induction on the members
pub members-same : (all : List Statement) (t u : Table) (p : ℕ → Bool) → ((x : ℕ) → p x ≡ true → meaning t x ≡ meaning u x) →
    (id number : ℕ) (ids : List ℕ) → list_all p ids ≡ true → members_of all t id number ids ≡ members_of all u id number ids
members-same all t u p same id number [] h = refl
members-same all t u p same id number (m ∷ ms) h =
    let parts = and_parts (p m) (list_all p ms) h in
    let offset = first_literal (member_decorated all id number decoration.OFFSET) in
    let volatile = is_some (member_decorated all id number decoration.VOLATILE) in
    ap (λ (o : Option Meaning). Member offset volatile (type_in o) (members_of all t id (suc number) ms)) (same m parts.0)
    ∙ ap (λ (rest : Members). Member offset volatile (type_at u m) rest) (members-same all t u p same id (suc number) ms parts.1)

-- induction on the constituents
pub composed-same : (t u : Table) (p : ℕ → Bool) → ((x : ℕ) → p x ≡ true → meaning t x ≡ meaning u x) → (ids : List ℕ) → list_all p ids ≡ true →
    composed t ids ≡ composed u ids
composed-same t u p same [] h = refl
composed-same t u p same (id ∷ ids) h =
    let parts = and_parts (p id) (list_all p ids) h in
    ap (λ (o : Option Meaning). words_in o ++ composed t ids) (same id parts.0) ∙ ap (λ (ws : List ℕ). words_at u id ++ ws)
    (composed-same t u p same ids parts.1)
