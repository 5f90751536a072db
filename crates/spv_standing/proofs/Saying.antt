-- What single instructions say: by the rows of the opcodes, which are looked at one after another.
use Rattle.std.proofs.Common.{◌≡◌, ℕ, inl, inr, Bool, true, false, cond, nat_eq, ◌==◌, ◌||◌, ◌&&◌, not, List, [], ◌∷◌, ◌++◌, Option, Some, refl, sym, ap, subst, ◌∙◌, drop, take}
use Rattle.std.specs.Prelude.{slice_index}
use Rattle.std.specs.List.{AllByRecursion}
use Rattle.std.specs.Map.{lookup}
use Rattle.spv_opcodes.specs.declared.op.TheConstants as op
use Rattle.spv_opcodes.specs.declared.execution_mode.TheConstants as execution_mode
use Rattle.spv_grammar.specs.Table.{row_of}
use Rattle.spv_meaning.specs.Statements as says
use Rattle.spv_meaning.specs.Statements.{Statement, Rows, said, by_row, rows, module_rows, type_rows, constant_rows, flow_rows, memory_rows, operation_rows, atomic, evaluated, mode, mode_by_ids, of_constants, spec_constant_op, is_silent_opcode, pairs}
use Rattle.spv_module.specs.Instruction.{Instruction, opcode}
use Rattle.spv_module.specs.Code.{row_section}
use Rattle.spv_normal.specs.Lines.{line}
use Rattle.spv_bodies.specs.Listing.{instruction}
use Rattle.spv_tree.specs.Sound.{is_one_of, structure, is_step, is_end, opcode_in}
use Rattle.spv_spelling.specs.Whole.{block_marks}
use Rattle.spv_trees.specs.Standing.{leads_on, is_finish}
use Rattle.spv_trees.specs.Sound.{is_phi}
use Rattle.spv_trees.proofs.Spelling.{said_by}
use Rattle.spv_walk.proofs.Unique.{both_left, either_holds, both_right, not_true, equal_true, left_holds, right_holds}

-- ---- rows: none but that of OpPhi says an OpPhi, and what does not lead on is of the structure

-- the opcode of an OpPhi or a statement that is none; and one of the structure or a statement that leads on
abbrev is_kind : (opcode : ℕ) → Statement → Bool
is_kind o s = (not (is_phi s) || o == op.PHI) && (leads_on s || is_one_of structure o)

abbrev RowKind : ℕ × (List ℕ → Statement) → Type 0
RowKind row = (ws : List ℕ) → is_kind row.0 (row.1 ws) ≡ true

one_or_other : (opcode : ℕ) (b : Bool) (s t : Statement) → is_kind opcode s ≡ true → is_kind opcode t ≡ true → is_kind opcode (cond b s t) ≡ true
one_or_other opcode true s t h g = h
one_or_other opcode false s t h g = g

mode_said : (function kind : ℕ) (literals : List ℕ) → is_kind op.EXECUTION_MODE (mode function kind literals) ≡ true
mode_said function kind literals = one_or_other op.EXECUTION_MODE (kind == execution_mode.LOCAL_SIZE) (says.LocalSize function literals) says.Unknown refl refl

mode_by_ids_said : (function kind : ℕ) (ids : List ℕ) → is_kind op.EXECUTION_MODE_ID (mode_by_ids function kind ids) ≡ true
mode_by_ids_said function kind ids = one_or_other op.EXECUTION_MODE_ID (kind == execution_mode.LOCAL_SIZE_ID)
    (says.LocalSizeId function ids) says.Unknown refl refl

of_constants_said : (s : Statement) → is_kind op.SPEC_CONSTANT_OP (of_constants s) ≡ true
of_constants_said (says.Operation computation t r operands) = refl
of_constants_said other = refl

all_append : (a b : Rows) → AllByRecursion RowKind a → AllByRecursion RowKind b → AllByRecursion RowKind (a ++ b)
all_append [] b h g = g
all_append (row ∷ a) b h g = (h.0, all_append a b h.1 g)

module_said : AllByRecursion RowKind module_rows
module_said = (
  (λ ws. refl),
  (
    (λ ws. mode_said (slice_index ws 0) (slice_index ws 1) (drop 2 ws)),
    ((λ ws. mode_by_ids_said (slice_index ws 0) (slice_index ws 1) (drop 2 ws)), ((λ ws. refl), ((λ ws. refl), tt))),
  ),
)

types_said : AllByRecursion RowKind type_rows
types_said = search

constants_said : AllByRecursion RowKind constant_rows
constants_said = search

flow_said : AllByRecursion RowKind flow_rows
flow_said = search

memory_said : AllByRecursion RowKind memory_rows
memory_said = search

operations_said : AllByRecursion RowKind operation_rows
operations_said = search

rows_said : AllByRecursion RowKind rows
rows_said =
    all_append module_rows (type_rows ++ (constant_rows ++ ((op.SPEC_CONSTANT_OP, spec_constant_op) ∷
    (flow_rows ++ (memory_rows ++ operation_rows))))) module_said
    (all_append type_rows (constant_rows ++ ((op.SPEC_CONSTANT_OP, spec_constant_op) ∷ (flow_rows ++ (memory_rows ++ operation_rows)))) types_said
    (all_append constant_rows ((op.SPEC_CONSTANT_OP, spec_constant_op) ∷ (flow_rows ++ (memory_rows ++ operation_rows))) constants_said (
      (λ ws. of_constants_said (by_row (lookup (nat_eq (slice_index ws 2)) operation_rows) (take 2 ws ++ drop 3 ws))),
      all_append flow_rows (memory_rows ++ operation_rows) flow_said (all_append memory_rows operation_rows memory_said operations_said),
    )))

-- what a row says that is found
found_kind : (b : Bool) (o : ℕ) (row : ℕ × (List ℕ → Statement)) (others : Option (List ℕ → Statement)) (ws : List ℕ) → nat_eq o row.0 ≡ b
    → is_kind row.0 (row.1 ws) ≡ true → is_kind o (by_row others ws) ≡ true → is_kind o (by_row (cond b (Some row.1) others) ws) ≡ true
found_kind true o row others ws e h g = subst (λ k. is_kind k (row.1 ws) ≡ true) (sym (equal_true o row.0 e)) h
found_kind false o row others ws e h g = g

lookup_kind : (list : Rows) → AllByRecursion RowKind list → (o : ℕ) (ws : List ℕ) → is_kind o (by_row (lookup (nat_eq o) list) ws) ≡ true
lookup_kind [] h o ws = refl
lookup_kind (row ∷ list) h o ws = found_kind (nat_eq o row.0) o row (lookup (nat_eq o) list) ws refl (h.0 ws) (lookup_kind list h.1 o ws)

says_kind : (o : ℕ) (ws : List ℕ) → is_kind o (by_row (lookup (nat_eq o) rows) ws) ≡ true
says_kind o ws = lookup_kind rows rows_said o ws

-- ---- steps and what stands in blocks

either_gives : {P : Type 0} (a b : Bool) → (a ≡ true → P) → (b ≡ true → P) → (a || b) ≡ true → P
either_gives true b f g h = f refl
either_gives false b f g h = g h

-- a terminator, by its opcode, and all that stands in blocks
abbrev pub ends_block : ℕ → Bool
ends_block o = o == op.BRANCH || o == op.BRANCH_CONDITIONAL || o == op.SWITCH || o == op.RETURN || o == op.RETURN_VALUE || o == op.UNREACHABLE

abbrev in_block : ℕ → Bool
in_block o = o == op.LABEL || ends_block o || is_step o || is_one_of block_marks o

module _ (P : ℕ → Type 0) (o : ℕ) where
  at_opcode : (k : ℕ) → P k → (o == k) ≡ true → P o
  at_opcode k p e = subst P (sym (equal_true o k e)) p

-- debug instructions and line marks stand in no block
silent_outside : (o : ℕ) → is_silent_opcode o ≡ true → in_block o ≡ false
unfolding row_of
silent_outside o h =
    let at = at_opcode (λ k. in_block k ≡ false) o in
    let two : Bool = o == op.STRING || o == op.SOURCE in
    let three : Bool = two || o == op.SOURCE_CONTINUED in
    let four : Bool = three || o == op.SOURCE_EXTENSION in
    let five : Bool = four || o == op.NAME in
    let six : Bool = five || o == op.MEMBER_NAME in
    let debug : Bool = six || o == op.MODULE_PROCESSED in
    let lines : Bool = o == op.LINE || o == op.NO_LINE in
    either_gives debug lines
    (either_gives six (o == op.MODULE_PROCESSED)
    (either_gives five (o == op.MEMBER_NAME)
    (either_gives four (o == op.NAME)
    (either_gives three (o == op.SOURCE_EXTENSION)
    (either_gives two (o == op.SOURCE_CONTINUED)
    (either_gives (o == op.STRING) (o == op.SOURCE) (at op.STRING refl) (at op.SOURCE refl))
    (at op.SOURCE_CONTINUED refl)) (at op.SOURCE_EXTENSION refl)) (at op.NAME refl)) (at op.MEMBER_NAME refl)) (at op.MODULE_PROCESSED refl))
    (either_gives (o == op.LINE) (o == op.NO_LINE) (at op.LINE refl) (at op.NO_LINE refl)) h

inside_speaks_by : (o : ℕ) (b : Bool) → is_silent_opcode o ≡ b → in_block o ≡ true → b ≡ false
inside_speaks_by o true e h = absurd (cc (silent_outside o e, h))
inside_speaks_by o false e h = refl

inside_speaks : (o : ℕ) → in_block o ≡ true → is_silent_opcode o ≡ false
inside_speaks o h = inside_speaks_by o (is_silent_opcode o) refl h

step_inside : (o : ℕ) → is_step o ≡ true → in_block o ≡ true
step_inside o h =
    left_holds (o == op.LABEL || ends_block o || is_step o) (is_one_of block_marks o) (right_holds (o == op.LABEL || ends_block o) (is_step o) h)

-- one statement, which is no OpPhi
pub record SaysOther (words : List ℕ) : Type 0 where
  pub statement : Statement
  pub same : (rest : List Statement) → said words rest ≡ statement ∷ rest
  pub other : is_phi statement ≡ false

-- what words say that are not silent
abbrev says_of : List ℕ → Statement
says_of words = by_row (lookup (nat_eq (opcode_in words)) rows) (drop 1 words)

spoken : (words : List ℕ) (rest : List Statement) → is_silent_opcode (opcode_in words) ≡ false → said words rest ≡ says_of words ∷ rest
spoken words rest e = ap (λ b. cond b rest (says_of words ∷ rest)) e

no_phi : (o : ℕ) (s : Statement) → (o == op.PHI) ≡ false → is_kind o s ≡ true → is_phi s ≡ false
no_phi o s e h = no_phi_by (is_phi s) (o == op.PHI) e (both_left (not (is_phi s) || o == op.PHI) (leads_on s || is_one_of structure o) h)
  where
    no_phi_by : (phi named : Bool) → named ≡ false → (not phi || named) ≡ true → phi ≡ false
    no_phi_by true named e h = absurd (cc (e, h))
    no_phi_by false named e h = refl

pub inside_says : (words : List ℕ) → in_block (opcode_in words) ≡ true → (opcode_in words == op.PHI) ≡ false → SaysOther words
inside_says words h e = record {
  statement = says_of words;
  same = λ rest. spoken words rest (inside_speaks (opcode_in words) h);
  other = no_phi (opcode_in words) (says_of words) e (says_kind (opcode_in words) (drop 1 words));
}

-- a step leads on
no_structure : (o : ℕ) → is_step o ≡ true → is_one_of structure o ≡ false
no_structure o h = not_true (is_one_of structure o) (both_right (row_section (row_of o) == 11 || is_one_of (op.VARIABLE ∷ op.UNDEF ∷ []) o)
    (not (is_one_of structure o)) h)

leads_by : (o : ℕ) (s : Statement) → is_step o ≡ true → is_kind o s ≡ true → leads_on s ≡ true
leads_by o s h g =
    elim (either_holds (leads_on s) (is_one_of structure o) (both_right (not (is_phi s) || o == op.PHI) (leads_on s || is_one_of structure o) g)) [
      | inl e ↦ e
      | inr e ↦ absurd (cc (no_structure o h, e))
    ]

pub step_leads : (words : List ℕ) → is_step (opcode_in words) ≡ true → AllByRecursion (λ s. leads_on s ≡ true) (said words [])
step_leads words h =
    subst (λ l. AllByRecursion (λ s. leads_on s ≡ true) l) (sym (spoken words [] (inside_speaks (opcode_in words) (step_inside (opcode_in words) h))))
    (leads_by (opcode_in words) (says_of words) h (says_kind (opcode_in words) (drop 1 words)), tt)

-- ---- ends of functions

pub record SaysEnd (words : List ℕ) : Type 0 where
  pub statement : Statement
  pub same : said words [] ≡ statement ∷ []
  pub finish : is_finish statement ≡ true

pub said_at : (k : ℕ) (words : List ℕ) (rest : List Statement) → opcode_in words ≡ k → said words rest ≡ said_by k (drop 1 words) rest
said_at k words rest e = ap (λ o. said_by o (drop 1 words) rest) e

end_by : (words : List ℕ) (a b c : Bool) → (opcode_in words == op.RETURN) ≡ a → (opcode_in words == op.RETURN_VALUE) ≡ b
    → (opcode_in words == op.UNREACHABLE) ≡ c → (a || (b || (c || false))) ≡ true
    → SaysEnd words
end_by words true b c e f g h = record { statement = says.Return; same = said_at op.RETURN words [] (equal_true (opcode_in words) op.RETURN e); finish = refl }
end_by words false true c e f g h =
    record {
      statement = says.ReturnValue (slice_index (drop 1 words) 0);
      same = said_at op.RETURN_VALUE words []
          (equal_true (opcode_in words) op.RETURN_VALUE f);
      finish = refl;
    }
end_by words false false true e f g h = record {
  statement = says.Unreachable;
  same = said_at op.UNREACHABLE words []
      (equal_true (opcode_in words) op.UNREACHABLE g);
  finish = refl;
}
end_by words false false false e f g h = absurd (cc h)

pub end_says : (words : List ℕ) → is_end (opcode_in words) ≡ true → SaysEnd words
end_says words h = end_by words (opcode_in words == op.RETURN) (opcode_in words == op.RETURN_VALUE) (opcode_in words == op.UNREACHABLE) refl refl refl h

-- ---- single lines

pub phi_said : (words : List ℕ) (rest : List Statement) → opcode_in words ≡ op.PHI
    → said words rest ≡ says.Phi (slice_index (drop 1 words) 0) (slice_index (drop 1 words) 1) (pairs (drop 2 (drop 1 words))) ∷ rest
phi_said words rest e = said_at op.PHI words rest e

-- weights say nothing
split_again : (ws : List ℕ) (rest : List Statement)
    → said (instruction op.BRANCH_CONDITIONAL (take 3 ws)) rest ≡ says.BranchConditional (slice_index ws 0) (slice_index ws 1) (slice_index ws 2) ∷ rest
split_again [] rest = refl
split_again (a ∷ []) rest = refl
split_again (a ∷ b ∷ []) rest = refl
split_again (a ∷ b ∷ c ∷ ws) rest = refl

line_by : (i : Instruction) (b : Bool) (rest : List Statement) → (opcode i == op.BRANCH_CONDITIONAL) ≡ b
    → said (cond b (instruction op.BRANCH_CONDITIONAL (take 3 (drop 1 i.words))) i.words) rest ≡ said i.words rest
line_by i true rest e =
    split_again (drop 1 i.words) rest ∙ sym (said_at op.BRANCH_CONDITIONAL i.words rest (equal_true (opcode i) op.BRANCH_CONDITIONAL e))
line_by i false rest e = refl

pub line_said : (i : Instruction) (rest : List Statement) → said (line i) rest ≡ said i.words rest
line_said i rest = line_by i (opcode i == op.BRANCH_CONDITIONAL) rest refl
