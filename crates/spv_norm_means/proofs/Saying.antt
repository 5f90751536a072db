-- Only an OpLabel says a label, and only an OpFunction a function. So where each label stands once among instructions, no label is said twice.
use Rattle.std.proofs.Common.{◌≡◌, ℕ, Bool, true, false, cond, not, nat_eq, ◌==◌, ◌&&◌, ◌||◌, List, [], ◌∷◌, ◌++◌, Option, Some, None, refl, sym, ap, ◌∙◌, subst, drop, take, arith}
use Rattle.std.specs.Prelude.{slice_index}
use Rattle.std.specs.List.{AllByRecursion, list_any}
use Rattle.std.specs.Map.{lookup}
use Rattle.std.proofs.lemmas.Bool.Decides.{nat_tests}
use Rattle.spv_opcodes.specs.declared.op.TheConstants as op
use Rattle.spv_opcodes.specs.declared.execution_mode.TheConstants as execution_mode
use Rattle.spv_module.specs.Code.{is_function}
use Rattle.spv_module.specs.Instruction.{Instruction, opcode}
use Rattle.spv_meaning.specs.Statements as says
use Rattle.spv_meaning.specs.Statements.{Statement, Rows, said, by_row, rows, module_rows, type_rows, constant_rows, flow_rows, memory_rows, operation_rows, mode, mode_by_ids, of_constants, spec_constant_op, is_silent_opcode, statements_in, words_of}
use Rattle.spv_machine.specs.Steps.{behind_function}
use Rattle.spv_blocks.specs.Cutting.{is_label_mark, word}
use Rattle.spv_walk.proofs.Unique.{equal_true}
use Rattle.spv_trees.specs.Sound.{labels_in, Distinct}
use Rattle.spv_standing.proofs.Lines.{label_said}
use Rattle.spv_texts.proofs.Labels.{has_label, LabelsOnce}
use Rattle.spv_norm.specs.Norm.{outside}

abbrev says_label : Statement → Bool
says_label (says.Label r) = true
says_label other = false

abbrev says_function : Statement → Bool
says_function (says.Function r) = true
says_function other = false

-- ---- rows

abbrev is_kind : (opcode : ℕ) → Statement → Bool
is_kind o s = (not (says_label s) || o == op.LABEL) && (not (says_function s) || o == op.FUNCTION)

abbrev RowKind : ℕ × (List ℕ → Statement) → Type 0
RowKind row = (ws : List ℕ) → is_kind row.0 (row.1 ws) ≡ true

one_or_other : (opcode : ℕ) (b : Bool) (s t : Statement) → is_kind opcode s ≡ true → is_kind opcode t ≡ true → is_kind opcode (cond b s t) ≡ true
one_or_other opcode true s t h g = h
one_or_other opcode false s t h g = g

mode_said : (function kind : ℕ) (literals : List ℕ) → is_kind op.EXECUTION_MODE (mode function kind literals) ≡ true
mode_said function kind literals = one_or_other op.EXECUTION_MODE (kind == execution_mode.LOCAL_SIZE) (says.LocalSize function literals) says.Unknown refl refl

mode_by_ids_said : (function kind : ℕ) (ids : List ℕ) → is_kind op.EXECUTION_MODE_ID (mode_by_ids function kind ids) ≡ true
mode_by_ids_said function kind ids = one_or_other op.EXECUTION_MODE_ID (kind == execution_mode.LOCAL_SIZE_ID)
    (says.LocalSizeId function ids) says.Unknown refl refl

of_constants_said : (s : Statement) → is_kind op.SPEC_CONSTANT_OP (of_constants s) ≡ true
of_constants_said (says.Operation computation t r operands) = refl
of_constants_said other = refl

all_append : (a b : Rows) → AllByRecursion RowKind a → AllByRecursion RowKind b → AllByRecursion RowKind (a ++ b)
all_append [] b h g = g
all_append (row ∷ a) b h g = (h.0, all_append a b h.1 g)

module_said : AllByRecursion RowKind module_rows
module_said = (
  (λ ws. refl),
  (
    (λ ws. mode_said (slice_index ws 0) (slice_index ws 1) (drop 2 ws)),
    ((λ ws. mode_by_ids_said (slice_index ws 0) (slice_index ws 1) (drop 2 ws)), ((λ ws. refl), ((λ ws. refl), tt))),
  ),
)

types_said : AllByRecursion RowKind type_rows
types_said = search

constants_said : AllByRecursion RowKind constant_rows
constants_said = search

flow_said : AllByRecursion RowKind flow_rows
flow_said = search

memory_said : AllByRecursion RowKind memory_rows
memory_said = search

operations_said : AllByRecursion RowKind operation_rows
operations_said = search

rows_said : AllByRecursion RowKind rows
rows_said =
    all_append module_rows (type_rows ++ (constant_rows ++ ((op.SPEC_CONSTANT_OP, spec_constant_op) ∷
    (flow_rows ++ (memory_rows ++ operation_rows))))) module_said
    (all_append type_rows (constant_rows ++ ((op.SPEC_CONSTANT_OP, spec_constant_op) ∷ (flow_rows ++ (memory_rows ++ operation_rows)))) types_said
    (all_append constant_rows ((op.SPEC_CONSTANT_OP, spec_constant_op) ∷ (flow_rows ++ (memory_rows ++ operation_rows))) constants_said (
      (λ ws. of_constants_said (by_row (lookup (nat_eq (slice_index ws 2)) operation_rows) (take 2 ws ++ drop 3 ws))),
      all_append flow_rows (memory_rows ++ operation_rows) flow_said (all_append memory_rows operation_rows memory_said operations_said),
    )))

found_kind : (b : Bool) (o : ℕ) (row : ℕ × (List ℕ → Statement)) (others : Option (List ℕ → Statement)) (ws : List ℕ) → nat_eq o row.0 ≡ b
    → is_kind row.0 (row.1 ws) ≡ true → is_kind o (by_row others ws) ≡ true → is_kind o (by_row (cond b (Some row.1) others) ws) ≡ true
found_kind true o row others ws e h g = subst (λ k. is_kind k (row.1 ws) ≡ true) (sym (equal_true o row.0 e)) h
found_kind false o row others ws e h g = g

lookup_kind : (list : Rows) → AllByRecursion RowKind list → (o : ℕ) (ws : List ℕ) → is_kind o (by_row (lookup (nat_eq o) list) ws) ≡ true
lookup_kind [] h o ws = refl
lookup_kind (row ∷ list) h o ws = found_kind (nat_eq o row.0) o row (lookup (nat_eq o) list) ws refl (h.0 ws) (lookup_kind list h.1 o ws)

-- ---- single instructions

no_label_by : (b : Bool) (s : Statement) (o : ℕ) (rest : List Statement) → is_kind o s ≡ true → (o == op.LABEL) ≡ false → labels_in (cond b rest (s ∷ rest)) ≡ labels_in rest
no_label_by true s o rest h e = refl
no_label_by false (says.Label r) o rest h e = absurd (fails (o == op.LABEL) (true || o == op.FUNCTION) h e) where
  fails : (a b : Bool) → ((false || a) && b) ≡ true → a ≡ false → ⊥
  fails true b h e = absurd (cc)
  fails false b h e = absurd (cc)
no_label_by false other o rest h e = refl

pub label_not_said : (words : List ℕ) (o : ℕ) (rest : List Statement) → (o == op.LABEL) ≡ false
    → labels_in (cond (is_silent_opcode o) rest (by_row (lookup (nat_eq o) rows) (drop 1 words) ∷ rest)) ≡ labels_in rest
label_not_said words o rest e =
    no_label_by (is_silent_opcode o) (by_row (lookup (nat_eq o) rows) (drop 1 words)) o rest (lookup_kind rows rows_said o (drop 1 words)) e

no_function_by : (b : Bool) (s : Statement) (o r : ℕ) (rest : List Statement) → is_kind o s ≡ true → (o == op.FUNCTION) ≡ false
    → behind_function (cond b rest (s ∷ rest)) r ≡ behind_function rest r
no_function_by true s o r rest h e = refl
no_function_by false (says.Function q) o r rest h e = absurd (fails (o == op.LABEL) (o == op.FUNCTION) h e) where
  fails : (a b : Bool) → ((true || a) && (false || b)) ≡ true → b ≡ false → ⊥
  fails a true h e = absurd (cc)
  fails a false h e = absurd (cc)
no_function_by false other o r rest h e = refl

function_not_said : (words : List ℕ) (o r : ℕ) (rest : List Statement) → (o == op.FUNCTION) ≡ false
    → behind_function (cond (is_silent_opcode o) rest (by_row (lookup (nat_eq o) rows) (drop 1 words) ∷ rest)) r ≡ behind_function rest r
function_not_said words o r rest e =
    no_function_by (is_silent_opcode o) (by_row (lookup (nat_eq o) rows) (drop 1 words)) o r rest (lookup_kind rows rows_said o (drop 1 words)) e

-- ---- by induction on the instructions

-- no function begins before the first one
pub none_outside : (is : List Instruction) (r : ℕ) → behind_function (statements_in (words_of (outside is))) r ≡ None
unfolding statements_in
none_outside [] r = refl
none_outside (i ∷ is) r = by (is_function i) refl (none_outside is r) where
  by : (b : Bool) → is_function i ≡ b → behind_function (statements_in (words_of (outside is))) r ≡ None
      → behind_function (statements_in (words_of (cond b [] (i ∷ outside is)))) r ≡ None
  by true e more = refl
  by false e more = function_not_said i.words (opcode i) r (statements_in (words_of (outside is))) e ∙ more

turned : (a b : ℕ) → (a == b) ≡ false → (b == a) ≡ false
turned a b h = grind (arith, nat_tests)

or_parts : (a b : Bool) → (a || b) ≡ false → (a ≡ false) × (b ≡ false)
or_parts true b h = absurd (cc)
or_parts false b h = (refl, h)

or_both : (a b : Bool) → a ≡ false → b ≡ false → (a || b) ≡ false
or_both true b h g = h
or_both false b h g = g

second_fails : (a b : Bool) → a ≡ true → (a && b) ≡ false → b ≡ false
second_fails true b h e = e
second_fails false b h e = absurd (cc)

none_said : (is : List Instruction) (l : ℕ) → has_label is l ≡ false → list_any (λ y. l == y) (labels_in (statements_in (words_of is))) ≡ false
unfolding statements_in
none_said [] l h = refl
none_said (i ∷ is) l h =
    let parts = or_parts (is_label_mark i && (word i 1 == l)) (has_label is l) h in
    by (is_label_mark i) refl parts.0 (none_said is l parts.1)
  where
    by : (b : Bool) → is_label_mark i ≡ b → (is_label_mark i && (word i 1 == l)) ≡ false
        → list_any (λ y. l == y) (labels_in (statements_in (words_of is))) ≡ false
        → list_any (λ y. l == y) (labels_in (said i.words (statements_in (words_of is)))) ≡ false
    by true e here more =
        ap (λ ss. list_any (λ y. l == y) (labels_in ss)) (label_said i (word i 1) (statements_in (words_of is)) e refl)
        ∙ or_both (l == word i 1) (list_any (λ y. l == y) (labels_in (statements_in (words_of is))))
        (turned (word i 1) l (second_fails (is_label_mark i) (word i 1 == l) e here)) more
    by false e here more = ap (λ ls. list_any (λ y. l == y) ls) (label_not_said i.words (opcode i) (statements_in (words_of is)) e) ∙ more

pub labels_distinct : (is : List Instruction) → LabelsOnce is → Distinct (labels_in (statements_in (words_of is)))
unfolding statements_in
labels_distinct [] h = tt
labels_distinct (i ∷ is) h = by (is_label_mark i) refl (labels_distinct is h.1) where
  by : (b : Bool) → is_label_mark i ≡ b → Distinct (labels_in (statements_in (words_of is))) → Distinct (labels_in (said i.words (statements_in (words_of is))))
  by true e more =
      subst (λ ss. Distinct (labels_in ss)) (sym (label_said i (word i 1) (statements_in (words_of is)) e refl)) (none_said is (word i 1) (h.0 e), more)
  by false e more = subst Distinct (sym (label_not_said i.words (opcode i) (statements_in (words_of is)) e)) more
