-- Only an OpFunctionCall says a call, and only an OpEntryPoint an entry point. So where each names a function that is known, all that is called or entered
-- is known.
use Rattle.std.proofs.Common.{◌≡◌, ℕ, Bool, true, false, cond, not, nat_eq, ◌==◌, ◌&&◌, ◌||◌, List, [], ◌∷◌, ◌++◌, Option, Some, refl, sym, ap}
use Rattle.std.proofs.Common.{◌∙◌, subst, drop, take}
use Rattle.std.specs.Prelude.{slice_index, IsSome}
use Rattle.std.specs.List.{AllByRecursion}
use Rattle.std.specs.Map.{lookup}
use Rattle.std.specs.Cmp.Lexicographic.{pointwise}
use Rattle.spv_opcodes.specs.declared.op.TheConstants as op
use Rattle.spv_opcodes.specs.declared.execution_mode.TheConstants as execution_mode
use Rattle.spv_module.specs.Instruction.{Instruction, opcode}
use Rattle.spv_module.specs.Layout.{is_entry_point}
use Rattle.spv_meaning.specs.Statements as says
use Rattle.spv_meaning.specs.Statements.{Statement, Rows, said, by_row, rows, module_rows, type_rows, constant_rows, flow_rows, memory_rows}
use Rattle.spv_meaning.specs.Statements.{operation_rows, mode, mode_by_ids, name_in, of_constants, spec_constant_op, is_silent_opcode, statements_in}
use Rattle.spv_meaning.specs.Statements.{words_of}
use Rattle.spv_machine.specs.Setting.{entry_function}
use Rattle.spv_walk.proofs.Unique.{equal_true}
use Rattle.spv_bodies.specs.Bodies.{Function}
use Rattle.spv_trees.specs.Standing.{CallsKnown}
use Rattle.spv_admitted.proofs.Lists.{fourth_word, third_word}

abbrev says_call : Statement → Bool
says_call (says.FunctionCall t r function arguments) = true
says_call other = false

abbrev says_entry : Statement → Bool
says_entry (says.EntryPoint function name) = true
says_entry other = false

-- ---- rows

abbrev is_kind : (opcode : ℕ) → Statement → Bool
is_kind o s = (not (says_call s) || o == op.FUNCTION_CALL) && (not (says_entry s) || o == op.ENTRY_POINT)

abbrev RowKind : ℕ × (List ℕ → Statement) → Type 0
RowKind row = (ws : List ℕ) → is_kind row.0 (row.1 ws) ≡ true

one_or_other : (opcode : ℕ) (b : Bool) (s t : Statement) → is_kind opcode s ≡ true → is_kind opcode t ≡ true → is_kind opcode (cond b s t) ≡ true
one_or_other opcode true s t h g = h
one_or_other opcode false s t h g = g

mode_said : (function kind : ℕ) (literals : List ℕ) → is_kind op.EXECUTION_MODE (mode function kind literals) ≡ true
mode_said function kind literals =
    one_or_other op.EXECUTION_MODE (kind == execution_mode.LOCAL_SIZE) (says.LocalSize function literals) says.Unknown refl refl

mode_by_ids_said : (function kind : ℕ) (ids : List ℕ) → is_kind op.EXECUTION_MODE_ID (mode_by_ids function kind ids) ≡ true
mode_by_ids_said function kind ids = one_or_other op.EXECUTION_MODE_ID (kind == execution_mode.LOCAL_SIZE_ID)
    (says.LocalSizeId function ids) says.Unknown refl refl

of_constants_said : (s : Statement) → is_kind op.SPEC_CONSTANT_OP (of_constants s) ≡ true
of_constants_said (says.Operation computation t r operands) = refl
of_constants_said other = refl

all_append : (a b : Rows) → AllByRecursion RowKind a → AllByRecursion RowKind b → AllByRecursion RowKind (a ++ b)
all_append [] b h g = g
all_append (row ∷ a) b h g = (h.0, all_append a b h.1 g)

module_said : AllByRecursion RowKind module_rows
module_said = (
  (λ ws. refl),
  (
    (λ ws. mode_said (slice_index ws 0) (slice_index ws 1) (drop 2 ws)),
    ((λ ws. mode_by_ids_said (slice_index ws 0) (slice_index ws 1) (drop 2 ws)), ((λ ws. refl), ((λ ws. refl), tt))),
  ),
)

types_said : AllByRecursion RowKind type_rows
types_said = search

constants_said : AllByRecursion RowKind constant_rows
constants_said = search

flow_said : AllByRecursion RowKind flow_rows
flow_said = search

memory_said : AllByRecursion RowKind memory_rows
memory_said = search

operations_said : AllByRecursion RowKind operation_rows
operations_said = search

rows_said : AllByRecursion RowKind rows
rows_said =
    all_append module_rows (type_rows ++ (constant_rows ++ ((op.SPEC_CONSTANT_OP, spec_constant_op) ∷
    (flow_rows ++ (memory_rows ++ operation_rows))))) module_said
    (all_append type_rows (constant_rows ++ ((op.SPEC_CONSTANT_OP, spec_constant_op) ∷ (flow_rows ++ (memory_rows ++ operation_rows)))) types_said
    (all_append constant_rows ((op.SPEC_CONSTANT_OP, spec_constant_op) ∷ (flow_rows ++ (memory_rows ++ operation_rows))) constants_said (
      (λ ws. of_constants_said (by_row (lookup (nat_eq (slice_index ws 2)) operation_rows) (take 2 ws ++ drop 3 ws))),
      all_append flow_rows (memory_rows ++ operation_rows) flow_said (all_append memory_rows operation_rows memory_said operations_said),
    )))

found_kind : (b : Bool) (o : ℕ) (row : ℕ × (List ℕ → Statement)) (others : Option (List ℕ → Statement)) (ws : List ℕ) → nat_eq o row.0 ≡ b
    → is_kind row.0 (row.1 ws) ≡ true → is_kind o (by_row others ws) ≡ true → is_kind o (by_row (cond b (Some row.1) others) ws) ≡ true
found_kind true o row others ws e h g = subst (λ k. is_kind k (row.1 ws) ≡ true) (sym (equal_true o row.0 e)) h
found_kind false o row others ws e h g = g

lookup_kind : (list : Rows) → AllByRecursion RowKind list → (o : ℕ) (ws : List ℕ) → is_kind o (by_row (lookup (nat_eq o) list) ws) ≡ true
lookup_kind [] h o ws = refl
lookup_kind (row ∷ list) h o ws = found_kind (nat_eq o row.0) o row (lookup (nat_eq o) list) ws refl (h.0 ws) (lookup_kind list h.1 o ws)

-- ---- calls

call_said : (i : Instruction) (rest : List Statement) → opcode i ≡ op.FUNCTION_CALL
    → said i.words rest
    ≡ says.FunctionCall (slice_index (drop 1 i.words) 0) (slice_index (drop 1 i.words) 1) (slice_index i.words 3) (drop 3 (drop 1 i.words)) ∷ rest
call_said i rest e =
    ap (λ o. cond (is_silent_opcode o) rest (by_row (lookup (nat_eq o) rows) (drop 1 i.words) ∷ rest)) e
    ∙ ap (λ f. says.FunctionCall (slice_index (drop 1 i.words) 0) (slice_index (drop 1 i.words) 1) f (drop 3 (drop 1 i.words)) ∷ rest) (fourth_word i.words)

fails_first : (a b : Bool) → ((false || a) && b) ≡ true → a ≡ false → ⊥
fails_first true b h e = cc e
fails_first false b h e = cc h

module _ (functions : ℕ → Option Function) where
  no_call_by : (b : Bool) (s : Statement) (o : ℕ) (rest : List Statement) → is_kind o s ≡ true → (o == op.FUNCTION_CALL) ≡ false → CallsKnown functions rest
      → CallsKnown functions (cond b rest (s ∷ rest))
  no_call_by true s o rest h e known = known
  no_call_by false (says.FunctionCall t r function arguments) o rest h e known =
      absurd (fails_first (o == op.FUNCTION_CALL) (true || o == op.ENTRY_POINT) h e)
  no_call_by false other o rest h e known = known

  -- a call names a function that is known
  abbrev pub KnowsCallee : Instruction → Type 0
  KnowsCallee i = opcode i ≡ op.FUNCTION_CALL → IsSome (functions (slice_index i.words 3))

  -- by induction on the instructions
  pub calls_are_known : (is : List Instruction) → AllByRecursion KnowsCallee is → CallsKnown functions (statements_in (words_of is))
  unfolding statements_in
  calls_are_known [] h = tt
  calls_are_known (i ∷ is) h = by (opcode i == op.FUNCTION_CALL) refl (calls_are_known is h.1) where
    by : (b : Bool) → (opcode i == op.FUNCTION_CALL) ≡ b → CallsKnown functions (statements_in (words_of is))
        → CallsKnown functions (said i.words (statements_in (words_of is)))
    by true e known =
        let call = equal_true (opcode i) op.FUNCTION_CALL e in
        subst (CallsKnown functions) (sym (call_said i (statements_in (words_of is)) call)) (h.0 call, known)
    by false e known =
        no_call_by (is_silent_opcode (opcode i)) (by_row (lookup (nat_eq (opcode i)) rows) (drop 1 i.words)) (opcode i) (statements_in (words_of is))
        (lookup_kind rows rows_said (opcode i) (drop 1 i.words)) e known

-- ---- entry points

entry_said : (i : Instruction) (rest : List Statement) → opcode i ≡ op.ENTRY_POINT
    → said i.words rest ≡ says.EntryPoint (slice_index i.words 2) (name_in (drop 2 (drop 1 i.words))) ∷ rest
entry_said i rest e =
    ap (λ o. cond (is_silent_opcode o) rest (by_row (lookup (nat_eq o) rows) (drop 1 i.words) ∷ rest)) e
    ∙ ap (λ f. says.EntryPoint f (name_in (drop 2 (drop 1 i.words))) ∷ rest) (third_word i.words)

fails_second : (a b : Bool) → ((true || a) && (false || b)) ≡ true → b ≡ false → ⊥
fails_second a true h e = cc e
fails_second a false h e = cc h

no_entry_by : (b : Bool) (s : Statement) (o : ℕ) (rest : List Statement) (name : List ℕ) → is_kind o s ≡ true → (o == op.ENTRY_POINT) ≡ false
    → entry_function (cond b rest (s ∷ rest)) name ≡ entry_function rest name
no_entry_by true s o rest name h e = refl
no_entry_by false (says.EntryPoint function n) o rest name h e = absurd (fails_second (o == op.FUNCTION_CALL) (o == op.ENTRY_POINT) h e)
no_entry_by false other o rest name h e = refl

module _ (functions : ℕ → Option Function) (name : List ℕ) (f : ℕ) where
  -- an entry point enters a function that is known
  abbrev pub KnowsEntered : Instruction → Type 0
  KnowsEntered i = is_entry_point i ≡ true → IsSome (functions (slice_index i.words 2))

  named_by : (b : Bool) (function : ℕ) (rest : Option ℕ) → IsSome (functions function) → (rest ≡ Some f → IsSome (functions f))
      → cond b (Some function) rest ≡ Some f
      → IsSome (functions f)
  named_by true function rest known later e = let same : function ≡ f = cc e in subst (λ r. IsSome (functions r)) same known
  named_by false function rest known later e = later e

  -- by induction on the instructions
  pub entered_is_known : (is : List Instruction) → AllByRecursion KnowsEntered is → entry_function (statements_in (words_of is)) name ≡ Some f
      → IsSome (functions f)
  unfolding statements_in
  entered_is_known [] h e = absurd (cc e)
  entered_is_known (i ∷ is) h e = by (is_entry_point i) refl (entered_is_known is h.1) where
    rest : List Statement
    rest = statements_in (words_of is)

    by : (b : Bool) → is_entry_point i ≡ b → (entry_function rest name ≡ Some f → IsSome (functions f)) → IsSome (functions f)
    by true g later =
        named_by (pointwise nat_eq (name_in (drop 2 (drop 1 i.words))) name) (slice_index i.words 2) (entry_function rest name) (h.0 g) later
        (sym (ap (λ ss. entry_function ss name) (entry_said i rest (equal_true (opcode i) op.ENTRY_POINT g))) ∙ e)
    by false g later =
        later (sym (no_entry_by (is_silent_opcode (opcode i)) (by_row (lookup (nat_eq (opcode i)) rows) (drop 1 i.words)) (opcode i) rest name
        (lookup_kind rows rows_said (opcode i) (drop 1 i.words)) g) ∙ e)
