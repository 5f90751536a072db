-- The ids that a declaration reads the meanings and the decorations of are ids that it uses or defines; so what is kept reads of what stays.
use Rattle.std.proofs.Common.{◌&&◌, rules, ◌≡◌, ℕ, zero, suc, Bool, true, false, cond, not, nat_eq, ◌==◌, List, [], ◌∷◌, ◌++◌, drop, Some, refl, sym, ap, ap₂, subst, ◌∙◌, arith}
use Rattle.std.specs.Map.{lookup}
use Rattle.std.specs.List.{AllByRecursion, list_all, slice_index}
use Rattle.std.specs.Option.{option_map_or}
use Rattle.std.proofs.lemmas.Bool.{and_parts}
use Rattle.std.proofs.lemmas.Bool.Decides.{nat_tests}
use Rattle.spv_opcodes.specs.declared.op.TheConstants as op
use Rattle.spv_grammar.specs.Table.{row_of}
use Rattle.spv_module.specs.Instruction.{Instruction, IsInstruction, opcode, roles}
use Rattle.spv_meaning.specs.Statements as states
use Rattle.spv_meaning.specs.Statements.{Rows, Statement, by_row, constant_rows, flow_rows, memory_rows, module_rows, operation_rows, rows, spec_constant_op, type_rows}
use Rattle.spv_ids.specs.Ids.{used_ids}
use Rattle.spv_typing.specs.Operations.{spec_op_fits}
use Rattle.spv_declarations.proofs.Defining.{AllRows, row_holds, rows-append}
use Rattle.spv_declarations.proofs.Operations.{FitsForm, fitting-form, operands-known, operands_for, said-operation}
use Rattle.spv_declarations.proofs.Parts.{defined-plain, defined-typed, first_plain, first_typed, row_test, typed-words}
use Rattle.spv_alike_uses.specs.Alike.{Stays}
use Rattle.spv_alike_uses.proofs.Used.{end_uses, used_word, used_words, word_uses}
use Rattle.spv_thinned.specs.Thinned.{IsKept}
use Rattle.spv_thinned.proofs.Places.{first_type, itself}
use Rattle.spv_thinned.proofs.Said.{st_of, word_behind}

-- what a statement reads is so
abbrev pub Reads : (S : ℕ → Type 0) → Statement → Type 0
Reads S (states.TypeVector r component count) = S component
Reads S (states.TypeArray r element length) = S r × S element × S length
Reads S (states.TypeRuntimeArray r element) = S r × S element
Reads S (states.TypeStruct r members) = S r × AllByRecursion S members
Reads S (states.TypePointer r class target) = S target
Reads S (states.Constant t r words) = S t
Reads S (states.ConstantComposite t r parts) = S t × AllByRecursion S parts
Reads S (states.ConstantNull t r) = S t
Reads S (states.Undef t r) = S t
Reads S (states.SpecConstant t r words) = S t × S r
Reads S (states.SpecConstantOp computation t r operands) = S t × AllByRecursion S operands
Reads S (states.Variable t r class initialiser) = S t × AllByRecursion S initialiser
Reads S other = Unit {0}

-- ---- rows that read nothing

module _ (S : ℕ → Type 0) where
  abbrev IsStill : ℕ → (List ℕ → Statement) → Type 0
  IsStill o row = (ws : List ℕ) → Reads S (row ws)

  mode_still : (b : Bool) (function : ℕ) (literals : List ℕ) → Reads S (cond b (states.LocalSize function literals) states.Unknown)
  mode_still true function literals = tt
  mode_still false function literals = tt

  mode_by_ids_still : (b : Bool) (function : ℕ) (literals : List ℕ) → Reads S (cond b (states.LocalSizeId function literals) states.Unknown)
  mode_by_ids_still true function literals = tt
  mode_by_ids_still false function literals = tt

  module_still : AllRows IsStill module_rows
  module_still = search (rules, mode_still, mode_by_ids_still)

  flow_still : AllRows IsStill flow_rows
  flow_still = search rules

  memory_still : AllRows IsStill memory_rows
  memory_still = search rules

  operations_still : AllRows IsStill operation_rows
  operations_still = search rules

abbrev no_words : List ℕ
no_words = []

none_behind : (k : ℕ) → drop k no_words ≡ no_words
none_behind zero = refl
none_behind (suc k) = refl

drop_behind : (ws : List ℕ) (k : ℕ) → drop k (drop 1 ws) ≡ drop (suc k) ws
drop_behind [] k = none_behind k
drop_behind (w ∷ ws) k = refl

-- ---- operands of OpSpecConstantOp

not_gone : (gone : ℕ → Bool) (ids : List ℕ) → AllByRecursion (Stays gone) ids → list_all (λ id. not (gone id)) ids ≡ true
not_gone gone [] all = refl
not_gone gone (id ∷ ids) all = ap₂ (λ (a b : Bool). not a && b) all.0 (not_gone gone ids all.1)

not_true : (b : Bool) → not b ≡ true → b ≡ false
not_true true h = absurd (cc h)
not_true false h = refl

none_gone : (gone : ℕ → Bool) (ids : List ℕ) → list_all (λ id. not (gone id)) ids ≡ true → AllByRecursion (Stays gone) ids
none_gone gone [] h = tt
none_gone gone (id ∷ ids) h =
    let parts = and_parts (not (gone id)) (list_all (λ id. not (gone id)) ids) h in
    (not_true (gone id) parts.0, none_gone gone ids parts.1)

pub operands_stay : (gone : ℕ → Bool) (insts : List Instruction) (i : Instruction) → IsInstruction i.words (roles i) → IsKept gone i
    → opcode i ≡ op.SPEC_CONSTANT_OP → (f : FitsForm insts i.words) → AllByRecursion (Stays gone) (operands_for f.form (drop 4 i.words))
operands_stay gone insts i whole kept is f =
    none_gone gone (operands_for f.form (drop 4 i.words))
    (operands-known (λ id. not (gone id)) insts i f.form whole is f.is f.fit (not_gone gone (used_ids i) kept.used))

-- ---- an instruction that is kept

module _ (gone : ℕ → Bool) (i : Instruction) (whole : IsInstruction i.words (roles i)) (kept : IsKept gone i) where
  abbrev S : ℕ → Type 0
  S id = Stays gone id

  -- the result stays, and so does its type
  plain_stays : row_test first_plain (row_of (opcode i)) ≡ true → S (slice_index (drop 1 i.words) 0)
  plain_stays plain =
      kept.defined (slice_index (drop 1 i.words) 0)
      (ap (λ o. option_map_or (nat_eq (slice_index (drop 1 i.words) 0)) o false) (defined-plain i whole plain) ∙ itself (slice_index (drop 1 i.words) 0))

  typed_stays : row_test first_typed (row_of (opcode i)) ≡ true → S (slice_index (drop 1 i.words) 1)
  typed_stays typed =
      kept.defined (slice_index (drop 1 i.words) 1)
      (ap (λ o. option_map_or (nat_eq (slice_index (drop 1 i.words) 1)) o false) (defined-typed i whole typed) ∙ itself (slice_index (drop 1 i.words) 1))

  pub result_stays : row_test first_typed (row_of (opcode i)) ≡ true → S (slice_index i.words 2)
  result_stays typed = subst S (word_behind i.words 1) (typed_stays typed)

  pub plain_result_stays : row_test first_plain (row_of (opcode i)) ≡ true → S (slice_index i.words 1)
  plain_result_stays plain = subst S (word_behind i.words 0) (plain_stays plain)

  pub type_stays : row_test first_typed (row_of (opcode i)) ≡ true → S (slice_index i.words 1)
  type_stays typed = first_type gone i (typed-words i (opcode i) whole refl typed) kept.used

  -- ---- by its row

  plain_by : (o : ℕ) → row_test first_plain (row_of o) ≡ true → opcode i ≡ o → S (slice_index (drop 1 i.words) 0)
  plain_by o h is = plain_stays (ap (λ o. row_test first_plain (row_of o)) is ∙ h)

  typed_by : (o : ℕ) → row_test first_typed (row_of o) ≡ true → opcode i ≡ o → S (slice_index (drop 1 i.words) 1)
  typed_by o h is = typed_stays (ap (λ o. row_test first_typed (row_of o)) is ∙ h)

  word : (k o : ℕ) → word_uses k o ≡ true → opcode i ≡ o → S (slice_index (drop 1 i.words) k)
  word k o h is = subst S (sym (word_behind i.words k)) (used_word S i whole kept.used k (ap (word_uses k) is ∙ h))

  words : (k o : ℕ) → end_uses k o ≡ true → opcode i ≡ o → AllByRecursion S (drop k (drop 1 i.words))
  words k o h is = subst (AllByRecursion S) (sym (drop_behind i.words k)) (used_words S i whole kept.used k (ap (end_uses k) is ∙ h))

  abbrev ReadsIts : ℕ → (List ℕ → Statement) → Type 0
  ReadsIts o row = opcode i ≡ o → Reads S (row (drop 1 i.words))

  still_read : (given : Rows) → AllRows (IsStill S) given → AllRows ReadsIts given
  still_read [] h = tt
  still_read (row ∷ rest) h = (λ is. h.0 (drop 1 i.words), still_read rest h.1)

  types_read : AllRows ReadsIts type_rows
  unfolding row_of
  types_read = (
    λ is. tt,
    (
      λ is. tt,
      (
        λ is. word 1 op.TYPE_VECTOR refl is,
        (
          λ is. (plain_by op.TYPE_ARRAY refl is, word 1 op.TYPE_ARRAY refl is, word 2 op.TYPE_ARRAY refl is),
          (
            λ is. (plain_by op.TYPE_RUNTIME_ARRAY refl is, word 1 op.TYPE_RUNTIME_ARRAY refl is),
            (λ is. (plain_by op.TYPE_STRUCT refl is, words 1 op.TYPE_STRUCT refl is), (λ is. word 2 op.TYPE_POINTER refl is, tt)),
          ),
        ),
      ),
    ),
  )

  constants_read : AllRows ReadsIts constant_rows
  unfolding row_of
  constants_read = (
    λ is. word 0 op.CONSTANT_TRUE refl is,
    (
      λ is. word 0 op.CONSTANT_FALSE refl is,
      (
        λ is. word 0 op.CONSTANT refl is,
        (
          λ is. (word 0 op.CONSTANT_COMPOSITE refl is, words 2 op.CONSTANT_COMPOSITE refl is),
          (
            λ is. word 0 op.CONSTANT_NULL refl is,
            (
              λ is. (word 0 op.SPEC_CONSTANT_TRUE refl is, typed_by op.SPEC_CONSTANT_TRUE refl is),
              (
                λ is. (word 0 op.SPEC_CONSTANT_FALSE refl is, typed_by op.SPEC_CONSTANT_FALSE refl is),
                (
                  λ is. (word 0 op.SPEC_CONSTANT refl is, typed_by op.SPEC_CONSTANT refl is),
                  (
                    λ is. (word 0 op.SPEC_CONSTANT_COMPOSITE refl is, words 2 op.SPEC_CONSTANT_COMPOSITE refl is),
                    (λ is. word 0 op.UNDEF refl is, (λ is. (word 0 op.VARIABLE refl is, words 3 op.VARIABLE refl is), tt)),
                  ),
                ),
              ),
            ),
          ),
        ),
      ),
    ),
  )

  operation_typed : row_test first_typed (row_of op.SPEC_CONSTANT_OP) ≡ true
  unfolding row_of
  operation_typed = refl

  module _ (insts : List Instruction) (fits : opcode i ≡ op.SPEC_CONSTANT_OP → spec_op_fits insts i ≡ true) where
    operation_reads : ReadsIts op.SPEC_CONSTANT_OP spec_constant_op
    operation_reads is =
        let f = fitting-form insts i is (fits is) in
        subst (Reads S) (sym (said-operation i f.form whole is f.is)) (
          type_stays (ap (λ o. row_test first_typed (row_of o)) is ∙ operation_typed),
          operands_stay gone insts i whole kept is f,
        )

    rows_read : AllRows ReadsIts rows
    rows_read =
        rows-append ReadsIts module_rows
        (type_rows ++ (constant_rows ++ ((op.SPEC_CONSTANT_OP, spec_constant_op) ∷ (flow_rows ++ (memory_rows ++ operation_rows)))))
        (still_read module_rows (module_still S))
        (rows-append ReadsIts type_rows (constant_rows ++ ((op.SPEC_CONSTANT_OP, spec_constant_op) ∷ (flow_rows ++ (memory_rows ++ operation_rows)))) types_read
        (rows-append ReadsIts constant_rows ((op.SPEC_CONSTANT_OP, spec_constant_op) ∷ (flow_rows ++ (memory_rows ++ operation_rows))) constants_read (
          operation_reads,
          rows-append ReadsIts flow_rows (memory_rows ++ operation_rows) (still_read flow_rows (flow_still S))
              (rows-append ReadsIts memory_rows operation_rows (still_read memory_rows (memory_still S)) (still_read operation_rows (operations_still S))),
        )))

    pub reads_what_stays : Reads S (st_of (opcode i) (drop 1 i.words))
    reads_what_stays = row_holds ReadsIts (opcode i) rows (λ is. tt) rows_read refl
