-- What the instructions of a function say: a function, and behind it nothing that is said of a module as a whole and no other function.
use Rattle.std.proofs.Common.{◌≡◌, ℕ, Bool, true, false, cond, nat_eq, ◌==◌, ◌||◌, List, [], ◌∷◌, ◌++◌, Option, Some, refl, sym, ap, ◌∙◌, subst, drop, take}
use Rattle.std.specs.Prelude.{All, slice_index}
use Rattle.std.specs.List.{AllByRecursion}
use Rattle.std.specs.Map.{lookup}
use Rattle.std.proofs.lemmas.List.Elements.{All-head, All-tail}
use Rattle.spv_opcodes.specs.declared.op.TheConstants as op
use Rattle.spv_grammar.specs.Table.{row_of}
use Rattle.spv_module.specs.Instruction.{Instruction, opcode}
use Rattle.spv_meaning.specs.Statements as says
use Rattle.spv_meaning.specs.Statements.{Statement, Rows, said, by_row, rows, module_rows, type_rows, constant_rows, flow_rows, memory_rows, operation_rows, of_constants, spec_constant_op, is_silent_opcode, statements_in, words_of}
use Rattle.spv_walk.proofs.Unique.{equal_true}
use Rattle.spv_tree.specs.Sound.{is_one_of, is_step, opcode_in}
use Rattle.spv_spelling.specs.Whole.{block_marks, is_in_block, IsText}
use Rattle.spv_trees.proofs.Spelling.{said_front}
use Rattle.spv_standing.proofs.Lines.{says_append}
use Rattle.spv_norm_means.proofs.Outside.{AllInner}

-- what may stand behind the OpFunction
abbrev pub is_within : Statement → Bool
is_within (says.Function r) = false
is_within (says.EntryPoint function name) = false
is_within (says.LocalSize function sizes) = false
is_within (says.LocalSizeId function sizes) = false
is_within (says.Decorate target kind literals) = false
is_within (says.MemberDecorate target member kind literals) = false
is_within (says.TypeArray r element length) = false
is_within other = true

abbrev pub AllWithin : List Statement → Type 0
AllWithin ss = AllByRecursion (λ s. is_within s ≡ true) ss

pub within_inner : (ss : List Statement) → AllWithin ss → AllInner ss
within_inner [] h = tt
within_inner (says.Function r ∷ ss) h = absurd (cc)
within_inner (says.EntryPoint function name ∷ ss) h = absurd (cc)
within_inner (says.LocalSize function sizes ∷ ss) h = absurd (cc)
within_inner (says.LocalSizeId function sizes ∷ ss) h = absurd (cc)
within_inner (says.Decorate target kind literals ∷ ss) h = absurd (cc)
within_inner (says.MemberDecorate target member kind literals ∷ ss) h = absurd (cc)
within_inner (says.TypeArray r element length ∷ ss) h = absurd (cc)
within_inner (other ∷ ss) h = (refl, within_inner ss h.1)

-- ---- rows

-- the opcodes of what may not
abbrev is_outer : (opcode : ℕ) → Bool
is_outer o =
    o == op.FUNCTION || (o == op.ENTRY_POINT || (o == op.EXECUTION_MODE || (o == op.EXECUTION_MODE_ID
    || (o == op.DECORATE || (o == op.MEMBER_DECORATE || o == op.TYPE_ARRAY)))))

abbrev is_kind : (opcode : ℕ) → Statement → Bool
is_kind o s = is_outer o || is_within s

abbrev RowKind : ℕ × (List ℕ → Statement) → Type 0
RowKind row = (ws : List ℕ) → is_kind row.0 (row.1 ws) ≡ true

of_constants_said : (s : Statement) → is_kind op.SPEC_CONSTANT_OP (of_constants s) ≡ true
of_constants_said (says.Operation computation t r operands) = refl
of_constants_said other = refl

all_append : (a b : Rows) → AllByRecursion RowKind a → AllByRecursion RowKind b → AllByRecursion RowKind (a ++ b)
all_append [] b h g = g
all_append (row ∷ a) b h g = (h.0, all_append a b h.1 g)

module_said : AllByRecursion RowKind module_rows
module_said = search

types_said : AllByRecursion RowKind type_rows
types_said = search

constants_said : AllByRecursion RowKind constant_rows
constants_said = search

flow_said : AllByRecursion RowKind flow_rows
flow_said = search

memory_said : AllByRecursion RowKind memory_rows
memory_said = search

operations_said : AllByRecursion RowKind operation_rows
operations_said = search

rows_said : AllByRecursion RowKind rows
rows_said =
    all_append module_rows (type_rows ++ (constant_rows ++ ((op.SPEC_CONSTANT_OP, spec_constant_op) ∷
    (flow_rows ++ (memory_rows ++ operation_rows))))) module_said
    (all_append type_rows (constant_rows ++ ((op.SPEC_CONSTANT_OP, spec_constant_op) ∷ (flow_rows ++ (memory_rows ++ operation_rows)))) types_said
    (all_append constant_rows ((op.SPEC_CONSTANT_OP, spec_constant_op) ∷ (flow_rows ++ (memory_rows ++ operation_rows))) constants_said (
      (λ ws. of_constants_said (by_row (lookup (nat_eq (slice_index ws 2)) operation_rows) (take 2 ws ++ drop 3 ws))),
      all_append flow_rows (memory_rows ++ operation_rows) flow_said (all_append memory_rows operation_rows memory_said operations_said),
    )))

found_kind : (b : Bool) (o : ℕ) (row : ℕ × (List ℕ → Statement)) (others : Option (List ℕ → Statement)) (ws : List ℕ) → nat_eq o row.0 ≡ b
    → is_kind row.0 (row.1 ws) ≡ true → is_kind o (by_row others ws) ≡ true → is_kind o (by_row (cond b (Some row.1) others) ws) ≡ true
found_kind true o row others ws e h g = subst (λ k. is_kind k (row.1 ws) ≡ true) (sym (equal_true o row.0 e)) h
found_kind false o row others ws e h g = g

or_true : (b : Bool) → (b || true) ≡ true
or_true true = refl
or_true false = refl

lookup_kind : (list : Rows) → AllByRecursion RowKind list → (o : ℕ) (ws : List ℕ) → is_kind o (by_row (lookup (nat_eq o) list) ws) ≡ true
lookup_kind [] h o ws = or_true (is_outer o)
lookup_kind (row ∷ list) h o ws = found_kind (nat_eq o row.0) o row (lookup (nat_eq o) list) ws refl (h.0 ws) (lookup_kind list h.1 o ws)

kind_within : (a b : Bool) → (a || b) ≡ true → a ≡ false → b ≡ true
kind_within true b h e = absurd (cc)
kind_within false b h e = h

said_within : (words : List ℕ) → is_outer (opcode_in words) ≡ false → AllWithin (said words [])
said_within words h =
    by_silence (is_silent_opcode (opcode_in words))
    (kind_within (is_outer (opcode_in words)) (is_within (by_row (lookup (nat_eq (opcode_in words)) rows) (drop 1 words)))
    (lookup_kind rows rows_said (opcode_in words) (drop 1 words)) h) where
      by_silence : (b : Bool) → is_within (by_row (lookup (nat_eq (opcode_in words)) rows) (drop 1 words)) ≡ true
          → AllWithin (cond b [] (by_row (lookup (nat_eq (opcode_in words)) rows) (drop 1 words) ∷ []))
      by_silence true g = tt
      by_silence false g = (g, tt)

-- ---- what stands in functions

either_gives : {P : Type 0} (a b : Bool) → (a ≡ true → P) → (b ≡ true → P) → (a || b) ≡ true → P
either_gives true b f g h = f refl
either_gives false b f g h = g h

abbrev in_block : ℕ → Bool
in_block o =
    o == op.LABEL || (o == op.BRANCH || o == op.BRANCH_CONDITIONAL || o == op.SWITCH || o == op.RETURN || o == op.RETURN_VALUE || o == op.UNREACHABLE)
    || is_step o || is_one_of block_marks o

outer_in_no_block : (o : ℕ) → is_outer o ≡ true → in_block o ≡ false
unfolding row_of
outer_in_no_block o h =
    let five : Bool = o == op.MEMBER_DECORATE || o == op.TYPE_ARRAY in
    let four : Bool = o == op.DECORATE || five in
    let three : Bool = o == op.EXECUTION_MODE_ID || four in
    let two : Bool = o == op.EXECUTION_MODE || three in
    let one : Bool = o == op.ENTRY_POINT || two in
    either_gives (o == op.FUNCTION) one (at op.FUNCTION refl)
    (either_gives (o == op.ENTRY_POINT) two (at op.ENTRY_POINT refl)
    (either_gives (o == op.EXECUTION_MODE) three (at op.EXECUTION_MODE refl)
    (either_gives (o == op.EXECUTION_MODE_ID) four (at op.EXECUTION_MODE_ID refl)
    (either_gives (o == op.DECORATE) five (at op.DECORATE refl)
    (either_gives (o == op.MEMBER_DECORATE) (o == op.TYPE_ARRAY) (at op.MEMBER_DECORATE refl) (at op.TYPE_ARRAY refl)))))) h
  where
    at : (k : ℕ) → in_block k ≡ false → (o == k) ≡ true → in_block o ≡ false
    at k p e = subst (λ q. in_block q ≡ false) (sym (equal_true o k e)) p

block_is_within : (o : ℕ) → in_block o ≡ true → is_outer o ≡ false
block_is_within o h = by (is_outer o) refl where
  by : (b : Bool) → is_outer o ≡ b → b ≡ false
  by true e = absurd (cc (outer_in_no_block o e, h))
  by false e = refl

-- ---- lists of instructions

all_within_both : (a b : List Statement) → AllWithin a → AllWithin b → AllWithin (a ++ b)
all_within_both [] b h g = g
all_within_both (s ∷ a) b h g = (h.0, all_within_both a b h.1 g)

one_more : (i : Instruction) (is : List Instruction) → is_outer (opcode i) ≡ false → AllWithin (statements_in (words_of is)) → AllWithin (statements_in (words_of (i ∷ is)))
unfolding statements_in
one_more i is h g =
    subst AllWithin (sym (said_front i.words (statements_in (words_of is))))
    (all_within_both (said i.words []) (statements_in (words_of is)) (said_within i.words h) g)

none_within : AllWithin (statements_in (words_of []))
unfolding statements_in
none_within = tt

parameters_within : (is : List Instruction) → All (λ i. opcode i ≡ op.FUNCTION_PARAMETER) is → AllWithin (statements_in (words_of is))
parameters_within [] h = none_within
parameters_within (i ∷ is) h =
    one_more i is (ap is_outer (All-head (λ j. opcode j ≡ op.FUNCTION_PARAMETER) i is h))
    (parameters_within is (All-tail (λ j. opcode j ≡ op.FUNCTION_PARAMETER) i is h))

blocks_within : (is : List Instruction) → All (λ i. is_in_block i ≡ true) is → AllWithin (statements_in (words_of is))
blocks_within [] h = none_within
blocks_within (i ∷ is) h =
    one_more i is (block_is_within (opcode i) (All-head (λ j. is_in_block j ≡ true) i is h))
    (blocks_within is (All-tail (λ j. is_in_block j ≡ true) i is h))

-- an OpFunction says a function
second_behind : (words : List ℕ) → slice_index (drop 1 words) 1 ≡ slice_index words 2
second_behind [] = refl
second_behind (w ∷ ws) = refl

pub function_said : (words : List ℕ) (rest : List Statement) → opcode_in words ≡ op.FUNCTION → said words rest ≡ says.Function (slice_index words 2) ∷ rest
function_said words rest h =
    ap (λ o. cond (is_silent_opcode o) rest (by_row (lookup (nat_eq o) rows) (drop 1 words) ∷ rest)) h
    ∙ ap (λ r. says.Function r ∷ rest) (second_behind words)

-- all that a function says
pub record SaysFunction (ss : List Statement) (r : ℕ) : Type 0 where
  pub rest : List Statement
  pub same : ss ≡ says.Function r ∷ rest
  pub within : AllWithin rest

pub text_says : (insts : List Instruction) (t : IsText insts) → SaysFunction (statements_in (words_of insts)) (slice_index t.function.words 2)
unfolding statements_in
text_says insts t =
    let behind : List Instruction = t.parameters ++ (t.label ∷ t.blocks) ++ t.last ∷ [] in
    record {
      rest = statements_in (words_of behind);
      same = ap (λ x. statements_in (words_of x)) t.same ∙ function_said t.function.words (statements_in (words_of behind)) t.begins;
      within =
          subst AllWithin (sym (says_append (t.parameters ++ (t.label ∷ t.blocks)) (t.last ∷ [])
          ∙ ap (λ z. z ++ statements_in (words_of (t.last ∷ []))) (says_append t.parameters (t.label ∷ t.blocks))))
          (all_within_both (statements_in (words_of t.parameters) ++ statements_in (words_of (t.label ∷ t.blocks))) (statements_in (words_of (t.last ∷ [])))
          (all_within_both (statements_in (words_of t.parameters)) (statements_in (words_of (t.label ∷ t.blocks)))
          (parameters_within t.parameters t.takes)
          (one_more t.label t.blocks (ap is_outer (equal_true (opcode t.label) op.LABEL t.first)) (blocks_within t.blocks t.inside)))
          (one_more t.last [] (ap is_outer t.ends) none_within));
    }
