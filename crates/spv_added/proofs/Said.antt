-- A declaration says nothing that decorates an id or a member: the same decorations stand in both modules.
use Rattle.std.proofs.Common.{rules, ◌≡◌, ℕ, Bool, true, false, cond, nat_eq, ◌==◌, ◌&&◌, List, [], ◌∷◌, ◌++◌, drop, Some, refl, sym, ap, ◌∙◌}
use Rattle.std.specs.Map.{lookup}
use Rattle.std.specs.List.{slice_index}
use Rattle.spv_opcodes.specs.declared.op.TheConstants as op
use Rattle.spv_grammar.specs.Operands.{opcode_of}
use Rattle.spv_grammar.specs.Table.{row_of}
use Rattle.spv_module.specs.Instruction.{Instruction, opcode}
use Rattle.spv_meaning.specs.Constants.{decorated, member_decorated}
use Rattle.spv_meaning.specs.Statements as states
use Rattle.spv_meaning.specs.Statements.{Statement, by_row, constant_rows, flow_rows, is_silent_opcode, memory_rows, module_rows, of_constants, operation_rows, rows, said, spec_constant_op, statements_in, type_rows}
use Rattle.spv_typing.specs.Kinds.{is_one_of}
use Rattle.spv_declarations.specs.Declarations.{says}
use Rattle.spv_declarations.proofs.Defining.{AllRows, rows-append, row_holds}
use Rattle.spv_added.proofs.Walk.{Adding, along, is_foreign, not_one_of}

-- ---- statements

-- it decorates nothing
abbrev is_quiet : Statement → Bool
is_quiet (states.Decorate target what literals) = false
is_quiet (states.MemberDecorate target member what literals) = false
is_quiet other = true

quiet_decorated : (st : Statement) (rest : List Statement) (id d : ℕ) → is_quiet st ≡ true → decorated (st ∷ rest) id d ≡ decorated rest id d
quiet_decorated (states.Decorate target what literals) rest id d h = absurd (cc h)
quiet_decorated other rest id d h = refl

quiet_members : (st : Statement) (rest : List Statement) (id n d : ℕ) → is_quiet st ≡ true → member_decorated (st ∷ rest) id n d ≡ member_decorated rest id n d
quiet_members (states.MemberDecorate target member what literals) rest id n d h = absurd (cc h)
quiet_members other rest id n d h = refl

-- ---- rows

abbrev loud : List ℕ
loud = op.DECORATE ∷ op.MEMBER_DECORATE ∷ []

abbrev IsQuiet : ℕ → (List ℕ → Statement) → Type 0
IsQuiet o row = is_one_of loud o ≡ false → (ws : List ℕ) → is_quiet (row ws) ≡ true

mode_quiet : (b : Bool) (function : ℕ) (literals : List ℕ) → is_quiet (cond b (states.LocalSize function literals) states.Unknown) ≡ true
mode_quiet true function literals = refl
mode_quiet false function literals = refl

mode_by_ids_quiet : (b : Bool) (function : ℕ) (literals : List ℕ) → is_quiet (cond b (states.LocalSizeId function literals) states.Unknown) ≡ true
mode_by_ids_quiet true function literals = refl
mode_by_ids_quiet false function literals = refl

computed_quiet : (st : Statement) → is_quiet (of_constants st) ≡ true
computed_quiet (states.Operation computation t r operands) = refl
computed_quiet other = refl

module_quiet : AllRows IsQuiet module_rows
module_quiet = search (rules, mode_quiet, mode_by_ids_quiet)

types_quiet : AllRows IsQuiet type_rows
types_quiet = search rules

constants_quiet : AllRows IsQuiet constant_rows
constants_quiet = search rules

flow_quiet : AllRows IsQuiet flow_rows
flow_quiet = search rules

memory_quiet : AllRows IsQuiet memory_rows
memory_quiet = search rules

operations_quiet : AllRows IsQuiet operation_rows
operations_quiet = search rules

rows_quiet : AllRows IsQuiet rows
rows_quiet =
    rows-append IsQuiet module_rows
    (type_rows ++ (constant_rows ++ ((op.SPEC_CONSTANT_OP, spec_constant_op) ∷ (flow_rows ++ (memory_rows ++ operation_rows))))) module_quiet
    (rows-append IsQuiet type_rows (constant_rows ++ ((op.SPEC_CONSTANT_OP, spec_constant_op) ∷ (flow_rows ++ (memory_rows ++ operation_rows)))) types_quiet
    (rows-append IsQuiet constant_rows ((op.SPEC_CONSTANT_OP, spec_constant_op) ∷ (flow_rows ++ (memory_rows ++ operation_rows))) constants_quiet (
      λ h ws. computed_quiet _,
      rows-append IsQuiet flow_rows (memory_rows ++ operation_rows) flow_quiet (rows-append IsQuiet memory_rows operation_rows memory_quiet operations_quiet),
    )))

abbrev st_of : (o : ℕ) → List ℕ → Statement
st_of o ws = by_row (lookup (nat_eq o) rows) ws

all_quiet : (o : ℕ) (ws : List ℕ) → is_one_of loud o ≡ false → is_quiet (st_of o ws) ≡ true
all_quiet o ws h = row_holds IsQuiet o rows (λ h ws. refl) rows_quiet h ws

loud_foreign : (is_foreign op.DECORATE ≡ true) × (is_foreign op.MEMBER_DECORATE ≡ true)
unfolding row_of
loud_foreign = (refl, refl)

-- ---- one statement in front of the same

front_decorated : (ws : List ℕ) (xs ys : List Statement) (id k : ℕ) → decorated xs id k ≡ decorated ys id k
    → decorated (said ws xs) id k ≡ decorated (said ws ys) id k
front_decorated ws xs ys id k h = by (is_silent_opcode (opcode_of (slice_index ws 0))) (st_of (opcode_of (slice_index ws 0)) (drop 1 ws))
  where
    by : (b : Bool) (st : Statement) → decorated (cond b xs (st ∷ xs)) id k ≡ decorated (cond b ys (st ∷ ys)) id k
    by true st = h
    by false (states.Decorate target what literals) = ap (λ o. cond (target == id && what == k) (Some literals) o) h
    by false other = h

front_members : (ws : List ℕ) (xs ys : List Statement) (id n k : ℕ) → member_decorated xs id n k ≡ member_decorated ys id n k
    → member_decorated (said ws xs) id n k ≡ member_decorated (said ws ys) id n k
front_members ws xs ys id n k h = by (is_silent_opcode (opcode_of (slice_index ws 0))) (st_of (opcode_of (slice_index ws 0)) (drop 1 ws))
  where
    by : (b : Bool) (st : Statement) → member_decorated (cond b xs (st ∷ xs)) id n k ≡ member_decorated (cond b ys (st ∷ ys)) id n k
    by true st = h
    by false (states.MemberDecorate target member what literals) = ap (λ o. cond (target == id && (member == n && what == k)) (Some literals) o) h
    by false other = h

said_more : (i : Instruction) (is : List Instruction) → says (i ∷ is) ≡ said i.words (says is)
unfolding statements_in
said_more i is = refl

-- ---- in both modules

module _ (t : Adding) where
  new_quiet : is_one_of loud (opcode t.new) ≡ false
  new_quiet = not_one_of t.new t.added.section loud (λ k. loud_foreign.0 k && (loud_foreign.1 k && true))

  new_decorated : (rest : List Statement) (id k : ℕ) → decorated (said t.new.words rest) id k ≡ decorated rest id k
  new_decorated rest id k = by (is_silent_opcode (opcode t.new))
    where
      by : (b : Bool) → decorated (cond b rest (st_of (opcode t.new) (drop 1 t.new.words) ∷ rest)) id k ≡ decorated rest id k
      by true = refl
      by false = quiet_decorated (st_of (opcode t.new) (drop 1 t.new.words)) rest id k (all_quiet (opcode t.new) (drop 1 t.new.words) new_quiet)

  new_members : (rest : List Statement) (id n k : ℕ) → member_decorated (said t.new.words rest) id n k ≡ member_decorated rest id n k
  new_members rest id n k = by (is_silent_opcode (opcode t.new))
    where
      by : (b : Bool) → member_decorated (cond b rest (st_of (opcode t.new) (drop 1 t.new.words) ∷ rest)) id n k ≡ member_decorated rest id n k
      by true = refl
      by false = quiet_members (st_of (opcode t.new) (drop 1 t.new.words)) rest id n k (all_quiet (opcode t.new) (drop 1 t.new.words) new_quiet)

  module _ (id k : ℕ) where
    abbrev Same : List Instruction → List Instruction → Type 0
    Same is js = decorated (says js) id k ≡ decorated (says is) id k

    pub same_decorations : decorated (says t.after) id k ≡ decorated (says t.before) id k
    same_decorations =
        along t Same refl
        (λ j is js b w h. ap (λ z. decorated z id k) (said_more j js ∙ ap (λ ws. said ws (says js)) w) ∙ new_decorated (says js) id k ∙ h)
        (λ i j is js f w h. ap (λ z. decorated z id k) (said_more j js ∙ ap (λ ws. said ws (says js)) w)
        ∙ front_decorated i.words (says js) (says is) id k h ∙ sym (ap (λ z. decorated z id k) (said_more i is)))

  module _ (id n k : ℕ) where
    abbrev SameMember : List Instruction → List Instruction → Type 0
    SameMember is js = member_decorated (says js) id n k ≡ member_decorated (says is) id n k

    pub same_members : member_decorated (says t.after) id n k ≡ member_decorated (says t.before) id n k
    same_members =
        along t SameMember refl
        (λ j is js b w h. ap (λ z. member_decorated z id n k) (said_more j js ∙ ap (λ ws. said ws (says js)) w) ∙ new_members (says js) id n k ∙ h)
        (λ i j is js f w h. ap (λ z. member_decorated z id n k) (said_more j js ∙ ap (λ ws. said ws (says js)) w)
        ∙ front_members i.words (says js) (says is) id n k h ∙ sym (ap (λ z. member_decorated z id n k) (said_more i is)))
