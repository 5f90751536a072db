-- What is rewritten says nothing that decorates an id or a member, or that has a meaning outside functions.
use Rattle.std.proofs.Common.{rules, ◌≡◌, inl, inr, ℕ, Bool, true, false, cond, nat_eq, ◌==◌, ◌&&◌, List, [], ◌∷◌, ◌++◌, drop, Some, None, refl, sym, ap, ◌∙◌, true≢false}
use Rattle.std.specs.Map.{lookup}
use Rattle.std.specs.List.{slice_index}
use Rattle.spv_opcodes.specs.declared.op.TheConstants as op
use Rattle.spv_grammar.specs.Operands.{opcode_of}
use Rattle.spv_module.specs.Instruction.{Instruction, opcode}
use Rattle.spv_meaning.specs.Constants.{Table, decorated, defined, member_decorated}
use Rattle.spv_meaning.specs.Statements as states
use Rattle.spv_meaning.specs.Statements.{Statement, by_row, constant_rows, flow_rows, is_silent_opcode, memory_rows, module_rows, operation_rows, rows, said, spec_constant_op, statements_in, type_rows}
use Rattle.spv_typing.specs.Kinds.{is_one_of}
use Rattle.spv_declarations.specs.Declarations.{entry, entry_of, says}
use Rattle.spv_declarations.proofs.Defining.{AllRows, row_holds, rows-append}
use Rattle.spv_alike_uses.proofs.Lookups.{each}
use Rattle.spv_alike_uses.specs.Alike.{firm_kinds}
use Rattle.spv_rewritten.specs.Rewritten.{EachAs, IsRewrittenAs, settled_kinds}
use Rattle.spv_rewritten.proofs.Common.{none_settled}
use Rattle.spv_rewritten.proofs.Pairs.{walk}

-- ---- quiet statements

-- it decorates nothing and has no meaning
abbrev is_quiet : Statement → Bool
is_quiet (states.Decorate target what literals) = false
is_quiet (states.MemberDecorate target member what literals) = false
is_quiet (states.TypeBool r) = false
is_quiet (states.TypeInt r width signedness) = false
is_quiet (states.TypeVector r component count) = false
is_quiet (states.TypeArray r element length) = false
is_quiet (states.TypeRuntimeArray r element) = false
is_quiet (states.TypeStruct r members) = false
is_quiet (states.TypePointer r class target) = false
is_quiet (states.Constant t r words) = false
is_quiet (states.ConstantComposite t r parts) = false
is_quiet (states.ConstantNull t r) = false
is_quiet (states.Undef t r) = false
is_quiet (states.SpecConstant t r words) = false
is_quiet (states.SpecConstantOp computation t r operands) = false
is_quiet (states.Variable t r class initialiser) = false
is_quiet other = true

quiet_decorated : (st : Statement) (rest : List Statement) (id d : ℕ) → is_quiet st ≡ true → decorated (st ∷ rest) id d ≡ decorated rest id d
quiet_decorated (states.Decorate target what literals) rest id d h = absurd (cc h)
quiet_decorated other rest id d h = refl

quiet_members : (st : Statement) (rest : List Statement) (id n d : ℕ) → is_quiet st ≡ true → member_decorated (st ∷ rest) id n d ≡ member_decorated rest id n d
quiet_members (states.MemberDecorate target member what literals) rest id n d h = absurd (cc h)
quiet_members other rest id n d h = refl

quiet_defined : (all : List Statement) (table : Table) (st : Statement) → is_quiet st ≡ true → defined all [] table st ≡ None
quiet_defined all table (states.TypeBool r) h = absurd (cc h)
quiet_defined all table (states.TypeInt r width signedness) h = absurd (cc h)
quiet_defined all table (states.TypeVector r component count) h = absurd (cc h)
quiet_defined all table (states.TypeArray r element length) h = absurd (cc h)
quiet_defined all table (states.TypeRuntimeArray r element) h = absurd (cc h)
quiet_defined all table (states.TypeStruct r members) h = absurd (cc h)
quiet_defined all table (states.TypePointer r class target) h = absurd (cc h)
quiet_defined all table (states.Constant t r words) h = absurd (cc h)
quiet_defined all table (states.ConstantComposite t r parts) h = absurd (cc h)
quiet_defined all table (states.ConstantNull t r) h = absurd (cc h)
quiet_defined all table (states.Undef t r) h = absurd (cc h)
quiet_defined all table (states.SpecConstant t r words) h = absurd (cc h)
quiet_defined all table (states.SpecConstantOp computation t r operands) h = absurd (cc h)
quiet_defined all table (states.Variable t r class initialiser) h = absurd (cc h)
quiet_defined all table other h = refl

-- ---- rows

-- the opcodes of all others
abbrev loud : List ℕ
loud = op.DECORATE ∷ op.MEMBER_DECORATE ∷ firm_kinds

abbrev IsQuiet : ℕ → (List ℕ → Statement) → Type 0
IsQuiet o row = is_one_of loud o ≡ false → (ws : List ℕ) → is_quiet (row ws) ≡ true

mode_quiet : (b : Bool) (function : ℕ) (literals : List ℕ) → is_quiet (cond b (states.LocalSize function literals) states.Unknown) ≡ true
mode_quiet true function literals = refl
mode_quiet false function literals = refl

mode_by_ids_quiet : (b : Bool) (function : ℕ) (literals : List ℕ) → is_quiet (cond b (states.LocalSizeId function literals) states.Unknown) ≡ true
mode_by_ids_quiet true function literals = refl
mode_by_ids_quiet false function literals = refl

module_quiet : AllRows IsQuiet module_rows
module_quiet = search (rules, mode_quiet, mode_by_ids_quiet)

types_quiet : AllRows IsQuiet type_rows
types_quiet = search rules

constants_quiet : AllRows IsQuiet constant_rows
constants_quiet = search rules

flow_quiet : AllRows IsQuiet flow_rows
flow_quiet = search rules

memory_quiet : AllRows IsQuiet memory_rows
memory_quiet = search rules

operations_quiet : AllRows IsQuiet operation_rows
operations_quiet = search rules

rows_quiet : AllRows IsQuiet rows
rows_quiet =
    rows-append IsQuiet module_rows
    (type_rows ++ (constant_rows ++ ((op.SPEC_CONSTANT_OP, spec_constant_op) ∷ (flow_rows ++ (memory_rows ++ operation_rows))))) module_quiet
    (rows-append IsQuiet type_rows (constant_rows ++ ((op.SPEC_CONSTANT_OP, spec_constant_op) ∷ (flow_rows ++ (memory_rows ++ operation_rows)))) types_quiet
    (rows-append IsQuiet constant_rows ((op.SPEC_CONSTANT_OP, spec_constant_op) ∷ (flow_rows ++ (memory_rows ++ operation_rows))) constants_quiet (
      λ h ws. absurd (true≢false h),
      rows-append IsQuiet flow_rows (memory_rows ++ operation_rows) flow_quiet (rows-append IsQuiet memory_rows operation_rows memory_quiet operations_quiet),
    )))

abbrev st_of : (o : ℕ) → List ℕ → Statement
st_of o ws = by_row (lookup (nat_eq o) rows) ws

all_quiet : (o : ℕ) (ws : List ℕ) → is_one_of loud o ≡ false → is_quiet (st_of o ws) ≡ true
all_quiet o ws h = row_holds IsQuiet o rows (λ h ws. refl) rows_quiet h ws

-- ---- one statement in front of the same

front_decorated : (ws : List ℕ) (xs ys : List Statement) (id k : ℕ) → decorated xs id k ≡ decorated ys id k
    → decorated (said ws xs) id k ≡ decorated (said ws ys) id k
front_decorated ws xs ys id k h = by (is_silent_opcode (opcode_of (slice_index ws 0))) (st_of (opcode_of (slice_index ws 0)) (drop 1 ws))
  where
    by : (b : Bool) (st : Statement) → decorated (cond b xs (st ∷ xs)) id k ≡ decorated (cond b ys (st ∷ ys)) id k
    by true st = h
    by false (states.Decorate target what literals) = ap (λ o. cond (target == id && what == k) (Some literals) o) h
    by false other = h

front_members : (ws : List ℕ) (xs ys : List Statement) (id n k : ℕ) → member_decorated xs id n k ≡ member_decorated ys id n k
    → member_decorated (said ws xs) id n k ≡ member_decorated (said ws ys) id n k
front_members ws xs ys id n k h = by (is_silent_opcode (opcode_of (slice_index ws 0))) (st_of (opcode_of (slice_index ws 0)) (drop 1 ws))
  where
    by : (b : Bool) (st : Statement) → member_decorated (cond b xs (st ∷ xs)) id n k ≡ member_decorated (cond b ys (st ∷ ys)) id n k
    by true st = h
    by false (states.MemberDecorate target member what literals) = ap (λ o. cond (target == id && (member == n && what == k)) (Some literals) o) h
    by false other = h

-- ---- a module and what it becomes

said_more : (i : Instruction) (is : List Instruction) → says (i ∷ is) ≡ said i.words (says is)
unfolding statements_in
said_more i is = refl

-- what is rewritten is quiet
settled_loud : (o : ℕ) → is_one_of settled_kinds o ≡ false → is_one_of loud o ≡ false
settled_loud o h = none_settled loud o (λ n. each (is_one_of settled_kinds) loud refl n) h

rewritten_decorated : (i : Instruction) (rest : List Statement) (id k : ℕ) → is_one_of settled_kinds (opcode i) ≡ false
    → decorated (said i.words rest) id k ≡ decorated rest id k
rewritten_decorated i rest id k h = by (is_silent_opcode (opcode i))
  where
    by : (b : Bool) → decorated (cond b rest (st_of (opcode i) (drop 1 i.words) ∷ rest)) id k ≡ decorated rest id k
    by true = refl
    by false = quiet_decorated (st_of (opcode i) (drop 1 i.words)) rest id k (all_quiet (opcode i) (drop 1 i.words) (settled_loud (opcode i) h))

rewritten_members : (i : Instruction) (rest : List Statement) (id n k : ℕ) → is_one_of settled_kinds (opcode i) ≡ false
    → member_decorated (said i.words rest) id n k ≡ member_decorated rest id n k
rewritten_members i rest id n k h = by (is_silent_opcode (opcode i))
  where
    by : (b : Bool) → member_decorated (cond b rest (st_of (opcode i) (drop 1 i.words) ∷ rest)) id n k ≡ member_decorated rest id n k
    by true = refl
    by false = quiet_members (st_of (opcode i) (drop 1 i.words)) rest id n k (all_quiet (opcode i) (drop 1 i.words) (settled_loud (opcode i) h))

pub rewritten_entry : (i : Instruction) (all : List Statement) (table : Table) → is_one_of settled_kinds (opcode i) ≡ false → entry all table i ≡ None
rewritten_entry i all table h = by (is_silent_opcode (opcode i))
  where
    by : (b : Bool) → entry_of all table (cond b [] (st_of (opcode i) (drop 1 i.words) ∷ [])) ≡ None
    by true = refl
    by false = quiet_defined all table (st_of (opcode i) (drop 1 i.words)) (all_quiet (opcode i) (drop 1 i.words) (settled_loud (opcode i) h))

module _ (b : List Instruction) (is js : List Instruction) (h : EachAs (IsRewrittenAs b) is js) where
  -- the same decorations stand on each id
  module _ (id k : ℕ) where
    abbrev Same : List Instruction → List Instruction → Type 0
    Same is js = decorated (says js) id k ≡ decorated (says is) id k

    more : (i j : Instruction) (is js : List Instruction) → IsRewrittenAs b i j → Same is js → Same (i ∷ is) (j ∷ js)
    more i j is js (inl w) h =
        ap (λ z. decorated z id k) (said_more j js ∙ ap (λ ws. said ws (says js)) w) ∙ front_decorated i.words (says js) (says is) id k h
        ∙ sym (ap (λ z. decorated z id k) (said_more i is))
    more i j is js (inr c) h =
        ap (λ z. decorated z id k) (said_more j js) ∙ rewritten_decorated j (says js) id k (ap (is_one_of settled_kinds) c.kind ∙ c.passing) ∙ h
        ∙ sym (ap (λ z. decorated z id k) (said_more i is) ∙ rewritten_decorated i (says is) id k c.passing)

    pub same_decorations : decorated (says js) id k ≡ decorated (says is) id k
    same_decorations = walk (IsRewrittenAs b) Same refl more is js h

  -- and on each member
  module _ (id n k : ℕ) where
    abbrev SameMember : List Instruction → List Instruction → Type 0
    SameMember is js = member_decorated (says js) id n k ≡ member_decorated (says is) id n k

    more_member : (i j : Instruction) (is js : List Instruction) → IsRewrittenAs b i j → SameMember is js → SameMember (i ∷ is) (j ∷ js)
    more_member i j is js (inl w) h =
        ap (λ z. member_decorated z id n k) (said_more j js ∙ ap (λ ws. said ws (says js)) w) ∙ front_members i.words (says js) (says is) id n k h
        ∙ sym (ap (λ z. member_decorated z id n k) (said_more i is))
    more_member i j is js (inr c) h =
        ap (λ z. member_decorated z id n k) (said_more j js) ∙ rewritten_members j (says js) id n k (ap (is_one_of settled_kinds) c.kind ∙ c.passing) ∙ h
        ∙ sym (ap (λ z. member_decorated z id n k) (said_more i is) ∙ rewritten_members i (says is) id n k c.passing)

    pub same_members : member_decorated (says js) id n k ≡ member_decorated (says is) id n k
    same_members = walk (IsRewrittenAs b) SameMember refl more_member is js h
