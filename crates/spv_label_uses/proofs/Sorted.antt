-- The opcodes of the profile, by what tells what their instructions need.
use Rattle.std.proofs.Common.{◌≡◌, ℕ, Bool, true, false, cond, ◌==◌, ◌||◌, List, [], ◌∷◌, ◌++◌, Option, Some, None, refl, ap, ◌∙◌}
use Rattle.std.specs.List.{list_all}
use Rattle.std.specs.Option.{is_some, option_or}
use Rattle.std.proofs.lemmas.Bool.{and_parts}
use Rattle.spv_opcodes.specs.declared.op.TheConstants as op
use Rattle.spv_grammar.specs.Table.{Shape, row_at, row_of, module_rows, type_rows, flow_rows, memory_rows, value_rows, pair_rows}
use Rattle.spv_typing.specs.Kinds.{is_one_of}
use Rattle.spv_arithmetic.specs.Forms.{form_of}
use Rattle.spv_composites.specs.Memory.{atomics}
use Rattle.spv_alike.specs.Uses.{namings}
use Rattle.spv_label_uses.proofs.Constants.{booleans, numbers, composites}
use Rattle.spv_label_uses.proofs.Free.{same_by}
use Rattle.spv_label_uses.proofs.Groups.{AllOf, also, MayNeed}
use Rattle.spv_label_uses.proofs.Memory.{chains}

-- they need no id
abbrev pub silent : List ℕ
silent =
    op.CAPABILITY ∷ op.EXT_INST_IMPORT ∷ op.MEMORY_MODEL ∷ op.STRING ∷ op.SOURCE_CONTINUED ∷ op.SOURCE_EXTENSION ∷ op.MODULE_PROCESSED ∷ op.NO_LINE
    ∷ op.TYPE_VOID ∷ op.TYPE_BOOL ∷ op.TYPE_INT ∷ op.FUNCTION_END ∷ op.LABEL ∷ op.RETURN ∷ op.UNREACHABLE ∷ []

abbrev pub nothing : List ℕ → List ℕ
nothing words = []

pub silent_rows : AllOf (MayNeed nothing) silent
unfolding row_of
silent_rows =
    also (λ ws. refl) (also (λ ws. refl) (also (λ ws. refl) (also (λ ws. refl) (also (λ ws. refl) (also (λ ws. refl) (also (λ ws. refl)
    (also (λ ws. refl) (also (λ ws. refl) (also (λ ws. refl) (also (λ ws. refl)
    (also (λ ws. refl) (also (λ ws. refl) (also (λ ws. refl) (also (λ ws. refl) tt))))))))))))))

-- they name labels
abbrev pub branches : List ℕ
branches = op.PHI ∷ op.BRANCH_CONDITIONAL ∷ op.SWITCH ∷ op.BRANCH ∷ op.SELECTION_MERGE ∷ op.LOOP_MERGE ∷ []

abbrev pub types : List ℕ
types = op.TYPE_VECTOR ∷ op.TYPE_ARRAY ∷ op.TYPE_RUNTIME_ARRAY ∷ op.TYPE_STRUCT ∷ op.TYPE_POINTER ∷ op.TYPE_FUNCTION ∷ []

-- they stand outside functions
abbrev pub outside : List ℕ
outside = op.DECORATE ∷ op.MEMBER_DECORATE ∷ op.SPEC_CONSTANT_OP ∷ op.ENTRY_POINT ∷ op.EXECUTION_MODE ∷ op.EXECUTION_MODE_ID ∷ []

abbrev pub constants : List ℕ
constants = booleans ++ (numbers ++ (composites ++ op.CONSTANT_NULL ∷ []))

-- they stand outside functions or in one
abbrev pub either : List ℕ
either = op.VARIABLE ∷ op.UNDEF ∷ []

abbrev pub functions : List ℕ
functions = op.FUNCTION ∷ op.FUNCTION_PARAMETER ∷ op.FUNCTION_CALL ∷ op.RETURN_VALUE ∷ []

abbrev pub parts : List ℕ
parts =
    op.VECTOR_EXTRACT_DYNAMIC ∷ op.VECTOR_INSERT_DYNAMIC ∷ op.VECTOR_SHUFFLE ∷ op.COMPOSITE_CONSTRUCT ∷ op.COMPOSITE_EXTRACT ∷ op.COMPOSITE_INSERT
    ∷ op.COPY_OBJECT ∷ op.COPY_LOGICAL ∷ []

abbrev pub memory : List ℕ
memory = op.LOAD ∷ op.STORE ∷ op.ARRAY_LENGTH ∷ op.CONTROL_BARRIER ∷ op.MEMORY_BARRIER ∷ op.ATOMIC_STORE ∷ op.ATOMIC_COMPARE_EXCHANGE ∷ []

-- an opcode is one of these
abbrev pub sorts : (o : ℕ) → Bool
sorts o =
    is_one_of silent o || (is_one_of namings o || (is_one_of branches o || (is_one_of types o || (is_one_of outside o || (is_one_of constants o
    || (is_one_of either o || (is_one_of functions o || (is_one_of parts o || (is_one_of memory o || (is_one_of chains o || (is_one_of atomics o
    || is_some (form_of o))))))))))))

abbrev Holds : Bool → Option Shape → Type 0
Holds b None = Unit {0}
Holds b (Some shape) = b ≡ true

row_sorts : (o : ℕ) (rows : List (ℕ × Shape)) → list_all (λ row. sorts row.0) rows ≡ true → Holds (sorts o) (row_at rows o)
row_sorts o [] h = tt
row_sorts o (row ∷ rows) h = by (o == row.0) refl (row_sorts o rows both.1) where
  both : (sorts row.0 ≡ true) × (list_all (λ row. sorts row.0) rows ≡ true)
  both = and_parts (sorts row.0) (list_all (λ row. sorts row.0) rows) h

  by : (b : Bool) → (o == row.0) ≡ b → Holds (sorts o) (row_at rows o) → Holds (sorts o) (cond b (Some row.1) (row_at rows o))
  by true e more = ap sorts (same_by o row.0 e) ∙ both.0
  by false e more = more

or_sorts : (b : Bool) (x y : Option Shape) → Holds b x → Holds b y → Holds b (option_or x y)
or_sorts b None y h k = k
or_sorts b (Some shape) y h k = h

-- by computing over the rows
all_sort : (o : ℕ) → Holds (sorts o) (row_of o)
unfolding row_of
all_sort o =
    or_sorts (sorts o) (row_at module_rows o) _ (row_sorts o module_rows refl)
    (or_sorts (sorts o) (row_at type_rows o) _ (row_sorts o type_rows refl)
    (or_sorts (sorts o) (row_at flow_rows o) _ (row_sorts o flow_rows refl)
    (or_sorts (sorts o) (row_at memory_rows o) _ (row_sorts o memory_rows refl)
    (or_sorts (sorts o) (row_at value_rows o) (row_at pair_rows o) (row_sorts o value_rows refl) (row_sorts o pair_rows refl)))))

-- an opcode that has a row is one of these
pub sorted : (o : ℕ) → is_some (row_of o) ≡ true → sorts o ≡ true
sorted o h = by (row_of o) (all_sort o) h where
  by : (row : Option Shape) → Holds (sorts o) row → is_some row ≡ true → sorts o ≡ true
  by None k h = absurd (cc h)
  by (Some shape) k h = k
