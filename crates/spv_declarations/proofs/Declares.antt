-- What an unbroken declaration declares is new: it has no meaning so far, and is no Specialised constant.
use Rattle.std.proofs.Common.{◌≡◌, ℕ, zero, suc, Bool, true, false, cond, not, ◌&&◌, ◌||◌, List, [], ◌∷◌, ◌++◌, drop, Option, Some, None, refl, sym, ap, subst, ◌∙◌}
use Rattle.std.specs.Prelude.{nat_eq}
use Rattle.std.specs.Option.{is_some}
use Rattle.std.specs.List.{slice_get, slice_index}
use Rattle.std.proofs.lemmas.Bool.{eqb-true, and_parts, or_from}
use Rattle.std.proofs.lemmas.List.Folds.{list_any-append}
use Rattle.spv_opcodes.specs.declared.op.TheConstants as op
use Rattle.spv_opcodes.specs.declared.decoration.TheConstants as decoration
use Rattle.spv_grammar.specs.Table.{row_of}
use Rattle.spv_grammar.specs.Roles.{is_defined_id}
use Rattle.spv_module.specs.Instruction.{Instruction, IsInstruction, opcode, roles, word_with}
use Rattle.spv_meaning.specs.Statements.{Statement, is_silent_opcode}
use Rattle.spv_meaning.specs.Types.{DataType}
use Rattle.spv_meaning.specs.Constants.{Table, Meaning, IsConstant, meaning, type_at, words_in, decorated}
use Rattle.spv_ids.specs.Ids.{is_defined_before}
use Rattle.spv_typing.specs.Kinds.{is_one_of}
use Rattle.spv_typing.specs.Operations.{spec_op_fits}
use Rattle.spv_declarations.specs.Broken.{rules_at}
use Rattle.spv_declarations.specs.Declarations.{Declared, declared_before, says, entry, is_specialised}
use Rattle.spv_declarations.specs.Sound.{AreInstructions, table_before}
use Rattle.spv_declarations.proofs.Parts.{first_typed, row_test, defined-typed}
use Rattle.spv_declarations.proofs.Defining.{entry-by}
use Rattle.spv_declarations.proofs.Operations.{fitting-form, operation-entry, operation_meaning}
use Rattle.spv_declarations.proofs.Tables.{declared-more, declared-past, not_defined, not_defined_here, defines_result, no_meaning, gives_new}
use Rattle.spv_declarations.proofs.Sites.{index-on}
use Rattle.spv_declarations.proofs.Unbroken.{keeps, loud-plain}

-- ---- numbers of a list

abbrev pub AllOf : (ℕ → Type 0) → List ℕ → Type 0
AllOf P [] = Unit {0}
AllOf P (x ∷ xs) = P x × AllOf P xs

of_first : (P : ℕ → Type 0) (x n : ℕ) (xs : List ℕ) (b : Bool) → nat_eq n x ≡ b → (b || is_one_of xs n) ≡ true → P x → (is_one_of xs n ≡ true → P n) →
    P n
of_first P x n xs true e h here others = subst P (sym (eqb-true n x e)) here
of_first P x n xs false e h here others = others h

-- what holds of each number of a list
pub one_of-holds : (P : ℕ → Type 0) (xs : List ℕ) → AllOf P xs → (n : ℕ) → is_one_of xs n ≡ true → P n
one_of-holds P [] all n h = cc
one_of-holds P (x ∷ xs) all n h = of_first P x n xs (nat_eq n x) refl h all.0 (λ e. one_of-holds P xs all.1 n e)

-- ---- Specialised constants

abbrev specialised_by_id : List ℕ
specialised_by_id = op.SPEC_CONSTANT_TRUE ∷ op.SPEC_CONSTANT_FALSE ∷ op.SPEC_CONSTANT ∷ []

abbrev specialised_by_operands : List ℕ
specialised_by_operands = op.SPEC_CONSTANT_COMPOSITE ∷ op.SPEC_CONSTANT_OP ∷ []

either_list : (P : Type 0) (a b c d : Bool) → cond a c (b && d) ≡ true → (a ≡ true → P) → (b ≡ true → P) → P
either_list P true b c d h f g = f refl
either_list P false b c d h f g = g (and_parts b d h).0

-- by its opcode
by_opcode : (P : ℕ → Type 0) → AllOf P specialised_by_id → AllOf P specialised_by_operands →
    (all : List Statement) (specialised : List ℕ) (i : Instruction) → is_specialised all specialised i ≡ true → P (opcode i)
by_opcode P by_id by_operands all specialised i h =
    either_list (P (opcode i)) (is_one_of specialised_by_id (opcode i)) (is_one_of specialised_by_operands (opcode i))
    (is_some (decorated all (slice_index i.words 2) decoration.SPEC_ID)) _ h
    (one_of-holds P specialised_by_id by_id (opcode i)) (one_of-holds P specialised_by_operands by_operands (opcode i))

specialised_typed : (all : List Statement) (specialised : List ℕ) (i : Instruction) → is_specialised all specialised i ≡ true →
    row_test first_typed (row_of (opcode i)) ≡ true
unfolding row_of
specialised_typed all specialised i h =
    by_opcode (λ o. row_test first_typed (row_of o) ≡ true) (refl, (refl, (refl, tt))) (refl, (refl, tt)) all specialised i h

-- such a constant is what the instruction defines
pub specialised-result : (all : List Statement) (specialised : List ℕ) (i : Instruction) → IsInstruction i.words (roles i) →
    is_specialised all specialised i ≡ true → word_with is_defined_id i ≡ Some (slice_index i.words 2)
specialised-result all specialised i whole h = defined-typed i whole (specialised_typed all specialised i h) ∙ ap Some (index-on i.words 1)

or_false : (b : Bool) → (b || false) ≡ b
or_false true = refl
or_false false = refl

-- one more is another id
added_other : (id r : ℕ) (xs : List ℕ) (adds : Bool) → (adds ≡ true → nat_eq id r ≡ false) → is_one_of xs id ≡ false →
    is_one_of (cond adds (xs ++ r ∷ []) xs) id ≡ false
added_other id r xs false other h = h
added_other id r xs true other h =
    list_any-append (nat_eq id) xs (r ∷ []) ∙ or_from (is_one_of xs id) (nat_eq id r || false) h (or_false (nat_eq id r) ∙ other refl)

specialised_step : (insts : List Instruction) → AreInstructions insts → (k id : ℕ) (found : Option Instruction) → slice_get insts k ≡ found →
    is_defined_before insts (suc k) id ≡ false →
    is_one_of (declared_before insts k).specialised id ≡ false → is_one_of (declared_before insts (suc k)).specialised id ≡ false
specialised_step insts whole k id None at new h = ap (λ (d : Declared). is_one_of d.specialised id) (declared-past insts k at) ∙ h
specialised_step insts whole k id (Some i) at new h =
    let d = declared_before insts k in
    ap (λ (d : Declared). is_one_of d.specialised id) (declared-more insts k i at)
    ∙ added_other id (slice_index i.words 2) d.specialised (not d.begun && is_specialised (says insts) d.specialised i)
    (λ e. sym (defines_result i id (slice_index i.words 2) (specialised-result (says insts) d.specialised i (whole k i at) (and_parts (not d.begun) (is_specialised (says insts) d.specialised i) e).1))
    ∙ not_defined_here insts k id i at new) h

-- an id that nothing defines so far is none; induction on the instructions
pub not_specialised : (insts : List Instruction) → AreInstructions insts → (k id : ℕ) → is_defined_before insts k id ≡ false →
    is_one_of (declared_before insts k).specialised id ≡ false
not_specialised insts whole zero id h = refl
not_specialised insts whole (suc k) id h =
    specialised_step insts whole k id (slice_get insts k) refl h
    (not_specialised insts whole k id (not_defined insts k id (slice_get insts k) refl h))

-- ---- the k-th

-- what it declares had no meaning, and was no Specialised constant
pub record IsNew (d : Declared) (r : ℕ) : Type 0 where
  pub unknown : meaning d.table r ≡ None
  pub not_specialised : is_one_of d.specialised r ≡ false

pub declares_new : (insts : List Instruction) → AreInstructions insts → (k : ℕ) (i : Instruction) (r : ℕ) (m : Meaning) → slice_get insts k ≡ Some i →
    rules_at insts (declared_before insts k) k i ≡ [] →
    entry (says insts) (table_before insts k) i ≡ Some (r, m) → IsNew (declared_before insts k) r
declares_new insts whole k i r m at clean e =
    let new = gives_new insts k i r m whole at clean e in
    record { unknown = no_meaning insts whole k r new; not_specialised = not_specialised insts whole k r new }

-- a Specialised constant has a meaning, as its third word
pub record DeclaresConstant (all : List Statement) (table : Table) (i : Instruction) : Type 0 where
  pub type : DataType
  pub words : List ℕ
  pub stands : entry all table i ≡ Some (slice_index i.words 2, IsConstant type words)

abbrev Stands : List Instruction → List Statement → Table → Instruction → ℕ → Type 0
Stands insts all table i o = opcode i ≡ o → spec_op_fits insts i ≡ true → IsInstruction i.words (roles i) → DeclaresConstant all table i

constant_stands : (all : List Statement) (table : Table) (i : Instruction) (t : DataType) (ws : List ℕ) →
    entry all table i ≡ Some (slice_index (drop 1 i.words) 1, IsConstant t ws) → DeclaresConstant all table i
constant_stands all table i t ws e =
    record { type = t; words = ws; stands = e ∙ ap (λ (n : ℕ). Some (entry_at n (IsConstant t ws))) (index-on i.words 1) }
  where
    entry_at : ℕ → Meaning → ℕ × Meaning
    entry_at n m = (n, m)

operation_stands : (insts : List Instruction) (all : List Statement) (table : Table) (i : Instruction) → Stands insts all table i op.SPEC_CONSTANT_OP
operation_stands insts all table i is_o fits whole =
    let f = fitting-form insts i is_o fits in
    record { type = type_at table (slice_index i.words 1); words = words_in (Some (operation_meaning table f.form i.words)); stands = operation-entry all table i f.form whole is_o f.is }

pub specialised-entry : (insts : List Instruction) (all : List Statement) (table : Table) (specialised : List ℕ) (i : Instruction) →
    IsInstruction i.words (roles i) → spec_op_fits insts i ≡ true → is_specialised all specialised i ≡ true → DeclaresConstant all table i
specialised-entry insts all table specialised i whole fits h =
    by_opcode (Stands insts all table i) (
      λ is_o f w. constant_stands all table i _ _ (entry-by all table i op.SPEC_CONSTANT_TRUE is_o refl),
      (
        λ is_o f w. constant_stands all table i _ _ (entry-by all table i op.SPEC_CONSTANT_FALSE is_o refl),
        (λ is_o f w. constant_stands all table i _ _ (entry-by all table i op.SPEC_CONSTANT is_o refl), tt),
      ),
    ) (
      λ is_o f w. constant_stands all table i _ _ (entry-by all table i op.SPEC_CONSTANT_COMPOSITE is_o refl),
      (operation_stands insts all table i, tt),
    )
    all specialised i h refl fits whole

-- the k-th, if it is a Specialised constant
pub declares_constant : (insts : List Instruction) → AreInstructions insts → (k : ℕ) (i : Instruction) → slice_get insts k ≡ Some i →
    rules_at insts (declared_before insts k) k i ≡ [] →
    is_specialised (says insts) (declared_before insts k).specialised i ≡ true → DeclaresConstant (says insts) (table_before insts k) i
declares_constant insts whole k i at clean h =
    let d = declared_before insts k in
    let loud : is_silent_opcode (opcode i) ≡ false =
    by_opcode (λ o. is_silent_opcode o ≡ false) (refl, (refl, (refl, tt))) (refl, (refl, tt)) (says insts) d.specialised i h in
    let kept = keeps insts d k i (loud-plain i loud) clean in
    specialised-entry insts (says insts) d.table d.specialised i (whole k i at) kept.operations h
