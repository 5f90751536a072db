-- What is kept of types stands for what they are, by their opcodes.
use Rattle.std.proofs.Common.{◌≡◌, ℕ, suc, List, [], ◌∷◌, drop, Option, Some, refl, sym, ap, ap₂, subst, ◌∙◌, ◌==◌}
use Rattle.std.specs.List.{slice_index}
use Rattle.spv_opcodes.specs.declared.op.TheConstants as op
use Rattle.spv_opcodes.specs.declared.decoration.TheConstants as decoration
use Rattle.spv_module.specs.Instruction.{Instruction, opcode}
use Rattle.spv_meaning.specs.Constants.{Table, Meaning, IsType, IsPointer, members_of, type_at, length_at}
use Rattle.spv_meaning.specs.Types.{DataType, Boolean, Integer, Vector, Array, RuntimeArray, Struct}
use Rattle.spv_decorations.specs.Decorations.{decoration_of}
use Rattle.spv_declarations.specs.Declarations.{says, entry}
use Rattle.spv_declarations.proofs.Defining.{entry-by}
use Rattle.spv_declarations.proofs.Sites.{index-on}
use Rattle.spv_types.specs.declared.facts.TypeFacts.{TypeFacts}
use Rattle.spv_types.specs.declared.meaning.Kept.TheVariants as kept
use Rattle.spv_types.specs.Facts.{facts}
use Rattle.spv_types.specs.Steps.{IsLength, KeepsType}

-- a word, numbered behind the first
word_on : (words : List ℕ) (n x : ℕ) → x ≡ slice_index words (suc n) → x ≡ slice_index (drop 1 words) n
word_on words n x e = e ∙ sym (index-on words n)

words_on : (words : List ℕ) → drop 2 words ≡ drop 1 (drop 1 words)
words_on [] = refl
words_on (w ∷ ws) = refl

-- an entry under the result
entry_under : (insts : List Instruction) (table : Table) (i : Instruction) (m : Meaning) → entry (says insts) table i ≡ Some (slice_index (drop 1 i.words) 0, m) →
    entry (says insts) table i ≡ Some (slice_index i.words 1, m)
entry_under insts table i m e = subst (λ r. entry (says insts) table i ≡ Some (r, m)) (index-on i.words 0) e

type_keeps : (insts : List Instruction) (table : Table) (i : Instruction) (f : TypeFacts) (t : DataType) → entry (says insts) table i ≡ Some (slice_index (drop 1 i.words) 0, IsType t) →
    ((opcode i ≡ op.TYPE_ARRAY → IsLength insts table (slice_index i.words 3)) → f ≡ facts t) → KeepsType insts table i (kept.Type f)
type_keeps insts table i f t e h = record { stands = λ fits. (IsType t, entry_under insts table i (IsType t) e, λ whole ids n. h fits) }

pub bool_keeps : (insts : List Instruction) (table : Table) (i : Instruction) (f : TypeFacts) → opcode i ≡ op.TYPE_BOOL → f ≡ facts Boolean → KeepsType insts table i (kept.Type f)
bool_keeps insts table i f is_o h = type_keeps insts table i f Boolean (entry-by (says insts) table i op.TYPE_BOOL is_o refl) (λ _. h)

pub int_keeps : (insts : List Instruction) (table : Table) (i : Instruction) (f : TypeFacts) (width signedness : ℕ) → opcode i ≡ op.TYPE_INT →
    width ≡ slice_index i.words 2 → signedness ≡ slice_index i.words 3 → f ≡ facts (Integer width (signedness == 1)) → KeepsType insts table i (kept.Type f)
int_keeps insts table i f width signedness is_o w s h =
    type_keeps insts table i f _ (entry-by (says insts) table i op.TYPE_INT is_o refl)
    (λ _. h ∙ ap₂ (λ x y. facts (Integer x (y == 1))) (word_on i.words 1 width w) (word_on i.words 2 signedness s))

pub vector_keeps : (insts : List Instruction) (table : Table) (i : Instruction) (f : TypeFacts) (count : ℕ) → opcode i ≡ op.TYPE_VECTOR →
    count ≡ slice_index i.words 3 → f ≡ facts (Vector count (type_at table (slice_index i.words 2))) → KeepsType insts table i (kept.Type f)
vector_keeps insts table i f count is_o n h =
    type_keeps insts table i f _ (entry-by (says insts) table i op.TYPE_VECTOR is_o refl)
    (λ _. h ∙ ap₂ (λ x y. facts (Vector x (type_at table y))) (word_on i.words 2 count n) (sym (index-on i.words 1)))

-- the stride of an array, read in what the module says
stride_on : (insts others : List Instruction) (i : Instruction) (stride : Option ℕ) → others ≡ insts → stride ≡ decoration_of others (slice_index i.words 1) decoration.ARRAY_STRIDE →
    stride ≡ decoration_of insts (slice_index (drop 1 i.words) 0) decoration.ARRAY_STRIDE
stride_on insts others i stride same e = e ∙ ap₂ (λ is r. decoration_of is r decoration.ARRAY_STRIDE) same (sym (index-on i.words 0))

pub array_keeps : (insts others : List Instruction) (table : Table) (i : Instruction) (f : TypeFacts) (stride : Option ℕ) (length_id count : ℕ) → opcode i ≡ op.TYPE_ARRAY → others ≡ insts →
    stride ≡ decoration_of others (slice_index i.words 1) decoration.ARRAY_STRIDE → length_id ≡ slice_index i.words 3 → (IsLength insts table length_id → count ≡ length_at table length_id) →
    f ≡ facts (Array stride count (type_at table (slice_index i.words 2))) → KeepsType insts table i (kept.Type f)
array_keeps insts others table i f stride length_id count is_o same s l is h =
    type_keeps insts table i f _ (entry-by (says insts) table i op.TYPE_ARRAY is_o refl)
    (λ fits. let counted = is (subst (IsLength insts table) (sym l) (fits is_o)) ∙ ap (length_at table) (word_on i.words 2 length_id l) in
    h ∙ ap (λ x. facts (Array x count (type_at table (slice_index i.words 2)))) (stride_on insts others i stride same s)
    ∙ ap₂ (λ x y. facts (Array (decoration_of insts (slice_index (drop 1 i.words) 0) decoration.ARRAY_STRIDE) x (type_at table y))) counted (sym (index-on i.words 1)))

pub runtime_array_keeps : (insts others : List Instruction) (table : Table) (i : Instruction) (f : TypeFacts) (stride : Option ℕ) → opcode i ≡ op.TYPE_RUNTIME_ARRAY → others ≡ insts →
    stride ≡ decoration_of others (slice_index i.words 1) decoration.ARRAY_STRIDE → f ≡ facts (RuntimeArray stride (type_at table (slice_index i.words 2))) → KeepsType insts table i (kept.Type f)
runtime_array_keeps insts others table i f stride is_o same s h =
    type_keeps insts table i f _ (entry-by (says insts) table i op.TYPE_RUNTIME_ARRAY is_o refl)
    (λ _. h ∙ ap₂ (λ x y. facts (RuntimeArray x (type_at table y))) (stride_on insts others i stride same s) (sym (index-on i.words 1)))

pub struct_keeps : (insts others : List Instruction) (table : Table) (i : Instruction) (f : TypeFacts) → opcode i ≡ op.TYPE_STRUCT → others ≡ insts →
    f ≡ facts (Struct (members_of (says others) table (slice_index i.words 1) 0 (drop 2 i.words))) → KeepsType insts table i (kept.Type f)
struct_keeps insts others table i f is_o same h =
    type_keeps insts table i f _ (entry-by (says insts) table i op.TYPE_STRUCT is_o refl)
    (λ _. h ∙ ap (λ is. facts (Struct (members_of (says is) table (slice_index i.words 1) 0 (drop 2 i.words)))) same
    ∙ ap₂ (λ r ts. facts (Struct (members_of (says insts) table r 0 ts))) (sym (index-on i.words 0)) (words_on i.words))

pub pointer_keeps : (insts : List Instruction) (table : Table) (i : Instruction) (f : TypeFacts) (target : ℕ) → opcode i ≡ op.TYPE_POINTER →
    target ≡ slice_index i.words 3 → f ≡ facts (type_at table target) → KeepsType insts table i (kept.Pointer f)
pointer_keeps insts table i f target is_o t h =
    let m = IsPointer (slice_index (drop 1 i.words) 1) (type_at table (slice_index (drop 1 i.words) 2)) in
    record { stands = λ fits. (m, entry_under insts table i m (entry-by (says insts) table i op.TYPE_POINTER is_o refl), λ whole ids n. h ∙ ap (λ x. facts (type_at table x)) (word_on i.words 2 target t)) }
