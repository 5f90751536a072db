-- A function in which no rule is broken, from what is told of its module and of its blocks.
use Rattle.std.proofs.Common.{length, ◌≡◌, inl, inr, ℕ, suc, zero, ◌<◌, ◌≤◌, Bool, cond, not, List, [], ◌∷◌, drop, filter, Option, None, Some, refl, sym, ap, subst, ◌∙◌}
use Rattle.std.specs.List.{slice_get}
use Rattle.spv_module.specs.Code.{is_function, is_line}
use Rattle.spv_module.specs.Instruction.{Instruction, IsInstruction, roles}
use Rattle.spv_blocks.specs.Blocks.{Code}
use Rattle.spv_blocks.specs.Cutting.{begun_function, blocks_of, function_at, is_function_end, rest_of_function}
use Rattle.spv_walk.specs.Contexts.{Context}
use Rattle.spv_walk.specs.Found.{FaultTables}
use Rattle.spv_walk.specs.Numbering.{HasOwnLabels}
use Rattle.spv_walk.specs.Rules.{Broken, IsFirst}
use Rattle.spv_walk.specs.Walk.{Walk}
use Rattle.spv_walk.specs.Walked.{AreEnterers, InPlaces, IsWalk}
use Rattle.spv_walk.proofs.Unique.{tells}
use Rattle.spv_walking.specs.Depths.{HasDepth, IsDepth}
use Rattle.spv_normal.specs.Lines.{without_marks}
use Rattle.spv_spelling.specs.Clean.{IsClean, no_pointers}
use Rattle.spv_spelling.specs.Whole.{AreInstructions, AreShort, IsAdmitted, IsText}
use Rattle.spv_spelling.proofs.Settled.{clean_by_tables, clean_without_pointers, walked_runs}
use Rattle.spv_texts.proofs.Marks.{blocks_without_marks}
use Rattle.spv_flow.specs.Known.{AreToldLoops}
use Rattle.spv_parse.specs.Functions.{IsNested}
use Rattle.std.specs.List.{count_by}
use Rattle.spv_base.specs.declared.fault.Refusal.{Refusal}
use Rattle.spv_module.specs.Broken.{group_1}
use Rattle.spv_module.specs.Code.{Code as Code_of, code_of}
use Rattle.spv_module.specs.Decode.{Decodes}
use Rattle.spv_module.specs.First.{first, first_group}
use Rattle.spv_module.specs.Layout.{group_2}
use Rattle.spv_blocks.specs.Cutting.{function_from, starts}
use Rattle.spv_texts.proofs.Functions.{laid_out}
use Rattle.spv_parse.specs.Functions.{IsLaidOut}
use Rattle.std.proofs.Common.{Ok}

some_same : (i j : Instruction) → Some i ≡ Some j → i ≡ j
some_same i j e = cc

-- ---- what is so of each instruction of a list is so of each of a part of it

module _ (P : Instruction → Type 0) where
  abbrev Each : List Instruction → Type 0
  Each [] = Unit {0}
  Each (i ∷ is) = P i × Each is

  each_of : (is : List Instruction) → ((k : ℕ) (i : Instruction) → slice_get is k ≡ Some i → P i) → Each is
  each_of [] are = tt
  each_of (i ∷ is) are = (are 0 i refl, each_of is (λ k j e. are (suc k) j e))

  of_each : (is : List Instruction) → Each is → (k : ℕ) (i : Instruction) → slice_get is k ≡ Some i → P i
  of_each [] each k i e = absurd (cc (e))
  of_each (j ∷ is) each zero i e = subst P (some_same j i e) each.0
  of_each (j ∷ is) each (suc k) i e = of_each is each.1 k i e

  each_drop : (k : ℕ) (is : List Instruction) → Each is → Each (drop k is)
  each_drop zero is each = each
  each_drop (suc k) [] each = tt
  each_drop (suc k) (i ∷ is) each = each_drop k is each.1

  each_filter : (p : Instruction → Bool) (is : List Instruction) → Each is → Each (filter p is)
  each_filter p [] each = tt
  each_filter p (i ∷ is) each = elim (tells (p i)) [
    | inl e ↦ subst Each (sym (ap (λ b. cond b (i ∷ filter p is) (filter p is)) e)) (each.0, each_filter p is each.1)
    | inr e ↦ subst Each (sym (ap (λ b. cond b (i ∷ filter p is) (filter p is)) e)) (each_filter p is each.1)
  ]

  each_rest : (is : List Instruction) → Each is → Each (rest_of_function is)
  each_rest [] each = tt
  each_rest (i ∷ is) each = elim (tells (is_function i)) [
    | inl e ↦ subst Each (sym (ap (λ b. cond b [] (cond (is_function_end i) (i ∷ []) (i ∷ rest_of_function is))) e)) tt
    | inr e ↦ subst Each (sym (ap (λ b. cond b [] (cond (is_function_end i) (i ∷ []) (i ∷ rest_of_function is))) e)) (elim (tells (is_function_end i)) [
      | inl h ↦ subst Each (sym (ap (λ b. cond b (i ∷ []) (i ∷ rest_of_function is)) h)) (each.0, tt)
      | inr h ↦ subst Each (sym (ap (λ b. cond b (i ∷ []) (i ∷ rest_of_function is)) h)) (each.0, each_rest is each.1)
    ])
  ]

  each_begun : (is : List Instruction) → Each is → Each (begun_function is)
  each_begun [] each = tt
  each_begun (i ∷ is) each = (each.0, each_rest is each.1)

  -- so it is without line marks
  each_unmarked : (is : List Instruction) → ((k : ℕ) (i : Instruction) → slice_get is k ≡ Some i → P i) → (k : ℕ) (i : Instruction) → slice_get (without_marks is) k ≡ Some i → P i
  each_unmarked is are = of_each (without_marks is) (each_filter (λ i. not (is_line i)) is (each_of is are))

abbrev IsOne : Instruction → Type 0
IsOne i = IsInstruction i.words (roles i)

pub function_instructions : (all : List Instruction) (first : ℕ) → AreInstructions all → AreInstructions (without_marks (function_at first all))
function_instructions all first are =
    of_each IsOne (without_marks (function_at first all))
    (each_filter IsOne (λ i. not (is_line i)) (function_at first all) (each_begun IsOne (drop first all) (each_drop IsOne first all (each_of IsOne all are))))

abbrev HasFewWords : Instruction → Type 0
HasFewWords i = length i.words ≤ 65535

-- ---- no rule is broken

module _ (is_pointer : ℕ → Bool) (f : Code) (enterer : ℕ → Option ℕ) (ends : ℕ → Bool) (place : ℕ → Option Context)
    (tables : FaultTables f enterer ends (InPlaces place)) (unbroken : IsFirst (Broken is_pointer f) None) where
  pub unbroken_clean : IsClean no_pointers f
  unbroken_clean = clean_without_pointers is_pointer f (clean_by_tables is_pointer f enterer ends place tables unbroken)

  -- the walk is that of the table
  in_walk : (n : ℕ) → HasDepth f (InPlaces place) n → HasDepth f (Walk f) n
  in_walk n h = record { label = h.label; context = h.context; block = h.block; stands = tables.walk.sound h.label h.context h.stands; depth = h.depth }

  in_table : (n : ℕ) → HasDepth f (Walk f) n → HasDepth f (InPlaces place) n
  in_table n h = record {
    label = h.label;
    context = h.context;
    block = h.block;
    stands = tables.walk.whole h.label h.context h.stands (walked_runs no_pointers f unbroken_clean h.label h.context h.stands);
    depth = h.depth;
  }

  pub depth_by_walk : (n : ℕ) → IsDepth f (InPlaces place) n → IsDepth f (Walk f) n
  depth_by_walk n d = record {
    bound = λ m h. d.bound m (in_table m h);
    reached = elim d.reached [
      | inl x ↦ inl x
      | inr x ↦ inr (in_walk n x)
    ];
  }

pub admitted : (insts : List Instruction) → IsText (without_marks insts) → AreInstructions (without_marks insts) → AreShort insts → HasOwnLabels (blocks_of insts)
    → IsClean no_pointers (blocks_of insts) → IsAdmitted (without_marks insts)
admitted insts text each short own clean =
    let same = sym (blocks_without_marks insts) in
    record {
      text = text;
      each = each;
      short = each_unmarked HasFewWords insts short;
      own = subst HasOwnLabels same own;
      clean = subst (IsClean no_pointers) same clean;
    }

-- ---- what is told of the blocks of a function

pub record IsTold (is_pointer : ℕ → Bool) (insts : List Instruction) (f : Code) (enterer : ℕ → Option ℕ) (place : ℕ → Option Context) : Type 0 where
  pub same : f ≡ blocks_of insts
  pub unbroken : IsFirst (Broken is_pointer f) None
  pub enterers : AreEnterers f enterer
  pub walk : IsWalk f (InPlaces place)
  pub loops : AreToldLoops f

module _ (is_pointer : ℕ → Bool) (insts : List Instruction) (f : Code) (enterer : ℕ → Option ℕ) (place : ℕ → Option Context) (t : IsTold is_pointer insts f enterer place) where
  tables : FaultTables f enterer t.loops.ends (InPlaces place)
  tables = record { walk = t.walk; enterers = t.enterers; one_back_edge = t.loops.told }

  pub told_admitted : (all : List Instruction) (first : ℕ) → insts ≡ function_at first all → IsText (without_marks insts) → AreInstructions all → AreShort insts → HasOwnLabels (blocks_of insts)
      → IsAdmitted (without_marks insts)
  told_admitted all first is text each short own =
      admitted insts text (subst (λ z. AreInstructions (without_marks z)) (sym is) (function_instructions all first each)) short own
      (subst (IsClean no_pointers) t.same (unbroken_clean is_pointer f enterer t.loops.ends place tables t.unbroken))

  pub told_clean : IsClean is_pointer (blocks_of insts)
  told_clean = subst (IsClean is_pointer) t.same (clean_by_tables is_pointer f enterer t.loops.ends place tables t.unbroken)

  pub told_nested : (n : ℕ) → IsDepth f (InPlaces place) n → IsNested is_pointer insts n
  told_nested n d = record {
    unbroken = subst (λ (z : Code). IsFirst (Broken is_pointer z) None) t.same t.unbroken;
    greatest = subst (λ (z : Code). IsDepth z (Walk z) n) t.same (depth_by_walk is_pointer f enterer t.loops.ends place tables t.unbroken n d);
  }

-- ---- the first function of a module that is read

second_none : (one other : Option Refusal) → first_group one other ≡ None → other ≡ None
second_none None other e = e
second_none (Some refusal) other e = absurd (cc (e))

pub read_laid_out : (words : List ℕ) (code : Code_of) → Decodes words (Ok code) → IsLaidOut code.insts
read_laid_out words code read = record {
  end = length words;
  unbroken =
      ap (λ z. first (group_2 (length words) z.insts)) read.1
      ∙ second_none (first (group_1 words)) (first (group_2 (length words) (code_of words).insts)) read.0;
}

pub first_text : (insts : List Instruction) (k : ℕ) → AreInstructions insts → IsLaidOut insts → 0 < count_by is_function insts → slice_get (starts insts) 0 ≡ Some k
    → IsText (without_marks (function_at k insts))
first_text insts k each laid some is =
    subst (λ z. IsText (without_marks (function_from insts z))) is (laid_out laid.end 0 insts each laid.unbroken some)
