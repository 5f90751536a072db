-- Reading from the first instruction to the last.
use Rattle.std.proofs.Common.{◌≡◌, ℕ, suc, ◌+◌, Bool, true, false, ◌||◌, List, [], length, slice_get, Option, Some, None, Ok, Err, refl, sym, ap, subst, ◌∙◌, arith}
use Rattle.spv_base.specs.declared.fault.Fault.{Fault}
use Rattle.spv_base.specs.declared.fault.Fault.TheVariants as faults
use Rattle.spv_base.specs.declared.fault.Refusal.{Refusal}
use Rattle.spv_module.specs.Code.{is_function}
use Rattle.spv_module.specs.First.{first}
use Rattle.spv_module.specs.Instruction.{Instruction}
use Rattle.spv_repeats.specs.Repeats.{occurs_before, repeats_before}
use Rattle.spv_repeats.specs.Marks.{AreMarks}
use Rattle.spv_declarations.specs.Broken.{group_3}
use Rattle.spv_declarations.specs.Declarations.{Declared, declared_before}
use Rattle.spv_declarations.specs.Sound.{AreInstructions, Unbroken}
use Rattle.spv_declarations.proofs.Tables.{declared-more}
use Rattle.spv_types.specs.declared.meaning.Kept.{Kept}
use Rattle.spv_types.specs.Entries.{AreKept, IsReading, Reads}
use Rattle.spv_types.specs.Whole.{AreRead, Finds, HasMeanings, Rises}
use Rattle.spv_types.proofs.Reading.{read-none, read-next, read-refused, read-all}

pub read-begins : (insts : List Instruction) (entries : List (ℕ × Kept)) → Rises insts → entries ≡ [] → AreRead insts 0 false entries
read-begins insts entries rises is =
    rw is (record {
      end = rises.0;
      read = read-none rises.0 insts rises.1;
      kept = record {
        stand = tt;
        only = record { at = λ id h. absurd (no_truth h) };
        composed = record { sized = λ n id t words h. absurd (no_entry n h); parts = λ n id t words c numbers h. absurd (no_entry n h) };
      };
      begun_is = refl;
    })
  where
    no_truth : false ≡ true → ⊥
    no_truth h = cc

    no_entry : {X : Type 0} {x : X} (n : ℕ) → slice_get [] n ≡ Some x → ⊥
    no_entry n h = cc

mark_is : (test : List Instruction → ℕ → Instruction → Bool) (insts : List Instruction) (marks : List Bool) (k : ℕ) (i : Instruction) (b : Bool) → AreMarks test insts marks → slice_get insts k ≡ Some i →
    slice_get marks k ≡ Some b → test insts k i ≡ b
mark_is test insts marks k i b are at mark = ap (flag_or b) (sym (are.each k i at) ∙ mark)
  where
    flag_or : Bool → Option Bool → Bool
    flag_or b None = b
    flag_or b (Some x) = x

pub reading-at : (insts : List Instruction) (k : ℕ) (i : Instruction) (begun occurs repeats : Bool) (types decorations : List Bool) (entries : List (ℕ × Kept)) → AreInstructions insts → AreRead insts k begun entries → slice_get insts k ≡ Some i →
    AreMarks occurs_before insts types → slice_get types k ≡ Some occurs → AreMarks repeats_before insts decorations → slice_get decorations k ≡ Some repeats →
    IsReading insts k i (record { number = k; begun = begun; occurs = occurs; repeats = repeats }) entries
reading-at insts k i begun occurs repeats types decorations entries instructions are at of_types type of_decorations decoration =
    record {
      instructions = instructions;
      unbroken = are.read.unbroken;
      at = at;
      number_is = refl;
      begun_is = are.begun_is;
      occurs_is = mark_is occurs_before insts types k i occurs of_types at type;
      repeats_is = mark_is repeats_before insts decorations k i repeats of_decorations at decoration;
      kept = are.kept;
    }

pub read-goes-on : (insts : List Instruction) (k : ℕ) (i : Instruction) (begun behind : Bool) (entries new : List (ℕ × Kept)) → AreRead insts k begun entries → slice_get insts k ≡ Some i → Reads insts k i new (Ok tt) →
    behind ≡ (begun || is_function i) → AreRead insts (k + 1) behind new
read-goes-on insts k i begun behind entries new are at reads is =
    let e : suc k ≡ k + 1 = omega arith in
    record {
      end = are.end;
      read = read-next are.end insts k i are.read at reads.0;
      kept = reads.1;
      begun_is =
          ap (λ (n : ℕ). (declared_before insts n).begun) (sym e) ∙ ap (λ (d : Declared). d.begun) (declared-more insts k i at) ∙ ap (λ (b : Bool). b || is_function i) are.begun_is ∙ sym is;
    }

pub read-stops : {T : Type 0} (Holds : T → Type 0) (insts : List Instruction) (k : ℕ) (i : Instruction) (begun : Bool) (entries new : List (ℕ × Kept)) (fault : Fault) → AreRead insts k begun entries → slice_get insts k ≡ Some i →
    Reads insts k i new (Err fault) → Finds (first (group_3 insts)) Holds (Err fault)
read-stops Holds insts k i begun entries new (faults.Refused refusal) are at reads =
    read-refused are.end insts k i refusal.rule are.read at reads.0 ∙ ap (λ (n : ℕ). Some (place refusal.rule n)) (sym reads.1)
  where
    place : ℕ → ℕ → Refusal
    place rule at = record { rule = rule; at = at }
read-stops Holds insts k i begun entries new faults.Nesting are at reads = reads
read-stops Holds insts k i begun entries new faults.NoMemory are at reads = reads

pub read-ends : (insts : List Instruction) (k : ℕ) (begun : Bool) (entries : List (ℕ × Kept)) → AreInstructions insts → AreRead insts k begun entries → k ≡ length insts →
    (first (group_3 insts) ≡ None) × HasMeanings insts insts entries
read-ends insts k begun entries instructions are end = (
  read-all are.end insts k are.read (omega (arith, end)),
  record {
    same = refl;
    instructions = instructions;
    unbroken = subst (Unbroken insts) end are.read.unbroken;
    stand = (subst (λ (n : ℕ). AreKept (declared_before insts n) entries) end are.kept).stand;
  },
)
