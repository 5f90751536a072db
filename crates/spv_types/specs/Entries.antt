-- What is kept of one declaration more, and what one instruction more that was read comes to.
use Rattle.std.specs.Prelude.{◌≡◌, ℕ, ⊤, ◌+◌, Bool, true, false, List, [], ◌++◌, length, slice_get, Option, Some, None, Result, Ok, Err}
use Rattle.spv_base.specs.declared.fault.Fault.{Fault}
use Rattle.spv_base.specs.declared.fault.Fault.TheVariants as faults
use Rattle.spv_module.specs.First.{least}
use Rattle.spv_module.specs.Instruction.{Instruction}
use Rattle.spv_meaning.specs.Constants.{Table, Meaning, IsConstant}
use Rattle.spv_meaning.specs.Types.{DataType}
use Rattle.spv_repeats.specs.Repeats.{occurs_before, repeats_before}
use Rattle.spv_typing.specs.Kinds.{is_one_of}
use Rattle.spv_declarations.specs.Broken.{rules_at, depth_fits}
use Rattle.spv_declarations.specs.Declarations.{Declared, declared_before, says, entry, is_specialised}
use Rattle.spv_declarations.specs.Sound.{AreInstructions, Unbroken, table_before}
use Rattle.spv_types.specs.declared.meaning.Constant.{Constant}
use Rattle.spv_types.specs.declared.meaning.Kept.{Kept}
use Rattle.spv_types.specs.declared.rules.Standing.{Standing}
use Rattle.spv_types.specs.Declaring.{OnlyConstants}
use Rattle.spv_types.specs.Extracting.{AreComposed, ArePartsOf, HasNumbers, part_types}
use Rattle.spv_types.specs.Meanings.{StandFor, StandsFor, constant_of_kept}

-- what is kept stands for what was declared
pub record AreKept (d : Declared) (entries : List (ℕ × Kept)) : Type 0 where
  pub stand : StandFor d.table d.specialised entries
  pub only : OnlyConstants d
  pub composed : AreComposed d.table entries

-- what is kept of the id that the instruction declares stands for what it is, behind all others
pub record KeepsOne (insts : List Instruction) (d : Declared) (i : Instruction) (r : ℕ) (kept : Kept) : Type 0 where
  pub meaning : Meaning
  pub declares : entry (says insts) d.table i ≡ Some (r, meaning)
  pub stands : (more : Table) (ids : List ℕ) → is_one_of ids r ≡ is_specialised (says insts) d.specialised i → StandsFor (d.table ++ more) ids (length d.table) r kept meaning
  -- parts that are kept are of the types of the composite's parts
  pub parts : (t : DataType) (words : List ℕ) (c : Constant) (numbers : List ℕ) → meaning ≡ IsConstant t words → constant_of_kept (Some kept) ≡ Some c → HasNumbers c.value numbers → ArePartsOf d.table (part_types t) numbers

-- nothing is kept where nothing is declared
abbrev pub KeepsEntry : List Instruction → Declared → Instruction → Option (ℕ × Kept) → Type 0
KeepsEntry insts d i None = entry (says insts) d.table i ≡ None
KeepsEntry insts d i (Some e) = KeepsOne insts d i e.0 e.1

abbrev pub depth_holds : List Instruction → (k : ℕ) → Instruction → Bool
depth_holds insts k i = depth_fits (entry (says insts) (table_before insts k) i)

-- The k-th declared something, or is refused for its depth.
abbrev pub Declares : List Instruction → (k : ℕ) → Instruction → (new : List (ℕ × Kept)) → Result ⊤ Fault → Type 0
Declares insts k i new (Ok done) = (depth_holds insts k i ≡ true) × (rules_at insts (declared_before insts k) k i ≡ [] → AreKept (declared_before insts (k + 1)) new)
Declares insts k i new (Err (faults.Refused refusal)) = (depth_holds insts k i ≡ false) × (refusal ≡ record { rule = 309; at = i.offset })
Declares insts k i new (Err faults.Nesting) = ⊥
Declares insts k i new (Err faults.NoMemory) = ⊤

-- what is known when the k-th is read
pub record IsReading (insts : List Instruction) (k : ℕ) (i : Instruction) (standing : Standing) (entries : List (ℕ × Kept)) : Type 0 where
  pub instructions : AreInstructions insts
  pub unbroken : Unbroken insts k
  pub at : slice_get insts k ≡ Some i
  pub number_is : standing.number ≡ k
  pub begun_is : (declared_before insts k).begun ≡ standing.begun
  pub occurs_is : occurs_before insts k i ≡ standing.occurs
  pub repeats_is : repeats_before insts k i ≡ standing.repeats
  pub kept : AreKept (declared_before insts k) entries

-- The k-th breaks no rule and was read, or is refused for the least rule that it breaks.
abbrev pub Reads : List Instruction → (k : ℕ) → Instruction → (new : List (ℕ × Kept)) → Result ⊤ Fault → Type 0
Reads insts k i new (Ok done) = (rules_at insts (declared_before insts k) k i ≡ []) × AreKept (declared_before insts (k + 1)) new
Reads insts k i new (Err (faults.Refused refusal)) = (least (rules_at insts (declared_before insts k) k i) ≡ Some refusal.rule) × (refusal.at ≡ i.offset)
Reads insts k i new (Err faults.Nesting) = ⊥
Reads insts k i new (Err faults.NoMemory) = ⊤
