-- What is kept of a whole module.
use Rattle.std.specs.Prelude.{◌≡◌, ℕ, Bool, List, take}
use Rattle.spv_module.specs.Instruction.{Instruction}
use Rattle.spv_repeats.specs.Marks.{AreMarks}
use Rattle.spv_entries.specs.declared.naming.Naming.{Naming}
use Rattle.spv_entries.specs.Naming.{HasNaming}
use Rattle.spv_entries.specs.Slots.{clashes, is_named_again}

-- the marks of the instructions that break 603, and of those that break 604
abbrev pub AreClashing : (all insts : List Instruction) → (marks : List Bool) → Type 0
AreClashing all insts marks = AreMarks (λ is k i. clashes all (take k is) i) insts marks

abbrev pub AreRenamed : (insts : List Instruction) → (marks : List Bool) → Type 0
AreRenamed insts marks = AreMarks (λ is k i. is_named_again (take k is) i) insts marks

-- these marks, and the functions that are named
pub record AreKept (insts : List Instruction) (unbound again : List Bool) (named : Naming) : Type 0 where
  pub clashing : AreClashing insts insts unbound
  pub renamed : AreRenamed insts again
  pub naming : HasNaming insts named insts
