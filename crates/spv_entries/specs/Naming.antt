-- What is kept of the functions that instructions name.
use Rattle.std.specs.Prelude.{◌≡◌, ℕ, Bool, ◌&&◌, ◌||◌, List, Option}
use Rattle.std.specs.BTreeSet.{BTreeSet, contains}
use Rattle.std.specs.List.{list_any}
use Rattle.std.specs.Ordering.{nat_cmp}
use Rattle.spv_module.specs.Instruction.{Instruction}
use Rattle.spv_repeats.specs.Steps.{HasKeys}
use Rattle.spv_entries.specs.declared.naming.Modes.{Modes}
use Rattle.spv_entries.specs.declared.naming.Naming.{Naming}
use Rattle.spv_entries.specs.Sizes.{names, two_name, entry_function, literal_function, id_function, unfit_function, sizes_all}
use Rattle.spv_entries.specs.Functions.{called_function}

-- the set has the functions that instructions of a kind name
abbrev pub HasNamed : (Instruction → Option ℕ) → BTreeSet ℕ → List Instruction → Type 0
HasNamed kind set insts = HasKeys nat_cmp (λ id i. names (kind i) id) set insts

-- those that one names, and those that two name
pub record HasModes (kind : Instruction → Option ℕ) (modes : Modes) (insts : List Instruction) : Type 0 where
  pub once : HasNamed kind modes.once insts
  pub twice : (id : ℕ) → contains nat_cmp modes.twice id ≡ two_name kind insts id

-- a function is named once more, if there is one
pub record AddsMode (old new : Modes) (function : Option ℕ) : Type 0 where
  pub once : (id : ℕ) → contains nat_cmp new.once id ≡ (contains nat_cmp old.once id || names function id)
  pub twice : (id : ℕ) → contains nat_cmp new.twice id ≡ (contains nat_cmp old.twice id || (contains nat_cmp old.once id && names function id))

pub record HasNaming (all : List Instruction) (naming : Naming) (insts : List Instruction) : Type 0 where
  pub entered : HasNamed entry_function naming.entered insts
  pub called : HasNamed called_function naming.called insts
  pub literal : HasModes literal_function naming.literal insts
  pub by_ids : HasModes id_function naming.by_ids insts
  pub unfit : HasNamed (unfit_function all) naming.unfit insts
  pub sized : naming.sized ≡ list_any (sizes_all all) insts
