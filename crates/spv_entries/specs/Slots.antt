-- What is kept of the instructions that were read: whether a function has begun, and which slots and names are taken.
use Rattle.std.specs.Prelude.{◌≡◌, ℕ, Bool, not, List}
use Rattle.std.specs.Global.{Vec}
use Rattle.std.specs.BTreeSet.{BTreeSet}
use Rattle.std.specs.List.{list_any}
use Rattle.spv_module.specs.Code.{is_function}
use Rattle.spv_module.specs.Instruction.{Instruction}
use Rattle.spv_repeats.specs.Steps.{HasKeys, triple_cmp, vec_cmp}
use Rattle.spv_entries.specs.declared.bindings.Slots.{Slots}
use Rattle.spv_entries.specs.Bindings.{stands_at, binding_fits}
use Rattle.spv_entries.specs.Names.{has_name, name_fits}

pub record HasSlots (insts : List Instruction) (slots : Slots) (before : List Instruction) : Type 0 where
  pub begun : slots.begun ≡ list_any is_function before
  pub taken : HasKeys triple_cmp (stands_at insts) slots.taken before

abbrev pub is_named : Vec ℕ → Instruction → Bool
is_named key i = has_name key.items i

abbrev pub HasNames : BTreeSet (Vec ℕ) → List Instruction → Type 0
HasNames = HasKeys vec_cmp is_named

-- an instruction breaks 603, and 604, behind those before it
abbrev pub clashes : (insts before : List Instruction) → Instruction → Bool
clashes insts before i = not (binding_fits insts before i)

abbrev pub is_named_again : (before : List Instruction) → Instruction → Bool
is_named_again before i = not (name_fits before i)
