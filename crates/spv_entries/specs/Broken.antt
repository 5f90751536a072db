-- The rules on bindings and entry points that the k-th instruction breaks: 603 Binding, 604 EntryName, 605 LocalSize, 606 EntryFunction.
use Rattle.std.specs.Prelude.{ℕ, zero, suc, ◌+◌, List, [], ◌∷◌, ◌++◌, take}
use Rattle.spv_base.specs.declared.fault.Refusal.{Refusal}
use Rattle.spv_module.specs.First.{here, unless}
use Rattle.spv_module.specs.Instruction.{Instruction}
use Rattle.spv_entries.specs.Bindings.{binding_fits}
use Rattle.spv_entries.specs.Names.{name_fits}
use Rattle.spv_entries.specs.Sizes.{size_fits}
use Rattle.spv_entries.specs.Functions.{function_fits}

abbrev pub entry_rules : List Instruction → (k : ℕ) → Instruction → List ℕ
entry_rules insts k i =
    unless (binding_fits insts (take k insts) i) 603
    ++ (unless (name_fits (take k insts) i) 604
    ++ (unless (size_fits insts i) 605
    ++ unless (function_fits insts i) 606))
