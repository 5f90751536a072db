-- A module that breaks no rule on calls, interfaces, bindings and entry points breaks none without some of its instructions: a law, as a statement.
use Rattle.std.specs.Prelude.{◌≡◌, ◌||◌, ℕ, Bool, true, List, slice_get, Some}
use Rattle.spv_module.specs.Instruction.{Instruction}
use Rattle.spv_module.specs.Layout.{is_entry_point}
use Rattle.spv_declarations.specs.Laws.{IsUnbroken}
use Rattle.spv_repeats.specs.Repeats.{is_workgroup_size}
use Rattle.spv_entries.specs.Sizes.{is_mode}
use Rattle.spv_norm_entries.specs.Laws.{AllEntered}
use Rattle.spv_thinned.specs.Thinned.{IsThinned}

-- entry points and their modes are kept, and so is what makes a constant the size of workgroups
abbrev pub KeepsEntries : (keep : Instruction → Bool) → List Instruction → Type 0
KeepsEntries keep insts = (k : ℕ) (i : Instruction) → slice_get insts k ≡ Some i → (is_entry_point i || (is_mode i || is_workgroup_size i)) ≡ true → keep i ≡ true

abbrev pub ThinnedIsEntered : Type 0
ThinnedIsEntered =
    (gone : ℕ → Bool) (keep : Instruction → Bool) (before after : List Instruction) → IsUnbroken before → IsThinned gone keep before after
    → KeepsEntries keep before → AllEntered before → AllEntered after
