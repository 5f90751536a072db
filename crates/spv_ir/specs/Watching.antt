-- What a watcher tells: the modules that were shown to it, in order, each with the number of the pass that gave it.
use Rattle.std.specs.Prelude.{ℕ, List, [], ◌∷◌, ◌++◌, Option}
use Rattle.std.specs.Option.{option_map}
use Rattle.spv_module.specs.Code.{Code}
use Rattle.spv_ir.specs.declared.watching.Shown.{Shown}

-- a module with its pass: 0 for the module that was admitted, k for the one that the k-th pass gave
abbrev pub Told : Type 0
Told = ℕ × Code

-- one more is shown, where a watcher tells what it was shown
abbrev pub with_shown : (pass : ℕ) → Code → Option (List Told) → Option (List Told)
with_shown pass code told = option_map (λ list. list ++ (pass, code) ∷ []) told

abbrev pub entry_of : Shown → Told
entry_of shown = (shown.pass, shown.entry)
