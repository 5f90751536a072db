use Rattle.std.proofs.Common.{◌≡◌}
use Rattle.std.specs.List.{flat_map}
use Rattle.spv_editing.specs.Code.{words_in}
use Rattle.spv_editing.proofs.editing.edit_steps.Given as goal

abbrev pub invariant-steps : goal.invariant-steps
invariant-steps g l = words_in l.made.items ≡ flat_map (g.E.Editor.edit l.editor).steps (words_in l.yielded)
