use Rattle.std.proofs.Common.{◌≡◌}
use Rattle.spv_bodies.specs.Bodies.{Body}
use Rattle.spv_tree.specs.Tree.{items_then, steps_then}
use Rattle.spv_editing.proofs.editing.push_ops.Given as goal

abbrev pub invariant-insts : goal.invariant-insts
invariant-insts l = (rest : Body) → items_then l.made rest ≡ items_then l.fn.made (steps_then l.yielded rest)
