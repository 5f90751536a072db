use Rattle.std.proofs.Common.{◌≡◌}
use Rattle.spv_bodies.specs.Bodies.{Body}
use Rattle.spv_tree.specs.Tree.{items_then, steps_then}
use Rattle.spv_parse.proofs.pushing.push_steps.Given as goal

abbrev pub invariant-steps : goal.invariant-steps
invariant-steps l = (rest : Body) → items_then l.items.items rest ≡ items_then l.fn.items.items (steps_then l.yielded rest)
