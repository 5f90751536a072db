use Rattle.std.proofs.Common.{◌≡◌, map}
use Rattle.spv_bodies.specs.Bodies.{Body}
use Rattle.spv_tree.specs.Tree.{arm_body, items_then}
use Rattle.spv_editing.specs.Editing.{edited}
use Rattle.spv_editing.proofs.editing.+editing.Given as goal

abbrev pub invariant-edit_items-items : goal.invariant-edit_items-items
invariant-edit_items-items g l =
    (rest : Body) → items_then l.made (edited (g.E.Editor.edit l.editor) rest) ≡ edited (g.E.Editor.edit l.editor) (items_then l.yielded rest)

abbrev pub invariant-edit_arms-arms : goal.invariant-edit_arms-arms
invariant-edit_arms-arms g l = map arm_body l.made ≡ map (λ arm. edited (g.E.Editor.edit l.editor) (arm_body arm)) l.yielded
