use Rattle.std.proofs.Common.{◌≡◌, ℕ, length}
use Rattle.std.specs.List.{slice_get}
use Rattle.std.proofs.Common.{Some}
use Rattle.spv_blocks.specs.Cutting.{function_insts}
use Rattle.spv_tree.specs.declared.body.Body.{Body}
use Rattle.spv_norm.specs.Bodies.{IsTreeOf}
use Rattle.function_tests.proofs.norm.trees.Given as goal

abbrev pub invariant-functions : goal.invariant-functions
invariant-functions l =
    (length l.bodies.items ≡ l.f) × ((k : ℕ) (body : Body) → slice_get l.bodies.items k ≡ Some body → IsTreeOf (function_insts k l.fn.flat.insts) body)
