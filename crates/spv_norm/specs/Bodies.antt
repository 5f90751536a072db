-- The trees of the functions of a module.
use Rattle.std.specs.Prelude.{◌≡◌, ℕ, List, length, slice_get, Some}
use Rattle.std.specs.List.{count_by}
use Rattle.spv_module.specs.Code.{is_function}
use Rattle.spv_module.specs.Instruction.{Instruction}
use Rattle.spv_blocks.specs.Cutting.{function_insts}
use Rattle.spv_bodies.specs.Listing.{listed}
use Rattle.spv_normal.specs.Normal.{normal_function}
use Rattle.spv_tree.specs.declared.body.Body.{Body}
use Rattle.spv_tree.specs.Sound.{IsSound}
use Rattle.spv_tree.specs.Tree.{body_of}

-- a sound tree, whose lines are the function in its normal form
pub record IsTreeOf (insts : List Instruction) (body : Body) : Type 0 where
  pub sound : IsSound (body_of body)
  pub normal : listed (body_of body) ≡ normal_function insts

-- one for each function, in order
pub record AreTrees (insts : List Instruction) (bodies : List Body) : Type 0 where
  pub count : length bodies ≡ count_by is_function insts
  pub each : (k : ℕ) (body : Body) → slice_get bodies k ≡ Some body → IsTreeOf (function_insts k insts) body
