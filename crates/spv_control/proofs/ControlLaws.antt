-- What it says that all functions of a module are read: no rule is broken in one, and none nests too deep.
use Rattle.std.proofs.Common.{inl, inr, ℕ, ◌<◌, ◌≤◌, Bool, List, None, arith}
use Rattle.std.specs.List.{count_by}
use Rattle.std.proofs.lemmas.Option.{slice_get_cases}
use Rattle.spv_module.specs.Code.{is_function}
use Rattle.spv_module.specs.Instruction.{Instruction}
use Rattle.spv_blocks.specs.Cutting.{blocks_of, function_insts}
use Rattle.spv_walk.specs.Rules.{Broken, IsFirst}
use Rattle.spv_tree.specs.declared.body.Body.{Body}
use Rattle.spv_parse.specs.Functions.{IsNested}
use Rattle.spv_functions.specs.Functions.{IsTree, is_pointer}
use Rattle.spv_control.specs.Control.{AreParsed, BrokenInSome, NestsTooDeep}

-- a function has one greatest depth
pub depths_same : (is_pointer : ℕ → Bool) (insts : List Instruction) (one other : ℕ) → IsNested is_pointer insts one → IsNested is_pointer insts other
    → other ≤ one
depths_same is_pointer insts one other h k = elim k.greatest.reached [ inl e ↦ omega arith | inr d ↦ h.greatest.bound other d ]

module _ (insts : List Instruction) (bodies : List Body) (h : AreParsed insts bodies) where
  -- each function has its tree
  pub parsed_tree : (f : ℕ) → f < count_by is_function insts → (body : Body) × IsTree (is_pointer insts) (function_insts f insts) body
  parsed_tree f below = elim (slice_get_cases bodies f).1 [
    | inl (body, _, at, _) ↦ (body, h.each f body at)
    | inr (past, _) ↦ absurd (let count = h.count in omega arith)
  ]

  pub parsed_clean : (f : ℕ) → f < count_by is_function insts → IsFirst (Broken (is_pointer insts) (blocks_of (function_insts f insts))) None
  parsed_clean f below = (parsed_tree f below).1.parsed.nested.unbroken

  pub parsed_unbroken : IsFirst (BrokenInSome insts) None
  parsed_unbroken rule at b = parsed_clean b.function b.is rule at b.broken

  pub parsed_shallow : NestsTooDeep insts → ⊥
  parsed_shallow d =
      let tree = (parsed_tree d.function d.is).1 in
      let within = tree.parsed.within in
      let above = d.deep.above in
      let most = depths_same (is_pointer insts) (function_insts d.function insts) tree.parsed.depth d.deep.depth tree.parsed.nested d.deep.nested in
      absurd (omega arith)
