-- The terminators of blocks stay: those of the block that a body begins in, by induction on the body.
use Rattle.std.proofs.Common.{◌≡◌, ℕ, cond, List, [], ◌∷◌, refl, ap, ◌∙◌}
use Rattle.std.specs.Prelude.{◌==◌}
use Rattle.spv_opcodes.specs.declared.op.TheConstants as op
use Rattle.spv_blocks.specs.Blocks.{BranchIf, Switch, Return, Unreachable}
use Rattle.spv_bodies.specs.Bodies.{ByBranch, InPlace, Body, Leaves, Finishes, Step, Enters, Splits, Selects, Switches, Loops, Arms, Last, Also}
use Rattle.spv_bodies.specs.Listing.{Branching, first_target}
use Rattle.spv_tree.specs.Sound.{AreFormed, IsFormed}
use Rattle.spv_structured.specs.Structured.{finish, first_end}
use Rattle.spv_editing.specs.Editing.{Edit, edited, edited_arms, edited_end, steps_before}
use Rattle.spv_editing.proofs.Soundness.{end-opcode, target-kept}

pub end-before : (lines : List (List ℕ)) (b : Body) → first_end (steps_before lines b) ≡ first_end b
end-before [] b = refl
end-before (words ∷ lines) b = end-before lines b

module _ (e : Edit) (all : List Branching) where
  -- an end keeps its opcode
  finish-kept : (words : List ℕ) → finish (edited_end e words) ≡ finish words
  finish-kept words = ap (λ (opcode : ℕ). cond (opcode == op.UNREACHABLE) Unreachable Return) (end-opcode e words)

  pub first-target-kept : (arms : Arms) → AreFormed all arms → first_target (edited_arms e arms) ≡ first_target arms
  first-target-kept (Last arm) h = target-kept e arm h.0
  first-target-kept (Also arm arms) h = target-kept e arm h.0

  pub end-kept : (b : Body) → IsFormed all b → first_end (edited e b) ≡ first_end b
  end-kept (Leaves exit) h = refl
  end-kept (Finishes words) h = finish-kept words
  end-kept (Step words body) h = end-before (e.steps words) (edited e body) ∙ end-kept body h.1
  end-kept (Enters label body) h = refl
  end-kept (Splits condition on exit body) h = ap (λ (t : ℕ). BranchIf (cond on exit.target t) (cond on t exit.target)) (target-kept e body h.0)
  end-kept (Selects control condition first second merge rest) h = λ i. BranchIf (target-kept e first h.0 i) (target-kept e second h.1 i)
  end-kept (Switches control selector cases arms merge rest) h = ap (λ (t : ℕ). Switch t cases) (first-target-kept arms h.2)
  end-kept (Loops (ByBranch values) header control inner next continuing merge rest) h = refl
  end-kept (Loops InPlace header control inner next continuing merge rest) h = end-kept inner h.4
