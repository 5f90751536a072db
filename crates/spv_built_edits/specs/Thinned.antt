-- Modules that are built, from which instructions are dropped, some of them steps of functions.
use Rattle.std.specs.Prelude.{◌≡◌, ◌==◌, ℕ, Bool, true, false, List, [], ◌∷◌, slice_get, Some}
use Rattle.std.specs.List.{AllByRecursion}
use Rattle.spv_opcodes.specs.declared.op.TheConstants as op
use Rattle.spv_module.specs.Instruction.{Instruction, opcode}
use Rattle.spv_repeats.specs.Repeats.{is_workgroup_size}
use Rattle.spv_typing.specs.Kinds.{is_one_of}
use Rattle.spv_bodies.specs.Bodies.{Function}
use Rattle.spv_editing.specs.Editing.{Edit, KeepsSteps, edited_function}
use Rattle.spv_editing.specs.Showing.{shown}
use Rattle.spv_fine_edits.specs.Laws.{StaysOrGoes}

-- what a module has to have, what makes its functions and blocks, and the modes of its entry points
abbrev pub shaping_kinds : List ℕ
shaping_kinds =
    op.CAPABILITY ∷ op.MEMORY_MODEL ∷ op.ENTRY_POINT ∷ op.EXECUTION_MODE ∷ op.EXECUTION_MODE_ID
    ∷ op.FUNCTION ∷ op.FUNCTION_END ∷ op.LABEL ∷ op.BRANCH ∷ op.BRANCH_CONDITIONAL ∷ op.SWITCH ∷ op.RETURN ∷ op.RETURN_VALUE ∷ op.UNREACHABLE ∷ []

-- it is kept
abbrev pub KeepsShape : (keep : Instruction → Bool) → List Instruction → Type 0
KeepsShape keep insts = (k : ℕ) (i : Instruction) → slice_get insts k ≡ Some i → is_one_of shaping_kinds (opcode i) ≡ true → keep i ≡ true

-- what makes a constant the size of workgroups is kept
abbrev pub KeepsSizes : (keep : Instruction → Bool) → List Instruction → Type 0
KeepsSizes keep insts = (k : ℕ) (i : Instruction) → slice_get insts k ≡ Some i → is_workgroup_size i ≡ true → keep i ≡ true

-- the second function is the first one without some steps, whose results have gone; what is used stays
pub record IsThinnedFunction (gone : ℕ → Bool) (f g : Function) : Type 0 where
  pub edit : Edit
  pub keeps : KeepsSteps edit
  pub same : g ≡ edited_function edit f
  pub body : AllByRecursion (StaysOrGoes gone edit) (shown f.body)

abbrev pub AreThinned : (gone : ℕ → Bool) → List Function → List Function → Type 0
AreThinned gone [] [] = Unit {0}
AreThinned gone [] (g ∷ gs) = ⊥
AreThinned gone (f ∷ fs) [] = ⊥
AreThinned gone (f ∷ fs) (g ∷ gs) = IsThinnedFunction gone f g × AreThinned gone fs gs

-- an instruction that opens and ends neither functions nor blocks
pub record IsNoOpening (i : Instruction) : Type 0 where
  pub function : (opcode i == op.FUNCTION) ≡ false
  pub parameter : (opcode i == op.FUNCTION_PARAMETER) ≡ false
  pub end : (opcode i == op.FUNCTION_END) ≡ false
  pub label : (opcode i == op.LABEL) ≡ false
