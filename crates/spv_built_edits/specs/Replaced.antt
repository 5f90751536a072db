-- Modules in whose functions uses are replaced by other values of their types that are available there.
use Rattle.std.specs.Prelude.{◌≡◌, ℕ, Bool, true, List, [], ◌∷◌, ◌++◌, map}
use Rattle.std.specs.List.{flat_map}
use Rattle.spv_module.specs.Instruction.{Instruction}
use Rattle.spv_calls.specs.Calls.{globals_in}
use Rattle.spv_calls.specs.Interfaces.{has}
use Rattle.spv_bodies.specs.Bodies.{Function}
use Rattle.spv_bodies.specs.Listing.{listed}
use Rattle.spv_tree.specs.Tree.{words_of}
use Rattle.spv_norm.specs.Norm.{outside}
use Rattle.spv_editing.specs.Editing.{KeepsSteps, edited_function}
use Rattle.spv_fine.specs.Fine.{IsFine, With, defined_in}
use Rattle.spv_fine.specs.Laws.{IsKnown, Told}
use Rattle.spv_fine_edits.specs.Giving.{Offers}
use Rattle.spv_fine_edits.specs.Laws.{PutsIn, Replacing}
use Rattle.spv_typed_trees.specs.Typed.{as_instruction}
use Rattle.spv_built_edits.specs.Edits.{MovesOnly, PutsValues}

-- The function g is f, edited: for each step one line is put, of the profile, in which values stand for others of their types, and such a value for each id
-- that is used elsewhere; and what is put is available where it is put, whatever is promised at labels. All is asked of the module before.
pub record IsReplacedFunction (before : List Instruction) (f g : Function) : Type 0 where
  pub replacing : Replacing
  pub keeps : KeepsSteps replacing.edit
  pub same : g ≡ edited_function replacing.edit f
  pub values : PutsValues before replacing.edit f
  -- other ids are put for these alone
  pub moved : List ℕ
  pub only : MovesOnly moved replacing.edit
  pub puts : PutsIn replacing (IsKnown before) (IsKnown before) f
  pub offers :
      (promised : (label id : ℕ) → Bool) → IsFine (IsKnown before) (λ label. Told (promised label)) f
      → Offers (λ label. Told (promised label)) replacing.wants (With (IsKnown before) (flat_map defined_in f.parameters)) f.body

-- so it is with each of the functions
abbrev pub AreReplacedFunctions : (before : List Instruction) → List Function → List Function → Type 0
AreReplacedFunctions before [] [] = Unit {0}
AreReplacedFunctions before [] (g ∷ gs) = ⊥
AreReplacedFunctions before (f ∷ fs) [] = ⊥
AreReplacedFunctions before (f ∷ fs) (g ∷ gs) = IsReplacedFunction before f g × AreReplacedFunctions before fs gs

-- the global variables that lines name, by their ids
abbrev pub globals_named : List Instruction → List (List ℕ) → List ℕ
globals_named insts lines = globals_in insts (map as_instruction lines)

-- each function, as it is listed then, names only global variables that it named
abbrev pub NameNoMore : (before : List Instruction) → List Function → List Function → Type 0
NameNoMore before [] [] = Unit {0}
NameNoMore before [] (g ∷ gs) = ⊥
NameNoMore before (f ∷ fs) [] = ⊥
NameNoMore before (f ∷ fs) (g ∷ gs) =
    ((id : ℕ) → has (globals_named before (listed g)) id ≡ true → has (globals_named before (listed f)) id ≡ true) × NameNoMore before fs gs

-- the module after has the instructions outside functions of the one before, and then these functions
pub record AreReplaced (before after : List Instruction) (fs gs : List Function) : Type 0 where
  pub lines : words_of after ≡ words_of (outside before) ++ flat_map listed gs
  pub functions : AreReplacedFunctions before fs gs
