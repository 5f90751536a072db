-- What editing keeps.
use Rattle.std.specs.Prelude.{◌≡◌, map}
use Rattle.std.specs.List.{flat_map}
use Rattle.spv_bodies.specs.Bodies.{Body, Function, depth}
use Rattle.spv_tree.specs.Branches.{branches_in}
use Rattle.spv_tree.specs.Sound.{IsSound, entered, fronts}
use Rattle.spv_editing.specs.Editing.{Edit, KeepsSteps, after, edited, edited_branching, edited_function, unchanged}
use Rattle.spv_editing.specs.Showing.{edited_shown, shown, steps_of, uses_of}

-- where nothing is replaced the function is the same
abbrev pub UnchangedLaw : Type 0
UnchangedLaw = (f : Function) → edited_function unchanged f ≡ f

-- two edits, one after the other, are one
abbrev pub TwiceLaw : Type 0
TwiceLaw = (first second : Edit) (f : Function) → edited_function second (edited_function first f) ≡ edited_function (after second first) f

-- constructs nest as before
abbrev pub DepthLaw : Type 0
DepthLaw = (e : Edit) (b : Body) → depth (edited e b) ≡ depth b

-- the blocks are the same
abbrev pub EnteredLaw : Type 0
EnteredLaw = (e : Edit) (b : Body) → entered (edited e b) ≡ entered b

abbrev pub FrontsLaw : Type 0
FrontsLaw = (e : Edit) (b : Body) → fronts (edited e b) ≡ fronts b

-- branches go from and to the same blocks, with what stands for their values
abbrev pub BranchesLaw : Type 0
BranchesLaw = (e : Edit) (f : Function) → branches_in (edited_function e f) ≡ map (edited_branching e) (branches_in f)

-- what is shown of the body
abbrev pub ShownLaw : Type 0
ShownLaw = (e : Edit) (b : Body) → shown (edited e b) ≡ flat_map (edited_shown e) (shown b)

abbrev pub StepsLaw : Type 0
StepsLaw = (e : Edit) (b : Body) → steps_of (edited e b) ≡ flat_map e.steps (steps_of b)

abbrev pub UsesLaw : Type 0
UsesLaw = (e : Edit) (b : Body) → uses_of (edited e b) ≡ map e.uses (uses_of b)

-- a sound function stays so
abbrev pub SoundLaw : Type 0
SoundLaw = (e : Edit) (f : Function) → KeepsSteps e → IsSound f → IsSound (edited_function e f)
