-- Modules that are built: of instructions outside functions and of functions as trees. What is asked of each part, so that the whole is a module.
use Rattle.std.specs.Prelude.{◌≡◌, ℕ, ◌≤◌, Bool, false, List, ◌++◌, length, None}
use Rattle.std.specs.List.{AllByRecursion, flat_map}
use Rattle.spv_module.specs.Code.{Code, code_of, is_line, spelling}
use Rattle.spv_module.specs.First.{first}
use Rattle.spv_module.specs.Instruction.{Instruction}
use Rattle.spv_module.specs.Layout.{group_2}
use Rattle.spv_bound.specs.Bound.{bound_of_ids}
use Rattle.spv_declarations.specs.Broken.{group_3}
use Rattle.spv_bodies.specs.Bodies.{Function, depth}
use Rattle.spv_bodies.specs.Listing.{listed}
use Rattle.spv_tree.specs.Sound.{IsSound}
use Rattle.spv_tree.specs.Tree.{words_of}
use Rattle.spv_functions.specs.Functions.{is_pointer}
use Rattle.spv_norm.specs.Norm.{outside}
use Rattle.spv_structured.specs.Laws.{Opens}
use Rattle.spv_structured.specs.Structured.{IsStructured}
use Rattle.spv_respelling.specs.Normal.{IsNormal}
use Rattle.spv_typed_trees.specs.Typed.{IsTyped}
use Rattle.spv_fine.specs.Fine.{IsFine}
use Rattle.spv_fine.specs.Laws.{IsKnown, Told}
use Rattle.spv_norm_declared.specs.Laws.{AreUnbroken}
use Rattle.spv_norm_entries.specs.Laws.{AllEntered}
use Rattle.spv_norm_exits.specs.Laws.{IsUncrowded}

-- the word count of a line stands in half a word
abbrev pub IsShort : List ℕ → Type 0
IsShort words = length words ≤ 65535

-- The tree of a function in a module with these instructions: it is sound, structured and in normal form, and nests at most 255 deep; what it uses has the
-- types that are asked for, and is available.
pub record FunctionIsBuilt (insts : List Instruction) (f : Function) : Type 0 where
  pub sound : IsSound f
  pub opens : Opens f
  pub short : AllByRecursion IsShort (listed f)
  pub structured : IsStructured (is_pointer insts) f
  pub normal : IsNormal f
  pub shallow : depth f.body ≤ 255
  pub typed : IsTyped insts f
  -- what is promised at labels, and that it is kept
  pub promised : (label id : ℕ) → Bool
  pub fine : IsFine (IsKnown insts) (λ label. Told (promised label)) f

-- Instructions are those outside functions, without line marks, and then the listings of these functions. No rule is broken on layout (201 to 205), on
-- declarations (301 to 309), in a function, and on the whole module (601 to 607).
pub record AreBuilt (insts : List Instruction) (fs : List Function) : Type 0 where
  pub marks : AllByRecursion (λ i. is_line i ≡ false) (outside insts)
  pub lines : words_of insts ≡ words_of (outside insts) ++ flat_map listed fs
  pub laid_out : (end : ℕ) → first (group_2 end insts) ≡ None
  pub declared : first (group_3 insts) ≡ None
  pub functions : AllByRecursion (FunctionIsBuilt insts) fs
  pub entered : AllEntered insts
  pub uncrowded : IsUncrowded insts

-- the header of a module of the profile (101, 102, 103), with the bound that its ids ask for
pub record HasOwnHeader (code : Code) : Type 0 where
  pub version : code.header.version ≡ 0x0001_0600
  pub bound : code.header.bound ≡ bound_of_ids code.insts
  pub within : code.header.bound ≤ 4194303
  pub schema : code.header.schema ≡ 0

-- A module: its instructions are of the profile, and break no rule by themselves (103, 106 to 109); and where they stand once they are written as words and
-- cut again, they are built of these functions.
pub record IsBuilt (code : Code) (fs : List Function) : Type 0 where
  pub header : HasOwnHeader code
  pub unbroken : AreUnbroken code
  pub placed : AreBuilt (code_of (spelling code)).insts fs
