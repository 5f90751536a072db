-- What is asked of an edit of a function that is built, round what its lines use.
use Rattle.std.specs.Prelude.{◌≡◌, ℕ, Bool, true, false, List, [], ◌∷◌, ◌++◌, None}
use Rattle.std.specs.List.{AllByRecursion, flat_map}
use Rattle.spv_module.specs.Code.{is_line}
use Rattle.spv_module.specs.First.{first}
use Rattle.spv_module.specs.Instruction.{Instruction, IsInstruction, roles}
use Rattle.spv_module.specs.Layout.{group_2}
use Rattle.spv_declarations.specs.Broken.{group_3}
use Rattle.spv_blocks.specs.Blocks.{has}
use Rattle.spv_bodies.specs.Bodies.{Function}
use Rattle.spv_bodies.specs.Listing.{listed}
use Rattle.spv_tree.specs.Sound.{IsSound}
use Rattle.spv_tree.specs.Tree.{words_of}
use Rattle.spv_structured.specs.Laws.{Opens}
use Rattle.spv_norm.specs.Norm.{outside}
use Rattle.spv_norm_entries.specs.Laws.{AllEntered}
use Rattle.spv_functions.specs.Functions.{is_pointer}
use Rattle.spv_editing.specs.Editing.{Edit, KeepsSteps, edited_function}
use Rattle.spv_editing.specs.Showing.{steps_of, uses_of}
use Rattle.spv_replaced_values.specs.Replaced.{ReplacesValues, stands_in}
use Rattle.spv_typed_trees.specs.Typed.{as_instruction}
use Rattle.spv_typed_edits.specs.Edits.{KeepsFitting, KeepsUses, SameRound, is_type}
use Rattle.spv_built.specs.Built.{IsShort}

-- the lines that are put for a step of a function are no longer than a word count says, where it is not
abbrev pub PutsShort : Edit → Function → Type 0
PutsShort e f = AllByRecursion (λ words. IsShort words → AllByRecursion IsShort (e.steps words)) (steps_of f.body)

-- An edit of a function, from the module that it stands in to the one that it then stands in: instructions of blocks become such instructions, which are
-- short; the same ids are types of pointers; and what is put fits and has its types, where what was there did.
pub record IsFitting (before after : List Instruction) (e : Edit) (f : Function) : Type 0 where
  pub steps : KeepsSteps e
  pub short : PutsShort e f
  pub pointers : (id : ℕ) → is_pointer after id ≡ is_pointer before id
  pub round : SameRound before after f
  pub fitting : KeepsFitting before after e f
  pub uses : KeepsUses before after e f

-- What is asked of two modules of which the second is without what some steps give: types stay, and nothing that has gone becomes one; and so do pointers.
pub record TypesStay (gone : ℕ → Bool) (before after : List Instruction) : Type 0 where
  pub stay : (t : ℕ) → is_type before t ≡ true → gone t ≡ false
  pub none : (t : ℕ) → gone t ≡ true → is_type after t ≡ false
  pub pointers : (id : ℕ) → is_pointer after id ≡ is_pointer before id

-- the steps of a function are instructions of the profile
abbrev pub AreLines : Function → Type 0
AreLines f = AllByRecursion (λ words. IsInstruction words (roles (as_instruction words))) (steps_of f.body)

-- one line is put for a step: an instruction of the profile, in which other values stand
pub record PutsLine (insts : List Instruction) (e : Edit) (words : List ℕ) : Type 0 where
  pub line : List ℕ
  pub is : e.steps words ≡ line ∷ []
  pub whole : IsInstruction line (roles (as_instruction line))
  pub replaces : ReplacesValues insts words line

-- so it is for each step of a function, and for each id that is used elsewhere one is put that may stand there
pub record PutsValues (insts : List Instruction) (e : Edit) (f : Function) : Type 0 where
  pub steps : AllByRecursion (PutsLine insts e) (steps_of f.body)
  pub uses : AllByRecursion (λ id. stands_in insts id (e.uses id) ≡ true) (uses_of f.body)

-- other ids are put for these alone
abbrev pub MovesOnly : List ℕ → Edit → Type 0
MovesOnly moved e = (id : ℕ) → has moved id ≡ false → e.uses id ≡ id

-- ---- all functions of a module

-- each is edited, by an edit of its own
abbrev pub AreEdited : List Function → List Function → Type 0
AreEdited [] [] = Unit {0}
AreEdited [] (g ∷ gs) = ⊥
AreEdited (f ∷ fs) [] = ⊥
AreEdited (f ∷ fs) (g ∷ gs) = ((e : Edit) × KeepsSteps e × (g ≡ edited_function e f)) × AreEdited fs gs

-- What is asked of a module besides its functions: what stands outside them has no line marks, and before them it stands; and no rule is broken on layout, on
-- declarations, and on calls, interfaces, bindings and entry points.
pub record StandsRound (insts : List Instruction) (fs : List Function) : Type 0 where
  pub marks : AllByRecursion (λ i. is_line i ≡ false) (outside insts)
  pub lines : words_of insts ≡ words_of (outside insts) ++ flat_map listed fs
  pub laid_out : (end : ℕ) → first (group_2 end insts) ≡ None
  pub declared : first (group_3 insts) ≡ None
  pub entered : AllEntered insts

-- functions that are sound, and begin with OpFunction and its parameters
abbrev pub AreSoundFunctions : List Function → Type 0
AreSoundFunctions gs = AllByRecursion (λ g. IsSound g × Opens g) gs
