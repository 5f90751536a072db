-- The listing of a tree that a clean function spells, spells that tree again.
use Rattle.std.specs.Prelude.{◌≡◌, ℕ, List}
use Rattle.spv_module.specs.Instruction.{Instruction}
use Rattle.spv_bodies.specs.Bodies.{Function}
use Rattle.spv_bodies.specs.Listing.{listed}
use Rattle.spv_normal.specs.Lines.{without_marks}
use Rattle.spv_normal.specs.Normal.{normal_function}
use Rattle.spv_tree.specs.Sound.{IsSound}
use Rattle.spv_tree.specs.Tree.{words_of}
use Rattle.spv_structured.specs.Laws.{Opens}
use Rattle.spv_structured.specs.Structured.{IsStructured}
use Rattle.spv_spelling.specs.Clean.{no_pointers}
use Rattle.spv_spelling.specs.Spelling.{SpellsFunction}
use Rattle.spv_spelling.specs.Whole.{AreInstructions, IsAdmitted}
use Rattle.spv_respelling.specs.Normal.{IsNormal, TakesFirst, taking_first}

-- ---- trees by themselves

-- A function that is sound, structured and normal is spelled by its listing, wherever that lies. No two blocks of the listing are joined: each label stays.
abbrev pub NormalIsSpelled : Type 0
NormalIsSpelled =
    (f : Function) (again : List Instruction) → IsSound f → Opens f → IsStructured no_pointers f → IsNormal f → words_of again ≡ listed f
    → SpellsFunction again (λ l. l) f

-- ---- what a clean function spells

-- it is normal
abbrev pub SpelledTreeIsNormal : Type 0
SpelledTreeIsNormal = (insts : List Instruction) (stays : ℕ → ℕ) (f : Function) → IsAdmitted insts → SpellsFunction insts stays f → IsNormal f

-- so its listing spells it again
abbrev pub RespellsListing : Type 0
RespellsListing =
    (insts : List Instruction) (stays : ℕ → ℕ) (f : Function) → IsAdmitted insts → SpellsFunction insts stays f
    → (again : List Instruction) → words_of again ≡ listed f → SpellsFunction again (λ l. l) f

-- and is admitted, where its lines are instructions of the profile
abbrev pub ListingIsAdmitted : Type 0
ListingIsAdmitted =
    (insts : List Instruction) (stays : ℕ → ℕ) (f : Function) → IsAdmitted insts → SpellsFunction insts stays f
    → (again : List Instruction) → words_of again ≡ listed f → AreInstructions again → IsAdmitted again

-- the normal form of a function in normal form is itself
abbrev pub NormalStays : Type 0
NormalStays =
    (insts : List Instruction) (stays : ℕ → ℕ) (f : Function) → IsAdmitted (without_marks insts) → SpellsFunction (without_marks insts) stays f
    → (again : List Instruction) → words_of again ≡ normal_function insts → AreInstructions again
    → normal_function again ≡ words_of again

-- ---- reading

-- A function spells one tree, whatever labels stay, if of two exits the first is taken.
abbrev pub SpelledIsOne : Type 0
SpelledIsOne =
    (insts : List Instruction) (stays more : ℕ → ℕ) (f g : Function) → IsAdmitted insts → SpellsFunction insts stays f → SpellsFunction insts more g
    → TakesFirst f.body → TakesFirst g.body → f ≡ g

-- so what is read of the listing of a tree is that tree
abbrev pub ReadsBack : Type 0
ReadsBack =
    (insts : List Instruction) (stays : ℕ → ℕ) (f : Function) → IsAdmitted insts → SpellsFunction insts stays f → TakesFirst f.body
    → (again : List Instruction) → words_of again ≡ listed f → AreInstructions again
    → (more : ℕ → ℕ) (g : Function) → SpellsFunction again more g → TakesFirst g.body → g ≡ f

-- A tree that takes the second is spelled with the first taken too,
abbrev pub FirstIsTaken : Type 0
FirstIsTaken =
    (insts : List Instruction) (stays : ℕ → ℕ) (f : Function) → SpellsFunction insts stays f
    → SpellsFunction insts stays (taking_first f) × TakesFirst (taking_first f).body

-- so two trees of a function are alike but for that,
abbrev pub SpelledAreAlike : Type 0
SpelledAreAlike =
    (insts : List Instruction) (stays more : ℕ → ℕ) (f g : Function) → IsAdmitted insts → SpellsFunction insts stays f → SpellsFunction insts more g
    → taking_first f ≡ taking_first g

-- and so are a tree and what is read of its listing
abbrev pub ReadsAlike : Type 0
ReadsAlike =
    (insts : List Instruction) (stays : ℕ → ℕ) (f : Function) → IsAdmitted insts → SpellsFunction insts stays f
    → (again : List Instruction) → words_of again ≡ listed f → AreInstructions again
    → (more : ℕ → ℕ) (g : Function) → SpellsFunction again more g → taking_first g ≡ taking_first f
