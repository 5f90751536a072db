-- What a clean function spells is structured, so its listing breaks no rule either.
use Rattle.std.specs.Prelude.{◌≡◌, ℕ, Bool, List}
use Rattle.spv_module.specs.Instruction.{Instruction}
use Rattle.spv_blocks.specs.Cutting.{blocks_of}
use Rattle.spv_walk.specs.Rules.{Broken}
use Rattle.spv_bodies.specs.Bodies.{Function}
use Rattle.spv_bodies.specs.Listing.{listed}
use Rattle.spv_normal.specs.Lines.{without_marks}
use Rattle.spv_normal.specs.Normal.{normal_function}
use Rattle.spv_tree.specs.Tree.{words_of}
use Rattle.spv_structured.specs.Structured.{IsStructured}
use Rattle.spv_spelling.specs.Clean.{IsClean}
use Rattle.spv_spelling.specs.Spelling.{SpellsFunction}
use Rattle.spv_spelling.specs.Whole.{IsAdmitted}

-- the tree that a function spells, in which no rule is broken, is structured
abbrev pub SpelledIsStructured : Type 0
SpelledIsStructured =
    (is_pointer : ℕ → Bool) (insts : List Instruction) (stays : ℕ → ℕ) (f : Function) → IsAdmitted insts → IsClean is_pointer (blocks_of insts)
    → SpellsFunction insts stays f → IsStructured is_pointer f

-- and where its lines lie as instructions, at whatever places, they break no rule on structured control flow
abbrev pub ListingIsUnbroken : Type 0
ListingIsUnbroken =
    (is_pointer : ℕ → Bool) (insts listing : List Instruction) (stays : ℕ → ℕ) (f : Function) → IsAdmitted insts → IsClean is_pointer (blocks_of insts)
    → SpellsFunction insts stays f → words_of listing ≡ listed f → (rule at : ℕ) → Broken is_pointer (blocks_of listing) rule at → ⊥

-- nor does the normal form of a function, whose instructions may have line marks
abbrev pub NormalIsUnbroken : Type 0
NormalIsUnbroken =
    (is_pointer : ℕ → Bool) (insts normal : List Instruction) (stays : ℕ → ℕ) (f : Function) → IsAdmitted (without_marks insts)
    → IsClean is_pointer (blocks_of (without_marks insts)) → SpellsFunction (without_marks insts) stays f → words_of normal ≡ normal_function insts
    → (rule at : ℕ) → Broken is_pointer (blocks_of normal) rule at → ⊥
