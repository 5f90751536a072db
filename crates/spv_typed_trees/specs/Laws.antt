-- A typed tree breaks no rule on bodies where it stands as it is listed: laws, as statements.
use Rattle.std.specs.Prelude.{◌≡◌, ℕ, ◌+◌, List, [], ◌++◌, length, slice_get, Some}
use Rattle.spv_module.specs.Instruction.{Instruction}
use Rattle.spv_body_rules.specs.Broken.{body_rules}
use Rattle.spv_bodies.specs.Bodies.{Function}
use Rattle.spv_bodies.specs.Listing.{listed}
use Rattle.spv_tree.specs.Sound.{IsSound}
use Rattle.spv_tree.specs.Tree.{words_of}
use Rattle.spv_structured.specs.Laws.{Opens}
use Rattle.spv_structured.specs.Structured.{IsStructured}
use Rattle.spv_spelling.specs.Clean.{no_pointers}
use Rattle.spv_spelling.specs.Spelling.{SpellsFunction}
use Rattle.spv_spelling.specs.Whole.{IsAdmitted}
use Rattle.spv_typed_trees.specs.Typed.{IsTyped}

-- instructions have the words of the listing of a tree that is sound and structured
pub record AreListed (again : List Instruction) (f : Function) : Type 0 where
  pub sound : IsSound f
  pub opens : Opens f
  pub structured : IsStructured no_pointers f
  pub lists : words_of again ≡ listed f

-- such is the tree that some function spells in which no rule is broken, whatever labels stay there
abbrev pub SpelledAreListed : Type 0
SpelledAreListed =
    (texts again : List Instruction) (stays : ℕ → ℕ) (f : Function) → IsAdmitted texts → SpellsFunction texts stays f → words_of again ≡ listed f
    → AreListed again f

-- instructions of a module behind others: none breaks a rule on bodies
abbrev pub BreakNone : (before again after : List Instruction) → Type 0
BreakNone before again after =
    (k : ℕ) (i : Instruction) → slice_get again k ≡ Some i → body_rules (before ++ (again ++ after)) (length before + k) i ≡ []

-- where the tree is typed
abbrev pub TypedIsUnbroken : Type 0
TypedIsUnbroken =
    (before again after : List Instruction) (f : Function) → AreListed again f → IsTyped (before ++ (again ++ after)) f → BreakNone before again after

-- and only there
abbrev pub UnbrokenIsTyped : Type 0
UnbrokenIsTyped =
    (before again after : List Instruction) (f : Function) → AreListed again f → BreakNone before again after → IsTyped (before ++ (again ++ after)) f
