-- A module to whose declarations one more instruction is added, behind the others and in front of the functions: a type, a constant or a global variable, of
-- an id that nothing else defines or uses.
use Rattle.std.specs.Prelude.{◌≡◌, ◌==◌, ℕ, Bool, true, false, List, [], ◌∷◌, ◌++◌, length, slice_get, Some}
use Rattle.std.specs.List.{AllByRecursion, list_any}
use Rattle.spv_grammar.specs.Roles.{is_defined_id}
use Rattle.spv_grammar.specs.declared.section.TheConstants as section
use Rattle.spv_module.specs.Code.{is_function, plain_section}
use Rattle.spv_module.specs.Instruction.{Instruction, IsInstruction, roles, word_with}
use Rattle.spv_meaning.specs.Statements.{words_of}
use Rattle.spv_ids.specs.Ids.{defines, used_ids}
use Rattle.spv_declarations.specs.Broken.{rules_at}
use Rattle.spv_declarations.specs.Declarations.{declared_before}

-- it neither defines the id nor uses it
pub record IsFree (r : ℕ) (i : Instruction) : Type 0 where
  pub defined : defines r i ≡ false
  pub used : AllByRecursion (λ id. (id == r) ≡ false) (used_ids i)

-- there is none, or the first begins a function
abbrev pub starts_function : List Instruction → Bool
starts_function [] = true
starts_function (i ∷ is) = is_function i

-- the module after is the one before with an instruction more, which defines r, between what stands in front of functions and these
pub record IsAdded (r : ℕ) (new : Instruction) (front rest before after : List Instruction) : Type 0 where
  pub parts : before ≡ front ++ rest
  pub outside : list_any is_function front ≡ false
  pub functions : starts_function rest ≡ true
  pub words : words_of after ≡ words_of front ++ new.words ∷ words_of rest
  -- it is a declaration of the profile
  pub whole : IsInstruction new.words (roles new)
  pub section : plain_section false new ≡ section.DECLARATIONS
  pub result : word_with is_defined_id new ≡ Some r
  -- its id is new, and not 0
  pub some : (0 == r) ≡ false
  pub free : (k : ℕ) (i : Instruction) → slice_get before k ≡ Some i → IsFree r i
  -- it breaks no rule on declarations (301 to 309) where it stands
  pub rules : rules_at after (declared_before after (length front)) (length front) new ≡ []
