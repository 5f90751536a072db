-- How far the instructions were read: none so far breaks a rule, and what is kept stands for what they declare.
use Rattle.std.specs.Prelude.{◌≡◌, ℕ, Bool, false, cond, not, ◌&&◌, ◌||◌, List, [], ◌∷◌, drop, Option, Some, None}
use Rattle.spv_module.specs.Code.{is_line}
use Rattle.spv_module.specs.First.{first}
use Rattle.spv_module.specs.Instruction.{Instruction}
use Rattle.spv_module.specs.Layout.{RisesTo}
use Rattle.spv_ids.specs.Ids.{is_second, names_unknown}
use Rattle.spv_repeats.specs.Repeats.{occurs_before, repeats_before}
use Rattle.spv_typing.specs.Types.{type_fits}
use Rattle.spv_typing.specs.Operations.{spec_op_fits}
use Rattle.spv_decorations.specs.Targets.{decoration_fits}
use Rattle.spv_decorations.specs.Globals.{global_fits}
use Rattle.spv_declarations.specs.Constants.{constant_fits}
use Rattle.spv_declarations.specs.Broken.{group_3, group_3_from, layout_fits}
use Rattle.spv_declarations.specs.Declarations.{Declared, declared_before}
use Rattle.spv_declarations.specs.Sound.{Unbroken}
use Rattle.spv_types.specs.declared.meaning.Kept.{Kept}
use Rattle.spv_types.specs.Meanings.{StandFor}
use Rattle.spv_types.specs.Steps.{ArrayIsKnown}

-- the rule of the first test that fails
abbrev pub first_failing : List (Bool × ℕ) → Option ℕ
first_failing [] = None
first_failing (test ∷ tests) = cond test.0 (first_failing tests) (Some test.1)

-- the tests of the rules from 303 on but for that on depth, and with those on ids
abbrev pub declaration_tests : List Instruction → Declared → (k : ℕ) → Instruction → List (Bool × ℕ)
declaration_tests insts d k i =
    (type_fits insts i && not (occurs_before insts k i), 303)
    ∷ (d.begun || constant_fits insts d i, 304)
    ∷ (spec_op_fits insts i, 305)
    ∷ (decoration_fits insts i && not (repeats_before insts k i), 306)
    ∷ (layout_fits d i, 307)
    ∷ (global_fits insts d.begun i, 308) ∷ []

abbrev pub early_tests : List Instruction → Declared → (k : ℕ) → Instruction → List (Bool × ℕ)
early_tests insts d k i = (not (is_second insts k i), 301) ∷ (not (names_unknown insts d.begun k i), 302) ∷ declaration_tests insts d k i

-- each id that it names is defined where it has to be
abbrev pub AreKnown : List Instruction → Declared → (k : ℕ) → Instruction → Type 0
AreKnown insts d k i = names_unknown insts d.begun k i ≡ false

-- what is known of the k-th instruction when it is asked for its broken rule
pub record IsAsked (insts : List Instruction) (d : Declared) (k : ℕ) (i : Instruction) (occurs repeats : Bool) (entries : List (ℕ × Kept)) : Type 0 where
  pub loud : is_line i ≡ false
  pub occurs_is : occurs_before insts k i ≡ occurs
  pub repeats_is : repeats_before insts k i ≡ repeats
  pub stand : StandFor d.table d.specialised entries
  pub lengths : d.begun ≡ false → AreKnown insts d k i → ArrayIsKnown insts d.table i

pub record IsRead (end : ℕ) (insts : List Instruction) (k : ℕ) : Type 0 where
  pub from : ℕ
  pub rises : RisesTo end from (drop k insts)
  pub rest : first (group_3 insts) ≡ first (group_3_from insts (declared_before insts k) k (drop k insts))
  pub unbroken : Unbroken insts k
