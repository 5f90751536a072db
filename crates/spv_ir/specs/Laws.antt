-- What is so of modules: laws, as statements.
use Rattle.std.specs.Prelude.{◌≡◌, ℕ, ◌<◌, None, Ok, count_by}
use Rattle.spv_module.specs.Code.{Code, is_function, spelling}
use Rattle.spv_blocks.specs.Cutting.{blocks_of, function_insts}
use Rattle.spv_walk.specs.Rules.{Broken, IsFirst}
use Rattle.spv_types.specs.Whole.{Rises}
use Rattle.spv_parse.specs.Functions.{IsTooDeep}
use Rattle.spv_functions.specs.Functions.{IsDeclared, is_pointer}
use Rattle.spv_admission.specs.Admission.{Admits}
use Rattle.spv_profile.specs.Profile.{IsModule}

-- Over its instructions the tables and the trees of its functions are found, if memory is there: the places of the instructions rise, no rule on
-- layout and declarations is broken, and none on structured control flow in any function, and none nests too deep.
pub record IsReady (code : Code) : Type 0 where
  pub rises : Rises code.insts
  pub declared : IsDeclared code.insts
  pub unbroken : (f : ℕ) → f < count_by is_function code.insts → IsFirst (Broken (is_pointer code.insts) (blocks_of (function_insts f code.insts))) None
  pub shallow : (f : ℕ) → f < count_by is_function code.insts → IsTooDeep (is_pointer code.insts) (function_insts f code.insts) → ⊥

abbrev pub ModulesAreReady : Type 0
ModulesAreReady = (code : Code) → IsModule code → IsReady code

-- what was written of a module is admitted, and gives the module back
abbrev pub AdmittedAgain : Type 0
AdmittedAgain = (code : Code) (answer : Code) → IsModule code → IsModule answer → Admits (spelling code) (Ok answer) → answer ≡ code
