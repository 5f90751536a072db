-- What admission answers.
use Rattle.std.specs.Prelude.{ℕ, List, Result, Ok, Err}
use Rattle.spv_base.specs.declared.fault.Fault.{Fault}
use Rattle.spv_base.specs.declared.fault.Fault.TheVariants as faults
use Rattle.spv_module.specs.Code.{Code, code_of, spelling}
use Rattle.spv_module.specs.Instruction.{Instruction}
use Rattle.spv_tree.specs.declared.body.Body.{Body}
use Rattle.spv_control.specs.Control.{AreParsed}
use Rattle.spv_norm.specs.Norm.{IsNorm}
use Rattle.spv_norm_means.specs.Laws.{MeansAsMuch}
use Rattle.spv_profile.specs.Profile.{IsInProfile, IsModule, IsRefused, IsTooNested}

-- there is a tree for each function
abbrev pub HasTrees : List Instruction → Type 0
HasTrees insts = (bodies : List Body) × AreParsed insts bodies

-- The normal form of a module of the profile, which means as much, and is in the profile and in normal form itself, with a tree for each function; or why the
-- module is not admitted; or memory was wanting.
abbrev pub Admits : List ℕ → Result Code Fault → Type 0
Admits words (Ok norm) =
    IsInProfile words × IsNorm (code_of words) norm × MeansAsMuch (code_of words) norm × IsModule (code_of (spelling norm))
    × HasTrees (code_of (spelling norm)).insts
Admits words (Err (faults.Refused r)) = IsRefused words r
Admits words (Err faults.Nesting) = IsTooNested words
Admits words (Err faults.NoMemory) = Unit {0}
