-- The normal form of a module of the profile is a module of the profile in normal form: laws, as statements.
use Rattle.std.specs.Prelude.{ℕ, List}
use Rattle.spv_module.specs.Code.{Code, code_of, spelling}
use Rattle.spv_tree.specs.declared.body.Body.{Body}
use Rattle.spv_control.specs.Control.{AreParsed}
use Rattle.spv_norm.specs.Norm.{IsNorm}
use Rattle.spv_profile.specs.Profile.{IsInProfile, IsModule}

-- with the trees that its functions are read as; instructions of the normal form may stand anywhere
abbrev pub NormIsModule : Type 0
NormIsModule =
    (words : List ℕ) (bodies : List Body) (norm : Code) → IsInProfile words → AreParsed (code_of words).insts bodies → IsNorm (code_of words) norm
    → IsModule (code_of (spelling norm))

-- and its functions are read as the same trees
abbrev pub NormIsParsed : Type 0
NormIsParsed =
    (words : List ℕ) (bodies : List Body) (norm : Code) → IsInProfile words → AreParsed (code_of words).insts bodies → IsNorm (code_of words) norm
    → AreParsed (code_of (spelling norm)).insts bodies
