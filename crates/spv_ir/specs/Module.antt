-- What is asked of a module under change.
use Rattle.spv_module.specs.Code.{Code, code_of, spelling}
use Rattle.spv_profile.specs.Profile.{IsModule}

-- the module that its words spell is one of the profile in normal form
abbrev pub IsSealable : Code → Type 0
IsSealable code = IsModule (code_of (spelling code))
