-- A module of the profile in normal form is one without its debug instructions too: laws, as statements.
use Rattle.std.specs.Prelude.{List}
use Rattle.spv_module.specs.Code.{Code, code_of, spelling}
use Rattle.spv_tree.specs.declared.body.Body.{Body}
use Rattle.spv_spelling.specs.Whole.{AreInstructions}
use Rattle.spv_control.specs.Control.{AreParsed}
use Rattle.spv_profile.specs.Profile.{IsModule}
use Rattle.spv_stripped.specs.Strip.{stripped}

-- with the trees that its functions are read as, once its instructions stand where its words have them
abbrev pub StrippedIsModule : Type 0
StrippedIsModule = (code : Code) (bodies : List Body) → IsModule code → AreParsed code.insts bodies → IsModule (code_of (spelling (stripped code)))

-- so it is with instructions of the profile that stand anywhere, if they are such a module once they stand where their words have them
abbrev pub StrippedFormIsModule : Type 0
StrippedFormIsModule =
    (code : Code) (bodies : List Body) → AreInstructions code.insts → IsModule (code_of (spelling code)) → AreParsed (code_of (spelling code)).insts bodies
    → IsModule (code_of (spelling (stripped code)))
