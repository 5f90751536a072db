-- What is built is a module: laws, as statements.
use Rattle.std.specs.Prelude.{List, map}
use Rattle.spv_module.specs.Code.{Code, code_of, spelling}
use Rattle.spv_bodies.specs.Bodies.{Function}
use Rattle.spv_tree.specs.declared.body.Body.{Body}
use Rattle.spv_tree.specs.Tree.{body_of}
use Rattle.spv_control.specs.Control.{AreParsed}
use Rattle.spv_profile.specs.Profile.{IsModule}
use Rattle.spv_built.specs.Built.{IsBuilt}

-- what is built of functions is a module of the profile in normal form, once its instructions stand where its words have them
abbrev pub BuiltIsModule : Type 0
BuiltIsModule = (code : Code) (fs : List Function) → IsBuilt code fs → IsModule (code_of (spelling code))

-- and what is read of a module is what it is built of
abbrev pub ModuleIsBuilt : Type 0
ModuleIsBuilt = (code : Code) (bodies : List Body) → IsModule code → AreParsed code.insts bodies → IsBuilt code (map body_of bodies)
