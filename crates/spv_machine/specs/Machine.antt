-- The machine of a module: what its instructions mean under a dispatch.
use Rattle.std.specs.Prelude.{◌≡◌, ℕ, List, Option, Some, None}
use Rattle.interleaving.specs.Machine as machine
use Rattle.interleaving.specs.Machine.{Move, HasReturned, IsStuck, Goes, Stands, Answer, Effects, Program}
use Rattle.interleaving.specs.Trace as alone
use Rattle.interleaving.specs.Trace.{Traces}
use Rattle.spv_module.specs.Code.{Code}
pub use Rattle.spv_meaning.specs.Meanings.{statements, Const, Cells, Spots, type_of}
use Rattle.spv_machine.specs.Places.{Triple}
use Rattle.spv_machine.specs.Access.{Access}
use Rattle.spv_machine.specs.Dispatch.{Bound, Dispatch}
use Rattle.spv_machine.specs.Setting.{Setting, setting, size_in, FitsStatements, invocations}
use Rattle.spv_machine.specs.Effects.{Shared, effects}
use Rattle.spv_machine.specs.State.{State}
use Rattle.spv_machine.specs.Steps.{look, first_state, program}

-- the module under a dispatch
abbrev pub setting_of : Code → Dispatch → Setting
setting_of m d = setting (statements m) d

-- ---- what statements mean

-- every schedule returns
abbrev pub EndsIn : Setting → Type 0
EndsIn c = machine.Ends (effects c) (program c)

-- some run that cannot go on leaves these buffers
abbrev pub FinalsIn : Setting → List Bound → Type 0
FinalsIn c buffers = (shared : Shared) × machine.Finals (effects c) (program c) shared × (shared.buffers ≡ buffers)

-- what invocation i does alone, by the number of instructions and the answers
abbrev pub trace_in : Setting → ℕ → Traces Access
trace_in c i = alone.trace_of (look c) (first_state c i)

-- ---- what a module means

-- a dispatch fits a module
unfoldable pub Fits : Code → Dispatch → Type 0
Fits m d = FitsStatements (statements m) d

-- the workgroup size of the entry point that is named
unfoldable pub workgroup_size : Code → Dispatch → Option Triple
workgroup_size m d = size_in (statements m) d

unfoldable pub Trace : Code → Dispatch → ℕ → Traces Access
Trace m d i = trace_in (setting_of m d) i

unfoldable pub Ends : Code → Dispatch → Type 0
Ends m d = EndsIn (setting_of m d)

unfoldable pub Finals : Code → Dispatch → List Bound → Type 0
Finals m d buffers = FinalsIn (setting_of m d) buffers

-- how many invocations a dispatch has
unfoldable pub invocation_count : Code → Dispatch → ℕ
invocation_count m d = invocations (setting_of m d)

-- ---- single steps

abbrev pub private_step : Move State Access → Option State
private_step (Goes s) = Some s
private_step move = None

-- the state behind one instruction that makes no access
abbrev pub PrivateStep : Code → Dispatch → State → Option State
PrivateStep m d s = private_step (look (setting_of m d) s)

abbrev pub standing : Move State Access → Option Access
standing (Stands access by_answer) = Some access
standing move = None

-- the access before which a state stands
abbrev pub Standing : Code → Dispatch → State → Option Access
Standing m d s = standing (look (setting_of m d) s)
