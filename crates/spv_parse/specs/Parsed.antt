-- The tree alone of what a function is read as.
use Rattle.std.specs.Prelude.{Result, Ok, Err}
use Rattle.spv_base.specs.declared.fault.Fault.{Fault}
use Rattle.spv_tree.specs.declared.body.Body.{Body}
use Rattle.spv_flow.specs.declared.flows.Flow.{Flow}
use Rattle.spv_parse.specs.declared.functions.Parsed.{Parsed}

abbrev pub tree_of : Result Parsed Fault → Result Body Fault
tree_of (Ok parsed) = Ok parsed.body
tree_of (Err fault) = Err fault

abbrev pub first_of : Result (Body × Flow) Fault → Result Body Fault
first_of (Ok both) = Ok both.0
first_of (Err fault) = Err fault
