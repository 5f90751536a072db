use Rattle.std.proofs.Common.{◌≡◌, ◌≤◌, take}
use Rattle.std.specs.List.{count_by}
use Rattle.spv_module.specs.Code.{is_function}
use Rattle.spv_module.proofs.flat.count_functions.Given as goal

abbrev pub invariant-instructions : goal.invariant-instructions
invariant-instructions l = record { count : l.functions ≡ count_by is_function (take l.k l.insts); within : l.functions ≤ l.k }
