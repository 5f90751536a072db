use Rattle.std.proofs.Common.{map, take}
use Rattle.spv_tree.specs.Tree.{case_of}
use Rattle.spv_tree.specs.Phi.{AddsCases}
use Rattle.spv_tree.proofs.switch.push_cases.Given as goal

abbrev pub invariant-cases : goal.invariant-cases
invariant-cases l = AddsCases l.fn.words.items l.words.items (map case_of (take l.case-index l.cases))
