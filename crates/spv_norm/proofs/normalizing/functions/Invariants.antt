use Rattle.std.proofs.Common.{◌≡◌}
use Rattle.spv_tree.specs.Tree.{words_of}
use Rattle.spv_norm.proofs.FunctionLines.{lines_below}
use Rattle.spv_norm.proofs.normalizing.functions.Given as goal

abbrev pub invariant-bodies : goal.invariant-bodies
invariant-bodies l = words_of l.insts ≡ lines_below l.fn.flat.insts l.body-index
