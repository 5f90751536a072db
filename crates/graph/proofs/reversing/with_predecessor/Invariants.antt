use Rattle.std.proofs.Common.{◌≡◌, take, fold}
use Rattle.graph.specs.Rows.{added}
use Rattle.graph.proofs.reversing.with_predecessor.Given as goal

abbrev pub invariant-successors : goal.invariant-successors
invariant-successors l = l.graph ≡ fold (λ rows successor. added rows successor l.place) l.fn.graph (take l.successor-index l.successors)
