use Rattle.std.proofs.Common.{◌≡◌, List, ℕ, ◌++◌, length}
use Rattle.opt_top.specs.Moves.{Adds}
use Rattle.opt_top.proofs.writing.write_all.Given as goal

abbrev pub invariant-pieces : goal.invariant-pieces
invariant-pieces g l = let seen = g.O.Outside.seen in
    (front : List ℕ) × (front ++ l.rest ≡ l.bytes) × Adds front (seen l.fn.out) (seen l.out)

abbrev pub decreases-pieces : goal.decreases-pieces
decreases-pieces g l = length l.rest
