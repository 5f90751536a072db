use Rattle.std.proofs.Common.{◌≡◌, ◌≤◌, ◌-◌, [], length, vec_len}
use Rattle.opt_top.specs.Moves.{Moves}
use Rattle.opt_top.proofs.reading.read_rest.Given as goal

abbrev pub invariant-pieces : goal.invariant-pieces
invariant-pieces g l = let seen = g.O.Outside.seen in record {
  room : vec_len l.bytes ≤ 4194305;
  buffer : length l.buf ≡ 4096;
  moves : Moves [] l.bytes.items (seen l.fn.out) (seen l.out);
}

abbrev pub decreases-pieces : goal.decreases-pieces
decreases-pieces g l = 4194305 - vec_len l.bytes
