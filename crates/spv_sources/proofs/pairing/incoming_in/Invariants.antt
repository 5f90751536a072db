use Rattle.std.proofs.Common.{◌≡◌, ◌++◌, length, map, All}
use Rattle.spv_blocks.specs.Cutting.{pairs}
use Rattle.spv_sources.specs.Pairs.{IsIdPair, incoming}
use Rattle.spv_sources.proofs.pairing.incoming_in.Given as goal

abbrev pub invariant-pairs : goal.invariant-pairs
invariant-pairs l = record {
  same : pairs l.words ≡ map incoming l.list.items ++ pairs l.rest;
  ids : All IsIdPair (pairs l.rest);
}

abbrev pub decreases-pairs : goal.decreases-pairs
decreases-pairs l = length l.rest
