use Rattle.std.proofs.Common.{◌≡◌, ◌++◌, length, map, All}
use Rattle.spv_blocks.specs.Cutting.{pairs}
use Rattle.spv_tree.specs.Tree.{case_of}
use Rattle.spv_sources.specs.Pairs.{IsCase}
use Rattle.spv_sources.proofs.pairing.cases_in.Given as goal

abbrev pub invariant-pairs : goal.invariant-pairs
invariant-pairs l = record {
  same : pairs l.words ≡ map case_of l.list.items ++ pairs l.rest;
  ids : All IsCase (pairs l.rest);
}

abbrev pub decreases-pairs : goal.decreases-pairs
decreases-pairs l = length l.rest
