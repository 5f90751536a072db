use Rattle.std.proofs.Common.{◌≡◌, ◌++◌}
use Rattle.spv_value.specs.Words.{words_of}
use Rattle.spv_meaning.specs.Computations.{shuffled}
use Rattle.spv_folding.proofs.Shuffling.{filled}
use Rattle.spv_folding.proofs.operations.shuffle.Given as goal

abbrev pub invariant-literals : goal.invariant-literals
invariant-literals l = words_of l.result ≡ filled (shuffled (words_of l.a ++ words_of l.b)) l.literals l.i
