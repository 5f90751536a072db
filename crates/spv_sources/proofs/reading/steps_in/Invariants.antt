use Rattle.std.proofs.Common.{◌≡◌, drop, take}
use Rattle.spv_tree.specs.Tree.{words_of}
use Rattle.spv_sources.specs.Close.{step_words}
use Rattle.spv_sources.proofs.reading.steps_in.Given as goal

abbrev pub invariant-steps : goal.invariant-steps
invariant-steps l = step_words l.steps.items ≡ words_of (drop l.from (take l.k l.insts))
