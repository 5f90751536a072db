use Rattle.std.proofs.Common.{◌≡◌, ◌++◌, map, take}
use Rattle.spv_tree.specs.Tree.{words_of}
use Rattle.spv_tree.proofs.flattening.push_steps.Given as goal

abbrev pub invariant-steps : goal.invariant-steps
invariant-steps l = words_of l.insts ≡ words_of l.fn.insts ++ map (λ inst. inst.words) (take l.step-index l.steps)
