use Rattle.std.proofs.Common.{◌≡◌, ◌++◌, map, take}
use Rattle.spv_bodies.specs.Listing.{phi_lines}
use Rattle.spv_tree.specs.Tree.{parameter_of, words_of}
use Rattle.spv_tree.specs.Branches.{branchings}
use Rattle.spv_tree.proofs.phi.push_phis.Given as goal

abbrev pub invariant-parameters : goal.invariant-parameters
invariant-parameters l = words_of l.insts ≡ words_of l.fn.insts ++ phi_lines 0 (branchings l.arriving) (map parameter_of (take l.k l.parameters))
