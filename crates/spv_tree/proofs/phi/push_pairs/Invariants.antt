use Rattle.std.proofs.Common.{take}
use Rattle.spv_bodies.specs.Listing.{pair_words, phi_pairs}
use Rattle.spv_tree.specs.Branches.{shown}
use Rattle.spv_tree.specs.Phi.{AddsIds}
use Rattle.spv_tree.proofs.phi.push_pairs.Given as goal

abbrev pub invariant-branches : goal.invariant-branches
invariant-branches l = AddsIds l.fn.words.items l.words.items (pair_words (phi_pairs l.k (shown (take l.branch-index l.branches))))
