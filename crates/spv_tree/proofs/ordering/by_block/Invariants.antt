use Rattle.std.proofs.Common.{◌≡◌, ℕ, take}
use Rattle.spv_bodies.specs.Listing.{from_block}
use Rattle.spv_tree.specs.Branches.{branchings, shown, of_block}
use Rattle.spv_tree.proofs.ordering.by_block.Given as goal

abbrev pub invariant-branches : goal.invariant-branches
invariant-branches l = (block : ℕ) → shown (of_block l.blocks block) ≡ from_block (branchings (take l.branch-index l.arriving)) block
