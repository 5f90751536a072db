-- The labels and terminators of a function's blocks are those of its tree, so they stay.
use Rattle.std.proofs.Common.{◌≡◌, ℕ, List, [], ◌∷◌, map, refl, sym, ap, ◌∙◌}
use Rattle.spv_module.specs.Instruction.{Instruction}
use Rattle.spv_blocks.specs.Blocks.{Code, End}
use Rattle.spv_blocks.specs.Cutting.{blocks_of}
use Rattle.spv_walk.specs.Contexts.{Context}
use Rattle.spv_bodies.specs.Bodies.{Function}
use Rattle.spv_bodies.specs.Listing.{Branching, listed}
use Rattle.spv_tree.specs.Tree.{words_of}
use Rattle.spv_tree.specs.Branches.{branches_in}
use Rattle.spv_tree.specs.Sound.{IsSound}
use Rattle.spv_structured.specs.Spots.{Spot, bare_block, block_of_spot, spots_in}
use Rattle.spv_structured.specs.Laws.{Opens}
use Rattle.spv_structured.proofs.ListedBlocks.{listed_blocks}
use Rattle.spv_editing.specs.Editing.{edited_function}
use Rattle.spv_editing.proofs.Soundness.{sound-kept}
use Rattle.spv_structured_edits.specs.Laws.{OutlineStays, outline}
use Rattle.spv_structured_edits.proofs.Blocks.{seen, spots-kept}
use Rattle.spv_structured_edits.proofs.Whole.{opens_stays}

-- offsets are not seen
outline-bare : (f : Code) → outline (map bare_block f) ≡ outline f
outline-bare [] = refl
outline-bare (b ∷ f) = ap (λ (z : List (ℕ × End)). (b.label, b.end) ∷ z) (outline-bare f)

-- and of a block of the tree it is seen which one it is
abbrev without-context : ℕ × Context × End → ℕ × End
without-context s = (s.0, s.2)

outline-spots : (all : List Branching) (spots : List Spot) → outline (map (block_of_spot all) spots) ≡ map without-context (map seen spots)
outline-spots all [] = refl
outline-spots all (s ∷ spots) = λ i. without-context (seen s) ∷ outline-spots all spots i

pub listed-outline : (f : Function) (insts : List Instruction) → IsSound f → Opens f → words_of insts ≡ listed f
    → outline (blocks_of insts) ≡ map without-context (map seen (spots_in f))
listed-outline f insts sound opens listing =
    sym (outline-bare (blocks_of insts)) ∙ ap outline (listed_blocks f insts sound opens listing) ∙ outline-spots (branches_in f) (spots_in f)

pub outline_stays : OutlineStays
outline_stays e f insts again keeps sound opens listing edited_listing =
    listed-outline (edited_function e f) again (sound-kept e f keeps sound) (opens_stays e f opens) edited_listing
    ∙ ap (map without-context) (spots-kept e f sound)
    ∙ sym (listed-outline f insts sound opens listing)
