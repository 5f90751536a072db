-- The walk comes to the blocks of a structured function as its tree has them, so it comes to those of an edited function as before.
use Rattle.std.proofs.Common.{◌≡◌, ℕ, Bool, false, List, map, sym, ap, ◌∙◌, subst}
use Rattle.spv_module.specs.Instruction.{Instruction}
use Rattle.spv_blocks.specs.Blocks.{Code, End, stops}
use Rattle.spv_blocks.specs.Cutting.{blocks_of}
use Rattle.spv_walk.specs.Contexts.{Context}
use Rattle.spv_walk.specs.Walk.{Walk}
use Rattle.spv_bodies.specs.Bodies.{Function}
use Rattle.spv_bodies.specs.Listing.{listed}
use Rattle.spv_tree.specs.Tree.{words_of}
use Rattle.spv_tree.specs.Sound.{IsSound}
use Rattle.spv_trees.specs.Standing.{OneOf}
use Rattle.spv_structured.specs.Structured.{IsStructured}
use Rattle.spv_structured.specs.Spots.{blocks_in, spots_in}
use Rattle.spv_structured.specs.Laws.{Opens}
use Rattle.spv_structured.proofs.Lists.{map_from, one_map}
use Rattle.spv_structured.proofs.Bare.{bare}
use Rattle.spv_structured.proofs.Induction.{each_node}
use Rattle.spv_structured.proofs.ListedBlocks.{listed_blocks}
use Rattle.spv_structured.proofs.Looked.{runs}
use Rattle.spv_structured.proofs.Targets.{structured_leaves}
use Rattle.spv_structured.proofs.Unbroken as unbroken
use Rattle.spv_editing.specs.Editing.{edited_function}
use Rattle.spv_editing.proofs.Soundness.{sound-kept}
use Rattle.spv_structured_edits.specs.Laws.{WalkStays}
use Rattle.spv_structured_edits.proofs.Blocks.{seen, spots-kept}
use Rattle.spv_structured_edits.proofs.Whole.{opens_stays, structured_stays}

-- a structured function, and the instructions of its listing
pub record IsListed (is_pointer : ℕ → Bool) (f : Function) (insts : List Instruction) : Type 0 where
  pub sound : IsSound f
  pub structured : IsStructured is_pointer f
  pub opens : Opens f
  pub listing : words_of insts ≡ listed f

-- what a walked block shows stands in the tree
abbrev ShowsBlock : Function → ℕ → Context → Type 0
ShowsBlock f l c = (stop : End) × OneOf (l, c, stop) (map seen (spots_in f))

module _ (is_pointer : ℕ → Bool) (f : Function) (insts : List Instruction) (h : IsListed is_pointer f insts) where
  abbrev blocks : Code
  blocks = blocks_of insts

  same : bare blocks ≡ blocks_in f
  same = listed_blocks f insts h.sound h.opens h.listing

  pub walked-shows : (l : ℕ) (c : Context) → Walk blocks l c → ShowsBlock f l c
  walked-shows l c walk =
      let w = unbroken.walked is_pointer f h.sound h.structured.arms blocks same (structured_leaves is_pointer f h.structured) l c walk in
      let s = seen w.spot in
      (s.2, subst (λ (z : ℕ × Context × End). OneOf z (map seen (spots_in f))) (λ i. (w.label i, w.context i, s.2)) (one_map seen (spots_in f) w.spot w.node.member))

  pub shown-walked : (l : ℕ) (c : Context) → ShowsBlock f l c → Walk blocks l c
  shown-walked l c (stop, one) =
      let made = map_from seen (spots_in f) (l, c, stop) one in
      let node = each_node is_pointer f h.sound h.structured.arms made.from made.one in
      let walk : Walk blocks made.from.label made.from.context =
      unbroken.each_walked is_pointer f h.sound h.structured.arms blocks same (structured_leaves is_pointer f h.structured) made.from node in
      subst (λ (z : ℕ × Context × End). Walk blocks z.0 z.1) (sym made.same) walk

  -- no walked block is a header that is its own continue target
  pub walked-runs : (l : ℕ) (c : Context) → Walk blocks l c → stops blocks l ≡ false
  walked-runs l c walk =
      let w = unbroken.walked is_pointer f h.sound h.structured.arms blocks same (structured_leaves is_pointer f h.structured) l c walk in
      ap (λ (z : ℕ). stops blocks z) (sym w.label) ∙ runs is_pointer f h.sound h.structured.arms blocks same w.spot w.node

-- functions whose blocks show the same
pub same-walk : (is_pointer : ℕ → Bool) (f g : Function) (insts again : List Instruction) → IsListed is_pointer f insts → IsListed is_pointer g again
    → map seen (spots_in f) ≡ map seen (spots_in g) → (l : ℕ) (c : Context) → Walk (blocks_of insts) l c → Walk (blocks_of again) l c
same-walk is_pointer f g insts again h k alike l c walk =
    let shows = walked-shows is_pointer f insts h l c walk in
    shown-walked is_pointer g again k l c (shows.0, subst (OneOf (l, c, shows.0)) alike shows.1)

pub walk_stays : WalkStays
walk_stays e is_pointer f insts again keeps sound opens structured listing edited_listing l c =
    let old : IsListed is_pointer f insts = record { sound = sound; structured = structured; opens = opens; listing = listing } in
    let new : IsListed is_pointer (edited_function e f) again = record {
      sound = sound-kept e f keeps sound;
      structured = structured_stays e is_pointer f sound structured;
      opens = opens_stays e f opens;
      listing = edited_listing;
    } in (
      same-walk is_pointer (edited_function e f) f again insts new old (spots-kept e f sound) l c,
      same-walk is_pointer f (edited_function e f) insts again old new (sym (spots-kept e f sound)) l c,
    )
