-- In the listing of a tree no block but one with a front begins with OpPhi.
use Rattle.std.proofs.Common.{◌≡◌, ℕ, Bool, true, false, cond, ◌==◌, List, [], ◌∷◌, ◌++◌, map, Option, Some, None, refl, ap, subst, ◌∙◌}
use Rattle.spv_module.specs.Instruction.{Instruction}
use Rattle.spv_blocks.specs.Blocks.{Block, Code, block, merge_of, next_of}
use Rattle.spv_blocks.specs.Cutting.{block_of, blocks_of, is_label_mark, word}
use Rattle.spv_walk.proofs.Unique.{merge_is_named, next_is_named, truth_apart}
use Rattle.spv_bodies.specs.Bodies.{Front, Function}
use Rattle.spv_bodies.specs.Listing.{listed}
use Rattle.spv_normal.specs.Lines.{behind_label, line, up_to_terminator}
use Rattle.spv_normal.specs.Order.{is_front}
use Rattle.spv_tree.specs.Branches.{branches_in}
use Rattle.spv_tree.specs.Sound.{IsSound}
use Rattle.spv_tree.specs.Tree.{words_of}
use Rattle.spv_trees.specs.Standing.{OneOf}
use Rattle.spv_structured.specs.Laws.{Opens}
use Rattle.spv_structured.specs.Spots.{Spot, blocks_in, spots_in}
use Rattle.spv_structured.specs.Structured.{IsStructured}
use Rattle.spv_structured.proofs.Bare.{bare}
use Rattle.spv_structured.proofs.Induction.{induct}
use Rattle.spv_structured.proofs.ListedBlocks.{listed_blocks}
use Rattle.spv_structured.proofs.Lists.{all_at}
use Rattle.spv_structured.proofs.Looked.{construct_of, placed}
use Rattle.spv_structured.proofs.Positions.{Led, Node, Way, Goes, Merges, Continues}
use Rattle.spv_spelling.specs.Clean.{no_pointers}
use Rattle.spv_spelling.specs.Spelling.{SpellsFunction}
use Rattle.spv_spelling.specs.Text.{phis, text}
use Rattle.spv_spelling.specs.Whole.{IsAdmitted}
use Rattle.spv_normal_trees.specs.Laws.{IsBranching}
use Rattle.spv_normal_trees.proofs.Growing.{named_front}
use Rattle.spv_normal_trees.proofs.Listed.{branches_of_blocks}
use Rattle.spv_sound_trees.proofs.Sound.{spelled_is_sound}
use Rattle.spv_clean_trees.proofs.Structures.{opens, spelled_is_structured}
use Rattle.spv_respelling.proofs.ListedTexts.{spot_text}
use Rattle.spv_respelling.proofs.OwnLines.{front_phis, own}
use Rattle.spv_respelling.proofs.ReadFronts.{body_no_phi}
use Rattle.spv_fine.specs.Laws.{NoPhisJoined, stay}

-- behind a label that begins no block nothing stands
none_behind : (is : List Instruction) (l : ℕ) → block (blocks_of is) l ≡ None → behind_label is l ≡ []
none_behind [] l e = refl
none_behind (i ∷ is) l e = by (is_label_mark i) e (none_behind is l) where
  found : (b : Bool) → cond b (Some (block_of i is)) (block (blocks_of is) l) ≡ None → (block (blocks_of is) l ≡ None → behind_label is l ≡ [])
      → cond b is (behind_label is l) ≡ []
  found true e more = absurd (cc (e))
  found false e more = more e

  by : (m : Bool) → block (cond m (block_of i is ∷ blocks_of is) (blocks_of is)) l ≡ None → (block (blocks_of is) l ≡ None → behind_label is l ≡ [])
      → cond (cond m (word i 1 == l) false) is (behind_label is l) ≡ []
  by true e more = found (word i 1 == l) e more
  by false e more = more e

module _ (again : List Instruction) (f : Function) (admitted : IsAdmitted again) (spells : SpellsFunction again stay f) (same : words_of again ≡ listed f) where
  abbrev g : Code
  g = blocks_of again

  sound : IsSound f
  sound = spelled_is_sound again stay f admitted spells

  opened : Opens f
  opened = opens again stay f admitted spells

  structured : IsStructured no_pointers f
  structured = spelled_is_structured no_pointers again stay f admitted admitted.clean spells

  alike : bare g ≡ blocks_in f
  alike = listed_blocks f again sound opened same

  -- a block with a front is a merge block, a continue target or a header
  abbrev HasFront : Spot → Type 0
  HasFront s = (front : Front) → s.front ≡ Some front → is_front g s.label ≡ true

  led_front : (s r : Spot) → Node no_pointers f s → Led no_pointers f s r → HasFront r
  led_front s r n led front e = by led.child.way
    where
      by : Way no_pointers f s r → is_front g r.label ≡ true
      by (Goes going) =
          let x = going.carries front e in
          subst (λ t. is_front g t ≡ true) x.2
          (all_at (IsBranching again stay) (branches_in f) (branches_of_blocks again stay f (record { admitted = admitted; spells = spells })).each
          (s.label, x.0)
          (n.within (s.label, x.0) x.1)).front
      by (Merges is inside) =
          named_front g r.label (merge_is_named g s.label r.label (ap merge_of (construct_of no_pointers f sound structured.arms g alike s n) ∙ is))
      by (Continues is inside) =
          named_front g r.label (next_is_named g s.label r.label (ap next_of (construct_of no_pointers f sound structured.arms g alike s n) ∙ is))

  has_front : (s : Spot) → OneOf s (spots_in f) → HasFront s
  has_front s o = induct no_pointers f HasFront (λ s r n led h. led_front s r n led) sound structured.arms (λ front e. absurd (cc (e))) s o

  bare_text : (s : Spot) → Node no_pointers f s → is_front g s.label ≡ false → (o : Option Front) → s.front ≡ o → phis (text again s.label) ≡ []
  bare_text s n not_front None e =
      ap phis (spot_text f again sound opened same s n.member n.position.formed ∙ ap (λ z. front_phis (branches_in f) z ++ own [] s.body) e)
      ∙ (body_no_phi (branches_in f) s.body n.position.formed).none
  bare_text s n not_front (Some front) e = truth_apart (is_front g s.label) (has_front s n.member front e) not_front

  pub no_phis : NoPhisJoined again
  no_phis t not_front = by (block g t) refl
    where
      by : (o : Option Block) → block g t ≡ o → phis (text again t) ≡ []
      by None e = ap (λ z. phis (map line (up_to_terminator z))) (none_behind again t e)
      by (Some b) e =
          let p = placed no_pointers f sound structured.arms g alike t b e in
          subst (λ z. phis (text again z) ≡ []) p.label
          (bare_text p.spot p.node (ap (is_front g) p.label ∙ not_front) p.spot.front refl)
