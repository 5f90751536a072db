-- A function spells one tree, and its listing is read as that tree.
use Rattle.std.proofs.Common.{◌≡◌, ℕ, true, false, ◌==◌, cond, List, [], ◌∷◌, map, Option, Some, None, refl, sym, ap, ap₂, subst, ◌∙◌}
use Rattle.std.specs.List.{AllByRecursion, list_all}
use Rattle.spv_module.specs.Instruction.{Instruction}
use Rattle.spv_blocks.specs.Blocks.{Block, Code, block, branches, end_targets, has, is_label, is_some_block, of_block, seconds, times}
use Rattle.spv_blocks.specs.Cutting.{block_of, blocks_of, is_label_mark, word}
use Rattle.spv_walk.specs.Phis.{predecessors}
use Rattle.spv_walk.proofs.Unique.{both_right, truth_apart}
use Rattle.spv_bodies.specs.Bodies.{Function}
use Rattle.spv_normal.specs.Lines.{behind_label, line, up_to_terminator}
use Rattle.spv_spelling.specs.Clean.{no_pointers}
use Rattle.spv_spelling.specs.Spelling.{Spells, SpellsFunction}
use Rattle.spv_spelling.specs.Text.{front_of, parameter_of, phi_pairs, phis, text}
use Rattle.spv_spelling.specs.Whole.{IsAdmitted}
use Rattle.spv_normal_trees.proofs.FrontPhis.{all_pass}
use Rattle.spv_normal_trees.proofs.Listed.{same_stays}
use Rattle.spv_normal_trees.proofs.Members.{filter_has, has_head, has_tail}
use Rattle.spv_clean_trees.proofs.Fitting.{PhiFits, walked_phis}
use Rattle.spv_respelling.specs.Laws.{ReadsBack, SpelledIsOne}
use Rattle.spv_respelling.specs.Normal.{TakesFirst}
use Rattle.spv_respelling.proofs.Admitted.{listing_is_admitted}
use Rattle.spv_respelling.proofs.SameTree.{same_rest}
use Rattle.spv_respelling.proofs.Whole.{respells_listing}

-- ---- blocks

-- no text stands behind a label that no block has
no_text : (insts : List Instruction) (l : ℕ) → block (blocks_of insts) l ≡ None → behind_label insts l ≡ []
no_text [] l e = refl
no_text (i ∷ is) l e = elim (is_label_mark i) as (λ m. block (cond m (block_of i is ∷ blocks_of is) (blocks_of is)) l ≡ None
    → cond (cond m (word i 1 == l) false) is (behind_label is l) ≡ []) [
      | true ↦ elim (word i 1 == l) as (λ n. cond n (Some (block_of i is)) (block (blocks_of is) l) ≡ None → cond n is (behind_label is l) ≡ []) [
        | true ↦ λ h. absurd (cc h)
        | false ↦ no_text is l
      ]
      | false ↦ no_text is l
    ] e

label_branches : (f : Code) (l t : ℕ) → branches f l t ≡ true → is_label f l ≡ true
label_branches f l t h = by (block f l) h
  where
    by : (o : Option Block) → has (of_block (λ b. end_targets b.end) [] o) t ≡ true → is_some_block o ≡ true
    by None e = truth_apart false e refl
    by (Some b) e = refl

-- ---- fronts

module _ (insts : List Instruction) (stays more : ℕ → ℕ) (f g : Function) (admitted : IsAdmitted insts) (spells : SpellsFunction insts stays f)
    (spells_too : SpellsFunction insts more g) where
  code : Code
  code = blocks_of insts

  -- the same label stays for a block
  same_label : (l : ℕ) → is_label (blocks_of insts) l ≡ true → stays l ≡ more l
  same_label l h =
      sym (same_stays insts stays f (record { admitted = admitted; spells = spells }) l h)
      ∙ same_stays insts more g (record { admitted = admitted; spells = spells_too }) l h

  same_labels : (xs : List ℕ) → ((x : ℕ) → has xs x ≡ true → is_label (blocks_of insts) x ≡ true) → map stays xs ≡ map more xs
  same_labels [] h = refl
  same_labels (x ∷ xs) h = ap₂ (λ y ys. y ∷ ys) (same_label x (h x (has_head x xs x refl))) (same_labels xs (λ z k. h z (has_tail x xs z k)))

  -- an OpPhi names labels
  same_parameters : (t : ℕ) (ps : List (List ℕ)) → AllByRecursion (PhiFits no_pointers (blocks_of insts) t) ps
      → map (parameter_of stays) ps ≡ map (parameter_of more) ps
  same_parameters t [] h = refl
  same_parameters t (p ∷ ps) h =
      let parents = seconds (phi_pairs p) in
      let preceding = predecessors (blocks_of insts) t in
      let only = both_right (list_all (λ q. times parents q == 1) preceding) (list_all (λ q. has preceding q) parents) h.0.once in
      let labels = same_labels parents (λ x k.
      label_branches (blocks_of insts) x t (filter_has (λ q. branches (blocks_of insts) q t) (map (λ (b : Block). b.label) (blocks_of insts)) x
      (all_pass (λ q. has preceding q) parents x only k)).1) in
      ap₂ (λ q qs. q ∷ qs) (ap (λ xs. record (parameter_of stays p) { parents = xs }) labels) (same_parameters t ps h.1)

  same_front : (t : ℕ) → front_of insts stays t ≡ front_of insts more t
  same_front t = by (block (blocks_of insts) t) refl
    where
      by : (o : Option Block) → block (blocks_of insts) t ≡ o → front_of insts stays t ≡ front_of insts more t
      by None e =
          let none : phis (text insts t) ≡ [] = ap (λ is. phis (map line (up_to_terminator is))) (no_text insts t e) in
          ap (λ ps. record { label = t; parameters = ps }) (ap (map (parameter_of stays)) none ∙ ap (map (parameter_of more)) (sym none))
      by (Some b) e =
          let w = admitted.clean.walked t b e in
          ap (λ ps. record (front_of insts stays t) { parameters = ps })
          (same_parameters t (phis (text insts t)) (walked_phis insts stays f admitted spells no_pointers admitted.clean t w.0 w.1))

  one_tree : TakesFirst f.body → TakesFirst g.body → f ≡ g
  one_tree take take_too =
      let lines : f.function ∷ f.parameters ≡ g.function ∷ g.parameters = sym spells.front ∙ spells_too.front in
      let function : f.function ≡ g.function = cc lines in
      let parameters : f.parameters ≡ g.parameters = cc lines in
      let label : f.label ≡ g.label = spells.label ∙ sym spells_too.label in
      let body : f.body ≡ g.body =
      same_rest insts stays more same_front spells.body g.body
      (subst (λ l. Spells insts more l [] (text insts l) g.body) (sym label) spells_too.body) take take_too in
      ap₂ (λ x y. record f { function = x; parameters = y }) function parameters ∙ ap₂ (λ x y. record g { label = x; body = y }) label body

pub spelled_is_one : SpelledIsOne
spelled_is_one insts stays more f g admitted spells spells_too take take_too = one_tree insts stays more f g admitted spells spells_too take take_too

pub reads_back : ReadsBack
reads_back insts stays f admitted spells take again same each more g spells_too take_too =
    spelled_is_one again more (λ l. l) g f (listing_is_admitted insts stays f admitted spells again same each) spells_too
    (respells_listing insts stays f admitted spells again same) take_too take
