-- What the blocks of an admitted function spell is sound.
use Rattle.std.proofs.Common.{◌≡◌, inl, inr, ℕ, true, false, cond, ◌==◌, List, [], ◌∷◌, map, AllPairs, Contains, None, refl, sym, ap, ◌∙◌, arith}
use Rattle.std.proofs.lemmas.List.Kept.{AllPairs-cons}
use Rattle.spv_module.specs.Instruction.{Instruction}
use Rattle.spv_blocks.specs.Blocks.{Code, is_first}
use Rattle.spv_blocks.specs.Cutting.{block_of, blocks_of, is_label_mark, word}
use Rattle.spv_walk.specs.Contexts.{Context}
use Rattle.spv_walk.specs.Walk.{Walk, Starts}
use Rattle.spv_walk.proofs.Unique.{tells, true_equal}
use Rattle.spv_bodies.specs.Bodies.{Body, Function}
use Rattle.spv_bodies.specs.Listing.{Branching, arriving, from_block}
use Rattle.spv_normal.specs.Lines.{behind_label, line, up_to_terminator}
use Rattle.spv_normal.specs.Order.{first_label}
use Rattle.spv_tree.specs.Branches.{branches_in}
use Rattle.spv_tree.specs.Sound.{AreAlike, IsSound, fronts}
use Rattle.spv_spelling.specs.Spelling.{Spells, steps, finishes, joined, branches as branches_out, splits, selects, switches, SpellsFunction}
use Rattle.spv_spelling.specs.Whole.{IsAdmitted, SpelledIsSound}
use Rattle.spv_normal_trees.proofs.Members.{has_not}
use Rattle.spv_normal_trees.proofs.RegionExits.{Among}
use Rattle.spv_normal_trees.proofs.Listed.{branches_of_blocks}
use Rattle.spv_normal_trees.specs.Laws.{AreBranchings}
use Rattle.spv_sound_trees.proofs.Apart.{rest_piece}
use Rattle.spv_sound_trees.proofs.Arriving.{rest_arrives}
use Rattle.spv_sound_trees.proofs.Filled.{all_among, among_pass, branching, filled, one_alone}
use Rattle.spv_sound_trees.proofs.Formed.{contains, rest_formed, rest_placed}
use Rattle.spv_sound_trees.proofs.Marks.{marks, labels_distinct}
use Rattle.spv_sound_trees.proofs.Nodes.{all_lines}
use Rattle.spv_sound_trees.proofs.Pieces.{Piece, RestOn}

-- ---- the first block

no_blocks : (insts : List Instruction) (l : ℕ) → blocks_of insts ≡ [] → behind_label insts l ≡ []
no_blocks [] l e = refl
no_blocks (i ∷ is) l e = elim (tells (is_label_mark i)) [
  | inl m ↦ let none : block_of i is ∷ blocks_of is ≡ [] = ap (λ b. cond b (block_of i is ∷ blocks_of is) (blocks_of is)) (sym m) ∙ e in absurd (cc (none))
  | inr m ↦
      let none : blocks_of is ≡ [] = ap (λ b. cond b (block_of i is ∷ blocks_of is) (blocks_of is)) (sym m) ∙ e in
      ap (λ b. cond (cond b (word i 1 == l) false) is (behind_label is l)) m ∙ no_blocks is l none
]

spells_some : (insts : List Instruction) (stays : ℕ → ℕ) {l : ℕ} {c : Context} {rest : List (List ℕ)} {body : Body} → Spells insts stays l c rest body
    → rest ≡ [] → ⊥
spells_some insts stays (steps is s) e = cc (e)
spells_some insts stays (finishes is) e = cc (e)
spells_some insts stays (joined bare g front s) e = cc (e)
spells_some insts stays (branches_out bare s) e = cc (e)
spells_some insts stays (splits bare x a) e = cc (e)
spells_some insts stays (selects is a b p) e = cc (e)
spells_some insts stays (switches is a p) e = cc (e)

first_is_first : (f : Code) → (f ≡ [] → ⊥) → is_first f (first_label f) ≡ true
first_is_first [] h = absurd (h refl)
first_is_first (b ∷ bs) h = true_equal b.label b.label refl

-- ---- pairs

pairs_of : (R : Branching → Branching → Type 0) (es : List Branching) → ((e g : Branching) → Among e es → Among g es → R e g) → AllPairs R es
pairs_of R [] h = λ i j d less low. absurd (omega arith)
pairs_of R (e ∷ es) h = AllPairs-cons R e es (all_among (R e) es (λ g k. h e g (inl refl) (inr k))) (pairs_of R es (λ g k a b. h g k (inr a) (inr b)))

module _ (insts : List Instruction) (stays : ℕ → ℕ) (f : Function) (admitted : IsAdmitted insts) (s : SpellsFunction insts stays f) where
  pub first_in : is_first (blocks_of insts) f.label ≡ true
  first_in = ap (is_first (blocks_of insts)) s.label
      ∙ first_is_first (blocks_of insts) (λ e. spells_some insts stays s.body (ap (λ is. map line (up_to_terminator is)) (no_blocks insts f.label e)))

  pub first_walk : Walk (blocks_of insts) f.label []
  first_walk = Starts f.label first_in

  whole : Piece (RestOn (blocks_of insts) f.label []) (marks f.body)
  whole = rest_piece insts stays admitted.clean s.body (all_lines insts f.label [] first_walk)

  are : AreBranchings insts stays (branches_in f)
  are = branches_of_blocks insts stays f (record { admitted = admitted; spells = s })

  -- branchings from one label to one front are one
  alike : (e g : Branching) → Among e (branches_in f) → Among g (branches_in f) → AreAlike e g
  alike e g h k same to =
      let b = branching insts stays admitted (branches_in f) are e h in
      let t : ℕ = e.1.target in
      let first : Among e (from_block (arriving t (branches_in f)) (stays b.block)) =
      among_pass (λ x. x.0 == stays b.block) (arriving t (branches_in f)) e (among_pass (λ x. x.1.target == t) (branches_in f) e h (true_equal t t refl))
      (true_equal e.0 (stays b.block) b.named) in
      let second : Among g (from_block (arriving t (branches_in f)) (stays b.block)) =
      among_pass (λ x. x.0 == stays b.block) (arriving t (branches_in f)) g
      (among_pass (λ x. x.1.target == t) (branches_in f) g k (true_equal g.1.target t (sym to)))
      (true_equal g.0 (stays b.block) (sym same ∙ b.named)) in
      ap (λ x. x.1.values) (one_alone (from_block (arriving t (branches_in f)) (stays b.block)) e g (are.once b.block t b.branch b.front) first second)

  sound : IsSound f
  sound = record {
    labels = labels_distinct f.label f.body (has_not (marks f.body) f.label (λ h. (whole.labels f.label h).1 refl)) whole.distinct;
    arrive = all_among (λ e. Contains (fronts f.body) e.1.target) (branches_in f)
        (λ e k. contains (fronts f.body) e.1.target (rest_arrives insts stays (fronts f.body) s.body tt f.label (λ x h. h) e k));
    alike = pairs_of AreAlike (branches_in f) alike;
    formed = rest_formed insts stays admitted (branches_in f) (filled insts stays admitted (branches_in f) are) s.body (all_lines insts f.label [] first_walk);
    placed = rest_placed insts stays s.body None;
  }

pub spelled_is_sound : SpelledIsSound
spelled_is_sound insts stays f admitted s = sound insts stays f admitted s
