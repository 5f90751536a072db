-- The nested returns of a function are the returns of its tree but the one outside all constructs.
use Rattle.std.proofs.Common.{◌≡◌, ℕ, ◌+◌, Bool, true, false, not, ◌&&◌, List, [], ◌∷◌, Option, Some, None, refl, sym, ap, subst, ◌∙◌, arith}
use Rattle.spv_module.specs.Instruction.{Instruction}
use Rattle.spv_blocks.specs.Blocks.{Block, Code, Open, block, end_targets, is_first, is_some_block, of_block, targets}
use Rattle.spv_blocks.specs.Cutting.{blocks_of}
use Rattle.spv_walk.specs.Contexts.{Context}
use Rattle.spv_walk.specs.Walk.{Walk, end_of}
use Rattle.spv_walk.specs.Walked.{IsWalk, InPlaces}
use Rattle.spv_walk.proofs.Unique.{both_left, both_right, equal_true, not_true}
use Rattle.spv_bodies.specs.Bodies.{Function}
use Rattle.spv_normal.specs.Order.{joins, ordered}
use Rattle.spv_spelling.specs.Clean.{no_pointers}
use Rattle.spv_spelling.specs.Paths.{Below, Path, Begins, Onward, Here, Behind}
use Rattle.spv_spelling.specs.Spelling.{SpellsFunction}
use Rattle.spv_spelling.specs.Whole.{IsAdmitted}
use Rattle.spv_spelling.proofs.Paths.{path_of_walk}
use Rattle.spv_spelling.proofs.Settled.{walked_runs}
use Rattle.spv_normal_trees.proofs.Arranging.{labelled, target_end, walked_label}
use Rattle.spv_normal_trees.proofs.Listed.{stands_once}
use Rattle.spv_normal_trees.proofs.Staying.{joins_branch}
use Rattle.spv_normal_trees.proofs.Texts.{line_end}
use Rattle.spv_sound_trees.proofs.Nodes.{all_lines}
use Rattle.spv_sound_trees.proofs.Sound.{first_in, first_walk}
use Rattle.spv_exits.specs.Exits.{AreNestedReturns, is_inside, is_return, nested_by}
use Rattle.spv_norm_exits.proofs.Counts.{one_if, one_passes, tally, tally_parted}
use Rattle.spv_norm_exits.proofs.Lines.{by_order, lines_equal, tree_lines}
use Rattle.spv_norm_exits.proofs.Outermost.{Outer, outer_end, rest_outer, return_is}

-- ---- from the first block

one_first : (f : Code) (l m : ℕ) → is_first f l ≡ true → is_first f m ≡ true → l ≡ m
one_first [] l m h g = absurd (cc h)
one_first (b ∷ bs) l m h g = sym (equal_true b.label l h) ∙ equal_true b.label m g

-- what is walked is behind the first block: by induction on its path
from_first : (f : Code) (first n l : ℕ) (c : Context) → is_first f first ≡ true → Path f n l c → Below f first [] n l c
from_first f first n l c h (Begins g) = subst (λ j. Below f first [] 0 j []) (one_first f first l h g) Here
from_first f first n l c h (Onward {n = m} {b = b} {t = t} {c = e} {d = d} p s) = Behind (from_first f first m b e h p) s

-- ---- a block that returns

label_of_return : (o : Option Block) → is_return (of_block (λ b. b.end) Open o) ≡ true → is_some_block o ≡ true
label_of_return None h = absurd (cc h)
label_of_return (Some b) h = refl

outside_is : (c : Context) → is_inside (Some c) ≡ false → c ≡ []
outside_is [] h = refl
outside_is (level ∷ c) h = absurd (cc h)

-- the returns that are listed, but the one outside
abbrev pub listed_returns : Function → ℕ
listed_returns tree = tally (λ w. is_return (line_end w)) (tree_lines tree)

abbrev pub outer_returns : Function → ℕ
outer_returns tree = one_if (is_return (outer_end tree.body))

module _ (insts : List Instruction) (stays : ℕ → ℕ) (tree : Function) (admitted : IsAdmitted insts) (spells : SpellsFunction insts stays tree) where
  abbrev f : Code
  f = blocks_of insts

  outer : Outer f tree.label (outer_end tree.body)
  outer = rest_outer insts stays admitted.clean spells.body (all_lines insts tree.label [] (first_walk insts stays tree admitted spells))

  -- a block that is joined with the next does not return
  joined_goes : (l u : ℕ) → joins f l u ≡ true → is_return (end_of f l) ≡ false
  joined_goes l u j = by (is_return (end_of f l)) refl
    where
      by : (b : Bool) → is_return (end_of f l) ≡ b → b ≡ false
      by true h =
          let one : targets f l ≡ u ∷ [] = joins_branch f l u j in
          let none : targets f l ≡ [] = target_end f l ∙ ap end_targets (return_is (end_of f l) h) in
          absurd (cc (one, none))
      by false h = refl

  returns_listed : tally (λ l. is_return (end_of f l)) (ordered f) ≡ listed_returns tree
  returns_listed =
      sym (by_order insts stays tree admitted spells (λ l e. is_return e)) ∙ lines_equal insts stays tree admitted spells is_return refl joined_goes

  module _ (place : ℕ → Option Context) (t : IsWalk f (InPlaces place)) where
    place_is : (l : ℕ) (c : Context) → Walk f l c → place l ≡ Some c
    place_is l c w = t.whole l c w (walked_runs no_pointers f admitted.clean l c w)

    abbrev ends_outside : ℕ → Bool
    ends_outside l = is_return (end_of f l) && not (is_inside (place l))

    at_one : (l : ℕ) → ends_outside l ≡ true → l ≡ outer.label
    at_one l h =
        let returns = both_left (is_return (end_of f l)) (not (is_inside (place l))) h in
        let outside = not_true (is_inside (place l)) (both_right (is_return (end_of f l)) (not (is_inside (place l))) h) in
        let b = labelled f l (label_of_return (block f l) returns) in
        let w = admitted.clean.walked l b.0 b.1 in
        let none : w.0 ≡ [] = outside_is w.0 (ap is_inside (sym (place_is l w.0 w.1)) ∙ outside) in
        let p = path_of_walk f l w.0 w.1 in
        let below = from_first f tree.label p.0 l w.0 (first_in insts stays tree admitted spells) p.1 in
        outer.one l p.0 (subst (λ c. Below f tree.label [] p.0 l c) none below) returns

    outer_tally : tally ends_outside (ordered f) ≡ outer_returns tree
    outer_tally =
        one_passes ends_outside outer.label (ordered f)
        (stands_once insts stays tree admitted spells outer.label
        ∙ ap one_if (walked_label no_pointers f admitted.clean outer.label [] outer.walk)) at_one
        ∙ ap (λ o. one_if (is_return (end_of f outer.label) && not (is_inside o))) (place_is outer.label [] outer.walk)
        ∙ plain (is_return (end_of f outer.label))
        ∙ ap (λ e. one_if (is_return e)) outer.ends
      where
        plain : (b : Bool) → one_if (b && true) ≡ one_if b
        plain true = refl
        plain false = refl

    -- whatever table they are counted by
    pub nested_listed : nested_by place f + outer_returns tree ≡ listed_returns tree
    nested_listed =
        let nested = by_order insts stays tree admitted spells (λ l e. is_return e && is_inside (place l)) in
        let parts = tally_parted (λ l. is_return (end_of f l)) (λ l. is_inside (place l)) (ordered f) in
        let out = outer_tally in
        let all = returns_listed in
        omega (arith, nested, parts, out, all)

  pub has_nested : (n : ℕ) → AreNestedReturns f n → n + outer_returns tree ≡ listed_returns tree
  has_nested n a = ap (λ k. k + outer_returns tree) a.same ∙ nested_listed a.place a.walk
