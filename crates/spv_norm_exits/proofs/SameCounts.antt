-- Where two functions spell one tree and each label of the second stays, the second is no more crowded.
use Rattle.std.proofs.Common.{◌≡◌, inl, inr, ℕ, ◌≤◌, Bool, true, false, ◌&&◌, ◌==◌, List, [], ◌∷◌, refl, sym, ap, subst, ◌∙◌, arith}
use Rattle.spv_module.specs.Instruction.{Instruction}
use Rattle.spv_blocks.specs.Blocks.{Code, end_targets, has, is_label, times}
use Rattle.spv_blocks.specs.Cutting.{blocks_of}
use Rattle.spv_walk.specs.Walk.{end_of}
use Rattle.spv_walk.proofs.Unique.{both_right, equal_true, true_equal}
use Rattle.spv_bodies.specs.Bodies.{Function}
use Rattle.spv_normal.specs.Order.{joins, ordered}
use Rattle.spv_spelling.specs.Clean.{no_pointers}
use Rattle.spv_spelling.specs.Spelling.{SpellsFunction}
use Rattle.spv_spelling.specs.Whole.{IsAdmitted}
use Rattle.spv_spelling.proofs.Settled.{walked_runs}
use Rattle.spv_normal_trees.proofs.Arranging.{labelled, target_end}
use Rattle.spv_normal_trees.proofs.Listed.{stands_once}
use Rattle.spv_normal_trees.proofs.Members.{has_cons, has_nothing}
use Rattle.spv_normal_trees.proofs.Staying.{IsFree, joins_branch, joins_label, walked_staying}
use Rattle.spv_exits.specs.Exits.{AreNestedReturns, branching}
use Rattle.spv_norm_exits.proofs.Counts.{one_if, passes_there, some_passes}
use Rattle.spv_norm_exits.proofs.Lines.{labels_tally, lines_equal, lines_less}
use Rattle.spv_norm_exits.proofs.Nested.{has_nested, nested_listed}
use Rattle.spv_norm_exits.proofs.Tables.{exact, table}

-- the second function has the labels of the first, no more branches to one, and as many nested returns
pub record IsNoFuller (old new : Code) : Type 0 where
  pub nested : (n : ℕ) → AreNestedReturns new n → AreNestedReturns old n
  pub label : (l : ℕ) → is_label new l ≡ true → is_label old l ≡ true
  pub branches : (l : ℕ) → is_label new l ≡ true → branching new l ≤ branching old l

module _ (old new : List Instruction) (stays : ℕ → ℕ) (tree : Function) (a : IsAdmitted old) (s : SpellsFunction old stays tree)
    (b : IsAdmitted new) (t : SpellsFunction new (λ l. l) tree) where
  abbrev f : Code
  f = blocks_of old

  abbrev g : Code
  g = blocks_of new

  same_nested : (n : ℕ) → AreNestedReturns g n → AreNestedReturns f n
  same_nested n h = record {
    place = table f a.clean;
    walk = exact f a.clean;
    same =
        let one = has_nested new (λ l. l) tree b t n h in
        let other = nested_listed old stays tree a s (table f a.clean) (exact f a.clean) in
        omega (arith, one, other);
  }

  -- a label of the second stands in the order, and so among the lines; there it is that of a block of the first
  label_stays : (l : ℕ) → is_label g l ≡ true → is_label f l ≡ true
  label_stays l h =
      let once = stands_once new (λ x. x) tree b t l in
      let at = ap one_if h in
      let passes = passes_there (λ x. (x == x) && (x == l)) l (ordered g) (omega (arith, once, at)) (ap (λ z. z && z) (true_equal l l refl)) in
      let listed = labels_tally new (λ x. x) tree b t l in
      let blocks = labels_tally old stays tree a s l in
      let some = some_passes (λ x. (x == stays x) && (x == l)) (ordered f) (omega (arith, passes, listed, blocks)) in
      let same = equal_true some.0 l (both_right (some.0 == stays some.0) (some.0 == l) some.1) in
      by (is_label f l) refl (subst (λ j. 1 ≤ times (ordered f) j) same some.2)
    where
      by : (c : Bool) → is_label f l ≡ c → 1 ≤ times (ordered f) l → c ≡ true
      by true e some = refl
      by false e some =
          let once = stands_once old stays tree a s l in
          let none = ap one_if e in
          absurd (omega (arith, once, none, some))

  -- no block of the second is joined with the one before
  free : (l : ℕ) → is_label g l ≡ true → IsFree g l
  free l h =
      let at = labelled g l h in
      let w = b.clean.walked l at.0 at.1 in
      (walked_staying g no_pointers b.clean (λ x. x) (λ x y j. t.staying.joined x y (joins_label g x y j) j) (λ x none. refl)
      (λ x c v. walked_runs no_pointers g b.clean x c v) l w.0 w.1).free

  joined_elsewhere : (l : ℕ) → is_label g l ≡ true → (x u : ℕ) → joins g x u ≡ true → has (end_targets (end_of g x)) l ≡ false
  joined_elsewhere l h x u j = by (has (end_targets (end_of g x)) l) refl
    where
      one : end_targets (end_of g x) ≡ u ∷ []
      one = sym (target_end g x) ∙ joins_branch g x u j

      by : (c : Bool) → has (end_targets (end_of g x)) l ≡ c → c ≡ false
      by true e = elim (has_cons u [] l (subst (λ ts. has ts l ≡ true) one e)) [
        | inl same ↦ absurd (free l h x (subst (λ k. joins g x k ≡ true) same j))
        | inr none ↦ has_nothing l none
      ]
      by false e = refl

  fewer_branches : (l : ℕ) → is_label g l ≡ true → branching g l ≤ branching f l
  fewer_branches l h =
      let here = lines_equal new (λ x. x) tree b t (λ e. has (end_targets e) l) refl (joined_elsewhere l h) in
      let there = lines_less old stays tree a s (λ e. has (end_targets e) l) refl in
      omega (arith, here, there)

  pub no_fuller : IsNoFuller f g
  no_fuller = record { nested = same_nested; label = label_stays; branches = fewer_branches }
