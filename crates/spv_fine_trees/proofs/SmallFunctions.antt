-- What is promised in small functions: by the ways through their blocks.
use Rattle.std.proofs.Common.{◌≡◌, ◌⊎◌, inl, inr, ℕ, Bool, true, false, cond, ◌==◌, ◌&&◌, ◌||◌, List, [], ◌∷◌, slice_index, Some, refl, sym, ap, subst, ◌∙◌}
use Rattle.std.specs.List.{Contains}
use Rattle.graph.proofs.Elements.{contains_cases, contains_first, contains_later, contains_none}
use Rattle.spv_grammar.specs.Operands.{roles_of}
use Rattle.spv_grammar.specs.Table.{row_of}
use Rattle.spv_blocks.specs.Blocks.{Block, Code, block, branches, construct, end_targets, has, is_first, next_of, of_block}
use Rattle.spv_blocks.specs.Cutting.{blocks_of}
use Rattle.spv_walk.specs.Walk as walk
use Rattle.spv_walk.specs.Walk.{Back, Top}
use Rattle.spv_walk.proofs.Unique.{both_hold, equal_true, left_holds, right_holds, true_equal, truth_apart}
use Rattle.spv_tree.specs.Sound.{is_step, opcode_in}
use Rattle.spv_trees.specs.Standing.{OneOf}
use Rattle.spv_normal.specs.Facts.{written}
use Rattle.spv_spelling.specs.Text.{is_phi, text}
use Rattle.spv_ways.specs.Ways as ways
use Rattle.spv_ways.specs.Ways.{ByBranch, Follows, Unreached, Way}
use Rattle.spv_fine.specs.Fine.{defined_in}
use Rattle.spv_fine_trees.specs.Facts.{PromisedBehind, both_arms, one_arm}
use Rattle.spv_fine_trees.specs.There.{IsPromised}

-- ---- every way has passed the first block

first_once : (f : Code) (a b : ℕ) → is_first f a ≡ true → is_first f b ≡ true → a ≡ b
first_once [] a b h g = truth_apart false h refl
first_once (x ∷ xs) a b h g = sym (equal_true x.label a h) ∙ equal_true x.label b g

first_passed : (f : Code) (r : ℕ) → is_first f r ≡ true → (passed : List ℕ) (l : ℕ) → Way f passed l → (l ≡ r) ⊎ Contains passed r
first_passed f r h passed l (ways.Begins g) = inl (first_once f l r g h)
first_passed f r h passed l (ways.Onward {passed = front} {b = b} w s) = elim (first_passed f r h front b w) [
  | inl e ↦ inr (subst (Contains (b ∷ front)) e (contains_first front b))
  | inr c ↦ inr (contains_later front b r c)
]

-- ---- which blocks branch

pub record Branching (f : Code) (b t : ℕ) : Type 0 where
  pub from : Block
  pub among : OneOf from f
  pub label : from.label ≡ b
  pub to : has (end_targets from.end) t ≡ true

branching : (f : Code) (b t : ℕ) → branches f b t ≡ true → Branching f b t
branching [] b t h = truth_apart false h refl
branching (x ∷ xs) b t h = by (x.label == b) refl h (branching xs b t) where
  by : (c : Bool) → (x.label == b) ≡ c → has (of_block (λ k. end_targets k.end) [] (cond c (Some x) (block xs b))) t ≡ true
      → (branches xs b t ≡ true → Branching xs b t) → Branching (x ∷ xs) b t
  by true e g more = record { from = x; among = inl refl; label = equal_true x.label b e; to = g }
  by false e g more = let r = more g in record { from = r.from; among = inr r.among; label = r.label; to = r.to }

-- ---- what lines define

abbrev defines : (id : ℕ) → List ℕ → Bool
defines id line = (is_step (opcode_in line) && has (defined_in line) id) || (is_phi line && slice_index line 2 == id)

abbrev none_defines : (id : ℕ) → List (List ℕ) → Type 0
none_defines id [] = Unit {0}
none_defines id (line ∷ lines) = (defines id line ≡ false) × none_defines id lines

not_defined : (id : ℕ) (line : List ℕ) (lines : List (List ℕ)) → none_defines id lines → OneOf line lines
    → ((is_step (opcode_in line) ≡ true) × (has (defined_in line) id ≡ true)) ⊎ ((is_phi line ≡ true) × (slice_index line 2 ≡ id)) → ⊥
not_defined id line [] none o d = o
not_defined id line (x ∷ lines) none (inr o) d = not_defined id line lines none.1 o d
not_defined id line (x ∷ lines) none (inl e) d = truth_apart (defines id x) (ap (defines id) (sym e) ∙ by d) none.0
  where
    by : ((is_step (opcode_in line) ≡ true) × (has (defined_in line) id ≡ true)) ⊎ ((is_phi line ≡ true) × (slice_index line 2 ≡ id)) → defines id line ≡ true
    by (inl h) = left_holds _ _ (both_hold (is_step (opcode_in line)) (has (defined_in line) id) h.0 h.1)
    by (inr h) = right_holds _ _ (both_hold (is_phi line) (slice_index line 2 == id) h.0 (true_equal (slice_index line 2) id h.1))

-- ---- the facts

header : IsPromised (written both_arms) 7 10
unfolding roles_of row_of
header = record {
  block = 4;
  passed = λ passed w. elim (first_passed (blocks_of (written both_arms)) 4 refl passed 7 w) [ inl e ↦ absurd (cc (e)) | inr c ↦ c ];
  defined = record { line = 0x0005_0080 ∷ 9 ∷ 10 ∷ 20 ∷ 20 ∷ []; stands = inl refl; defines = inl (refl, refl) };
}

-- a way by the other arm
arm : ¬ IsPromised (written both_arms) 7 11
unfolding roles_of row_of
arm p =
    let w : Way (blocks_of (written both_arms)) (6 ∷ 4 ∷ []) 7 = ways.Onward (ways.Onward (ways.Begins refl) (ByBranch refl)) (ByBranch refl) in
    elim (contains_cases (4 ∷ []) 6 p.block (p.passed (6 ∷ 4 ∷ []) w)) [
      | inl e ↦ by 6 e (refl, tt)
      | inr c ↦ elim (contains_cases [] 4 p.block c) [ inl e ↦ by 4 e (refl, (refl, (refl, tt))) | inr none ↦ contains_none p.block none ]
    ]
  where
    by : (l : ℕ) → p.block ≡ l → none_defines 11 (text (written both_arms) l) → ⊥
    by l e none =
        not_defined 11 p.defined.line (text (written both_arms) l) none (subst (λ j. OneOf p.defined.line (text (written both_arms) j)) e p.defined.stands)
        p.defined.defines

next_of_top : (f : Code) (h b : ℕ) → Top f h b → (n : ℕ) × (next_of (construct f h) ≡ Some n)
next_of_top f h b (walk.Begins i c e r) = (b, e)
next_of_top f h b (walk.Past i a m t x y z) = next_of_top f h a t
next_of_top f h b (walk.Along i a k t x y z u v) = next_of_top f h a t

-- ways to the merge block where the one arm alone goes there
abbrev f : Code
f = blocks_of (written one_arm)

from_arm : (b : ℕ) → (r : Branching f b 7) → OneOf r.from f → b ≡ 5
unfolding roles_of row_of
from_arm b r (inl e) = absurd (cc (sym (ap (λ (k : Block). has (end_targets k.end) 7) e) ∙ r.to))
from_arm b r (inr (inl e)) = sym r.label ∙ ap (λ (k : Block). k.label) e
from_arm b r (inr (inr (inl e))) = absurd (cc (sym (ap (λ (k : Block). has (end_targets k.end) 7) e) ∙ r.to))
from_arm b r (inr (inr (inr (inl e)))) = absurd (cc (sym (ap (λ (k : Block). has (end_targets k.end) 7) e) ∙ r.to))
from_arm b r (inr (inr (inr (inr none)))) = absurd none

follows : (b : ℕ) → Follows f b 7 → b ≡ 5
unfolding roles_of row_of
follows b (ByBranch h) = let r = branching f b 7 h in from_arm b r r.among
follows b (Unreached named none) = let n = next_of_top f 7 5 (none 5 refl).top in absurd (cc (n.1))

passed_arm : (passed : List ℕ) {l : ℕ} → Way f passed l → l ≡ 7 → Contains passed 5
unfolding roles_of row_of
passed_arm passed (ways.Begins h) e = absurd (cc (subst (λ j. is_first f j ≡ true) e h))
passed_arm passed (ways.Onward {passed = front} {b = b} {t = t} w s) e =
    subst (Contains (b ∷ front)) (follows b (subst (Follows f b) e s)) (contains_first front b)

-- the one arm alone goes to the merge block
only : IsPromised (written one_arm) 7 11
unfolding roles_of row_of
only = record {
  block = 5;
  passed = λ passed w. passed_arm passed w refl;
  defined = record { line = 0x0005_0080 ∷ 9 ∷ 11 ∷ 20 ∷ 20 ∷ []; stands = inl refl; defines = inl (refl, refl) };
}

pub promised_behind : PromisedBehind
promised_behind = record { header = header; arm = arm; only = only }
