-- Where each label stands at its own block, no two blocks have one.
use Rattle.std.proofs.Common.{◌≡◌, ◌⊎◌, inl, inr, ℕ, ◌+◌, ◌<◌, ◌≤◌, true, length, Option, Some, None, refl, sym, ap, ◌∙◌, arith}
use Rattle.std.specs.List.{slice_get}
use Rattle.std.proofs.lemmas.Option.{slice_get_within}
use Rattle.spv_blocks.specs.Blocks.{Code, Block, is_it}
use Rattle.spv_blocks.specs.Places.{place}
use Rattle.spv_walk.specs.Numbering.{HasOwnLabels}
use Rattle.spv_walk.proofs.Unique.{equal_true, true_equal}
use Rattle.spv_faults.proofs.PredecessorLabels.{own-place}

-- the label of each of the first k blocks stands there first
abbrev pub StandThere : Code → (k : ℕ) → Type 0
StandThere f k = (j : ℕ) (b : Block) → j < k → slice_get f j ≡ Some b → place f b.label ≡ Some j

some_same : (j k : ℕ) → Some j ≡ Some k → j ≡ k
some_same j k e = cc (e)

some_block : (o : Option Block) (a b : Block) → o ≡ Some a → o ≡ Some b → a ≡ b
some_block o a b e h = cc (e, h)

pub it-some : (o : Option ℕ) (k : ℕ) → is_it k o ≡ true → o ≡ Some k
it-some None k h = absurd (cc (h))
it-some (Some j) k h = ap Some (equal_true j k h)

-- where labels are their own, each stands at its block
pub own-there : (f : Code) (k : ℕ) (b : Block) → slice_get f k ≡ Some b → HasOwnLabels f → is_it k (place f b.label) ≡ true
own-there f k b at own = ap (is_it k) (own-place f own k b at) ∙ true_equal k k refl

pub stand-none : (f : Code) → StandThere f 0
stand-none f j b n e = absurd (omega arith)

pub stand-more : (f : Code) (k : ℕ) (b : Block) → slice_get f k ≡ Some b → place f b.label ≡ Some k → StandThere f k → StandThere f (k + 1)
stand-more f k b at here before j x n e = elim (less_or_same j k n) [
  | inl m ↦ before j x m e
  | inr m ↦
      let same : x ≡ b = some_block (slice_get f j) x b e (ap (slice_get f) m ∙ at) in
      ap (λ (y : Block). place f y.label) same ∙ here ∙ ap Some (sym m)
]
  where
    less_or_same : (j k : ℕ) → j < k + 1 → (j < k) ⊎ (j ≡ k)
    less_or_same j k n = grind arith

pub stand-all : (f : Code) (k : ℕ) → length f ≤ k → StandThere f k → HasOwnLabels f
stand-all f k n stand i j a b e h same =
    some_same i j
    (sym (stand i a (let m = slice_get_within f i a e in omega arith) e)
    ∙ ap (place f) same
    ∙ stand j b (let m = slice_get_within f j b h in omega arith) h)
