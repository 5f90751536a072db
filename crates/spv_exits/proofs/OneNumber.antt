-- Each exact table of a walk gives one number of nested returns.
use Rattle.std.proofs.Common.{◌≡◌, ℕ, ◌+◌, false, cond, ◌&&◌, [], ◌∷◌, Option, Some, None, refl, sym, ap, ◌∙◌}
use Rattle.std.proofs.lemmas.List.Sums.{sum_by-cons}
use Rattle.spv_blocks.specs.Blocks.{Code, Block, stops}
use Rattle.spv_walk.specs.Contexts.{Context}
use Rattle.spv_walk.specs.Walk.{Walk}
use Rattle.spv_walk.specs.Walked.{IsWalk, InPlaces}
use Rattle.spv_walk.proofs.Unique.{one_context}
use Rattle.spv_exits.specs.Exits.{is_inside, is_nested_return, is_return, nested_by}
use Rattle.spv_exits.specs.Laws.{OneNumber, OneNumberWalked}
use Rattle.spv_exits.proofs.OwnTargets.{walked-runs}

module _ (f : Code) (p q : ℕ → Option Context) (one : IsWalk f (InPlaces p)) (other : IsWalk f (InPlaces q))
    (runs : (l : ℕ) (c : Context) → Walk f l c → stops f l ≡ false) where
  same_by : (l : ℕ) (o u : Option Context) → p l ≡ o → q l ≡ u → o ≡ u
  same_by l None None e g = refl
  same_by l (Some c) None e g = let there = other.some l c (one.sound l c e) in absurd (cc (there.1, g))
  same_by l None (Some d) e g = let there = one.some l d (other.sound l d g) in absurd (cc (there.1, e))
  same_by l (Some c) (Some d) e g =
      let w = one.sound l c e in ap (λ x. Some x) (one_context f l c d w (other.sound l d g) (runs l c w))

  place-same : (l : ℕ) → p l ≡ q l
  place-same l = same_by l (p l) (q l) refl refl

  -- induction on the blocks
  nested-alike : (g : Code) → nested_by p g ≡ nested_by q g
  nested-alike [] = refl
  nested-alike (b ∷ g) =
      sum_by-cons (λ (x : Block). cond (is_nested_return p x) 1 0) b g
      ∙ ap (λ c. cond (is_return b.end && is_inside c) 1 0 + nested_by p g) (place-same b.label)
      ∙ ap (λ n. cond (is_nested_return q b) 1 0 + n) (nested-alike g)
      ∙ sym (sum_by-cons (λ (x : Block). cond (is_nested_return q x) 1 0) b g)

pub one-walked : OneNumberWalked
one-walked f m n runs one other =
    one.same ∙ nested-alike f one.place other.place one.walk other.walk runs f ∙ sym other.same

pub one-number : OneNumber
one-number is_pointer f m n nothing one other = one-walked f m n (walked-runs is_pointer f nothing) one other
