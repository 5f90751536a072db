-- The first of the blocks that a walk does not come to, block after block.
use Rattle.std.proofs.Common.{◌≡◌, ◌⊎◌, inl, inr, ℕ, ◌+◌, ◌≤◌, ◌==◌, Bool, true, [], ◌∷◌, length, take, slice_get, Option, Some, None, refl, sym, ap, subst, ◌∙◌, arith}
use Rattle.spv_base.specs.declared.fault.Refusal.{Refusal}
use Rattle.spv_blocks.specs.Blocks.{Code, Block, block, is_some_block}
use Rattle.spv_walk.specs.Contexts.{Context}
use Rattle.spv_walk.specs.Rules.{IsFirst}
use Rattle.spv_walk.specs.Walked.{InPlaces}
use Rattle.spv_walk.specs.Found.{Missing, Misses, earlier_of}
use Rattle.spv_walk.proofs.Least.{first_both, first_same}
use Rattle.spv_walk.proofs.Unique.{either_holds, left_holds, right_holds, equal_true, true_equal}
use Rattle.spv_walking.specs.Lost.{missing_at}
use Rattle.spv_walking.proofs.Looked.{labelled, labelled_more, block_labelled, take_all}

abbrev refused : (rule at : ℕ) → Refusal
refused rule at = record { rule = rule; at = at }

-- one of these blocks is missing
abbrev pub MissingOf : (f : Code) (place : ℕ → Option Context) (looked : ℕ → Bool) (rule at : ℕ) → Type 0
MissingOf f place looked rule at = (l : ℕ) × (looked l ≡ true) × (missing_at (place l) (block f l) ≡ Some (record { rule = rule; at = at }))

first_option : (o : Option Refusal) → IsFirst (λ rule at. o ≡ Some (record { rule = rule; at = at })) o
first_option None = λ rule at e. cc
first_option (Some r) = record {
  broken = refl;
  least = λ rule at e. (let same : r ≡ refused rule at = cc in inr (ap (λ (q : Refusal). q.at) same, (let n : r.rule ≡ rule = ap (λ (q : Refusal). q.rule) same in omega arith)));
}

some_block : (o : Option Block) (b : Block) → o ≡ Some b → is_some_block o ≡ true
some_block o b e = ap is_some_block e

there : (o : Option Block) (b : Block) (p : Option Context) → o ≡ Some b → ((c : Context) → p ≡ Some c → ⊥) → missing_at p o ≡ Some (refused 402 b.at)
there o b None e n = ap (missing_at None) e
there o b (Some c) e n = absurd (n c refl)

module _ (f : Code) (place : ℕ → Option Context) where
  pub missing_none : IsFirst (MissingOf f place (λ l. labelled (take 0 f) l)) None
  missing_none = λ rule at m. nothing f m.0 m.1
    where
      nothing : (f : Code) (b : ℕ) → labelled (take 0 f) b ≡ true → ⊥
      nothing [] b e = absurd (cc)
      nothing (x ∷ f) b e = absurd (cc)

  pub missing_more : (k : ℕ) (x : Block) (r one : Option Refusal) → slice_get f k ≡ Some x → IsFirst (MissingOf f place (λ l. labelled (take k f) l)) r
      → one ≡ missing_at (place x.label) (block f x.label) → IsFirst (MissingOf f place (λ l. labelled (take (k + 1) f) l)) (earlier_of r one)
  missing_more k x r one e i is =
      first_same (λ rule at. MissingOf f place (λ l. labelled (take k f) l) rule at ⊎ (one ≡ Some (refused rule at))) (MissingOf f place (λ l. labelled (take (k + 1) f) l)) (earlier_of r one)
      (λ rule at h. elim h [
        | inl m ↦ (m.0, labelled_more f k x m.0 e ∙ left_holds (labelled (take k f) m.0) (x.label == m.0) m.1, m.2)
        | inr m ↦ (
          x.label,
          labelled_more f k x x.label e ∙ right_holds (labelled (take k f) x.label) (x.label == x.label) (true_equal x.label x.label refl),
          sym is ∙ m,
        )
      ])
      (λ rule at m. elim (either_holds (labelled (take k f) m.0) (x.label == m.0) (sym (labelled_more f k x m.0 e) ∙ m.1)) [
        | inl q ↦ inl (m.0, q, m.2)
        | inr q ↦ inr (is ∙ ap (λ l. missing_at (place l) (block f l)) (equal_true x.label m.0 q) ∙ m.2)
      ])
      (first_both (MissingOf f place (λ l. labelled (take k f) l)) (λ rule at. one ≡ Some (refused rule at)) r one i (first_option one))

  -- what is missing
  missing_is : (rule at : ℕ) (l : ℕ) (p : Option Context) (o : Option Block) → place l ≡ p → block f l ≡ o → missing_at p o ≡ Some (refused rule at) → Missing f (InPlaces place) rule at
  missing_is rule at l None None q e m = absurd (cc)
  missing_is rule at l None (Some b) q e m =
      let same : refused 402 b.at ≡ refused rule at = cc in
      subst (λ (r : Refusal). Missing f (InPlaces place) r.rule r.at) same (Misses l b e (λ c i. (let n : None ≡ Some c = sym q ∙ i in absurd (cc))))
  missing_is rule at l (Some c) o q e m = absurd (cc)

  is_missing : (rule at : ℕ) → Missing f (InPlaces place) rule at → MissingOf f place (λ l. labelled f l) rule at
  is_missing rule at (Misses l b e n) = (l, block_labelled f l (some_block (block f l) b e), there (block f l) b (place l) e n)

  pub missing_all : (k : ℕ) (r : Option Refusal) → length f ≤ k → IsFirst (MissingOf f place (λ l. labelled (take k f) l)) r → IsFirst (Missing f (InPlaces place)) r
  missing_all k r n i =
      first_same (MissingOf f place (λ l. labelled f l)) (Missing f (InPlaces place)) r (λ rule at m. missing_is rule at m.0 (place m.0) (block f m.0) refl refl m.2) is_missing
      (subst (λ (c : Code). IsFirst (MissingOf f place (λ l. labelled c l)) r) (take_all f k n) i)
