-- What is counted over the blocks of a function is counted over their labels, in whatever order each stands once.
use Rattle.std.proofs.Common.{◌≡◌, inl, inr, ℕ, suc, zero, ◌+◌, Bool, true, false, cond, List, [], ◌∷◌, map, slice_get, Some, refl, sym, ap, ◌∙◌}
use Rattle.std.proofs.lemmas.Bool.Decides.{eqb_tells}
use Rattle.spv_blocks.specs.Blocks.{Block, Code, End, Open, block, is_label, is_some_block, of_block, times}
use Rattle.spv_walk.specs.Numbering.{HasOwnLabels}
use Rattle.spv_walk.specs.Walk.{end_of}
use Rattle.spv_walk.proofs.Unique.{true_equal, false_equal}
use Rattle.spv_norm_exits.proofs.Counts.{one_if, same_tally, tally, tally_alike, tally_mapped}

-- the blocks behind the first
own_behind : (b : Block) (bs : Code) → HasOwnLabels (b ∷ bs) → HasOwnLabels bs
own_behind b bs own j k x y e g same = less j k (own (suc j) (suc k) x y e g same)
  where
    less : (m n : ℕ) → suc m ≡ suc n → m ≡ n
    less m n e = cc e

pub block_there : (f : Code) → HasOwnLabels f → (k : ℕ) (b : Block) → slice_get f k ≡ Some b → block f b.label ≡ Some b
block_there [] own k b e = absurd (cc e)
block_there (x ∷ xs) own zero b e =
    let same : x ≡ b = cc e in
    ap (λ t. cond t (Some x) (block xs b.label)) (true_equal x.label b.label (ap (λ z. z.label) same)) ∙ ap Some same
block_there (x ∷ xs) own (suc k) b e =
    ap (λ t. cond t (Some x) (block xs b.label)) (false_equal x.label b.label (λ same. other k (own 0 (suc k) x b refl e same)))
    ∙ block_there xs (own_behind x xs own) k b e
  where
    other : (n : ℕ) → 0 ≡ suc n → ⊥
    other n e = absurd (cc e)

-- the place of a block
pub place_there : (f : Code) (l : ℕ) → is_label f l ≡ true → (k : ℕ) × (b : Block) × (slice_get f k ≡ Some b) × (b.label ≡ l)
place_there [] l h = absurd (cc h)
place_there (x ∷ xs) l h = elim (eqb_tells x.label l) [
  | inl (e, p) ↦ (0, x, refl, p)
  | inr (e, p) ↦ let r = place_there xs l (ap (λ t. is_some_block (cond t (Some x) (block xs l))) (sym e) ∙ h) in (suc r.0, r.1, r.2, r.3)
]

-- each label stands once: induction on the blocks
pub label_times : (f : Code) → HasOwnLabels f → (l : ℕ) → times (map (λ b. b.label) f) l ≡ cond (is_label f l) 1 0
label_times [] own l = refl
label_times (x ∷ xs) own l = elim (eqb_tells x.label l) [
  | inl (e, p) ↦ rw e (ap (λ n. n + 1) (label_times xs (own_behind x xs own) l ∙ ap one_if (none p (is_label xs l) refl)))
  | inr (e, p) ↦ rw e (label_times xs (own_behind x xs own) l)
]
  where
    other : (n : ℕ) → 0 ≡ suc n → ⊥
    other n e = absurd (cc e)

    none : x.label ≡ l → (t : Bool) → is_label xs l ≡ t → t ≡ false
    none p true h = let r = place_there xs l h in absurd (other r.0 (own 0 (suc r.0) x r.1 refl r.2 (p ∙ sym r.3)))
    none p false h = refl

-- a test of the label and the end of each block
module _ (f : Code) (own : HasOwnLabels f) (order : List ℕ) (once : (l : ℕ) → times order l ≡ cond (is_label f l) 1 0) where
  pub over_labels : (p : ℕ → End → Bool) → tally (λ b. p b.label b.end) f ≡ tally (λ l. p l (end_of f l)) order
  over_labels p =
      tally_alike (λ b. p b.label b.end) (λ b. p b.label (end_of f b.label)) f
      (λ k b e. sym (ap (λ o. p b.label (of_block (λ z. z.end) Open o)) (block_there f own k b e)))
      ∙ sym (tally_mapped (λ l. p l (end_of f l)) (λ b. b.label) f)
      ∙ same_tally (λ l. p l (end_of f l)) (map (λ b. b.label) f) order (λ l. label_times f own l ∙ sym (once l))
