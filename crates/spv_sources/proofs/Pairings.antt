-- Words two by two, one pair after the other.
use Rattle.std.proofs.Common.{◌≡◌, ℕ, suc, ◌<◌, ◌≤◌, List, [], ◌∷◌, ◌++◌, length, slice_index, drop, All, refl, sym, ap, ◌∙◌, append_assoc, append-nil, arith}
use Rattle.spv_blocks.specs.Cutting.{pairs}

-- the first pair and the others
pub pairs_on : (rest : List ℕ) → 2 ≤ length rest → pairs rest ≡ (slice_index rest 0, slice_index rest 1) ∷ pairs (drop 2 rest)
pairs_on [] long = absurd (omega arith)
pairs_on (x ∷ []) long = absurd (omega arith)
pairs_on (x ∷ y ∷ rest) long = refl

pub pairs_none : (rest : List ℕ) → length rest < 2 → pairs rest ≡ []
pairs_none [] short = refl
pairs_none (x ∷ []) short = refl
pairs_none (x ∷ y ∷ rest) short = absurd (omega arith)

pub pair_here : (P : ℕ × ℕ → Type 0) (rest : List ℕ) → 2 ≤ length rest → All P (pairs rest) → P (slice_index rest 0, slice_index rest 1)
pair_here P [] long all = absurd (omega arith)
pair_here P (x ∷ []) long all = absurd (omega arith)
pair_here P (x ∷ y ∷ rest) long all = all 0 (x, y) (omega arith)

pub pairs_behind : (P : ℕ × ℕ → Type 0) (rest : List ℕ) → 2 ≤ length rest → All P (pairs rest) → All P (pairs (drop 2 rest))
pairs_behind P [] long all = absurd (omega arith)
pairs_behind P (x ∷ []) long all = absurd (omega arith)
pairs_behind P (x ∷ y ∷ rest) long all = λ k d h. all (suc k) d (omega arith)

pub pairs_more : (words rest : List ℕ) (front front2 : List (ℕ × ℕ)) → 2 ≤ length rest → pairs words ≡ front ++ pairs rest
    → front2 ≡ front ++ (slice_index rest 0, slice_index rest 1) ∷ []
    → pairs words ≡ front2 ++ pairs (drop 2 rest)
pairs_more words rest front front2 long told more =
    told ∙ ap (λ z. front ++ z) (pairs_on rest long) ∙ sym (ap (λ z. z ++ pairs (drop 2 rest)) more ∙ append_assoc front ((slice_index rest 0, slice_index rest 1) ∷ []) (pairs (drop 2 rest)))

pub pairs_end : (words rest : List ℕ) (front : List (ℕ × ℕ)) → length rest < 2 → pairs words ≡ front ++ pairs rest → front ≡ pairs words
pairs_end words rest front short told = sym (told ∙ ap (λ z. front ++ z) (pairs_none rest short) ∙ append-nil front)
