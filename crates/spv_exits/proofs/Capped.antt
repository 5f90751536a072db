-- Nested returns counted up to as many as matter.
use Rattle.std.proofs.Common.{◌≡◌, ◌⊎◌, inl, inr, ℕ, ◌+◌, ◌<◌, ◌≤◌, not, nat_lt, min, List, [], ◌∷◌, ◌++◌, Option, refl, ap, ◌∙◌, arith}
use Rattle.std.proofs.Math.Nat.{min-eq_left, min-eq_right}
use Rattle.std.proofs.lemmas.Bool.Decides.{nat_tests}
use Rattle.spv_base.specs.declared.fault.Refusal.{Refusal}
use Rattle.spv_module.specs.First.{first, here, unless}
use Rattle.spv_blocks.specs.Blocks.{Block, Code}
use Rattle.spv_exits.specs.Exits.{branching, capped, crowded, crowded_among, exits_fit}

many : (b m n : ℕ) → 16383 < m → 16383 < n → nat_lt 16383 (b + m) ≡ nat_lt 16383 (b + n)
many b m n h k = grind (arith, nat_tests)

capped-test : (b n : ℕ) → nat_lt 16383 (b + capped n) ≡ nat_lt 16383 (b + n)
capped-test b n = by (few n)
  where
    few : (n : ℕ) → (n ≤ 16384) ⊎ (16384 ≤ n)
    few n = grind arith

    by : (n ≤ 16384) ⊎ (16384 ≤ n) → nat_lt 16383 (b + min n 16384) ≡ nat_lt 16383 (b + n)
    by (inl h) = ap (λ m. nat_lt 16383 (b + m)) (min-eq_left h)
    by (inr h) = ap (λ m. nat_lt 16383 (b + m)) (min-eq_right h) ∙ many b 16384 n (omega arith) (omega arith)

-- induction on the blocks
crowded-among_capped : (f : Code) (n : ℕ) (bs : List Block) → crowded_among f (capped n) bs ≡ crowded_among f n bs
crowded-among_capped f n [] = refl
crowded-among_capped f n (b ∷ bs) =
    ap (λ t. here b.at (unless (not t) 607) ++ crowded_among f (capped n) bs) (capped-test (branching f b.label) n)
    ∙ ap (λ rs. here b.at (unless (exits_fit f n b.label) 607) ++ rs) (crowded-among_capped f n bs)

pub first-capped : (f : Code) (m n : ℕ) (found : Option Refusal) → m ≡ capped n → found ≡ first (crowded f m) → found ≡ first (crowded f n)
first-capped f m n found is told = told ∙ ap (λ k. first (crowded f k)) is ∙ ap first (crowded-among_capped f n f)
