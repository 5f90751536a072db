-- How many blocks are left to come to.
use Rattle.std.proofs.Common.{◌≡◌, inl, inr, ℕ, ◌+◌, ◌≤◌, ◌==◌, Bool, true, false, cond, [], ◌∷◌, Some, refl, sym, subst, arith}
use Rattle.std.proofs.lemmas.List.Sums.{sum_by-cons}
use Rattle.std.specs.List.{count_by}
use Rattle.spv_blocks.specs.Blocks.{Code, Block, block, is_some_block, is_label}
use Rattle.spv_walk.proofs.Unique.{tells, equal_true}

one_le : (x y : Bool) → (x ≡ true → y ≡ true) → cond x 1 0 ≤ cond y 1 0
one_le true y h = subst (λ (z : Bool). 1 ≤ cond z 1 0) (sym (h refl)) (omega arith)
one_le false y h = omega arith

one_less : (x y : Bool) → y ≡ true → x ≡ false → cond x 1 0 + 1 ≤ cond y 1 0
one_less x y e d = subst (λ (z : Bool). cond z 1 0 + 1 ≤ cond y 1 0) (sym d) (subst (λ (z : Bool). 0 + 1 ≤ cond z 1 0) (sym e) (omega arith))

module _ (p q : Block → Bool) (narrows : (b : Block) → q b ≡ true → p b ≡ true) where
  -- induction on the blocks
  pub count_le : (f : Code) → count_by q f ≤ count_by p f
  count_le [] = omega arith
  count_le (b ∷ bs) =
      let first : count_by q (b ∷ bs) ≡ cond (q b) 1 0 + count_by q bs = sum_by-cons (λ x. cond (q x) 1 0) b bs in
      let was : count_by p (b ∷ bs) ≡ cond (p b) 1 0 + count_by p bs = sum_by-cons (λ x. cond (p x) 1 0) b bs in
      let r = count_le bs in let n = one_le (q b) (p b) (narrows b) in omega arith

  -- where one block passes no longer; induction on the blocks
  pub count_less : (f : Code) (label : ℕ) → is_label f label ≡ true → ((b : Block) → b.label ≡ label → (p b ≡ true) × (q b ≡ false)) → count_by q f + 1 ≤ count_by p f
  count_less [] label l h = absurd (cc)
  count_less (b ∷ bs) label l h =
      let first : count_by q (b ∷ bs) ≡ cond (q b) 1 0 + count_by q bs = sum_by-cons (λ x. cond (q x) 1 0) b bs in
      let was : count_by p (b ∷ bs) ≡ cond (p b) 1 0 + count_by p bs = sum_by-cons (λ x. cond (p x) 1 0) b bs in
      elim (tells (b.label == label)) [
        | inl e ↦ (let at = h b (equal_true b.label label e) in let r = count_le bs in let n = one_less (q b) (p b) at.0 at.1 in omega arith)
        | inr e ↦
            (let there : is_label bs label ≡ true = subst (λ (t : Bool). is_some_block (cond t (Some b) (block bs label)) ≡ true) e l in
            let r = count_less bs label there h in let n = one_le (q b) (p b) (narrows b) in omega arith)
      ]
