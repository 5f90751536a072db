-- Instructions with few words.
use Rattle.std.proofs.Common.{◌≡◌, ◌⊎◌, inl, inr, ℕ, ◌+◌, ◌<◌, ◌≤◌, length, Some, sym, ap, subst, ◌∙◌, arith}
use Rattle.std.specs.Prelude.{List, slice_get}
use Rattle.spv_module.specs.Instruction.{Instruction}

same_of_some : (i j : Instruction) → Some i ≡ Some j → i ≡ j
same_of_some i j e = cc

before_or_last : (j k : ℕ) → j < k + 1 → (j < k) ⊎ (j ≡ k)
before_or_last j k lt = grind arith

-- one more of them is looked at
pub one_more_short : (insts : List Instruction) (k : ℕ) (here : Instruction) → slice_get insts k ≡ Some here → length here.words ≤ 65535
    → ((j : ℕ) (i : Instruction) → j < k → slice_get insts j ≡ Some i → length i.words ≤ 65535)
    → (j : ℕ) (i : Instruction) → j < k + 1 → slice_get insts j ≡ Some i → length i.words ≤ 65535
one_more_short insts k here at short before j i lt there = elim (before_or_last j k lt) [
  | inl less ↦ before j i less there
  | inr same ↦ subst (λ (x : Instruction). length x.words ≤ 65535) (same_of_some here i (sym at ∙ ap (slice_get insts) (sym same) ∙ there)) short
]
