-- The labels of the first blocks of a function, one block after the other.
use Rattle.std.proofs.Common.{◌≡◌, inl, inr, ℕ, zero, suc, ◌+◌, ◌≤◌, ◌==◌, ◌||◌, Bool, true, false, cond, [], ◌∷◌, length, take, slice_get, Option, Some, None, refl, sym, ap, ◌∙◌, arith}
use Rattle.std.proofs.lemmas.List.Folds.{list_any-append}
use Rattle.std.specs.List.{list_any}
use Rattle.spv_blocks.specs.Blocks.{Code, Block, block, of_block, is_some_block, is_label, branches, end_targets, has}
use Rattle.spv_blocks.proofs.Slices.{take-at}
use Rattle.spv_walk.proofs.Unique.{tells, left_holds, right_holds, true_equal}

-- it is the label of one of these blocks
abbrev pub labelled : Code → ℕ → Bool
labelled f l = list_any (λ (b : Block). b.label == l) f

or_false : (x : Bool) → (x || false) ≡ x
or_false true = refl
or_false false = refl

pub labelled_more : (f : Code) (k : ℕ) (b : Block) (l : ℕ) → slice_get f k ≡ Some b → labelled (take (k + 1) f) l ≡ (labelled (take k f) l || b.label == l)
labelled_more f k b l e =
    ap (λ (g : Code). labelled g l) (take-at f k b e)
    ∙ list_any-append (λ (x : Block). x.label == l) (take k f) (b ∷ [])
    ∙ ap (λ z. labelled (take k f) l || z) (or_false (b.label == l))

-- induction on the blocks
pub block_labelled : (f : Code) (l : ℕ) → is_label f l ≡ true → labelled f l ≡ true
block_labelled [] l h = h
block_labelled (b ∷ f) l h = elim (tells (b.label == l)) [
  | inl e ↦ left_holds (b.label == l) (labelled f l) e
  | inr e ↦ right_holds (b.label == l) (labelled f l) (block_labelled f l (sym (ap (λ z. is_some_block (cond z (Some b) (block f l))) e) ∙ h))
]

pub take_all : (f : Code) (k : ℕ) → length f ≤ k → take k f ≡ f
take_all [] zero h = refl
take_all [] (suc k) h = refl
take_all (b ∷ f) zero h = absurd (omega arith)
take_all (b ∷ f) (suc k) h = ap (λ g. b ∷ g) (take_all f k (omega arith))

-- a block's label is one; induction on the blocks
pub slice_label : (f : Code) (k : ℕ) (b : Block) → slice_get f k ≡ Some b → is_label f b.label ≡ true
slice_label [] k b e = absurd (cc)
slice_label (a ∷ f) zero b e = here (true_equal a.label b.label (ap (λ (x : Block). x.label) same))
  where
    same : a ≡ b
    same = cc

    here : (a.label == b.label) ≡ true → is_label (a ∷ f) b.label ≡ true
    here h = ap (λ z. is_some_block (cond z (Some a) (block f b.label))) h
slice_label (a ∷ f) (suc k) b e = elim (tells (a.label == b.label)) [
  | inl h ↦ ap (λ z. is_some_block (cond z (Some a) (block f b.label))) h
  | inr h ↦ ap (λ z. is_some_block (cond z (Some a) (block f b.label))) h ∙ slice_label f k b e
]

-- a block that branches is there
named_there : (o : Option Block) (t : ℕ) → has (of_block (λ x. end_targets x.end) [] o) t ≡ true → is_some_block o ≡ true
named_there None t h = h
named_there (Some x) t h = refl

pub branch_label : (f : Code) (b t : ℕ) → branches f b t ≡ true → is_label f b ≡ true
branch_label f b t h = named_there (block f b) t h
