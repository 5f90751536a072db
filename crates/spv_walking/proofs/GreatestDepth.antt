-- The greatest depth, block after block.
use Rattle.std.proofs.Common.{◌≡◌, ◌⊎◌, inl, inr, ℕ, ◌+◌, ◌≤◌, ◌==◌, Bool, true, [], ◌∷◌, length, take, slice_get, Option, Some, None, refl, sym, ap, subst, ◌∙◌, arith}
use Rattle.spv_blocks.specs.Blocks.{Code, Block, Construct, ASelection, ASwitch, ALoop, construct, is_label}
use Rattle.spv_walk.specs.Contexts.{Context, behind}
use Rattle.spv_walk.specs.Walked.{InPlaces}
use Rattle.spv_walk.proofs.Unique.{either_holds, equal_true}
use Rattle.spv_walking.specs.Depths.{HasDepth, IsDepth, depth_at}
use Rattle.spv_walking.proofs.Looked.{labelled, labelled_more, block_labelled, take_all, slice_label}

-- a block that opens a construct counts one more
pub length_behind : (k : Construct) (b t : ℕ) (c : Context) → length (behind (Some k) b t c) ≡ length c + 1
length_behind (ASelection m) b t c = omega arith
length_behind (ASwitch m) b t c = omega arith
length_behind (ALoop m n) b t c = omega arith

module _ (f : Code) (place : ℕ → Option Context) where
  -- of the blocks that were looked at
  pub record IsDepthOf (looked : ℕ → Bool) (n : ℕ) : Type 0 where
    pub bound : (l : ℕ) → looked l ≡ true → depth_at f l (place l) ≤ n
    pub reached : (n ≡ 0) ⊎ HasDepth f (InPlaces place) n

  pub depth_none : IsDepthOf (λ l. labelled (take 0 f) l) 0
  depth_none = record { bound = λ l e. absurd (nothing f l e); reached = inl refl }
    where
      nothing : (f : Code) (b : ℕ) → labelled (take 0 f) b ≡ true → ⊥
      nothing [] b e = absurd (cc)
      nothing (x ∷ f) b e = absurd (cc)

  some_depth : (l n : ℕ) (p : Option Context) → is_label f l ≡ true → place l ≡ p → n ≡ depth_at f l p → (n ≡ 0) ⊎ HasDepth f (InPlaces place) n
  some_depth l n None b e d = inl d
  some_depth l n (Some c) b e d = inr (record { label = l; context = c; block = b; stands = e; depth = sym d })

  pub depth_more : (k : ℕ) (x : Block) (n d m : ℕ) → slice_get f k ≡ Some x → IsDepthOf (λ l. labelled (take k f) l) n → d ≡ depth_at f x.label (place x.label)
      → n ≤ m → d ≤ m → (m ≡ n) ⊎ (m ≡ d) → IsDepthOf (λ l. labelled (take (k + 1) f) l) m
  depth_more k x n d m e i is above over either = record {
    bound = λ l h. elim (either_holds (labelled (take k f) l) (x.label == l) (sym (labelled_more f k x l e) ∙ h)) [
      | inl q ↦ (let b = i.bound l q in omega arith)
      | inr q ↦ subst (λ y. depth_at f y (place y) ≤ m) (equal_true x.label l q) (subst (λ y. y ≤ m) is over)
    ];
    reached = elim either [
      | inl q ↦ subst (λ y. (y ≡ 0) ⊎ HasDepth f (InPlaces place) y) (sym q) i.reached
      | inr q ↦ some_depth x.label m (place x.label) (slice_label f k x e) refl (q ∙ is)
    ];
  }

  depth_there : (l : ℕ) (c : Context) (o : Option Context) → o ≡ Some c → depth_at f l o ≡ length (behind (construct f l) l l c)
  depth_there l c o e = ap (depth_at f l) e

  pub depth_all : (k n : ℕ) → length f ≤ k → IsDepthOf (λ l. labelled (take k f) l) n → IsDepth f (InPlaces place) n
  depth_all k n long i = record {
    bound = λ m h. subst (λ y. y ≤ n) (depth_there h.label h.context (place h.label) h.stands ∙ h.depth)
        (i.bound h.label (ap (λ (c : Code). labelled c h.label) (take_all f k long) ∙ block_labelled f h.label h.block));
    reached = i.reached;
  }
