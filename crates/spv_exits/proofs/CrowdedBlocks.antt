-- The blocks that break the rule, one after the other.
use Rattle.std.proofs.Common.{◌≡◌, ℕ, ◌+◌, ◌≤◌, true, List, [], ◌∷◌, ◌++◌, length, take, Option, Some, None, refl, sym, ap, ◌∙◌, append_assoc, append-nil}
use Rattle.std.specs.List.{slice_get}
use Rattle.std.specs.Option.{is_some}
use Rattle.std.proofs.lemmas.List.{take_all}
use Rattle.spv_base.specs.declared.fault.Refusal.{Refusal}
use Rattle.spv_module.specs.First.{first}
use Rattle.spv_blocks.specs.Blocks.{Block, Code}
use Rattle.spv_blocks.specs.Places.{place}
use Rattle.spv_blocks.proofs.PlaceSteps.{label-place}
use Rattle.spv_blocks.proofs.Slices.{take-at}
use Rattle.spv_walk.specs.Found.{earlier_of}
use Rattle.spv_walking.proofs.Looked.{slice_label}
use Rattle.spv_faults.proofs.EarlierLemmas.{earlier-parts}
use Rattle.spv_exits.specs.Exits.{crowded, crowded_among, crowded_at}

place_there : (o : Option ℕ) → is_some o ≡ true → (j : ℕ) × (o ≡ Some j)
place_there None h = absurd (cc (h))
place_there (Some j) h = (j, refl)

-- the label of a block of the function has a place
pub label-placed : (f : Code) (k : ℕ) (b : Block) → slice_get f k ≡ Some b → (j : ℕ) × (place f b.label ≡ Some j)
label-placed f k b at = place_there (place f b.label) (label-place f b.label ∙ slice_label f k b at)

-- induction on the first blocks
crowded-append : (f : Code) (n : ℕ) (xs ys : List Block) → crowded_among f n (xs ++ ys) ≡ crowded_among f n xs ++ crowded_among f n ys
crowded-append f n [] ys = refl
crowded-append f n (b ∷ xs) ys =
    ap (λ rs. crowded_at f n b ++ rs) (crowded-append f n xs ys)
    ∙ sym (append_assoc (crowded_at f n b) (crowded_among f n xs) (crowded_among f n ys))

pub crowded-none : (f g : Code) (n : ℕ) → None ≡ first (crowded_among f n (take 0 g))
crowded-none f [] n = refl
crowded-none f (b ∷ g) n = refl

pub crowded-more : (f : Code) (n k : ℕ) (b : Block) (old fault new : Option Refusal) → slice_get f k ≡ Some b → old ≡ first (crowded_among f n (take k f)) →
    fault ≡ first (crowded_at f n b) → new ≡ earlier_of old fault → new ≡ first (crowded_among f n (take (k + 1) f))
crowded-more f n k b old fault new at told here is =
    earlier-parts old fault new (crowded_among f n (take k f)) (crowded_at f n b) is told here
    ∙ ap first (sym (ap (crowded_among f n) (take-at f k b at)
    ∙ crowded-append f n (take k f) (b ∷ [])
    ∙ ap (λ rs. crowded_among f n (take k f) ++ rs) (append-nil (crowded_at f n b))))

pub crowded-all : (f : Code) (n k : ℕ) (found : Option Refusal) → length f ≤ k → found ≡ first (crowded_among f n (take k f)) → found ≡ first (crowded f n)
crowded-all f n k found past told = told ∙ ap (λ g. first (crowded_among f n g)) (take_all k f past)
