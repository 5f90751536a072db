-- How many labels a terminator names, and which.
use Rattle.std.proofs.Common.{◌≡◌, ℕ, zero, suc, ◌+◌, ◌-◌, ◌<◌, ◌≤◌, List, [], ◌∷◌, ◌++◌, length, take, map, get_or, Option, Some, None, refl, sym, ap, ◌∙◌, subst, arith}
use Rattle.std.specs.List.{slice_get}
use Rattle.std.proofs.lemmas.List.{take_all}
use Rattle.std.specs.Option.{option_map}
use Rattle.spv_blocks.specs.Blocks.{Block, Code, end_targets, seconds}
use Rattle.spv_blocks.specs.Places.{number_of, row_of}

pub count_seconds : (ps : List (ℕ × ℕ)) → length (seconds ps) ≡ length ps
count_seconds [] = refl
count_seconds (p ∷ ps) = ap suc (count_seconds ps)

pub second_at : (ps : List (ℕ × ℕ)) (k : ℕ) → (get_or ps k (0, 0)).1 ≡ get_or (seconds ps) k 0
second_at [] k = refl
second_at (p ∷ ps) zero = refl
second_at (p ∷ ps) (suc k) = second_at ps k

-- the labels behind the default
pub case-within : (n k : ℕ) → (k ≡ 0 → ⊥) → k < suc n → k - 1 < n
case-within n zero some less = absurd (some refl)
case-within n (suc k) some less = omega arith

pub case-at : (d : ℕ) (ps : List (ℕ × ℕ)) (k : ℕ) → (k ≡ 0 → ⊥) → get_or (seconds ps) (k - 1) 0 ≡ get_or (d ∷ seconds ps) k 0
case-at d ps zero some = absurd (some refl)
case-at d ps (suc k) some = let same : suc k - 1 ≡ k = omega arith in ap (λ (i : ℕ). get_or (seconds ps) i 0) same

-- the numbers of all labels that a block names are its row
pub row-all : (f : Code) (b : Block) (k : ℕ) (numbers : List ℕ) → length (end_targets b.end) ≤ k → numbers ≡ map (number_of f) (take k (end_targets b.end)) → (o : Option Block) → o ≡ Some b
    → Some numbers ≡ option_map (row_of f) o
row-all f b k numbers all told o is =
    ap (λ ns. Some ns) (told ∙ ap (map (number_of f)) (take_all k (end_targets b.end) all)) ∙ sym (ap (option_map (row_of f)) is)
