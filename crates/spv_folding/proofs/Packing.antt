-- The words of operands that are built word by word.
use Rattle.std.proofs.Common.{◌≡◌, ℕ, zero, suc, ◌≤◌, ◌<◌, List, [], ◌∷◌, length, replicate, slice_index, slice_set, refl, ap, arith}
use Rattle.std.proofs.lemmas.List.{get_or_past, set_past}
use Rattle.spv_value.specs.declared.words.Operand.{Operand}
use Rattle.spv_value.specs.Words.{padded, words_of}
use Rattle.spv_value.proofs.WordLists.{length-words_of}

padded_zeros : (n m : ℕ) → padded n (replicate m 0) ≡ replicate n 0
padded_zeros zero m = refl
padded_zeros (suc n) zero = ap (λ ws. 0 ∷ ws) (padded_zeros n zero)
padded_zeros (suc n) (suc m) = ap (λ ws. 0 ∷ ws) (padded_zeros n m)

pub four_zeros : (n : ℕ) → padded n (0 ∷ 0 ∷ 0 ∷ 0 ∷ []) ≡ replicate n 0
four_zeros n = padded_zeros n 4

index_padded : (n : ℕ) (ws : List ℕ) (i : ℕ) → i < n → slice_index (padded n ws) i ≡ slice_index ws i
index_padded zero ws i h = absurd (omega arith)
index_padded (suc n) [] zero h = refl
index_padded (suc n) [] (suc i) h = index_padded n [] i (omega arith)
index_padded (suc n) (w ∷ ws) zero h = refl
index_padded (suc n) (w ∷ ws) (suc i) h = index_padded n ws i (omega arith)

set_padded : (n : ℕ) (ws : List ℕ) (i w : ℕ) → i < length ws → slice_set (padded n ws) i w ≡ padded n (slice_set ws i w)
set_padded zero ws i w h = refl
set_padded (suc n) [] i w h = absurd (omega arith)
set_padded (suc n) (v ∷ ws) zero w h = refl
set_padded (suc n) (v ∷ ws) (suc i) w h = ap (λ rest. v ∷ rest) (set_padded n ws i w (omega arith))

-- four words hold a list that is no longer
pub padded_four : (ws : List ℕ) → length ws ≤ 4
    → padded (length ws) (slice_index ws 0 ∷ slice_index ws 1 ∷ slice_index ws 2 ∷ slice_index ws 3 ∷ []) ≡ ws
padded_four [] h = refl
padded_four (a ∷ []) h = refl
padded_four (a ∷ b ∷ []) h = refl
padded_four (a ∷ b ∷ c ∷ []) h = refl
padded_four (a ∷ b ∷ c ∷ d ∷ []) h = refl
padded_four (a ∷ b ∷ c ∷ d ∷ e ∷ rest) h = absurd (omega arith)

-- a word that counts, and one past those that count
pub component_of : (x : Operand) (i : ℕ) → i < x.len → slice_index (words_of x) i ≡ slice_index (x.w0 ∷ x.w1 ∷ x.w2 ∷ x.w3 ∷ []) i
unfolding words_of
component_of x i h = index_padded x.len (x.w0 ∷ x.w1 ∷ x.w2 ∷ x.w3 ∷ []) i h

pub past_component : (x : Operand) (i : ℕ) → x.len ≤ i → slice_index (words_of x) i ≡ 0
past_component x i h = get_or_past (words_of x) i 0 (omega (arith, length-words_of x))

-- one word set, and one past those that count
pub set_component : (x : Operand) (i w : ℕ) → i < 4 → slice_set (words_of x) i w ≡ padded x.len (slice_set (x.w0 ∷ x.w1 ∷ x.w2 ∷ x.w3 ∷ []) i w)
unfolding words_of
set_component x i w h = set_padded x.len (x.w0 ∷ x.w1 ∷ x.w2 ∷ x.w3 ∷ []) i w h

pub set_past_component : (x : Operand) (i w : ℕ) → length (words_of x) ≤ i → slice_set (words_of x) i w ≡ words_of x
set_past_component x i w h = set_past (words_of x) i w h
