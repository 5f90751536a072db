-- The components that literals pick of two vectors, and a vector that is filled component by component.
use Rattle.std.proofs.Common.{◌≡◌, ◌≢◌, ℕ, zero, suc, ◌+◌, ◌-◌, ◌≤◌, ◌<◌, List, [], ◌∷◌, ◌++◌, length, map, take, replicate, slice_index, slice_set, sym, ap, ap₂, ◌∙◌, arith}
use Rattle.std.proofs.lemmas.List.{get_or_append_left, get_or-append_right, append-nil, take_all, length-append, length-map, length-take-le, length-replicate}
use Rattle.spv_value.specs.declared.words.Operand.{Operand}
use Rattle.spv_value.specs.Words.{words_of}
use Rattle.spv_value.proofs.WordLists.{length-words_of}
use Rattle.spv_meaning.specs.Computations.{shuffled}

picks_component : (words : List ℕ) (literal : ℕ) → literal ≢ 0xFFFF_FFFF → slice_index words literal ≡ shuffled words literal
picks_component words literal h = grind arith

-- a literal picks a component of the first vector, or of the second
pub picks_first : (a b : Operand) (literal : ℕ) → literal ≢ 0xFFFF_FFFF → literal < a.len
    → slice_index (words_of a) literal ≡ shuffled (words_of a ++ words_of b) literal
picks_first a b literal h first =
    sym (get_or_append_left (words_of a) (words_of b) 0 literal (omega (arith, length-words_of a))) ∙ picks_component (words_of a ++ words_of b) literal h

pub picks_second : (a b : Operand) (literal : ℕ) → literal ≢ 0xFFFF_FFFF → a.len ≤ literal
    → slice_index (words_of b) (literal - a.len) ≡ shuffled (words_of a ++ words_of b) literal
picks_second a b literal h second =
    sym (get_or-append_right (words_of a) (words_of b) a.len literal 0 (length-words_of a) second) ∙ picks_component (words_of a ++ words_of b) literal h

-- the components of the first i literals, and zeros for the others
abbrev pub filled : (f : ℕ → ℕ) (xs : List ℕ) (i : ℕ) → List ℕ
filled f xs i = map f (take i xs) ++ replicate (length xs - i) 0

filled_next : (f : ℕ → ℕ) (xs : List ℕ) (i : ℕ) → i < length xs → slice_set (filled f xs i) i (f (slice_index xs i)) ≡ filled f xs (suc i)
filled_next f [] i h = absurd (omega arith)
filled_next f (x ∷ xs) zero h =
    let more : length (x ∷ xs) - 0 ≡ suc (length xs) = omega arith in
    let rest : length xs ≡ length (x ∷ xs) - 1 = omega arith in
    ap (λ n. slice_set (replicate n 0) 0 (f x)) more ∙ ap (λ n. f x ∷ replicate n 0) rest
filled_next f (x ∷ xs) (suc i) h =
    let now : length (x ∷ xs) - suc i ≡ length xs - i = omega arith in
    let next : length xs - suc i ≡ length (x ∷ xs) - suc (suc i) = omega arith in
    ap (λ n. slice_set (f x ∷ (map f (take i xs) ++ replicate n 0)) (suc i) (f (slice_index xs i))) now
    ∙ ap (λ ws. f x ∷ ws) (filled_next f xs i (omega arith))
    ∙ ap (λ n. f x ∷ (map f (take (suc i) xs) ++ replicate n 0)) next

-- one component more
pub filled_more : (f : ℕ → ℕ) (xs ws vs : List ℕ) (i w : ℕ) → ws ≡ filled f xs i → w ≡ f (slice_index xs i) → vs ≡ slice_set ws i w → i < length xs
    → vs ≡ filled f xs (i + 1)
filled_more f xs ws vs i w before picked set h =
    let next : suc i ≡ i + 1 = omega arith in
    set ∙ ap₂ (λ us v. slice_set us i v) before picked ∙ filled_next f xs i h ∙ ap (filled f xs) next

pub filled_none : (f : ℕ → ℕ) (xs : List ℕ) → replicate (length xs) 0 ≡ filled f xs 0
filled_none f xs = let whole : length xs ≡ length xs - 0 = omega arith in ap (λ n. replicate n 0) whole

pub filled_all : (f : ℕ → ℕ) (xs : List ℕ) (i : ℕ) → length xs ≤ i → filled f xs i ≡ map f xs
filled_all f xs i h =
    let none : length xs - i ≡ 0 = omega arith in
    ap₂ (λ ys n. map f ys ++ replicate n 0) (take_all i xs h) none ∙ append-nil (map f xs)

pub length-filled : (f : ℕ → ℕ) (xs : List ℕ) (i : ℕ) → i ≤ length xs → length (filled f xs i) ≡ length xs
length-filled f xs i h =
    omega (
      arith,
      length-append (map f (take i xs)) (replicate (length xs - i) 0),
      length-map (take i xs) f,
      length-take-le i xs h,
      length-replicate {A = ℕ} (length xs - i) 0,
    )
