-- Rows without repetition.
use Rattle.std.specs.Prelude.{ℕ, ◌≤◌, not, nat_eq, nat_lt, List, [], ◌∷◌, length, map, filter}
use Rattle.std.specs.List.{All}

-- the numbers but for one
abbrev pub without : (x : ℕ) → List ℕ → List ℕ
without x xs = filter (λ y. not (nat_eq y x)) xs

-- each number once, where it stands first
abbrev pub distinct : List ℕ → List ℕ
distinct [] = []
distinct (x ∷ xs) = x ∷ without x (distinct xs)

-- those of the numbers that are among the first n places
abbrev pub places_below : (n : ℕ) → List ℕ → List ℕ
places_below n xs = filter (λ x. nat_lt x n) xs

-- the graph whose rows name each of their places once
abbrev pub distinct_rows : List (List ℕ) → List (List ℕ)
distinct_rows rows = map (λ row. distinct (places_below (length rows) row)) rows

-- no stamp is above a stamp
abbrev pub AreUpTo : (stamp : ℕ) → List ℕ → Type 0
AreUpTo stamp stamps = All (λ s. s ≤ stamp) stamps
