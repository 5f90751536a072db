-- Two moves of bytes, or two additions, one after the other.
use Rattle.std.proofs.Common.{◌≡◌, ℕ, List, ◌++◌, Option, Some, None, MatchOption, refl, ap, ◌∙◌, append_assoc, take, drop}
use Rattle.std.proofs.lemmas.List.{take-append-drop}
use Rattle.std.specs.Option.{option_map, IsSomeAnd}
use Rattle.opt_outside.specs.Seen.{Seen, Writes, Tells}
use Rattle.opt_top.specs.Moves.{Moves, Adds, Tellings}

kept-trans : (a b c : List ℕ) (x y z : Option (List ℕ)) → MatchOption x (y ≡ None) (λ all. IsSomeAnd y (λ rest. b ++ rest ≡ a ++ all)) → MatchOption y (z ≡ None) (λ all. IsSomeAnd z (λ rest. c ++ rest ≡ b ++ all)) → MatchOption x (z ≡ None) (λ all. IsSomeAnd z (λ rest. c ++ rest ≡ a ++ all))
kept-trans a b c None None z first second = second
kept-trans a b c None (Some y) z first second = cc
kept-trans a b c (Some x) None z first second = absurd first
kept-trans a b c (Some x) (Some y) None first second = absurd second
kept-trans a b c (Some x) (Some y) (Some z) first second = second ∙ first

pub moves-trans : (a b c : List ℕ) (s t u : Seen) → Moves a b s t → Moves b c t u → Moves a c s u
moves-trans a b c s t u first second = record {
  others = second.others ∙ ap {A = Seen} (λ m. record m { left = u.left }) first.others;
  kept = kept-trans a b c s.left t.left u.left first.kept second.kept;
}

map-append : (a b : List ℕ) (x : Option (List ℕ)) → option_map (λ w. w ++ b) (option_map (λ w. w ++ a) x) ≡ option_map (λ w. w ++ (a ++ b)) x
map-append a b None = refl
map-append a b (Some x) = ap Some (append_assoc x a b)

pub adds-trans : (a b : List ℕ) (s t u : Seen) → Adds a s t → Adds b t u → Adds (a ++ b) s u
adds-trans a b s t u first second = record {
  others = second.others ∙ ap {A = Seen} (λ m. record m { written = option_map (λ w. w ++ b) m.written }) first.others ∙ ap {A = Option (List ℕ)} (λ w. record s { written = w }) (map-append a b s.written);
}

-- one more piece of what is still to be written was written
pub adds_more : (bytes rest after : List ℕ) (n : ℕ) (s t u : Seen) → after ≡ drop n rest → (front : List ℕ) × (front ++ rest ≡ bytes) × Adds front s t → Writes n rest t u → (front : List ℕ) × (front ++ after ≡ bytes) × Adds front s u
adds_more bytes rest after n s t u is before writes = (
  before.0 ++ take n rest,
  rw (is, append_assoc, take-append-drop) before.1,
  adds-trans before.0 (take n rest) s t u before.2 (record { others = writes.others }),
)

pub tellings-trans : (a b : List ℕ) (s t u : Seen) → Tellings a s t → Tellings b t u → Tellings (a ++ b) s u
tellings-trans a b s t u first second = record {
  others = second.others ∙ ap {A = Seen} (λ m. record m { told = option_map (λ w. w ++ b) m.told }) first.others ∙ ap {A = Option (List ℕ)} (λ w. record s { told = w }) (map-append a b s.told);
}

-- one more piece of what is still to be told was told
pub tells_more : (text rest after : List ℕ) (n : ℕ) (s t u : Seen) → after ≡ drop n rest → (front : List ℕ) × (front ++ rest ≡ text) × Tellings front s t → Tells n rest t u → (front : List ℕ) × (front ++ after ≡ text) × Tellings front s u
tells_more text rest after n s t u is before tells = (
  before.0 ++ take n rest,
  rw (is, append_assoc, take-append-drop) before.1,
  tellings-trans before.0 (take n rest) s t u before.2 (record { others = tells.others }),
)
