-- The one element that is left, of the front of a list and of one more.
use Rattle.std.proofs.Common.{◌≡◌, ℕ, ◌+◌, ◌<◌, inl, inr, Bool, false, List, [], ◌∷◌, ◌++◌, length, take, get_or, min, Option, Some, None, MatchOption, sym, ◌∙◌, subst, arith}
use Rattle.std.specs.List.{Contains}
use Rattle.std.proofs.lemmas.Bool.{false≢true}
use Rattle.std.proofs.lemmas.List.{get_or-take, length-take, take_more}
use Rattle.std.proofs.lemmas.List.Elements.{Contains-push, Contains-push_cases, Contains-append_left, Contains-get_or}
use Rattle.graph.specs.Rows.{is_marked, IsMarked}
use Rattle.graph.specs.Choice.{IsTheOne}

-- what is found in the front of a list: nothing, where all of it is marked
abbrev pub IsFound : List ℕ → List Bool → Option ℕ → Type 0
IsFound front marks None = (p : ℕ) → Contains front p → IsMarked marks p
IsFound front marks (Some x) = IsTheOne front marks x

pub unmarked_by : (marks : List Bool) (p : ℕ) (b : Bool) → b ≡ is_marked marks p → b ≡ false → IsMarked marks p → ⊥
unmarked_by marks p b e f h = false≢true (sym f ∙ e ∙ h)

-- a marked one more changes nothing
pub found-marked : (front : List ℕ) (marks : List Bool) (p : ℕ) (found : Option ℕ) → IsMarked marks p → IsFound front marks found → IsFound (front ++ p ∷ []) marks found
found-marked front marks p None m h = λ q c. elim (Contains-push_cases front p q c) [ inl old ↦ h q old | inr e ↦ subst (IsMarked marks) e m ]
found-marked front marks p (Some x) m h = record {
  stands = Contains-append_left front (p ∷ []) x h.stands;
  free = h.free;
  one = λ q c free. elim (Contains-push_cases front p q c) [ inl old ↦ h.one q old free | inr e ↦ absurd (free (subst (IsMarked marks) e m)) ];
}

-- the first that is not marked
pub found-first : (front : List ℕ) (marks : List Bool) (p : ℕ) → (IsMarked marks p → ⊥) → IsFound front marks None → IsFound (front ++ p ∷ []) marks (Some p)
found-first front marks p free h = record {
  stands = Contains-push front p;
  free = free;
  one = λ q c unmarked. elim (Contains-push_cases front p q c) [ inl old ↦ absurd (unmarked (h q old)) | inr e ↦ sym e ];
}

-- the same again
pub found-again : (front : List ℕ) (marks : List Bool) (p x : ℕ) → x ≡ p → IsFound front marks (Some x) → IsFound (front ++ p ∷ []) marks (Some x)
found-again front marks p x e h = record {
  stands = Contains-append_left front (p ∷ []) x h.stands;
  free = h.free;
  one = λ q c unmarked. elim (Contains-push_cases front p q c) [ inl old ↦ h.one q old unmarked | inr is ↦ sym is ∙ sym e ];
}

element_of_front : (xs : List ℕ) (i x k : ℕ) → k < length (take i xs) → get_or (take i xs) k x ≡ x → Contains xs x
element_of_front xs i x k less e =
    let n : length (take i xs) ≡ min i (length xs) = length-take i xs in
    let within : k < i = omega arith in
    (k, omega arith, sym (get_or-take i xs k x within) ∙ e)

-- two that are not marked
pub found-two : (xs : List ℕ) (marks : List Bool) (i x : ℕ) → i < length xs → IsTheOne (take i xs) marks x → (IsMarked marks (get_or xs i 0) → ⊥) → (x ≡ get_or xs i 0 → ⊥) → (q : ℕ) → IsTheOne xs marks q → ⊥
found-two xs marks i x less h free ne q one =
    ne (one.one x (element_of_front xs i x h.stands.0 h.stands.1 h.stands.2) h.free ∙ sym (one.one (get_or xs i 0) (Contains-get_or xs i 0 less) free))

pub found-all : (xs : List ℕ) (marks : List Bool) (found : Option ℕ) → IsFound xs marks found → MatchOption found ((p : ℕ) → IsTheOne xs marks p → ⊥) (λ p. IsTheOne xs marks p)
found-all xs marks None h = λ p one. one.free (h p one.stands)
found-all xs marks (Some x) h = h

-- one more, at the place where a loop stands
pub found_more : (xs : List ℕ) (marks : List Bool) (i : ℕ) (found : Option ℕ) → i < length xs → IsFound (take i xs ++ get_or xs i 0 ∷ []) marks found → IsFound (take (i + 1) xs) marks found
found_more xs marks i found less h = subst (λ (front : List ℕ). IsFound front marks found) (sym (take_more xs i 0 less)) h
