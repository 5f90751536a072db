-- Sets of places by their marks, and how many places are left to be marked.
use Rattle.std.proofs.Common.{◌≡◌, ℕ, ◌+◌, ◌*◌, ◌<◌, ◌≤◌, ◌⊎◌, inl, inr, Bool, true, false, cond, not, List, length, get_or, set, replicate, count_by, Some, sym, ap, ◌∙◌, subst, arith, get_or-set_other, get_or-set_same}
use Rattle.std.specs.List.{slice_get}
use Rattle.std.proofs.lemmas.Bool.{false≢true, cases_lt, cases_eq}
use Rattle.std.proofs.lemmas.List.{get_or_past, get_or-replicate, set_past, length-replicate}
use Rattle.std.proofs.lemmas.List.Sums.{sum_by-set}
use Rattle.std.proofs.lemmas.Option.{slice_get-get_or, get_or_from_slice_get}
use Rattle.graph.specs.Rows.{IsMarked}

-- what is marked stands among the marks
pub marked-within : (m : List Bool) (p : ℕ) → IsMarked m p → p < length m
marked-within m p h = elim (cases_lt p (length m)) [ inl less ↦ less | inr past ↦ absurd (false≢true (sym (get_or_past m p false past) ∙ h)) ]

-- to be marked, as an element of the list of marks
pub marked-element : (m : List Bool) (p : ℕ) → IsMarked m p → slice_get m p ≡ Some true
marked-element m p h = slice_get-get_or m p false (marked-within m p h) ∙ ap (λ (b : Bool). Some b) h

pub element-marked : (m : List Bool) (p : ℕ) → slice_get m p ≡ Some true → IsMarked m p
element-marked m p e = get_or_from_slice_get m p true false e

pub marked-none : (n p : ℕ) → IsMarked (replicate n false) p → ⊥
marked-none n p h =
    let less : p < n = subst (λ (k : ℕ). p < k) (length-replicate {A = Bool} n false) (marked-within (replicate n false) p h) in
    false≢true (sym (get_or-replicate n p false false less) ∙ h)

-- what is marked once a place is marked
pub marked-set : (m : List Bool) (p q : ℕ) → IsMarked (set m p true) q → IsMarked m q ⊎ (q ≡ p)
marked-set m p q h = elim (cases_eq q p) [ inl e ↦ inr e | inr ne ↦ inl (sym (get_or-set_other m p q true false ne) ∙ h) ]

pub set-marked : (m : List Bool) (p : ℕ) → p < length m → IsMarked (set m p true) p
set-marked m p less = get_or-set_same m p true false less

pub kept-set : (m : List Bool) (p q : ℕ) → IsMarked m q → IsMarked (set m p true) q
kept-set m p q h = elim (cases_eq q p) [
  | inl e ↦ subst (λ (k : ℕ). IsMarked (set m p true) k) (sym e) (set-marked m p (subst (λ (k : ℕ). k < length m) e (marked-within m q h)))
  | inr ne ↦ get_or-set_other m p q true false ne ∙ h
]

-- the places that are left to be marked, counted
abbrev pub unmarked : List Bool → ℕ
unmarked m = count_by not m

left-set : (m : List Bool) (p : ℕ) → p < length m → unmarked (set m p true) + cond (not (get_or m p true)) 1 0 ≡ unmarked m
left-set m p less =
    let k : unmarked (set m p true) + cond (not (get_or m p true)) 1 0 ≡ unmarked m + 0 = sum_by-set (λ (b : Bool). cond (not b) 1 0) m p true true less in
    omega arith

left-by : (m : List Bool) (p : ℕ) (b : Bool) → p < length m → get_or m p true ≡ b → unmarked (set m p true) + cond (not b) 1 0 ≡ unmarked m
left-by m p b less e = subst (λ (c : Bool). unmarked (set m p true) + cond (not c) 1 0 ≡ unmarked m) e (left-set m p less)

-- one place less is left where a place is marked that was not
pub unmarked-new : (m : List Bool) (p : ℕ) → get_or m p true ≡ false → unmarked (set m p true) + 1 ≡ unmarked m
unmarked-new m p e = elim (cases_lt p (length m)) [ inl less ↦ left-by m p false less e | inr past ↦ absurd (false≢true (sym e ∙ get_or_past m p true past)) ]

pub unmarked-old : (m : List Bool) (p : ℕ) → get_or m p true ≡ true → unmarked (set m p true) ≡ unmarked m
unmarked-old m p e = elim (cases_lt p (length m)) [ inl less ↦ (let k = left-by m p true less e in omega arith) | inr past ↦ ap unmarked (set_past m p true past) ]

-- ---- worklists that put an element back, or put others in front of it, when they mark it: twice what is left to be marked, and how much waits

-- an element is marked, and at most one more waits
pub falls_by_marking : (m : List Bool) (p waiting waiting2 : ℕ) → get_or m p true ≡ false → waiting2 ≤ waiting + 1 → 2 * unmarked (set m p true) + waiting2 < 2 * unmarked m + waiting
falls_by_marking m p waiting waiting2 e more = let new = unmarked-new m p e in omega arith

-- nothing is marked that was not, and one less waits
pub falls_by_taking : (m m2 : List Bool) (waiting waiting2 : ℕ) → unmarked m2 ≤ unmarked m → waiting2 < waiting → 2 * unmarked m2 + waiting2 < 2 * unmarked m + waiting
falls_by_taking m m2 waiting waiting2 h less = omega arith
