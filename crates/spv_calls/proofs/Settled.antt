-- Places that do not reach themselves: each that leads to such places alone, and is none of them, is one more.
use Rattle.std.proofs.Common.{◌≡◌, ℕ, ◌<◌, Bool, true, false, List, [], ◌∷◌, length, set, replicate, map, not, ◌⊎◌, inl, inr, refl, sym, ap, subst, ◌∙◌, arith}
use Rattle.std.specs.List.{Contains, list_all, range_with_len}
use Rattle.std.proofs.lemmas.Bool.{false≢true}
use Rattle.graph.specs.Reaching.{Reaches, IsReached, AreMarks}
use Rattle.graph.specs.Reaching.Reaches.{Here, Along}
use Rattle.graph.specs.Rows.{row, HasEdge, is_marked, IsMarked}
use Rattle.graph.proofs.Marks.{marked-none, marked-set, kept-set}
use Rattle.spv_module.specs.Instruction.{Instruction}
use Rattle.spv_calls.specs.Broken.{Decides}
use Rattle.spv_calls.specs.Calls.{CallsItself, calls}
use Rattle.spv_calls.specs.Kept.{AreSettled}
use Rattle.spv_calls.proofs.Lists.{all_contains}

pub settled-none : (rows : List (List ℕ)) (n : ℕ) → AreSettled rows (replicate n false)
settled-none rows n = record { closed = λ p q m e. absurd (marked-none n p m); straight = λ p m r. marked-none n p m }

-- a closed set holds all that is reached from it; induction on the walk
reached-marked : (rows : List (List ℕ)) (marks : List Bool) → AreSettled rows marks → (p q : ℕ) → IsMarked marks p → Reaches rows p q → IsMarked marks q
reached-marked rows marks s p q m Here = m
reached-marked rows marks s p q m (Along w e) = s.closed _ q (reached-marked rows marks s p _ m w) e

pub settled-more : (rows : List (List ℕ)) (marks : List Bool) (p : ℕ) → AreSettled rows marks → list_all (is_marked marks) (row rows p) ≡ true → AreSettled rows (set marks p true)
settled-more rows marks p s all = record {
  closed = λ x y m e. kept-set marks p y (onward x y (marked-set marks p x m) e);
  straight = λ x m r. elim (marked-set marks p x m) [
    | inl old ↦ s.straight x old r
    | inr is ↦ new (subst (λ (z : ℕ). IsReached rows (row rows z) z) is r)
  ];
}
  where
    onward : (x y : ℕ) → IsMarked marks x ⊎ (x ≡ p) → HasEdge rows x y → IsMarked marks y
    onward x y (inl old) e = s.closed x y old e
    onward x y (inr is) e = all_contains (is_marked marks) (row rows p) y all (subst (λ (z : ℕ). HasEdge rows z y) is e)

    new : IsReached rows (row rows p) p → ⊥
    new r = s.straight p (reached-marked rows marks s r.0 p (all_contains (is_marked marks) (row rows p) r.0 all r.1) r.2) r

-- ---- what is told of a function

pub straight-settled : (insts : List Instruction) (rows : List (List ℕ)) (settled : List Bool) (k : ℕ) → rows ≡ calls insts → AreSettled rows settled → is_marked settled k ≡ true → Decides true (¬ CallsItself insts k)
straight-settled insts rows settled k e s m = record {
  yes = λ _. subst (λ (g : List (List ℕ)). ¬ IsReached g (row g k) k) e (s.straight k m);
  no = λ h. absurd (false≢true (sym h));
}

pub straight-reached : (insts : List Instruction) (rows : List (List ℕ)) (reached : List Bool) (k : ℕ) (b : Bool) → rows ≡ calls insts → k < length rows → AreMarks (length rows) (IsReached rows (row rows k)) reached → b ≡ is_marked reached k → Decides (not b) (¬ CallsItself insts k)
straight-reached insts rows reached k b e fits marks is = by b is
  where
    back : CallsItself insts k → is_marked reached k ≡ true
    back r = marks.all k fits (subst (λ (g : List (List ℕ)). IsReached g (row g k) k) (sym e) r)

    by : (c : Bool) → c ≡ is_marked reached k → Decides (not c) (¬ CallsItself insts k)
    by true at = record { yes = λ h. absurd (false≢true h); no = λ _ not_reached. not_reached (subst (λ (g : List (List ℕ)). IsReached g (row g k) k) e (marks.only k (sym at))) }
    by false at = record { yes = λ _ r. false≢true (at ∙ back r); no = λ h. absurd (false≢true (sym h)) }
