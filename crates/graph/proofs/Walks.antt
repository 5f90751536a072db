-- What a walk does when it meets places.
use Rattle.std.proofs.Common.{◌≡◌, ℕ, ◌+◌, ◌<◌, ◌⊎◌, inl, inr, Bool, true, false, cond, List, [], ◌∷◌, ◌++◌, length, get_or, set, fold, refl, sym, ap, ◌∙◌, subst, arith}
use Rattle.std.specs.List.{Contains}
use Rattle.std.proofs.lemmas.Bool.{false≢true, cases_lt}
use Rattle.std.proofs.lemmas.List.{get_or_past, get_or_default, length-set, length_push}
use Rattle.std.proofs.lemmas.List.Elements.{Contains-push, Contains-push_cases, Contains-append_left}
use Rattle.graph.specs.Rows.{IsMarked}
use Rattle.graph.specs.Walks.{Going, meet}
use Rattle.graph.proofs.Elements.{contains_first, contains_later, contains_cases, contains_none}
use Rattle.graph.proofs.Marks.{marked-within, marked-set, set-marked, kept-set, unmarked, unmarked-new, unmarked-old}

-- how much is left to be done
abbrev pub work : Going → ℕ
work g = unmarked g.met + length g.waiting

-- the places of a set are met; those that were not met before wait
pub record Meets (Places : ℕ → Type 0) (g h : Going) : Type 0 where
  pub count : length h.met ≡ length g.met
  pub kept : (q : ℕ) → IsMarked g.met q → IsMarked h.met q
  pub all : (q : ℕ) → Places q → q < length g.met → IsMarked h.met q
  pub only : (q : ℕ) → IsMarked h.met q → IsMarked g.met q ⊎ Places q
  pub waits : (q : ℕ) → IsMarked h.met q → IsMarked g.met q ⊎ Contains h.waiting q
  pub still : (q : ℕ) → Contains g.waiting q → Contains h.waiting q
  pub met : (q : ℕ) → Contains h.waiting q → Contains g.waiting q ⊎ IsMarked h.met q
  pub same : work h ≡ work g

-- a place that is met already, or is none
meets_old : (g : Going) (p : ℕ) → get_or g.met p true ≡ true → Meets (λ q. q ≡ p) g (record { met = set g.met p true; waiting = g.waiting })
meets_old g p e = record {
  count = length-set g.met p true;
  kept = λ q m. kept-set g.met p q m;
  all = λ q is less. subst (λ (k : ℕ). IsMarked (set g.met p true) k) (sym is) (set-marked g.met p (subst (λ (k : ℕ). k < length g.met) is less));
  only = λ q m. marked-set g.met p q m;
  waits = λ q m. inl (elim (marked-set g.met p q m) [ inl old ↦ old | inr is ↦ subst (λ (k : ℕ). IsMarked g.met k) (sym is) (was (subst (λ (k : ℕ). IsMarked (set g.met p true) k) is m)) ]);
  still = λ q w. w;
  met = λ q w. inl w;
  same = ap (λ (n : ℕ). n + length g.waiting) (unmarked-old g.met p e);
}
  where
    was : IsMarked (set g.met p true) p → IsMarked g.met p
    was m =
        let less : p < length g.met = subst (λ (n : ℕ). p < n) (length-set g.met p true) (marked-within (set g.met p true) p m) in
        get_or_default g.met p false true less ∙ e

-- a place that is not met
meets_new : (g : Going) (p : ℕ) → get_or g.met p true ≡ false → Meets (λ q. q ≡ p) g (record { met = set g.met p true; waiting = g.waiting ++ p ∷ [] })
meets_new g p e = record {
  count = length-set g.met p true;
  kept = λ q m. kept-set g.met p q m;
  all = λ q is less. subst (λ (k : ℕ). IsMarked (set g.met p true) k) (sym is) (set-marked g.met p (subst (λ (k : ℕ). k < length g.met) is less));
  only = λ q m. marked-set g.met p q m;
  waits = λ q m. elim (marked-set g.met p q m) [ inl old ↦ inl old | inr is ↦ inr (subst (λ (k : ℕ). Contains (g.waiting ++ p ∷ []) k) (sym is) (Contains-push g.waiting p)) ];
  still = λ q w. Contains-append_left g.waiting (p ∷ []) q w;
  met = λ q w. elim (Contains-push_cases g.waiting p q w) [ inl old ↦ inl old | inr is ↦ inr (subst (λ (k : ℕ). IsMarked (set g.met p true) k) is (set-marked g.met p there)) ];
  same = let n = unmarked-new g.met p e in let l = length_push g.waiting p in omega arith;
}
  where
    there : p < length g.met
    there = elim (cases_lt p (length g.met)) [ inl less ↦ less | inr past ↦ absurd (false≢true (sym e ∙ get_or_past g.met p true past)) ]

meets_by : (g : Going) (p : ℕ) (b : Bool) → get_or g.met p true ≡ b → Meets (λ q. q ≡ p) g (record { met = set g.met p true; waiting = cond b g.waiting (g.waiting ++ p ∷ []) })
meets_by g p true e = meets_old g p e
meets_by g p false e = meets_new g p e

pub meets-meet : (g : Going) (p : ℕ) → Meets (λ q. q ≡ p) g (meet g p)
meets-meet g p = meets_by g p (get_or g.met p true) refl

pub meets-none : (g : Going) → Meets (Contains []) g g
meets-none g = record {
  count = refl;
  kept = λ q m. m;
  all = λ q c less. absurd (contains_none q c);
  only = λ q m. inl m;
  waits = λ q m. inl m;
  still = λ q w. w;
  met = λ q w. inl w;
  same = refl;
}

meets_cons : (g h k : Going) (p : ℕ) (ps : List ℕ) → Meets (λ q. q ≡ p) g h → Meets (Contains ps) h k → Meets (Contains (p ∷ ps)) g k
meets_cons g h k p ps a b = record {
  count = b.count ∙ a.count;
  kept = λ q m. b.kept q (a.kept q m);
  all = λ q c less. elim (contains_cases ps p q c) [ inl is ↦ b.kept q (a.all q is less) | inr later ↦ b.all q later (subst (λ (n : ℕ). q < n) (sym a.count) less) ];
  only = λ q m. only_of q (b.only q m);
  waits = λ q m. waits_of q (b.waits q m);
  still = λ q w. b.still q (a.still q w);
  met = λ q w. met_of q (b.met q w);
  same = b.same ∙ a.same;
}
  where
    only_of : (q : ℕ) → IsMarked h.met q ⊎ Contains ps q → IsMarked g.met q ⊎ Contains (p ∷ ps) q
    only_of q (inl m) = elim (a.only q m) [ inl old ↦ inl old | inr is ↦ inr (subst (λ (x : ℕ). Contains (p ∷ ps) x) (sym is) (contains_first ps p)) ]
    only_of q (inr c) = inr (contains_later ps p q c)

    waits_of : (q : ℕ) → IsMarked h.met q ⊎ Contains k.waiting q → IsMarked g.met q ⊎ Contains k.waiting q
    waits_of q (inl m) = elim (a.waits q m) [ inl old ↦ inl old | inr w ↦ inr (b.still q w) ]
    waits_of q (inr w) = inr w

    met_of : (q : ℕ) → Contains h.waiting q ⊎ IsMarked k.met q → Contains g.waiting q ⊎ IsMarked k.met q
    met_of q (inl w) = elim (a.met q w) [ inl old ↦ inl old | inr m ↦ inr (b.kept q m) ]
    met_of q (inr m) = inr m

-- the places of a list, one after the other; induction on the list
pub meets-all : (g : Going) (ps : List ℕ) → Meets (Contains ps) g (fold meet g ps)
meets-all g [] = meets-none g
meets-all g (p ∷ ps) = meets_cons g (meet g p) (fold meet (meet g p) ps) p ps (meets-meet g p) (meets-all (meet g p) ps)
