-- Accesses kept: what is known of the next move, and what stays true behind it.
use Rattle.std.proofs.Common.{◌≡◌, ℕ, zero, suc, Bool, true, false, length, List, [], ◌∷◌, map, refl, sym, ap, ◌∙◌, subst}
use Rattle.interleaving.specs.Machine.{Answer, Move, HasReturned, IsStuck, Goes, Stands}
use Rattle.interleaving.specs.Trace.{TraceEnd, Returned, Asks, Runs, Stuck, Trace, Traces, ended, wanted, before, at_rest, in_motion, trace_of}
use Rattle.interleaving.specs.Keeps.{without, Alike, IsOver, KeptBut, Keeps}
use Rattle.interleaving.specs.Simulation.{Comes, ComesTo}
use Rattle.interleaving.proofs.Traces.{trace_goes, trace_answered, trace_wants, trace_returned, trace_at_goes, trace_at_answered, trace_full}
use Rattle.interleaving.proofs.Lists.{Filled, filled, filled_map}

-- the end of what is over is not that more instructions are wanted
pub over_not_runs : (end : TraceEnd) (marks : List Bool) → IsOver end marks → end ≡ Runs → ⊥
over_not_runs Returned marks h e = cc e
over_not_runs Asks marks h e = cc e
over_not_runs Runs marks h e = h
over_not_runs Stuck marks h e = h

-- what is over stays so with an access before it
pub over_with_left_out : (end : TraceEnd) (marks : List Bool) → (end ≡ Asks → Filled marks) → IsOver end marks → IsOver end (true ∷ marks)
over_with_left_out Returned marks f h = tt
over_with_left_out Asks [] f h = absurd (f refl)
over_with_left_out Asks (c ∷ marks) f h = h
over_with_left_out Runs marks f h = h
over_with_left_out Stuck marks f h = h

pub over_with_kept : (end : TraceEnd) (marks : List Bool) → IsOver end marks → IsOver end (false ∷ marks)
over_with_kept Returned marks h = tt
over_with_kept Asks [] h = refl
over_with_kept Asks (c ∷ marks) h = h
over_with_kept Runs marks h = h
over_with_kept Stuck marks h = h

-- and without it
pub over_behind : (end : TraceEnd) (b : Bool) (marks : List Bool) → IsOver end (b ∷ marks) → IsOver end marks
over_behind Returned b marks h = tt
over_behind Asks b [] h = tt
over_behind Asks b (c ∷ marks) h = h
over_behind Runs b marks h = h
over_behind Stuck b marks h = h

-- no private step is next
abbrev pub IsCalm : {S A : Type 0} → Move S A → Type 0
IsCalm HasReturned = Unit {0}
IsCalm IsStuck = Unit {0}
IsCalm (Goes s) = ⊥
IsCalm (Stands a k) = Unit {0}

-- private steps from such a state lead nowhere else
pub comes_calm : {U A : Type 0} (look : U → Move U A) (n : ℕ) (u v : U) → Comes look n u v → IsCalm (look u) → u ≡ v
comes_calm look zero u v h calm = h
comes_calm look (suc n) u v h calm = absurd (subst IsCalm h.1 calm)

-- a state stands before an access like a
pub record StandsBefore {U A : Type 0} (look : U → Move U A) (Same : A → A → Type 0) (a : A) (u : U) : Type 0 where
  pub access : A
  pub next : Answer → U
  pub stands : look u ≡ Stands access next
  pub same : Same a access

module _ {A : Type 0} (left : A → Bool) (Same : A → A → Type 0) where
  -- a private step of this one
  pub keeps_goes : {S : Type 0} (look : S → Move S A) (s v : S) (other : Traces A) → look s ≡ Goes v → Keeps left Same (trace_of look s) other → Keeps left Same (trace_of look v) other
  keeps_goes look s v other e h n xs = subst (λ t. KeptBut Same (map left t.accesses) t xs other) (trace_goes look s v n xs e) (h (suc n) xs)

  -- an access of this one that is left out
  pub keeps_left_out : {S : Type 0} (look : S → Move S A) (s : S) (a : A) (k : Answer → S) (other : Traces A) → look s ≡ Stands a k → left a ≡ true → Keeps left Same (trace_of look s) other → (x : Answer) → Keeps left Same (trace_of look (k x)) other
  keeps_left_out look s a k other e out h x n xs over =
      let t : Trace A = trace_of look (k x) n xs in
      let marks : List Bool = map left t.accesses in
      let g : KeptBut Same (left a ∷ marks) (before a t) (x ∷ xs) other = subst (λ z. KeptBut Same (map left z.accesses) z (x ∷ xs) other) (trace_answered look s a k n x xs e) (h (suc n) (x ∷ xs)) in
      let f : KeptBut Same (true ∷ marks) (before a t) (x ∷ xs) other = subst (λ b. KeptBut Same (b ∷ marks) (before a t) (x ∷ xs) other) out g in
      f (over_with_left_out t.end marks (λ q. filled_map left t.accesses (filled t.accesses (length xs) (trace_full look n (k x) xs q))) over)

  -- a private step of the other one: it made it
  goes_other : {U : Type 0} (look : U → Move U A) (u w : U) (l : List A) (ys : List Answer) (end : TraceEnd) → look u ≡ Goes w → (end ≡ Runs → ⊥) → (n : ℕ) → Alike Same l (trace_of look u n ys).accesses → (trace_of look u n ys).end ≡ end
      → (m : ℕ) × Alike Same l (trace_of look w m ys).accesses × ((trace_of look w m ys).end ≡ end)
  goes_other look u w l ys end e not zero h g = absurd (not (sym g ∙ ap (λ t. t.end) (trace_at_goes look u w ys e)))
  goes_other look u w l ys end e not (suc n) h g =
      (n, subst (λ t. Alike Same l t.accesses) (trace_goes look u w n ys e) h, ap (λ t. t.end) (sym (trace_goes look u w n ys e)) ∙ g)

  pub keeps_other_goes : {U : Type 0} (look : U → Move U A) (u w : U) (this : Traces A) → look u ≡ Goes w → Keeps left Same this (trace_of look u) → Keeps left Same this (trace_of look w)
  keeps_other_goes look u w this e h n xs over =
      let t : Trace A = this n xs in
      let marks : List Bool = map left t.accesses in
      let r = h n xs over in
      goes_other look u w (without marks t.accesses) (without marks xs) t.end e (over_not_runs t.end marks over) r.0 r.1 r.2

  -- an access of both
  answered_other : {U : Type 0} (look : U → Move U A) (u : U) (a b : A) (k : Answer → U) (x : Answer) (l : List A) (ys : List Answer) (end : TraceEnd) → look u ≡ Stands b k → (end ≡ Runs → ⊥) → (n : ℕ) → Alike Same (a ∷ l) (trace_of look u n (x ∷ ys)).accesses → (trace_of look u n (x ∷ ys)).end ≡ end
      → (m : ℕ) × Alike Same l (trace_of look (k x) m ys).accesses × ((trace_of look (k x) m ys).end ≡ end)
  answered_other look u a b k x l ys end e not zero h g = absurd (not (sym g ∙ ap (λ t. t.end) (trace_at_answered look u b k x ys e)))
  answered_other look u a b k x l ys end e not (suc n) h g =
      let f : Alike Same (a ∷ l) (b ∷ (trace_of look (k x) n ys).accesses) = subst (λ t. Alike Same (a ∷ l) t.accesses) (trace_answered look u b k n x ys e) h in
      (n, f.1, ap (λ t. t.end) (sym (trace_answered look u b k n x ys e)) ∙ g)

  pub keeps_both : {S U : Type 0} (look : S → Move S A) (look2 : U → Move U A) (s : S) (u : U) (a b : A) (k : Answer → S) (k2 : Answer → U) → look s ≡ Stands a k → left a ≡ false → look2 u ≡ Stands b k2
      → Keeps left Same (trace_of look s) (trace_of look2 u) → (x : Answer) → Keeps left Same (trace_of look (k x)) (trace_of look2 (k2 x))
  keeps_both look look2 s u a b k k2 e in_it e2 h x n xs over =
      let t : Trace A = trace_of look (k x) n xs in
      let marks : List Bool = map left t.accesses in
      let g : KeptBut Same (left a ∷ marks) (before a t) (x ∷ xs) (trace_of look2 u) = subst (λ z. KeptBut Same (map left z.accesses) z (x ∷ xs) (trace_of look2 u)) (trace_answered look s a k n x xs e) (h (suc n) (x ∷ xs)) in
      let f : KeptBut Same (false ∷ marks) (before a t) (x ∷ xs) (trace_of look2 u) = subst (λ z. KeptBut Same (z ∷ marks) (before a t) (x ∷ xs) (trace_of look2 u)) in_it g in
      let r = f (over_with_kept t.end marks over) in
      answered_other look2 u a b k2 x (without marks t.accesses) (without marks xs) t.end e2 (over_not_runs t.end marks over) r.0 r.1 r.2

  -- what the other one does next, by itself: by induction on its instructions
  access_at_rest : {U : Type 0} (look : U → Move U A) (a : A) (u : U) (m : Move U A) → look u ≡ m → Alike Same (a ∷ []) (at_rest m []).accesses → ComesTo look (StandsBefore look Same a) u
  access_at_rest look a u HasReturned e h = absurd h
  access_at_rest look a u IsStuck e h = absurd h
  access_at_rest look a u (Goes v) e h = absurd h
  access_at_rest look a u (Stands b k) e h = record { count = zero; state = u; by = refl; there = record { access = b; next = k; stands = e; same = h.0 } }

  access_in_motion : {U : Type 0} (look : U → Move U A) (a : A) (n : ℕ) (u : U) (m : Move U A) → look u ≡ m → ((v : U) → Alike Same (a ∷ []) (trace_of look v n []).accesses → ComesTo look (StandsBefore look Same a) v)
      → Alike Same (a ∷ []) (in_motion (λ w ys. trace_of look w n ys) m []).accesses → ComesTo look (StandsBefore look Same a) u
  access_in_motion look a n u HasReturned e ih h = absurd h
  access_in_motion look a n u IsStuck e ih h = absurd h
  access_in_motion look a n u (Goes v) e ih h = let r = ih v h in record { count = suc r.count; state = r.state; by = (v, e, r.by); there = r.there }
  access_in_motion look a n u (Stands b k) e ih h = record { count = zero; state = u; by = refl; there = record { access = b; next = k; stands = e; same = h.0 } }

  access_next : {U : Type 0} (look : U → Move U A) (a : A) (n : ℕ) (u : U) → Alike Same (a ∷ []) (trace_of look u n []).accesses → ComesTo look (StandsBefore look Same a) u
  access_next look a zero u h = access_at_rest look a u (look u) refl h
  access_next look a (suc n) u h = access_in_motion look a n u (look u) refl (λ v g. access_next look a n v g) h

  return_at_rest : {U : Type 0} (look : U → Move U A) (u : U) (m : Move U A) → look u ≡ m → (at_rest m []).end ≡ Returned → ComesTo look (λ v. look v ≡ HasReturned) u
  return_at_rest look u HasReturned e h = record { count = zero; state = u; by = refl; there = e }
  return_at_rest look u IsStuck e h = absurd (cc h)
  return_at_rest look u (Goes v) e h = absurd (cc h)
  return_at_rest look u (Stands b k) e h = absurd (cc h)

  return_in_motion : {U : Type 0} (look : U → Move U A) (n : ℕ) (u : U) (m : Move U A) → look u ≡ m → ((v : U) → (trace_of look v n []).end ≡ Returned → ComesTo look (λ w. look w ≡ HasReturned) v)
      → (in_motion (λ w ys. trace_of look w n ys) m []).end ≡ Returned → ComesTo look (λ v. look v ≡ HasReturned) u
  return_in_motion look n u HasReturned e ih h = record { count = zero; state = u; by = refl; there = e }
  return_in_motion look n u IsStuck e ih h = absurd (cc h)
  return_in_motion look n u (Goes v) e ih h = let r = ih v h in record { count = suc r.count; state = r.state; by = (v, e, r.by); there = r.there }
  return_in_motion look n u (Stands b k) e ih h = absurd (cc h)

  return_next : {U : Type 0} (look : U → Move U A) (n : ℕ) (u : U) → (trace_of look u n []).end ≡ Returned → ComesTo look (λ v. look v ≡ HasReturned) u
  return_next look zero u h = return_at_rest look u (look u) refl h
  return_next look (suc n) u h = return_in_motion look n u (look u) refl (λ v g. return_next look n v g) h

  -- where this one stands before an access that is kept, private steps lead the other one before one like it
  pub keeps_access : {S U : Type 0} (look : S → Move S A) (look2 : U → Move U A) (s : S) (u : U) (a : A) (k : Answer → S) → look s ≡ Stands a k → left a ≡ false
      → Keeps left Same (trace_of look s) (trace_of look2 u) → ComesTo look2 (StandsBefore look2 Same a) u
  keeps_access look look2 s u a k e in_it h =
      let g : KeptBut Same (left a ∷ []) (wanted a) [] (trace_of look2 u) = subst (λ z. KeptBut Same (map left z.accesses) z [] (trace_of look2 u)) (trace_wants look s a k zero e) (h zero []) in
      let f : KeptBut Same (false ∷ []) (wanted a) [] (trace_of look2 u) = subst (λ z. KeptBut Same (z ∷ []) (wanted a) [] (trace_of look2 u)) in_it g in
      let r = f refl in
      access_next look2 a r.0 u r.1

  -- where this one has returned, private steps lead the other one to its return
  pub keeps_return : {S U : Type 0} (look : S → Move S A) (look2 : U → Move U A) (s : S) (u : U) → look s ≡ HasReturned
      → Keeps left Same (trace_of look s) (trace_of look2 u) → ComesTo look2 (λ v. look2 v ≡ HasReturned) u
  keeps_return look look2 s u e h =
      let g : KeptBut Same [] (ended Returned) [] (trace_of look2 u) = subst (λ z. KeptBut Same (map left z.accesses) z [] (trace_of look2 u)) (trace_returned look s zero [] e) (h zero []) in
      let r = g tt in
      return_next look2 r.0 u r.2
