-- How accesses are shown to be kept: from the end of a trace to its start, one move at a time.
use Rattle.std.proofs.Common.{◌≡◌, ℕ, zero, suc, Bool, true, false, List, [], ◌∷◌, map, refl, sym, ap, ◌∙◌, subst}
use Rattle.interleaving.specs.Machine.{Answer, Move, HasReturned, IsStuck, Goes, Stands}
use Rattle.interleaving.specs.Trace.{Returned, Runs, Trace, Traces, ended, wanted, before, at_rest, in_motion, trace_of}
use Rattle.interleaving.specs.Keeps.{without, Alike, KeptBut, Keeps}
use Rattle.interleaving.specs.Simulation.{Comes, Simulation, Shows}
use Rattle.interleaving.proofs.Traces.{trace_goes, trace_answered, trace_wants, trace_returned}
use Rattle.interleaving.proofs.Keeping.{over_not_runs, over_behind}

-- a state shows what it comes to by private steps
pub comes_shows : {U A : Type 0} (look : U → Move U A) (n : ℕ) (u v : U) → Comes look n u v → Shows (trace_of look u) (trace_of look v)
comes_shows look zero u v h n xs over = (n, ap (λ z. trace_of look z n xs) h)
comes_shows look (suc k) u v h n xs over =
    let r = comes_shows look k h.0 v h.2 n xs over in
    (suc r.0, trace_goes look u h.0 r.0 xs h.1 ∙ r.1)

module _ {A : Type 0} (Same : A → A → Type 0) where
  -- what is kept by the next is kept by what shows the next
  pub kept_shown : (marks : List Bool) (t : Trace A) (xs : List Answer) (other next : Traces A) → Shows other next → KeptBut Same marks t xs next → KeptBut Same marks t xs other
  kept_shown marks t xs other next shows h over =
      let r = h over in
      let f = shows r.0 (without marks xs) (λ e. over_not_runs t.end marks over (sym r.2 ∙ e)) in
      (f.0, subst (λ z. Alike Same (without marks t.accesses) z.accesses) (sym f.1) r.1, ap (λ z. z.end) f.1 ∙ r.2)

  -- a return of both
  pub kept_return : (xs : List Answer) (other : Traces A) (n : ℕ) → other n xs ≡ ended Returned → KeptBut Same [] (ended Returned) xs other
  kept_return xs other n e over = (n, subst (λ z. Alike Same [] z.accesses) (sym e) tt, ap (λ z. z.end) e)

  -- an access that is wanted of both
  pub kept_wanted : (mark : Bool) (a b : A) (other : Traces A) (n : ℕ) → Same a b → other n [] ≡ wanted b → KeptBut Same (mark ∷ []) (wanted a) [] other
  kept_wanted true a b other n same e over = absurd (cc over)
  kept_wanted false a b other n same e over = (n, subst (λ z. Alike Same (a ∷ []) z.accesses) (sym e) (same, tt), ap (λ z. z.end) e)

  -- an access that is left out
  pub kept_left_out : (mark : Bool) (marks : List Bool) (t : Trace A) (a : A) (x : Answer) (xs : List Answer) (other : Traces A) → mark ≡ true → KeptBut Same marks t xs other → KeptBut Same (mark ∷ marks) (before a t) (x ∷ xs) other
  kept_left_out true marks t a x xs other e h over = h (over_behind t.end true marks over)
  kept_left_out false marks t a x xs other e h over = absurd (cc e)

  -- an access of both
  pub kept_both : (mark : Bool) (marks : List Bool) (t : Trace A) (a b : A) (x : Answer) (xs : List Answer) (other next : Traces A) → mark ≡ false → Same a b
      → ((n : ℕ) (ys : List Answer) → ((next n ys).end ≡ Runs → ⊥) → (m : ℕ) × (other m (x ∷ ys) ≡ before b (next n ys)))
      → KeptBut Same marks t xs next → KeptBut Same (mark ∷ marks) (before a t) (x ∷ xs) other
  kept_both true marks t a b x xs other next e same shows h over = absurd (cc e)
  kept_both false marks t a b x xs other next e same shows h over =
      let over2 = over_behind t.end false marks over in
      let r = h over2 in
      let f = shows r.0 (without marks xs) (λ q. over_not_runs t.end marks over2 (sym r.2 ∙ q)) in
      (f.0, subst (λ z. Alike Same (a ∷ without marks t.accesses) z.accesses) (sym f.1) (same, r.1), ap (λ z. z.end) f.1 ∙ r.2)

-- accesses are kept between what one side is shown by and what shows the other
pub keeps_between : {A : Type 0} (left : A → Bool) (Same : A → A → Type 0) (this2 this other other2 : Traces A) → Shows this this2 → Keeps left Same this other → Shows other2 other → Keeps left Same this2 other2
keeps_between {A = A} left Same this2 this other other2 first h second n xs over =
    let t : Trace A = this2 n xs in
    let f = first n xs (over_not_runs t.end (map left t.accesses) over) in
    let g : KeptBut Same (map left t.accesses) t xs other = subst (λ z. KeptBut Same (map left z.accesses) z xs other) f.1 (h f.0 xs) in
    kept_shown Same (map left t.accesses) t xs other2 other second g over

module _ {S U A : Type 0} (look : S → Move S A) (look2 : U → Move U A) (left : A → Bool) (Same : A → A → Type 0) (R : S → U → Type 0) (sim : Simulation look look2 left Same R) where
  -- before an access that is not answered
  sim_wanted : (s : S) (u : U) (a : A) (k : Answer → S) → R s u → look s ≡ Stands a k → (b : Bool) → left a ≡ b → KeptBut Same (b ∷ []) (wanted a) [] (trace_of look2 u)
  sim_wanted s u a k r e true q = λ over. absurd (cc over)
  sim_wanted s u a k r e false q =
      let c = sim.kept s u a k r e q in
      kept_shown Same (false ∷ []) (wanted a) [] (trace_of look2 u) (trace_of look2 c.state) (comes_shows look2 c.count u c.state c.by)
      (kept_wanted Same false a c.there.access (trace_of look2 c.state) zero c.there.same (trace_wants look2 c.state c.there.access c.there.next zero c.there.stands))

  sim_returned : (s : S) (u : U) (xs : List Answer) → R s u → look s ≡ HasReturned → KeptBut Same [] (ended Returned) xs (trace_of look2 u)
  sim_returned s u xs r e =
      let c = sim.returned s u r e in
      kept_shown Same [] (ended Returned) xs (trace_of look2 u) (trace_of look2 c.state) (comes_shows look2 c.count u c.state c.by)
      (kept_return Same xs (trace_of look2 c.state) zero (trace_returned look2 c.state zero xs c.there))

  -- what was shown of n instructions, of every state
  abbrev Shown : ℕ → Type 0
  Shown n = (s : S) (u : U) → R s u → (xs : List Answer) → KeptBut Same (map left (trace_of look s n xs).accesses) (trace_of look s n xs) xs (trace_of look2 u)

  sim_answered : (n : ℕ) (s : S) (u : U) (a : A) (k : Answer → S) (x : Answer) (xs : List Answer) → Shown n → R s u → look s ≡ Stands a k → (b : Bool) → left a ≡ b
      → KeptBut Same (b ∷ map left (trace_of look (k x) n xs).accesses) (before a (trace_of look (k x) n xs)) (x ∷ xs) (trace_of look2 u)
  sim_answered n s u a k x xs ih r e true q =
      let c = sim.left_out s u a k r e q x in
      let t : Trace A = trace_of look (k x) n xs in
      kept_left_out Same true (map left t.accesses) t a x xs (trace_of look2 u) refl
      (kept_shown Same (map left t.accesses) t xs (trace_of look2 u) (trace_of look2 c.state) (comes_shows look2 c.count u c.state c.by) (ih (k x) c.state c.there xs))
  sim_answered n s u a k x xs ih r e false q =
      let c = sim.kept s u a k r e q in
      let t : Trace A = trace_of look (k x) n xs in
      kept_shown Same (false ∷ map left t.accesses) (before a t) (x ∷ xs) (trace_of look2 u) (trace_of look2 c.state) (comes_shows look2 c.count u c.state c.by)
      (kept_both Same false (map left t.accesses) t a c.there.access x xs (trace_of look2 c.state) (trace_of look2 (c.there.next x)) refl c.there.same
      (λ m ys over. (suc m, trace_answered look2 c.state c.there.access c.there.next m x ys c.there.stands))
      (ih (k x) (c.there.next x) (c.there.goes_on x) xs))

  sim_at_rest : (s : S) (u : U) → R s u → (xs : List Answer) (m : Move S A) → look s ≡ m → KeptBut Same (map left (at_rest m xs).accesses) (at_rest m xs) xs (trace_of look2 u)
  sim_at_rest s u r xs HasReturned e = sim_returned s u xs r e
  sim_at_rest s u r xs IsStuck e = λ over. absurd over
  sim_at_rest s u r xs (Goes v) e = λ over. absurd over
  sim_at_rest s u r [] (Stands a k) e = sim_wanted s u a k r e (left a) refl
  sim_at_rest s u r (x ∷ xs) (Stands a k) e = λ over. absurd over

  sim_in_motion : (n : ℕ) (s : S) (u : U) → R s u → (xs : List Answer) (m : Move S A) → look s ≡ m → Shown n
      → KeptBut Same (map left (in_motion (λ w ys. trace_of look w n ys) m xs).accesses) (in_motion (λ w ys. trace_of look w n ys) m xs) xs (trace_of look2 u)
  sim_in_motion n s u r xs HasReturned e ih = sim_returned s u xs r e
  sim_in_motion n s u r xs IsStuck e ih = λ over. absurd over
  sim_in_motion n s u r xs (Goes v) e ih =
      let c = sim.goes s v u r e in
      let t : Trace A = trace_of look v n xs in
      kept_shown Same (map left t.accesses) t xs (trace_of look2 u) (trace_of look2 c.state) (comes_shows look2 c.count u c.state c.by) (ih v c.state c.there xs)
  sim_in_motion n s u r [] (Stands a k) e ih = sim_wanted s u a k r e (left a) refl
  sim_in_motion n s u r (x ∷ xs) (Stands a k) e ih = sim_answered n s u a k x xs ih r e (left a) refl

  -- by induction on the number of instructions
  pub shown : (n : ℕ) → Shown n
  shown zero s u r xs = sim_at_rest s u r xs (look s) refl
  shown (suc n) s u r xs = sim_in_motion n s u r xs (look s) refl (shown n)

  pub simulation_keeps : (s : S) (u : U) → R s u → Keeps left Same (trace_of look s) (trace_of look2 u)
  simulation_keeps s u r n xs = shown n s u r xs
