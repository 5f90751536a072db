-- Walks: some steps of a machine under some answers, which make accesses and lead from one state to another.
use Rattle.std.proofs.Common.{◌≡◌, ℕ, zero, suc, ◌+◌, ◌-◌, ◌<◌, ◌≤◌, ◌⊎◌, inl, inr, List, [], ◌∷◌, ◌++◌, refl, sym, ap, ◌∙◌, append_assoc, arith}
use Rattle.std.proofs.lemmas.Bool.Decides.{leb_tells}
use Rattle.interleaving.specs.Machine.{Answer, Move, IsStuck, Goes, Stands}
use Rattle.interleaving.specs.Trace.{TraceEnd, Asks, Runs, Stuck, Trace, ended, trace_of, at_rest, in_motion}
use Rattle.interleaving.proofs.Traces.{trace_goes, trace_answered, trace_wants, trace_at_goes, trace_at_answered}
use Rattle.spv_trees.specs.Laws.{prepended}

below_or_not : (a b : ℕ) → (a < b) ⊎ (b ≤ a)
below_or_not a b = elim (leb_tells b a) [ inl h ↦ inr h.1 | inr h ↦ inl (omega (arith, h.1)) ]

module _ {S A : Type 0} (look : S → Move S A) where
  pub record Walk (s : S) (xs : List Answer) (accesses : List A) (v : S) (ys : List Answer) : Type 0 where
    pub count : ℕ
    -- behind them, as many steps as one likes
    pub comes : (j k : ℕ) → j ≡ count + k → trace_of look s j xs ≡ prepended accesses (trace_of look v k ys)
    -- and before
    pub runs : (i : ℕ) → i < count → (trace_of look s i xs).end ≡ Runs

  abbrev pub Halts : S → List Answer → Trace A → Type 0
  Halts s xs t = (j : ℕ) × ((k : ℕ) → j ≤ k → trace_of look s k xs ≡ t)

  -- a private step
  pub walk_goes : (s v : S) (xs : List Answer) → look s ≡ Goes v → Walk s xs [] v xs
  walk_goes s v xs h = record {
    count = 1;
    comes = λ j k e. (let e2 : j ≡ suc k = omega arith in ap (λ z. trace_of look s z xs) e2 ∙ trace_goes look s v k xs h);
    runs = λ i lt. (let e : i ≡ 0 = omega arith in ap (λ z. (trace_of look s z xs).end) e ∙ ap (λ t. t.end) (trace_at_goes look s v xs h));
  }

  pub goes_counts : (s v : S) (xs : List Answer) (h : look s ≡ Goes v) → (walk_goes s v xs h).count ≡ 1
  unfolding walk_goes
  goes_counts s v xs h = refl

  -- an access that is answered
  pub walk_answered : (s : S) (a : A) (k : Answer → S) (x : Answer) (xs : List Answer) → look s ≡ Stands a k → Walk s (x ∷ xs) (a ∷ []) (k x) xs
  walk_answered s a k x xs h = record {
    count = 1;
    comes = λ j n e. (let e2 : j ≡ suc n = omega arith in ap (λ z. trace_of look s z (x ∷ xs)) e2 ∙ trace_answered look s a k n x xs h);
    runs = λ i lt. (let e : i ≡ 0 = omega arith in ap (λ z. (trace_of look s z (x ∷ xs)).end) e ∙ ap (λ t. t.end) (trace_at_answered look s a k x xs h));
  }

  -- behind a walk, what runs does so
  pub runs_behind : (s v : S) (xs ys : List Answer) (t : List A) (w : Walk s xs t v ys) (b b2 : ℕ) → b ≤ w.count + b2
      → ((i : ℕ) → i < b2 → (trace_of look v i ys).end ≡ Runs) → (i : ℕ) → i < b → (trace_of look s i xs).end ≡ Runs
  runs_behind s v xs ys t w b b2 le runs i lt =
      elim (below_or_not i w.count) [
        | inl h ↦ w.runs i h
        | inr h ↦ ap (λ u. u.end) (w.comes i (i - w.count) (omega arith)) ∙ runs (i - w.count) (omega arith)
      ]

  pub walk_join : (s v w : S) (xs ys zs : List Answer) (t u : List A) → Walk s xs t v ys → Walk v ys u w zs → Walk s xs (t ++ u) w zs
  walk_join s v w xs ys zs t u first second = record {
    count = first.count + second.count;
    comes = λ j k e.
        first.comes j (second.count + k) (omega arith)
        ∙ ap (prepended t) (second.comes (second.count + k) k refl)
        ∙ ap (λ l. record { accesses = l; end = (trace_of look w k zs).end }) (sym (append_assoc t u (trace_of look w k zs).accesses));
    runs = runs_behind s v xs ys t first (first.count + second.count) second.count (omega arith) second.runs;
  }

  pub join_counts : (s v w : S) (xs ys zs : List Answer) (t u : List A) (first : Walk s xs t v ys) (second : Walk v ys u w zs) → (walk_join s v w xs ys zs t u first second).count ≡ first.count + second.count
  unfolding walk_join
  join_counts s v w xs ys zs t u first second = refl

  pub halts_behind : (s v : S) (xs ys : List Answer) (t u : List A) (end : TraceEnd) → Walk s xs t v ys
      → Halts v ys (record { accesses = u; end = end }) → Halts s xs (record { accesses = t ++ u; end = end })
  halts_behind s v xs ys t u end w h =
      (w.count + h.0, λ k le. w.comes k (k - w.count) (omega arith) ∙ ap (prepended t) (h.1 (k - w.count) (omega arith)))

  pub halts_asking : (s : S) (a : A) (k : Answer → S) → look s ≡ Stands a k → Halts s [] (record { accesses = a ∷ []; end = Asks })
  halts_asking s a k h = (0, λ n le. trace_wants look s a k n h)

  pub trace_stuck : (s : S) (n : ℕ) (xs : List Answer) → look s ≡ IsStuck → trace_of look s n xs ≡ ended Stuck
  trace_stuck s zero xs e = ap (λ m. at_rest m xs) e
  trace_stuck s (suc n) xs e = ap (λ m. in_motion (λ w ys. trace_of look w n ys) m xs) e

  pub halts_stuck : (s : S) (xs : List Answer) → look s ≡ IsStuck → Halts s xs (record { accesses = []; end = Stuck })
  halts_stuck s xs h = (0, λ n le. trace_stuck s n xs h)
