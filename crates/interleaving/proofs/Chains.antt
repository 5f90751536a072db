-- Accesses kept through two changes, and how one change begins a chain.
use Rattle.std.proofs.Common.{◌≡◌, ℕ, Bool, true, false, ◌||◌, ◌⊎◌, inl, inr, List, ◌++◌, refl, sym, ap, ◌∙◌, subst}
use Rattle.interleaving.specs.Machine.{Answer}
use Rattle.interleaving.specs.Trace.{TraceEnd, Returned, Asks, Runs, Stuck, Traces}
use Rattle.interleaving.specs.Keeps.{without, Alike, IsOver}
use Rattle.interleaving.specs.Loses.{marks_of, LastIs, WantsOf, Loses, AreTraces}
use Rattle.interleaving.proofs.Lists.{alike_without, alike_compose, last_back, last_stays, joined, without_joined, length_marks, last_mark, mark_last, same_marks, without_begins, either, marks_joined}

-- it is known what comes after these answers
abbrev IsKnown : TraceEnd → Bool → Type 0
IsKnown Returned lost = Unit {0}
IsKnown Asks lost = lost ≡ false
IsKnown Runs lost = ⊥
IsKnown Stuck lost = ⊥

known_over : (end : TraceEnd) (f : List Answer → Bool) (xs : List Answer) → IsKnown end (f xs) → IsOver end (marks_of f xs)
known_over Returned f xs h = tt
known_over Asks f xs h = mark_last f xs h
known_over Runs f xs h = h
known_over Stuck f xs h = h

over_known : (end : TraceEnd) (f : List Answer → Bool) (xs : List Answer) → IsOver end (marks_of f xs) → IsKnown end (f xs)
over_known Returned f xs h = tt
over_known Asks f xs h = last_mark f xs h
over_known Runs f xs h = h
over_known Stuck f xs h = h

module _ {A : Type 0} (Kind1 Kind2 : A → Type 0) (Same12 Same23 Same13 : A → A → Type 0) (t1 t2 t3 : Traces A) (first : AreTraces t1) (second : AreTraces t2)
    (through : (x y z : A) → Same12 x y → Same23 y z → Same13 x z) (back : (x y : A) → Same12 x y → Kind2 y → Kind1 x)
    (l12 : Loses Kind1 Same12 t1 t2) (l23 : Loses Kind2 Same23 t2 t3) where
  -- what the second is given of these answers
  abbrev given : ℕ → List Answer → List Answer
  given n xs = without (marks_of (l12.lost n) xs) xs

  -- the trace of the second beside one of the first of which it is known what comes
  abbrev Beside : ℕ → List Answer → Type 0
  Beside n xs =
      (m : ℕ)
      × Alike Same12 (without (marks_of (l12.lost n) xs) (t1 n xs).accesses) (t2 m (given n xs)).accesses
      × ((t2 m (given n xs)).end ≡ (t1 n xs).end)

  beside : (n : ℕ) (xs : List Answer) → IsKnown (t1 n xs).end (l12.lost n xs) → Beside n xs
  beside n xs h = l12.kept n xs (known_over (t1 n xs).end (l12.lost n) xs h)

  -- left out by the first change; or kept by it, and left out by the second
  abbrev lost_by : (n : ℕ) (xs : List Answer) (end : TraceEnd) (b : Bool) → (IsKnown end b → Beside n xs) → Bool
  lost_by n xs Returned b h = false
  lost_by n xs Asks true h = true
  lost_by n xs Asks false h = l23.lost (h refl).0 (given n xs)
  lost_by n xs Runs b h = false
  lost_by n xs Stuck b h = false

  abbrev lost : ℕ → List Answer → Bool
  lost n xs = lost_by n xs (t1 n xs).end (l12.lost n xs) (beside n xs)

  -- which of these it is
  data View (n : ℕ) (xs : List Answer) (z : Bool) : Type 0 where
    by_first : (t1 n xs).end ≡ Asks → l12.lost n xs ≡ true → z ≡ true → View n xs z
    by_second : (t1 n xs).end ≡ Asks → l12.lost n xs ≡ false → (r : Beside n xs) → z ≡ l23.lost r.0 (given n xs) → View n xs z
    not_asked : ((t1 n xs).end ≡ Asks → ⊥) → z ≡ false → View n xs z

  view_by : (n : ℕ) (xs : List Answer) (end : TraceEnd) (b : Bool) → (t1 n xs).end ≡ end → l12.lost n xs ≡ b → (h : IsKnown end b → Beside n xs) → View n xs (lost_by n xs end b h)
  view_by n xs Returned b e g h = not_asked (λ a. cc (a, e)) refl
  view_by n xs Asks true e g h = by_first e g refl
  view_by n xs Asks false e g h = by_second e g (h refl) refl
  view_by n xs Runs b e g h = not_asked (λ a. cc (a, e)) refl
  view_by n xs Stuck b e g h = not_asked (λ a. cc (a, e)) refl

  view : (n : ℕ) (xs : List Answer) → View n xs (lost n xs)
  view n xs = view_by n xs (t1 n xs).end (l12.lost n xs) refl refl (beside n xs)

  -- only what is wanted is left out, and only what is of the kind
  wanted_by_second : (n : ℕ) (xs : List Answer) → (t1 n xs).end ≡ Asks → l12.lost n xs ≡ false → (r : Beside n xs) → l23.lost r.0 (given n xs) ≡ true → LastIs Kind1 (t1 n xs).accesses
  wanted_by_second n xs asks kept r out =
      last_stays Kind1 (marks_of (l12.lost n) xs) (t1 n xs).accesses (first.full n xs asks ∙ sym (length_marks (l12.lost n) xs)) (mark_last (l12.lost n) xs kept)
      (last_back Same12 Kind1 Kind2 back (without (marks_of (l12.lost n) xs) (t1 n xs).accesses) (t2 r.0 (given n xs)).accesses r.1 (l23.wanted r.0 (given n xs) out).kind)

  wanted_of : (n : ℕ) (xs : List Answer) (z : Bool) → View n xs z → z ≡ true → WantsOf Kind1 t1 n xs
  wanted_of n xs z (by_first asks out g) h = l12.wanted n xs out
  wanted_of n xs z (by_second asks kept r g) h = record { asks = asks; kind = wanted_by_second n xs asks kept r (sym g ∙ h) }
  wanted_of n xs z (not_asked never g) h = absurd (cc (g, h))

  -- where an answer is wanted, it was so before each of the answers
  asks_before : (n : ℕ) (xs ys zs : List Answer) → xs ≡ ys ++ zs → (t1 n xs).end ≡ Asks → (t1 n ys).end ≡ Asks
  asks_before n xs ys zs e asks =
      elim (first.grows n ys zs) [ inl h ↦ h | inr h ↦ ap (λ t. t.end) (sym h) ∙ ap (λ l. (t1 n l).end) (sym e) ∙ asks ]

  -- so the number of instructions does not matter
  same_given : (n m : ℕ) (xs : List Answer) → (t1 n xs).end ≡ Asks → (t1 m xs).end ≡ Asks → marks_of (l12.lost n) xs ≡ marks_of (l12.lost m) xs
  same_given n m xs h g = same_marks (l12.lost n) (l12.lost m) xs (λ ys zs e. l12.fixed n m ys (asks_before n xs ys zs e h) (asks_before m xs ys zs e g))

  fixed_second : (n m : ℕ) (xs ys zs : List Answer) → ys ≡ zs → (t2 n ys).end ≡ Asks → (t2 m zs).end ≡ Asks → l23.lost n ys ≡ l23.lost m zs
  fixed_second n m xs ys zs e h g =
      l23.fixed n m ys h (ap (λ l. (t2 m l).end) e ∙ g) ∙ ap (l23.lost m) e

  fixed_of : (n m : ℕ) (xs : List Answer) (y z : Bool) → (t1 n xs).end ≡ Asks → (t1 m xs).end ≡ Asks → View n xs y → View m xs z → y ≡ z
  fixed_of n m xs y z h g (by_first a b c) (by_first d e f) = c ∙ sym f
  fixed_of n m xs y z h g (by_first a b c) (by_second d e r f) = let same = l12.fixed n m xs h g in absurd (cc (same, b, e))
  fixed_of n m xs y z h g (by_first a b c) (not_asked d f) = absurd (d g)
  fixed_of n m xs y z h g (by_second a b q c) (by_first d e f) = let same = l12.fixed n m xs h g in absurd (cc (same, b, e))
  fixed_of n m xs y z h g (by_second a b q c) (by_second d e r f) =
      c ∙ fixed_second q.0 r.0 xs (given n xs) (given m xs) (ap (λ bs. without bs xs) (same_given n m xs h g)) (q.2 ∙ h) (r.2 ∙ g) ∙ sym f
  fixed_of n m xs y z h g (by_second a b q c) (not_asked d f) = absurd (d g)
  fixed_of n m xs y z h g (not_asked a c) w = absurd (a h)

  -- the marks of both changes, where it is known what comes: at each place the view says what either says
  abbrev IsDone : ℕ → List Answer → Type 0
  IsDone n xs = ((t1 n xs).end ≡ Returned) ⊎ ((t1 n xs).end ≡ Asks)

  done_not_runs : (n : ℕ) (xs : List Answer) → IsDone n xs → (t1 n xs).end ≡ Runs → ⊥
  done_not_runs n xs (inl h) g = cc (h, g)
  done_not_runs n xs (inr h) g = cc (h, g)

  done_returned : (n : ℕ) (xs : List Answer) → IsDone n xs → ((t1 n xs).end ≡ Asks → ⊥) → (t1 n xs).end ≡ Returned
  done_returned n xs (inl h) never = h
  done_returned n xs (inr h) never = absurd (never h)

  -- the second wants an answer where the first does, also within the instructions that serve the whole list
  second_asks : (n m k : ℕ) (xs ys zs : List Answer) → xs ≡ ys ++ zs → IsDone n xs → (t2 m (given n xs)).end ≡ (t1 n xs).end → (t2 k (given n ys)).end ≡ Asks → (t2 m (given n ys)).end ≡ Asks
  second_asks n m k xs ys zs e done h g =
      let more = without_begins (l12.lost n) ys zs in
      let all : given n xs ≡ given n ys ++ more.0 = ap (given n) e ∙ more.1 in
      elim (second.grows m (given n ys) more.0) [
        | inl a ↦ a
        | inr a ↦
            let same_end : (t2 m (given n ys)).end ≡ (t1 n xs).end = ap (λ t. t.end) (sym a) ∙ ap (λ l. (t2 m l).end) (sym all) ∙ h in
            ap (λ t. t.end) (sym (second.same k m (given n ys) (λ r. cc (g, r)) (λ r. done_not_runs n xs done (sym same_end ∙ r)))) ∙ g
      ]

  -- where the first has returned, the second leaves nothing out
  first_returned : (n : ℕ) (xs ys zs : List Answer) → xs ≡ ys ++ zs → IsDone n xs → ((t1 n ys).end ≡ Asks → ⊥) → (t1 n ys).end ≡ Returned
  first_returned n xs ys zs e done never =
      elim (first.grows n ys zs) [
        | inl a ↦ absurd (never a)
        | inr a ↦
            let same_end : (t1 n ys).end ≡ (t1 n xs).end = ap (λ t. t.end) (sym a) ∙ ap (λ l. (t1 n l).end) (sym e) in
            same_end ∙ done_returned n xs done (λ r. never (same_end ∙ r))
      ]

  second_silent : (n m : ℕ) (ys : List Answer) → (t1 n ys).end ≡ Returned → (b : Bool) → l23.lost m (given n ys) ≡ b → b ≡ false
  second_silent n m ys h false g = refl
  second_silent n m ys h true g =
      let r = beside n ys (subst (λ z. IsKnown z (l12.lost n ys)) (sym h) tt) in
      let asks : (t2 m (given n ys)).end ≡ Asks = (l23.wanted m (given n ys) g).asks in
      let returned : (t2 r.0 (given n ys)).end ≡ Returned = r.2 ∙ h in
      let same : t2 m (given n ys) ≡ t2 r.0 (given n ys) = second.same m r.0 (given n ys) (λ q. cc (asks, q)) (λ q. cc (returned, q)) in
      absurd (cc (ap (λ t. t.end) same, asks, returned))

  first_silent : (n : ℕ) (ys : List Answer) → ((t1 n ys).end ≡ Asks → ⊥) → (b : Bool) → l12.lost n ys ≡ b → b ≡ false
  first_silent n ys never false g = refl
  first_silent n ys never true g = absurd (never (l12.wanted n ys g).asks)

  or_true : (a b z : Bool) → a ≡ true → z ≡ true → z ≡ (a || b)
  or_true a b z h g = g ∙ ap (λ c. c || b) (sym h)

  or_second : (a b z : Bool) → a ≡ false → z ≡ b → z ≡ (a || b)
  or_second a b z h g = g ∙ ap (λ c. c || b) (sym h)

  agree : (n m : ℕ) (xs ys zs : List Answer) (z : Bool) → xs ≡ ys ++ zs → IsDone n xs → (t2 m (given n xs)).end ≡ (t1 n xs).end → View n ys z → z ≡ either (l12.lost n) (l23.lost m) ys
  agree n m xs ys zs z e done h (by_first a b c) = or_true (l12.lost n ys) (l23.lost m (given n ys)) z b c
  agree n m xs ys zs z e done h (by_second a b r c) =
      let asks : (t2 r.0 (given n ys)).end ≡ Asks = r.2 ∙ a in
      or_second (l12.lost n ys) (l23.lost m (given n ys)) z b (c ∙ l23.fixed r.0 m (given n ys) asks (second_asks n m r.0 xs ys zs e done h asks))
  agree n m xs ys zs z e done h (not_asked never c) =
      let returned : (t1 n ys).end ≡ Returned = first_returned n xs ys zs e done never in
      or_second (l12.lost n ys) (l23.lost m (given n ys)) z (first_silent n ys never (l12.lost n ys) refl) (c ∙ sym (second_silent n m ys returned (l23.lost m (given n ys)) refl))

  both_marks : (n m : ℕ) (xs : List Answer) → IsDone n xs → l12.lost n xs ≡ false → (t2 m (given n xs)).end ≡ (t1 n xs).end → marks_of (lost n) xs ≡ joined (marks_of (l12.lost n) xs) (marks_of (l23.lost m) (given n xs))
  both_marks n m xs done kept h =
      same_marks (lost n) (either (l12.lost n) (l23.lost m)) xs (λ ys zs e. agree n m xs ys zs (lost n ys) e done h (view n ys))
      ∙ marks_joined (l12.lost n) (l23.lost m) xs kept

  -- what is kept by both is kept
  abbrev Kept : ℕ → List Answer → List Bool → Type 0
  Kept n xs marks =
      (k : ℕ)
      × Alike Same13 (without marks (t1 n xs).accesses) (t3 k (without marks xs)).accesses
      × ((t3 k (without marks xs)).end ≡ (t1 n xs).end)

  kept_joined : (n : ℕ) (xs : List Answer) (r : Beside n xs) → IsOver (t2 r.0 (given n xs)).end (marks_of (l23.lost r.0) (given n xs)) → Kept n xs (joined (marks_of (l12.lost n) xs) (marks_of (l23.lost r.0) (given n xs)))
  kept_joined n xs r over =
      let ps : List Bool = marks_of (l12.lost n) xs in
      let qs : List Bool = marks_of (l23.lost r.0) (given n xs) in
      let k = l23.kept r.0 (given n xs) over in
      let answers : without (joined ps qs) xs ≡ without qs (given n xs) = without_joined ps qs xs in
      let alike : Alike Same13 (without qs (without ps (t1 n xs).accesses)) (t3 k.0 (without qs (given n xs))).accesses
      = alike_compose Same12 Same23 Same13 through (without qs (without ps (t1 n xs).accesses)) (without qs (t2 r.0 (given n xs)).accesses) (t3 k.0 (without qs (given n xs))).accesses
      (alike_without Same12 qs (without ps (t1 n xs).accesses) (t2 r.0 (given n xs)).accesses r.1) k.1 in (
        k.0,
        subst (λ l. Alike Same13 l (t3 k.0 (without (joined ps qs) xs)).accesses) (sym (without_joined ps qs (t1 n xs).accesses))
            (subst (λ l. Alike Same13 (without qs (without ps (t1 n xs).accesses)) (t3 k.0 l).accesses) (sym answers) alike),
        ap (λ l. (t3 k.0 l).end) answers ∙ k.2 ∙ r.2,
      )

  kept_with : (n : ℕ) (xs : List Answer) (r : Beside n xs) → IsDone n xs → l12.lost n xs ≡ false → IsOver (t2 r.0 (given n xs)).end (marks_of (l23.lost r.0) (given n xs)) → Kept n xs (marks_of (lost n) xs)
  kept_with n xs r done kept over = subst (Kept n xs) (sym (both_marks n r.0 xs done kept r.2)) (kept_joined n xs r over)

  second_over : (end end2 : TraceEnd) (f : List Answer → Bool) (ys : List Answer) → end2 ≡ end → IsKnown end (f ys) → IsOver end2 (marks_of f ys)
  second_over end end2 f ys e h = subst (λ z. IsOver z (marks_of f ys)) (sym e) (known_over end f ys h)

  kept_of : (n : ℕ) (xs : List Answer) (end : TraceEnd) (z : Bool) → (t1 n xs).end ≡ end → IsKnown end z → View n xs z → Kept n xs (marks_of (lost n) xs)
  kept_of n xs Returned z e h v =
      let silent : l12.lost n xs ≡ false = first_silent n xs (λ a. cc (a, e)) (l12.lost n xs) refl in
      let r = beside n xs (subst (λ y. IsKnown y (l12.lost n xs)) (sym e) tt) in
      kept_with n xs r (inl e) silent (second_over Returned (t2 r.0 (given n xs)).end (l23.lost r.0) (given n xs) (r.2 ∙ e) tt)
  kept_of n xs Asks z e h (by_first a b c) = absurd (cc (h, c))
  kept_of n xs Asks z e h (by_second a b r c) = kept_with n xs r (inr e) b (second_over Asks (t2 r.0 (given n xs)).end (l23.lost r.0) (given n xs) (r.2 ∙ e) (sym c ∙ h))
  kept_of n xs Asks z e h (not_asked never c) = absurd (never e)
  kept_of n xs Runs z e h v = absurd h
  kept_of n xs Stuck z e h v = absurd h

  pub compose : Loses Kind1 Same13 t1 t3
  compose = record {
    lost = lost;
    wanted = λ n xs h. wanted_of n xs (lost n xs) (view n xs) h;
    fixed = λ n m xs h g. fixed_of n m xs (lost n xs) (lost m xs) h g (view n xs) (view m xs);
    kept = λ n xs over. kept_of n xs (t1 n xs).end (lost n xs) refl (over_known (t1 n xs).end (lost n) xs over) (view n xs);
  }
