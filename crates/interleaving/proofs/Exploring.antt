-- Tests that compute: whether every schedule returns within n steps and leaves memories of which P holds, and what one schedule leads to.
use Rattle.std.proofs.Common.{◌≡◌, ℕ, zero, suc, ◌<◌, Bool, true, false, not, ◌&&◌, ◌||◌, ◌⊎◌, inl, inr, List, [], ◌∷◌, Option, Some, None, nat_lt, refl, sym, ap, ◌∙◌, subst, arith}
use Rattle.interleaving.specs.Machine.{Move, HasReturned, IsStuck, Goes, Stands, Program, Effects, World, step, first_world, Run, SomeStep, NoStep, AllReturned, Within, Ends, Finals}
use Rattle.interleaving.proofs.Worlds.{Steps, privately, by_access, step_view, below_or_at, returned_stops, within_step, stopped, lt_true}

abbrev pub all_below : (ℕ → Bool) → ℕ → Bool
all_below f zero = true
all_below f (suc n) = f n && all_below f n

and_left : (b c : Bool) → (b && c) ≡ true → b ≡ true
and_left true c h = refl
and_left false c h = absurd (cc h)

and_right : (b c : Bool) → (b && c) ≡ true → c ≡ true
and_right true c h = h
and_right false c h = absurd (cc h)

or_else : (b c : Bool) → (b || c) ≡ true → (b ≡ true) ⊎ (c ≡ true)
or_else true c h = inl refl
or_else false c h = inr h

all_below_at : (f : ℕ → Bool) (n i : ℕ) → all_below f n ≡ true → i < n → f i ≡ true
all_below_at f zero i h lt = absurd (omega arith)
all_below_at f (suc n) i h lt = below_or_at (λ j. f j ≡ true) n i (λ j lt2. all_below_at f n j (and_right (f n) (all_below f n) h) lt2) (and_left (f n) (all_below f n) h) lt

some_next : (f : ℕ → Bool) (n : ℕ) (b : Bool) → f n ≡ b → (not (f n) && all_below (λ i. not (f i)) n) ≡ false → (all_below (λ i. not (f i)) n ≡ false → (i : ℕ) × (f i ≡ true)) → (i : ℕ) × (f i ≡ true)
some_next f n true g h rest = (n, g)
some_next f n false g h rest = rest (ap (λ b. not b && all_below (λ i. not (f i)) n) (sym g) ∙ h)

-- some number below n at which f is true
some_below : (f : ℕ → Bool) (n : ℕ) → (all_below (λ i. not (f i)) n ≡ false) → (i : ℕ) × (f i ≡ true)
some_below f zero h = absurd (cc h)
some_below f (suc n) h = some_next f n (f n) refl h (λ g. some_below f n g)

abbrev has_returned : {S A : Type 0} → Move S A → Bool
has_returned HasReturned = true
has_returned IsStuck = false
has_returned (Goes s) = false
has_returned (Stands a k) = false

returned_is : {S A : Type 0} (m : Move S A) → has_returned m ≡ true → m ≡ HasReturned
returned_is HasReturned h = refl
returned_is IsStuck h = absurd (cc h)
returned_is (Goes s) h = absurd (cc h)
returned_is (Stands a k) h = absurd (cc h)

abbrev steps_to : {X : Type 0} → (X → Bool) → Option X → Bool
steps_to f None = true
steps_to f (Some x) = f x

abbrev is_step : {X : Type 0} → Option X → Bool
is_step None = false
is_step (Some x) = true

step_is : {X : Type 0} (o : Option X) → is_step o ≡ true → (x : X) × (o ≡ Some x)
step_is None h = absurd (cc h)
step_is (Some x) h = (x, refl)

none_is : {X : Type 0} (o : Option X) → not (is_step o) ≡ true → o ≡ None
none_is None h = refl
none_is (Some x) h = absurd (cc h)

not_true : (b : Bool) → not b ≡ true → b ≡ false
not_true true h = absurd (cc h)
not_true false h = refl

not_both : {S A : Type 0} (b : Bool) (m : Move S A) → b ≡ false → m ≡ HasReturned → (b || not (has_returned m)) ≡ true → ⊥
not_both true m g f h = cc g
not_both false HasReturned g f h = cc h
not_both false IsStuck g f h = cc f
not_both false (Goes s) g f h = cc f
not_both false (Stands a k) g f h = cc f

module _ {S A M : Type 0} (e : Effects A M) (p : Program S A) where
  abbrev pub all_returned : World S M → Bool
  all_returned w = all_below (λ i. not (w.waits i) && has_returned (p.look (w.state i))) e.count

  abbrev pub stops : World S M → Bool
  stops w = all_below (λ i. not (is_step (step e p w i))) e.count

  -- each schedule returns within n steps, and P holds of what it leaves in memory
  abbrev pub explore : (M → Bool) → ℕ → World S M → Bool
  explore P zero w = all_returned w && P w.memory
  explore P (suc n) w = (all_returned w && P w.memory) || (not (stops w) && all_below (λ i. steps_to (explore P n) (step e p w i)) e.count)

  pub all_returned_is : (w : World S M) → all_returned w ≡ true → AllReturned e p w
  all_returned_is w h i lt =
      let r = all_below_at (λ j. not (w.waits j) && has_returned (p.look (w.state j))) e.count i h lt in
      (not_true (w.waits i) (and_left (not (w.waits i)) (has_returned (p.look (w.state i))) r), returned_is (p.look (w.state i)) (and_right (not (w.waits i)) (has_returned (p.look (w.state i))) r))

  below_count : (w u : World S M) (i : ℕ) → Steps e p w i u → i < e.count
  below_count w u i (privately lt free s g h) = lt
  below_count w u i (by_access lt free a k g h) = lt

  stops_by : (w : World S M) (i : ℕ) (o : Option (World S M)) → step e p w i ≡ o → stops w ≡ true → o ≡ None
  stops_by w i None g h = refl
  stops_by w i (Some u) g h =
      let r = all_below_at (λ j. not (is_step (step e p w j))) e.count i h (below_count w u i (step_view e p w i u g)) in
      absurd (cc (g, none_is (step e p w i) r))

  pub stops_is : (w : World S M) → stops w ≡ true → NoStep e p w
  stops_is w h i = stops_by w i (step e p w i) refl h

  goes_on_is : (w : World S M) → not (stops w) ≡ true → SomeStep e p w
  goes_on_is w h =
      let r = some_below (λ i. is_step (step e p w i)) e.count (not_true (stops w) h) in
      let s = step_is (step e p w r.0) r.1 in
      (r.0, s.0, s.1)

  explored_step : (P : M → Bool) (n : ℕ) (w u : World S M) (i : ℕ) → all_below (λ j. steps_to (explore P n) (step e p w j)) e.count ≡ true → step e p w i ≡ Some u → explore P n u ≡ true
  explored_step P n w u i h g =
      ap (steps_to (explore P n)) (sym g) ∙ all_below_at (λ j. steps_to (explore P n) (step e p w j)) e.count i h (below_count w u i (step_view e p w i u g))

  pub explore_within : (P : M → Bool) (n : ℕ) (w : World S M) → explore P n w ≡ true → Within e p n w
  explore_within P zero w h = all_returned_is w (and_left (all_returned w) (P w.memory) h)
  explore_within P (suc n) w h =
      elim (or_else (all_returned w && P w.memory) (not (stops w) && all_below (λ i. steps_to (explore P n) (step e p w i)) e.count) h) [
        | inl g ↦ inl (all_returned_is w (and_left (all_returned w) (P w.memory) g))
        | inr g ↦ inr (
          goes_on_is w (and_left (not (stops w)) (all_below (λ i. steps_to (explore P n) (step e p w i)) e.count) g),
          λ i u s. explore_within P n u (explored_step P n w u i (and_right (not (stops w)) (all_below (λ j. steps_to (explore P n) (step e p w j)) e.count) g) s),
        )
      ]

  no_more : (w u : World S M) (i : ℕ) → AllReturned e p w → step e p w i ≡ Some u → ⊥
  no_more w u i h s = cc (s, returned_stops e p w h i)

  stopped_on : (w : World S M) → NoStep e p w → SomeStep e p w → ⊥
  stopped_on w h s = cc (s.2, h s.0)

  pub explore_finals : (P : M → Bool) (n : ℕ) (is : List ℕ) (w v : World S M) → explore P n w ≡ true → Run e p is w v → NoStep e p v → P v.memory ≡ true
  explore_finals P zero [] w v h run stop = ap (λ x. P x.memory) (sym run) ∙ and_right (all_returned w) (P w.memory) h
  explore_finals P zero (i ∷ is) w v h run stop = absurd (no_more w run.0 i (all_returned_is w (and_left (all_returned w) (P w.memory) h)) run.1)
  explore_finals P (suc n) [] w v h run stop =
      elim (or_else (all_returned w && P w.memory) (not (stops w) && all_below (λ i. steps_to (explore P n) (step e p w i)) e.count) h) [
        | inl g ↦ ap (λ x. P x.memory) (sym run) ∙ and_right (all_returned w) (P w.memory) g
        | inr g ↦ absurd (stopped_on w (subst (NoStep e p) (sym run) stop) (goes_on_is w (and_left (not (stops w)) (all_below (λ i. steps_to (explore P n) (step e p w i)) e.count) g)))
      ]
  explore_finals P (suc n) (i ∷ is) w v h run stop =
      elim (or_else (all_returned w && P w.memory) (not (stops w) && all_below (λ j. steps_to (explore P n) (step e p w j)) e.count) h) [
        | inl g ↦ absurd (no_more w run.0 i (all_returned_is w (and_left (all_returned w) (P w.memory) g)) run.1)
        | inr g ↦ explore_finals P n is run.0 v (explored_step P n w run.0 i (and_right (not (stops w)) (all_below (λ j. steps_to (explore P n) (step e p w j)) e.count) g) run.1) run.2 stop
      ]

  pub explored_ends : (P : M → Bool) (n : ℕ) → explore P n (first_world e p) ≡ true → Ends e p
  explored_ends P n h = (n, explore_within P n (first_world e p) h)

  pub explored_finals : (P : M → Bool) (n : ℕ) → explore P n (first_world e p) ≡ true → (m : M) → Finals e p m → P m ≡ true
  explored_finals P n h m f = ap P (sym f.4) ∙ explore_finals P n f.0 (first_world e p) f.1 h f.2 f.3

  -- this schedule leads to a world of which P holds
  abbrev pub leads : (World S M → Bool) → List ℕ → Option (World S M) → Bool
  leads P is None = false
  leads P [] (Some w) = P w
  leads P (i ∷ is) (Some w) = leads P is (step e p w i)

  -- the world that a schedule leads to
  pub record Led (P : World S M → Bool) (is : List ℕ) (w : World S M) : Type 0 where
    pub world : World S M
    pub run : Run e p is w world
    pub there : P world ≡ true

  leads_none : (P : World S M → Bool) (is : List ℕ) → leads P is None ≡ true → ⊥
  leads_none P [] h = cc h
  leads_none P (i ∷ is) h = cc h

  led_next : (P : World S M → Bool) (i : ℕ) (is : List ℕ) (w : World S M) (o : Option (World S M)) → step e p w i ≡ o → leads P is o ≡ true → ((u : World S M) → leads P is (Some u) ≡ true → Led P is u) → Led P (i ∷ is) w
  led_next P i is w None g h ih = absurd (leads_none P is h)
  led_next P i is w (Some u) g h ih = let r = ih u h in record { world = r.world; run = (u, g, r.run); there = r.there }

  pub led : (P : World S M → Bool) (is : List ℕ) (w : World S M) → leads P is (Some w) ≡ true → Led P is w
  led P [] w h = record { world = w; run = refl; there = h }
  led P (i ∷ is) w h = led_next P i is w (step e p w i) refl h (λ u g. led P is u g)

  -- it cannot go on, and its memory is m by a test
  abbrev pub leaves : (M → Bool) → World S M → Bool
  leaves Q w = stops w && Q w.memory

  pub final_by : (Q : M → Bool) (m : M) → ((x : M) → Q x ≡ true → x ≡ m) → (is : List ℕ) → leads (leaves Q) is (Some (first_world e p)) ≡ true → Finals e p m
  final_by Q m sound is h =
      let r = led (leaves Q) is (first_world e p) h in
      (is, r.world, r.run, stops_is r.world (and_left (stops r.world) (Q r.world.memory) r.there), sound r.world.memory (and_right (stops r.world) (Q r.world.memory) r.there))

  -- where a schedule leads to a world that cannot go on and in which not all have returned, the program does not end
  pub runs_within : (is : List ℕ) (n : ℕ) (w v : World S M) → Within e p n w → Run e p is w v → (m : ℕ) × Within e p m v
  runs_within [] n w v h run = (n, subst (Within e p n) run h)
  runs_within (i ∷ is) n w v h run = let r = within_step e p n w run.0 i h run.1 in runs_within is r.0 run.0 v r.2 run.2

  abbrev pub is_deadlock : ℕ → World S M → Bool
  is_deadlock i w = stops w && (nat_lt i e.count && (w.waits i || not (has_returned (p.look (w.state i)))))

  pub deadlocked : (i : ℕ) (is : List ℕ) → leads (is_deadlock i) is (Some (first_world e p)) ≡ true → Ends e p → ⊥
  deadlocked i is h ends =
      let r = led (is_deadlock i) is (first_world e p) h in
      let w : World S M = r.world in
      let m = runs_within is ends.0 (first_world e p) w ends.1 r.run in
      let rest = and_right (stops w) (nat_lt i e.count && (w.waits i || not (has_returned (p.look (w.state i))))) r.there in
      let all = stopped e p m.0 w m.1 (stops_is w (and_left (stops w) (nat_lt i e.count && (w.waits i || not (has_returned (p.look (w.state i))))) r.there)) in
      let one = all i (lt_true i e.count (and_left (nat_lt i e.count) (w.waits i || not (has_returned (p.look (w.state i)))) rest)) in
      not_both (w.waits i) (p.look (w.state i)) one.0 one.1 (and_right (nat_lt i e.count) (w.waits i || not (has_returned (p.look (w.state i)))) rest)
