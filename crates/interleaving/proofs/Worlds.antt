-- Worlds: what a step is, who waits after it, and search among the invocations.
use Rattle.std.proofs.Common.{◌≡◌, ℕ, zero, suc, ◌+◌, ◌<◌, ◌≤◌, Bool, true, false, cond, not, ◌&&◌, ◌⊎◌, inl, inr, List, [], ◌∷◌, ◌++◌, Option, Some, None, ◌==◌, nat_lt, refl, sym, ap, ◌∙◌, subst, zero-add, suc-add, add_comm, arith}
use Rattle.std.proofs.lemmas.Bool.Decides.{nat_tests}
use Rattle.interleaving.specs.Machine.{Answer, Move, HasReturned, IsStuck, Goes, Stands, Program, Effects, World, put, gone, accessed, moved, step, Run, NoStep, AllReturned, Within}

-- tests of numbers
pub lt_true : (i n : ℕ) → nat_lt i n ≡ true → i < n
lt_true i n e = grind (arith, nat_tests)

pub true_lt : (i n : ℕ) → i < n → nat_lt i n ≡ true
true_lt i n e = grind (arith, nat_tests)

pub eq_true : (i j : ℕ) → (i == j) ≡ true → i ≡ j
eq_true i j e = grind (arith, nat_tests)

self_true : (i : ℕ) → (i == i) ≡ true
self_true i = grind (arith, nat_tests)

-- a relation stays true where the same place of both functions is replaced, or one of one
put_both_at : {X Y : Type 0} (R : X → Y → Type 0) (b : Bool) (x z : X) (y w : Y) → R x y → R z w → R (cond b x z) (cond b y w)
put_both_at R true x z y w h g = h
put_both_at R false x z y w h g = g

pub put_both : {X Y : Type 0} (R : X → Y → Type 0) (f : ℕ → X) (g : ℕ → Y) (i j : ℕ) (x : X) (y : Y) → R x y → R (f j) (g j) → R (put f i x j) (put g i y j)
put_both R f g i j x y h k = put_both_at R (j == i) x (f j) y (g j) h k

put_one_at : {X : Type 0} (P : ℕ → X → Type 0) (f : ℕ → X) (i j : ℕ) (x : X) (b : Bool) → (j == i) ≡ b → P i x → P j (f j) → P j (cond b x (f j))
put_one_at P f i j x true e h k = subst (λ z. P z x) (sym (eq_true j i e)) h
put_one_at P f i j x false e h k = k

pub put_one : {X : Type 0} (P : ℕ → X → Type 0) (f : ℕ → X) (i j : ℕ) (x : X) → P i x → P j (f j) → P j (put f i x j)
put_one P f i j x h k = put_one_at P f i j x (j == i) refl h k

pub put_here : {X : Type 0} (f : ℕ → X) (i : ℕ) (x : X) → put f i x i ≡ x
put_here f i x = ap (λ b. cond b x (f i)) (self_true i)

module _ {S A M : Type 0} (e : Effects A M) (p : Program S A) where
  -- a step is a private step or an access, of an invocation that does not wait
  pub data Steps (w : World S M) (i : ℕ) (u : World S M) : Type 0 where
    privately : i < e.count → w.waits i ≡ false → (s : S) → p.look (w.state i) ≡ Goes s → u ≡ gone w i s → Steps w i u
    by_access : i < e.count → w.waits i ≡ false → (a : A) (k : Answer → S) → p.look (w.state i) ≡ Stands a k → u ≡ accessed e w i a k → Steps w i u

  -- invocation i is there and does not wait
  pub record IsFree (w : World S M) (i : ℕ) : Type 0 where
    pub there : i < e.count
    pub free : w.waits i ≡ false

  steps_by : (w : World S M) (i : ℕ) (u : World S M) → IsFree w i → (m : Move S A) → p.look (w.state i) ≡ m → moved e w i m ≡ Some u → Steps w i u
  steps_by w i u f HasReturned g h = absurd (cc h)
  steps_by w i u f IsStuck g h = absurd (cc h)
  steps_by w i u f (Goes s) g h = privately f.there f.free s g (cc h)
  steps_by w i u f (Stands a k) g h = by_access f.there f.free a k g (cc h)

  free_by : (w : World S M) (i : ℕ) (b c : Bool) → nat_lt i e.count ≡ b → w.waits i ≡ c → (b && not c) ≡ true → IsFree w i
  free_by w i true false f g h = record { there = lt_true i e.count f; free = g }
  free_by w i true true f g h = absurd (cc h)
  free_by w i false c f g h = absurd (cc h)

  step_by : (w : World S M) (i : ℕ) (u : World S M) (b : Bool) → (nat_lt i e.count && not (w.waits i)) ≡ b → cond b (moved e w i (p.look (w.state i))) None ≡ Some u → Steps w i u
  step_by w i u true g h = steps_by w i u (free_by w i (nat_lt i e.count) (w.waits i) refl refl g) (p.look (w.state i)) refl h
  step_by w i u false g h = absurd (cc h)

  pub step_view : (w : World S M) (i : ℕ) (u : World S M) → step e p w i ≡ Some u → Steps w i u
  step_view w i u h = step_by w i u (nat_lt i e.count && not (w.waits i)) refl h

  -- and each of these is a step
  pub step_moves : (w : World S M) (i : ℕ) → IsFree w i → step e p w i ≡ moved e w i (p.look (w.state i))
  step_moves w i f =
      ap (λ b. cond (b && not (w.waits i)) (moved e w i (p.look (w.state i))) None) (true_lt i e.count f.there)
      ∙ ap (λ b. cond (not b) (moved e w i (p.look (w.state i))) None) f.free

  pub step_goes : (w : World S M) (i : ℕ) (s : S) → IsFree w i → p.look (w.state i) ≡ Goes s → step e p w i ≡ Some (gone w i s)
  step_goes w i s f h = step_moves w i f ∙ ap (moved e w i) h

  pub step_stands : (w : World S M) (i : ℕ) (a : A) (k : Answer → S) → IsFree w i → p.look (w.state i) ≡ Stands a k → step e p w i ≡ Some (accessed e w i a k)
  step_stands w i a k f h = step_moves w i f ∙ ap (moved e w i) h

  -- one that has returned, or is stuck, has none; nor has one that is not free
  option_none : {X : Type 0} (o : Option X) → ((x : X) → o ≡ Some x → ⊥) → o ≡ None
  option_none None h = refl
  option_none (Some x) h = absurd (h x refl)

  pub no_step : (w : World S M) (i : ℕ) → ((u : World S M) → Steps w i u → ⊥) → step e p w i ≡ None
  no_step w i h = option_none (step e p w i) (λ u g. h u (step_view w i u g))

  returned_steps : (w : World S M) → AllReturned e p w → (i : ℕ) (u : World S M) → Steps w i u → ⊥
  returned_steps w h i u (privately lt free s g k) = cc (g, (h i lt).1)
  returned_steps w h i u (by_access lt free a k g f) = cc (g, (h i lt).1)

  pub returned_stops : (w : World S M) → AllReturned e p w → NoStep e p w
  returned_stops w h i = no_step w i (λ u s. returned_steps w h i u s)

  -- where no step is left of those that return within n, all have returned
  pub stopped : (n : ℕ) (w : World S M) → Within e p n w → NoStep e p w → AllReturned e p w
  stopped zero w h g = h
  stopped (suc n) w (inl h) g = h
  stopped (suc n) w (inr h) g = absurd (cc (h.0.2, g h.0.0))

  -- each step leads to where one fewer is left
  no_steps_left : (w u : World S M) (i : ℕ) → AllReturned e p w → step e p w i ≡ Some u → ⊥
  no_steps_left w u i h s = cc (s, returned_stops w h i)

  pub within_step : (n : ℕ) (w u : World S M) (i : ℕ) → Within e p n w → step e p w i ≡ Some u → (m : ℕ) × (suc m ≡ n) × Within e p m u
  within_step zero w u i h s = absurd (no_steps_left w u i h s)
  within_step (suc n) w u i (inl h) s = absurd (no_steps_left w u i h s)
  within_step (suc n) w u i (inr h) s = (n, refl, h.1 i u s)

  -- a greater number does as well
  pub within_more : (n : ℕ) (w : World S M) → Within e p n w → Within e p (suc n) w
  within_more zero w h = inl h
  within_more (suc n) w (inl h) = inl h
  within_more (suc n) w (inr h) = inr (h.0, λ i u s. within_more n u (h.1 i u s))

  pub within_add : (k n : ℕ) (w : World S M) → Within e p n w → Within e p (k + n) w
  within_add zero n w h = subst (λ z. Within e p z w) (sym (zero-add n)) h
  within_add (suc k) n w h = subst (λ z. Within e p z w) (sym (suc-add k n)) (within_more (k + n) w (within_add k n w h))

  -- runs compose
  pub run_compose : (is js : List ℕ) (w u v : World S M) → Run e p is w u → Run e p js u v → Run e p (is ++ js) w v
  run_compose [] js w u v h g = subst (λ z. Run e p js z v) (sym h) g
  run_compose (i ∷ is) js w u v h g = (h.0, h.1, run_compose is js h.0 u v h.2 g)

lt_or_eq : (i n : ℕ) → i < suc n → (i < n) ⊎ (i ≡ n)
lt_or_eq i n lt = grind arith

grown : (i n : ℕ) → i < n → i < suc n
grown i n lt = omega arith

pub below_or_at : (Q : ℕ → Type 0) (n i : ℕ) → ((j : ℕ) → j < n → Q j) → Q n → i < suc n → Q i
below_or_at Q n i below at lt = elim (lt_or_eq i n lt) [ inl h ↦ below i h | inr h ↦ subst Q (sym h) at ]

-- among the invocations below n one has P, or each has Q
some_or_all_next : (P Q : ℕ → Type 0) (n : ℕ) → (P n ⊎ Q n) → ((i : ℕ) × (i < n) × P i) ⊎ ((i : ℕ) → i < n → Q i) → ((i : ℕ) × (i < suc n) × P i) ⊎ ((i : ℕ) → i < suc n → Q i)
some_or_all_next P Q n (inl h) g = inl (n, omega arith, h)
some_or_all_next P Q n (inr h) (inl g) = inl (g.0, grown g.0 n g.1, g.2)
some_or_all_next P Q n (inr h) (inr g) = inr (λ i lt. below_or_at Q n i g h lt)

pub some_or_all : (P Q : ℕ → Type 0) (n : ℕ) → ((i : ℕ) → i < n → P i ⊎ Q i) → ((i : ℕ) × (i < n) × P i) ⊎ ((i : ℕ) → i < n → Q i)
some_or_all P Q zero h = inr (λ i lt. absurd (omega arith))
some_or_all P Q (suc n) h = some_or_all_next P Q n (h n (omega arith)) (some_or_all P Q n (λ i lt. h i (grown i n lt)))

-- numbers that suffice for each invocation below n have one that suffices for all
pub one_for_all : (B : ℕ → ℕ → Type 0) → ((i k m : ℕ) → B i m → B i (k + m)) → (n : ℕ) → ((i : ℕ) → i < n → (m : ℕ) × B i m) → (m : ℕ) × ((i : ℕ) → i < n → B i m)
one_for_all B more zero h = (zero, λ i lt. absurd (omega arith))
one_for_all B more (suc n) h =
    let r = one_for_all B more n (λ i lt. h i (grown i n lt)) in
    let l = h n (omega arith) in
    (l.0 + r.0, λ i lt. below_or_at (λ j. B j (l.0 + r.0)) n i (λ j lt2. more j l.0 r.0 (r.1 j lt2)) (subst (B n) (add_comm r.0 l.0) (more n r.0 l.0 l.1)) lt)

-- the sum of the first n numbers
abbrev pub sum_to : (ℕ → ℕ) → ℕ → ℕ
sum_to c zero = zero
sum_to c (suc n) = c n + sum_to c n

apart : (i j : ℕ) → j ≡ i → j < i → ⊥
apart i j e lt = omega arith

le_by : (n i : ℕ) → n ≡ i → n ≤ i
le_by n i e = omega arith

less_by : (n i : ℕ) → (n == i) ≡ false → i < suc n → i < n
less_by n i e lt = grind (arith, nat_tests)

put_elsewhere_at : (b : Bool) (i j m : ℕ) (x : ℕ) → (j == i) ≡ b → j < i → cond b m x ≡ x
put_elsewhere_at true i j m x e lt = absurd (apart i j (eq_true j i e) lt)
put_elsewhere_at false i j m x e lt = refl

sum_elsewhere : (c : ℕ → ℕ) (i m n : ℕ) → n ≤ i → sum_to (put c i m) n ≡ sum_to c n
sum_elsewhere c i m zero le = refl
sum_elsewhere c i m (suc n) le =
    ap (λ z. z + sum_to (put c i m) n) (put_elsewhere_at (n == i) i n m (c n) refl (omega arith))
    ∙ ap (λ z. c n + z) (sum_elsewhere c i m n (omega arith))

sum_put_at : (c : ℕ → ℕ) (i m n : ℕ) (b : Bool) → (n == i) ≡ b → i < suc n → c i ≡ suc m → (i < n → suc (sum_to (put c i m) n) ≡ sum_to c n) → suc (cond b m (c n) + sum_to (put c i m) n) ≡ c n + sum_to c n
sum_put_at c i m n true e lt h ih =
    let same : n ≡ i = eq_true n i e in
    let here : c n ≡ suc m = ap c same ∙ h in
    let rest : sum_to (put c i m) n ≡ sum_to c n = sum_elsewhere c i m n (le_by n i same) in
    omega (arith, here, rest)
sum_put_at c i m n false e lt h ih =
    let rest : suc (sum_to (put c i m) n) ≡ sum_to c n = ih (less_by n i e lt) in
    omega (arith, rest)

-- one less at one place is one less in all
pub sum_put : (c : ℕ → ℕ) (i m n : ℕ) → i < n → c i ≡ suc m → suc (sum_to (put c i m) n) ≡ sum_to c n
sum_put c i m zero lt h = absurd (omega arith)
sum_put c i m (suc n) lt h = sum_put_at c i m n (n == i) refl lt h (λ lt2. sum_put c i m n lt2 h)
