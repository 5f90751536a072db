-- Traces: how they follow a step, and what holds of those of each machine.
use Rattle.std.proofs.Common.{◌≡◌, ℕ, zero, suc, ◌+◌, zero-add, suc-add, add_comm, ◌⊎◌, inl, inr, List, [], ◌∷◌, ◌++◌, length, refl, sym, ap, ◌∙◌}
use Rattle.interleaving.specs.Machine.{Answer, Move, HasReturned, IsStuck, Goes, Stands}
use Rattle.interleaving.specs.Trace.{Returned, Asks, Runs, Trace, ended, wanted, before, at_rest, in_motion, trace_of}
use Rattle.interleaving.specs.Loses.{AreTraces}

-- a private step costs one instruction
pub trace_goes : {S A : Type 0} (look : S → Move S A) (s v : S) (n : ℕ) (xs : List Answer) → look s ≡ Goes v → trace_of look s (suc n) xs ≡ trace_of look v n xs
trace_goes look s v n xs e = ap (λ m. in_motion (λ w ys. trace_of look w n ys) m xs) e

-- an access that is answered costs one instruction
pub trace_answered : {S A : Type 0} (look : S → Move S A) (s : S) (a : A) (k : Answer → S) (n : ℕ) (x : Answer) (xs : List Answer) → look s ≡ Stands a k → trace_of look s (suc n) (x ∷ xs) ≡ before a (trace_of look (k x) n xs)
trace_answered look s a k n x xs e = ap (λ m. in_motion (λ w ys. trace_of look w n ys) m (x ∷ xs)) e

-- one that is not answered costs none
pub trace_wants : {S A : Type 0} (look : S → Move S A) (s : S) (a : A) (k : Answer → S) (n : ℕ) → look s ≡ Stands a k → trace_of look s n [] ≡ wanted a
trace_wants look s a k zero e = ap (λ m. at_rest m []) e
trace_wants look s a k (suc n) e = ap (λ m. in_motion (λ w ys. trace_of look w n ys) m []) e

-- nor does a return
pub trace_returned : {S A : Type 0} (look : S → Move S A) (s : S) (n : ℕ) (xs : List Answer) → look s ≡ HasReturned → trace_of look s n xs ≡ ended Returned
trace_returned look s zero xs e = ap (λ m. at_rest m xs) e
trace_returned look s (suc n) xs e = ap (λ m. in_motion (λ w ys. trace_of look w n ys) m xs) e

-- with no instruction left, a private step and an access that is answered are not made
pub trace_at_goes : {S A : Type 0} (look : S → Move S A) (s v : S) (xs : List Answer) → look s ≡ Goes v → trace_of look s zero xs ≡ ended Runs
trace_at_goes look s v xs e = ap (λ m. at_rest m xs) e

pub trace_at_answered : {S A : Type 0} (look : S → Move S A) (s : S) (a : A) (k : Answer → S) (x : Answer) (xs : List Answer) → look s ≡ Stands a k → trace_of look s zero (x ∷ xs) ≡ ended Runs
trace_at_answered look s a k x xs e = ap (λ m. at_rest m (x ∷ xs)) e

module _ {S A : Type 0} (look : S → Move S A) where
  -- one instruction more: by induction on the number, by cases on what the state does next
  more_at_rest : (n : ℕ) (xs : List Answer) (s : S) (m : Move S A) → look s ≡ m → ((at_rest m xs).end ≡ Runs → ⊥) → in_motion (λ w ys. trace_of look w n ys) m xs ≡ at_rest m xs
  more_at_rest n xs s HasReturned e h = refl
  more_at_rest n xs s IsStuck e h = refl
  more_at_rest n xs s (Goes v) e h = absurd (h refl)
  more_at_rest n [] s (Stands a k) e h = refl
  more_at_rest n (x ∷ xs) s (Stands a k) e h = absurd (h refl)

  more_in_motion : (n : ℕ) (xs : List Answer) (m : Move S A) → ((s : S) (ys : List Answer) → ((trace_of look s n ys).end ≡ Runs → ⊥) → trace_of look s (suc n) ys ≡ trace_of look s n ys)
      → ((in_motion (λ w ys. trace_of look w n ys) m xs).end ≡ Runs → ⊥) → in_motion (λ w ys. trace_of look w (suc n) ys) m xs ≡ in_motion (λ w ys. trace_of look w n ys) m xs
  more_in_motion n xs HasReturned ih h = refl
  more_in_motion n xs IsStuck ih h = refl
  more_in_motion n xs (Goes v) ih h = ih v xs h
  more_in_motion n [] (Stands a k) ih h = refl
  more_in_motion n (x ∷ xs) (Stands a k) ih h = ap (before a) (ih (k x) xs h)

  pub one_more : (n : ℕ) (s : S) (xs : List Answer) → ((trace_of look s n xs).end ≡ Runs → ⊥) → trace_of look s (suc n) xs ≡ trace_of look s n xs
  one_more zero s xs h = more_at_rest zero xs s (look s) refl h
  one_more (suc n) s xs h = more_in_motion n xs (look s) (λ v ys g. one_more n v ys g) h

  -- as many more as one likes
  pub some_more : (n k : ℕ) (s : S) (xs : List Answer) → ((trace_of look s n xs).end ≡ Runs → ⊥) → trace_of look s (k + n) xs ≡ trace_of look s n xs
  some_more n zero s xs h = ap (λ z. trace_of look s z xs) (zero-add n)
  some_more n (suc k) s xs h =
      let ih = some_more n k s xs h in
      ap (λ z. trace_of look s z xs) (suc-add k n)
      ∙ one_more (k + n) s xs (λ r. h (sym (ap (λ t. t.end) ih) ∙ r))
      ∙ ih

  -- two numbers that suffice give the same trace, since both give that of their sum
  pub same_trace : (s : S) (n m : ℕ) (xs : List Answer) → ((trace_of look s n xs).end ≡ Runs → ⊥) → ((trace_of look s m xs).end ≡ Runs → ⊥) → trace_of look s n xs ≡ trace_of look s m xs
  same_trace s n m xs h g =
      sym (some_more n m s xs h) ∙ ap (λ z. trace_of look s z xs) (add_comm m n) ∙ some_more m n s xs g

  -- more answers: by induction on the number of instructions
  grows_before : (a : A) (t u : Trace A) → ((u.end ≡ Asks) ⊎ (t ≡ u)) → ((u.end ≡ Asks) ⊎ (before a t ≡ before a u))
  grows_before a t u (inl h) = inl h
  grows_before a t u (inr h) = inr (ap (before a) h)

  grows_at_rest : (m : Move S A) (xs ys : List Answer) → ((at_rest m xs).end ≡ Asks) ⊎ (at_rest m (xs ++ ys) ≡ at_rest m xs)
  grows_at_rest HasReturned xs ys = inr refl
  grows_at_rest IsStuck xs ys = inr refl
  grows_at_rest (Goes v) xs ys = inr refl
  grows_at_rest (Stands a k) [] ys = inl refl
  grows_at_rest (Stands a k) (x ∷ xs) ys = inr refl

  grows_in_motion : (n : ℕ) (m : Move S A) (xs ys : List Answer) → ((s : S) (zs : List Answer) → ((trace_of look s n zs).end ≡ Asks) ⊎ (trace_of look s n (zs ++ ys) ≡ trace_of look s n zs))
      → ((in_motion (λ w zs. trace_of look w n zs) m xs).end ≡ Asks) ⊎ (in_motion (λ w zs. trace_of look w n zs) m (xs ++ ys) ≡ in_motion (λ w zs. trace_of look w n zs) m xs)
  grows_in_motion n HasReturned xs ys ih = inr refl
  grows_in_motion n IsStuck xs ys ih = inr refl
  grows_in_motion n (Goes v) xs ys ih = ih v xs
  grows_in_motion n (Stands a k) [] ys ih = inl refl
  grows_in_motion n (Stands a k) (x ∷ xs) ys ih = grows_before a (trace_of look (k x) n (xs ++ ys)) (trace_of look (k x) n xs) (ih (k x) xs)

  pub trace_grows : (n : ℕ) (s : S) (xs ys : List Answer) → ((trace_of look s n xs).end ≡ Asks) ⊎ (trace_of look s n (xs ++ ys) ≡ trace_of look s n xs)
  trace_grows zero s xs ys = grows_at_rest (look s) xs ys
  trace_grows (suc n) s xs ys = grows_in_motion n (look s) xs ys (λ v zs. trace_grows n v zs ys)

  -- a trace that asks has used each answer
  full_at_rest : (m : Move S A) (xs : List Answer) → (at_rest m xs).end ≡ Asks → length (at_rest m xs).accesses ≡ suc (length xs)
  full_at_rest HasReturned xs h = absurd (cc h)
  full_at_rest IsStuck xs h = absurd (cc h)
  full_at_rest (Goes v) xs h = absurd (cc h)
  full_at_rest (Stands a k) [] h = refl
  full_at_rest (Stands a k) (x ∷ xs) h = absurd (cc h)

  full_in_motion : (n : ℕ) (m : Move S A) (xs : List Answer) → ((s : S) (zs : List Answer) → (trace_of look s n zs).end ≡ Asks → length (trace_of look s n zs).accesses ≡ suc (length zs))
      → (in_motion (λ w zs. trace_of look w n zs) m xs).end ≡ Asks → length (in_motion (λ w zs. trace_of look w n zs) m xs).accesses ≡ suc (length xs)
  full_in_motion n HasReturned xs ih h = absurd (cc h)
  full_in_motion n IsStuck xs ih h = absurd (cc h)
  full_in_motion n (Goes v) xs ih h = ih v xs h
  full_in_motion n (Stands a k) [] ih h = refl
  full_in_motion n (Stands a k) (x ∷ xs) ih h = ap suc (ih (k x) xs h)

  pub trace_full : (n : ℕ) (s : S) (xs : List Answer) → (trace_of look s n xs).end ≡ Asks → length (trace_of look s n xs).accesses ≡ suc (length xs)
  trace_full zero s xs h = full_at_rest (look s) xs h
  trace_full (suc n) s xs h = full_in_motion n (look s) xs (λ v zs g. trace_full n v zs g) h

  -- so a trace that is over does not change
  pub are_traces : (s : S) → AreTraces (trace_of look s)
  are_traces s = record {
    same = λ n m xs h g. same_trace s n m xs h g;
    grows = λ n xs ys. trace_grows n s xs ys;
    full = λ n xs h. trace_full n s xs h;
  }
