-- One change of which accesses are kept begins a chain, and a chain leaves out accesses of its kind alone.
use Rattle.std.proofs.Common.{◌≡◌, ℕ, zero, suc, Bool, true, false, cond, List, [], ◌∷◌, map, length, refl, sym, ap, ◌∙◌, subst}
use Rattle.interleaving.specs.Machine.{Answer, Move, HasReturned, IsStuck, Goes, Stands}
use Rattle.interleaving.specs.Trace.{TraceEnd, Returned, Asks, Runs, Stuck, Trace, Traces, before, at_rest, in_motion, trace_of}
use Rattle.interleaving.specs.Keeps.{without, Alike, LastKept, IsOver, KeptBut, Keeps}
use Rattle.interleaving.specs.Loses.{marks_of, LastIs, AllMarked, WantsOf, Loses}
use Rattle.interleaving.proofs.Lists.{Filled, filled, alike_self, last_mark, mark_last, behind_last}
use Rattle.interleaving.proofs.Traces.{trace_full, same_trace}
use Rattle.interleaving.proofs.Keeping.{over_not_runs}

-- what f tells of the last element
abbrev last_of : {A : Type 0} → (A → Bool) → List A → Bool
last_of f [] = false
last_of f (a ∷ []) = f a
last_of f (a ∷ b ∷ l) = last_of f (b ∷ l)

abbrev if_asks : TraceEnd → Bool → Bool
if_asks Returned b = false
if_asks Asks b = b
if_asks Runs b = false
if_asks Stuck b = false

-- an answer is wanted by an access that is left out
abbrev wants_left_out : {A : Type 0} → (A → Bool) → Trace A → Bool
wants_left_out left t = if_asks t.end (last_of left t.accesses)

asked_by : (end : TraceEnd) (b : Bool) → if_asks end b ≡ true → (end ≡ Asks) × (b ≡ true)
asked_by Returned b h = absurd (cc h)
asked_by Asks b h = (refl, h)
asked_by Runs b h = absurd (cc h)
asked_by Stuck b h = absurd (cc h)

last_is : {A : Type 0} (f : A → Bool) (P : A → Type 0) → ((a : A) → f a ≡ true → P a) → (l : List A) → last_of f l ≡ true → LastIs P l
last_is f P all [] h = absurd (cc h)
last_is f P all (a ∷ []) h = all a h
last_is f P all (a ∷ b ∷ l) h = last_is f P all (b ∷ l) h

last_not : {A : Type 0} (f : A → Bool) (l : List A) → last_of f l ≡ false → LastKept (map f l)
last_not f [] h = tt
last_not f (a ∷ []) h = h
last_not f (a ∷ b ∷ l) h = last_not f (b ∷ l) h

-- an access before a trace that wants an answer does not change what it wants
wants_behind_by : {A : Type 0} (f : A → Bool) (a : A) (end : TraceEnd) (l : List A) → (end ≡ Asks → Filled l) → if_asks end (last_of f (a ∷ l)) ≡ if_asks end (last_of f l)
wants_behind_by f a Returned l h = refl
wants_behind_by f a Asks [] h = absurd (h refl)
wants_behind_by f a Asks (b ∷ l) h = refl
wants_behind_by f a Runs l h = refl
wants_behind_by f a Stuck l h = refl

-- where nothing is left out, all is left
nothing_lost : {X : Type 0} (xs : List Answer) (l : List X) → without (marks_of (λ ys. false) xs) l ≡ l
nothing_lost [] [] = refl
nothing_lost [] (y ∷ l) = refl
nothing_lost (x ∷ xs) [] = refl
nothing_lost (x ∷ xs) (y ∷ l) = ap (λ z. y ∷ z) (nothing_lost xs l)

-- marks by the answers before leave out what marks by the accesses do: by induction on the instructions
module _ {S A : Type 0} (X : Type 0) (look : S → Move S A) (left : A → Bool) where
  left_at_rest : (m : Move S A) (xs : List Answer) (l : List X) → ((at_rest m xs).end ≡ Runs → ⊥) → without (marks_of (λ ys. wants_left_out left (at_rest m ys)) xs) l ≡ without (map left (at_rest m xs).accesses) l
  left_at_rest HasReturned xs l h = nothing_lost xs l
  left_at_rest IsStuck xs l h = nothing_lost xs l
  left_at_rest (Goes v) xs l h = absurd (h refl)
  left_at_rest (Stands a k) [] l h = refl
  left_at_rest (Stands a k) (x ∷ xs) l h = absurd (h refl)

  -- what is shown of n instructions
  abbrev LeftOut : ℕ → Type 0
  LeftOut n = (s : S) (xs : List Answer) (l : List X) → ((trace_of look s n xs).end ≡ Runs → ⊥) → without (marks_of (λ ys. wants_left_out left (trace_of look s n ys)) xs) l ≡ without (map left (trace_of look s n xs).accesses) l

  left_answered : (n : ℕ) (s : S) (a : A) (xs : List Answer) (l : List X) → LeftOut n → ((trace_of look s n xs).end ≡ Runs → ⊥)
      → without (left a ∷ marks_of (λ ys. wants_left_out left (before a (trace_of look s n ys))) xs) l ≡ without (left a ∷ map left (trace_of look s n xs).accesses) l
  left_answered n s a xs [] ih h = refl
  left_answered n s a xs (y ∷ l) ih h =
      ap (λ f. without (left a ∷ marks_of f xs) (y ∷ l)) (λ i ys. wants_behind_by left a (trace_of look s n ys).end (trace_of look s n ys).accesses (λ e. filled (trace_of look s n ys).accesses (length ys) (trace_full look n s ys e)) i)
      ∙ ap (λ z. cond (left a) z (y ∷ z)) (ih s xs l h)

  left_in_motion : (n : ℕ) (m : Move S A) (xs : List Answer) (l : List X) → LeftOut n → ((in_motion (λ w ys. trace_of look w n ys) m xs).end ≡ Runs → ⊥)
      → without (marks_of (λ ys. wants_left_out left (in_motion (λ w zs. trace_of look w n zs) m ys)) xs) l ≡ without (map left (in_motion (λ w ys. trace_of look w n ys) m xs).accesses) l
  left_in_motion n HasReturned xs l ih h = nothing_lost xs l
  left_in_motion n IsStuck xs l ih h = nothing_lost xs l
  left_in_motion n (Goes v) xs l ih h = ih v xs l h
  left_in_motion n (Stands a k) [] l ih h = refl
  left_in_motion n (Stands a k) (x ∷ xs) l ih h = left_answered n (k x) a xs l ih h

  pub left_out : (n : ℕ) → LeftOut n
  left_out zero s xs l h = left_at_rest (look s) xs l h
  left_out (suc n) s xs l h = left_in_motion n (look s) xs l (left_out n) h

module _ {S A : Type 0} (look : S → Move S A) (s : S) (left : A → Bool) (Same : A → A → Type 0) (Kind : A → Type 0) (other : Traces A) (all : (a : A) → left a ≡ true → Kind a) (keeps : Keeps left Same (trace_of look s) other) where
  abbrev lost : ℕ → List Answer → Bool
  lost n xs = wants_left_out left (trace_of look s n xs)

  begin_wanted : (n : ℕ) (xs : List Answer) → lost n xs ≡ true → WantsOf Kind (trace_of look s) n xs
  begin_wanted n xs h =
      let t : Trace A = trace_of look s n xs in
      let r = asked_by t.end (last_of left t.accesses) h in
      record { asks = r.0; kind = last_is left Kind all t.accesses r.1 }

  begin_over : (t : Trace A) (end : TraceEnd) (marks : List Bool) → t.end ≡ end → (LastKept marks → wants_left_out left t ≡ false) → IsOver end marks → IsOver end (map left t.accesses)
  begin_over t Returned marks e h over = tt
  begin_over t Asks marks e h over = last_not left t.accesses (ap (λ z. if_asks z (last_of left t.accesses)) (sym e) ∙ h over)
  begin_over t Runs marks e h over = over
  begin_over t Stuck marks e h over = over

  begin_kept : (n : ℕ) (xs : List Answer) → KeptBut Same (marks_of (lost n) xs) (trace_of look s n xs) xs other
  begin_kept n xs over =
      let t : Trace A = trace_of look s n xs in
      let marks : List Bool = marks_of (lost n) xs in
      let runs = over_not_runs t.end marks over in
      let r = keeps n xs (begin_over t t.end marks refl (λ h. last_mark (lost n) xs h) over) in
      let accesses : without marks t.accesses ≡ without (map left t.accesses) t.accesses = left_out A look left n s xs t.accesses runs in
      let answers : without marks xs ≡ without (map left t.accesses) xs = left_out Answer look left n s xs xs runs in (
        r.0,
        subst (λ l. Alike Same l (other r.0 (without marks xs)).accesses) (sym accesses)
            (subst (λ l. Alike Same (without (map left t.accesses) t.accesses) (other r.0 l).accesses) (sym answers) r.1),
        ap (λ l. (other r.0 l).end) answers ∙ r.2,
      )

  pub begin : Loses Kind Same (trace_of look s) other
  begin = record {
    lost = lost;
    wanted = λ n xs h. begin_wanted n xs h;
    fixed = λ n m xs h g. ap (wants_left_out left) (same_trace look s n m xs (λ r. cc (h, r)) (λ r. cc (g, r)));
    kept = λ n xs. begin_kept n xs;
  }

-- what is left out of a whole trace is of the kind: by induction on the instructions
module _ {S A : Type 0} (look : S → Move S A) (Kind : A → Type 0) where
  -- where f holds of some answers, the trace under them wants an answer to an access of the kind
  abbrev Tells : (List Answer → Trace A) → (List Answer → Bool) → Type 0
  Tells run f = (ys : List Answer) → f ys ≡ true → ((run ys).end ≡ Asks) × LastIs Kind (run ys).accesses

  kind_nothing : (f : List Answer → Bool) (xs : List Answer) → AllMarked Kind (marks_of f xs) []
  kind_nothing f [] = tt
  kind_nothing f (x ∷ xs) = tt

  kind_at_rest : (m : Move S A) (xs : List Answer) (f : List Answer → Bool) → ((at_rest m xs).end ≡ Runs → ⊥) → Tells (at_rest m) f → AllMarked Kind (marks_of f xs) (at_rest m xs).accesses
  kind_at_rest HasReturned xs f h tells = kind_nothing f xs
  kind_at_rest IsStuck xs f h tells = kind_nothing f xs
  kind_at_rest (Goes v) xs f h tells = absurd (h refl)
  kind_at_rest (Stands a k) [] f h tells = (λ e. (tells [] e).1, tt)
  kind_at_rest (Stands a k) (x ∷ xs) f h tells = absurd (h refl)

  -- what is shown of n instructions
  abbrev KindOf : ℕ → Type 0
  KindOf n = (s : S) (xs : List Answer) (f : List Answer → Bool) → ((trace_of look s n xs).end ≡ Runs → ⊥) → Tells (trace_of look s n) f → AllMarked Kind (marks_of f xs) (trace_of look s n xs).accesses

  kind_in_motion : (n : ℕ) (m : Move S A) (xs : List Answer) (f : List Answer → Bool) → KindOf n → ((in_motion (λ w ys. trace_of look w n ys) m xs).end ≡ Runs → ⊥)
      → Tells (in_motion (λ w zs. trace_of look w n zs) m) f → AllMarked Kind (marks_of f xs) (in_motion (λ w ys. trace_of look w n ys) m xs).accesses
  kind_in_motion n HasReturned xs f ih h tells = kind_nothing f xs
  kind_in_motion n IsStuck xs f ih h tells = kind_nothing f xs
  kind_in_motion n (Goes v) xs f ih h tells = ih v xs f h tells
  kind_in_motion n (Stands a k) [] f ih h tells = (λ e. (tells [] e).1, tt)
  kind_in_motion n (Stands a k) (x ∷ xs) f ih h tells = (
    λ e. (tells [] e).1,
    ih (k x) xs (λ ys. f (x ∷ ys)) h (λ ys e.
        let r = tells (x ∷ ys) e in
        let t : Trace A = trace_of look (k x) n ys in
        (r.0, behind_last Kind a t.accesses (filled t.accesses (length ys) (trace_full look n (k x) ys r.0)) r.1)),
  )

  pub kind_of : (n : ℕ) → KindOf n
  kind_of zero s xs f h tells = kind_at_rest (look s) xs f h tells
  kind_of (suc n) s xs f h tells = kind_in_motion n (look s) xs f (kind_of n) h tells

pub left_out_are_of_kind : {S A : Type 0} (look : S → Move S A) (s : S) (Same : A → A → Type 0) (Kind : A → Type 0) (other : Traces A) (loses : Loses Kind Same (trace_of look s) other) (n : ℕ) (xs : List Answer)
    → ((trace_of look s n xs).end ≡ Runs → ⊥) → AllMarked Kind (marks_of (loses.lost n) xs) (trace_of look s n xs).accesses
left_out_are_of_kind look s Same Kind other loses n xs h = kind_of look Kind n s xs (loses.lost n) h (λ ys e. let w = loses.wanted n ys e in (w.asks, w.kind))

-- nothing changed leaves out nothing
pub chain_of_none : {A : Type 0} (Kind : A → Type 0) (Same : A → A → Type 0) (this : Traces A) → ((a : A) → Same a a) → Loses Kind Same this this
chain_of_none Kind Same this self = record {
  lost = λ n xs. false;
  wanted = λ n xs h. absurd (cc h);
  fixed = λ n m xs h g. refl;
  kept = λ n xs over.
      let marks : List Bool = marks_of (λ ys. false) xs in (
        n,
        subst (λ l. Alike Same l (this n (without marks xs)).accesses) (sym (nothing_lost xs (this n xs).accesses))
            (subst (λ l. Alike Same (this n xs).accesses (this n l).accesses) (sym (nothing_lost xs xs)) (alike_self Same self (this n xs).accesses)),
        ap (λ l. (this n l).end) (nothing_lost xs xs),
      );
}

-- where nothing is of the kind, nothing is left out, and all accesses are kept
last_of_none : {A : Type 0} (P : A → Type 0) → ((a : A) → P a → ⊥) → (l : List A) → LastIs P l → ⊥
last_of_none P none [] h = h
last_of_none P none (a ∷ []) h = none a h
last_of_none P none (a ∷ b ∷ l) h = last_of_none P none (b ∷ l) h

nothing_marked : {A X : Type 0} (xs : List A) (l : List X) → without (map (λ a. false) xs) l ≡ l
nothing_marked [] l = refl
nothing_marked (a ∷ xs) [] = refl
nothing_marked (a ∷ xs) (y ∷ l) = ap (λ z. y ∷ z) (nothing_marked xs l)

module _ {A : Type 0} (Kind : A → Type 0) (Same : A → A → Type 0) (this other : Traces A) (none : (a : A) → Kind a → ⊥) (loses : Loses Kind Same this other) where
  not_lost : (n : ℕ) (xs : List Answer) (b : Bool) → loses.lost n xs ≡ b → b ≡ false
  not_lost n xs false h = refl
  not_lost n xs true h = absurd (last_of_none Kind none (this n xs).accesses (loses.wanted n xs h).kind)

  not_marked : {X : Type 0} (n : ℕ) (xs : List Answer) (l : List X) → without (marks_of (loses.lost n) xs) l ≡ l
  not_marked n xs l = ap (λ f. without (marks_of f xs) l) (λ i ys. not_lost n ys (loses.lost n ys) refl i) ∙ nothing_lost xs l

  over_anyway : (n : ℕ) (xs : List Answer) (end : TraceEnd) (marks : List Bool) → IsOver end marks → IsOver end (marks_of (loses.lost n) xs)
  over_anyway n xs Returned marks h = tt
  over_anyway n xs Asks marks h = mark_last (loses.lost n) xs (not_lost n xs (loses.lost n xs) refl)
  over_anyway n xs Runs marks h = h
  over_anyway n xs Stuck marks h = h

  pub all_kept : Keeps (λ a. false) Same this other
  all_kept n xs over =
      let t : Trace A = this n xs in
      let r = loses.kept n xs (over_anyway n xs t.end (map (λ a. false) t.accesses) over) in
      let accesses : without (marks_of (loses.lost n) xs) t.accesses ≡ without (map (λ a. false) t.accesses) t.accesses = not_marked n xs t.accesses ∙ sym (nothing_marked t.accesses t.accesses) in
      let answers : without (marks_of (loses.lost n) xs) xs ≡ without (map (λ a. false) t.accesses) xs = not_marked n xs xs ∙ sym (nothing_marked t.accesses xs) in (
        r.0,
        subst (λ l. Alike Same (without (map (λ a. false) t.accesses) t.accesses) (other r.0 l).accesses) answers
            (subst (λ l. Alike Same l (other r.0 (without (marks_of (loses.lost n) xs) xs)).accesses) accesses r.1),
        ap (λ l. (other r.0 l).end) (sym answers) ∙ r.2,
      )
