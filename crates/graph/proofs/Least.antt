-- Worklists: a set that holds the starts, is closed under steps and has no other element is exactly the least such set.
use Rattle.std.proofs.Common.{◌≡◌, ℕ, ◌⊎◌, inl, inr, ◌↔◌, sym, subst}
use Rattle.graph.specs.Least.{Least, First, Onward}

module _ (Starts : ℕ → Type 0) (Step : ℕ → ℕ → Type 0) where
  -- induction on how an element came to be in the least set
  pub least-within : (Set : ℕ → Type 0) → ((p : ℕ) → Starts p → Set p) → ((p q : ℕ) → Set p → Step p q → Set q) → (p : ℕ) → Least Starts Step p → Set p
  least-within Set starts closed p (First s) = starts _ s
  least-within Set starts closed p (Onward l step) = closed _ _ (least-within Set starts closed _ l) step

  -- a set that holds the starts, is closed under steps and is sound is exactly the least set
  pub set-least : (Set : ℕ → Type 0) → ((p : ℕ) → Starts p → Set p) → ((p q : ℕ) → Set p → Step p q → Set q) → ((p : ℕ) → Set p → Least Starts Step p) → (p : ℕ) → Set p ↔ Least Starts Step p
  set-least Set starts closed sound p = (sound p, least-within Set starts closed p)

  -- ---- worklists that meet an element before it waits

  -- A worklist under way: what was met, and what of it waits for its steps to be taken.
  pub record IsUnderWay (Met Waiting : ℕ → Type 0) : Type 0 where
    pub starts : (p : ℕ) → Starts p → Met p
    pub sound : (p : ℕ) → Met p → Least Starts Step p
    pub waiting : (p : ℕ) → Waiting p → Met p
    pub onward : (p : ℕ) → Met p → Waiting p ⊎ ((q : ℕ) → Step p q → Met q)

  -- what taking the steps of one element does: what they lead to is met, and what was not met before waits
  pub record TakesSteps (p : ℕ) (Met Waiting Met2 Waiting2 : ℕ → Type 0) : Type 0 where
    pub kept : (q : ℕ) → Met q → Met2 q
    pub led : (q : ℕ) → Step p q → Met2 q
    pub new : (q : ℕ) → Met2 q → Met q ⊎ Step p q
    pub waits : (q : ℕ) → Met2 q → Met q ⊎ Waiting2 q
    pub still : (q : ℕ) → Waiting q → Waiting2 q ⊎ (q ≡ p)
    pub met : (q : ℕ) → Waiting2 q → Met2 q

  -- once the starts are met, and all of them wait
  pub begins : (Met Waiting : ℕ → Type 0) → ((p : ℕ) → Starts p → Met p) → ((p : ℕ) → Met p → Starts p) → ((p : ℕ) → Waiting p → Met p) → ((p : ℕ) → Met p → Waiting p) → IsUnderWay Met Waiting
  begins Met Waiting starts only met waits = record { starts = starts; sound = λ p m. First (only p m); waiting = met; onward = λ p m. inl (waits p m) }

  -- once the steps of an element that waited are taken
  pub goes_on : (p : ℕ) (Met Waiting Met2 Waiting2 : ℕ → Type 0) → IsUnderWay Met Waiting → Waiting p → TakesSteps p Met Waiting Met2 Waiting2 → IsUnderWay Met2 Waiting2
  goes_on p Met Waiting Met2 Waiting2 u w t = record {
    starts = λ q s. t.kept q (u.starts q s);
    sound = λ q m. elim (t.new q m) [ inl old ↦ u.sound q old | inr step ↦ Onward (u.sound p (u.waiting p w)) step ];
    waiting = t.met;
    onward = λ q m. elim (t.waits q m) [ inl old ↦ kept_on q (u.onward q old) | inr waits ↦ inl waits ];
  }
    where
      led_on : (q : ℕ) → Waiting2 q ⊎ (q ≡ p) → Waiting2 q ⊎ ((r : ℕ) → Step q r → Met2 r)
      led_on q c = elim c [ inl waits ↦ inl waits | inr e ↦ inr (λ r step. t.led r (subst (λ (k : ℕ). Step k r) e step)) ]

      kept_on : (q : ℕ) → Waiting q ⊎ ((r : ℕ) → Step q r → Met r) → Waiting2 q ⊎ ((r : ℕ) → Step q r → Met2 r)
      kept_on q c = elim c [ inl waits ↦ led_on q (t.still q waits) | inr done ↦ inr (λ r step. t.kept r (done r step)) ]

  -- once nothing waits, what is met is exactly the least set
  pub met-least : (Met Waiting : ℕ → Type 0) → IsUnderWay Met Waiting → ((p : ℕ) → Waiting p → ⊥) → (p : ℕ) → Met p ↔ Least Starts Step p
  met-least Met Waiting u none p = (u.sound p, least-within Met u.starts closed p)
    where
      led : (q r : ℕ) → Waiting q ⊎ ((s : ℕ) → Step q s → Met s) → Step q r → Met r
      led q r c step = elim c [ inl waits ↦ absurd (none q waits) | inr done ↦ done r step ]

      closed : (q r : ℕ) → Met q → Step q r → Met r
      closed q r m step = led q r (u.onward q m) step

  -- ---- worklists that place an element once it has waited, and on which one may wait more than once

  pub record IsPlacing (Placed Waiting : ℕ → Type 0) : Type 0 where
    pub starts : (p : ℕ) → Starts p → Placed p ⊎ Waiting p
    pub sound : (p : ℕ) → Placed p → Least Starts Step p
    pub awaited : (p : ℕ) → Waiting p → Least Starts Step p
    pub onward : (p q : ℕ) → Placed p → Step p q → Placed q ⊎ Waiting q

  -- an element that waited is placed, and what its steps lead to waits, unless it is placed
  pub record PlacesOne (p : ℕ) (Placed Waiting Placed2 Waiting2 : ℕ → Type 0) : Type 0 where
    pub kept : (q : ℕ) → Placed q → Placed2 q
    pub placed : Placed2 p
    pub only : (q : ℕ) → Placed2 q → Placed q ⊎ (q ≡ p)
    pub still : (q : ℕ) → Waiting q → Waiting2 q ⊎ (q ≡ p)
    pub led : (q : ℕ) → Step p q → Placed2 q ⊎ Waiting2 q
    pub new : (q : ℕ) → Waiting2 q → Waiting q ⊎ Step p q

  pub places_on : (p : ℕ) (Placed Waiting Placed2 Waiting2 : ℕ → Type 0) → IsPlacing Placed Waiting → Waiting p → PlacesOne p Placed Waiting Placed2 Waiting2 → IsPlacing Placed2 Waiting2
  places_on p Placed Waiting Placed2 Waiting2 u w one = record {
    starts = λ q s. either q (u.starts q s);
    sound = λ q h. elim (one.only q h) [ inl old ↦ u.sound q old | inr e ↦ subst (λ (k : ℕ). Least Starts Step k) (sym e) (u.awaited p w) ];
    awaited = λ q h. elim (one.new q h) [ inl old ↦ u.awaited q old | inr step ↦ Onward (u.awaited p w) step ];
    onward = λ q r h step. elim (one.only q h) [ inl old ↦ either r (u.onward q r old step) | inr e ↦ one.led r (subst (λ (k : ℕ). Step k r) e step) ];
  }
    where
      waited : (q : ℕ) → Waiting2 q ⊎ (q ≡ p) → Placed2 q ⊎ Waiting2 q
      waited q c = elim c [ inl waits ↦ inr waits | inr e ↦ inl (subst Placed2 (sym e) one.placed) ]

      either : (q : ℕ) → Placed q ⊎ Waiting q → Placed2 q ⊎ Waiting2 q
      either q c = elim c [ inl old ↦ inl (one.kept q old) | inr waits ↦ waited q (one.still q waits) ]

  -- an element that is placed need not wait
  pub drops_on : (p : ℕ) (Placed Waiting Waiting2 : ℕ → Type 0) → IsPlacing Placed Waiting → Placed p → ((q : ℕ) → Waiting q → Waiting2 q ⊎ (q ≡ p)) → ((q : ℕ) → Waiting2 q → Waiting q) → IsPlacing Placed Waiting2
  drops_on p Placed Waiting Waiting2 u placed still only = record {
    starts = λ q s. either q (u.starts q s);
    sound = u.sound;
    awaited = λ q h. u.awaited q (only q h);
    onward = λ q r h step. either r (u.onward q r h step);
  }
    where
      waited : (q : ℕ) → Waiting2 q ⊎ (q ≡ p) → Placed q ⊎ Waiting2 q
      waited q c = elim c [ inl waits ↦ inr waits | inr e ↦ inl (subst Placed (sym e) placed) ]

      either : (q : ℕ) → Placed q ⊎ Waiting q → Placed q ⊎ Waiting2 q
      either q c = elim c [ inl old ↦ inl old | inr waits ↦ waited q (still q waits) ]

  -- once nothing waits, what is placed is exactly the least set
  pub placed-least : (Placed Waiting : ℕ → Type 0) → IsPlacing Placed Waiting → ((p : ℕ) → Waiting p → ⊥) → (p : ℕ) → Placed p ↔ Least Starts Step p
  placed-least Placed Waiting u none =
      set-least Placed (λ p s. settled p (u.starts p s)) (λ p q h step. settled q (u.onward p q h step)) u.sound
    where
      settled : (p : ℕ) → Placed p ⊎ Waiting p → Placed p
      settled p c = elim c [ inl placed ↦ placed | inr waits ↦ absurd (none p waits) ]
