-- Asynchronous machines: invocations in workgroups take private steps and make accesses to one shared memory.
use Rattle.std.specs.Prelude.{◌≡◌, ℕ, zero, suc, ◌<◌, Bool, true, false, cond, not, ◌&&◌, ◌||◌, ◌⊎◌, List, [], ◌∷◌, Option, Some, None, ◌==◌, nat_lt}

-- the words that answer an access
abbrev pub Answer : Type 0
Answer = List ℕ

-- what a state does next: nothing, for it has returned or is stuck; a private step; or an access, from whose answer it goes on
pub data Move (S A : Type 0) : Type 0 where
  HasReturned : Move S A
  IsStuck : Move S A
  Goes : S → Move S A
  Stands : A → (Answer → S) → Move S A

-- the state in which each invocation starts, and what a state does next
pub record Program (S A : Type 0) : Type 0 where
  pub first : ℕ → S
  pub look : S → Move S A

-- how many invocations there are, the workgroup of each, the shared memory at first, what an access does to it and answers, and which accesses are control barriers
pub record Effects (A M : Type 0) : Type 0 where
  pub count : ℕ
  pub group : ℕ → ℕ
  pub memory : M
  pub after : A → M → M
  pub answer : A → M → Answer
  pub is_barrier : A → Bool

-- the shared memory, the state of each invocation, and which of them wait at a barrier
pub record World (S M : Type 0) : Type 0 where
  pub memory : M
  pub state : ℕ → S
  pub waits : ℕ → Bool

-- f, but x at i
abbrev pub put : {X : Type 0} → (ℕ → X) → ℕ → X → ℕ → X
put f i x = λ j. cond (j == i) x (f j)

-- each of the first n invocations that is of the workgroup g waits
abbrev pub all_wait : (ℕ → ℕ) → (ℕ → Bool) → ℕ → ℕ → Bool
all_wait group waits g zero = true
all_wait group waits g (suc n) = (not (group n == g) || waits n) && all_wait group waits g n

-- who waits once invocation i has come to a barrier: it too, but nobody of its workgroup where all of that would
abbrev pub waits_after : {A M : Type 0} → Effects A M → (ℕ → Bool) → ℕ → ℕ → Bool
waits_after e waits i =
    let waiting = put waits i true in
    cond (all_wait e.group waiting (e.group i) e.count) (λ j. not (e.group j == e.group i) && waits j) waiting

-- the world after a private step of invocation i to the state s
abbrev pub gone : {S M : Type 0} → World S M → ℕ → S → World S M
gone w i s = record { memory = w.memory; state = put w.state i s; waits = w.waits }

-- the world after the access a of invocation i, which goes on by k
abbrev pub accessed : {S A M : Type 0} → Effects A M → World S M → ℕ → A → (Answer → S) → World S M
accessed e w i a k = record {
  memory = e.after a w.memory;
  state = put w.state i (k (e.answer a w.memory));
  waits = cond (e.is_barrier a) (waits_after e w.waits i) w.waits;
}

-- the world after this move of invocation i, if it is a step
abbrev pub moved : {S A M : Type 0} → Effects A M → World S M → ℕ → Move S A → Option (World S M)
moved e w i HasReturned = None
moved e w i IsStuck = None
moved e w i (Goes s) = Some (gone w i s)
moved e w i (Stands a k) = Some (accessed e w i a k)

-- one step of invocation i: it has one where it does not wait and its state goes on
abbrev pub step : {S A M : Type 0} → Effects A M → Program S A → World S M → ℕ → Option (World S M)
step e p w i = cond (nat_lt i e.count && not (w.waits i)) (moved e w i (p.look (w.state i))) None

-- the world in which all begins
abbrev pub first_world : {S A M : Type 0} → Effects A M → Program S A → World S M
first_world e p = record { memory = e.memory; state = p.first; waits = λ i. false }

-- the steps of these invocations, one after another, lead from the world w to the world v
abbrev pub Run : {S A M : Type 0} → Effects A M → Program S A → List ℕ → World S M → World S M → Type 0
Run e p [] w v = w ≡ v
Run {S} {A} {M} e p (i ∷ is) w v = (u : World S M) × (step e p w i ≡ Some u) × Run e p is u v

-- some invocation has a step
abbrev pub SomeStep : {S A M : Type 0} → Effects A M → Program S A → World S M → Type 0
SomeStep {S} {A} {M} e p w = (i : ℕ) × (u : World S M) × (step e p w i ≡ Some u)

-- no invocation has a step
abbrev pub NoStep : {S A M : Type 0} → Effects A M → Program S A → World S M → Type 0
NoStep e p w = (i : ℕ) → step e p w i ≡ None

-- each invocation has returned, and none waits
abbrev pub AllReturned : {S A M : Type 0} → Effects A M → Program S A → World S M → Type 0
AllReturned e p w = (i : ℕ) → i < e.count → (w.waits i ≡ false) × (p.look (w.state i) ≡ HasReturned)

-- from the world w every schedule returns within n steps
abbrev pub Within : {S A M : Type 0} → Effects A M → Program S A → ℕ → World S M → Type 0
Within e p zero w = AllReturned e p w
Within {S} {A} {M} e p (suc n) w =
    AllReturned e p w
    ⊎ (SomeStep e p w × ((i : ℕ) (u : World S M) → step e p w i ≡ Some u → Within e p n u))

-- every schedule returns, within one number of steps
abbrev pub Ends : {S A M : Type 0} → Effects A M → Program S A → Type 0
Ends e p = (n : ℕ) × Within e p n (first_world e p)

-- some run that cannot go on leaves the memory m
abbrev pub Finals : {S A M : Type 0} → Effects A M → Program S A → M → Type 0
Finals {S} {A} {M} e p m =
    (schedule : List ℕ) × (w : World S M) × Run e p schedule (first_world e p) w × NoStep e p w × (w.memory ≡ m)
