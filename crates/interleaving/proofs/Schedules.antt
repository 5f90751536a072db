-- The law over schedules.
use Rattle.std.proofs.Common.{◌≡◌, ℕ, zero, suc, ◌<◌, ◌≤◌, Bool, true, false, cond, ◌⊎◌, inl, inr, List, [], ◌∷◌, ◌++◌, Option, Some, None, nat_lt, refl, sym, ap, ◌∙◌, subst, arith}
use Rattle.std.proofs.Math.Nat.{suc_inj}
use Rattle.interleaving.specs.Machine.{Answer, Move, HasReturned, IsStuck, Goes, Stands, Program, Effects, World, put, waits_after, gone, accessed, moved, step, first_world, Run, SomeStep, NoStep, AllReturned, Within, Ends}
use Rattle.interleaving.specs.Trace.{trace_of}
use Rattle.interleaving.specs.Keeps.{Keeps}
use Rattle.interleaving.specs.Simulation.{Comes, ComesTo}
use Rattle.interleaving.specs.Laws.{Suits, SameFinals}
use Rattle.interleaving.proofs.Keeping.{StandsBefore, IsCalm, comes_calm, keeps_goes, keeps_left_out, keeps_other_goes, keeps_both, keeps_access, keeps_return}
use Rattle.interleaving.proofs.Worlds.{put_one, put_both, put_here, IsFree, Steps, privately, by_access, step_view, step_moves, step_goes, step_stands, returned_stops, stopped, within_step, within_add, run_compose, some_or_all, one_for_all, below_or_at, sum_to, sum_put, lt_true, true_lt}

-- who waits after an access, where the same waited before it
same_waits : {A M : Type 0} (e f : Effects A M) (waits waits2 : ℕ → Bool) → ((i : ℕ) → f.group i ≡ e.group i) → f.count ≡ e.count → ((i : ℕ) → waits2 i ≡ waits i) → (i j : ℕ) → waits_after f waits2 i j ≡ waits_after e waits i j
same_waits e f waits waits2 g c h i j = λ z. waits_after (record e { count = c z; group = λ k. g k z }) (λ k. h k z) i j

same_waits_if : (b c : Bool) (f g h k : ℕ → Bool) (j : ℕ) → b ≡ c → f j ≡ g j → h j ≡ k j → (cond b f h) j ≡ (cond c g k) j
same_waits_if true true f g h k j e p q = p
same_waits_if true false f g h k j e p q = absurd (cc e)
same_waits_if false true f g h k j e p q = absurd (cc e)
same_waits_if false false f g h k j e p q = q

moves_by : {U A M : Type 0} (f : Effects A M) (q : Program U A) (Same : A → A → Type 0) (a : A) (v : World U M) (i : ℕ) → IsFree f q v i → (n : ℕ) (u : U) → Comes q.look n (v.state i) u → StandsBefore q.look Same a u → SomeStep f q v
moves_by f q Same a v i free zero u c there = (i, accessed f v i there.access there.next, step_stands f q v i there.access there.next free (ap q.look c ∙ there.stands))
moves_by f q Same a v i free (suc n) u c there = (i, gone v i c.0, step_goes f q v i c.0 free c.1)

-- what is next of a state that private steps lead to somewhere else
moves_on : {U A M : Type 0} (f : Effects A M) (q : Program U A) (Same : A → A → Type 0) (a : A) (v : World U M) (i : ℕ) → IsFree f q v i → ComesTo q.look (StandsBefore q.look Same a) (v.state i) → SomeStep f q v
moves_on f q Same a v i free c = moves_by f q Same a v i free c.count c.state c.by c.there

module _ {S U A M : Type 0} (e f : Effects A M) (p : Program S A) (q : Program U A) (left : A → Bool) (Same : A → A → Type 0) (Near : M → M → Type 0) (suits : Suits e f left Same Near) where
  -- WORLDS BESIDE EACH OTHER: the one relation that the law keeps.
  -- the memories are alike, the same invocations wait, and from here on each keeps its accesses
  pub record Beside (w : World S M) (v : World U M) : Type 0 where
    pub memory : Near w.memory v.memory
    pub waits : (i : ℕ) → v.waits i ≡ w.waits i
    pub states : (i : ℕ) → i < e.count → Keeps left Same (trace_of p.look (w.state i)) (trace_of q.look (v.state i))

  pub beside_first : ((i : ℕ) → i < e.count → Keeps left Same (trace_of p.look (p.first i)) (trace_of q.look (q.first i))) → Beside (first_world e p) (first_world f q)
  beside_first keeps = record { memory = suits.memory; waits = λ i. refl; states = keeps }

  -- who is free on one side is so on the other
  pub free_there : (w : World S M) (v : World U M) (i : ℕ) → Beside w v → IsFree e p w i → IsFree f q v i
  free_there w v i b h = record { there = subst (λ n. i < n) (sym suits.count) h.there; free = b.waits i ∙ h.free }

  pub free_here : (w : World S M) (v : World U M) (i : ℕ) → Beside w v → IsFree f q v i → IsFree e p w i
  free_here w v i b h = record { there = subst (λ n. i < n) suits.count h.there; free = sym (b.waits i) ∙ h.free }

  -- a private step of the first
  pub beside_goes : (w : World S M) (v : World U M) (i : ℕ) (s : S) → i < e.count → p.look (w.state i) ≡ Goes s → Beside w v → Beside (gone w i s) v
  beside_goes w v i s lt h b = record {
    memory = b.memory;
    waits = b.waits;
    states = λ j below. put_one (λ k x. Keeps left Same (trace_of p.look x) (trace_of q.look (v.state k))) w.state i j s
        (keeps_goes left Same p.look (w.state i) s (trace_of q.look (v.state i)) h (b.states i lt)) (b.states j below);
  }

  -- a private step of the second
  pub beside_other_goes : (w : World S M) (v : World U M) (i : ℕ) (u : U) → i < e.count → q.look (v.state i) ≡ Goes u → Beside w v → Beside w (gone v i u)
  beside_other_goes w v i u lt h b = record {
    memory = b.memory;
    waits = b.waits;
    states = λ j below. put_one (λ k x. Keeps left Same (trace_of p.look (w.state k)) (trace_of q.look x)) v.state i j u
        (keeps_other_goes left Same q.look (v.state i) u (trace_of p.look (w.state i)) h (b.states i lt)) (b.states j below);
  }

  -- an access of the first that is left out
  pub beside_left_out : (w : World S M) (v : World U M) (i : ℕ) (a : A) (k : Answer → S) → i < e.count → p.look (w.state i) ≡ Stands a k → left a ≡ true → Beside w v → Beside (accessed e w i a k) v
  beside_left_out w v i a k lt h out b = record {
    memory = subst (λ m. Near m v.memory) (sym (suits.left_out a w.memory out)) b.memory;
    waits = λ j. b.waits j ∙ ap (λ z. (cond z (waits_after e w.waits i) w.waits) j) (sym (suits.no_barrier a out));
    states = λ j below. put_one (λ k x. Keeps left Same (trace_of p.look x) (trace_of q.look (v.state k))) w.state i j (k (e.answer a w.memory))
        (keeps_left_out left Same p.look (w.state i) a k (trace_of q.look (v.state i)) h out (b.states i lt) (e.answer a w.memory)) (b.states j below);
  }

  -- an access of both
  pub beside_both : (w : World S M) (v : World U M) (i : ℕ) (a b : A) (k : Answer → S) (k2 : Answer → U) → i < e.count → p.look (w.state i) ≡ Stands a k → left a ≡ false → q.look (v.state i) ≡ Stands b k2 → Same a b
      → Beside w v → Beside (accessed e w i a k) (accessed f v i b k2)
  beside_both w v i a b k k2 lt h in_it g same c = record {
    memory = suits.after a b w.memory v.memory same c.memory;
    waits = λ j. same_waits_if (f.is_barrier b) (e.is_barrier a) (waits_after f v.waits i) (waits_after e w.waits i) v.waits w.waits j (suits.barrier a b same)
        (same_waits e f w.waits v.waits suits.group suits.count c.waits i j) (c.waits j);
    states = λ j below. put_both (λ x y. Keeps left Same (trace_of p.look x) (trace_of q.look y)) w.state v.state i j (k (e.answer a w.memory)) (k2 (f.answer b v.memory))
        (subst (λ x. Keeps left Same (trace_of p.look (k (e.answer a w.memory))) (trace_of q.look (k2 x))) (sym (suits.answer a b w.memory v.memory same c.memory))
        (keeps_both left Same p.look q.look (w.state i) (v.state i) a b k k2 h in_it g (c.states i lt) (e.answer a w.memory)))
        (c.states j below);
  }

  -- private steps lead invocation i of the second to where P holds; who has returned stays so
  pub record Came (w : World S M) (v : World U M) (i : ℕ) (P : U → Type 0) : Type 0 where
    pub schedule : List ℕ
    pub world : World U M
    pub run : Run f q schedule v world
    pub beside : Beside w world
    pub free : IsFree f q world i
    pub there : P (world.state i)
    pub still : (j : ℕ) → q.look (v.state j) ≡ HasReturned → q.look (world.state j) ≡ HasReturned

  still_returned : (v : World U M) (i j : ℕ) (u : U) → q.look (v.state i) ≡ Goes u → q.look (v.state j) ≡ HasReturned → q.look (put v.state i u j) ≡ HasReturned
  still_returned v i j u g = put_one (λ k x. q.look (v.state k) ≡ HasReturned → q.look x ≡ HasReturned) v.state i j u (λ h. absurd (cc (g, h))) (λ h. h)

  pub come : (n : ℕ) (w : World S M) (v : World U M) (i : ℕ) (u : U) (P : U → Type 0) → Beside w v → IsFree f q v i → Comes q.look n (v.state i) u → P u → Came w v i P
  come zero w v i u P b h c there = record { schedule = []; world = v; run = refl; beside = b; free = h; there = subst P (sym c) there; still = λ j g. g }
  come (suc n) w v i u P b h c there =
      let next : World U M = gone v i c.0 in
      let h2 : IsFree f q next i = record { there = h.there; free = h.free } in
      let lt : i < e.count = subst (λ n. i < n) suits.count h.there in
      let r = come n w next i u P (beside_other_goes w v i c.0 lt c.1 b) h2 (subst (λ x. Comes q.look n x u) (sym (put_here v.state i c.0)) c.2) there in
      record {
        schedule = i ∷ r.schedule;
        world = r.world;
        run = (next, step_goes f q v i c.0 h c.1, r.run);
        beside = r.beside;
        free = r.free;
        there = r.there;
        still = λ j g. r.still j (still_returned v i j c.0 c.1 g);
      }

  -- the second is run to where each invocation below n has returned, as in the first
  pub record Returning (w : World S M) (v : World U M) (n : ℕ) : Type 0 where
    pub schedule : List ℕ
    pub world : World U M
    pub run : Run f q schedule v world
    pub beside : Beside w world
    pub returned : (j : ℕ) → j < n → q.look (world.state j) ≡ HasReturned

  finish_next : (w : World S M) (v : World U M) (n : ℕ) → n < e.count → AllReturned e p w → Returning w v n → Returning w v (suc n)
  finish_next w v n lt all r =
      let free : IsFree f q r.world n = free_there w r.world n r.beside (record { there = lt; free = (all n lt).0 }) in
      let c = keeps_return left Same p.look q.look (w.state n) (r.world.state n) (all n lt).1 (r.beside.states n lt) in
      let d = come c.count w r.world n c.state (λ u. q.look u ≡ HasReturned) r.beside free c.by c.there in
      record {
        schedule = r.schedule ++ d.schedule;
        world = d.world;
        run = run_compose f q r.schedule d.schedule v r.world d.world r.run d.run;
        beside = d.beside;
        returned = λ j below. below_or_at (λ i. q.look (d.world.state i) ≡ HasReturned) n j (λ i lt2. d.still i (r.returned i lt2)) d.there below;
      }

  pub finish_below : (w : World S M) (v : World U M) (n : ℕ) → n ≤ e.count → AllReturned e p w → Beside w v → Returning w v n
  finish_below w v zero le all b = record { schedule = []; world = v; run = refl; beside = b; returned = λ j below. absurd (omega arith) }
  finish_below w v (suc n) le all b = finish_next w v n le all (finish_below w v n (omega arith) all b)

  pub all_returned_there : (w : World S M) (v : World U M) → AllReturned e p w → Beside w v → ((j : ℕ) → j < e.count → q.look (v.state j) ≡ HasReturned) → AllReturned f q v
  all_returned_there w v all b h i lt =
      let below : i < e.count = subst (λ n. i < n) suits.count lt in
      (b.waits i ∙ (all i below).0, h i below)

  abbrev KeepsHere : S → U → Type 0
  KeepsHere s u = Keeps left Same (trace_of p.look s) (trace_of q.look u)

  -- FORWARD. a run of the second to its end, with an alike memory
  pub record Reaches (v : World U M) (m : M) : Type 0 where
    pub schedule : List ℕ
    pub world : World U M
    pub run : Run f q schedule v world
    pub ends : NoStep f q world
    pub near : Near m world.memory

  reaches_after : (schedule : List ℕ) (v u : World U M) (m : M) → Run f q schedule v u → Reaches u m → Reaches v m
  reaches_after schedule v u m run r = record {
    schedule = schedule ++ r.schedule;
    world = r.world;
    run = run_compose f q schedule r.schedule v u r.world run r.run;
    ends = r.ends;
    near = r.near;
  }

  -- all of the first have returned: the second is run to its returns
  forward_end : (w : World S M) (v : World U M) → AllReturned e p w → Beside w v → Reaches v w.memory
  forward_end w v all c =
      let r = finish_below w v e.count (omega arith) all c in
      record {
        schedule = r.schedule;
        world = r.world;
        run = r.run;
        near = r.beside.memory;
        ends = returned_stops f q r.world (all_returned_there w r.world all r.beside r.returned);
      }

  -- an access of the first that is kept: the second comes to one like it and makes it
  record Followed (w2 : World S M) (v : World U M) : Type 0 where
    pub schedule : List ℕ
    pub world : World U M
    pub run : Run f q schedule v world
    pub beside : Beside w2 world

  follow : (w : World S M) (v : World U M) (i : ℕ) (a : A) (k : Answer → S) → IsFree e p w i → p.look (w.state i) ≡ Stands a k → left a ≡ false → Beside w v → Followed (accessed e w i a k) v
  follow w v i a k free h in_it c =
      let to = keeps_access left Same p.look q.look (w.state i) (v.state i) a k h in_it (c.states i free.there) in
      let came = come to.count w v i to.state (StandsBefore q.look Same a) c (free_there w v i c free) to.by to.there in
      let next : World U M = accessed f came.world i came.there.access came.there.next in
      record {
        schedule = came.schedule ++ (i ∷ []);
        world = next;
        run = run_compose f q came.schedule (i ∷ []) v came.world next came.run (next, step_stands f q came.world i came.there.access came.there.next came.free came.there.stands, refl);
        beside = beside_both w came.world i a came.there.access k came.there.next free.there h in_it came.there.stands came.there.same came.beside;
      }

  -- by induction on the run of the first
  abbrev Forward : List ℕ → Type 0
  Forward is = (n : ℕ) (w w2 : World S M) (v : World U M) → Within e p n w → Beside w v → Run e p is w w2 → NoStep e p w2 → Reaches v w2.memory

  forward_access : (is : List ℕ) (n : ℕ) (w w2 : World S M) (v : World U M) (i : ℕ) (a : A) (k : Answer → S) → Forward is → Within e p n (accessed e w i a k) → Beside w v → IsFree e p w i → p.look (w.state i) ≡ Stands a k
      → (z : Bool) → left a ≡ z → Run e p is (accessed e w i a k) w2 → NoStep e p w2 → Reaches v w2.memory
  forward_access is n w w2 v i a k ih within c free h true out run stop =
      ih n (accessed e w i a k) w2 v within (beside_left_out w v i a k free.there h out c) run stop
  forward_access is n w w2 v i a k ih within c free h false in_it run stop =
      let r = follow w v i a k free h in_it c in
      reaches_after r.schedule v r.world w2.memory r.run (ih n (accessed e w i a k) w2 r.world within r.beside run stop)

  forward_step : (is : List ℕ) (n : ℕ) (w u w2 : World S M) (v : World U M) (i : ℕ) → Forward is → Within e p n u → Beside w v → Steps e p w i u → Run e p is u w2 → NoStep e p w2 → Reaches v w2.memory
  forward_step is n w u w2 v i ih within c (privately lt free s h g) run stop =
      ih n (gone w i s) w2 v (subst (Within e p n) g within) (beside_goes w v i s lt h c) (subst (λ x. Run e p is x w2) g run) stop
  forward_step is n w u w2 v i ih within c (by_access lt free a k h g) run stop =
      forward_access is n w w2 v i a k ih (subst (Within e p n) g within) c (record { there = lt; free = free }) h (left a) refl (subst (λ x. Run e p is x w2) g run) stop

  pub forward : (is : List ℕ) → Forward is
  forward [] n w w2 v within c run stop =
      subst (λ x. Reaches v x.memory) run (forward_end w v (stopped e p n w within (subst (NoStep e p) (sym run) stop)) c)
  forward (i ∷ is) n w w2 v within c run stop =
      let r = within_step e p n w run.0 i within run.1 in
      forward_step is r.0 w run.0 w2 v i (forward is) r.2 c (step_view e p w i run.0 run.1) run.2 stop

  -- BACKWARD. invocation i of the first has returned, or stands before an access that is kept
  pub data IsReady (w : World S M) (i : ℕ) : Type 0 where
    at_return : p.look (w.state i) ≡ HasReturned → IsReady w i
    at_access : (a : A) (k : Answer → S) → p.look (w.state i) ≡ Stands a k → left a ≡ false → IsReady w i

  -- a step of the first of which the second sees nothing
  pub record Unseen (w : World S M) (v : World U M) (i : ℕ) : Type 0 where
    pub world : World S M
    pub steps : step e p w i ≡ Some world
    pub beside : Beside world v

  -- nobody is stuck where every schedule returns: what is stuck would stay so
  stuck_stays : (w u : World S M) (i j : ℕ) → p.look (w.state i) ≡ IsStuck → Steps e p w j u → p.look (u.state i) ≡ IsStuck
  stuck_stays w u i j h (privately lt free s g k) = subst (λ x. p.look (x.state i) ≡ IsStuck) (sym k) (put_one (λ m x. p.look (w.state m) ≡ IsStuck → p.look x ≡ IsStuck) w.state j i s (λ r. absurd (cc (g, r))) (λ r. r) h)
  stuck_stays w u i j h (by_access lt free a k g r) = subst (λ x. p.look (x.state i) ≡ IsStuck) (sym r) (put_one (λ m x. p.look (w.state m) ≡ IsStuck → p.look x ≡ IsStuck) w.state j i (k (e.answer a w.memory)) (λ s. absurd (cc (g, s))) (λ s. s) h)

  never_stuck : (n : ℕ) (w : World S M) (i : ℕ) → i < e.count → Within e p n w → p.look (w.state i) ≡ IsStuck → ⊥
  never_stuck zero w i lt within h = cc (h, (within i lt).1)
  never_stuck (suc n) w i lt (inl all) h = cc (h, (all i lt).1)
  never_stuck (suc n) w i lt (inr r) h = never_stuck n r.0.1 i lt (r.1 r.0.0 r.0.1 r.0.2) (stuck_stays w r.0.1 i r.0.0 h (step_view e p w r.0.0 r.0.1 r.0.2))

  ready_at_access : (w : World S M) (v : World U M) (i : ℕ) (a : A) (k : Answer → S) → Beside w v → IsFree e p w i → p.look (w.state i) ≡ Stands a k → (z : Bool) → left a ≡ z → Unseen w v i ⊎ IsReady w i
  ready_at_access w v i a k c free h true out = inl (record { world = accessed e w i a k; steps = step_stands e p w i a k free h; beside = beside_left_out w v i a k free.there h out c })
  ready_at_access w v i a k c free h false in_it = inr (at_access a k h in_it)

  unseen_or_ready_by : (n : ℕ) (w : World S M) (v : World U M) (i : ℕ) → Within e p n w → Beside w v → IsFree e p w i → (m : Move S A) → p.look (w.state i) ≡ m → Unseen w v i ⊎ IsReady w i
  unseen_or_ready_by n w v i within c free HasReturned h = inr (at_return h)
  unseen_or_ready_by n w v i within c free IsStuck h = absurd (never_stuck n w i free.there within h)
  unseen_or_ready_by n w v i within c free (Goes s) h = inl (record { world = gone w i s; steps = step_goes e p w i s free h; beside = beside_goes w v i s free.there h c })
  unseen_or_ready_by n w v i within c free (Stands a k) h = ready_at_access w v i a k c free h (left a) refl

  unseen_or_ready : (n : ℕ) (w : World S M) (v : World U M) (i : ℕ) → Within e p n w → Beside w v → IsFree e p w i → Unseen w v i ⊎ IsReady w i
  unseen_or_ready n w v i within c free = unseen_or_ready_by n w v i within c free (p.look (w.state i)) refl

  -- invocation i of the first, run alone until it is ready
  record Alone (w : World S M) (v : World U M) (i : ℕ) : Type 0 where
    pub schedule : List ℕ
    pub world : World S M
    pub run : Run e p schedule w world
    pub number : ℕ
    pub within : Within e p number world
    pub beside : Beside world v
    pub ready : IsReady world i

  alone_by : (n : ℕ) (w : World S M) (v : World U M) (i : ℕ) → Within e p n w → Beside w v → (Unseen w v i ⊎ IsReady w i) → ((m : ℕ) → suc m ≡ n → (u : World S M) → Within e p m u → Beside u v → Alone u v i) → Alone w v i
  alone_by n w v i within c (inr ready) ih = record { schedule = []; world = w; run = refl; number = n; within = within; beside = c; ready = ready }
  alone_by n w v i within c (inl h) ih =
      let r = within_step e p n w h.world i within h.steps in
      let a = ih r.0 r.1 h.world r.2 h.beside in
      record { schedule = i ∷ a.schedule; world = a.world; run = (h.world, h.steps, a.run); number = a.number; within = a.within; beside = a.beside; ready = a.ready }

  run_alone : (n : ℕ) (w : World S M) (v : World U M) (i : ℕ) → Within e p n w → Beside w v → IsFree f q v i → Alone w v i
  run_alone zero w v i within c free =
      alone_by zero w v i within c (unseen_or_ready zero w v i within c (free_here w v i c free)) (λ m r u. absurd (cc r))
  run_alone (suc n) w v i within c free =
      alone_by (suc n) w v i within c (unseen_or_ready (suc n) w v i within c (free_here w v i c free))
      (λ m r u within2 c2. run_alone n u v i (subst (λ z. Within e p z u) (suc_inj r) within2) c2 free)

  -- a ready invocation of the first whose second stands before an access stands before one like it
  record Matched (s : S) (a2 : A) : Type 0 where
    pub access : A
    pub next : Answer → S
    pub stands : p.look s ≡ Stands access next
    pub in_it : left access ≡ false
    pub same : Same access a2

  calm_stands : (u : U) (a : A) (k : Answer → U) → q.look u ≡ Stands a k → IsCalm (q.look u)
  calm_stands u a k h = subst IsCalm (sym h) tt

  same_access : (a a2 : A) (u v : U) (k : Answer → U) → q.look u ≡ Stands a2 k → u ≡ v → (there : StandsBefore q.look Same a v) → Same a a2
  same_access a a2 u v k h g there = let r : there.access ≡ a2 = cc (h, there.stands, g) in subst (Same a) r there.same

  matched : (w : World S M) (v : World U M) (i : ℕ) (a2 : A) (k2 : Answer → U) → KeepsHere (w.state i) (v.state i) → q.look (v.state i) ≡ Stands a2 k2 → IsReady w i → Matched (w.state i) a2
  matched w v i a2 k2 keeps h (at_return g) =
      let c = keeps_return left Same p.look q.look (w.state i) (v.state i) g keeps in
      let r : v.state i ≡ c.state = comes_calm q.look c.count (v.state i) c.state c.by (calm_stands (v.state i) a2 k2 h) in
      absurd (cc (h, c.there, r))
  matched w v i a2 k2 keeps h (at_access a k g in_it) =
      let c = keeps_access left Same p.look q.look (w.state i) (v.state i) a k g in_it keeps in
      let r : v.state i ≡ c.state = comes_calm q.look c.count (v.state i) c.state c.by (calm_stands (v.state i) a2 k2 h) in
      record { access = a; next = k; stands = g; in_it = in_it; same = same_access a a2 (v.state i) c.state k2 h r c.there }

  -- a run of the first to its end, with an alike memory
  pub record Begins (w : World S M) (m : M) : Type 0 where
    pub schedule : List ℕ
    pub world : World S M
    pub run : Run e p schedule w world
    pub ends : NoStep e p world
    pub near : Near world.memory m

  begins_after : (schedule : List ℕ) (w u : World S M) (m : M) → Run e p schedule w u → Begins u m → Begins w m
  begins_after schedule w u m run r = record {
    schedule = schedule ++ r.schedule;
    world = r.world;
    run = run_compose e p schedule r.schedule w u r.world run r.run;
    ends = r.ends;
    near = r.near;
  }

  -- the second cannot go on: the steps that the first still has are unseen
  unseen_access : (w : World S M) (v : World U M) (i : ℕ) (a : A) (k : Answer → S) → Beside w v → NoStep f q v → IsFree e p w i → p.look (w.state i) ≡ Stands a k → (z : Bool) → left a ≡ z → Beside (accessed e w i a k) v
  unseen_access w v i a k c stop free h true out = beside_left_out w v i a k free.there h out c
  unseen_access w v i a k c stop free h false in_it =
      let r = moves_on f q Same a v i (free_there w v i c free) (keeps_access left Same p.look q.look (w.state i) (v.state i) a k h in_it (c.states i free.there)) in
      absurd (cc (r.2, stop r.0))

  unseen_step : (w u : World S M) (v : World U M) (i : ℕ) → Beside w v → NoStep f q v → Steps e p w i u → Beside u v
  unseen_step w u v i c stop (privately lt free s h g) = subst (λ x. Beside x v) (sym g) (beside_goes w v i s lt h c)
  unseen_step w u v i c stop (by_access lt free a k h g) = subst (λ x. Beside x v) (sym g) (unseen_access w v i a k c stop (record { there = lt; free = free }) h (left a) refl)

  begins_here : (w : World S M) (v : World U M) → AllReturned e p w → Beside w v → Begins w v.memory
  begins_here w v all c = record { schedule = []; world = w; run = refl; ends = returned_stops e p w all; near = c.memory }

  -- by induction on the number of the first
  wind_up : (n : ℕ) (w : World S M) (v : World U M) → Within e p n w → Beside w v → NoStep f q v → Begins w v.memory
  wind_up zero w v within c stop = begins_here w v within c
  wind_up (suc n) w v (inl all) c stop = begins_here w v all c
  wind_up (suc n) w v (inr r) c stop =
      let u : World S M = r.0.1 in
      begins_after (r.0.0 ∷ []) w u v.memory (u, r.0.2, refl) (wind_up n u v (r.1 r.0.0 u r.0.2) (unseen_step w u v r.0.0 c stop (step_view e p w r.0.0 u r.0.2)) stop)

  -- by induction on the run of the second
  abbrev Backward : List ℕ → Type 0
  Backward is = (n : ℕ) (w : World S M) (v v2 : World U M) → Within e p n w → Beside w v → Run f q is v v2 → NoStep f q v2 → Begins w v2.memory

  backward_access : (is : List ℕ) (n : ℕ) (w : World S M) (v v2 : World U M) (i : ℕ) (a2 : A) (k2 : Answer → U) → Backward is → Within e p n w → Beside w v → IsFree f q v i → q.look (v.state i) ≡ Stands a2 k2
      → Run f q is (accessed f v i a2 k2) v2 → NoStep f q v2 → Begins w v2.memory
  backward_access is n w v v2 i a2 k2 ih within c free h run stop =
      let r = run_alone n w v i within c free in
      let free2 = free_here r.world v i r.beside free in
      let m = matched r.world v i a2 k2 (r.beside.states i free2.there) h r.ready in
      let u : World S M = accessed e r.world i m.access m.next in
      let s = step_stands e p r.world i m.access m.next free2 m.stands in
      let rest = within_step e p r.number r.world u i r.within s in
      begins_after r.schedule w r.world v2.memory r.run
      (begins_after (i ∷ []) r.world u v2.memory (u, s, refl)
      (ih rest.0 u (accessed f v i a2 k2) v2 rest.2 (beside_both r.world v i m.access a2 m.next k2 free2.there m.stands m.in_it h m.same r.beside) run stop))

  backward_step : (is : List ℕ) (n : ℕ) (w : World S M) (v u v2 : World U M) (i : ℕ) → Backward is → Within e p n w → Beside w v → Steps f q v i u → Run f q is u v2 → NoStep f q v2 → Begins w v2.memory
  backward_step is n w v u v2 i ih within c (privately lt free s h g) run stop =
      ih n w (gone v i s) v2 within (beside_other_goes w v i s (subst (λ m. i < m) suits.count lt) h c) (subst (λ x. Run f q is x v2) g run) stop
  backward_step is n w v u v2 i ih within c (by_access lt free a k h g) run stop =
      backward_access is n w v v2 i a k ih within c (record { there = lt; free = free }) h (subst (λ x. Run f q is x v2) g run) stop

  pub backward : (is : List ℕ) → Backward is
  backward [] n w v v2 within c run stop = subst (λ x. Begins w x.memory) run (wind_up n w v within c (subst (NoStep f q) (sym run) stop))
  backward (i ∷ is) n w v v2 within c run stop =
      backward_step is n w v run.0 v2 i (backward is) within c (step_view f q v i run.0 run.1) run.2 stop

  -- ENDS. a number within which the second returns
  abbrev Bounded : World U M → Type 0
  Bounded v = (n : ℕ) × Within f q n v

  -- it is enough to have one behind each step, since invocations are finitely many
  abbrev Bound : World U M → ℕ → ℕ → Type 0
  Bound v i n = (u : World U M) → step f q v i ≡ Some u → Within f q n u

  bound_step : (v : World U M) (i : ℕ) (o : Option (World U M)) → step f q v i ≡ o → ((u : World U M) → step f q v i ≡ Some u → Bounded u) → (n : ℕ) × Bound v i n
  bound_step v i None h g = (zero, λ u r. absurd (cc (h, r)))
  bound_step v i (Some u) h g = let r = g u h in (r.0, λ x s. let same : u ≡ x = cc (h, s) in subst (Within f q r.0) same r.1)

  step_there : (v u : World U M) (i : ℕ) → Steps f q v i u → i < f.count
  step_there v u i (privately lt free s h g) = lt
  step_there v u i (by_access lt free a k h g) = lt

  bounded : (v : World U M) → (AllReturned f q v ⊎ SomeStep f q v) → ((i : ℕ) (u : World U M) → step f q v i ≡ Some u → Bounded u) → Bounded v
  bounded v (inl all) h = (zero, all)
  bounded v (inr some) h =
      let r = one_for_all (Bound v) (λ i k m g u s. within_add f q k m u (g u s)) f.count (λ i lt. bound_step v i (step f q v i) refl (h i)) in
      (suc r.0, inr (some, λ i u s. r.1 i (step_there v u i (step_view f q v i u s)) u s))

  -- the second has a step or has returned, where the first is ready throughout
  abbrev AllReady : World S M → Type 0
  AllReady w = (i : ℕ) → i < e.count → w.waits i ≡ false → IsReady w i

  returned_or_goes : (v : World U M) (i : ℕ) (n : ℕ) (u : U) → IsFree f q v i → Comes q.look n (v.state i) u → q.look u ≡ HasReturned → SomeStep f q v ⊎ (q.look (v.state i) ≡ HasReturned)
  returned_or_goes v i zero u free c h = inr (ap q.look c ∙ h)
  returned_or_goes v i (suc n) u free c h = inl (i, gone v i c.0, step_goes f q v i c.0 free c.1)

  progress_found : (w : World S M) (v : World U M) → AllReturned e p w → Beside w v → (((i : ℕ) × (i < e.count) × SomeStep f q v) ⊎ ((i : ℕ) → i < e.count → q.look (v.state i) ≡ HasReturned)) → AllReturned f q v ⊎ SomeStep f q v
  progress_found w v all c (inl r) = inr r.2
  progress_found w v all c (inr r) = inl (all_returned_there w v all c r)

  progress_returned : (w : World S M) (v : World U M) → AllReturned e p w → Beside w v → AllReturned f q v ⊎ SomeStep f q v
  progress_returned w v all c =
      progress_found w v all c (some_or_all (λ i. SomeStep f q v) (λ i. q.look (v.state i) ≡ HasReturned) e.count (λ i lt.
      let to = keeps_return left Same p.look q.look (w.state i) (v.state i) (all i lt).1 (c.states i lt) in
      returned_or_goes v i to.count to.state (free_there w v i c (record { there = lt; free = (all i lt).0 })) to.by to.there))

  progress_ready : (w u : World S M) (v : World U M) (i : ℕ) → Beside w v → step e p w i ≡ Some u → IsFree e p w i → IsReady w i → SomeStep f q v
  progress_ready w u v i c s free (at_return h) = absurd (cc (s, step_moves e p w i free, ap (moved e w i) h))
  progress_ready w u v i c s free (at_access a k h in_it) =
      moves_on f q Same a v i (free_there w v i c free) (keeps_access left Same p.look q.look (w.state i) (v.state i) a k h in_it (c.states i free.there))

  free_step : (w u : World S M) (i : ℕ) → Steps e p w i u → IsFree e p w i
  free_step w u i (privately lt free s h g) = record { there = lt; free = free }
  free_step w u i (by_access lt free a k h g) = record { there = lt; free = free }

  progress : (n : ℕ) (w : World S M) (v : World U M) → Within e p n w → AllReady w → Beside w v → AllReturned f q v ⊎ SomeStep f q v
  progress zero w v within ready c = progress_returned w v within c
  progress (suc n) w v (inl all) ready c = progress_returned w v all c
  progress (suc n) w v (inr r) ready c =
      let free = free_step w r.0.1 r.0.0 (step_view e p w r.0.0 r.0.1 r.0.2) in
      inr (progress_ready w r.0.1 v r.0.0 c r.0.2 free (ready r.0.0 free.there free.free))

  -- a number of private steps after which a state takes none
  abbrev Settles : U → ℕ → Type 0
  Settles u n = (v : U) × Comes q.look n u v × IsCalm (q.look v)

  abbrev AllSettle : World S M → World U M → (ℕ → ℕ) → Type 0
  AllSettle w v c = (i : ℕ) → i < e.count → w.waits i ≡ false → Settles (v.state i) (c i)

  settles_ready : (w : World S M) (v : World U M) (i : ℕ) → KeepsHere (w.state i) (v.state i) → IsReady w i → (n : ℕ) × Settles (v.state i) n
  settles_ready w v i keeps (at_return h) =
      let c = keeps_return left Same p.look q.look (w.state i) (v.state i) h keeps in
      (c.count, (c.state, c.by, subst IsCalm (sym c.there) tt))
  settles_ready w v i keeps (at_access a k h in_it) =
      let c = keeps_access left Same p.look q.look (w.state i) (v.state i) a k h in_it keeps in
      (c.count, (c.state, c.by, subst IsCalm (sym c.there.stands) tt))

  settle_by : (w : World S M) (v : World U M) (i : ℕ) → Beside w v → AllReady w → (y z : Bool) → nat_lt i e.count ≡ y → w.waits i ≡ z → (n : ℕ) × (i < e.count → w.waits i ≡ false → Settles (v.state i) n)
  settle_by w v i c ready true false h g =
      let lt = lt_true i e.count h in
      let r = settles_ready w v i (c.states i lt) (ready i lt g) in
      (r.0, λ lt2 g2. r.1)
  settle_by w v i c ready true true h g = (zero, λ lt2 g2. absurd (cc (g, g2)))
  settle_by w v i c ready false z h g = (zero, λ lt2 g2. absurd (cc (h, true_lt i e.count lt2)))

  settles_after : (u w : U) (n : ℕ) → q.look u ≡ Goes w → Settles u n → (m : ℕ) × (n ≡ suc m) × Settles w m
  settles_after u w zero h s = absurd (subst IsCalm (ap q.look (sym s.1) ∙ h) s.2)
  settles_after u w (suc n) h s =
      let r : s.1.0 ≡ w = cc (h, s.1.1) in
      (n, refl, (s.0, subst (λ x. Comes q.look n x s.0) r s.1.2, s.2))

  -- while the first stays where it is, by induction on the sum of private steps up to each invocation's next access
  abbrev Outer : World S M → Type 0
  Outer w = (i : ℕ) (u : World S M) (v : World U M) → step e p w i ≡ Some u → Beside u v → Bounded v

  inner_access : (w : World S M) (v : World U M) (i : ℕ) (a2 : A) (k2 : Answer → U) → Outer w → AllReady w → Beside w v → IsFree f q v i → q.look (v.state i) ≡ Stands a2 k2 → Bounded (accessed f v i a2 k2)
  inner_access w v i a2 k2 outer ready c free h =
      let free2 = free_here w v i c free in
      let m = matched w v i a2 k2 (c.states i free2.there) h (ready i free2.there free2.free) in
      outer i (accessed e w i m.access m.next) (accessed f v i a2 k2) (step_stands e p w i m.access m.next free2 m.stands)
      (beside_both w v i m.access a2 m.next k2 free2.there m.stands m.in_it h m.same c)

  abbrev Inner : World S M → ℕ → Type 0
  Inner w total = (v : World U M) (c : ℕ → ℕ) → Beside w v → AllSettle w v c → sum_to c e.count ≡ total → Bounded v

  inner_goes : (total : ℕ) (w : World S M) (v : World U M) (c : ℕ → ℕ) (i : ℕ) (s : U) → ((m : ℕ) → suc m ≡ total → Inner w m) → Beside w v → AllSettle w v c → sum_to c e.count ≡ total → IsFree f q v i → q.look (v.state i) ≡ Goes s → Bounded (gone v i s)
  inner_goes total w v c i s ih d settle h free g =
      let free2 = free_here w v i d free in
      let r = settles_after (v.state i) s (c i) g (settle i free2.there free2.free) in
      ih (sum_to (put c i r.0) e.count) (sum_put c i r.0 e.count free2.there r.1 ∙ h) (gone v i s) (put c i r.0)
      (beside_other_goes w v i s free2.there g d)
      (λ j lt wait. put_both Settles v.state c i j s r.0 r.2 (settle j lt wait))
      refl

  inner_step : (total : ℕ) (w : World S M) (v u : World U M) (c : ℕ → ℕ) (i : ℕ) → ((m : ℕ) → suc m ≡ total → Inner w m) → Outer w → AllReady w → Beside w v → AllSettle w v c → sum_to c e.count ≡ total → Steps f q v i u → Bounded u
  inner_step total w v u c i ih outer ready d settle h (privately lt free s g r) =
      subst Bounded (sym r) (inner_goes total w v c i s ih d settle h (record { there = lt; free = free }) g)
  inner_step total w v u c i ih outer ready d settle h (by_access lt free a k g r) =
      subst Bounded (sym r) (inner_access w v i a k outer ready d (record { there = lt; free = free }) g)

  inner : (n : ℕ) (w : World S M) → Within e p n w → Outer w → AllReady w → (total : ℕ) → Inner w total
  inner n w within outer ready zero v c d settle h =
      bounded v (progress n w v within ready d) (λ i u s. inner_step zero w v u c i (λ m r. absurd (cc r)) outer ready d settle h (step_view f q v i u s))
  inner n w within outer ready (suc total) v c d settle h =
      bounded v (progress n w v within ready d) (λ i u s. inner_step (suc total) w v u c i (λ m r. subst (Inner w) (sym (suc_inj r)) (inner n w within outer ready total)) outer ready d settle h (step_view f q v i u s))

  -- by induction on the number of the first: an unseen step of it is taken at once
  unseen_or_waits : (n : ℕ) (w : World S M) (v : World U M) (i : ℕ) → Within e p n w → Beside w v → i < e.count → (z : Bool) → w.waits i ≡ z → Unseen w v i ⊎ (w.waits i ≡ false → IsReady w i)
  unseen_or_waits n w v i within c lt true h = inr (λ g. absurd (cc (h, g)))
  unseen_or_waits n w v i within c lt false h = elim (unseen_or_ready n w v i within c (record { there = lt; free = h })) [ inl r ↦ inl r | inr r ↦ inr (λ g. r) ]

  ends_by : (n : ℕ) (w : World S M) (v : World U M) → Within e p n w → Beside w v → ((m : ℕ) → suc m ≡ n → (u : World S M) (x : World U M) → Within e p m u → Beside u x → Bounded x)
      → (((i : ℕ) × (i < e.count) × Unseen w v i) ⊎ AllReady w) → Bounded v
  ends_by n w v within c ih (inl r) =
      let s = within_step e p n w r.2.world r.0 within r.2.steps in
      ih s.0 s.1 r.2.world v s.2 r.2.beside
  ends_by n w v within c ih (inr ready) =
      let count : ℕ → ℕ = λ i. (settle_by w v i c ready (nat_lt i e.count) (w.waits i) refl refl).0 in
      inner n w within (λ i u x s d. let r = within_step e p n w u i within s in ih r.0 r.1 u x r.2 d) ready (sum_to count e.count) v count c
      (λ i lt g. (settle_by w v i c ready (nat_lt i e.count) (w.waits i) refl refl).1 lt g) refl

  pub ends_from : (n : ℕ) (w : World S M) (v : World U M) → Within e p n w → Beside w v → Bounded v
  ends_from zero w v within c =
      ends_by zero w v within c (λ m r. absurd (cc r)) (some_or_all (Unseen w v) (λ i. w.waits i ≡ false → IsReady w i) e.count (λ i lt. unseen_or_waits zero w v i within c lt (w.waits i) refl))
  ends_from (suc n) w v within c =
      ends_by (suc n) w v within c (λ m r u x within2 d. ends_from n u x (subst (λ z. Within e p z u) (suc_inj r) within2) d)
      (some_or_all (Unseen w v) (λ i. w.waits i ≡ false → IsReady w i) e.count (λ i lt. unseen_or_waits (suc n) w v i within c lt (w.waits i) refl))

  -- the law
  pub schedules : ((i : ℕ) → i < e.count → KeepsHere (p.first i) (q.first i)) → Ends e p → SameFinals e p f q Near
  schedules keeps ends =
      let start = beside_first keeps in
      record {
        ends = ends_from ends.0 (first_world e p) (first_world f q) ends.1 start;
        there = λ m final.
            let r = forward final.0 ends.0 (first_world e p) final.1 (first_world f q) ends.1 start final.2 final.3 in
            (r.world.memory, (r.schedule, r.world, r.run, r.ends, refl), subst (λ z. Near z r.world.memory) final.4 r.near);
        back = λ n final.
            let r = backward final.0 ends.0 (first_world e p) (first_world f q) final.1 ends.1 start final.2 final.3 in
            (r.world.memory, (r.schedule, r.world, r.run, r.ends, refl), subst (λ z. Near r.world.memory z) final.4 r.near);
      }
